-- The three demands, said of the calls: of every answer, and every content of what is lent, that keeps a call's promise. Statements
-- only; their proofs are in `proofs/Demands.antt`.
-- Assumes nothing.
use Rattle.std.specs.Prelude.{ℕ, ◌≤◌, ◌<◌, ◌≡◌, Bool, true, false, List, Result, Ok, Err, eqb, length, take}
use Rattle.error.specs.Causes.{records_full, texts_full, output_full}
use Rattle.error.specs.Lines.{refusal_at}
use Rattle.tree.specs.Syntax.{GrammarDeclaration}
use Rattle.tree.specs.Stored.{grammar_words, grammar_texts}
use Rattle.tree.specs.Records.{Branch}
use Rattle.tree.specs.Equality.{agree}
use Rattle.trees.specs.IsTree.{IsTree}
use Rattle.spelling.specs.NormalText.{normal_text}
use Rattle.writer.specs.Promise.{too_long}
use Rattle.grammar.specs.Reading.{tree, stopped, reading, longest}
use Rattle.grammar.specs.Calls as Calls
use Rattle.basics.specs.Basics.{over}
use Rattle.error.specs.Promise.{refusal_of}
use Rattle.calls.specs.Promise.{MeasureTo, read_answer, read_outcome, ReadTo, Few, normal_answer, normal_outcome, NormalTo, compare_answer, CompareTo}
use Rattle.error.specs.declared.Refusal.{Refusal}
use Rattle.calls.specs.Refusals.{MeasureRefuses, ReadRefuses, NormalTextRefuses, StructurallyEqRefuses}
use Rattle.reader.specs.declared.blocks.Extent.{Extent}

-- what a text is read as
abbrev Tree : Type 0
Tree = GrammarDeclaration ℕ

-- ------------------------------------------------------------------ 1. whatever is handed in, the answer and every lent word are settled

-- Two runs of `read` on the same arguments come to the same, and what is lent keeps its length.
abbrev pub ReadIsSettled : Type 0
ReadIsSettled =
    (s ws ts : List ℕ) (r q : Result Extent Refusal) (vs us xs ys : List ℕ) → ReadTo s ws ts r vs us → ReadTo s ws ts q xs ys
    → (read_outcome r vs us ≡ read_outcome q xs ys) × (length vs ≡ length ws) × (length us ≡ length ts)

-- So do two of `normal_text`.
abbrev pub NormalTextIsSettled : Type 0
NormalTextIsSettled =
    (s ws ts out : List ℕ) (r q : Result ℕ Refusal) (vs us new xs ys other : List ℕ) → NormalTo s ws ts out r vs us new → NormalTo s ws ts out q xs ys other
    → (normal_outcome r vs us new ≡ normal_outcome q xs ys other) × (length vs ≡ length ws) × (length us ≡ length ts) × (length new ≡ length out)

-- Two runs of `measure` on the same text answer the same.
abbrev pub MeasureIsSettled : Type 0
MeasureIsSettled = (s : List ℕ) (r q : Result Extent Refusal) → MeasureTo s r → MeasureTo s q → read_answer r ≡ read_answer q

-- Two runs of `structurally_eq` on the same arguments answer the same.
abbrev pub StructurallyEqIsSettled : Type 0
StructurallyEqIsSettled =
    (ls lts rs rts : List ℕ) (r q : Result Bool Refusal) → CompareTo ls lts rs rts r → CompareTo ls lts rs rts q → compare_answer r ≡ compare_answer q

-- What `read` has stored is one tree with the record of a grammar as its root: the words that it answers, with the texts, whatever stands behind.
abbrev pub ReadStoresATree : Type 0
ReadStoresATree =
    (s ws ts : List ℕ) (e : Extent) (vs us : List ℕ) → ReadTo s ws ts (Ok e) vs us → (b : Branch) × IsTree (λ k. eqb k 1) (take e.words vs) us b

-- ------------------------------------------------------------------ 2. `read` answers with the definition's tree, or with its refusal

-- a refusal by a cause at a place, which leaves all as it was
abbrev pub RefusedAs : (cause place : ℕ) → (text records texts : List ℕ) → Result Extent Refusal → (records_after texts_after : List ℕ) → Type 0
RefusedAs n p s ws ts r vs us = (read_answer r ≡ Calls.ReadAnswer.refused (refusal_at s n p)) × (vs ≡ ws) × (us ≡ ts)

-- the tree is stored, and its sizes are answered
abbrev pub StoredAs : Tree → (records texts : List ℕ) → Result Extent Refusal → (records_after texts_after : List ℕ) → Type 0
StoredAs g ws ts r vs us =
    (read_answer r ≡ Calls.ReadAnswer.stored (length (grammar_words g)) (length (grammar_texts g))) × (vs ≡ over (grammar_words g) ws) × (us ≡ over (grammar_texts g) ts)

-- A text that the definition refuses is refused so. Of one that it accepts the tree is stored where there is room; else there is 22 or 23.
pub record Answers (s ws ts : List ℕ) (r : Result Extent Refusal) (vs us : List ℕ) : Type 0 where
  pub refuses : (n p : ℕ) → reading s ≡ stopped n p → RefusedAs n p s ws ts r vs us
  pub stores : (g : Tree) → reading s ≡ tree g → length (grammar_words g) ≤ length ws → length (grammar_texts g) ≤ length ts → StoredAs g ws ts r vs us
  pub no_words : (g : Tree) → reading s ≡ tree g → length ws < length (grammar_words g) → RefusedAs records_full 0 s ws ts r vs us
  pub no_bytes : (g : Tree) → reading s ≡ tree g → length (grammar_words g) ≤ length ws → length ts < length (grammar_texts g) → RefusedAs texts_full 0 s ws ts r vs us

-- Every answer of `read` is so.
abbrev pub ReadAnswersAsDefined : Type 0
ReadAnswersAsDefined = (s ws ts : List ℕ) (r : Result Extent Refusal) (vs us : List ℕ) → ReadTo s ws ts r vs us → Answers s ws ts r vs us

-- what `read` answers where `measure` answers so: the same sizes where that much is lent, or the same refusal whatever is lent
abbrev pub AsMeasured : Result Extent Refusal → (words bytes : ℕ) → Result Extent Refusal → Type 0
AsMeasured (Ok e) words bytes r = e.words ≤ words → e.bytes ≤ bytes → r ≡ Ok e
AsMeasured (Err f) words bytes r = read_answer r ≡ Calls.ReadAnswer.refused (refusal_of f)

-- `measure` says what `read` will.
abbrev pub MeasureTellsWhatReadWill : Type 0
MeasureTellsWhatReadWill =
    (s ws ts : List ℕ) (m r : Result Extent Refusal) (vs us : List ℕ) → MeasureTo s m → ReadTo s ws ts r vs us → AsMeasured m (length ws) (length ts) r

-- With four records lent for each byte of the text and the grammar's own, and six bytes for each, want of room stops nothing: `read` and
-- `normal_text` come to what the reading of the text gives. That a tree takes no more (`Few`) is a clause of both calls.
abbrev pub RoomIsEnough : Type 0
RoomIsEnough =
    (s ws ts : List ℕ) → Few s → Calls.words_enough (length s) ≤ length ws → Calls.bytes_enough (length s) ≤ length ts
    → (Calls.read s ws ts ≡ Calls.read_by s ws ts (reading s)) × ((out : List ℕ) → Calls.normal s ws ts out ≡ Calls.normal_by s ws ts out (reading s))

-- `normal_text` refuses by a cause at a place, and leaves all as it was
abbrev pub UnwrittenAs : (cause place : ℕ) → (text records texts output : List ℕ) → Result ℕ Refusal → (records_after texts_after output_after : List ℕ) → Type 0
UnwrittenAs n p s ws ts out r vs us new = (normal_answer r ≡ Calls.NormalAnswer.refused (refusal_at s n p)) × (vs ≡ ws) × (us ≡ ts) × (new ≡ out)

-- the normal text is written over the output, its length is answered, and the tree is stored
abbrev pub WrittenAs : Tree → (records texts output : List ℕ) → Result ℕ Refusal → (records_after texts_after output_after : List ℕ) → Type 0
WrittenAs g ws ts out r vs us new =
    (r ≡ Ok (length (normal_text g))) × (vs ≡ over (grammar_words g) ws) × (us ≡ over (grammar_texts g) ts) × (new ≡ over (normal_text g) out)

-- 24 at place 0: the output is as it was, and the tree is stored
abbrev pub TooLongAs : Tree → (text records texts output : List ℕ) → Result ℕ Refusal → (records_after texts_after output_after : List ℕ) → Type 0
TooLongAs g s ws ts out r vs us new =
    (normal_answer r ≡ Calls.NormalAnswer.refused (refusal_at s output_full 0)) × (vs ≡ over (grammar_words g) ws) × (us ≡ over (grammar_texts g) ts) × (new ≡ out)

-- `normal_text` refuses as `read` does, and then its output is as it was. Of an accepted text it writes the normal text; or there is 24 where
-- that is too long, and records and texts hold the tree.
pub record Writes (s ws ts out : List ℕ) (r : Result ℕ Refusal) (vs us new : List ℕ) : Type 0 where
  pub refuses : (n p : ℕ) → reading s ≡ stopped n p → UnwrittenAs n p s ws ts out r vs us new
  pub no_words : (g : Tree) → reading s ≡ tree g → length ws < length (grammar_words g) → UnwrittenAs records_full 0 s ws ts out r vs us new
  pub no_bytes : (g : Tree) → reading s ≡ tree g → length (grammar_words g) ≤ length ws → length ts < length (grammar_texts g) → UnwrittenAs texts_full 0 s ws ts out r vs us new
  pub writes : (g : Tree) → reading s ≡ tree g → length (grammar_words g) ≤ length ws → length (grammar_texts g) ≤ length ts
      → too_long longest (normal_text g) out ≡ false → WrittenAs g ws ts out r vs us new
  pub too_long_for : (g : Tree) → reading s ≡ tree g → length (grammar_words g) ≤ length ws → length (grammar_texts g) ≤ length ts
      → too_long longest (normal_text g) out ≡ true → TooLongAs g s ws ts out r vs us new

-- Every answer of `normal_text` is so.
abbrev pub NormalTextAnswersAsDefined : Type 0
NormalTextAnswersAsDefined = (s ws ts out : List ℕ) (r : Result ℕ Refusal) (vs us new : List ℕ) → NormalTo s ws ts out r vs us new → Writes s ws ts out r vs us new

-- ------------------------------------------------------------------ 3. normal texts

-- both texts are accepted, and the bytes p and q are equal exactly when their trees agree
pub record EqualWhenAgreeing (s t p q : List ℕ) : Type 0 where
  pub left : Tree
  pub right : Tree
  pub reads-left : reading s ≡ tree left
  pub reads-right : reading t ≡ tree right
  pub only : p ≡ q → agree left right ≡ true
  pub equal : agree left right ≡ true → p ≡ q

-- Two calls of `normal_text` that both write, whatever was lent to each, write the same bytes exactly when the trees of their texts agree.
abbrev pub EqualExactlyWhenTreesAgree : Type 0
EqualExactlyWhenTreesAgree =
    (s ws ts out : List ℕ) (n : ℕ) (vs us new : List ℕ) → NormalTo s ws ts out (Ok n) vs us new
    → (t xs ys put : List ℕ) (m : ℕ) (zs qs other : List ℕ) → NormalTo t xs ys put (Ok m) zs qs other
    → EqualWhenAgreeing s t (take n new) (take m other)

-- a text and another, both accepted, with trees that agree
pub record Agreeing (s t : List ℕ) : Type 0 where
  pub first : Tree
  pub again : Tree
  pub reads_first : reading s ≡ tree first
  pub reads-again : reading t ≡ tree again
  pub agrees : agree first again ≡ true

-- What a call of `normal_text` wrote, handed in again with as much lent, whatever that holds, is answered with the same count and
-- bytes, and its tree agrees with the first.
abbrev pub NormalTextsAreTheirOwn : Type 0
NormalTextsAreTheirOwn =
    (s ws ts out : List ℕ) (n : ℕ) (vs us new : List ℕ) → NormalTo s ws ts out (Ok n) vs us new
    → (xs ys put : List ℕ) → length xs ≡ length ws → length ys ≡ length ts → length put ≡ length out
    → (r : Result ℕ Refusal) (zs qs other : List ℕ) → NormalTo (take n new) xs ys put r zs qs other
    → (r ≡ Ok n) × (take n other ≡ take n new) × Agreeing s (take n new)

-- what was written of a text, n bytes, is read back into buffers, whatever they hold
pub record ReadBack (s : List ℕ) (n : ℕ) (written xs ys put : List ℕ) : Type 0 where
  pub agreeing : Agreeing s written
  -- `read` stores the tree that agrees
  pub again_read : (r : Result Extent Refusal) (zs qs : List ℕ) → ReadTo written xs ys r zs qs → StoredAs agreeing.again xs ys r zs qs
  -- `normal_text` answers the same count, and has laid the same bytes over the output, and that tree over records and texts
  pub again-written : (r : Result ℕ Refusal) (zs qs other : List ℕ) → NormalTo written xs ys put r zs qs other
      → (r ≡ Ok n) × (zs ≡ over (grammar_words agreeing.again) xs) × (qs ≡ over (grammar_texts agreeing.again) ys) × (other ≡ over written put)

-- A call of `normal_text` says so itself: where it wrote, that is read back with as much lent.
abbrev pub OwnAgain : (text records texts output : List ℕ) → Result ℕ Refusal → (output_after : List ℕ) → Type 0
OwnAgain s ws ts out (Ok n) new = (xs ys put : List ℕ) → length xs ≡ length ws → length ys ≡ length ts → length put ≡ length out → ReadBack s n (take n new) xs ys put
OwnAgain s ws ts out (Err f) new = Unit {0}

-- What a call of `normal_text` wrote is read back so, with as much lent.
abbrev pub ReadsBack : Type 0
ReadsBack =
    (s ws ts out : List ℕ) (n : ℕ) (vs us new : List ℕ) → NormalTo s ws ts out (Ok n) vs us new
    → (xs ys put : List ℕ) → length xs ≡ length ws → length ys ≡ length ts → length put ≡ length out → ReadBack s n (take n new) xs ys put

-- Where a text is accepted and enough is lent, its normal text is written, unless it has over 65,535 bytes.
abbrev pub NormalTextIsWritten : Type 0
NormalTextIsWritten =
    (s ws ts out : List ℕ) (g : Tree) → reading s ≡ tree g → length (grammar_words g) ≤ length ws → length (grammar_texts g) ≤ length ts
    → length (normal_text g) ≤ longest → length (normal_text g) ≤ length out
    → (r : Result ℕ Refusal) (vs us new : List ℕ) → NormalTo s ws ts out r vs us new → WrittenAs g ws ts out r vs us new

-- Else, with the tree's room lent, it is refused with 24 at place 0: the output is as it was, records and texts hold the tree.
abbrev pub NormalTextIsTooLong : Type 0
NormalTextIsTooLong =
    (s ws ts out : List ℕ) (g : Tree) → reading s ≡ tree g → length (grammar_words g) ≤ length ws → length (grammar_texts g) ≤ length ts
    → too_long longest (normal_text g) out ≡ true
    → (r : Result ℕ Refusal) (vs us new : List ℕ) → NormalTo s ws ts out r vs us new → TooLongAs g s ws ts out r vs us new

-- ------------------------------------------------------------------ the three, each as one

-- "Whoever hands in bytes, a grammar or a tree to compare, and lends buffers of any length gets a tree, a normal text, a yes or no, or one
-- numbered refusal with its place, and what each buffer then holds is fixed."
pub record Demand1 : Type 0 where
  pub of_read : ReadIsSettled
  pub of_normal_text : NormalTextIsSettled
  pub of_measure : MeasureIsSettled
  pub of_structurally_eq : StructurallyEqIsSettled
  pub measure_refuses : MeasureRefuses
  pub read_refuses : ReadRefuses
  pub normal_text_refuses : NormalTextRefuses
  pub structurally_eq_refuses : StructurallyEqRefuses
  pub read_stores_a_tree : ReadStoresATree

-- "By a definition, every UTF-8 text of at most 65,535 bytes within 64 levels and 64 stacked repeats, given room, reads to the same tree or is
-- refused for the same cause at the same byte."
pub record Demand2 : Type 0 where
  pub of_read : ReadAnswersAsDefined
  pub of_normal_text : NormalTextAnswersAsDefined
  pub of_measure : MeasureTellsWhatReadWill
  pub with_room : RoomIsEnough

-- "Two accepted texts, given room, have equal normal texts exactly when their trees agree in all but positions; each normal text is itself
-- accepted, reads to a tree that agrees, and is its own normal text."
pub record Demand3 : Type 0 where
  pub is_written : NormalTextIsWritten
  pub or_too_long : NormalTextIsTooLong
  pub equal : EqualExactlyWhenTreesAgree
  pub back : ReadsBack
