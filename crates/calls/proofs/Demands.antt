-- The demands on the calls, proved.
-- Assumes nothing.
use Prim.Native.Nat.{ℕ, ◌≤◌}
use native.Mathlib.Omega.{arith}
use mathlib.Core.Path.{◌≡◌, refl, ap, sym, ◌∙◌}
use mathlib.Core.Bool.{Bool, true, false}
use mathlib.Core.List.{List, [], ◌++◌}
use lib.Dec.{ltb, eqb}
use lib.ListN.{length, take, drop, length-append, length-drop}
use lib.Seq.{take-append_seam}
use borrow.Author.Tests.{lt-ltb, le-ltb, ltb-false}
use Rattle.basics.proofs.Tests.{impossible, both_false}
use Rattle.error.specs.Causes.{output_full}
use Rattle.error.specs.Lines.{refusal_at}
use Rattle.tree.specs.Records.{Branch}
use Rattle.tree.specs.Syntax.{GrammarDeclaration}
use Rattle.tree.specs.Stored.{grammar_words, grammar_texts, grammar_branch}
use Rattle.spelling.specs.NormalText.{normal_text}
use Rattle.writer.specs.Promise.{too_long}
use Rattle.grammar.specs.Reading.{Reading, tree, stopped, reading, longest}
use Rattle.grammar.specs.Calls as Calls
use Rattle.basics.specs.Basics.{over}
use Rattle.grammar.specs.Calls.{room_for, ReadOutcome, read_by, read, measure_by, measure, words_enough, bytes_enough, NormalOutcome, write_by, normal_by, normal}
use Rattle.laws.specs.Demand3.{Accepted}
use Rattle.laws.proofs.Demand3.{normal-texts-are-accepted, equal_when_trees_agree, agreeing_trees_take-the-same-room}
use Rattle.laws.proofs.Calls.{Room, wrote, wrote-only}
use Rattle.calls.specs.Promise.{read_answer, read_outcome, ReadTo, Few, normal_answer, normal_outcome, NormalTo}
use Rattle.calls.specs.Demands.{ReadIsSettled, NormalTextIsSettled, MeasureIsSettled, StructurallyEqIsSettled, ReadStoresATree, AsMeasured, MeasureTellsWhatReadWill, RoomIsEnough, RefusedAs, StoredAs, Answers, ReadAnswersAsDefined, EqualExactlyWhenTreesAgree, NormalTextsAreTheirOwn, NormalTextIsWritten, NormalTextIsTooLong, UnwrittenAs, WrittenAs, TooLongAs, Writes, NormalTextAnswersAsDefined, ReadBack, OwnAgain, ReadsBack}
use Rattle.std.specs.Prelude.{Result, Ok, Err}
use Rattle.error.specs.declared.Refusal.{Refusal}
use Rattle.reader.specs.declared.blocks.Extent.{Extent}
use Rattle.trees.specs.IsTree.{IsTree}
use Rattle.laws.proofs.StoredTrees.{stored-is_one_tree}
use Rattle.calls.proofs.NormalLaws.{roomed, kept}

-- ------------------------------------------------------------------ 1

-- what is laid over the front of what it fits into has the same length
over-length : (xs lent : List ℕ) → length xs ≤ length lent → length (over xs lent) ≡ length lent
over-length xs lent h = let a = length-append xs (drop (length xs) lent) in let b = length-drop (length xs) lent in omega arith

module _ (s ws ts out : List ℕ) where
  abbrev SameLengths : ReadOutcome → Type 0
  SameLengths o = (length o.records ≡ length ws) × (length o.texts ≡ length ts)

  abbrev AllSameLengths : NormalOutcome → Type 0
  AllSameLengths o = (length o.records ≡ length ws) × (length o.texts ≡ length ts) × (length o.output ≡ length out)

  module _ {g : GrammarDeclaration ℕ} (e : room_for (length ws) (length ts) (reading s) ≡ tree g) where
    words_same : length (over (grammar_words g) ws) ≡ length ws
    words_same = over-length (grammar_words g) ws (roomed (length ws) (length ts) (reading s) e).words_fit

    bytes_same : length (over (grammar_texts g) ts) ≡ length ts
    bytes_same = over-length (grammar_texts g) ts (roomed (length ws) (length ts) (reading s) e).bytes_fit

    write_same : AllSameLengths (write_by s ws ts out g)
    unfolding write_by
    write_same = by-room (too_long longest (normal_text g) out) refl
      where
        by-room : (b : Bool) → too_long longest (normal_text g) out ≡ b → AllSameLengths (write_by s ws ts out g)
        by-room true h = rw h (words_same, bytes_same, refl)
        by-room false h =
            let k = (both_false (ltb longest (length (normal_text g))) (ltb (length out) (length (normal_text g))) h).1 in
            rw h (words_same, bytes_same, over-length (normal_text g) out (ltb-false (length out) (length (normal_text g)) k))

  read_same : (r : Reading) → room_for (length ws) (length ts) (reading s) ≡ r → SameLengths (read_by s ws ts r)
  read_same (stopped n p) e = (refl, refl)
  read_same (tree g) e = (words_same e, bytes_same e)

  normal-same : (r : Reading) → room_for (length ws) (length ts) (reading s) ≡ r → AllSameLengths (normal_by s ws ts out r)
  unfolding normal_by
  normal-same (stopped n p) e = (refl, refl, refl)
  normal-same (tree g) e = write_same e

pub read-is-settled : ReadIsSettled
unfolding read
read-is-settled s ws ts r q vs us xs ys a b =
    let l = read_same s ws ts [] (room_for (length ws) (length ts) (reading s)) refl in
    (a ∙ sym b, ap (λ (o : ReadOutcome). length o.records) a ∙ l.0, ap (λ (o : ReadOutcome). length o.texts) a ∙ l.1)

pub normal-text-is-settled : NormalTextIsSettled
unfolding normal
normal-text-is-settled s ws ts out r q vs us new xs ys other a b =
    let l = normal-same s ws ts out (room_for (length ws) (length ts) (reading s)) refl in
    (a ∙ sym b, ap (λ (o : NormalOutcome). length o.records) a ∙ l.0, ap (λ (o : NormalOutcome). length o.texts) a ∙ l.1, ap (λ (o : NormalOutcome). length o.output) a ∙ l.2)

pub measure-is-settled : MeasureIsSettled
measure-is-settled s r q a b = a ∙ sym b

pub structurally_eq_is-settled : StructurallyEqIsSettled
structurally_eq_is-settled ls lts rs rts r q a b = a ∙ sym b

-- what is laid over the front of others is their front
front_of : (t out : List ℕ) → take (length t) (over t out) ≡ t
front_of t out = take-append_seam t (drop (length t) out)

-- the same words and texts are the same tree
same-words : {root : ℕ → Bool} {ws vs ts us : List ℕ} {b : Branch} → vs ≡ ws → us ≡ ts → IsTree root ws ts b → IsTree root vs us b
same-words e f t = rw (e, f) t

-- what is stored is the tree of the text, which is one
pub read-stores_a_tree : ReadStoresATree
read-stores_a_tree s ws ts e vs us a =
    let k = kept s ws ts vs us e a in
    let g = k.grammar in
    let is = (roomed (length ws) (length ts) (reading s) k.is).is in
    let front : take e.words vs ≡ grammar_words g =
    ap (λ (n : ℕ). take n vs) k.words ∙ ap (λ (l : List ℕ). take (length (grammar_words g)) l) k.records ∙ front_of (grammar_words g) ws in
    let t : IsTree (λ k. eqb k 1) (grammar_words g) (grammar_texts g ++ drop (length (grammar_texts g)) ts) (grammar_branch g) =
    stored-is_one_tree s g (drop (length (grammar_texts g)) ts) is in
    (grammar_branch g, same-words front k.texts t)

-- ------------------------------------------------------------------ 2

module _ (s ws ts : List ℕ) (r : Result Extent Refusal) (vs us : List ℕ) (a : ReadTo s ws ts r vs us) where
  -- the parts of what the call comes to
  as_refused : {n p : ℕ} → room_for (length ws) (length ts) (reading s) ≡ stopped n p → RefusedAs n p s ws ts r vs us
  unfolding read
  as_refused {n} {p} e =
      let o : read_outcome r vs us ≡ read_by s ws ts (stopped n p) = rw e at a in
      (ap (λ (o : ReadOutcome). o.answer) o, ap (λ (o : ReadOutcome). o.records) o, ap (λ (o : ReadOutcome). o.texts) o)

  as_stored : {g : GrammarDeclaration ℕ} → room_for (length ws) (length ts) (reading s) ≡ tree g → StoredAs g ws ts r vs us
  unfolding read
  as_stored {g} e =
      let o : read_outcome r vs us ≡ read_by s ws ts (tree g) = rw e at a in
      (ap (λ (o : ReadOutcome). o.answer) o, ap (λ (o : ReadOutcome). o.records) o, ap (λ (o : ReadOutcome). o.texts) o)

  answers : Answers s ws ts r vs us
  unfolding room_for
  answers =
      record {
        refuses = λ n p e. as_refused (rw (e, room_for));
        stores = λ g e h k. as_stored {g = g} (rw (e, room_for, le-ltb (length ws) (length (grammar_words g)) h, le-ltb (length ts) (length (grammar_texts g)) k));
        no_words = λ g e h. as_refused (rw (e, room_for, lt-ltb (length ws) (length (grammar_words g)) h));
        no_bytes = λ g e h k. as_refused (rw (e, room_for, le-ltb (length ws) (length (grammar_words g)) h, lt-ltb (length ts) (length (grammar_texts g)) k));
      }

pub read-answers_as_defined : ReadAnswersAsDefined
read-answers_as_defined s ws ts r vs us a = answers s ws ts r vs us a

-- an answer of the code with these sizes
stored_is : (r : Result Extent Refusal) (e : Extent) → read_answer r ≡ Calls.ReadAnswer.stored e.words e.bytes → r ≡ Ok e
stored_is (Ok d) e q = let a : d.words ≡ e.words = cc in let b : d.bytes ≡ e.bytes = cc in rw (a, b)
stored_is (Err f) e q = impossible (cc)

module _ (s ws ts : List ℕ) (r : Result Extent Refusal) (vs us : List ℕ) (a : ReadTo s ws ts r vs us) where
  as_measured : (m : Result Extent Refusal) (i : Reading) → reading s ≡ i → read_answer m ≡ measure_by s i → AsMeasured m (length ws) (length ts) r
  as_measured (Ok e) (stopped n p) q b = impossible (cc)
  as_measured (Ok e) (tree g) q b = λ h k.
      let w : e.words ≡ length (grammar_words g) = cc in
      let x : e.bytes ≡ length (grammar_texts g) = cc in
      stored_is r e (rw (w, x) ((answers s ws ts r vs us a).stores g q (rw w at h) (rw x at k)).0)
  as_measured (Err f) (stopped n p) q b = ((answers s ws ts r vs us a).refuses n p q).0 ∙ sym b
  as_measured (Err f) (tree g) q b = impossible (cc)

pub measure-tells_what_read_will : MeasureTellsWhatReadWill
unfolding measure
measure-tells_what_read_will s ws ts m r vs us b a = as_measured s ws ts r vs us a m (reading s) refl b

-- whatever the reading gives, there is room for it
module _ (s ws ts : List ℕ) (few : Few s) (h : words_enough (length s) ≤ length ws) (k : bytes_enough (length s) ≤ length ts) where
  roomy : (r : Reading) → reading s ≡ r → room_for (length ws) (length ts) r ≡ r
  unfolding room_for
  roomy (stopped n p) e = refl
  roomy (tree g) e =
      let w = (few g e).0 in
      let b = (few g e).1 in
      rw (room_for, le-ltb (length ws) (length (grammar_words g)) (omega arith), le-ltb (length ts) (length (grammar_texts g)) (omega arith))

pub room-is-enough : RoomIsEnough
unfolding read normal
room-is-enough s ws ts few h k =
    let e = roomy s ws ts few h k (reading s) refl in
    (ap (read_by s ws ts) e, λ out. ap (normal_by s ws ts out) e)

-- ------------------------------------------------------------------ 3

-- a call that wrote: its text's tree, for which there was room, and whose normal text is what it wrote
record Made (s ws ts out : List ℕ) (n : ℕ) (new : List ℕ) : Type 0 where
  grammar : GrammarDeclaration ℕ
  reads : reading s ≡ tree grammar
  room : Room ws ts out grammar
  size : length (normal_text grammar) ≡ n
  front : take n new ≡ normal_text grammar

module _ (s ws ts out : List ℕ) (n : ℕ) (vs us new : List ℕ) (a : NormalTo s ws ts out (Ok n) vs us new) where
  made : Made s ws ts out n new
  made =
      let w = wrote-only ws ts out s n (sym (ap (λ (o : NormalOutcome). o.answer) a)) in
      let o : new ≡ over (normal_text w.grammar) out = ap (λ (o : NormalOutcome). o.output) (a ∙ wrote ws ts out s w.grammar w.reads w.room) in
      let front = ap (λ (k : ℕ). take k new) (sym w.size) ∙ ap (λ (l : List ℕ). take (length (normal_text w.grammar)) l) o ∙ front_of (normal_text w.grammar) out in
      record { grammar = w.grammar; reads = w.reads; room = w.room; size = w.size; front = front }

pub equal_exactly_when_trees_agree : EqualExactlyWhenTreesAgree
equal_exactly_when_trees_agree s ws ts out n vs us new a t xs ys put m zs qs other b =
    let k = made s ws ts out n vs us new a in
    let l = made t xs ys put m zs qs other b in
    let e = equal_when_trees_agree s t k.grammar l.grammar k.reads l.reads in
    record {
      left = k.grammar;
      right = l.grammar;
      reads-left = k.reads;
      reads-right = l.reads;
      only = λ p. e.0 (sym k.front ∙ p ∙ l.front);
      equal = λ p. k.front ∙ e.1 p ∙ sym l.front;
    }

-- an answer of the code that counts as the definition's
written_is : (r : Result ℕ Refusal) {n : ℕ} → normal_answer r ≡ Calls.NormalAnswer.written n → r ≡ Ok n
written_is (Ok m) {n} e = let q : m ≡ n = cc in ap (λ x. Ok x) q
written_is (Err f) e = impossible (cc)

-- all is written
module _ (s ws ts out : List ℕ) (g : GrammarDeclaration ℕ) (e : reading s ≡ tree g) (h : Room ws ts out g) (r : Result ℕ Refusal) (vs us new : List ℕ) (a : NormalTo s ws ts out r vs us new) where
  written_all_lem : (r ≡ Ok (length (normal_text g))) × (vs ≡ over (grammar_words g) ws) × (us ≡ over (grammar_texts g) ts) × (new ≡ over (normal_text g) out)
  written_all_lem =
      let o = a ∙ wrote ws ts out s g e h in
      (written_is r (ap (λ (o : NormalOutcome). o.answer) o), ap (λ (o : NormalOutcome). o.records) o, ap (λ (o : NormalOutcome). o.texts) o, ap (λ (o : NormalOutcome). o.output) o)

pub normal-text-is-written : NormalTextIsWritten
normal-text-is-written s ws ts out g e h i j k = written_all_lem s ws ts out g e room
  where
    room : Room ws ts out g
    room =
        record {
          words = le-ltb (length ws) (length (grammar_words g)) h;
          bytes = le-ltb (length ts) (length (grammar_texts g)) i;
          room = rw (le-ltb longest (length (normal_text g)) j, le-ltb (length out) (length (normal_text g)) k);
        }

-- or it is too long
module _ (s ws ts out : List ℕ) (r : Result ℕ Refusal) (vs us new : List ℕ) (a : NormalTo s ws ts out r vs us new) where
  too_long_lem : (g : GrammarDeclaration ℕ) → reading s ≡ tree g → length (grammar_words g) ≤ length ws → length (grammar_texts g) ≤ length ts
      → too_long longest (normal_text g) out ≡ true → TooLongAs g s ws ts out r vs us new
  unfolding normal normal_by room_for write_by
  too_long_lem g e h i j =
      let o : normal_outcome r vs us new
      ≡ record { answer = Calls.NormalAnswer.refused (refusal_at s output_full 0); records = over (grammar_words g) ws; texts = over (grammar_texts g) ts; output = out } =
      rw (normal, e, room_for, le-ltb (length ws) (length (grammar_words g)) h, le-ltb (length ts) (length (grammar_texts g)) i, normal_by, write_by, j) at a in
      (ap (λ (o : NormalOutcome). o.answer) o, ap (λ (o : NormalOutcome). o.records) o, ap (λ (o : NormalOutcome). o.texts) o, ap (λ (o : NormalOutcome). o.output) o)

  -- or the reading is stopped
  unwritten : {n p : ℕ} → room_for (length ws) (length ts) (reading s) ≡ stopped n p → UnwrittenAs n p s ws ts out r vs us new
  unfolding normal normal_by
  unwritten {n} {p} e =
      let o : normal_outcome r vs us new ≡ record { answer = Calls.NormalAnswer.refused (refusal_at s n p); records = ws; texts = ts; output = out } = rw (normal, e, normal_by) at a in
      (ap (λ (o : NormalOutcome). o.answer) o, ap (λ (o : NormalOutcome). o.records) o, ap (λ (o : NormalOutcome). o.texts) o, ap (λ (o : NormalOutcome). o.output) o)

  written_when : (g : GrammarDeclaration ℕ) → reading s ≡ tree g → length (grammar_words g) ≤ length ws → length (grammar_texts g) ≤ length ts
      → too_long longest (normal_text g) out ≡ false → WrittenAs g ws ts out r vs us new
  written_when g e h i j =
      written_all_lem s ws ts out g e (record { words = le-ltb (length ws) (length (grammar_words g)) h; bytes = le-ltb (length ts) (length (grammar_texts g)) i; room = j }) r vs us new a

  pub writes-so : Writes s ws ts out r vs us new
  unfolding room_for
  writes-so =
      record {
        refuses = λ n p e. unwritten (rw (e, room_for));
        no_words = λ g e h. unwritten (rw (e, room_for, lt-ltb (length ws) (length (grammar_words g)) h));
        no_bytes = λ g e h k. unwritten (rw (e, room_for, le-ltb (length ws) (length (grammar_words g)) h, lt-ltb (length ts) (length (grammar_texts g)) k));
        writes = written_when;
        too_long_for = too_long_lem;
      }

pub normal-text-is_too_long : NormalTextIsTooLong
normal-text-is_too_long s ws ts out g e h i j r vs us new a = too_long_lem s ws ts out r vs us new a g e h i j

pub normal-text-answers_as_defined : NormalTextAnswersAsDefined
normal-text-answers_as_defined s ws ts out r vs us new a = writes-so s ws ts out r vs us new a

-- what was written has as many bytes as were answered
made_size : {s ws ts out : List ℕ} {n : ℕ} {new : List ℕ} (k : Made s ws ts out n new) → length (take n new) ≡ n
made_size k = ap length k.front ∙ k.size

pub reads-back : ReadsBack
reads-back s ws ts out n vs us new a xs ys put e f i =
    let k = made s ws ts out n vs us new a in
    let l = (both_false (ltb longest (length (normal_text k.grammar))) (ltb (length out) (length (normal_text k.grammar))) k.room.room).0 in
    let c = normal-texts-are-accepted s k.grammar k.reads (ltb-false longest (length (normal_text k.grammar)) l) in
    again k c
  where
    again : (k : Made s ws ts out n new) → Accepted k.grammar → ReadBack s n (take n new) xs ys put
    again k c =
        let g = k.grammar in
        let h = c.again in
        let same = agreeing_trees_take-the-same-room g h c.agrees in
        let room : Room xs ys put h =
        record {
          words = rw (e, ← same.0) k.room.words;
          bytes = rw (f, ← same.1) k.room.bytes;
          room = rw (i, c.itself) k.room.room;
        } in
        let reads : reading (take n new) ≡ tree h = rw k.front c.accepted in
        let size : length (normal_text h) ≡ n = rw c.itself k.size in
        let bytes : normal_text h ≡ take n new = c.itself ∙ sym k.front in
        record {
          agreeing = record { first = g; again = h; reads_first = k.reads; reads-again = reads; agrees = c.agrees };
          again_read =
              λ r zs qs b. (answers (take n new) xs ys r zs qs b).stores h reads
              (ltb-false (length xs) (length (grammar_words h)) room.words) (ltb-false (length ys) (length (grammar_texts h)) room.bytes);
          again-written =
              λ r zs qs other b.
              let o = written_all_lem (take n new) xs ys put h reads room r zs qs other b in
              (o.0 ∙ ap (λ x. Ok x) size, o.1, o.2, o.3 ∙ ap (λ (t : List ℕ). over t put) bytes);
        }

-- so whatever it answered
pub own-again : (s ws ts out : List ℕ) (r : Result ℕ Refusal) (vs us new : List ℕ) → NormalTo s ws ts out r vs us new → OwnAgain s ws ts out r new
own-again s ws ts out (Ok n) vs us new a = reads-back s ws ts out n vs us new a
own-again s ws ts out (Err f) vs us new a = tt

pub normal-texts-are_their_own : NormalTextsAreTheirOwn
normal-texts-are_their_own s ws ts out n vs us new a xs ys put e f i r zs qs other b =
    let k = reads-back s ws ts out n vs us new a xs ys put e f i in
    let o = k.again-written r zs qs other b in
    let size = made_size (made s ws ts out n vs us new a) in
    let front : take n other ≡ take n new = rw o.3 (ap (λ (m : ℕ). take m (over (take n new) put)) (sym size) ∙ front_of (take n new) put) in
    (o.0, front, k.agreeing)
