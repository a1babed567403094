-- What the call `normal_text` comes to: refused with the reading, or by what is written of the tree that stands in what was lent.
-- Assumes nothing.
use Prim.Native.Nat.{ℕ, ◌≤◌}
use native.Mathlib.Omega.{arith}
use mathlib.Core.Path.{◌≡◌, refl, ap, sym, ◌∙◌}
use mathlib.Core.Bool.{Bool, true, false}
use mathlib.Core.List.{List}
use lib.Dec.{ltb}
use lib.ListN.{length, take, drop, length-append, length-take}
use lib.Seq.{take-append_seam}
use borrow.Author.Tests.{ltb-true, ltb-false}
use Rattle.basics.specs.Basics.{if◌then◌otherwise◌, over}
use Rattle.basics.proofs.Tests.{impossible}
use Rattle.error.specs.Causes.{records_full, texts_full, output_full}
use Rattle.error.specs.Lines.{Refusal, refusal_at}
use Rattle.error.specs.Promise.{refusal_of}
use Rattle.error.specs.declared.Refusal as declared
use Rattle.tree.specs.Syntax.{GrammarDeclaration}
use Rattle.tree.specs.Stored.{grammar_words, grammar_texts}
use Rattle.spelling.specs.NormalText.{normal_text}
use Rattle.writer.specs.Promise.{Stored, too_long, WroteWithin, WroteNormalWithin}
use Rattle.writer.specs.declared.TooLong.{TooLong}
use Rattle.grammar.specs.Reading.{Reading, tree, stopped, reading, longest}
use Rattle.grammar.specs.Calls as Calls
use Rattle.grammar.specs.Calls.{room_for, read_by, read, ReadOutcome, write_by, normal_by, normal}
use Rattle.laws.proofs.Accepted.{not_tree}
use Rattle.calls.specs.Promise.{Kept, read_outcome, ReadTo, Few, normal_outcome, WriteTo, NormalTo}
use Rattle.reader.specs.declared.blocks.Extent.{Extent}
use Rattle.std.specs.Prelude.{Result, Ok, Err}
use Rattle.calls.proofs.ReadLaws.{reading_long}

-- ------------------------------------------------------------------ a tree that there is room for is the text's

-- the reading gives it, and its words and bytes fit
pub record Roomed (words bytes : ℕ) (r : Reading) (g : GrammarDeclaration ℕ) : Type 0 where
  pub is : r ≡ tree g
  pub words_fit : length (grammar_words g) ≤ words
  pub bytes_fit : length (grammar_texts g) ≤ bytes

pub roomed : (words bytes : ℕ) (r : Reading) {g : GrammarDeclaration ℕ} → room_for words bytes r ≡ tree g → Roomed words bytes r g
unfolding room_for
roomed words bytes (stopped n p) e = not_tree e
roomed words bytes (tree h) {g} e = by_tests (ltb words (length (grammar_words h))) (ltb bytes (length (grammar_texts h))) refl refl e
  where
    by_tests : (a b : Bool) → ltb words (length (grammar_words h)) ≡ a → ltb bytes (length (grammar_texts h)) ≡ b
        → (if a then stopped records_full 0 otherwise if b then stopped texts_full 0 otherwise tree h) ≡ tree g → Roomed words bytes (tree h) g
    by_tests true b p q f = not_tree f
    by_tests false true p q f = not_tree f
    by_tests false false p q f =
        let i : h ≡ g = cc in
        record { is = f; words_fit = rw i at (ltb-false words (length (grammar_words h)) p); bytes_fit = rw i at (ltb-false bytes (length (grammar_texts h)) q) }

-- it has at most 65,535 bytes
short : (s : List ℕ) {g : GrammarDeclaration ℕ} → reading s ≡ tree g → length s ≤ longest
short s {g} e = by_length (ltb longest (length s)) refl
  where
    by_length : (b : Bool) → ltb longest (length s) ≡ b → length s ≤ longest
    by_length true q = not_tree (sym (reading_long s (ltb-true longest (length s) q)) ∙ e)
    by_length false q = ltb-false longest (length s) q

-- ------------------------------------------------------------------ the tree that `read` has stored

apart : {A : Type 0} {n x : ℕ} {r : Refusal} → Calls.ReadAnswer.stored n x ≡ Calls.ReadAnswer.refused r → A
apart e = impossible (cc)

same-sizes : {n x m y : ℕ} → Calls.ReadAnswer.stored n x ≡ Calls.ReadAnswer.stored m y → (n ≡ m) × (x ≡ y)
same-sizes e = (cc, cc)

module _ (s ws ts vs us : List ℕ) (r : Extent) where
  by-reading : (a : Reading) → room_for (length ws) (length ts) (reading s) ≡ a → read_outcome (Ok r) vs us ≡ read_by s ws ts a → Kept s ws ts vs us r
  by-reading (stopped m p) q e = apart (ap (λ (o : ReadOutcome). o.answer) e)
  by-reading (tree g) q e =
      let sizes = same-sizes (ap (λ (o : ReadOutcome). o.answer) e) in
      record {
        grammar = g;
        is = q;
        words = sizes.0;
        bytes = sizes.1;
        records = ap (λ (o : ReadOutcome). o.records) e;
        texts = ap (λ (o : ReadOutcome). o.texts) e;
      }

  pub kept : ReadTo s ws ts (Ok r) vs us → Kept s ws ts vs us r
  unfolding read
  kept e = by-reading (room_for (length ws) (length ts) (reading s)) refl e

-- the words and texts are those that the writer asks for
module _ {s ws ts vs us : List ℕ} {r : Extent} (k : Kept s ws ts vs us r) where
  pub kept-inside : r.words ≤ length vs
  kept-inside = let e = k.words in let l = ap length k.records ∙ length-append (grammar_words k.grammar) (drop (length (grammar_words k.grammar)) ws) in omega arith

  pub kept-part : r.words ≡ length (take r.words vs)
  kept-part = let h = kept-inside in simp length-take (omega arith)

  pub kept-stored : Few s → Stored (take r.words vs) us
  unfolding longest
  kept-stored enough =
      let g = k.grammar in
      let front : take r.words vs ≡ grammar_words g = rw (k.words, k.records) (take-append_seam (grammar_words g) (drop (length (grammar_words g)) ws)) in
      let is = (roomed (length ws) (length ts) (reading s) k.is).is in
      let l : length s ≤ 65535 = short s is in
      let few = (enough g is).0 in
      let f = ap length front in
      record { grammar = g; words = front; few = omega arith; more = drop (length (grammar_texts g)) ts; texts = k.texts }

-- ------------------------------------------------------------------ the call

same_refusal : {r q : Refusal} → Calls.ReadAnswer.refused r ≡ Calls.ReadAnswer.refused q → r ≡ q
same_refusal e = cc

-- a refusal of the reading is the call's
module _ (s ws ts vs us out : List ℕ) where
  by_refusal : (f : declared.Refusal) (r : Reading) → read_outcome (Err f) vs us ≡ read_by s ws ts r → normal_outcome (Err f) vs us out ≡ normal_by s ws ts out r
  unfolding normal_by
  by_refusal f (stopped m p) e =
      rw (same_refusal (ap (λ (o : ReadOutcome). o.answer) e), ap (λ (o : ReadOutcome). o.records) e, ap (λ (o : ReadOutcome). o.texts) e)
  by_refusal f (tree g) e = apart (sym (ap (λ (o : ReadOutcome). o.answer) e))

  pub normal-refused : (f : declared.Refusal) → ReadTo s ws ts (Err f) vs us → NormalTo s ws ts out (Err f) vs us out
  unfolding read normal
  normal-refused f e = by_refusal f (room_for (length ws) (length ts) (reading s)) e

-- what is written of a grammar within the limit and the output, or that it is too long
module _ (s out new vs us : List ℕ) (g : GrammarDeclaration ℕ) where
  abbrev t : List ℕ
  t = normal_text g

  abbrev Is : Result ℕ declared.Refusal → Type 0
  Is a = normal_outcome a (over (grammar_words g) vs) (over (grammar_texts g) us) new ≡ write_by s vs us out g

  full-ok : {A : Type 0} {e : TooLong} {n : ℕ} → ◌≡◌ {A = Result ℕ TooLong} (Err e) (Ok n) → A
  full-ok q = impossible (cc)

  same-count : {m n : ℕ} → ◌≡◌ {A = Result ℕ TooLong} (Ok m) (Ok n) → m ≡ n
  same-count q = cc

  done-by : {m : ℕ} → WroteWithin longest t out new (Ok m) → (b : Bool) → too_long longest t out ≡ b → Is (Ok m)
  unfolding write_by
  done-by w true q = full-ok (sym (rw q at w.answer))
  done-by w false q = let l = same-count (rw q at w.answer) in rw (q, l, rw q at w.output)

  full_by : {e : TooLong} → WroteWithin longest t out new (Err e) → (f : declared.Refusal) → refusal_of f ≡ refusal_at s output_full 0 → (b : Bool) → too_long longest t out ≡ b → Is (Err f)
  unfolding write_by
  full_by w f i true q = rw (q, i, rw q at w.output)
  full_by w f i false q = full-ok (rw q at w.answer)

-- of a tree that is stored
module _ (s : List ℕ) {ws ts out new : List ℕ} where
  pub write_done : {m : ℕ} → WroteNormalWithin ws ts longest out new (Ok m) → WriteTo s ws ts out (Ok m) new
  write_done does k vs us = done-by s out new vs us k.grammar (does k) (too_long longest (normal_text k.grammar) out) refl

  pub write_full : {e : TooLong} → WroteNormalWithin ws ts longest out new (Err e) → (f : declared.Refusal) → refusal_of f ≡ refusal_at s output_full 0 → WriteTo s ws ts out (Err f) new
  write_full does f i k vs us = full_by s out new vs us k.grammar (does k) f i (too_long longest (normal_text k.grammar) out) refl

-- of the tree that was kept it is the call's
pub normal-kept : {s ws ts vs us : List ℕ} {r : Extent} (k : Kept s ws ts vs us r) → Few s → (out new : List ℕ) (a : Result ℕ declared.Refusal)
    → WriteTo s (take r.words vs) us out a new → NormalTo s ws ts out a vs us new
unfolding normal normal_by kept-stored
normal-kept {s} {ws} {ts} k enough out new a w = rw (k.is, k.records, k.texts) (w (kept-stored k enough) ws ts)
