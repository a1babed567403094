-- The bounds, from what the calls come to.
-- Assumes nothing.
use Prim.Native.Nat.{ℕ, ◌≤◌, ◌<◌}
use native.Mathlib.Omega.{arith}
use mathlib.Core.Path.{◌≡◌, refl, ap, sym, ◌∙◌}
use mathlib.Core.Bool.{Bool, true, false, ◌||◌}
use mathlib.Core.List.{List}
use lib.Dec.{ltb}
use lib.ListN.{length}
use borrow.Author.Tests.{ltb-true, ltb-false}
use Rattle.basics.specs.Basics.{if◌then◌otherwise◌, over}
use Rattle.basics.proofs.Tests.{both_false}
use Rattle.error.specs.Causes.{too_long, overlapping_span, records_full, texts_full, output_full}
use Rattle.error.specs.Lines.{refusal_at}
use Rattle.tree.specs.Syntax.{GrammarDeclaration}
use Rattle.tree.specs.Stored.{grammar_words, grammar_texts}
use Rattle.spelling.specs.NormalText.{normal_text}
use Rattle.grammar.specs.Reading.{Reading, tree, stopped, reading, longest}
use Rattle.grammar.specs.Calls.{room_for, words_enough, bytes_enough, measure_by, measure, ReadOutcome, read_by, read, NormalAnswer, NormalOutcome, write_by, normal_by, normal}
use Rattle.laws.proofs.Stopped.{stopped-by_itself}
use Rattle.calls.specs.Promise.{read_answer, ReadTo, MeasureTo, Few, normal_answer, NormalTo}
use Rattle.error.specs.declared.Refusal.{Refusal}
use Rattle.reader.specs.declared.blocks.Extent.{Extent}
use Rattle.std.specs.Prelude.{Result}
use Rattle.hemvuda.specs.declared.Answer.{Answer}
use Rattle.hemvuda.specs.Answers.{read_answer_of, normal_answer_of}
use Rattle.hemvuda.specs.Bounds.{Sized, Written, WantsRoom}

-- the cause of a refusal
cause-of : (s : List ℕ) (n p : ℕ) → (refusal_at s n p).cause ≡ n
unfolding refusal_at
cause-of s n p = refl

-- ------------------------------------------------------------------ `read`

-- what its answer is to keep
pub record ReadBounds (s rs ts : List ℕ) (a : Answer) : Type 0 where
  pub accepted : a.cause ≡ 0 → Sized s a
  pub room : WantsRoom s rs ts a
  pub causes : a.cause ≤ texts_full

module _ (s rs ts : List ℕ) (few : Few s) where
  -- the answer by what the reading gave
  abbrev Answered : Reading → Type 0
  Answered r = ReadBounds s rs ts (read_answer_of (read_by s rs ts r).answer)

  -- the text stops it
  by-text : (n p : ℕ) → reading s ≡ stopped n p → Answered (stopped n p)
  by-text n p e =
      let bounds = stopped-by_itself s n p e in
      let is = cause-of s n p in
      record { accepted = λ z. absurd (omega arith); room = (λ z. absurd (omega arith), λ z. absurd (omega arith)); causes = omega arith }

  -- the text is accepted, and both rooms are tested
  by_room : (g : GrammarDeclaration ℕ) → reading s ≡ tree g → (a b : Bool) → ltb (length rs) (length (grammar_words g)) ≡ a → ltb (length ts) (length (grammar_texts g)) ≡ b
      → Answered (if a then stopped records_full 0 otherwise if b then stopped texts_full 0 otherwise tree g)
  by_room g e true b p q =
      let bounds = few g e in
      let is = cause-of s records_full 0 in
      let short = ltb-true (length rs) (length (grammar_words g)) p in
      record { accepted = λ z. absurd (omega arith); room = (λ z. omega arith, λ z. absurd (omega arith)); causes = omega arith }
  by_room g e false true p q =
      let bounds = few g e in
      let is = cause-of s texts_full 0 in
      let short = ltb-true (length ts) (length (grammar_texts g)) q in
      record { accepted = λ z. absurd (omega arith); room = (λ z. absurd (omega arith), λ z. omega arith); causes = omega arith }
  by_room g e false false p q =
      let bounds = few g e in
      record {
        accepted = λ z. record { grammar = g; is = e; words = refl; bytes = refl; words_within = bounds.0; bytes_within = bounds.1 };
        room = (λ z. absurd (omega arith), λ z. absurd (omega arith));
        causes = omega arith;
      }

  by-reading : (r : Reading) → reading s ≡ r → Answered (room_for (length rs) (length ts) r)
  unfolding room_for
  by-reading (stopped n p) e = by-text n p e
  by-reading (tree g) e = by_room g e (ltb (length rs) (length (grammar_words g))) (ltb (length ts) (length (grammar_texts g))) refl refl

  pub read-bounds : (a : Answer) → a ≡ read_answer_of (read s rs ts).answer → ReadBounds s rs ts a
  unfolding read
  read-bounds a h = rw (h, read) (by-reading (reading s) refl)

-- ------------------------------------------------------------------ `measure`

-- what its answer is to keep
pub record MeasureBounds (s : List ℕ) (a : Answer) : Type 0 where
  pub accepted : a.cause ≡ 0 → Sized s a
  pub causes : a.cause ≤ overlapping_span

module _ (s : List ℕ) (few : Few s) where
  measured : (r : Reading) → reading s ≡ r → MeasureBounds s (read_answer_of (measure_by s r))
  measured (stopped n p) e =
      let bounds = stopped-by_itself s n p e in
      let is = cause-of s n p in
      record { accepted = λ z. absurd (omega arith); causes = omega arith }
  measured (tree g) e =
      let bounds = few g e in
      record {
        accepted = λ z. record { grammar = g; is = e; words = refl; bytes = refl; words_within = bounds.0; bytes_within = bounds.1 };
        causes = omega arith;
      }

  pub measure-bounds : (a : Answer) → a ≡ read_answer_of (measure s) → MeasureBounds s a
  unfolding measure
  measure-bounds a h = rw (h, measure) (measured (reading s) refl)

-- ------------------------------------------------------------------ `normal_text`

-- what its answer is to keep
pub record NormalBounds (s rs ts : List ℕ) (a : Answer) : Type 0 where
  pub accepted : a.cause ≡ 0 → Written s a
  pub room : WantsRoom s rs ts a
  pub causes : a.cause ≤ output_full

module _ (s rs ts out : List ℕ) (few : Few s) where
  -- the answer by what the reading gave
  abbrev Formatted : Reading → Type 0
  Formatted r = NormalBounds s rs ts (normal_answer_of (normal_by s rs ts out r).answer)

  -- the text stops it, or there is no room for its tree
  none-written : (n p : ℕ) → too_long ≤ n → n ≤ texts_full → (n ≡ records_full → length rs < words_enough (length s)) → (n ≡ texts_full → length ts < bytes_enough (length s))
      → Formatted (stopped n p)
  unfolding normal_by
  none-written n p l h a b =
      let is = cause-of s n p in
      record { accepted = λ z. absurd (omega arith); room = (λ z. a (sym is ∙ z), λ z. b (sym is ∙ z)); causes = omega arith }

  -- what a tree comes to whose normal text is too long, or not
  abbrev Full : GrammarDeclaration ℕ → NormalOutcome
  Full g = record { answer = NormalAnswer.refused (refusal_at s output_full 0); records = over (grammar_words g) rs; texts = over (grammar_texts g) ts; output = out }

  abbrev Done : GrammarDeclaration ℕ → NormalOutcome
  Done g = record { answer = NormalAnswer.written (length (normal_text g)); records = over (grammar_words g) rs; texts = over (grammar_texts g) ts; output = over (normal_text g) out }

  by_length : (g : GrammarDeclaration ℕ) → reading s ≡ tree g → (c : Bool) → (ltb longest (length (normal_text g)) || ltb (length out) (length (normal_text g))) ≡ c
      → NormalBounds s rs ts (normal_answer_of (if c then Full g otherwise Done g).answer)
  by_length g e true p =
      let is = cause-of s output_full 0 in
      record { accepted = λ z. absurd (omega arith); room = (λ z. absurd (omega arith), λ z. absurd (omega arith)); causes = omega arith }
  by_length g e false p =
      record {
        accepted = λ z. record { grammar = g; is = e; bytes = refl; within = ltb-false longest (length (normal_text g)) (both_false _ _ p).0 };
        room = (λ z. absurd (omega arith), λ z. absurd (omega arith));
        causes = omega arith;
      }

  all-written : (g : GrammarDeclaration ℕ) → reading s ≡ tree g → Formatted (tree g)
  unfolding normal_by write_by
  all-written g e = by_length g e (ltb longest (length (normal_text g)) || ltb (length out) (length (normal_text g))) refl

  by-room : (g : GrammarDeclaration ℕ) → reading s ≡ tree g → (a b : Bool) → ltb (length rs) (length (grammar_words g)) ≡ a → ltb (length ts) (length (grammar_texts g)) ≡ b
      → Formatted (if a then stopped records_full 0 otherwise if b then stopped texts_full 0 otherwise tree g)
  by-room g e true b p q =
      let bounds = few g e in
      let short = ltb-true (length rs) (length (grammar_words g)) p in
      none-written records_full 0 (omega arith) (omega arith) (λ z. omega arith) (λ z. absurd (omega arith))
  by-room g e false true p q =
      let bounds = few g e in
      let short = ltb-true (length ts) (length (grammar_texts g)) q in
      none-written texts_full 0 (omega arith) (omega arith) (λ z. absurd (omega arith)) (λ z. omega arith)
  by-room g e false false p q = all-written g e

  by-reading-normal : (r : Reading) → reading s ≡ r → Formatted (room_for (length rs) (length ts) r)
  unfolding room_for
  by-reading-normal (stopped n p) e =
      let bounds = stopped-by_itself s n p e in
      none-written n p bounds.0 (omega arith) (λ z. absurd (omega arith)) (λ z. absurd (omega arith))
  by-reading-normal (tree g) e = by-room g e (ltb (length rs) (length (grammar_words g))) (ltb (length ts) (length (grammar_texts g))) refl refl

  pub normal-bounds : (a : Answer) → a ≡ normal_answer_of (normal s rs ts out).answer → NormalBounds s rs ts a
  unfolding normal
  normal-bounds a h = rw (h, normal) (by-reading-normal (reading s) refl)

-- ------------------------------------------------------------------ so of the calls' answers

pub measure_keeps : {s : List ℕ} → Few s → (r : Result Extent Refusal) → MeasureTo s r → (a : Answer) → a ≡ read_answer_of (read_answer r) → MeasureBounds s a
measure_keeps {s} few r e a h = measure-bounds s few a (h ∙ ap read_answer_of e)

pub read_keeps : {s rs ts vs us : List ℕ} → Few s → (r : Result Extent Refusal) → ReadTo s rs ts r vs us → (a : Answer) → a ≡ read_answer_of (read_answer r) → ReadBounds s rs ts a
read_keeps {s} {rs} {ts} few r e a h = read-bounds s rs ts few a (h ∙ ap (λ (o : ReadOutcome). read_answer_of o.answer) e)

pub normal_keeps : {s rs ts vs us new : List ℕ} (out : List ℕ) → Few s → (r : Result ℕ Refusal) → NormalTo s rs ts out r vs us new → (a : Answer) → a ≡ normal_answer_of (normal_answer r)
    → NormalBounds s rs ts a
normal_keeps {s} {rs} {ts} out few r e a h = normal-bounds s rs ts out few a (h ∙ ap (λ (o : NormalOutcome). normal_answer_of o.answer) e)
