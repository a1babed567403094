-- What the program prints is what the call wrote, or the line of its refusal.
-- Assumes nothing.
use Prim.Native.Nat.{ℕ, ◌≤◌}
use mathlib.Core.Path.{◌≡◌, sym, ap}
use mathlib.Core.Bool.{true, false}
use mathlib.Core.List.{List}
use native.Mathlib.Omega.{arith}
use lib.Dec.{ltb}
use lib.ListN.{length, take, replicate}
use borrow.Author.Tests.{ltb-false}
use Rattle.error.specs.Promise.{refusal_of}
use Rattle.error.specs.declared.Refusal.{Refusal}
use Rattle.grammar.specs.Reading.{longest}
use Rattle.grammar.specs.Calls.{NormalOutcome}
use Rattle.grammar.specs.Program.{refusal_line, printed_by, printed}
use Rattle.spelling.specs.NormalText.{normal_text}
use Rattle.laws.proofs.Calls.{wrote-only}
use Rattle.calls.specs.Promise.{normal_answer, NormalTo}
use Rattle.std.specs.Prelude.{Result, Ok, Err}
use Rattle.calls.proofs.Demands.{normal-text-is-settled}
use Rattle.basics.proofs.Tests.{both_false}
use Rattle.normal.specs.Answer.{is_text, prints_text}

module _ (s vs us new : List ℕ) (r : Result ℕ Refusal) (a : NormalTo s (replicate 14000 0) (replicate 32768 0) (replicate 65535 0) r vs us new) where
  prints : printed_by (normal_answer r) new ≡ printed s
  unfolding printed
  prints = ap (λ (o : NormalOutcome). printed_by o.answer o.output) a

  -- and so is which of the two it is
  which : is_text (normal_answer r) ≡ prints_text s
  unfolding prints_text
  which = ap (λ (o : NormalOutcome). is_text o.answer) a

  -- the output keeps its length
  as_long : length new ≡ length (replicate {A = ℕ} 65535 0)
  as_long = (normal-text-is-settled s (replicate 14000 0) (replicate 32768 0) (replicate 65535 0) r r vs us new vs us new a a).3

module _ (s vs us new : List ℕ) where
  pub written-prints : (n : ℕ) → NormalTo s (replicate 14000 0) (replicate 32768 0) (replicate 65535 0) (Ok n) vs us new → (n ≤ length new) × (take n new ≡ printed s)
  written-prints n a =
      let w = wrote-only (replicate 14000 0) (replicate 32768 0) (replicate 65535 0) s n (sym (ap (λ (o : NormalOutcome). o.answer) a)) in
      let t = normal_text w.grammar in
      let f = ltb-false (length (replicate {A = ℕ} 65535 0)) (length t) (both_false (ltb longest (length t)) (ltb (length (replicate {A = ℕ} 65535 0)) (length t)) w.room.room).1 in
      let l = as_long s vs us new (Ok n) a in
      let k = w.size in
      (omega arith, prints s vs us new (Ok n) a)

  pub refused-prints : (f : Refusal) → NormalTo s (replicate 14000 0) (replicate 32768 0) (replicate 65535 0) (Err f) vs us new → refusal_line (refusal_of f) ≡ printed s
  refused-prints f a = prints s vs us new (Err f) a

  pub written-is_text : (n : ℕ) → NormalTo s (replicate 14000 0) (replicate 32768 0) (replicate 65535 0) (Ok n) vs us new → true ≡ prints_text s
  written-is_text n a = which s vs us new (Ok n) a

  pub refused-is_none : (f : Refusal) → NormalTo s (replicate 14000 0) (replicate 32768 0) (replicate 65535 0) (Err f) vs us new → false ≡ prints_text s
  refused-is_none f a = which s vs us new (Err f) a
