-- How a run of characters that pass a test goes on at a place of a text.
-- Assumes nothing.
use mathlib.Core.Path.{◌≡◌}
use mathlib.Core.Bool.{Bool, true, false}
use mathlib.Core.List.{List, ◌∷◌}
use Prim.Native.Nat.{ℕ, suc, ◌+◌}
use Rattle.std.proofs.Common.{Some, None}
use Rattle.characters.specs.Places.{decode_at, past, run}
use Rattle.characters.specs.Promise.{run_end}
use Rattle.characters.proofs.Chars.{codes-on, codes_off, stands_at}

module _ (p : ℕ → Bool) (c : ℕ) (cs : List ℕ) where
  pub run_yes : p c ≡ true → run p (c ∷ cs) ≡ suc (run p cs)
  unfolding run
  run_yes w = rw (w, run)

  pub run_no : p c ≡ false → run p (c ∷ cs) ≡ 0
  unfolding run
  run_no w = rw (w, run)

module _ (p : ℕ → Bool) (s : List ℕ) (at : ℕ) where
  pub run_on : {c n : ℕ} → decode_at s at ≡ Some (c, n) → p c ≡ true → run_end p s at ≡ run_end p s (at + n)
  unfolding run_end past
  run_on e w = rw (codes-on s at e, run_yes p _ _ w, (stands_at s at e).wide)

  pub run_off : {c n : ℕ} → decode_at s at ≡ Some (c, n) → p c ≡ false → run_end p s at ≡ at
  unfolding run_end past
  run_off e w = rw (codes-on s at e, run_no p _ _ w)

  pub run-ill : decode_at s at ≡ None → run_end p s at ≡ at
  unfolding run_end run past
  run-ill e = rw (codes_off s at e)
