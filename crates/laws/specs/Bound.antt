-- A loop of the parser never meets its bound. Statements only; the proofs, for each loop, are in `proofs/TakesExpressions.antt` and
-- `proofs/TakesDeclarations.antt`.
-- Assumes nothing.
use Rattle.std.specs.Prelude.{ℕ, zero, suc, ◌≤◌, ◌≡◌, List, [], ◌∷◌, ◌++◌}
use Rattle.std.proofs.Math.Option.{Option, none, some}
use Rattle.lexer.specs.Tokens.{Tokens}
use Rattle.notation.specs.Parser.{Parser, pure, size, turns, loop, ◌>>=◌}

module _ {S A : Type 0} where
  -- `turns` with `out` in place of the refusal where no turns are left
  unfoldable pub turns_or : (List A → Parser S (List A)) → ℕ → (List A → Parser S (Option A)) → List A → Parser S (List A)
  turns_or out zero step before = out before
  turns_or out (suc n) step before = do
    x ← step before
    elim x [ none ↦ pure before | some a ↦ turns_or out n step (before ++ a ∷ []) ]

  -- The turns that `loop` has are enough: more of them change nothing, and nor does what would happen without any left.
  pub record Enough (step : List A → Parser S (Option A)) : Type 0 where
    pub more : (ts : Tokens S) (n : ℕ) → suc (suc (size ts)) ≤ n → turns n step [] ts ≡ loop step ts
    pub unmet : (out : List A → Parser S (List A)) (ts : Tokens S) (n : ℕ) → suc (suc (size ts)) ≤ n → turns_or out n step [] ts ≡ loop step ts
