-- The number that falls with each call among the functions on expressions: the bytes that are left, and where they are the same, the place
-- of the function in the grammar.
-- Assumes nothing.
use Prim.Native.Nat.{ℕ, suc, ◌≤◌, ◌<◌, ◌+◌, ◌-◌, ◌*◌}
use native.Mathlib.Omega.{arith}
use mathlib.Core.Path.{◌≡◌}
use mathlib.Core.List.{List}
use lib.ListN.{length}
use Rattle.parser.specs.Steps.{placed, Onward}
use Rattle.parser.proofs.Onward.{placed_in}
use Rattle.lexer.specs.declared.Token.{Token}

abbrev pub rank : List ℕ → Token → ℕ → ℕ
rank s t r = (length s - placed s t) * 32 + r

-- further on any function may be called; at the same place only a later one
module _ {s : List ℕ} {t u : Token} where
  pub falls_past : {i n : ℕ} (r q : ℕ) → Onward s t u (suc i) → rank s t r ≡ n → q ≤ 31 → rank s u q < n
  falls_past r q o e h = let a = o.ahead in let b = placed_in s u o.lies in omega arith

  pub falls_on : {i n : ℕ} (r q : ℕ) → Onward s t u i → rank s t r ≡ n → q < r → rank s u q < n
  falls_on r q o e h = let a = o.ahead in let b = placed_in s u o.lies in omega arith
