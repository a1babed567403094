-- Members that are read twice.
-- Assumes nothing.
use Prim.Native.Nat.{ℕ}
use mathlib.Core.Path.{◌≡◌}
use mathlib.Core.List.{List}
use Rattle.lexer.specs.Tokens.{Tokens}
use Rattle.notation.specs.Parser.{Answer, read}

-- one answer has one value
pub together : {M : Type 0} {D : Answer ℕ (List M)} {xs ys : List M} {vs us : Tokens ℕ} → D ≡ read xs vs → D ≡ read ys us → xs ≡ ys
together p q = cc
