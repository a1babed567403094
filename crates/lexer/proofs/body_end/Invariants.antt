use mathlib.Core.Path.{◌≡◌}
use mathlib.Core.Bool.{Bool, false}
use Prim.Native.Nat.{ℕ, ◌-◌}
use lib.ListN.{length}
use Rattle.lexer.specs.Promise.{end_of}
use Rattle.lexer.proofs.body_end.Given as goal

abbrev pub invariant-loop-stops : goal.invariant-loop-stops
invariant-loop-stops g l = goal.F-IsAlwaysCallable g l.stops × ((p : ℕ → Bool) → ((c : ℕ) (r : Bool) → goal.F-post g l.stops c r → r ≡ p c) → end_of p l.mark l.source l.cursor false ≡ end_of p l.mark l.source l.from false)

abbrev pub decreases-loop-stops : goal.decreases-loop-stops
decreases-loop-stops g l = length l.source - l.cursor
