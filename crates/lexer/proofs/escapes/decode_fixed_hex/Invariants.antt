use mathlib.Core.Path.{◌≡◌}
use Prim.Native.Nat.{◌+◌, ◌-◌, ◌≤◌}
use Rattle.std.proofs.Common.{max}
use lib.ListN.{length}
use Rattle.lexer.proofs.Escaped.{greatest}
use Rattle.lexer.specs.Promise.{fixed_at}
use Rattle.lexer.proofs.escapes.decode_fixed_hex.Given as goal

abbrev pub invariant-loop-i : goal.invariant-loop-i
invariant-loop-i l = (l.from + l.i ≤ max l.from (length l.body)) × (l.v ≤ greatest (l.k - l.i)) × (fixed_at (l.k - l.i) l.v l.body (l.from + l.i) ≡ fixed_at l.k 0 l.body l.from)
