use Prim.Native.Nat.{◌+◌, ◌*◌, ◌≤◌}
use lib.ListN.{length}
use Rattle.parser.proofs.Spread.{Spreading}
use Rattle.parser.proofs.store.spread.Given as goal

abbrev pub invariant-loop-i : goal.invariant-loop-i
invariant-loop-i l = (l.n + 7 * l.count ≤ length l.initial.records) × Spreading l.start l.n l.count l.initial.records l.records l.i
