-- What differs is in what is left, and nothing was written.
use Rattle.std.proofs.Common.{◌≡◌, length}
use Rattle.front.specs.Differences.{difference}
use Rattle.front.proofs.put_difference.Given as goal

abbrev pub invariant-loop-a : goal.invariant-loop-a
invariant-loop-a g l = record { same : difference l.left l.right ≡ difference l.a l.b; kept : l.output ≡ l.initial.output }

abbrev pub decreases-loop-a : goal.decreases-loop-a
decreases-loop-a g l = length l.a
