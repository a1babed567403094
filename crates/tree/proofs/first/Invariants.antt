use mathlib.Core.Path.{◌≡◌}
use Rattle.tree.specs.Promise.{first_place}
use Rattle.tree.proofs.first.Given as goal

abbrev pub invariant-loop-i : goal.invariant-loop-i
invariant-loop-i l = first_place l.records l.i l.need ≡ first_place l.records l.end l.n
