use Prim.Native.Nat.{◌-◌}
use mathlib.Core.Path.{◌≡◌}
use Rattle.tree.proofs.Equal.{same_from}
use Rattle.tree.proofs.Tree.structurally_eq.Given as goal

abbrev pub invariant-loop-i : goal.invariant-loop-i
invariant-loop-i l =
    same_from l.self.records.now l.self.texts.now l.other.records.now l.other.texts.now l.i (l.i-end - l.i)
    ≡ same_from l.self.records.now l.self.texts.now l.other.records.now l.other.texts.now 0 l.i-end
