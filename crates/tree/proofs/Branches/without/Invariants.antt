use mathlib.Core.Path.{◌≡◌}
use Rattle.tree.specs.OneTree.{without}
use Rattle.tree.specs.Promise.{kinds_back, kinds_of}
use Rattle.tree.proofs.Branches.without.Given as goal

abbrev pub invariant-loop-kinds : goal.invariant-loop-kinds
invariant-loop-kinds l = record {
  records : l.branches.records.now ≡ l.self.records.now;
  kinds : without (kinds_of l.kinds) (kinds_back l.branches.records.now l.branches.end l.branches.left) ≡ without (kinds_of l.kinds) (kinds_back l.self.records.now l.self.end l.self.left);
}

abbrev pub decreases-loop-kinds : goal.decreases-loop-kinds
decreases-loop-kinds l = l.branches.left
