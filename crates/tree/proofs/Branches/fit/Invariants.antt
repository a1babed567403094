use mathlib.Core.Path.{◌≡◌}
use mathlib.Core.List.{map}
use lib.ListN.{drop}
use Rattle.tree.specs.OneTree.{matches, children_fit}
use Rattle.tree.specs.Promise.{kind_number, kinds_back, group_of}
use Rattle.tree.proofs.Branches.fit.Given as goal

abbrev pub invariant-loop-group : goal.invariant-loop-group
invariant-loop-group l = matches (map group_of (drop l.group-index l.group-items)) (kinds_back l.branches.records.now l.branches.end l.branches.left)
    ≡ children_fit (kind_number l.fn.kind) l.fn.value (kinds_back l.fn.self.records.now l.fn.self.end l.fn.self.left)
