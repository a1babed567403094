-- `tree::Branches::fit` meets its contract. The loop's invariant: the groups that are left match the children that are left just where all
-- groups match all children. Assumes nothing.
use mathlib.Core.Path.{sym, ◌∙◌}
use Rattle.tree.proofs.Matching.{begun, each_left, one_left, one_missing, most_left, most_missing, none-left}
use Rattle.tree.proofs.Branches.fit.Goals.{in-Each, in-One+else-not-end_in, in-AtMostOne+then-end_in, in-AtMostOne+else-end_in}
use Rattle.tree.proofs.Branches.fit.Goals as goal

pub loop-group-init : goal.loop-group-init
loop-group-init c = rw c.groups-group-items.ensures

pub returns-then-not-end_in : goal.returns-then-not-end_in
returns-then-not-end_in c = one_missing _ _ _ c.loop-group-test.true _ _ c.in-One.is (sym c.end_in.ensures ∙ c.if-not-end_in.true) ∙ c.loop-group.invariant

pub before-branches-requires : goal.before-branches-requires
before-branches-requires c = begun _ _ _ _ (sym c.end_in.ensures ∙ c.if-not-end_in.false)

pub before-branches-requires-then-end_in : goal.before-branches-requires-then-end_in
before-branches-requires-then-end_in c = begun _ _ _ _ (sym c.end_in-in-AtMostOne.ensures ∙ c.if-end_in.true)

pub loop-group-preserved : goal.loop-group-preserved
loop-group-preserved c = elim c.match-group.branch [
  | in-Each w ↦ rw (w.branches-is, w.without-branches.ensures.kinds) (each_left _ _ _ c.loop-group-test.true _ _ w.in-Each.is ∙ c.loop-group.invariant)
  | in-One+else-not-end_in w ↦
      rw (w.branches-is, w.before-branches.ensures.kinds) (one_left _ _ _ c.loop-group-test.true _ _ w.in-One.is (sym w.end_in.ensures ∙ w.if-not-end_in.false) ∙ c.loop-group.invariant)
  | in-AtMostOne+then-end_in w ↦
      rw (w.branches-is, w.before-branches-then-end_in.ensures.kinds) (most_left _ _ _ c.loop-group-test.true _ _ w.in-AtMostOne.is (sym w.end_in-in-AtMostOne.ensures ∙ w.if-end_in.true) ∙ c.loop-group.invariant)
  | in-AtMostOne+else-end_in w ↦
      rw w.branches-is (most_missing _ _ _ c.loop-group-test.true _ _ w.in-AtMostOne.is (sym w.end_in-in-AtMostOne.ensures ∙ w.if-end_in.false) ∙ c.loop-group.invariant)
]

pub returns : goal.returns
returns c = none-left _ _ c.loop-group-test.false _ _ _ ∙ c.loop-group.invariant
