-- `tree::Branches::without` meets its contract. The loop's invariant: those left over give the same. Assumes nothing.
use mathlib.Core.Path.{sym, ◌∙◌}
use Rattle.tree.proofs.Matching.{begun, without_yes, without_no}
use Rattle.tree.proofs.Branches.without.Goals as goal

pub before-branches-requires : goal.before-branches-requires
before-branches-requires c = begun _ _ _ _ (sym c.end_in.ensures ∙ c.loop-kinds-test.true)

pub loop-kinds-preserved : goal.loop-kinds-preserved
loop-kinds-preserved c = record {
  records = c.before-branches.ensures.records ∙ c.loop-kinds.invariant.records;
  kinds = rw c.before-branches.ensures.kinds (sym (without_yes _ _ (sym c.end_in.ensures ∙ c.loop-kinds-test.true)) ∙ c.loop-kinds.invariant.kinds);
}

pub returns-clause-kinds : goal.returns-clause-kinds
returns-clause-kinds c = sym (without_no _ _ (sym c.end_in.ensures ∙ c.loop-kinds-test.false)) ∙ c.loop-kinds.invariant.kinds
