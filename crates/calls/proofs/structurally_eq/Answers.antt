-- `structurally_eq` meets its contract.
-- Assumes nothing.
use Rattle.std.proofs.Common.{rules}
use mathlib.Core.Path.{◌≡◌}
use Rattle.tree.specs.OneTree.{is_expression, build}
use Rattle.tree.specs.Promise.{comparison}
use Rattle.calls.specs.Promise.{CompareTo}
use Rattle.calls.proofs.Mapped.{with_other_error}
use Rattle.calls.proofs.CompareLaws.{compared, compared_not}
use Rattle.calls.proofs.structurally_eq.Goals as goal

pub returns : goal.returns
returns c =
    with_other_error (λ o. o ≡ comparison (build is_expression c.args.left.records.now c.args.left.texts.now) (build is_expression c.args.right.records.now c.args.right.texts.now))
    (λ r. CompareTo c.args.left.records.now c.args.left.texts.now c.args.right.records.now c.args.right.texts.now r) _ _ c.map_err.ensures.cases
    (λ x k. compared _ _ _ _ k) (λ e f l k. compared_not _ _ _ _ k f (search rules)) c.structurally_eq.ensures
