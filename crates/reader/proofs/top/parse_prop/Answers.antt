-- `top::parse_prop` meets its contract.
-- Assumes nothing.
use mathlib.Core.Bool.{false}
use Rattle.std.specs.Prelude.{Ok}
use mathlib.Core.Path.{◌∙◌}
use Rattle.tree.specs.Stored.{external_prop_branch}
use Rattle.notation.specs.Members.{external_prop}
use Rattle.notation.specs.Declarations.{parse_external_prop}
use Rattle.parser.specs.Storing.{nodes_of}
use Rattle.reader.specs.Directives.{prop_at}
use Rattle.reader.proofs.TopLaws.{past_not, past-at, past-then, past_ready, parses_past, plain-prop, declares-by, declares_not}
use Rattle.tokens.proofs.Stops.{stopped}
use Rattle.reader.proofs.top.parse_prop.Goals as goal

pub returns-in_err-word-clause-declares : goal.returns-in_err-word-clause-declares
returns-in_err-word-clause-declares c = rw (stopped c.from_residual.result c.from_residual.ensures.1) (λ before q. past_not _ _ (prop_at c.args.start) c.in_err-word.ensures.0)

pub parse_external_prop-requires : goal.parse_external_prop-requires
parse_external_prop-requires c = (past_ready _ _ _ c.in_ok-word.ensures c.requires.1 c.requires.0.lies c.requires.0, c.requires.2)

pub returns-in_err-after-clause-declares : goal.returns-in_err-after-clause-declares
returns-in_err-after-clause-declares c =
    rw (stopped c.from_residual-in_err-after.result c.from_residual-in_err-after.ensures.1)
    (declares_not external_prop _ _ _ (λ before q. past-then (parse_external_prop c.args.start) _ _)
    (past-at _ _ _ c.in_ok-word.ensures (parse_external_prop c.args.start) ∙ c.in_err-after.ensures.parses))

pub returns-clause-declares : goal.returns-clause-declares
returns-clause-declares c =
    rw c.of_kind.ensures
    (declares-by external_prop _ _ (nodes_of external_prop_branch) 25 false _ _ _ _ _ (λ before q. past-then (parse_external_prop c.args.start) _ _) (λ x us q. plain-prop x)
    (parses_past _ _ _ c.in_ok-word.ensures c.requires.1 c.requires.0.lies (parse_external_prop c.args.start) (nodes_of external_prop_branch) _ _ (Ok _) c.in_ok-after.ensures.parses))
