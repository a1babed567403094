-- `top::parse_prop_source` meets its contract.
-- Assumes nothing.
use Rattle.tree.specs.Stored.{declaration_branch}
use Rattle.notation.specs.Declarations.{parse_external_prop_source}
use Rattle.parser.specs.Storing.{nodes_of}
use Rattle.declarations.specs.Sources.{from_branch}
use Rattle.reader.proofs.TopLaws.{parses_as, past_not, past_ready, parses_past, prop_source_by, prop-source-is, prop-source-nodes}
use Rattle.tokens.proofs.Stops.{stopped}
use Rattle.reader.proofs.top.parse_prop_source.Goals as goal

pub returns-in_err-word-clause-parses : goal.returns-in_err-word-clause-parses
returns-in_err-word-clause-parses c = rw (stopped c.from_residual.result c.from_residual.ensures.1) (past_not _ _ (parse_external_prop_source c.args.start) c.in_err-word.ensures.0)

pub parse_from-requires : goal.parse_from-requires
parse_from-requires c = (past_ready _ _ _ c.in_ok-word.ensures c.requires.1 c.requires.0.lies c.requires.0, c.requires.2)

pub returns-clause-parses : goal.returns-clause-parses
returns-clause-parses c =
    parses_past _ _ _ c.in_ok-word.ensures c.requires.1 c.requires.0.lies (parse_external_prop_source c.args.start) (nodes_of declaration_branch) _ _ c.parse_from.result
    (parses_as (prop_source_by c.args.start) (nodes_of (from_branch 19 c.args.start)) (nodes_of declaration_branch) (prop-source-nodes c.args.start) _ _ (prop-source-is c.args.start _) _ _ _ _ c.parse_from.result c.parse_from.ensures.parses)
