-- `directives::parse_external_tokens` meets its contract.
-- Assumes nothing.
use native.Mathlib.Omega.{arith}
use Rattle.tokens.proofs.Stops.{stopped}
use Rattle.tree.specs.Stored.{declaration_branch}
use Rattle.notation.specs.Declarations.{parse_external_tokens}
use Rattle.parser.specs.Storing.{nodes_of}
use Rattle.reader.proofs.RoomyLaws.{roomy_step}
use Rattle.reader.proofs.TopLaws.{past_not, past-onward, parses_past}
use Rattle.reader.proofs.DirectiveLaws.{external-parsed}
use Rattle.reader.proofs.directives.parse_external_tokens.Goals as goal

pub returns-in_err-word-clause-parses : goal.returns-in_err-word-clause-parses
returns-in_err-word-clause-parses c = rw (stopped c.from_residual.result c.from_residual.ensures.1) (past_not _ _ _ c.in_err-word.ensures.0)

pub parse_external_set-requires : goal.parse_external_set-requires
parse_external_set-requires c = (roomy_step c.requires.0 (past-onward _ _ _ c.in_ok-word.ensures c.requires.1 c.requires.0.lies), c.requires.2, omega arith)

pub returns-clause-parses : goal.returns-clause-parses
returns-clause-parses c =
    parses_past _ _ _ c.in_ok-word.ensures c.requires.1 c.requires.0.lies (parse_external_tokens c.args.start) (nodes_of declaration_branch) _ _ c.parse_external_set.result
    (external-parsed c.args.start _ _ _ _ c.parse_external_set.result c.parse_external_set.ensures.parses)
