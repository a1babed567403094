-- `directives::parse_local` meets its contract.
-- Assumes nothing.
use Rattle.tokens.proofs.Stops.{stopped}
use Rattle.parser.specs.Storing.{nodes_of}
use Rattle.reader.specs.Directives.{local_at, local_branch}
use Rattle.reader.proofs.RoomyLaws.{roomy_ready, roomy_step}
use Rattle.reader.proofs.TopLaws.{start-within, past_not, past-onward, parses_past}
use Rattle.reader.proofs.directives.parse_local.Goals as goal

pub returns-in_err-keyword-clause-parses : goal.returns-in_err-keyword-clause-parses
returns-in_err-keyword-clause-parses c = rw (stopped c.from_residual.result c.from_residual.ensures.1) (past_not _ _ _ c.in_err-keyword.ensures.0)

pub parse_local_tokens-requires : goal.parse_local_tokens-requires
parse_local_tokens-requires c = (roomy_step c.requires.0 (past-onward _ _ _ c.in_ok-keyword.ensures c.requires.1 c.requires.0.lies), start-within (roomy_ready c.requires.0) c.start.ensures)

pub returns-clause-parses : goal.returns-clause-parses
returns-clause-parses c = parses_past _ _ _ c.in_ok-keyword.ensures c.requires.1 c.requires.0.lies (local_at _) (nodes_of local_branch) _ _ c.parse_local_tokens.result (rw c.start.ensures at c.parse_local_tokens.ensures.parses)
