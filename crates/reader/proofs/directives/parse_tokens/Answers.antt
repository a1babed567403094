-- `directives::parse_tokens` meets its contract.
-- Assumes nothing.
use native.Mathlib.Omega.{arith}
use Rattle.tokens.proofs.Stops.{stopped}
use Rattle.reader.proofs.RoomyLaws.{roomy_ready, roomy_step}
use Rattle.reader.proofs.TopLaws.{start-within, past-onward}
use Rattle.reader.proofs.DirectiveLaws.{over_asks, tokens_halt, tokens-refused, tokens-given}
use Rattle.reader.proofs.directives.parse_tokens.Goals as goal

pub returns-in_err-keyword-clause-parses : goal.returns-in_err-keyword-clause-parses
returns-in_err-keyword-clause-parses c = rw (stopped c.from_residual.result c.from_residual.ensures.1) (tokens_halt _ _ c.in_err-keyword.ensures.0)

pub parse_block-requires : goal.parse_block-requires
parse_block-requires c = roomy_step c.requires.0 (past-onward _ _ _ c.in_ok-keyword.ensures c.requires.1 c.requires.0.lies)

pub returns-in_err-after-clause-parses : goal.returns-in_err-after-clause-parses
returns-in_err-after-clause-parses c = rw (stopped c.from_residual-in_err-after.result c.from_residual-in_err-after.ensures.1) (tokens-refused _ _ _ c.in_ok-keyword.ensures c.in_err-after.ensures.gathers)

pub put_plain-requires : goal.put_plain-requires
put_plain-requires c = over_asks c.requires.0 (past-onward _ _ _ c.in_ok-keyword.ensures c.requires.1 c.requires.0.lies) c.in_ok-after.ensures.gathers (start-within (roomy_ready c.requires.0) c.start.ensures) (omega arith)

pub returns-clause-parses : goal.returns-clause-parses
returns-clause-parses c = tokens-given _ _ _ c.in_ok-keyword.ensures c.requires.1 c.requires.0.lies c.in_ok-after.ensures.gathers c.start.ensures c.put_plain.ensures.stores
