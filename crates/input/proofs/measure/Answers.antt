-- `measure` meets its contract.
-- Assumes nothing.
use Rattle.lexer.specs.Promise.{tokens_at}
use Rattle.tokens.proofs.Stops.{stopped}
use Rattle.reader.proofs.ParseLaws.{grammar_not, first-is}
use Rattle.input.proofs.measure.Goals as goal

pub returns-in_err-token : goal.returns-in_err-token
returns-in_err-token c = rw (stopped c.from_residual.result c.from_residual.ensures.1) (grammar_not (tokens_at _ 0) c.in_err-token.ensures.0)

pub measure-requires : goal.measure-requires
measure-requires c = rw (c.new.ensures.0, c.new.ensures.1) (c.requires, first-is c.in_ok-token.ensures)
