-- `rules::parse_token_reference` meets its contract.
-- Assumes nothing.
use Rattle.declarations.proofs.RuleReads.{reference-refused, reference-held, reference-rest}
use Rattle.tokens.proofs.Stops.{stopped}
use Rattle.declarations.proofs.rules.parse_token_reference.Goals as goal

pub returns-in_err-inner-clause-parses : goal.returns-in_err-inner-clause-parses
returns-in_err-inner-clause-parses c = rw (stopped c.from_residual.result c.from_residual.ensures.1) (reference-refused _ _ c.in_err-inner.ensures.parses)

pub returns-in-Name-clause-parses : goal.returns-in-Name-clause-parses
returns-in-Name-clause-parses c = reference-held _ c.in_ok-inner.ensures.parses c.in-Name.is

pub returns-in_default-clause-parses : goal.returns-in_default-clause-parses
returns-in_default-clause-parses c = reference-rest _ c.in_ok-inner.ensures.parses c.in_default.not-Name c.in_default.not-Literal
