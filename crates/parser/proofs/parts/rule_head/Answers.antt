-- `parts::rule_head` meets its contract.
-- Assumes nothing.
use Rattle.parser.proofs.HeadRules.{head-props, head-params, heads}
use Rattle.tokens.proofs.Stops.{stopped}
use Rattle.parser.proofs.parts.rule_head.Goals as goal

pub returns-in_err-token-clause-parses : goal.returns-in_err-token-clause-parses
returns-in_err-token-clause-parses c = rw (stopped c.from_residual.result c.from_residual.ensures.1) (head-props _ c.in_err-token.ensures.parses)

pub returns-in_err-token-2-clause-parses : goal.returns-in_err-token-2-clause-parses
returns-in_err-token-2-clause-parses c = rw (stopped c.from_residual-in_err-token-2.result c.from_residual-in_err-token-2.ensures.1) (head-params _ c.in_ok-token.ensures.parses.gives c.in_err-token-2.ensures.parses)

pub returns-clause-parses : goal.returns-clause-parses
returns-clause-parses c = heads c.in_ok-token.ensures.parses c.in_ok-token-2.ensures.parses
