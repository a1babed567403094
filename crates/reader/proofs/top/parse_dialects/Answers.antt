-- `top::parse_dialects` meets its contract.
-- Assumes nothing.
use Rattle.reader.specs.Directives.{dialects_at}
use Rattle.reader.proofs.TopLaws.{ready-first, past_not, past_ready, dialects-refused, dialects-declares}
use Rattle.tokens.proofs.Stops.{stopped}
use Rattle.reader.proofs.top.parse_dialects.Goals as goal

pub returns-in_err-keyword-clause-declares : goal.returns-in_err-keyword-clause-declares
returns-in_err-keyword-clause-declares c = rw (stopped c.from_residual.result c.from_residual.ensures.1) (λ before q. past_not _ _ dialects_at c.in_err-keyword.ensures.0)

pub parse_names-requires : goal.parse_names-requires
parse_names-requires c = rw c.measuring.ensures (ready-first (past_ready _ _ _ c.in_ok-keyword.ensures c.requires.1 c.requires.0.lies c.requires.0))

pub returns-in_err-after-clause-declares : goal.returns-in_err-after-clause-declares
returns-in_err-after-clause-declares c = rw (stopped c.from_residual-in_err-after.result c.from_residual-in_err-after.ensures.1) (λ before q. dialects-refused c.args.seen _ _ _ c.in_ok-keyword.ensures c.in_err-after.ensures.parses)

pub returns-clause-declares : goal.returns-clause-declares
returns-clause-declares c = rw c.of_kind.ensures (dialects-declares _ _ _ _ c.in_ok-keyword.ensures c.requires.1 c.requires.0.lies _ c.in_ok-after.ensures.parses)
