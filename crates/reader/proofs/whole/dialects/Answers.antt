-- `whole::dialects` meets its contract.
-- Assumes nothing.
use Rattle.tokens.proofs.Stops.{stopped}
use Rattle.reader.proofs.WholeLaws.{names_no, names-arrive, names_ready, names-read, names-halt}
use Rattle.reader.proofs.whole.dialects.Goals as goal

pub returns-in_default-clause-names : goal.returns-in_default-clause-names
returns-in_default-clause-names c = names_no _ c.args.noted _ c.in_default.is

pub returns-in_err-keyword-clause-names : goal.returns-in_err-keyword-clause-names
returns-in_err-keyword-clause-names c =
    rw (stopped c.from_residual.result c.from_residual.ensures.1) (names-arrive _ c.args.noted c.in-Some.last c.in-Some.is c.requires.0 c.in_err-keyword.ensures.0)

pub parse_names-requires : goal.parse_names-requires
parse_names-requires c =
    names_ready _ c.args.noted c.in-Some.last c.in-Some.is c.requires.0 c.in_ok-keyword.keyword c.in_ok-keyword.ensures c.requires.1 c.requires.2 c.requires.3

pub returns-in_err-count-clause-names : goal.returns-in_err-count-clause-names
returns-in_err-count-clause-names c =
    rw (stopped c.from_residual-in_err-count.result c.from_residual-in_err-count.ensures.1)
    (names-halt _ c.args.noted c.in-Some.last c.in-Some.is c.requires.0 c.in_ok-keyword.keyword c.in_ok-keyword.ensures c.in_err-count.ensures.parses)

pub returns-clause-names : goal.returns-clause-names
returns-clause-names c =
    names-read _ c.args.noted c.in-Some.last c.in-Some.is c.requires.0 c.in_ok-keyword.keyword c.in_ok-keyword.ensures _ _ c.in_ok-count.ensures.parses
