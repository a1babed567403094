-- `directives::parse_skip` meets its contract.
-- Assumes nothing.
use native.Mathlib.Omega.{arith}
use Rattle.tokens.proofs.Stops.{stopped}
use Rattle.reader.proofs.RoomyLaws.{roomy_ready, roomy_step, roomy_on}
use Rattle.reader.proofs.TopLaws.{past-onward}
use Rattle.reader.proofs.DirectiveLaws.{plain_asks, keyword_halt, braced_halt, second-refused, scoped_declared, main_declared}
use Rattle.reader.proofs.directives.parse_skip.Goals as goal

pub returns-in_err-keyword-clause-declares : goal.returns-in_err-keyword-clause-declares
returns-in_err-keyword-clause-declares c = rw (stopped c.from_residual.result c.from_residual.ensures.1) (keyword_halt c.args.seen _ c.args.token c.in_err-keyword.ensures.0)

pub braced-requires : goal.braced-requires
braced-requires c = roomy_ready (roomy_step c.requires.0 (past-onward _ _ _ c.in_ok-keyword.ensures c.requires.1 c.requires.0.lies))

pub returns-in_err-inside-clause-declares : goal.returns-in_err-inside-clause-declares
returns-in_err-inside-clause-declares c = rw (stopped c.from_residual-in_err-inside.result c.from_residual-in_err-inside.ensures.1) (braced_halt c.args.seen _ c.args.token _ c.in_ok-keyword.ensures c.in_err-inside.ensures.parses)

pub parse_scoped-requires : goal.parse_scoped-requires
parse_scoped-requires c =
    let g = c.in_ok-inside.ensures.parses in
    (roomy_on (roomy_step c.requires.0 (past-onward _ _ _ c.in_ok-keyword.ensures c.requires.1 c.requires.0.lies)) g.yields.onward g.yields.lays, g.yields.shown.small)

pub returns-then-mark-clause-declares : goal.returns-then-mark-clause-declares
returns-then-mark-clause-declares c =
    scoped_declared c.args.seen _ c.args.token _ c.in_ok-keyword.ensures c.in_ok-inside.ensures.parses c.mark.ensures c.requires.1 c.requires.0.lies c.if-mark.true _ c.parse_scoped.result c.parse_scoped.ensures.scopes

pub returns-then-seen-clause-declares : goal.returns-then-seen-clause-declares
returns-then-seen-clause-declares c = second-refused c.args.seen _ c.args.token _ c.in_ok-keyword.ensures c.in_ok-inside.ensures.parses c.mark.ensures c.if-mark.false c.if-seen.true c.start.ensures

pub put_plain-requires : goal.put_plain-requires
put_plain-requires c =
    let g = c.in_ok-inside.ensures.parses in
    plain_asks (roomy_on (roomy_step c.requires.0 (past-onward _ _ _ c.in_ok-keyword.ensures c.requires.1 c.requires.0.lies)) g.yields.onward g.yields.lays) g.yields.shown.small (omega arith)

pub returns-clause-declares : goal.returns-clause-declares
returns-clause-declares c =
    rw c.of_kind.ensures
    (main_declared c.args.seen _ c.args.token _ c.in_ok-keyword.ensures c.in_ok-inside.ensures.parses c.mark.ensures c.requires.1 c.requires.0.lies c.if-mark.false c.if-seen.false c.put_plain.ensures.stores)
