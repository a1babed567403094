-- `blocks::conflict_pair` meets its contract.
-- Assumes nothing.
use Rattle.declarations.proofs.BlocksLaws.{pair_halt, pair_comma, pair_second, pair_unclosed, comma-onward, pair_given}
use Rattle.parser.proofs.Ready.{ready_step, ready_on}
use Rattle.tokens.proofs.Stops.{stopped}
use mathlib.Core.Path.{refl}
use Rattle.declarations.proofs.blocks.conflict_pair.Goals as goal

pub returns-in_err-one-clause-parses : goal.returns-in_err-one-clause-parses
returns-in_err-one-clause-parses c = rw (stopped c.from_residual.result c.from_residual.ensures.1) (pair_halt _ c.in_err-one.ensures.parses)

pub between-requires : goal.between-requires
between-requires c = c.in_ok-one.ensures.parses.onward.lies

pub returns-in_err-between-clause-parses : goal.returns-in_err-between-clause-parses
returns-in_err-between-clause-parses c = rw (stopped c.from_residual-in_err-between.result c.from_residual-in_err-between.ensures.1) (pair_comma _ c.in_ok-one.ensures.parses.gives c.in_err-between.ensures.takes)

pub parse_token_reference-requires-2 : goal.parse_token_reference-requires-2
parse_token_reference-requires-2 c = let f = c.in_ok-one.ensures.parses in ready_step (ready_on c.requires f.onward f.lays) (comma-onward _ f c.in_ok-between.ensures)

pub returns-in_err-two-clause-parses : goal.returns-in_err-two-clause-parses
returns-in_err-two-clause-parses c = rw (stopped c.from_residual-in_err-two.result c.from_residual-in_err-two.ensures.1) (pair_second _ c.in_ok-one.ensures.parses.gives c.in_ok-between.ensures.takes c.in_err-two.ensures.parses)

pub returns-in_err-closed-clause-parses : goal.returns-in_err-closed-clause-parses
returns-in_err-closed-clause-parses c = rw (stopped c.from_residual-in_err-closed.result c.from_residual-in_err-closed.ensures.1) (pair_unclosed _ c.in_ok-one.ensures.parses.gives c.in_ok-between.ensures.takes c.in_ok-two.ensures.parses.gives (c.in_err-closed.ensures.expects "}" refl))

pub returns-clause-parses : goal.returns-clause-parses
returns-clause-parses c = pair_given _ c.in_ok-one.ensures.parses c.in_ok-between.ensures c.in_ok-two.ensures.parses c.in_ok-closed.ensures
