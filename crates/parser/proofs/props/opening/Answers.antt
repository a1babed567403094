-- `props::opening` meets its contract.
-- Assumes nothing.
use Rattle.tokens.proofs.Stops.{stopped}
use Rattle.parser.proofs.Openings.{opening-closed, opening-refused, opening-item, opening_halt}
use Rattle.parser.proofs.props.opening.Goals as goal

pub returns-in_err-after : goal.returns-in_err-after
returns-in_err-after c = rw (stopped c.from_residual.result c.from_residual.ensures.1) (opening-refused _ _ c.requires.0 c.requires.1 _ _ c.in_err-after.ensures)

pub returns-in-Some : goal.returns-in-Some
returns-in-Some c = opening-closed _ _ c.requires.0 c.requires.1 _ _ (rw c.in-Some.is at c.in_ok-after.ensures)

pub returns-in_err-item : goal.returns-in_err-item
returns-in_err-item c = rw (stopped c.from_residual-in_err-item.result c.from_residual-in_err-item.ensures.1) (opening_halt _ _ c.requires.0 c.requires.1 _ _ (rw c.in_default.is at c.in_ok-after.ensures) c.in_err-item.ensures)

pub returns : goal.returns
returns c = opening-item _ _ c.requires.0 c.requires.1 _ _ (rw c.in_default.is at c.in_ok-after.ensures) c.in_ok-item.ensures
