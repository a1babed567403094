-- `tokens::take` meets its contract. Assumes nothing.
use Rattle.tokens.proofs.Stops.{stopped}
use Rattle.tokens.proofs.Stream.{take-nothing, take-got, take-refused}
use Rattle.tokens.proofs.take.Goals as goal

pub returns-in_default : goal.returns-in_default
returns-in_default c = take-nothing _ _ c.in_default.is c.unexpected.ensures

pub returns-in_err-after : goal.returns-in_err-after
returns-in_err-after c = rw (stopped c.from_residual.result c.from_residual.ensures.1) (take-refused _ _ c.in-Some.is c.in_err-after.ensures.0)

pub returns : goal.returns
returns c = take-got _ _ c.in-Some.is c.in_ok-after.ensures
