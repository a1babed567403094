-- `props::between` meets its contract.
-- Assumes nothing.
use Rattle.tokens.proofs.Stops.{stopped}
use Rattle.parser.proofs.Openings.{between-must, between-may, between-refused, between_none}
use Rattle.parser.proofs.props.between.Goals as goal

pub returns-in_err-after-in-May : goal.returns-in_err-after-in-May
returns-in_err-after-in-May c = rw (stopped c.from_residual.result c.from_residual.ensures.1) (between-refused _ _ c.requires c.in-May.is c.in_err-after-in-May.ensures)

pub returns-in-Must : goal.returns-in-Must
returns-in-Must c = between-must _ _ c.requires c.in-Must.is c.expect_punctuation.ensures

pub returns-in_ok-after-in-May : goal.returns-in_ok-after-in-May
returns-in_ok-after-in-May c = rw c.unwrap_or.ensures (between-may _ _ c.requires c.in_ok-after-in-May.after c.in-May.is c.in_ok-after-in-May.ensures)

pub returns-in-No : goal.returns-in-No
returns-in-No c = between_none _ _ c.requires c.in-No.is
