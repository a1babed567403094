-- `tokens::expect_punctuation` meets its contract. Assumes nothing.
use Rattle.tokens.proofs.Stops.{stopped}
use Rattle.tokens.proofs.Stream.{expect_yes, expect_no, expect-refused}
use Rattle.tokens.proofs.expect_punctuation.Goals as goal

pub returns-in_err-after : goal.returns-in_err-after
returns-in_err-after c = rw (stopped c.from_residual.result c.from_residual.ensures.1) (expect-refused _ _ _ c.in_err-after.ensures)

-- the cause is looked at as it is handed on, so that an edit that hands on another is refused for that cause
pub returns-in_default : goal.returns-in_default
returns-in_default c = let cause = c.unexpected.ensures.0 in expect_no _ _ _ (rw c.in_default.is at c.in_ok-after.ensures) (cc, c.unexpected.ensures.1)

pub returns : goal.returns
returns c = expect_yes _ _ _ (rw c.in-Some.is at c.in_ok-after.ensures)
