-- `tokens::eat_if` meets its contract. Assumes nothing.
use Rattle.tokens.proofs.Stops.{stopped}
use Rattle.tokens.proofs.Stream.{eat_no, eat_yes, eat-refused}
use Rattle.tokens.proofs.eat_if.Goals as goal

pub returns-then-not-test : goal.returns-then-not-test
returns-then-not-test c = eat_no _ _ c.if-not-test.true

pub returns-in_err-after : goal.returns-in_err-after
returns-in_err-after c = rw (stopped c.from_residual.result c.from_residual.ensures.1) (eat-refused _ _ c.if-not-test.false c.in_err-after.ensures.0)

pub returns : goal.returns
returns c = eat_yes _ _ c.if-not-test.false c.in_ok-after.ensures
