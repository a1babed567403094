-- `output::put_digit` meets its contract. Assumes nothing.
use Rattle.output.proofs.Digits.{digit_yes, digit_no}
use Rattle.output.proofs.Writes.{wrote_none}
use Rattle.output.proofs.put_digit.Goals as goal

pub returns-then-unit-code-clause-digit : goal.returns-then-unit-code-clause-digit
returns-then-unit-code-clause-digit c = rw (digit_yes _ _ c.if-unit-code.true, ← c.hex_digit.ensures) c.put.ensures

pub returns-else-unit-code-clause-digit : goal.returns-else-unit-code-clause-digit
returns-else-unit-code-clause-digit c = rw (digit_no _ _ c.if-unit-code.false) (wrote_none _)
