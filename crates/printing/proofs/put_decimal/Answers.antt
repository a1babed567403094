-- `printing::put_decimal` meets its contract. Assumes nothing.
use native.Mathlib.Omega.{arith}
use Rattle.printing.proofs.Decimals.{of_word}
use Rattle.printing.proofs.put_decimal.Goals as goal

pub returns : goal.returns
returns c = of_word (omega arith) c.put_digits.ensures
