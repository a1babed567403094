-- `printing::put_digits` meets its contract. Assumes nothing.
use Rattle.std.proofs.Common.{arith}
use Rattle.printing.proofs.Decimals.{one-digit, more-digits, word-few}
use Rattle.printing.proofs.+put_digits.Goals as goal

pub returns-then-v-lt10 : goal.returns-then-v-lt10
returns-then-v-lt10 t c = one-digit c.if-v-lt10.true c.put.ensures

pub overflow_add-result : goal.overflow_add-result
overflow_add-result t c = omega (arith, word-few (omega arith) c.put_digits-n.ensures, c.put-2.ensures.counts)

pub returns : goal.returns
returns t c = more-digits c.if-v-lt10.false c.put_digits-n.ensures c.upto-a.ensures c.put-2.ensures
