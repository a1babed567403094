-- `printing::put_numbered` meets its contract. Assumes nothing.
use mathlib.Core.List.{[]}
use native.Mathlib.Omega.{arith}
use Rattle.output.proofs.Writes.{then}
use Rattle.printing.proofs.Decimals.{digits-few}
use Rattle.printing.proofs.put_numbered.Goals as goal

pub overflow_add-result : goal.overflow_add-result
overflow_add-result c = omega (arith, c.put-n.ensures.counts, c.put_decimal.ensures.counts, digits-few 20 c.args.v [])

pub returns-clause-text : goal.returns-clause-text
returns-clause-text c = then c.put-n.ensures c.upto-a.ensures c.put_decimal.ensures

pub returns-clause-few : goal.returns-clause-few
returns-clause-few c = omega (arith, c.put-n.ensures.counts, c.put_decimal.ensures.counts, digits-few 20 c.args.v [])
