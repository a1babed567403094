-- `output::put_code` meets its contract. Assumes nothing.
use native.Mathlib.Omega.{arith}
use mathlib.Core.List.{[]}
use Rattle.output.proofs.Digits.{code-parts, hex-small}
use Rattle.output.proofs.Writes.{then}
use Rattle.output.proofs.put_code.Goals as goal

pub overflow_add-n : goal.overflow_add-n
overflow_add-n c = omega (arith, c.put-n.ensures.counts, c.put_hex-n.ensures.counts, hex-small 6 c.args.code [])

pub overflow_add-result : goal.overflow_add-result
overflow_add-result c = omega (arith, c.put-n.ensures.counts, c.put_hex-n.ensures.counts, hex-small 6 c.args.code [], c.put.ensures.counts)

pub returns : goal.returns
returns c = rw (← code-parts _) (then (then c.put-n.ensures c.upto-a.ensures c.put_hex-n.ensures) c.upto-b.ensures c.put.ensures)
