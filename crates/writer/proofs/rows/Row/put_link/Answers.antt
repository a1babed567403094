-- `writer::rows::Row::put_link` meets its contract. Assumes nothing.
use native.Mathlib.Omega.{arith}
use Rattle.writer.specs.Walk.{link}
use Rattle.output.proofs.Writes.{then}
use Rattle.writer.proofs.Small.{bounded, row_small, between-small, source-small}
use Rattle.writer.proofs.rows.Row.put_link.Goals as goal

pub overflow_add-result : goal.overflow_add-result
overflow_add-result c = omega (arith, bounded c.put_between-n.ensures (between-small _ _ _), bounded c.put_source.ensures (source-small _ _), row_small c.args.self.now.lent c.args.self.now.i)

pub returns : goal.returns
unfolding link
returns c = then (rw c.args.self.now.kinds at c.put_between-n.ensures) c.upto-a.ensures c.put_source.ensures
