-- `writer::rows::Row::put_own` meets its contract. Assumes nothing.
use native.Mathlib.Omega.{arith}
use Rattle.writer.specs.Walk.{own}
use Rattle.output.proofs.Writes.{then}
use Rattle.writer.proofs.Small.{bounded, row_small, before_small, spelled-small, after_small}
use Rattle.writer.proofs.rows.Row.put_own.Goals as goal

pub overflow_add-n : goal.overflow_add-n
overflow_add-n c = omega (arith, bounded (rw c.before-2.ensures at c.put-n.ensures) (before_small _ _), bounded c.put_spelled-n.ensures (spelled-small _), row_small c.args.self.now.lent c.args.self.now.i)

pub overflow_add-result : goal.overflow_add-result
overflow_add-result c = omega (arith, bounded (rw c.before-2.ensures at c.put-n.ensures) (before_small _ _), bounded c.put_spelled-n.ensures (spelled-small _), row_small c.args.self.now.lent c.args.self.now.i, bounded (rw c.after.ensures at c.put.ensures) (after_small _ _))

pub returns : goal.returns
unfolding own
returns c = then (then (rw (c.before-2.ensures, c.args.self.now.kinds, c.args.self.now.values) at c.put-n.ensures) c.upto-a.ensures c.put_spelled-n.ensures) c.upto-b.ensures (rw (c.after.ensures, c.args.self.now.kinds, c.args.self.now.values) at c.put.ensures)
