-- `writer::rows::Row::put_back` meets its contract. Assumes nothing.
use native.Mathlib.Omega.{arith}
use Rattle.writer.specs.Walk.{back}
use Rattle.output.proofs.Writes.{then}
use Rattle.writer.proofs.Small.{bounded, close-small, ends-small, tail-small}
use Rattle.writer.proofs.rows.Row.put_back.Goals as goal

pub overflow_add-n : goal.overflow_add-n
overflow_add-n c = omega (arith, bounded (rw c.close.ensures at c.put-n.ensures) (close-small _ _ _), bounded c.put_ends-n.ensures (ends-small _ _ _))

pub overflow_add-result : goal.overflow_add-result
overflow_add-result c = omega (arith, bounded (rw c.close.ensures at c.put-n.ensures) (close-small _ _ _), bounded c.put_ends-n.ensures (ends-small _ _ _), bounded (rw c.tail.ensures at c.put.ensures) (tail-small _ _))

pub returns : goal.returns
unfolding back
returns c = then (then (rw (c.close.ensures, c.args.row.now.kinds, c.args.row.now.values, c.last_class.ensures) at c.put-n.ensures) c.upto-a.ensures (rw (c.setting_of.ensures, c.args.self.now.kinds, c.args.row.now.kinds, c.args.row.now.values) at c.put_ends-n.ensures)) c.upto-b.ensures (rw (c.tail.ensures, c.class.ensures, c.args.self.now.kinds, c.args.row.now.kinds) at c.put.ensures)
