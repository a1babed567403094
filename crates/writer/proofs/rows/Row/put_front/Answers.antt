-- `writer::rows::Row::put_front` meets its contract. Assumes nothing.
use native.Mathlib.Omega.{arith}
use Rattle.writer.specs.Walk.{front}
use Rattle.output.proofs.Writes.{then}
use Rattle.writer.proofs.Small.{bounded, row_small, link-small, lead-small, own-small}
use Rattle.writer.proofs.rows.Row.put_front.Goals as goal

pub overflow_add-n : goal.overflow_add-n
overflow_add-n c = omega (arith, bounded c.put_link-n.ensures (link-small _ _ _), row_small c.args.self.now.lent c.args.self.now.i, bounded c.put_lead-n.ensures (lead-small _ _ _))

pub overflow_add-result : goal.overflow_add-result
overflow_add-result c = omega (arith, bounded c.put_link-n.ensures (link-small _ _ _), row_small c.args.self.now.lent c.args.self.now.i, bounded c.put_lead-n.ensures (lead-small _ _ _), bounded c.put_own.ensures (own-small _), row_small c.args.row.now.lent c.args.row.now.i)

pub returns : goal.returns
unfolding front
returns c = then (then (rw (c.class.ensures, c.args.row.now.kinds) at c.put_link-n.ensures) c.upto-a.ensures (rw (c.setting_of.ensures, c.args.self.now.kinds, c.args.row.now.kinds, c.args.row.now.values) at c.put_lead-n.ensures)) c.upto-b.ensures c.put_own.ensures
