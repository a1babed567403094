-- `writer::rows::Row::put_source` meets its contract. Assumes nothing.
use Rattle.writer.specs.Walk.{source}
use Rattle.output.proofs.Writes.{wrote_none, then}
use Rattle.writer.proofs.Texts.{source-none}
use Rattle.writer.proofs.rows.Row.put_source.Goals as goal

pub returns-in_default : goal.returns-in_default
unfolding source
returns-in_default c = rw (source-none _ c.in_default.not-Source) (wrote_none _)

pub returns : goal.returns
unfolding source
returns c = rw c.in-Source.is (then (then c.put-n.ensures c.upto-a.ensures (rw c.text.ensures at c.put-n-2.ensures)) c.upto-b.ensures c.put.ensures)
