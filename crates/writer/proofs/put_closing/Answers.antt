-- `writer::put_closing` meets its contract. Assumes nothing.
use Rattle.writer.specs.Walk.{closing}
use Rattle.output.proofs.Writes.{then}
use Rattle.writer.proofs.put_closing.Goals as goal

pub returns : goal.returns
unfolding closing
returns c = then (rw c.dialect_end.ensures at c.put-n.ensures) c.upto-a.ensures (rw c.detect_word.ensures at c.put.ensures)
