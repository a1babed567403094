-- `writer::rows::Row::last_class` meets its contract. Assumes nothing.
use borrow.Author.Tests.{ne_eqb}
use Rattle.writer.specs.Walk.{last_at}
use Rattle.writer.proofs.rows.Row.last_class.Goals as goal

pub returns-then-word-eq0 : goal.returns-then-word-eq0
unfolding last_at
returns-then-word-eq0 c = rw (← c.word.ensures, c.if-word-eq0.true)

pub returns : goal.returns
unfolding last_at
returns c = rw (c.class_before.ensures, ← c.word.ensures, ne_eqb _ _ c.if-word-eq0.false)
