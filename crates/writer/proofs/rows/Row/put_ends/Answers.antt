-- `writer::rows::Row::put_ends` meets its contract. Assumes nothing.
use mathlib.Core.Path.{sym, ◌∙◌}
use Rattle.writer.specs.Walk.{ends}
use Rattle.writer.proofs.rows.Row.put_ends.Goals as goal

pub returns-then-is_line : goal.returns-then-is_line
unfolding ends
returns-then-is_line c = rw (sym c.is_bracketed.ensures ∙ c.if-is_bracketed.false, sym c.is_line.ensures ∙ c.if-is_line.true) c.put-then-is_line.ensures
