-- `writer::rows::Row::put_lead` meets its contract. Assumes nothing.
use mathlib.Core.Path.{sym, ◌∙◌}
use Rattle.writer.specs.Walk.{lead}
use Rattle.writer.proofs.rows.Row.put_lead.Goals as goal

pub returns-then-is_bracketed : goal.returns-then-is_bracketed
unfolding lead
returns-then-is_bracketed c = rw (sym c.is_bracketed.ensures ∙ c.if-is_bracketed.true) c.put.ensures
