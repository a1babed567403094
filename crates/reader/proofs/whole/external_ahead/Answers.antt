-- `whole::external_ahead` meets its contract.
-- Assumes nothing.
use mathlib.Core.Path.{◌∙◌}
use Rattle.reader.proofs.AheadLaws.{ahead_none, ahead-named}
use Rattle.reader.proofs.whole.external_ahead.Goals as goal

pub returns-in_default : goal.returns-in_default
returns-in_default c = ahead_none (rw c.in_default.is at c.next.ensures.0)

pub returns : goal.returns
returns c = c.external_kind.ensures ∙ rw c.name.ensures (ahead-named _ c.in-Ok.word (rw c.in-Ok.is at c.next.ensures.0))
