-- `output::put_escaped` meets its contract. Assumes nothing.
use mathlib.Core.Path.{sym, ◌∙◌}
use Rattle.spelling.specs.Spelling.{quoted}
use Rattle.spelling.proofs.Back.{quoted_yes, quoted_no}
use Rattle.output.proofs.put_escaped.Goals as goal

pub returns-then-is_special : goal.returns-then-is_special
unfolding quoted
returns-then-is_special c = rw (quoted_yes _ _ (sym c.is_special.ensures ∙ c.if-is_special.true)) c.put.ensures

pub returns-else-is_special : goal.returns-else-is_special
unfolding quoted
returns-else-is_special c = rw (quoted_no _ _ (sym c.is_special.ensures ∙ c.if-is_special.false)) c.put-else-is_special.ensures
