-- `characters::is_whitespace` meets its contract. Assumes nothing.
use mathlib.Core.Path.{sym, ◌∙◌}
use Rattle.characters.proofs.Ascii.{ascii-space}
use Rattle.characters.proofs.is_whitespace.Goals as goal

pub returns-then-code-lt128 : goal.returns-then-code-lt128
returns-then-code-lt128 c = c.is_ascii_space.ensures ∙ sym (ascii-space _ c.if-code-lt128.true)
