-- `characters::is_alphabetic` meets its contract. Assumes nothing.
use mathlib.Core.Path.{sym, ◌∙◌}
use Rattle.characters.proofs.Ascii.{ascii-letter}
use Rattle.characters.proofs.is_alphabetic.Goals as goal

pub returns-then-code-lt128 : goal.returns-then-code-lt128
returns-then-code-lt128 c = c.is_ascii_letter.ensures ∙ sym (ascii-letter _ c.if-code-lt128.true)
