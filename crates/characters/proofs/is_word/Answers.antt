-- `characters::is_word` meets its contract. Assumes nothing.
use mathlib.Core.Path.{sym, ◌∙◌}
use Rattle.characters.proofs.Ascii.{ascii-word, wide_word}
use Rattle.characters.proofs.is_word.Goals as goal

pub returns-then-code-lt128 : goal.returns-then-code-lt128
returns-then-code-lt128 c = c.is_ascii_word.ensures ∙ sym (ascii-word _ c.if-code-lt128.true)

pub returns : goal.returns
returns c = c.in_alphabetic.ensures ∙ sym (wide_word _ c.if-code-lt128.false)
