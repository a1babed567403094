-- `lexer::lex_at` meets its contract. Assumes nothing.
use mathlib.Core.Path.{sym, ◌∙◌}
use Rattle.lexer.proofs.Pieces.{at_bare, at_lexes}
use Rattle.lexer.proofs.lex_at.Goals as goal

pub returns-then-end-name_start : goal.returns-then-end-name_start
returns-then-end-name_start c = at_bare _ _ c.requires (sym c.scan_word-end.ensures ∙ c.if-end-name_start.true)

pub returns : goal.returns
returns c = at_lexes _ _ c.requires _ c.scan_word-end.ensures c.if-end-name_start.false
