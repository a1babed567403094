-- `lexer::lex_string` meets its contract. Assumes nothing.
use mathlib.Core.Path.{sym, ◌∙◌}
use Rattle.characters.specs.Classes.{is_line_terminator}
use Rattle.lexer.proofs.Pieces.{next_peek, string-done}
use Rattle.lexer.proofs.lex_string.Goals as goal

pub returns : goal.returns
returns c = let p = c.requires in let h = c.body_end.ensures is_line_terminator (λ x r h. h) in
    string-done _ _ p.inside _ _ _ (next_peek _ _ _ p) (sym c.in-Some.is ∙ h)
