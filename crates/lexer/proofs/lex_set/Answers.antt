-- `lexer::lex_set` meets its contract. Assumes nothing.
use mathlib.Core.Path.{sym, ◌∙◌}
use Rattle.std.proofs.Common.{rules}
use Rattle.lexer.specs.Tokens.{never}
use Rattle.lexer.proofs.Pieces.{set-done}
use Rattle.lexer.proofs.lex_set.Goals as goal

pub returns : goal.returns
returns c = let h = c.body_end.ensures never (λ x r h. search rules) in set-done _ _ c.requires.0 _ _ _ c.requires.1 (sym c.in-Some.is ∙ h)
