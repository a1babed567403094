-- The lines of a grammar, by its lists.
-- Assumes nothing.
use mathlib.Core.Path.{◌≡◌, refl}
use mathlib.Core.List.{[], ◌++◌, map}
use Rattle.tree.specs.Syntax.{GrammarDeclaration}
use Rattle.spelling.specs.NormalText.{declaration_tokens, dialects_lines, external_prop_tokens, detect_lines, lines}

pub lines_of : {S : Type 0} (g : GrammarDeclaration S)
    → lines g ≡ map (λ d. declaration_tokens d []) g.declarations ++ dialects_lines g.dialects ++ map (λ x. external_prop_tokens x []) g.external_props ++ detect_lines g.auto_delimiters
unfolding lines
lines_of g = refl
