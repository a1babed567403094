-- Which of the two the program prints: a normal text, or the line of a refusal.
-- Assumes nothing.
use Rattle.std.specs.Prelude.{ℕ, Bool, true, false, List, replicate}
use Rattle.grammar.specs.Calls.{NormalAnswer, written, refused, normal}

-- the answer is a normal text
abbrev pub is_text : NormalAnswer → Bool
is_text (written n) = true
is_text (refused r) = false

-- what is printed for a text is a normal text; the program lends as much as `printed` says
unfoldable pub prints_text : List ℕ → Bool
unfolding normal
prints_text text = is_text (normal text (replicate 14000 0) (replicate 32768 0) (replicate 65535 0)).answer
