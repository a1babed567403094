-- Where a text is stopped. Statement only; its proof is in `proofs/StoppedWithin.antt`.
-- Assumes nothing.
use Rattle.std.specs.Prelude.{ℕ, ◌≤◌, ◌≡◌, List, length}
use Rattle.grammar.specs.Reading.{stopped, reading}

-- The place of what stops the reading of a text is the text's length at most.
abbrev pub StoppedWithin : Type 0
StoppedWithin = (text : List ℕ) (cause place : ℕ) → reading text ≡ stopped cause place → place ≤ length text
