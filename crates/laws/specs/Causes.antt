-- By what a text is stopped. Statement only; its proof is in `proofs/Stopped.antt`.
-- Assumes nothing.
use Rattle.std.specs.Prelude.{ℕ, ◌≤◌, ◌≡◌, List}
use Rattle.error.specs.Causes.{too_long, overlapping_span}
use Rattle.grammar.specs.Reading.{stopped, reading}

-- What stops the reading of a text is one of 1 to 21: never 0, which says that nothing does, and never the want of what a caller lends.
abbrev pub StoppedByItself : Type 0
StoppedByItself = (text : List ℕ) (cause place : ℕ) → reading text ≡ stopped cause place → (too_long ≤ cause) × (cause ≤ overlapping_span)
