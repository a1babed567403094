-- The answer of the byte check as one number.
-- Assumes nothing.
use Rattle.std.specs.Prelude.{ℕ, Result, Ok, Err}
use Rattle.characters.specs.declared.IllFormed.{IllFormed}

-- where the first ill-formed sequence starts, or the length n of the text: `Utf8Error::valid_up_to`
abbrev pub valid_upto : Result (Unit {0}) IllFormed → (n : ℕ) → ℕ
valid_upto (Ok _) n = n
valid_upto (Err e) n = e.at
