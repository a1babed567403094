-- What a text written to an output makes of it.
-- Assumes nothing.
use Rattle.std.specs.Prelude.{ℕ, ◌/◌, ◌%◌, ◌≤◌, ◌≡◌, List, [], ◌∷◌, ◌++◌, leb, length, drop}
use Rattle.basics.specs.Basics.{if◌then◌otherwise◌}
use Rattle.spelling.specs.Spelling.{hex_digit}

-- A text goes to the front of an output, and n counts its bytes. Where they are within the output, it is the text and then the old rest;
-- where they are not, nothing is said of the bytes
pub record Wrote (text old new : List ℕ) (n : ℕ) : Type 0 where
  pub counts : n ≡ length text
  pub same : length new ≡ length old
  pub holds : n ≤ length old → new ≡ text ++ drop n old

-- the hexadecimal digit of n at a power of 16, upper case; none where n is below that power
unfoldable pub digit_at : (n unit : ℕ) → List ℕ
digit_at n unit = if leb unit n then hex_digit (n / unit % 16) ∷ [] otherwise []
