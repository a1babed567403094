-- Lines and columns of places in bytes: `line_info` of the Rust.
-- Assumes nothing.
use Rattle.std.specs.Prelude.{ℕ, ◌+◌, ◌-◌, List, [], ◌∷◌, take}
use Rattle.basics.specs.Basics.{if◌then◌otherwise◌, is}

-- how many line feeds there are
unfoldable pub line_feeds : List ℕ → ℕ
line_feeds [] = 0
line_feeds (b ∷ bs) = (if is "\n" b then 1 otherwise 0) + line_feeds bs

-- the place after the last line feed of bytes that begin at a place, or s where they have none
unfoldable pub line_start : (s place : ℕ) → List ℕ → ℕ
line_start s p [] = s
line_start s p (b ∷ bs) = line_start (if is "\n" b then p + 1 otherwise s) (p + 1) bs

-- 1 and the line feeds before the place
unfoldable pub line_at : List ℕ → ℕ → ℕ
line_at text p = 1 + line_feeds (take p text)

-- the bytes since the last line feed before the place, or since the start
unfoldable pub column_at : List ℕ → ℕ → ℕ
column_at text p = p - line_start 0 0 (take p text)

-- a refusal: cause, place, line and column
pub record Refusal : Type 0 where
  pub cause : ℕ
  pub place : ℕ
  pub line : ℕ
  pub column : ℕ

-- the refusal by a cause at a place of a text
unfoldable pub refusal_at : List ℕ → (cause place : ℕ) → Refusal
refusal_at text c p = record { cause = c; place = p; line = line_at text p; column = column_at text p }
