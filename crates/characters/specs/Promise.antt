-- What the functions' contracts say beside the definitions.
-- Assumes nothing.
use Rattle.std.specs.Prelude.{ℕ, ◌+◌, ◌≤◌, ◌<◌, ◌≡◌, Bool, true, ◌&&◌, ◌||◌, List, [], ◌∷◌, ◌++◌, leb, ltb, eqb, length, get_or, take, drop}
use Rattle.basics.specs.Basics.{if◌then◌otherwise◌, is, within}
use Rattle.characters.specs.Utf8.{is_scalar, encode, width}
use Rattle.characters.specs.Spans.{Span}
use Rattle.characters.specs.Places.{chars_at, past, run}

-- b may come second after a first byte of two or more: the second column of table 3-7
unfoldable pub is_second : (a b : ℕ) → Bool
is_second a b =
    if eqb a 0xE0 then within 0xA0 0xBF b
    otherwise if eqb a 0xED then within 0x80 0x9F b
    otherwise if eqb a 0xF0 then within 0x90 0xBF b
    otherwise if eqb a 0xF4 then within 0x80 0x8F b
    otherwise within 0x80 0xBF b

-- the place where the run of characters that pass a test ends: `scan_while`
unfoldable pub run_end : (ℕ → Bool) → List ℕ → ℕ → ℕ
run_end p text at = past at (run p (chars_at text at)) (chars_at text at)

-- the character c, of one byte, stands at a place
pub record Next (text : List ℕ) (at c : ℕ) : Type 0 where
  pub inside : at + 1 ≤ length text
  pub chars : chars_at text at ≡ c ∷ chars_at text (at + 1)

-- the bytes bs laid over those from a place on, where they fit
unfoldable pub written : List ℕ → ℕ → List ℕ → List ℕ
written out at bs = if leb (at + length bs) (length out) then take at out ++ bs ++ drop (at + length bs) out otherwise out

-- characters written one after another, each where it fits
unfoldable pub written_all : List ℕ → ℕ → List ℕ → List ℕ
written_all out at [] = out
written_all out at (c ∷ cs) = written_all (written out at (encode c)) (at + width c) cs

-- the bytes of a scalar; a code that is none has no bytes
unfoldable pub scalar_bytes : ℕ → List ℕ
scalar_bytes c = if is_scalar c then encode c otherwise []

-- an ASCII letter: below 0x80, Alphabetic is that
unfoldable pub is_ascii_letter : ℕ → Bool
is_ascii_letter c = within 0x41 0x5A c || within 0x61 0x7A c

-- ASCII white space: below 0x80, White_Space is that
unfoldable pub is_ascii_space : ℕ → Bool
is_ascii_space c = eqb c 0x20 || within 0x09 0x0D c

-- an ASCII character of names
unfoldable pub is_ascii_word : ℕ → Bool
is_ascii_word c = is "_" c || is "-" c || within 0x30 0x39 c || is_ascii_letter c

-- ------------------------------------------------------------------ tables of spans

-- the ends of spans, one after another
unfoldable pub flat : List Span → List ℕ
flat [] = []
flat (s ∷ ss) = s.first ∷ s.past ∷ flat ss

-- each entry is above the one before it, the first above a
unfoldable pub ascending : ℕ → List ℕ → Bool
ascending a [] = true
ascending a (b ∷ l) = ltb a b && ascending b l

-- the first k entries are at most x, and the others above it
pub record Split (l : List ℕ) (x k : ℕ) : Type 0 where
  pub within : k ≤ length l
  pub upto : (i : ℕ) → i < k → get_or l i 0 ≤ x
  pub rest : (i : ℕ) → k ≤ i → i < length l → x < get_or l i 0
