-- Places in the bytes of a text, and the characters that stand there.
-- Assumes nothing.
use Rattle.std.specs.Prelude.{Option, Some, None, Bool, true, false, List, [], ◌∷◌, ℕ, zero, suc, ◌+◌, ◌-◌, take, drop}
use Rattle.basics.specs.Basics.{head}
use Rattle.characters.specs.Utf8.{first_char, codes, width}

-- the character at a place
unfoldable pub decode_at : List ℕ → ℕ → Option (ℕ × ℕ)
decode_at text at = first_char (drop at text)

-- the characters from a place on
abbrev pub chars_at : List ℕ → ℕ → List ℕ
chars_at text at = codes (drop at text)

-- the first of them, or 0
unfoldable pub peek_at : List ℕ → ℕ → ℕ
peek_at text at = head (chars_at text at)

-- the first of some characters, if there is one
abbrev pub first_of : List ℕ → Option ℕ
first_of [] = None
first_of (c ∷ cs) = Some c

-- the first character from a place on, if there is one
unfoldable pub first_at : List ℕ → ℕ → Option ℕ
first_at text at = first_of (chars_at text at)

-- the part of a text from a place to another, `&text[a..e]`
abbrev pub cut : List ℕ → ℕ → ℕ → List ℕ
cut text a e = take (e - a) (drop a text)

-- the place after the first k of the characters that begin at a place
unfoldable pub past : ℕ → ℕ → List ℕ → ℕ
past at zero cs = at
past at (suc k) [] = at
past at (suc k) (c ∷ cs) = past (at + width c) k cs

-- how many characters at the start pass a test
unfoldable pub run : (ℕ → Bool) → List ℕ → ℕ
run p [] = 0
run p (c ∷ cs) = elim (p c) [ true ↦ suc (run p cs) | false ↦ 0 ]
