-- The classes of characters that the lexer asks for.
-- Assumes nothing.
use Rattle.std.specs.Prelude.{ℕ, Bool, ◌&&◌, ◌||◌, not, List, [], ◌∷◌, eqb}
use Rattle.basics.specs.Basics.{letters, is, among, within}
use Rattle.characters.specs.Spans.{Span, ◌upto◌, in_spans}
use Rattle.characters.specs.Alphabetic.{is_alphabetic}

-- Unicode's White_Space
unfoldable pub white_space : List Span
white_space =
    0x09 upto 0x0E ∷ 0x20 upto 0x21 ∷ 0x85 upto 0x86 ∷ 0xA0 upto 0xA1 ∷ 0x1680 upto 0x1681 ∷ 0x2000 upto 0x200B
    ∷ 0x2028 upto 0x202A ∷ 0x202F upto 0x2030 ∷ 0x205F upto 0x2060 ∷ 0x3000 upto 0x3001 ∷ []

-- a code is White_Space: `char::is_whitespace`
unfoldable pub is_whitespace : ℕ → Bool
is_whitespace c = in_spans white_space c

-- ECMAScript's WhiteSpace and LineTerminator, what may stand between tokens: White_Space but for U+0085, and U+FEFF
unfoldable pub is_ecmascript_whitespace : ℕ → Bool
is_ecmascript_whitespace c = (is_whitespace c && not (eqb c 0x85)) || eqb c 0xFEFF

-- ECMAScript's LineTerminator
unfoldable pub is_line_terminator : ℕ → Bool
is_line_terminator c = among (0x0A ∷ 0x0D ∷ 0x2028 ∷ 0x2029 ∷ []) c

-- the marks that are a token by themselves
unfoldable pub is_punctuation : ℕ → Bool
is_punctuation c = among (letters "[]()!~+*?{}<>.,|:$=") c

-- a decimal digit
unfoldable pub is_ascii_digit : ℕ → Bool
is_ascii_digit c = within 0x30 0x39 c

-- a hexadecimal digit, upper or lower case
unfoldable pub is_ascii_hexdigit : ℕ → Bool
is_ascii_hexdigit c = within 0x30 0x39 c || within 0x41 0x46 c || within 0x61 0x66 c

-- the characters of names: `_`, `-`, an ASCII digit or an Alphabetic code
unfoldable pub is_word : ℕ → Bool
is_word c = is "_" c || is "-" c || within 0x30 0x39 c || is_alphabetic c
