-- How tokens are spelled in a normal text: strings, spans of sets, and the space between tokens.
-- Assumes nothing.
use Rattle.std.specs.Prelude.{ℕ, zero, suc, ◌+◌, ◌-◌, ◌/◌, ◌%◌, Bool, true, false, ◌||◌, List, [], ◌∷◌, ◌++◌, ltb, eqb}
use Prim.Native.Char.{code}
use Rattle.basics.specs.Basics.{if◌then◌otherwise◌, letters, is}
use Rattle.characters.specs.Spans.{Span}
use Rattle.lexer.specs.Tokens.{Kind}

-- a string's text between its quotes: a backslash before `"` and backslash, every other character raw
unfoldable pub quoted : List ℕ → List ℕ
quoted [] = []
quoted (c ∷ cs) = elim (is "\"" c || is "\\" c) [ true ↦ code "\\" ∷ c ∷ quoted cs | false ↦ c ∷ quoted cs ]

-- a hexadecimal digit, upper case
abbrev pub hex_digit : ℕ → ℕ
hex_digit d = if ltb d 10 then code "0" + d otherwise code "A" + (d - 10)

-- n in hexadecimal, without leading zeros, and then the rest. A code has at most six digits
unfoldable pub hex_from : (digits n : ℕ) → List ℕ → List ℕ
hex_from zero n rest = rest
hex_from (suc k) n rest = elim (ltb n 16) [ true ↦ hex_digit n ∷ rest | false ↦ hex_from k (n / 16) (hex_digit (n % 16) ∷ rest) ]

-- `\u{HEX}`
unfoldable pub code_text : ℕ → List ℕ
code_text c = letters "\\u{" ++ hex_from 6 c (letters "}")

-- one code, or first and last code
unfoldable pub span_text : Span → List ℕ
span_text s =
    if eqb (s.first + 1) s.past then code_text s.first
    otherwise code_text s.first ++ letters "-" ++ code_text (s.past - 1)

-- spans, one after another
unfoldable pub spans_text : List Span → List ℕ
spans_text [] = []
spans_text (s ∷ ss) = span_text s ++ spans_text ss

-- the mark that a set begins with
abbrev pub opening : (inverted : Bool) → List ℕ
opening false = letters "$["
opening true = letters "!["

-- the text of a token
unfoldable pub spell : Kind → List ℕ
spell (Kind.string t) = code "\"" ∷ (t ++ letters "\"")
spell (Kind.at t) = code "@" ∷ t
spell (Kind.set inverted t) = opening inverted ++ t ++ letters "]"
spell (Kind.name t) = t
spell (Kind.mark c) = c ∷ []

-- tokens with one space between
unfoldable pub spaced : List Kind → List ℕ
spaced [] = []
spaced (k ∷ []) = spell k
spaced (k ∷ l ∷ ks) = spell k ++ (code " " ∷ spaced (l ∷ ks))
