-- The tokens of a text, each with its kind and start, up to the text's end or to the first character that begins none.
-- Assumes nothing.
use Rattle.std.specs.Prelude.{ℕ, zero, suc, ◌+◌, ◌-◌, Bool, true, false, ◌&&◌, not, List, [], ◌∷◌, eqb, take, drop}
use Rattle.std.proofs.Math.Option.{Option, none, some}
use Rattle.basics.specs.Basics.{if◌then◌otherwise◌, letters, is, among, head}
use Rattle.error.specs.Causes.{unexpected_character, unterminated_string, at_without_name, unterminated_set}
use Rattle.characters.specs.Utf8.{width}
use Rattle.characters.specs.Places.{run}
use Rattle.characters.specs.Classes.{is_ecmascript_whitespace, is_line_terminator, is_punctuation, is_word}

-- ------------------------------------------------------------------ how far something reaches, in characters

-- one more, if there is a number
abbrev pub more : Option ℕ → Option ℕ
more none = none
more (some n) = some (suc n)

-- how many characters stand before a comment's `*/`, if it has one
unfoldable pub comment : List ℕ → Option ℕ
comment [] = none
comment (c ∷ cs) = elim (is "*" c && is "/" (head cs)) [ true ↦ some 0 | false ↦ more (comment cs) ]

-- how many characters stand before the end mark q of a string or a set, if it ends. After a backslash (`escaped`) any character
-- belongs to the body, unless it is one that stops it
unfoldable pub body : (stops : ℕ → Bool) → (q : ℕ) → (escaped : Bool) → List ℕ → Option ℕ
body stops q escaped [] = none
body stops q true (c ∷ cs) = elim (stops c) [ true ↦ none | false ↦ more (body stops q false cs) ]
body stops q false (c ∷ cs) = elim (eqb c q) [ true ↦ some 0 | false ↦ more (body stops q (is "\\" c) cs) ]

-- in a set nothing stops the body
abbrev pub never : ℕ → Bool
never c = false

-- ------------------------------------------------------------------ what a text begins with

-- a string's text as it stands between its quotes, a set's between its brackets
pub data Kind : Type 0 where
  string : List ℕ → Kind
  at : List ℕ → Kind
  set : (inverted : Bool) → List ℕ → Kind
  name : List ℕ → Kind
  mark : ℕ → Kind

-- white space or a comment of so many characters; a token of so many; or neither, by a cause
pub data Piece : Type 0 where
  blank : ℕ → Piece
  token : Kind → ℕ → Piece
  bad : ℕ → Piece

-- a comment by the characters before its `*/`, if it has one
abbrev pub comment_of : Option ℕ → Piece
comment_of none = bad unexpected_character
comment_of (some n) = blank (2 + n + 2)

-- a string by the characters before its second quote, if it has one
abbrev pub string_of : List ℕ → Option ℕ → Piece
string_of cs none = bad unterminated_string
string_of cs (some n) = token (string (take n cs)) (1 + n + 1)

-- a set by the characters before its `]`, if it has one
abbrev pub set_of : Bool → List ℕ → Option ℕ → Piece
set_of inverted cs none = bad unterminated_set
set_of inverted cs (some n) = token (set inverted (take n cs)) (2 + n + 1)

-- an `@` by the characters of the name after it
abbrev pub at_of : List ℕ → ℕ → Piece
at_of cs zero = bad at_without_name
at_of cs (suc n) = token (at (take (suc n) cs)) (1 + suc n)

-- a token that begins with c, with cs after it: `next` once trivia are skipped
unfoldable pub solid : ℕ → List ℕ → Piece
solid c cs =
    if among (letters "\"'") c then string_of cs (body is_line_terminator c false cs)
    otherwise if is "@" c then at_of cs (run is_word cs)
    otherwise if among (letters "$!") c && is "[" (head cs) then set_of (is "!" c) (drop 1 cs) (body never 0x5D false (drop 1 cs))
    otherwise if is_punctuation c then token (mark c) 1
    otherwise if is_word c then token (name (c ∷ take (run is_word cs) cs)) (1 + run is_word cs)
    otherwise bad unexpected_character

-- white space, a comment to the end of its line, a comment in `/*` and `*/`, or a token
unfoldable pub piece : ℕ → List ℕ → Piece
piece c cs =
    if is_ecmascript_whitespace c then blank 1
    otherwise if is "/" c && is "/" (head cs) then blank (2 + run (λ d. not (is_line_terminator d)) (drop 1 cs))
    otherwise if is "/" c && is "*" (head cs) then comment_of (comment (drop 1 cs))
    otherwise solid c cs

-- ------------------------------------------------------------------ the tokens of a text

-- S is what a start is: a place, or nothing once starts are left out. `bad n p`: from here the text has no token, by cause n at place p
pub data Tokens (S : Type 0) : Type 0 where
  token : Kind → (start : S) → Tokens S → Tokens S
  eof : S → Tokens S
  bad : ℕ → S → Tokens S

-- a piece at place p; `rest k` is what comes after its first character, k characters of it left
abbrev pub lay : Piece → ℕ → (ℕ → Tokens ℕ) → Tokens ℕ
lay (blank n) p rest = rest (n - 1)
lay (token k n) p rest = token k p (rest (n - 1))
lay (bad n) p rest = bad n p

-- the tokens of the characters from place p on, of which the first k belong to the piece before
unfoldable pub tokens_from : List ℕ → (k p : ℕ) → Tokens ℕ
tokens_from [] k p = eof p
tokens_from (c ∷ cs) (suc k) p = tokens_from cs k (p + width c)
tokens_from (c ∷ cs) zero p = lay (piece c cs) p (λ k. tokens_from cs k (p + width c))

-- the tokens of a text
unfoldable pub tokens : List ℕ → Tokens ℕ
tokens cs = tokens_from cs 0 0
