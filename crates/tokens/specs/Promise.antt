-- What the values of the code stand for.
-- Assumes nothing.
use Rattle.std.specs.Prelude.{ℕ, ◌≤◌, ◌<◌, ◌≡◌, Bool, true, false, List, length, Option, Some, None, Result, Ok, Err}
use Prim.Native.Char.{Char, code}
use Prim.Native.String.{String as Quoted}
use Rattle.std.proofs.Math.Option as M
use Rattle.basics.specs.Basics.{letters}
use Rattle.error.specs.declared.Stop.{Stop}
use Rattle.error.specs.Promise.{cause_number}
use Rattle.lexer.specs.declared.Kind.{Kind}
use Rattle.lexer.specs.declared.Kind.TheVariants.{String, At, Set, Punctuation, Identifier}
use Rattle.lexer.specs.declared.Part.{Part}
use Rattle.lexer.specs.declared.Token.{Token}
use Rattle.lexer.specs.declared.Token.TheVariants.{Of, Eof}
use Rattle.lexer.specs.Tokens as T
use Rattle.lexer.specs.Tokens.{Tokens}
use Rattle.lexer.specs.Promise.{tokens_at, part_of, kind_of as kind_in, Parted, Inside, is_plain, IsPart}
use Rattle.lexer.specs.Escapes.{decode_string}
use Rattle.notation.specs.Parser.{Answer, read, refused, says, eat_if, eat, eat_name, eat_at, expect, taken, parse_identifier, expect_string}

-- the tokens from the current one on
unfoldable pub stream : List ℕ → Token → Tokens ℕ
stream s (Of k start end) = T.token (kind_in s k) start (tokens_at s end)
stream s (Eof p) = T.eof p

-- its start; of the end of the text, its place
abbrev pub start_in : Token → ℕ
start_in (Of k start end) = start
start_in (Eof p) = p

-- its end; of the end of the text, its place
abbrev pub end_in : Token → ℕ
end_in (Of k start end) = end
end_in (Eof p) = p

-- the code of a mark, or 0
abbrev pub code_in : Kind → ℕ
code_in (Punctuation c) = c
code_in (String q a) = 0
code_in (At a) = 0
code_in (Set i a) = 0
code_in (Identifier a) = 0

-- the code of the current token's mark, or 0
abbrev pub mark_of : Token → ℕ
mark_of (Of k start end) = code_in k
mark_of (Eof p) = 0

-- a token is arrived at, or it is refused
abbrev pub arrival : List ℕ → Result Token Stop → Answer ℕ (Unit {0})
arrival s (Ok t) = read tt (stream s t)
arrival s (Err e) = refused (cause_number e.cause) e.place

-- the current token lies in the text, from a place on
abbrev pub LiesIn : List ℕ → ℕ → Token → Type 0
LiesIn s from (Of k start end) = (from ≤ start) × (start < end) × (end ≤ length s) × Parted s start k × Inside start end k
LiesIn s from (Eof p) = from ≤ length s → p ≤ length s

-- the token that is arrived at lies in the text, from a place on
abbrev pub Lies : List ℕ → ℕ → Result Token Stop → Type 0
Lies s from (Ok t) = LiesIn s from t
Lies s from (Err e) = Unit {0}

-- whether a token is taken
abbrev pub eaten : List ℕ → Token → Result (Option Token) Stop → Answer ℕ Bool
eaten s t (Ok (Some u)) = read true (stream s u)
eaten s t (Ok None) = read false (stream s t)
eaten s t (Err e) = refused (cause_number e.cause) e.place

-- the token after the one that was taken lies in the text, from a place on
abbrev pub EatenLies : List ℕ → ℕ → Result (Option Token) Stop → Type 0
EatenLies s from (Ok (Some u)) = LiesIn s from u
EatenLies s from (Ok None) = Unit {0}
EatenLies s from (Err e) = Unit {0}

-- the current token is taken if a test says so
pub record EatsIf (s : List ℕ) (t : Token) (b : Bool) (r : Result (Option Token) Stop) : Type 0 where
  pub eats : eat_if b (stream s t) ≡ eaten s t r
  pub lies : EatenLies s (end_in t) r

-- the mark with the code c is taken if it is the current token
pub record Eats (s : List ℕ) (t : Token) (c : ℕ) (r : Result (Option Token) Stop) : Type 0 where
  pub eats : (m : Char) → code m ≡ c → eat m (stream s t) ≡ eaten s t r
  pub lies : EatenLies s (end_in t) r

-- the mark with the code c is taken; another token is refused
pub record Expects (s : List ℕ) (t : Token) (c : ℕ) (r : Result Token Stop) : Type 0 where
  pub expects : (m : Char) → code m ≡ c → expect m (stream s t) ≡ arrival s r
  pub lies : Lies s (end_in t) r

-- ------------------------------------------------------------------ names

-- the part of the source that is a name
abbrev pub name_part : Kind → Option Part
name_part (Identifier a) = Some a
name_part (String q a) = None
name_part (At a) = None
name_part (Set i a) = None
name_part (Punctuation c) = None

-- the part of the source that follows an `@`
abbrev pub at_part : Kind → Option Part
at_part (At a) = Some a
at_part (String q a) = None
at_part (Set i a) = None
at_part (Punctuation c) = None
at_part (Identifier a) = None

-- the part of the source between a string's quotes
abbrev pub string_part : Kind → Option Part
string_part (String q a) = Some a
string_part (At a) = None
string_part (Set i a) = None
string_part (Punctuation c) = None
string_part (Identifier a) = None

-- the current token's name
abbrev pub name_of : Token → Option Part
name_of (Of k start end) = name_part k
name_of (Eof p) = None

-- what follows the current token's `@`
abbrev pub at_of : Token → Option Part
at_of (Of k start end) = at_part k
at_of (Eof p) = None

-- what stands between the current token's quotes
abbrev pub string_of : Token → Option Part
string_of (Of k start end) = string_part k
string_of (Eof p) = None

-- the characters of a part, if there is one
abbrev pub text_in : List ℕ → Option Part → M.Option (List ℕ)
text_in s (Some a) = M.some (part_of s a)
text_in s None = M.none

-- its bytes are those of its characters
abbrev pub Whole : List ℕ → Option Part → Type 0
Whole s (Some a) = IsPart s a
Whole s None = Unit {0}

-- whether there is a part, and it is this word
pub record Says (s : List ℕ) (part : Option Part) (word : List ℕ) (r : Bool) : Type 0 where
  pub said : (w : Quoted) → letters w ≡ word → is_plain word ≡ true → says w (text_in s part) ≡ r

-- the name is taken if it is the current token
pub record EatsName (s : List ℕ) (t : Token) (word : List ℕ) (r : Result (Option Token) Stop) : Type 0 where
  pub eats : (w : Quoted) → letters w ≡ word → is_plain word ≡ true → eat_name w (stream s t) ≡ eaten s t r
  pub lies : EatenLies s (end_in t) r

-- the word after an `@` is taken if it is the current token
pub record EatsAt (s : List ℕ) (t : Token) (word : List ℕ) (r : Result (Option Token) Stop) : Type 0 where
  pub eats : (w : Quoted) → letters w ≡ word → is_plain word ≡ true → eat_at w (stream s t) ≡ eaten s t r
  pub lies : EatenLies s (end_in t) r

-- ------------------------------------------------------------------ taking what a token holds

-- the token after it lies behind it; the part is one of the token's
abbrev pub TakenLies : List ℕ → Token → Option Part → Result (Part × Token) Stop → Type 0
TakenLies s t part (Ok (p, u)) = LiesIn s (end_in t) u × (part ≡ Some p)
TakenLies s t part (Err e) = Unit {0}

-- with a value made of its characters
abbrev pub taken_by : {A : Type 0} → (List ℕ → A) → List ℕ → Result (Part × Token) Stop → Answer ℕ A
taken_by f s (Ok (p, u)) = read (f (part_of s p)) (stream s u)
taken_by f s (Err e) = refused (cause_number e.cause) e.place

-- a value made of a text, if there is one
abbrev pub mapped : (List ℕ → List ℕ) → M.Option (List ℕ) → M.Option (List ℕ)
mapped f (M.some t) = M.some (f t)
mapped f M.none = M.none

-- the token that holds a part is taken; without one it is refused
pub record Takes (s : List ℕ) (t : Token) (part : Option Part) (r : Result (Part × Token) Stop) : Type 0 where
  pub takes : (f : List ℕ → List ℕ) → taken (mapped f (text_in s part)) (stream s t) ≡ taken_by f s r
  pub lies : TakenLies s t part r

-- a name is taken, and another token refused: `parse_identifier`
pub record Identifies (s : List ℕ) (t : Token) (r : Result (Part × Token) Stop) : Type 0 where
  pub takes : parse_identifier (stream s t) ≡ taken_by (λ n. record { start = start_in t; name = n }) s r
  pub lies : TakenLies s t (name_of t) r

-- a string is taken, and another token refused: `expect_string`
pub record TakesString (s : List ℕ) (t : Token) (r : Result (Part × Token) Stop) : Type 0 where
  pub takes : expect_string (stream s t) ≡ taken_by decode_string s r
  pub lies : TakenLies s t (string_of t) r
