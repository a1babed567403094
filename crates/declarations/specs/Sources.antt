-- A name and its source.
-- Assumes nothing.
use Rattle.std.specs.Prelude.{ℕ, ◌+◌, ◌≤◌, ◌≡◌, List, Result, Ok, Err}
use Rattle.error.specs.declared.Stop.{Stop}
use Rattle.error.specs.Promise.{cause_number}
use Rattle.lexer.specs.Promise.{IsPart, part_of}
use Rattle.lexer.specs.declared.Part.{Part}
use Rattle.lexer.specs.declared.Token.{Token}
use Rattle.lexer.specs.Escapes.{decode_string}
use Rattle.tree.specs.Records.{Branch, branch, []ᴮ, ◌∷ᴮ◌}
use Rattle.tree.specs.Stored.{named, source_branch}
use Rattle.notation.specs.Parser.{read, refused, Parser, ◌>>=◌, pure, choose, eat_name, parse_identifier}
use Rattle.notation.specs.Declarations.{parse_source}
use Rattle.tokens.specs.Promise.{stream}
use Rattle.parser.specs.Steps.{placed, Onward}

-- a source string stands in a part of the text between the tokens t and u
pub record GotSource (s : List ℕ) (t : Token) (a : Part) (u : Token) : Type 0 where
  pub gives : parse_source (stream s t) ≡ read (decode_string (part_of s a)) (stream s u)
  pub part : IsPart s a
  pub onward : Onward s t u 2
  pub between : a.to + placed s t ≤ a.from + placed s u

-- what an answer says of `from` and a string: the source stands in this part of the text, or it is refused with this cause and place
abbrev pub TakesSource : List ℕ → Token → Result (Part × Token) Stop → Type 0
TakesSource s t (Ok (a, u)) = GotSource s t a u
TakesSource s t (Err e) = parse_source (stream s t) ≡ refused (cause_number e.cause) e.place

-- a name and its source
pub record IdSource : Type 0 where
  pub id : List ℕ
  pub source : List ℕ

-- a name, `from` and a string, which is its source
unfoldable pub from_source : Parser ℕ IdSource
from_source = do
  n ← parse_identifier
  s ← parse_source
  pure (record { id = n.name; source = s })

-- the branch of a name, of a kind and a start, with its source below it
abbrev pub from_branch : (kind start : ℕ) → IdSource → Branch
from_branch k p x = branch (named k p x.id) (source_branch x.source ∷ᴮ []ᴮ)

-- the name after `as`, or else the name before
unfoldable pub as_name : (before : List ℕ) → Parser ℕ (List ℕ)
as_name n = eat_name "as" >>= λ renamed. choose renamed (parse_identifier >>= λ i. pure i.name) (pure n)

-- it stands in a part of the text: the name before, or one between the tokens t and u
pub record GotId (s : List ℕ) (t : Token) (a b : Part) (u : Token) : Type 0 where
  pub gives : as_name (part_of s a) (stream s t) ≡ read (part_of s b) (stream s u)
  pub onward : Onward s t u 0
  pub part : IsPart s b
  pub room : b.to + a.from + placed s t ≤ b.from + a.to + placed s u

-- what an answer says of the name that `as_name` reads: it stands in this part of the text, or is refused with this cause and place
abbrev pub TakesId : List ℕ → Token → Part → Result (Part × Token) Stop → Type 0
TakesId s t a (Ok (b, u)) = GotId s t a b u
TakesId s t a (Err e) = as_name (part_of s a) (stream s t) ≡ refused (cause_number e.cause) e.place
