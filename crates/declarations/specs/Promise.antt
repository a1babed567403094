-- What the functions on declarations say of what they read.
-- Assumes nothing.
use Rattle.std.specs.Prelude.{ℕ, ◌≡◌, List, [], ◌∷◌, Option, Result, Ok, Err}
use Rattle.std.proofs.Math.Option as M
use Rattle.error.specs.Causes.{bad_conflict}
use Rattle.error.specs.declared.Stop.{Stop}
use Rattle.error.specs.Promise.{cause_number}
use Rattle.lexer.specs.declared.Part.{Part}
use Rattle.lexer.specs.declared.Token.{Token}
use Rattle.lexer.specs.Escapes.{decode_string}
use Rattle.tree.specs.Promise.{prec_in}
use Rattle.tree.specs.Records.{Branch}
use Rattle.tree.specs.Stored.{declaration_branch}
use Rattle.tree.specs.Syntax.{PrecKind, LiteralDeclaration, TokenReference, PrecDeclaration, Declaration}
use Rattle.notation.specs.Parser.{read, refused, Parser, ◌>>=◌, ◌>>◌, pure, expect, comma_or_not}
use Rattle.notation.specs.Declarations.{parse_literal, parse_token_reference, parse_prec_kind}
use Rattle.lexer.specs.Promise.{part_of}
use Rattle.tokens.specs.Promise.{stream}
use Rattle.parser.specs.Steps.{Onward}
use Rattle.tree.specs.declared.PrecKind.{PrecKind as Kinds}

-- a literal whose text stands in a part of the source
abbrev pub literal_at : List ℕ → Part → Parser ℕ (LiteralDeclaration ℕ)
literal_at s a = parse_literal (decode_string (part_of s a))

-- the two references of a conflict, after its brace
unfoldable pub conflict_pair : Parser ℕ (List (TokenReference ℕ))
conflict_pair = do
  a ← parse_token_reference bad_conflict
  comma_or_not
  b ← parse_token_reference bad_conflict
  expect "}"
  pure (a ∷ b ∷ [])

-- the kind of a precedence is taken, or there is none
pub record PrecGot (s : List ℕ) (t : Token) (k : M.Option PrecKind) (u : Token) : Type 0 where
  pub gives : parse_prec_kind (stream s t) ≡ read k (stream s u)
  pub onward : Onward s t u 0

-- what an answer says of the kind of a precedence: it is taken, or there is none, or it is refused with this cause and place
abbrev pub TakesPrec : List ℕ → Token → Result (Option Kinds × Token) Stop → Type 0
TakesPrec s t (Ok (k, u)) = PrecGot s t (prec_in k) u
TakesPrec s t (Err e) = parse_prec_kind (stream s t) ≡ refused (cause_number e.cause) e.place

-- the branch of `@precedence` at top level
abbrev pub precedence_branch : PrecDeclaration ℕ → Branch
precedence_branch x = declaration_branch (Declaration.precedences x)
