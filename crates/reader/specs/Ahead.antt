-- The kind of a declaration, and of a member of a block, from its first tokens, before it is read; 0 where it is not known.
-- Assumes nothing.
use Rattle.std.specs.Prelude as Std
use Rattle.std.specs.Prelude.{ℕ, Bool, List, Some, None}
use Rattle.std.proofs.Math.Option.{Option, none, some}
use Rattle.basics.specs.Basics.{if◌then◌otherwise◌}
use Rattle.lexer.specs.Tokens.{Tokens}
use Rattle.notation.specs.Parser.{Answer, read, refused, kind_of, name_in, at_in, string_in, says, next}
use Rattle.tree.specs.Promise.{kind_number}
use Rattle.tree.specs.declared.NodeKind.{NodeKind}
use Rattle.reader.specs.declared.blocks.Block.{Block}
use Rattle.reader.specs.declared.blocks.Block.TheVariants as B

-- the number of a kind that is known
abbrev pub ahead_number : Std.Option NodeKind → ℕ
ahead_number (Some k) = kind_number k
ahead_number None = 0

-- by the name after `@external`
unfoldable pub external_kind : Option (List ℕ) → ℕ
external_kind t =
    if says "tokens" t then 16
    otherwise if says "prop" t then 25
    otherwise if says "extend" t then 18
    otherwise if says "specialize" t then 18
    otherwise if says "propSource" t then 19
    otherwise 0

-- by the token after `@external`; 0 where that is refused
unfoldable pub external_ahead : Answer ℕ (Unit {0}) → ℕ
external_ahead (read u ts) = external_kind (name_in (kind_of ts))
external_ahead (refused c p) = 0

-- a rule begins with no keyword
abbrev pub plain_kind : Option (List ℕ) → ℕ
plain_kind none = 3
plain_kind (some t) = 0

-- by the keyword; `external` is what is known after that one
unfoldable pub keyword_kind : (external : ℕ) → Option (List ℕ) → ℕ
keyword_kind external t =
    if says "top" t then 2
    otherwise if says "tokens" t then 8
    otherwise if says "local" t then 12
    otherwise if says "context" t then 14
    otherwise if says "external" t then external
    otherwise if says "dialects" t then 24
    otherwise if says "precedence" t then 20
    otherwise if says "detectDelim" t then 1
    otherwise plain_kind t

-- the kind of the declaration that begins at the current token
unfoldable pub kind_ahead : Tokens ℕ → ℕ
kind_ahead ts = keyword_kind (external_ahead (next ts)) (at_in (kind_of ts))

-- ------------------------------------------------------------------ members

-- a member of `@tokens`: a string is a literal
abbrev pub token_kind : (at string : Option (List ℕ)) → ℕ
token_kind at (some t) = 11
token_kind at none = if says "precedence" at then 9 otherwise if says "conflict" at then 10 otherwise 3

-- by what follows an `@`, and by a string; `free`: an `@else` still makes a fallback
abbrev pub member_kind_by : Block → (free : Bool) → (at string : Option (List ℕ)) → ℕ
member_kind_by B.Tokens free at string = token_kind at string
member_kind_by B.LocalTokens free at string = if says "precedence" at then 9 otherwise if free then (if says "else" at then 13 otherwise 3) otherwise 3
member_kind_by B.ExternalTokens free at string = if says "conflict" at then 17 otherwise 13
member_kind_by B.Specializer free at string = 13
member_kind_by B.Skip free at string = if says "top" at then 2 otherwise 3

-- the kind of the member of a block that begins at the current token; `free`: an `@else` still makes a fallback
unfoldable pub member_ahead : Block → (free : Bool) → Tokens ℕ → ℕ
member_ahead b free ts = member_kind_by b free (at_in (kind_of ts)) (string_in (kind_of ts))
