-- Declarations at top level: what is read of one, given which kinds stand before it, and what is stored of it.
-- Assumes nothing.
use Rattle.std.specs.Prelude.{ℕ, ◌+◌, ◌≡◌, Bool, false, not, List, [], ◌∷◌, ◌++◌, length, Result, Ok, Err}
use Rattle.error.specs.declared.Stop.{Stop}
use Rattle.basics.specs.Basics.{is_empty, picked}
use Rattle.error.specs.Promise.{cause_number}
use Rattle.characters.specs.Utf8.{encode_all}
use Rattle.tree.specs.Records.{Branch, Node, nodes}
use Rattle.tree.specs.Stored.{declaration_branch, external_prop_branch, source_branch}
use Rattle.tree.specs.Syntax.{Identifier, TokenDeclaration, LocalTokenDeclaration, Declaration, declaration_kind}
use Rattle.notation.specs.Parser.{Answer, read, refused, Parser, ◌>>=◌, ◌>>◌, pure, kind, name_in, next, nothing, expect_name, parse_identifier}
use Rattle.notation.specs.Members.{SkipMember, skip_top_rule, Member, declaration, dialects, external_prop, detect_delim}
use Rattle.notation.specs.Declarations.{names, is_top, seen, block, top_by, parse_local_tokens, parse_external_prop, parse_source, parse_skip_member}
use Rattle.tokens.specs.Promise.{stream}
use Rattle.parser.specs.Storing.{Lent, node, flat}
use Rattle.parser.specs.Steps.{Onward, Lays, between_by}
use Rattle.lexer.specs.declared.Token.{Token}
use Rattle.tree.specs.Promise.{kind_number}
use Rattle.tree.specs.declared.NodeKind.{NodeKind}
use Rattle.reader.specs.Groups.{groups_of}
use Rattle.reader.specs.Blocks.{MemberOf, member_of, comma_of, kinds_of, kind_of, branches_of}
use Rattle.reader.specs.declared.blocks.Block.{Block}
use Rattle.reader.specs.declared.blocks.Block.TheVariants.{Skip}
use Rattle.reader.specs.declared.directives.Seen.{Seen}
use Rattle.reader.specs.declared.directives.Declared.{Declared}
use Rattle.reader.specs.declared.directives.DeclaredNumbered.{DeclaredNumbered}

-- the token is taken, and then what p reads
abbrev pub past : {A : Type 0} → Parser ℕ A → Parser ℕ A
past p = next >> p

-- a top rule, after `@top`
abbrev pub top_at : Parser ℕ (Declaration ℕ)
top_at = kind >>= λ k. top_by (name_in k)

-- `tokens` and its block, after `@local`; the declaration starts at p
abbrev pub local_at : (start : ℕ) → Parser ℕ (LocalTokenDeclaration ℕ)
local_at p = expect_name "tokens" >> parse_local_tokens p

-- an external prop, after `@external prop`; the declaration starts at p
abbrev pub prop_at : (start : ℕ) → Parser ℕ (Member ℕ)
prop_at p = parse_external_prop p >>= λ x. pure (external_prop x)

-- a list of dialects, after `@dialects`
abbrev pub dialects_at : Parser ℕ (Member ℕ)
dialects_at = names >>= λ ns. pure (dialects ns)

-- the branch of `@tokens`
abbrev pub tokens_branch : TokenDeclaration ℕ → Branch
tokens_branch x = declaration_branch (Declaration.tokens x)

-- the branch of `@local tokens`
abbrev pub local_branch : LocalTokenDeclaration ℕ → Branch
local_branch x = declaration_branch (Declaration.local_tokens x)

-- a name, its source and the block behind them
pub record SetOf (b : Block) : Type 0 where
  pub id : List ℕ
  pub source : List ℕ
  pub members : List (MemberOf b)

-- how these are read: the name, `from` and a string, and the members in braces
unfoldable pub external_set : (b : Block) → Parser ℕ (SetOf b)
external_set b = do
  n ← parse_identifier
  s ← parse_source
  ms ← block (between_by (comma_of b)) (member_of b)
  pure (record { id = n.name; source = s; members = ms })

-- its nodes, the last over them and so many before
abbrev pub set_nodes : (b : Block) → (kind start value before : ℕ) → SetOf b → List Node
set_nodes b k p v before x =
    let bs = groups_of (kind_of b) (branches_of b) (kinds_of b) x.members in
    nodes (source_branch x.source) ++ flat nodes bs ++ node k p (encode_all x.id) v 0 (before + 1 + length bs) ∷ []

-- the kind of what stands at top level; `@detectDelim` is a value of the grammar's record, 1
abbrev pub member_kind : Member ℕ → ℕ
member_kind (declaration d) = declaration_kind d
member_kind (dialects ns) = 24
member_kind (external_prop x) = 25
member_kind detect_delim = 1

-- its branches. A later `@dialects` replaces an earlier one: dialects are stored apart
abbrev pub member_branches : Member ℕ → List Branch
member_branches (declaration d) = declaration_branch d ∷ []
member_branches (dialects ns) = []
member_branches (external_prop x) = external_prop_branch x ∷ []
member_branches detect_delim = []

-- whether a member is a top rule, or a scoped skip with one
abbrev pub member_top : Member ℕ → Bool
member_top (declaration d) = is_top d
member_top (dialects ns) = false
member_top (external_prop x) = false
member_top detect_delim = false

-- which kinds stand before, of those of which there is at most one
pub record SeenIs (k : Seen) (before : List (Member ℕ)) : Type 0 where
  pub tokens : seen 8 before ≡ k.tokens
  pub context : seen 14 before ≡ k.context
  pub precedence : seen 20 before ≡ k.precedence
  pub skip : seen 22 before ≡ k.skip

-- what was read is a declaration of a kind
abbrev pub declared_of : NodeKind → (top : Bool) → Token → Declared
declared_of k top t = record { token = t; kind = k; top = top }

-- the same by the number of a kind
abbrev pub declared_numbered : (kind : ℕ) → (top : Bool) → Token → DeclaredNumbered
declared_numbered k top t = record { token = t; kind = k; top = top }

-- with these kinds before, D is a member whose branches are stored
pub record Declares (D : List (Member ℕ) → Answer ℕ (Member ℕ)) (k : Seen) (s : List ℕ) (t : Token) (a : Lent) (u : Token) (b : Lent) (kind : ℕ) (top : Bool) : Type 0 where
  pub value : Member ℕ
  pub gives : (before : List (Member ℕ)) → SeenIs k before → D before ≡ read value (stream s u)
  pub onward : Onward s t u 1
  pub kinds : member_kind value ≡ kind
  pub tops : member_top value ≡ top
  pub named : (ns : List (Identifier ℕ)) → value ≡ dialects ns → past names (stream s t) ≡ read ns (stream s u)
  pub lays : Lays s t u 0 (flat nodes (member_branches value)) a b

-- what an answer says of D, with these kinds before: it is a member whose branches are stored, or it is this refusal
abbrev pub DeclaresTo : (List (Member ℕ) → Answer ℕ (Member ℕ)) → Seen → List ℕ → Token → (a b : Lent) → Result Declared Stop → Type 0
DeclaresTo D k s t a b (Ok d) = Declares D k s t a d.token b (kind_number d.kind) d.top
DeclaresTo D k s t a b (Err e) = (before : List (Member ℕ)) → SeenIs k before → D before ≡ refused (cause_number e.cause) e.place

-- ------------------------------------------------------------------ scoped skips

-- the members of a scoped skip, in braces
abbrev pub skips : Parser ℕ (List (SkipMember ℕ))
skips = block nothing parse_skip_member

-- the block is read; its nodes, and one over them and the expression before, are stored. The last may take the room of a token before
pub record Scoping (start : ℕ) (s : List ℕ) (t : Token) (a : Lent) (u : Token) (b : Lent) (kind : ℕ) (top : Bool) : Type 0 where
  pub members : List (SkipMember ℕ)
  pub gives : skips (stream s t) ≡ read members (stream s u)
  pub onward : Onward s t u 2
  pub kinds : kind ≡ 23
  pub tops : not (is_empty (picked skip_top_rule members)) ≡ top
  pub lays : Lays s t u 1 (flat nodes (groups_of (kind_of Skip) (branches_of Skip) (kinds_of Skip) members)
      ++ node 23 start [] 0 0 (1 + length (groups_of (kind_of Skip) (branches_of Skip) (kinds_of Skip) members)) ∷ []) a b

-- what an answer says of the block of a scoped skip that starts at p: it is read and stored, or refused with this cause and place
abbrev pub Scopes : (start : ℕ) → List ℕ → Token → (a b : Lent) → Result Declared Stop → Type 0
Scopes p s t a b (Ok d) = Scoping p s t a d.token b (kind_number d.kind) d.top
Scopes p s t a b (Err e) = skips (stream s t) ≡ refused (cause_number e.cause) e.place
