-- The blocks whose members are stored in groups: what stands in them, in which kinds, and what is stored of it.
-- Assumes nothing.
use Rattle.std.specs.Prelude.{ℕ, ◌+◌, ◌*◌, ◌≤◌, ◌≡◌, Bool, true, false, List, [], ◌∷◌, length, get_or, set, Result, Ok, Err}
use Rattle.error.specs.declared.Stop.{Stop}
use Rattle.basics.specs.Basics.{is_empty, picked}
use Rattle.error.specs.Promise.{cause_number}
use Rattle.lexer.specs.Tokens as T
use Rattle.tree.specs.Records.{Branch, nodes, width}
use Rattle.tree.specs.Stored.{name_branch, rule_branch, token_prec_branch, token_conflict_branch, literal_branch, named_node_branch}
use Rattle.tree.specs.Syntax.{Identifier}
use Rattle.notation.specs.Parser.{read, refused, Parser, eat, until}
use Rattle.notation.specs.Members.{TokenMember, LocalMember, SkipMember, ExternalMember, local_fallback}
use Rattle.notation.specs.Declarations.{parse_token_member, parse_local_member, parse_external_member, parse_skip_member}
use Rattle.tokens.specs.Promise.{stream, LiesIn}
use Rattle.parser.specs.Storing.{Lent, lent, Stores, flat}
use Rattle.parser.specs.Steps.{placed, Onward, Lays, between_by}
use Rattle.lexer.specs.declared.Token.{Token}
use Rattle.parser.specs.declared.props.Comma.{Comma}
use Rattle.parser.specs.declared.props.Comma.TheVariants.{May, No}
use Rattle.parser.specs.declared.store.Store.{Store}
use Rattle.tree.specs.Promise.{kind_number}
use Rattle.tree.specs.declared.NodeKind.{NodeKind}
use Rattle.reader.specs.Groups.{all_of, Gathers}
use Rattle.reader.specs.Places.{place_in, words_in, bytes_in, group_at, Fills}
use Rattle.reader.specs.declared.blocks.Block.{Block}
use Rattle.reader.specs.declared.blocks.Block.TheVariants.{Tokens, LocalTokens, ExternalTokens, Specializer, Skip}
use Rattle.reader.specs.declared.blocks.Extent.{Extent}
use Rattle.reader.specs.declared.blocks.Joined.{Joined}
use Rattle.reader.specs.declared.blocks.Members.{Members}

-- what stands in a block
abbrev pub MemberOf : Block → Type 0
MemberOf Tokens = TokenMember ℕ
MemberOf LocalTokens = LocalMember ℕ
MemberOf ExternalTokens = ExternalMember ℕ
MemberOf Specializer = ExternalMember ℕ
MemberOf Skip = SkipMember ℕ

-- how a member of a block is read, given those before it
abbrev pub member_of : (b : Block) → List (MemberOf b) → Parser ℕ (MemberOf b)
member_of Tokens = parse_token_member
member_of LocalTokens = parse_local_member
member_of ExternalTokens = parse_external_member true
member_of Specializer = parse_external_member false
member_of Skip = parse_skip_member

-- what stands between two members
abbrev pub comma_of : Block → Comma
comma_of Tokens = No
comma_of LocalTokens = No
comma_of ExternalTokens = May
comma_of Specializer = May
comma_of Skip = No

-- the kinds of its groups, in their order
abbrev pub kinds_of : Block → List ℕ
kinds_of Tokens = 9 ∷ 10 ∷ 3 ∷ 11 ∷ []
kinds_of LocalTokens = 9 ∷ 3 ∷ 13 ∷ []
kinds_of ExternalTokens = 13 ∷ 17 ∷ []
kinds_of Specializer = 13 ∷ []
kinds_of Skip = 2 ∷ 3 ∷ []

-- the kind of a member. In a specializer there are no conflicts
abbrev pub kind_of : (b : Block) → MemberOf b → ℕ
kind_of Tokens (TokenMember.precedence x) = 9
kind_of Tokens (TokenMember.conflict x) = 10
kind_of Tokens (TokenMember.rule x) = 3
kind_of Tokens (TokenMember.literal x) = 11
kind_of LocalTokens (LocalMember.precedence x) = 9
kind_of LocalTokens (LocalMember.rule x) = 3
kind_of LocalTokens (LocalMember.fallback x) = 13
kind_of ExternalTokens (ExternalMember.token x) = 13
kind_of ExternalTokens (ExternalMember.conflicts ns) = 17
kind_of Specializer (ExternalMember.token x) = 13
kind_of Specializer (ExternalMember.conflicts ns) = 17
kind_of Skip (SkipMember.top_rule x) = 2
kind_of Skip (SkipMember.rule x) = 3

-- a branch for each name
unfoldable pub name_branches : (kind : ℕ) → List (Identifier ℕ) → List Branch
name_branches k [] = []
name_branches k (n ∷ ns) = name_branch k n ∷ name_branches k ns

-- the branches of a member: one, or one for each name of a conflict
abbrev pub branches_of : (b : Block) → MemberOf b → List Branch
branches_of Tokens (TokenMember.precedence x) = token_prec_branch x ∷ []
branches_of Tokens (TokenMember.conflict x) = token_conflict_branch x ∷ []
branches_of Tokens (TokenMember.rule x) = rule_branch 3 x ∷ []
branches_of Tokens (TokenMember.literal x) = literal_branch x ∷ []
branches_of LocalTokens (LocalMember.precedence x) = token_prec_branch x ∷ []
branches_of LocalTokens (LocalMember.rule x) = rule_branch 3 x ∷ []
branches_of LocalTokens (LocalMember.fallback x) = named_node_branch x ∷ []
branches_of ExternalTokens (ExternalMember.token x) = named_node_branch x ∷ []
branches_of ExternalTokens (ExternalMember.conflicts ns) = name_branches 17 ns
branches_of Specializer (ExternalMember.token x) = named_node_branch x ∷ []
branches_of Specializer (ExternalMember.conflicts ns) = []
branches_of Skip (SkipMember.top_rule x) = rule_branch 2 x ∷ []
branches_of Skip (SkipMember.rule x) = rule_branch 3 x ∷ []

-- the members of a block up to its brace
abbrev pub members_of : (b : Block) → Parser ℕ (List (MemberOf b))
members_of b = until (eat "}") (between_by (comma_of b)) (member_of b)

-- whether an `@else` still makes a fallback: no member before is one
abbrev pub Free : (b : Block) → List (MemberOf b) → Bool → Type 0
Free Tokens ms f = Unit {0}
Free LocalTokens ms f = is_empty (picked local_fallback ms) ≡ f
Free ExternalTokens ms f = Unit {0}
Free Specializer ms f = Unit {0}
Free Skip ms f = Unit {0}

-- what was read is one member of a kind
abbrev pub one_of : NodeKind → Token → Joined
one_of k t = record { token = t; count = 1; kind = k }

-- a member is read whatever stands before it, and its branches are stored
pub record Joins (b : Block) (free : Bool) (s : List ℕ) (t : Token) (a : Lent) (u : Token) (c : Lent) (count kind : ℕ) : Type 0 where
  pub value : MemberOf b
  pub gives : (before : List (MemberOf b)) → Free b before free → member_of b before (stream s t) ≡ read value (stream s u)
  pub onward : Onward s t u 1
  pub kinds : kind_of b value ≡ kind
  pub counted : length (branches_of b value) ≡ count
  pub lays : Lays s t u 0 (flat nodes (branches_of b value)) a c

-- what an answer says of a member, whatever stands before it: it is read and stored, or it is this refusal
abbrev pub JoinsTo : (b : Block) → (free : Bool) → List ℕ → Token → (a c : Lent) → Result Joined Stop → Type 0
JoinsTo b f s t a c (Ok j) = Joins b f s t a j.token c j.count (kind_number j.kind)
JoinsTo b f s t a c (Err e) = (before : List (MemberOf b)) → Free b before f → member_of b before (stream s t) ≡ refused (cause_number e.cause) e.place

-- where a function may begin that reads a part of the text more than once: the text is short, and half of the room is left
pub record Roomy (s : List ℕ) (t : Token) (a : Lent) : Type 0 where
  pub lies : LiesIn s 0 t
  pub small : length s ≤ 0x10000
  pub room : a.n + 14 * length s ≤ 0x20000000 + 14 * placed s t
  pub space : a.x + 3 * length s ≤ 0x20000000 + 3 * placed s t

-- ------------------------------------------------------------------ groups at their places

-- the group of a member, among four at most
abbrev pub place_of : (b : Block) → MemberOf b → ℕ
place_of b m = place_in (kinds_of b) (kind_of b m)

-- how many groups are kept for a block: as many as `@tokens` has, which has the most
abbrev pub block_count : ℕ
block_count = 4

-- a member is read that takes so many words and bytes, and it is stored where its group goes on
pub record Settles (b : Block) (free : Bool) (s : List ℕ) (t : Token) (ps qs ps₁ qs₁ ws ts vs us : List ℕ) (u : Token) (words bytes count kind : ℕ) : Type 0 where
  pub joins : Joins b free s t (lent 0 [] 0 []) u (lent words [] bytes []) count kind
  pub words-on : ps₁ ≡ set ps (place_of b joins.value) (get_or ps (place_of b joins.value) 0 + words)
  pub bytes_on : qs₁ ≡ set qs (place_of b joins.value) (get_or qs (place_of b joins.value) 0 + bytes)
  pub stores : Stores (flat nodes (branches_of b joins.value)) (lent (get_or ps (place_of b joins.value) 0) ws (get_or qs (place_of b joins.value) 0) ts)
      (lent (get_or ps (place_of b joins.value) 0 + words) vs (get_or qs (place_of b joins.value) 0 + bytes) us)

-- what an answer says of a member, whatever stands before it: it is read, and stored where its group goes on, or it is this refusal
abbrev pub SettlesTo : (b : Block) → (free : Bool) → List ℕ → Token → (places after : List Extent) → (a c : Store) → Result (Joined × Extent) Stop → Type 0
SettlesTo b f s t ps qs a c (Ok (j, size)) = Settles b f s t (words_in ps) (bytes_in ps) (words_in qs) (bytes_in qs) a.records.now a.texts.now c.records.now c.texts.now j.token size.words size.bytes j.count (kind_number j.kind)
SettlesTo b f s t ps qs a c (Err e) = (before : List (MemberOf b)) → Free b before f → member_of b before (stream s t) ≡ refused (cause_number e.cause) e.place

-- all members are read, which take so many words and bytes, and their groups are filled in
pub record Spreads (b : Block) (s : List ℕ) (t : Token) (ps qs ps₁ qs₁ ws ts vs us : List ℕ) (u : Token) (words bytes count : ℕ) : Type 0 where
  pub gathers : Gathers (members_of b (stream s t)) (all_of (kind_of b) (branches_of b) 0) s t 1 (lent 0 [] 0 []) u (lent words [] bytes []) count
  pub fills : Fills (place_of b) (branches_of b) block_count gathers.members ps qs ps₁ qs₁ ws ts vs us

-- what an answer says of the members of a block: they are read and their groups filled in, or refused with this cause and place
abbrev pub SpreadsTo : (b : Block) → List ℕ → Token → (places after : List Extent) → (a c : Store) → Result Members Stop → Type 0
SpreadsTo b s t ps qs a c (Ok m) = Spreads b s t (words_in ps) (bytes_in ps) (words_in qs) (bytes_in qs) a.records.now a.texts.now c.records.now c.texts.now m.token m.size.words m.size.bytes m.count
SpreadsTo b s t ps qs a c (Err e) = members_of b (stream s t) ≡ refused (cause_number e.cause) e.place

-- the first group of the members that are read takes so many words
abbrev pub FirstIs : (b : Block) → List ℕ → Token → (size : ℕ) → Type 0
FirstIs b s t n = (ms : List (MemberOf b)) (us : T.Tokens ℕ) → members_of b (stream s t) ≡ read ms us → n ≡ width * length (flat nodes (group_at (place_of b) (branches_of b) 0 ms))

-- of members that are read the first size is that of the first group, in words; of a refusal nothing is said
abbrev pub FirstTo : (b : Block) → List ℕ → Token → (sizes : List Extent) → Result (Token × ℕ) Stop → Type 0
FirstTo b s t sizes (Ok r) = FirstIs b s t (get_or (words_in sizes) 0 0)
FirstTo b s t sizes (Err e) = Unit {0}
