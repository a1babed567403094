-- The tree of a grammar file, as node.rs has it. S is what a start is: a place, or nothing once starts are left out.
-- A text is a list of codes.
-- Assumes nothing.
use Rattle.std.specs.Prelude.{ℕ, Bool, false, ◌||◌, List, [], ◌∷◌, ◌++◌, ◌≡◌, eqb}
use Rattle.std.proofs.Math.Option.{Option}
use Rattle.basics.specs.Basics.{kept}
use Rattle.characters.specs.Spans.{Span}

infixr 67 ◌∷ᴱ◌
-- a name and where it starts
pub record Identifier (S : Type 0) : Type 0 where
  pub start : S
  pub name : List ℕ

-- a part with a text, or a `{name}`
pub data PropPart (S : Type 0) : Type 0 where
  value : S → List ℕ → PropPart S
  name : S → List ℕ → PropPart S

-- `at`: its name stands after an `@`
pub record Prop (S : Type 0) : Type 0 where
  pub start : S
  pub at : Bool
  pub name : List ℕ
  pub value : List (PropPart S)

-- `~` and `!`
pub data ConflictMarkerKind : Type 0 where
  ambiguity precedence : ConflictMarkerKind

-- a marker and its name
pub record ConflictMarker (S : Type 0) : Type 0 where
  pub start : S
  pub kind : ConflictMarkerKind
  pub name : List ℕ

-- `@extend` and `@specialize`
pub data SpecializeKind : Type 0 where
  extend specialize : SpecializeKind

-- `?`, `*`, `+`
pub data RepeatKind : Type 0 where
  optional zero_or_more one_or_more : RepeatKind

-- the classes of characters that have a name
pub data CharClass : Type 0 where
  ascii_letter ascii_lowercase ascii_uppercase digit whitespace eof : CharClass

-- expressions, their lists and the slots of sequences
mutual
  -- an expression. An S that stands first in a constructor is the start
  pub data Expression (S : Type 0) : Type 0 where
    name : S → List ℕ → (arguments : Expressions S) → Expression S
    special : S → SpecializeKind → List (Prop S) → (token content : Expression S) → Expression S
    inline : S → List ℕ → List (Prop S) → Expression S → Expression S
    choice : S → Expressions S → Expression S
    -- not explicitly empty
    sequence : S → Slots S → Expression S
    -- explicitly empty: `()` or `""`
    empty : S → Expression S
    repeat : S → RepeatKind → Expression S → Expression S
    literal : S → List ℕ → Expression S
    set : S → (inverted : Bool) → List Span → Expression S
    any : S → Expression S
    class : S → CharClass → Expression S

  -- a list of expressions
  pub data Expressions (S : Type 0) : Type 0 where
    []ᴱ : Expressions S
    ◌∷ᴱ◌ : Expression S → Expressions S → Expressions S

  -- a sequence's slots: the markers before each expression, and those after the last
  pub data Slots (S : Type 0) : Type 0 where
    last : List (ConflictMarker S) → Slots S
    slot : List (ConflictMarker S) → Expression S → Slots S → Slots S

-- a rule. Its start is that of its name
pub record RuleDeclaration (S : Type 0) : Type 0 where
  pub id : Identifier S
  pub props : List (Prop S)
  pub params : List (Identifier S)
  pub expression : Expression S

-- what a token precedence or a token conflict names
pub data TokenReference (S : Type 0) : Type 0 where
  name : S → List ℕ → Expressions S → TokenReference S
  literal : S → List ℕ → TokenReference S

-- `@precedence` in a block of tokens
pub record TokenPrecDeclaration (S : Type 0) : Type 0 where
  pub start : S
  pub items : List (TokenReference S)

-- `@conflict` in a block of tokens
pub record TokenConflictDeclaration (S : Type 0) : Type 0 where
  pub start : S
  pub left : TokenReference S
  pub right : TokenReference S

-- a literal in `@tokens`
pub record LiteralDeclaration (S : Type 0) : Type 0 where
  pub start : S
  pub literal : List ℕ
  pub props : List (Prop S)

-- a name with props: a token of an external block, or a fallback
pub record NamedNode (S : Type 0) : Type 0 where
  pub id : Identifier S
  pub props : List (Prop S)

-- `@tokens`, its members kind by kind
pub record TokenDeclaration (S : Type 0) : Type 0 where
  pub start : S
  pub precedences : List (TokenPrecDeclaration S)
  pub conflicts : List (TokenConflictDeclaration S)
  pub rules : List (RuleDeclaration S)
  pub literals : List (LiteralDeclaration S)

-- `@local tokens`, its members kind by kind
pub record LocalTokenDeclaration (S : Type 0) : Type 0 where
  pub start : S
  pub precedences : List (TokenPrecDeclaration S)
  pub rules : List (RuleDeclaration S)
  pub fallback : Option (NamedNode S)

-- `@context`
pub record ContextDeclaration (S : Type 0) : Type 0 where
  pub start : S
  pub id : List ℕ
  pub source : List ℕ

-- `@external tokens`
pub record ExternalTokenDeclaration (S : Type 0) : Type 0 where
  pub start : S
  pub id : List ℕ
  pub source : List ℕ
  pub tokens : List (NamedNode S)
  pub conflicts : List (Identifier S)

-- `@external extend` and `@external specialize`
pub record ExternalSpecializeDeclaration (S : Type 0) : Type 0 where
  pub start : S
  pub kind : SpecializeKind
  pub token : Expression S
  pub id : List ℕ
  pub source : List ℕ
  pub tokens : List (NamedNode S)

-- `@external propSource`
pub record ExternalPropSourceDeclaration (S : Type 0) : Type 0 where
  pub start : S
  pub id : List ℕ
  pub source : List ℕ

-- `@external prop`: `external_id` is the name at the source, `id` the one after `as`
pub record ExternalPropDeclaration (S : Type 0) : Type 0 where
  pub start : S
  pub id : List ℕ
  pub external_id : Identifier S
  pub source : List ℕ

-- `@left`, `@right` and `@cut`
pub data PrecKind : Type 0 where
  left right cut : PrecKind

-- an item of `@precedence`
pub record PrecItem (S : Type 0) : Type 0 where
  pub id : Identifier S
  pub kind : Option PrecKind

-- `@precedence` at top level
pub record PrecDeclaration (S : Type 0) : Type 0 where
  pub start : S
  pub items : List (PrecItem S)

-- `@skip` with a block of rules
pub record ScopedSkipDeclaration (S : Type 0) : Type 0 where
  pub expression : Expression S
  pub top_rules : List (RuleDeclaration S)
  pub rules : List (RuleDeclaration S)

-- what stands at top level, but for dialects, external props and `@detectDelim`
pub data Declaration (S : Type 0) : Type 0 where
  top_rule : RuleDeclaration S → Declaration S
  rule : RuleDeclaration S → Declaration S
  tokens : TokenDeclaration S → Declaration S
  local_tokens : LocalTokenDeclaration S → Declaration S
  context : ContextDeclaration S → Declaration S
  external_tokens : ExternalTokenDeclaration S → Declaration S
  external_specializer : ExternalSpecializeDeclaration S → Declaration S
  external_prop_source : ExternalPropSourceDeclaration S → Declaration S
  precedences : PrecDeclaration S → Declaration S
  main_skip : Expression S → Declaration S
  scoped_skip : ScopedSkipDeclaration S → Declaration S

-- the declarations stand in groups (`Grouped`, below)
pub record GrammarDeclaration (S : Type 0) : Type 0 where
  pub start : S
  pub declarations : List (Declaration S)
  pub dialects : List (Identifier S)
  pub external_props : List (ExternalPropDeclaration S)
  pub auto_delimiters : Bool

module _ {S : Type 0} where
  -- the kind of a declaration's record
  abbrev pub declaration_kind : Declaration S → ℕ
  declaration_kind (top_rule r) = 2
  declaration_kind (rule r) = 3
  declaration_kind (tokens t) = 8
  declaration_kind (local_tokens t) = 12
  declaration_kind (context c) = 14
  declaration_kind (external_tokens t) = 16
  declaration_kind (external_specializer x) = 18
  declaration_kind (external_prop_source x) = 19
  declaration_kind (precedences p) = 20
  declaration_kind (main_skip e) = 22
  declaration_kind (scoped_skip s) = 23

  -- those of a kind, in their order
  abbrev pub of_kind : ℕ → List (Declaration S) → List (Declaration S)
  of_kind k ds = kept (λ d. eqb (declaration_kind d) k) ds

  -- the groups of these kinds, one after another
  unfoldable pub groups : List ℕ → List (Declaration S) → List (Declaration S)
  groups [] ds = []
  groups (k ∷ ks) ds = of_kind k ds ++ groups ks ds

  -- in the order of groups that a grammar's record has
  abbrev pub grouped : List (Declaration S) → List (Declaration S)
  grouped ds = groups (2 ∷ 3 ∷ 8 ∷ 12 ∷ 14 ∷ 16 ∷ 18 ∷ 19 ∷ 20 ∷ 22 ∷ 23 ∷ []) ds

  -- what is read has its declarations in groups
  abbrev pub Grouped : GrammarDeclaration S → Type 0
  Grouped g = grouped g.declarations ≡ g.declarations

  -- one of them is of the kind
  unfoldable pub has_kind : ℕ → List (Declaration S) → Bool
  has_kind k [] = false
  has_kind k (d ∷ ds) = eqb (declaration_kind d) k || has_kind k ds

  -- the start of an expression
  abbrev pub start_of : Expression S → S
  start_of (Expression.name p t es) = p
  start_of (special p k ps e f) = p
  start_of (inline p t ps e) = p
  start_of (choice p es) = p
  start_of (sequence p s) = p
  start_of (empty p) = p
  start_of (repeat p k e) = p
  start_of (Expression.literal p t) = p
  start_of (set p i ss) = p
  start_of (any p) = p
  start_of (class p c) = p

  -- as the expressions of a choice or the arguments of a name
  unfoldable pub expressions : List (Expression S) → Expressions S
  expressions [] = []ᴱ
  expressions (e ∷ es) = e ∷ᴱ expressions es

  -- a reference as an expression
  abbrev pub referred : TokenReference S → Expression S
  referred (TokenReference.name p t es) = Expression.name p t es
  referred (TokenReference.literal p t) = Expression.literal p t
