-- The declarations that reading gives, without starts.
-- Assumes nothing.
use Prim.Native.Nat.{ℕ, ◌≤◌}
use mathlib.Core.Path.{◌≡◌}
use mathlib.Core.Bool.{Bool, true}
use mathlib.Core.List.{List, [], ◌∷◌}
use lib.ListN.{length}
use Rattle.basics.specs.Basics.{among}
use Rattle.tree.specs.Syntax.{Expression, RuleDeclaration, TokenReference, referred, TokenPrecDeclaration, TokenConflictDeclaration, LiteralDeclaration, NamedNode, TokenDeclaration, LocalTokenDeclaration, ContextDeclaration, ExternalTokenDeclaration, ExternalSpecializeDeclaration, ExternalPropSourceDeclaration, ExternalPropDeclaration, PrecItem, PrecDeclaration, ScopedSkipDeclaration, Declaration, top_rule, rule, tokens, local_tokens, context, external_tokens, external_specializer, external_prop_source, precedences, main_skip, scoped_skip, GrammarDeclaration, of_kind, Grouped}
use Rattle.notation.specs.Limits.{levels}
use Rattle.notation.specs.Declarations.{has_top}
use Rattle.characters.proofs.Chars.{Scalars}
use Rattle.laws.proofs.Fine.{U, Word}
use Rattle.laws.proofs.Readable.{GoodName, GoodProp, Item, Readable}
use Rattle.laws.proofs.MeetsExpressions.{Found, GoodRule}
use Rattle.laws.proofs.Every.{Every}

-- an expression of level 1
abbrev pub Outer : Expression U → Type 0
Outer e = Readable levels e

-- a name or a literal
pub record GoodReference (r : TokenReference U) : Type 0 where
  pub item : Item Outer (referred r)

pub record GoodTokenPrec (x : TokenPrecDeclaration U) : Type 0 where
  pub items : Every GoodReference x.items

pub record GoodTokenConflict (x : TokenConflictDeclaration U) : Type 0 where
  pub left : GoodReference x.left
  pub right : GoodReference x.right

pub record GoodLiteral (x : LiteralDeclaration U) : Type 0 where
  pub text : Scalars x.literal
  pub props : Every GoodProp x.props

pub record GoodNode (x : NamedNode U) : Type 0 where
  pub name : GoodName x.id
  pub props : Every GoodProp x.props

pub record GoodPrecItem (x : PrecItem U) : Type 0 where
  pub name : GoodName x.id

-- `name from "source"`
pub record GoodSource (id source : List ℕ) : Type 0 where
  pub word : Word id
  pub text : Scalars source

pub record GoodExternalProp (x : ExternalPropDeclaration U) : Type 0 where
  pub source : GoodSource x.id x.source
  pub external : GoodName x.external_id

pub data GoodDeclaration : Declaration U → Type 0 where
  good-top : {r : RuleDeclaration U} → GoodRule Outer r → GoodDeclaration (top_rule r)
  good-rule : {r : RuleDeclaration U} → GoodRule Outer r → GoodDeclaration (rule r)
  good-tokens : {x : TokenDeclaration U} → Every GoodTokenPrec x.precedences → Every GoodTokenConflict x.conflicts → Every (GoodRule Outer) x.rules → Every GoodLiteral x.literals
      → GoodDeclaration (tokens x)
  good_local : {x : LocalTokenDeclaration U} → Every GoodTokenPrec x.precedences → Every (GoodRule Outer) x.rules → Found GoodNode x.fallback → GoodDeclaration (local_tokens x)
  good-context : {x : ContextDeclaration U} → GoodSource x.id x.source → GoodDeclaration (context x)
  good-external : {x : ExternalTokenDeclaration U} → GoodSource x.id x.source → Every GoodNode x.tokens → Every GoodName x.conflicts → GoodDeclaration (external_tokens x)
  good_specializer : {x : ExternalSpecializeDeclaration U} → Outer x.token → GoodSource x.id x.source → Every GoodNode x.tokens → GoodDeclaration (external_specializer x)
  good-prop-source : {x : ExternalPropSourceDeclaration U} → GoodSource x.id x.source → GoodDeclaration (external_prop_source x)
  good-precedences : {x : PrecDeclaration U} → Every GoodPrecItem x.items → GoodDeclaration (precedences x)
  good-skip : {e : Expression U} → Outer e → GoodDeclaration (main_skip e)
  good_scoped : {x : ScopedSkipDeclaration U} → Outer x.expression → Every (GoodRule Outer) x.top_rules → Every (GoodRule Outer) x.rules → GoodDeclaration (scoped_skip x)

-- the kinds of which there is one at most: `@tokens`, `@context`, `@precedence`, main `@skip`
abbrev pub is_single : ℕ → Bool
is_single k = among (8 ∷ 14 ∷ 20 ∷ 22 ∷ []) k

pub record Singles (ds : List (Declaration U)) : Type 0 where
  pub few : (k : ℕ) → is_single k ≡ true → length (of_kind k ds) ≤ 1

pub record GoodGrammar (g : GrammarDeclaration U) : Type 0 where
  pub declarations : Every GoodDeclaration g.declarations
  pub singles : Singles g.declarations
  pub grouped : Grouped g
  pub top : has_top g.declarations ≡ true
  pub dialects : Every GoodName g.dialects
  pub externals : Every GoodExternalProp g.external_props
