-- The tokens that good declarations are written as are each read back.
-- Assumes nothing.
use Prim.Native.Nat.{ℕ}
use mathlib.Core.Path.{refl}
use mathlib.Core.Bool.{Bool, true, false}
use mathlib.Core.List.{List}
use mathlib.Core.Option.{Option, none, some}
use Rattle.lexer.specs.Tokens.{Kind}
use Rattle.tree.specs.Syntax.{Identifier, SpecializeKind, extend, specialize, Expression, RuleDeclaration, TokenReference, TokenPrecDeclaration, TokenConflictDeclaration, LiteralDeclaration, NamedNode, ExternalPropDeclaration, PrecKind, left, right, cut, PrecItem, Declaration, GrammarDeclaration}
use Rattle.notation.specs.Members.{Member, declaration, external_prop}
use Rattle.notation.specs.Limits.{levels}
use Rattle.spelling.specs.NormalText.{commas, mark, word, specialize_word, prec_tokens, from_tokens, expression_tokens, body_tokens, rule_tokens, top_rule_tokens, reference_tokens, token_prec_tokens, token_conflict_tokens, literal_tokens, named_node_tokens, fallback_tokens, prec_item_tokens, conflicts_tokens, external_set_tokens, declaration_tokens, external_prop_tokens}
use Rattle.laws.proofs.Lists.{not_empty}
use Rattle.laws.proofs.Fine.{U}
use Rattle.laws.proofs.Readable.{GoodName}
use Rattle.laws.proofs.MeetsExpressions.{Found, found_none, found_some, GoodRule}
use Rattle.laws.proofs.Good.{Outer, GoodReference, GoodTokenPrec, GoodTokenConflict, GoodLiteral, GoodNode, GoodPrecItem, GoodSource, GoodExternalProp, GoodDeclaration, good-top, good-rule, good-tokens, good_local, good-context, good-external, good_specializer, good-prop-source, good-precedences, good-skip, good_scoped, GoodGrammar}
use Rattle.laws.proofs.ReadBackGrammar.{member_tokens, members, dialect_members, detect_members}
use Rattle.laws.proofs.Lexable.{name_lexable, string_lexable, is_sign, sign, is_keyword, Keeps, one-keeps, more-keeps, then_keeps, none-keeps, word_keeps, at-keeps, each_keeps, commas-keep, bracketed-keeps, identifier-keeps, props-keep, item-keeps, readable_keeps}
use Rattle.laws.proofs.Every.{Every, every-none, every_more, every_append, every_map}

outer_keeps : (e : Expression U) → Outer e → Keeps (expression_tokens e)
outer_keeps e r = readable_keeps levels e r

-- a mark, and more
module _ {f : List Kind → List Kind} (a : Keeps f) where
  open_brace : Keeps (λ ks. mark "{" (f ks))
  unfolding is_sign
  open_brace = more-keeps (sign "{" refl) a

  comma : Keeps (λ ks. mark "," (f ks))
  unfolding is_sign
  comma = more-keeps (sign "," refl) a

close-brace : Keeps (λ ks. mark "}" ks)
unfolding is_sign
close-brace = one-keeps (sign "}" refl)

body-keeps : (e : Expression U) → Outer e → Keeps (body_tokens e)
body-keeps e r = open_brace (then_keeps (outer_keeps e r) close-brace)

rule-keeps : (r : RuleDeclaration U) → GoodRule Outer r → Keeps (rule_tokens r)
unfolding is_sign
rule-keeps r g =
    more-keeps (name_lexable r.id.name g.word) (then_keeps (props-keep g.props) (then_keeps (bracketed-keeps identifier-keeps "<" ">" refl refl g.params)
    (body-keeps r.expression g.body)))

top-keeps : (r : RuleDeclaration U) → GoodRule Outer r → Keeps (top_rule_tokens r)
unfolding is_keyword
top-keeps r g = at-keeps "top" not_empty refl (rule-keeps r g)

reference-keeps : (r : TokenReference U) → GoodReference r → Keeps (reference_tokens r)
reference-keeps r g = item-keeps outer_keeps g.item

-- a list with commas in braces
braced-keeps : {A : Type 0} {write : A → List Kind → List Kind} {G : A → Type 0} → ((x : A) → G x → Keeps (write x)) → {xs : List A} → Every G xs
    → Keeps (λ ks. mark "{" (commas write xs (mark "}" ks)))
braced-keeps k q = open_brace (then_keeps (commas-keep k q) close-brace)

prec_keeps : (x : TokenPrecDeclaration U) → GoodTokenPrec x → Keeps (token_prec_tokens x)
unfolding is_keyword
prec_keeps x g = at-keeps "precedence" not_empty refl (braced-keeps reference-keeps g.items)

conflict-keeps : (x : TokenConflictDeclaration U) → GoodTokenConflict x → Keeps (token_conflict_tokens x)
unfolding is_keyword
conflict-keeps x g =
    at-keeps "conflict" not_empty refl (open_brace (then_keeps (reference-keeps x.left g.left) (comma (then_keeps (reference-keeps x.right g.right) close-brace))))

literal-keeps : (x : LiteralDeclaration U) → GoodLiteral x → Keeps (literal_tokens x)
literal-keeps x g = more-keeps (string_lexable g.text) (props-keep g.props)

node-keeps : (x : NamedNode U) → GoodNode x → Keeps (named_node_tokens x)
node-keeps x g = then_keeps (identifier-keeps x.id g.name) (props-keep g.props)

fallback-keeps : {o : Option (NamedNode U)} → Found GoodNode o → Keeps (fallback_tokens o)
unfolding is_keyword
fallback-keeps found_none = none-keeps
fallback-keeps (found_some g) = at-keeps "else" not_empty refl (node-keeps _ g)

prec_kind-keeps : (k : Option PrecKind) → Keeps (prec_tokens k)
unfolding is_keyword
prec_kind-keeps none = none-keeps
prec_kind-keeps (some left) = at-keeps "left" not_empty refl none-keeps
prec_kind-keeps (some right) = at-keeps "right" not_empty refl none-keeps
prec_kind-keeps (some cut) = at-keeps "cut" not_empty refl none-keeps

prec_item-keeps : (x : PrecItem U) → GoodPrecItem x → Keeps (prec_item_tokens x)
prec_item-keeps x g = then_keeps (identifier-keeps x.id g.name) (prec_kind-keeps x.kind)

source_keeps : {n s : List ℕ} → GoodSource n s → Keeps (from_tokens n s)
unfolding is_keyword
source_keeps {n} g = more-keeps (name_lexable n g.word) (word_keeps "from" not_empty refl (one-keeps (string_lexable g.text)))

conflicts-keep : {ns : List (Identifier U)} → Every GoodName ns → Keeps (conflicts_tokens ns)
unfolding is_keyword
conflicts-keep every-none = none-keeps
conflicts-keep (every_more g q) = at-keeps "conflict" not_empty refl (braced-keeps identifier-keeps (every_more g q))

set_keeps : {xs : List (NamedNode U)} {ns : List (Identifier U)} → Every GoodNode xs → Every GoodName ns → Keeps (external_set_tokens xs ns)
set_keeps q every-none = braced-keeps node-keeps q
set_keeps every-none (every_more g r) = open_brace (then_keeps (conflicts-keep (every_more g r)) close-brace)
set_keeps (every_more h q) (every_more g r) = open_brace (then_keeps (commas-keep node-keeps (every_more h q)) (comma (then_keeps (conflicts-keep (every_more g r)) close-brace)))

specialize-keeps : (k : SpecializeKind) {f : List Kind → List Kind} → Keeps f → Keeps (λ ks. word (specialize_word k) (f ks))
unfolding is_keyword
specialize-keeps extend a = word_keeps "extend" not_empty refl a
specialize-keeps specialize a = word_keeps "specialize" not_empty refl a

declaration-keeps : {d : Declaration U} → GoodDeclaration d → Keeps (declaration_tokens d)
unfolding declaration_tokens is_keyword
declaration-keeps (good-top g) = top-keeps _ g
declaration-keeps (good-rule g) = rule-keeps _ g
declaration-keeps (good-tokens a b c d) =
    at-keeps "tokens" not_empty refl (open_brace (then_keeps (each_keeps prec_keeps a) (then_keeps (each_keeps conflict-keeps b) (then_keeps (each_keeps rule-keeps c) (then_keeps (each_keeps literal-keeps d) close-brace)))))
declaration-keeps (good_local a b c) =
    at-keeps "local" not_empty refl (word_keeps "tokens" not_empty refl (open_brace (then_keeps (each_keeps prec_keeps a) (then_keeps (each_keeps rule-keeps b) (then_keeps (fallback-keeps c) close-brace)))))
declaration-keeps (good-context g) = at-keeps "context" not_empty refl (source_keeps g)
declaration-keeps (good-external g a b) = at-keeps "external" not_empty refl (word_keeps "tokens" not_empty refl (then_keeps (source_keeps g) (set_keeps a b)))
declaration-keeps (good_specializer {x} r g a) =
    at-keeps "external" not_empty refl (specialize-keeps x.kind (then_keeps (body-keeps x.token r) (then_keeps (source_keeps g) (set_keeps a every-none))))
declaration-keeps (good-prop-source g) = at-keeps "external" not_empty refl (word_keeps "propSource" not_empty refl (source_keeps g))
declaration-keeps (good-precedences g) = at-keeps "precedence" not_empty refl (braced-keeps prec_item-keeps g)
declaration-keeps (good-skip r) = at-keeps "skip" not_empty refl (body-keeps _ r)
declaration-keeps (good_scoped {x} r a b) =
    at-keeps "skip" not_empty refl (then_keeps (body-keeps x.expression r) (open_brace (then_keeps (each_keeps top-keeps a) (then_keeps (each_keeps rule-keeps b) close-brace))))

external-prop-keeps : {x : ExternalPropDeclaration U} → GoodExternalProp x → Keeps (external_prop_tokens x)
unfolding external_prop_tokens is_keyword
external-prop-keeps {x} g =
    at-keeps "external" not_empty refl (word_keeps "prop" not_empty refl (then_keeps (identifier-keeps x.external_id g.external) (word_keeps "as" not_empty refl (source_keeps g.source))))

-- ------------------------------------------------------------------ the members of a grammar

-- a member's line
pub record Line (m : Member U) : Type 0 where
  pub keeps : Keeps (member_tokens m)

dialects-line : {ns : List (Identifier U)} → Every GoodName ns → Every Line (dialect_members ns)
unfolding is_keyword
dialects-line every-none = every-none
dialects-line (every_more g q) = every_more (record { keeps = at-keeps "dialects" not_empty refl (braced-keeps identifier-keeps (every_more g q)) }) every-none

detect_line : (b : Bool) → Every Line (detect_members b)
unfolding is_keyword
detect_line false = every-none
detect_line true = every_more (record { keeps = at-keeps "detectDelim" not_empty refl none-keeps }) every-none

pub members-lines : (g : GrammarDeclaration U) → GoodGrammar g → Every Line (members g)
members-lines g h =
    every_append (every_map declaration (λ d q. record { keeps = declaration-keeps q }) h.declarations)
    (every_append (dialects-line h.dialects) (every_append (every_map external_prop (λ x q. record { keeps = external-prop-keeps q }) h.externals) (detect_line g.auto_delimiters)))
