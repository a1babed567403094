-- Writers put their tokens in front of those that follow, whatever these are.
-- Assumes nothing.
use Prim.Native.Nat.{ℕ}
use Prim.Native.Char.{Char}
use mathlib.Core.Path.{◌≡◌, refl, ap, ◌∙◌}
use mathlib.Core.Bool.{Bool, true, false, ◌||◌}
use mathlib.Core.List.{List, [], ◌∷◌, ◌++◌}
use mathlib.Core.Option.{Option, none, some}
use Rattle.lexer.specs.Tokens.{Kind}
use Rattle.tree.specs.Syntax.{Identifier, PropPart, value, Prop, ConflictMarker, Expression, special, inline, choice, sequence, empty, repeat, set, any, class, Expressions, []ᴱ, ◌∷ᴱ◌, Slots, last, slot, RuleDeclaration, TokenPrecDeclaration, TokenConflictDeclaration, LiteralDeclaration, NamedNode, ExternalPropDeclaration, PrecKind, left, right, cut, PrecItem, Declaration, top_rule, rule, tokens, local_tokens, context, external_tokens, external_specializer, external_prop_source, precedences, main_skip, scoped_skip}
use Rattle.spelling.specs.NormalText.{each, each_after, commas, bracketed, mark, at, identifier, prec_tokens, from_tokens, bracket_if, part_tokens, value_tokens, prop_tokens, props_tokens, is_choice, is_sequence, marker_tokens, expression_tokens, arguments_tokens, more_arguments, arms_tokens, more_arms, slots_tokens, body_tokens, rule_tokens, top_rule_tokens, reference_tokens, token_prec_tokens, token_conflict_tokens, literal_tokens, named_node_tokens, fallback_tokens, prec_item_tokens, conflicts_tokens, external_set_tokens, declaration_tokens, external_prop_tokens}
use Rattle.laws.proofs.Fine.{U}

abbrev cons : Kind → List Kind → List Kind
cons k ks = k ∷ ks

-- f puts the same tokens in front of whatever follows
pub record Adds (f : List Kind → List Kind) : Type 0 where
  pub on : (ks ls : List Kind) → f (ks ++ ls) ≡ f ks ++ ls

one-adds : (k : Kind) → Adds (cons k)
one-adds k = record { on = λ ks ls. refl }

then-adds : {f g : List Kind → List Kind} → Adds f → Adds g → Adds (λ ks. f (g ks))
then-adds {f} {g} a b = record { on = λ ks ls. ap f (b.on ks ls) ∙ a.on (g ks) ls }

more-adds : (k : Kind) {f : List Kind → List Kind} → Adds f → Adds (λ ks. k ∷ f ks)
more-adds k {f} a = record { on = λ ks ls. ap (cons k) (a.on ks ls) }

none-adds : Adds (λ ks. ks)
none-adds = record { on = λ ks ls. refl }

module _ {A : Type 0} (write : A → List Kind → List Kind) (adds : (x : A) → Adds (write x)) where
  each-adds : (xs : List A) → Adds (each write xs)
  unfolding each
  each-adds [] = none-adds
  each-adds (x ∷ xs) = then-adds (adds x) (each-adds xs)

  after-adds : (xs : List A) → Adds (each_after write xs)
  unfolding each_after
  after-adds [] = none-adds
  after-adds (x ∷ xs) = more-adds _ (then-adds (adds x) (after-adds xs))

  commas-adds : (xs : List A) → Adds (commas write xs)
  commas-adds [] = none-adds
  commas-adds (x ∷ xs) = then-adds (adds x) (after-adds xs)

  bracketed-adds : (a b : Char) (xs : List A) → Adds (bracketed write a b xs)
  bracketed-adds a b [] = none-adds
  bracketed-adds a b (x ∷ xs) = more-adds _ (then-adds (adds x) (then-adds (after-adds xs) (one-adds _)))

part-adds : (x : PropPart U) → Adds (part_tokens x)
part-adds (value p t) = one-adds _
part-adds (PropPart.name p t) = more-adds _ (more-adds _ (one-adds _))

value-adds : (xs : List (PropPart U)) → Adds (value_tokens xs)
value-adds [] = none-adds
value-adds (x ∷ xs) = more-adds _ (each-adds part_tokens part-adds (x ∷ xs))

prop-adds : (x : Prop U) → Adds (prop_tokens x)
prop-adds x = more-adds _ (value-adds x.value)

props-adds : (ps : List (Prop U)) → Adds (props_tokens ps)
props-adds ps = bracketed-adds prop_tokens prop-adds "[" "]" ps

marker-adds : (m : ConflictMarker U) → Adds (marker_tokens m)
marker-adds m = more-adds _ (one-adds _)

bracket-adds : (b : Bool) {f : List Kind → List Kind} → Adds f → Adds (bracket_if b f)
bracket-adds true a = more-adds _ (then-adds a (one-adds _))
bracket-adds false a = a

mutual
  unfolding expression_tokens

  expression-adds : (e : Expression U) → Adds (expression_tokens e)
  expression-adds (Expression.name p t es) = more-adds _ (arguments-adds es)
  expression-adds (special p k ps e f) =
      more-adds _ (then-adds (props-adds ps) (more-adds _ (then-adds (expression-adds e) (more-adds _ (then-adds (expression-adds f) (one-adds _))))))
  expression-adds (inline p t ps e) = more-adds _ (then-adds (props-adds ps) (more-adds _ (then-adds (expression-adds e) (one-adds _))))
  expression-adds (choice p es) = arms-adds es
  expression-adds (sequence p s) = slots-adds s
  expression-adds (empty p) = more-adds _ (one-adds _)
  expression-adds (repeat p k e) = then-adds (bracket-adds (is_choice e || is_sequence e) (expression-adds e)) (one-adds _)
  expression-adds (Expression.literal p t) = one-adds _
  expression-adds (set p i ss) = one-adds _
  expression-adds (any p) = one-adds _
  expression-adds (class p c) = one-adds _

  arguments-adds : (es : Expressions U) → Adds (arguments_tokens es)
  arguments-adds []ᴱ = none-adds
  arguments-adds (e ∷ᴱ es) = more-adds _ (then-adds (expression-adds e) (more_arguments-adds es))

  more_arguments-adds : (es : Expressions U) → Adds (more_arguments es)
  more_arguments-adds []ᴱ = one-adds _
  more_arguments-adds (e ∷ᴱ es) = more-adds _ (then-adds (expression-adds e) (more_arguments-adds es))

  arms-adds : (es : Expressions U) → Adds (arms_tokens es)
  arms-adds []ᴱ = none-adds
  arms-adds (e ∷ᴱ es) = then-adds (bracket-adds (is_choice e) (expression-adds e)) (more_arms-adds es)

  more_arms-adds : (es : Expressions U) → Adds (more_arms es)
  more_arms-adds []ᴱ = none-adds
  more_arms-adds (e ∷ᴱ es) = more-adds _ (then-adds (bracket-adds (is_choice e) (expression-adds e)) (more_arms-adds es))

  slots-adds : (s : Slots U) → Adds (slots_tokens s)
  slots-adds (last ms) = each-adds marker_tokens marker-adds ms
  slots-adds (slot ms e s) = then-adds (each-adds marker_tokens marker-adds ms) (then-adds (bracket-adds (is_choice e || is_sequence e) (expression-adds e)) (slots-adds s))

-- ------------------------------------------------------------------ declarations

body-adds : (e : Expression U) → Adds (body_tokens e)
body-adds e = more-adds _ (then-adds (expression-adds e) (one-adds _))

name-adds : (n : Identifier U) → Adds (identifier n)
name-adds n = one-adds _

rule-adds : (r : RuleDeclaration U) → Adds (rule_tokens r)
rule-adds r = more-adds _ (then-adds (props-adds r.props) (then-adds (bracketed-adds identifier name-adds "<" ">" r.params) (body-adds r.expression)))

top-adds : (r : RuleDeclaration U) → Adds (top_rule_tokens r)
top-adds r = more-adds _ (rule-adds r)

-- a list with commas in braces
braced-adds : {A : Type 0} (write : A → List Kind → List Kind) → ((x : A) → Adds (write x)) → (xs : List A) → Adds (λ ks. mark "{" (commas write xs (mark "}" ks)))
braced-adds write a xs = more-adds _ (then-adds (commas-adds write a xs) (one-adds _))

prec_adds : (x : TokenPrecDeclaration U) → Adds (token_prec_tokens x)
prec_adds x = more-adds _ (braced-adds reference_tokens (λ r. expression-adds _) x.items)

conflict-adds : (x : TokenConflictDeclaration U) → Adds (token_conflict_tokens x)
conflict-adds x = more-adds _ (more-adds _ (then-adds (expression-adds _) (more-adds _ (then-adds (expression-adds _) (one-adds _)))))

literal-adds : (x : LiteralDeclaration U) → Adds (literal_tokens x)
literal-adds x = more-adds _ (props-adds x.props)

node-adds : (x : NamedNode U) → Adds (named_node_tokens x)
node-adds x = more-adds _ (props-adds x.props)

fallback-adds : (o : Option (NamedNode U)) → Adds (fallback_tokens o)
fallback-adds none = none-adds
fallback-adds (some x) = more-adds _ (node-adds x)

item-adds : (x : PrecItem U) → Adds (prec_item_tokens x)
item-adds x = more-adds _ (go x.kind)
  where
    go : (k : Option PrecKind) → Adds (prec_tokens k)
    go none = none-adds
    go (some left) = one-adds _
    go (some right) = one-adds _
    go (some cut) = one-adds _

from-adds : (n s : List ℕ) → Adds (from_tokens n s)
from-adds n s = more-adds _ (more-adds _ (one-adds _))

conflicts-adds : (n : Identifier U) (ns : List (Identifier U)) → Adds (conflicts_tokens (n ∷ ns))
conflicts-adds n ns = more-adds _ (braced-adds identifier name-adds (n ∷ ns))

set-adds : (xs : List (NamedNode U)) (ns : List (Identifier U)) → Adds (external_set_tokens xs ns)
set-adds xs [] = braced-adds named_node_tokens node-adds xs
set-adds [] (n ∷ ns) = more-adds _ (then-adds (conflicts-adds n ns) (one-adds _))
set-adds (x ∷ xs) (n ∷ ns) = more-adds _ (then-adds (commas-adds named_node_tokens node-adds (x ∷ xs)) (more-adds _ (then-adds (conflicts-adds n ns) (one-adds _))))

pub declaration-adds : (d : Declaration U) → Adds (declaration_tokens d)
unfolding declaration_tokens
declaration-adds (top_rule r) = top-adds r
declaration-adds (rule r) = rule-adds r
declaration-adds (tokens x) =
    more-adds _ (more-adds _ (then-adds (each-adds token_prec_tokens prec_adds x.precedences) (then-adds (each-adds token_conflict_tokens conflict-adds x.conflicts)
    (then-adds (each-adds rule_tokens rule-adds x.rules) (then-adds (each-adds literal_tokens literal-adds x.literals) (one-adds _))))))
declaration-adds (local_tokens x) =
    more-adds _ (more-adds _ (more-adds _ (then-adds (each-adds token_prec_tokens prec_adds x.precedences) (then-adds (each-adds rule_tokens rule-adds x.rules) (then-adds (fallback-adds x.fallback) (one-adds _))))))
declaration-adds (context x) = more-adds _ (from-adds x.id x.source)
declaration-adds (external_tokens x) = more-adds _ (more-adds _ (then-adds (from-adds x.id x.source) (set-adds x.tokens x.conflicts)))
declaration-adds (external_specializer x) = more-adds _ (more-adds _ (then-adds (body-adds x.token) (then-adds (from-adds x.id x.source) (set-adds x.tokens []))))
declaration-adds (external_prop_source x) = more-adds _ (more-adds _ (from-adds x.id x.source))
declaration-adds (precedences x) = more-adds _ (braced-adds prec_item_tokens item-adds x.items)
declaration-adds (main_skip e) = more-adds _ (body-adds e)
declaration-adds (scoped_skip x) = more-adds _ (then-adds (body-adds x.expression) (more-adds _ (then-adds (each-adds top_rule_tokens top-adds x.top_rules) (then-adds (each-adds rule_tokens rule-adds x.rules) (one-adds _)))))

pub external_prop-adds : (x : ExternalPropDeclaration U) → Adds (external_prop_tokens x)
unfolding external_prop_tokens
external_prop-adds x = more-adds _ (more-adds _ (more-adds _ (more-adds _ (from-adds x.id x.source))))

pub dialects-adds : (ns : List (Identifier U)) → Adds (λ ks. at "dialects" (mark "{" (commas identifier ns (mark "}" ks))))
dialects-adds ns = more-adds _ (braced-adds identifier name-adds ns)
