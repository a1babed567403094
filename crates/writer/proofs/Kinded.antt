-- The first words of a stored grammar's records are numbers of kinds.
-- Assumes nothing.
use Prim.Native.Nat.{ℕ, suc, ◌+◌, ◌≤◌, ◌<◌}
use native.Mathlib.Omega.{arith}
use native.Mathlib.Decide.{dec_lt}
use mathlib.Core.Path.{◌≡◌, refl, ap, ◌∙◌}
use mathlib.Core.Bool.{true}
use mathlib.Core.List.{List, [], ◌∷◌, ◌++◌}
use mathlib.Core.Option.{Option, none, some}
use lib.ListN.{length}
use Rattle.tree.specs.Syntax.{PropPart, value, name, Prop, ConflictMarkerKind, ambiguity, precedence, ConflictMarker, Expression, special, inline, choice, sequence, empty, repeat, set, any, class, Expressions, []ᴱ, ◌∷ᴱ◌, Slots, last, slot, RuleDeclaration, TokenReference, referred, TokenPrecDeclaration, TokenConflictDeclaration, LiteralDeclaration, NamedNode, ExternalPropDeclaration, Declaration, top_rule, rule, tokens, local_tokens, context, external_tokens, external_specializer, external_prop_source, precedences, main_skip, scoped_skip, GrammarDeclaration}
use Rattle.tree.specs.Records.{Branch, branch, Branches, []ᴮ, ◌∷ᴮ◌, Node, nodes, nodes_all}
use Rattle.tree.specs.Stored.{each, part_branch, prop_branch, marker_number, marker_branch, span_branch, expression_branch, expression_branches, slot_branches, name_branch, rule_branch, reference_branch, token_prec_branch, token_conflict_branch, literal_branch, named_node_branch, fallback_branches, prec_item_branch, declaration_branch, external_prop_branch, grammar_branch}
use Rattle.tree.specs.OneTree.{is_kind}
use Rattle.tree.specs.Promise.{word_at, All}

-- ------------------------------------------------------------------ of trees

unfoldable mutual
  pub Kinded : Branch → Type 0
  Kinded (branch r bs) = (is_kind r.kind ≡ true) × KindedAll bs

  pub KindedAll : Branches → Type 0
  KindedAll []ᴮ = Unit
  KindedAll (b ∷ᴮ bs) = Kinded b × KindedAll bs

kinded-each : {A : Type 0} (f : A → Branch) → ((x : A) → Kinded (f x)) → (xs : List A) (bs : Branches) → KindedAll bs → KindedAll (each f xs bs)
unfolding each Kinded
kinded-each f h [] bs b = b
kinded-each f h (x ∷ xs) bs b = (h x, kinded-each f h xs bs b)

part-kinded : (x : PropPart ℕ) → Kinded (part_branch x)
unfolding Kinded
part-kinded (value p t) = (refl, tt)
part-kinded (name p t) = (refl, tt)

prop-kinded : (x : Prop ℕ) → Kinded (prop_branch x)
unfolding Kinded
prop-kinded x = (refl, kinded-each part_branch part-kinded x.value []ᴮ tt)

marker-kind : (k : ConflictMarkerKind) → is_kind (marker_number k) ≡ true
marker-kind ambiguity = refl
marker-kind precedence = refl

marker-kinded : (m : ConflictMarker ℕ) → Kinded (marker_branch m)
unfolding Kinded
marker-kinded m = (marker-kind m.kind, tt)

mutual
  unfolding Kinded expression_branch

  expression-kinded : (e : Expression ℕ) → Kinded (expression_branch e)
  expression-kinded (Expression.name p t es) = (refl, expressions-kinded es)
  expression-kinded (special p k ps e f) =
      (refl, kinded-each prop_branch prop-kinded ps (expression_branch e ∷ᴮ expression_branch f ∷ᴮ []ᴮ) (expression-kinded e, (expression-kinded f, tt)))
  expression-kinded (inline p t ps e) = (refl, kinded-each prop_branch prop-kinded ps (expression_branch e ∷ᴮ []ᴮ) (expression-kinded e, tt))
  expression-kinded (choice p es) = (refl, expressions-kinded es)
  expression-kinded (sequence p s) = (refl, slots-kinded s)
  expression-kinded (empty p) = (refl, tt)
  expression-kinded (repeat p k e) = (refl, (expression-kinded e, tt))
  expression-kinded (Expression.literal p t) = (refl, tt)
  expression-kinded (set p i ss) = (refl, kinded-each (span_branch p) (λ s. (refl, tt)) ss []ᴮ tt)
  expression-kinded (any p) = (refl, tt)
  expression-kinded (class p c) = (refl, tt)

  expressions-kinded : (es : Expressions ℕ) → KindedAll (expression_branches es)
  expressions-kinded []ᴱ = tt
  expressions-kinded (e ∷ᴱ es) = (expression-kinded e, expressions-kinded es)

  slots-kinded : (s : Slots ℕ) → KindedAll (slot_branches s)
  slots-kinded (last ms) = kinded-each marker_branch marker-kinded ms []ᴮ tt
  slots-kinded (slot ms e s) = kinded-each marker_branch marker-kinded ms (expression_branch e ∷ᴮ slot_branches s) (expression-kinded e, slots-kinded s)

-- ------------------------------------------------------------------ of declarations

rule-kinded : (k : ℕ) → is_kind k ≡ true → (r : RuleDeclaration ℕ) → Kinded (rule_branch k r)
unfolding Kinded
rule-kinded k h r =
    let bs : Branches = expression_branch r.expression ∷ᴮ []ᴮ in
    (h, kinded-each prop_branch prop-kinded r.props (each (name_branch 4) r.params bs) (kinded-each (name_branch 4) (λ n. (refl, tt)) r.params bs (expression-kinded r.expression, tt)))

reference-kinded : (r : TokenReference ℕ) → Kinded (reference_branch r)
reference-kinded r = expression-kinded (referred r)

prec-kinded : (x : TokenPrecDeclaration ℕ) → Kinded (token_prec_branch x)
unfolding Kinded
prec-kinded x = (refl, kinded-each reference_branch reference-kinded x.items []ᴮ tt)

conflict-kinded : (x : TokenConflictDeclaration ℕ) → Kinded (token_conflict_branch x)
unfolding Kinded
conflict-kinded x = (refl, (reference-kinded x.left, (reference-kinded x.right, tt)))

literal-kinded : (x : LiteralDeclaration ℕ) → Kinded (literal_branch x)
unfolding Kinded
literal-kinded x = (refl, kinded-each prop_branch prop-kinded x.props []ᴮ tt)

node-kinded : (x : NamedNode ℕ) → Kinded (named_node_branch x)
unfolding Kinded
node-kinded x = (refl, kinded-each prop_branch prop-kinded x.props []ᴮ tt)

fallback-kinded : (o : Option (NamedNode ℕ)) → KindedAll (fallback_branches o)
unfolding Kinded
fallback-kinded none = tt
fallback-kinded (some x) = (node-kinded x, tt)

declaration-kinded : (d : Declaration ℕ) → Kinded (declaration_branch d)
unfolding Kinded declaration_branch
declaration-kinded (top_rule r) = rule-kinded 2 refl r
declaration-kinded (rule r) = rule-kinded 3 refl r
declaration-kinded (tokens x) =
    let ls : Branches = each literal_branch x.literals []ᴮ in
    let rs : Branches = each (rule_branch 3) x.rules ls in
    let cs : Branches = each token_conflict_branch x.conflicts rs in (
      refl,
      kinded-each token_prec_branch prec-kinded x.precedences cs
          (kinded-each token_conflict_branch conflict-kinded x.conflicts rs (kinded-each (rule_branch 3) (rule-kinded 3 refl) x.rules ls (kinded-each literal_branch literal-kinded x.literals []ᴮ tt))),
    )
declaration-kinded (local_tokens x) =
    let fs : Branches = fallback_branches x.fallback in
    let rs : Branches = each (rule_branch 3) x.rules fs in
    (refl, kinded-each token_prec_branch prec-kinded x.precedences rs (kinded-each (rule_branch 3) (rule-kinded 3 refl) x.rules fs (fallback-kinded x.fallback)))
declaration-kinded (context x) = (refl, ((refl, tt), tt))
declaration-kinded (external_tokens x) =
    let cs : Branches = each (name_branch 17) x.conflicts []ᴮ in
    (refl, ((refl, tt), kinded-each named_node_branch node-kinded x.tokens cs (kinded-each (name_branch 17) (λ n. (refl, tt)) x.conflicts []ᴮ tt)))
declaration-kinded (external_specializer x) = (refl, (expression-kinded x.token, ((refl, tt), kinded-each named_node_branch node-kinded x.tokens []ᴮ tt)))
declaration-kinded (external_prop_source x) = (refl, ((refl, tt), tt))
declaration-kinded (precedences x) = (refl, kinded-each prec_item_branch (λ i. (refl, tt)) x.items []ᴮ tt)
declaration-kinded (main_skip e) = (refl, (expression-kinded e, tt))
declaration-kinded (scoped_skip x) =
    let rs : Branches = each (rule_branch 3) x.rules []ᴮ in
    (refl, (expression-kinded x.expression, kinded-each (rule_branch 2) (rule-kinded 2 refl) x.top_rules rs (kinded-each (rule_branch 3) (rule-kinded 3 refl) x.rules []ᴮ tt)))

external-kinded : (x : ExternalPropDeclaration ℕ) → Kinded (external_prop_branch x)
unfolding Kinded
external-kinded x = (refl, ((refl, tt), ((refl, tt), tt)))

pub grammar-kinded : (g : GrammarDeclaration ℕ) → Kinded (grammar_branch g)
unfolding Kinded grammar_branch
grammar-kinded g =
    let es : Branches = each external_prop_branch g.external_props []ᴮ in
    let ds : Branches = each (name_branch 24) g.dialects es in (
      refl,
      kinded-each declaration_branch declaration-kinded g.declarations ds
          (kinded-each (name_branch 24) (λ n. (refl, tt)) g.dialects es (kinded-each external_prop_branch external-kinded g.external_props []ᴮ tt)),
    )

-- ------------------------------------------------------------------ of records

unfoldable KnownAll : List Node → Type 0
KnownAll [] = Unit
KnownAll (x ∷ xs) = (is_kind x.row.kind ≡ true) × KnownAll xs

known-append : (xs ys : List Node) → KnownAll xs → KnownAll ys → KnownAll (xs ++ ys)
unfolding KnownAll
known-append [] ys a b = b
known-append (x ∷ xs) ys (k, a) b = (k, known-append xs ys a b)

mutual
  unfolding Kinded KnownAll nodes

  known : (b : Branch) → Kinded b → KnownAll (nodes b)
  known (branch r bs) (k, a) = known-append (nodes_all bs) _ (known-all bs a) (k, tt)

  known-all : (bs : Branches) → KindedAll bs → KnownAll (nodes_all bs)
  known-all []ᴮ a = tt
  known-all (b ∷ᴮ bs) (a, c) = known-append (nodes b) (nodes_all bs) (known b a) (known-all bs c)

known-at : (ws ts : List ℕ) (xs : List Node) (lo i : ℕ) → All ws ts lo xs → KnownAll xs → lo ≤ i → i < lo + length xs → is_kind (word_at ws i 0) ≡ true
unfolding All KnownAll
known-at ws ts [] lo i a k h g = absurd (omega arith)
known-at ws ts (x ∷ xs) lo i (a, b) (k, l) h g =
    elim (dec_lt lo i) [
      | yes e ↦ known-at ws ts xs (suc lo) i b l (omega arith) (omega arith)
      | no e ↦ (let f : lo ≡ i = omega arith in rw (← f) (ap (λ (y : Node). is_kind y.row.kind) a.is ∙ k))
    ]

pub kind-at : (ws ts : List ℕ) (b : Branch) (i : ℕ) → Kinded b → All ws ts 0 (nodes b) → i < length (nodes b) → is_kind (word_at ws i 0) ≡ true
kind-at ws ts b i k a h = known-at ws ts (nodes b) 0 i a (known b k) (omega arith) (omega arith)
