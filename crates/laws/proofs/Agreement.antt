-- Two trees agree exactly when they are equal without their starts.
-- Assumes nothing.
use Prim.Native.Nat.{ℕ}
use mathlib.Core.Path.{◌≡◌, refl, ap, sym, ◌∙◌}
use mathlib.Core.Bool.{true, ◌&&◌}
use mathlib.Core.List.{List, [], ◌∷◌, map}
use mathlib.Core.Option.{Option, none, some}
use Rattle.basics.specs.Basics.{same}
use Rattle.basics.proofs.Tests.{both_true}
use Rattle.characters.specs.Spans.{Span}
use Rattle.tree.specs.Records.{Branch, Branches, []ᴮ, ◌∷ᴮ◌, records, texts}
use Rattle.tree.specs.Stored.{each, part_branch, prop_branch, marker_branch, span_branch, expression_branch, expression_branches, slot_branches, name_branch, rule_branch, reference_branch, token_prec_branch, token_conflict_branch, literal_branch, named_node_branch, fallback_branches, prec_item_branch, declaration_branch, external_prop_branch, grammar_branch}
use Rattle.tree.specs.Equality.{all_agreeing, agree}
use Rattle.tree.specs.Syntax.{Identifier, PropPart, value, Prop, ConflictMarker, Expression, special, inline, choice, sequence, empty, repeat, set, any, class, Expressions, []ᴱ, ◌∷ᴱ◌, Slots, last, slot, RuleDeclaration, TokenReference, TokenPrecDeclaration, TokenConflictDeclaration, LiteralDeclaration, NamedNode, ExternalPropDeclaration, PrecItem, Declaration, top_rule, rule, tokens, local_tokens, context, external_tokens, external_specializer, external_prop_source, precedences, main_skip, scoped_skip, GrammarDeclaration, start_of}
use Rattle.laws.proofs.Starts.{on_identifier, on_part, on_prop, on_marker, on_expression, on_expressions, on_slots, on_rule, on_reference, on_token_prec, on_token_conflict, on_literal, on_named_node, on_fallback, on_prec_item, on_external_prop, on_declaration, on_grammar, bare}
use Rattle.laws.proofs.Fine.{U}
use Rattle.tree.proofs.Known.{bare_branch, bare_branches, agreed, agrees}
use Rattle.laws.proofs.Good.{GoodGrammar}
use Rattle.laws.proofs.Decode.{grammar_in}
use Rattle.laws.proofs.DecodeBackExpressions.{zeroed}
use Rattle.laws.proofs.DecodeBack.{grammar-branch, grammar-back}
use Rattle.laws.proofs.AlikeExpressions.{start-of}

abbrev out : ℕ → U
out p = tt

-- ------------------------------------------------------------------ a tree of records without starts is that of the tree without starts

module _ {X Y : Type 0} (o : X → Y) (z : Y → X) (f : X → Branch) (e : (x : X) → bare_branch (f x) ≡ f (z (o x))) where
  each_bare : (xs : List X) (bs cs : Branches) → bare_branches bs ≡ cs → bare_branches (each f xs bs) ≡ each f (map z (map o xs)) cs
  unfolding bare_branch each
  each_bare [] bs cs h = h
  each_bare (x ∷ xs) bs cs h = rw (e x, each_bare xs bs cs h)

part-bare : (x : PropPart ℕ) → bare_branch (part_branch x) ≡ part_branch (on_part zeroed (on_part out x))
unfolding bare_branch
part-bare (value p t) = refl
part-bare (PropPart.name p t) = refl

prop-bare : (x : Prop ℕ) → bare_branch (prop_branch x) ≡ prop_branch (on_prop zeroed (on_prop out x))
unfolding bare_branch
prop-bare x = rw (each_bare (on_part out) (on_part zeroed) part_branch part-bare x.value []ᴮ []ᴮ refl)

marker-bare : (m : ConflictMarker ℕ) → bare_branch (marker_branch m) ≡ marker_branch (on_marker zeroed (on_marker out m))
unfolding bare_branch
marker-bare m = refl

spans-bare : (p : ℕ) (ss : List Span) → bare_branches (each (span_branch p) ss []ᴮ) ≡ each (span_branch 0) ss []ᴮ
unfolding bare_branch each
spans-bare p [] = refl
spans-bare p (s ∷ ss) = rw (spans-bare p ss)

more : (b : Branch) (bs : Branches) {c : Branch} {cs : Branches} → bare_branch b ≡ c → bare_branches bs ≡ cs → bare_branches (b ∷ᴮ bs) ≡ c ∷ᴮ cs
unfolding bare_branch
more b bs e f = rw (e, f)

abbrev Z : Expression ℕ → Expression ℕ
Z e = on_expression zeroed (on_expression out e)

mutual
  unfolding bare_branch expression_branch on_expression

  expression-bare : (e : Expression ℕ) → bare_branch (expression_branch e) ≡ expression_branch (Z e)
  expression-bare (Expression.name p t es) = rw (expressions-bare es)
  expression-bare (special p k ps e f) =
      rw (each_bare (on_prop out) (on_prop zeroed) prop_branch prop-bare ps (expression_branch e ∷ᴮ expression_branch f ∷ᴮ []ᴮ) (expression_branch (Z e) ∷ᴮ expression_branch (Z f) ∷ᴮ []ᴮ)
      (more (expression_branch e) (expression_branch f ∷ᴮ []ᴮ) (expression-bare e) (more (expression_branch f) []ᴮ (expression-bare f) refl)))
  expression-bare (inline p t ps e) = rw (each_bare (on_prop out) (on_prop zeroed) prop_branch prop-bare ps (expression_branch e ∷ᴮ []ᴮ) (expression_branch (Z e) ∷ᴮ []ᴮ) (more (expression_branch e) []ᴮ (expression-bare e) refl))
  expression-bare (choice p es) = rw (expressions-bare es)
  expression-bare (sequence p s) = rw (slots-bare s)
  expression-bare (empty p) = refl
  expression-bare (repeat p k e) = rw (expression-bare e)
  expression-bare (Expression.literal p t) = refl
  expression-bare (set p i ss) = rw (spans-bare p ss)
  expression-bare (any p) = refl
  expression-bare (class p c) = refl

  expressions-bare : (es : Expressions ℕ) → bare_branches (expression_branches es) ≡ expression_branches (on_expressions zeroed (on_expressions out es))
  expressions-bare []ᴱ = refl
  expressions-bare (e ∷ᴱ es) = rw (expression-bare e, expressions-bare es)

  slots-bare : (s : Slots ℕ) → bare_branches (slot_branches s) ≡ slot_branches (on_slots zeroed (on_slots out s))
  slots-bare (last ms) = each_bare (on_marker out) (on_marker zeroed) marker_branch marker-bare ms []ᴮ []ᴮ refl
  slots-bare (slot ms e s) =
      each_bare (on_marker out) (on_marker zeroed) marker_branch marker-bare ms (expression_branch e ∷ᴮ slot_branches s) (expression_branch (Z e) ∷ᴮ slot_branches (on_slots zeroed (on_slots out s))) (more (expression_branch e) (slot_branches s) (expression-bare e) (slots-bare s))

-- ------------------------------------------------------------------ declarations

name-bare : (k : ℕ) (n : Identifier ℕ) → bare_branch (name_branch k n) ≡ name_branch k (on_identifier zeroed (on_identifier out n))
unfolding bare_branch
name-bare k n = refl

rule-bare : (k : ℕ) (r : RuleDeclaration ℕ) → bare_branch (rule_branch k r) ≡ rule_branch k (on_rule zeroed (on_rule out r))
unfolding bare_branch
rule-bare k r =
    rw (each_bare (on_prop out) (on_prop zeroed) prop_branch prop-bare r.props (each (name_branch 4) r.params (expression_branch r.expression ∷ᴮ []ᴮ)) _
    (each_bare (on_identifier out) (on_identifier zeroed) (name_branch 4) (name-bare 4) r.params (expression_branch r.expression ∷ᴮ []ᴮ) _ (more (expression_branch r.expression) []ᴮ (expression-bare r.expression) refl)))

reference-bare : (r : TokenReference ℕ) → bare_branch (reference_branch r) ≡ reference_branch (on_reference zeroed (on_reference out r))
unfolding on_reference on_expression
reference-bare (TokenReference.name p t es) = expression-bare (Expression.name p t es)
reference-bare (TokenReference.literal p t) = expression-bare (Expression.literal p t)

precedence-bare : (x : TokenPrecDeclaration ℕ) → bare_branch (token_prec_branch x) ≡ token_prec_branch (on_token_prec zeroed (on_token_prec out x))
unfolding bare_branch
precedence-bare x = rw (each_bare (on_reference out) (on_reference zeroed) reference_branch reference-bare x.items []ᴮ []ᴮ refl)

conflict-bare : (x : TokenConflictDeclaration ℕ) → bare_branch (token_conflict_branch x) ≡ token_conflict_branch (on_token_conflict zeroed (on_token_conflict out x))
unfolding bare_branch
conflict-bare x = rw (reference-bare x.left, reference-bare x.right)

literal-bare : (x : LiteralDeclaration ℕ) → bare_branch (literal_branch x) ≡ literal_branch (on_literal zeroed (on_literal out x))
unfolding bare_branch
literal-bare x = rw (each_bare (on_prop out) (on_prop zeroed) prop_branch prop-bare x.props []ᴮ []ᴮ refl)

node-bare : (x : NamedNode ℕ) → bare_branch (named_node_branch x) ≡ named_node_branch (on_named_node zeroed (on_named_node out x))
unfolding bare_branch
node-bare x = rw (each_bare (on_prop out) (on_prop zeroed) prop_branch prop-bare x.props []ᴮ []ᴮ refl)

fallback-bare : (o : Option (NamedNode ℕ)) → bare_branches (fallback_branches o) ≡ fallback_branches (on_fallback zeroed (on_fallback out o))
unfolding bare_branch
fallback-bare none = refl
fallback-bare (some x) = rw (node-bare x)

prec_item-bare : (x : PrecItem ℕ) → bare_branch (prec_item_branch x) ≡ prec_item_branch (on_prec_item zeroed (on_prec_item out x))
unfolding bare_branch
prec_item-bare x = refl

start-zero : (e : Expression ℕ) → start_of (Z e) ≡ 0
start-zero e = start-of zeroed (on_expression out e)

nodes-bare : (xs : List (NamedNode ℕ)) (bs cs : Branches) → bare_branches bs ≡ cs → bare_branches (each named_node_branch xs bs) ≡ each named_node_branch (map (on_named_node zeroed) (map (on_named_node out) xs)) cs
nodes-bare = each_bare (on_named_node out) (on_named_node zeroed) named_node_branch node-bare

names-bare : (k : ℕ) (xs : List (Identifier ℕ)) (bs cs : Branches) → bare_branches bs ≡ cs → bare_branches (each (name_branch k) xs bs) ≡ each (name_branch k) (map (on_identifier zeroed) (map (on_identifier out) xs)) cs
names-bare k = each_bare (on_identifier out) (on_identifier zeroed) (name_branch k) (name-bare k)

rules-bare : (k : ℕ) (xs : List (RuleDeclaration ℕ)) (bs cs : Branches) → bare_branches bs ≡ cs → bare_branches (each (rule_branch k) xs bs) ≡ each (rule_branch k) (map (on_rule zeroed) (map (on_rule out) xs)) cs
rules-bare k = each_bare (on_rule out) (on_rule zeroed) (rule_branch k) (rule-bare k)

precs_bare : (xs : List (TokenPrecDeclaration ℕ)) (bs cs : Branches) → bare_branches bs ≡ cs → bare_branches (each token_prec_branch xs bs) ≡ each token_prec_branch (map (on_token_prec zeroed) (map (on_token_prec out) xs)) cs
precs_bare = each_bare (on_token_prec out) (on_token_prec zeroed) token_prec_branch precedence-bare

declaration-bare : (d : Declaration ℕ) → bare_branch (declaration_branch d) ≡ declaration_branch (on_declaration zeroed (on_declaration out d))
unfolding declaration_branch on_declaration bare_branch
declaration-bare (top_rule r) = rule-bare 2 r
declaration-bare (rule r) = rule-bare 3 r
declaration-bare (tokens x) =
    rw (precs_bare x.precedences _ _ (each_bare (on_token_conflict out) (on_token_conflict zeroed) token_conflict_branch conflict-bare x.conflicts _ _
    (rules-bare 3 x.rules _ _ (each_bare (on_literal out) (on_literal zeroed) literal_branch literal-bare x.literals []ᴮ []ᴮ refl))))
declaration-bare (local_tokens x) = rw (precs_bare x.precedences _ _ (rules-bare 3 x.rules _ _ (fallback-bare x.fallback)))
declaration-bare (context x) = refl
declaration-bare (external_tokens x) = rw (nodes-bare x.tokens _ _ (names-bare 17 x.conflicts []ᴮ []ᴮ refl))
declaration-bare (external_specializer x) = rw (expression-bare x.token, nodes-bare x.tokens []ᴮ []ᴮ refl)
declaration-bare (external_prop_source x) = refl
declaration-bare (precedences x) = rw (each_bare (on_prec_item out) (on_prec_item zeroed) prec_item_branch prec_item-bare x.items []ᴮ []ᴮ refl)
declaration-bare (main_skip e) = rw (expression-bare e, start-zero e)
declaration-bare (scoped_skip x) = rw (expression-bare x.expression, start-zero x.expression, rules-bare 2 x.top_rules _ _ (rules-bare 3 x.rules []ᴮ []ᴮ refl))

external-prop-bare : (x : ExternalPropDeclaration ℕ) → bare_branch (external_prop_branch x) ≡ external_prop_branch (on_external_prop zeroed (on_external_prop out x))
unfolding bare_branch
external-prop-bare x = refl

grammar-bare : (g : GrammarDeclaration ℕ) → bare_branch (grammar_branch g) ≡ grammar_branch (on_grammar zeroed (bare g))
unfolding on_grammar bare_branch
grammar-bare g =
    rw (
      grammar-branch g,
      grammar-branch (on_grammar zeroed (bare g)),
      each_bare (on_declaration out) (on_declaration zeroed) declaration_branch declaration-bare g.declarations _ _
          (names-bare 24 g.dialects _ _ (each_bare (on_external_prop out) (on_external_prop zeroed) external_prop_branch external-prop-bare g.external_props []ᴮ []ᴮ refl)),
    )

-- ------------------------------------------------------------------ agreement

pub agree-records : (g h : GrammarDeclaration ℕ)
    → agree g h ≡ (all_agreeing (records (grammar_branch g)) (records (grammar_branch h)) && same (texts (grammar_branch g)) (texts (grammar_branch h)))
unfolding agree
agree-records g h = refl

-- trees that agree are equal without their starts
pub agree-bare : (g h : GrammarDeclaration ℕ) → GoodGrammar (bare g) → GoodGrammar (bare h) → agree g h ≡ true → bare g ≡ bare h
agree-bare g h a b e =
    let t = both_true (all_agreeing (records (grammar_branch g)) (records (grammar_branch h))) (same (texts (grammar_branch g)) (texts (grammar_branch h))) (sym (agree-records g h) ∙ e) in
    let q = agreed (grammar_branch g) (grammar_branch h) t.0 t.1 in
    sym (grammar-back (bare g) a) ∙ ap grammar_in (sym (grammar-bare g) ∙ q ∙ grammar-bare h) ∙ grammar-back (bare h) b

-- and those that are so agree
pub bare-agree : (g h : GrammarDeclaration ℕ) → bare g ≡ bare h → agree g h ≡ true
bare-agree g h e =
    let t = agrees (grammar_branch g) (grammar_branch h) (grammar-bare g ∙ ap (λ x. grammar_branch (on_grammar zeroed x)) e ∙ sym (grammar-bare h)) in
    rw (agree-records g h, t.0, t.1)
