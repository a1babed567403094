-- What a tree is written as does not depend on its starts.
-- Assumes nothing.
use Prim.Native.Nat.{ℕ}
use Prim.Native.Char.{Char}
use mathlib.Core.Path.{◌≡◌, refl, ap, ◌∙◌}
use mathlib.Core.Bool.{Bool, true, false, ◌||◌}
use mathlib.Core.List.{List, [], ◌∷◌, map}
use mathlib.Core.Option.{Option, none, some}
use Rattle.lexer.specs.Tokens.{Kind}
use Rattle.tree.specs.Syntax.{Identifier, PropPart, value, Prop, ConflictMarker, Expression, special, inline, choice, sequence, empty, repeat, set, any, class, Expressions, []ᴱ, ◌∷ᴱ◌, Slots, last, slot, RuleDeclaration, TokenReference, TokenPrecDeclaration, TokenConflictDeclaration, LiteralDeclaration, NamedNode, ExternalPropDeclaration, PrecItem, Declaration, top_rule, rule, tokens, local_tokens, context, external_tokens, external_specializer, external_prop_source, precedences, main_skip, scoped_skip, GrammarDeclaration}
use Rattle.characters.specs.Utf8.{encode_all}
use Rattle.spelling.specs.Spelling.{spell, spaced}
use Rattle.spelling.specs.NormalText.{each, each_after, commas, bracketed, mark, at, identifier, from_tokens, bracket_if, part_tokens, value_tokens, prop_tokens, props_tokens, is_choice, is_sequence, marker_tokens, expression_tokens, arguments_tokens, more_arguments, arms_tokens, more_arms, slots_tokens, body_tokens, rule_tokens, top_rule_tokens, reference_tokens, token_prec_tokens, token_conflict_tokens, literal_tokens, named_node_tokens, fallback_tokens, prec_item_tokens, conflicts_tokens, external_set_tokens, declaration_tokens, dialects_lines, external_prop_tokens, lines, lines_text, normal_text}
use Rattle.spelling.proofs.Lines.{lines_of}
use Rattle.laws.proofs.Starts.{on_identifier, on_part, on_prop, on_marker, on_expression, on_expressions, on_slots, on_rule, on_reference, on_token_prec, on_token_conflict, on_literal, on_named_node, on_fallback, on_prec_item, on_external_prop, on_declaration, on_grammar}

-- f and g put the same tokens in front of whatever follows
record Same (f g : List Kind → List Kind) : Type 0 where
  on : (ks : List Kind) → f ks ≡ g ks

same : (f : List Kind → List Kind) → Same f f
same f = record { on = λ ks. refl }

more : (k : Kind) {f g : List Kind → List Kind} → Same f g → Same (λ ks. k ∷ f ks) (λ ks. k ∷ g ks)
more k s = record { on = λ ks. ap (λ (l : List Kind). k ∷ l) (s.on ks) }

then : {f g f' g' : List Kind → List Kind} → Same f g → Same f' g' → Same (λ ks. f (f' ks)) (λ ks. g (g' ks))
then {f} s t = record { on = λ ks. ap f (t.on ks) ∙ s.on _ }

-- then one more token
close : (k : Kind) {f g : List Kind → List Kind} → Same f g → Same (λ ks. f (k ∷ ks)) (λ ks. g (k ∷ ks))
close k s = record { on = λ ks. s.on (k ∷ ks) }

module _ {A B : Type 0} (on-item : A → B) (write : A → List Kind → List Kind) (write' : B → List Kind → List Kind) (one : (x : A) → Same (write' (on-item x)) (write x)) where
  each_same : (xs : List A) → Same (each write' (map on-item xs)) (each write xs)
  unfolding each
  each_same [] = same _
  each_same (x ∷ xs) = then (one x) (each_same xs)

  after_same : (xs : List A) → Same (each_after write' (map on-item xs)) (each_after write xs)
  unfolding each_after
  after_same [] = same _
  after_same (x ∷ xs) = more _ (then (one x) (after_same xs))

  commas-same : (xs : List A) → Same (commas write' (map on-item xs)) (commas write xs)
  commas-same [] = same _
  commas-same (x ∷ xs) = then (one x) (after_same xs)

  bracketed-same : (a b : Char) (xs : List A) → Same (bracketed write' a b (map on-item xs)) (bracketed write a b xs)
  bracketed-same a b [] = same _
  bracketed-same a b (x ∷ xs) = more _ (then (one x) (close _ (after_same xs)))

  braced-same : (xs : List A) → Same (λ ks. mark "{" (commas write' (map on-item xs) (mark "}" ks))) (λ ks. mark "{" (commas write xs (mark "}" ks)))
  braced-same xs = more _ (close _ (commas-same xs))

bracket-same : (b : Bool) {f g : List Kind → List Kind} → Same f g → Same (bracket_if b f) (bracket_if b g)
bracket-same true s = more _ (close _ s)
bracket-same false s = s

module _ {S T : Type 0} (f : S → T) where
  identifier-same : (n : Identifier S) → Same (identifier (on_identifier f n)) (identifier n)
  identifier-same n = same _

  part_same : (x : PropPart S) → Same (part_tokens (on_part f x)) (part_tokens x)
  part_same (value p t) = same _
  part_same (PropPart.name p t) = same _

  value_same : (xs : List (PropPart S)) → Same (value_tokens (map (on_part f) xs)) (value_tokens xs)
  value_same [] = same _
  value_same (x ∷ xs) = more _ (each_same (on_part f) part_tokens part_tokens part_same (x ∷ xs))

  prop-same : (x : Prop S) → Same (prop_tokens (on_prop f x)) (prop_tokens x)
  prop-same x = more _ (value_same x.value)

  props-same : (ps : List (Prop S)) → Same (props_tokens (map (on_prop f) ps)) (props_tokens ps)
  props-same ps = bracketed-same (on_prop f) prop_tokens prop_tokens prop-same "[" "]" ps

  marker-same : (m : ConflictMarker S) → Same (marker_tokens (on_marker f m)) (marker_tokens m)
  marker-same m = same _

  markers-same : (ms : List (ConflictMarker S)) → Same (each marker_tokens (map (on_marker f) ms)) (each marker_tokens ms)
  markers-same ms = each_same (on_marker f) marker_tokens marker_tokens marker-same ms

  choice-same : (e : Expression S) → is_choice (on_expression f e) ≡ is_choice e
  unfolding on_expression
  choice-same (choice p es) = refl
  choice-same (sequence p s) = refl
  choice-same (Expression.name p t es) = refl
  choice-same (special p k ps e g) = refl
  choice-same (inline p t ps e) = refl
  choice-same (empty p) = refl
  choice-same (repeat p k e) = refl
  choice-same (Expression.literal p t) = refl
  choice-same (set p i ss) = refl
  choice-same (any p) = refl
  choice-same (class p c) = refl

  sequence-same : (e : Expression S) → is_sequence (on_expression f e) ≡ is_sequence e
  unfolding on_expression
  sequence-same (choice p es) = refl
  sequence-same (sequence p s) = refl
  sequence-same (Expression.name p t es) = refl
  sequence-same (special p k ps e g) = refl
  sequence-same (inline p t ps e) = refl
  sequence-same (empty p) = refl
  sequence-same (repeat p k e) = refl
  sequence-same (Expression.literal p t) = refl
  sequence-same (set p i ss) = refl
  sequence-same (any p) = refl
  sequence-same (class p c) = refl

  -- in brackets where both are, or not
  armed : (e : Expression S) → Same (expression_tokens (on_expression f e)) (expression_tokens e)
      → Same (bracket_if (is_choice (on_expression f e)) (λ l. expression_tokens (on_expression f e) l)) (bracket_if (is_choice e) (λ l. expression_tokens e l))
  armed e s = rw (choice-same e) (bracket-same (is_choice e) s)

  slotted : (e : Expression S) → Same (expression_tokens (on_expression f e)) (expression_tokens e)
      → Same (bracket_if (is_choice (on_expression f e) || is_sequence (on_expression f e)) (λ l. expression_tokens (on_expression f e) l))
      (bracket_if (is_choice e || is_sequence e) (λ l. expression_tokens e l))
  slotted e s = rw (choice-same e, sequence-same e) (bracket-same (is_choice e || is_sequence e) s)

  mutual
    unfolding expression_tokens on_expression

    expression-same : (e : Expression S) → Same (expression_tokens (on_expression f e)) (expression_tokens e)
    expression-same (Expression.name p t es) = more _ (arguments-same es)
    expression-same (special p k ps e g) = more _ (then (props-same ps) (more _ (then (expression-same e) (more _ (close _ (expression-same g))))))
    expression-same (inline p t ps e) = more _ (then (props-same ps) (more _ (close _ (expression-same e))))
    expression-same (choice p es) = arms_same es
    expression-same (sequence p s) = slots_same s
    expression-same (empty p) = same _
    expression-same (repeat p k e) = close _ (slotted e (expression-same e))
    expression-same (Expression.literal p t) = same _
    expression-same (set p i ss) = same _
    expression-same (any p) = same _
    expression-same (class p c) = same _

    arguments-same : (es : Expressions S) → Same (arguments_tokens (on_expressions f es)) (arguments_tokens es)
    arguments-same []ᴱ = same _
    arguments-same (e ∷ᴱ es) = more _ (then (expression-same e) (more_arguments-same es))

    more_arguments-same : (es : Expressions S) → Same (more_arguments (on_expressions f es)) (more_arguments es)
    more_arguments-same []ᴱ = same _
    more_arguments-same (e ∷ᴱ es) = more _ (then (expression-same e) (more_arguments-same es))

    arms_same : (es : Expressions S) → Same (arms_tokens (on_expressions f es)) (arms_tokens es)
    arms_same []ᴱ = same _
    arms_same (e ∷ᴱ es) = then (armed e (expression-same e)) (more_arms-same es)

    more_arms-same : (es : Expressions S) → Same (more_arms (on_expressions f es)) (more_arms es)
    more_arms-same []ᴱ = same _
    more_arms-same (e ∷ᴱ es) = more _ (then (armed e (expression-same e)) (more_arms-same es))

    slots_same : (s : Slots S) → Same (slots_tokens (on_slots f s)) (slots_tokens s)
    slots_same (last ms) = markers-same ms
    slots_same (slot ms e s) = then (markers-same ms) (then (slotted e (expression-same e)) (slots_same s))

  -- ------------------------------------------------------------------ declarations

  body_same : (e : Expression S) → Same (body_tokens (on_expression f e)) (body_tokens e)
  body_same e = more _ (close _ (expression-same e))

  rule-same : (r : RuleDeclaration S) → Same (rule_tokens (on_rule f r)) (rule_tokens r)
  rule-same r = more _ (then (props-same r.props) (then (bracketed-same (on_identifier f) identifier identifier identifier-same "<" ">" r.params) (body_same r.expression)))

  top-same : (r : RuleDeclaration S) → Same (top_rule_tokens (on_rule f r)) (top_rule_tokens r)
  top-same r = more _ (rule-same r)

  reference-same : (r : TokenReference S) → Same (reference_tokens (on_reference f r)) (reference_tokens r)
  unfolding on_reference on_expression
  reference-same (TokenReference.name p t es) = expression-same (Expression.name p t es)
  reference-same (TokenReference.literal p t) = expression-same (Expression.literal p t)

  prec_same : (x : TokenPrecDeclaration S) → Same (token_prec_tokens (on_token_prec f x)) (token_prec_tokens x)
  prec_same x = more _ (braced-same (on_reference f) reference_tokens reference_tokens reference-same x.items)

  conflict-same : (x : TokenConflictDeclaration S) → Same (token_conflict_tokens (on_token_conflict f x)) (token_conflict_tokens x)
  conflict-same x = more _ (more _ (then (reference-same x.left) (more _ (close _ (reference-same x.right)))))

  literal-same : (x : LiteralDeclaration S) → Same (literal_tokens (on_literal f x)) (literal_tokens x)
  literal-same x = more _ (props-same x.props)

  node-same : (x : NamedNode S) → Same (named_node_tokens (on_named_node f x)) (named_node_tokens x)
  node-same x = more _ (props-same x.props)

  fallback-same : (o : Option (NamedNode S)) → Same (fallback_tokens (on_fallback f o)) (fallback_tokens o)
  fallback-same none = same _
  fallback-same (some x) = more _ (node-same x)

  item-same : (x : PrecItem S) → Same (prec_item_tokens (on_prec_item f x)) (prec_item_tokens x)
  item-same x = same _

  conflicts-same : (ns : List (Identifier S)) → Same (conflicts_tokens (map (on_identifier f) ns)) (conflicts_tokens ns)
  conflicts-same [] = same _
  conflicts-same (n ∷ ns) = more _ (braced-same (on_identifier f) identifier identifier identifier-same (n ∷ ns))

  set_same : (xs : List (NamedNode S)) (ns : List (Identifier S)) → Same (external_set_tokens (map (on_named_node f) xs) (map (on_identifier f) ns)) (external_set_tokens xs ns)
  set_same xs [] = braced-same (on_named_node f) named_node_tokens named_node_tokens node-same xs
  set_same [] (n ∷ ns) = more _ (close _ (conflicts-same (n ∷ ns)))
  set_same (x ∷ xs) (n ∷ ns) = more _ (then (commas-same (on_named_node f) named_node_tokens named_node_tokens node-same (x ∷ xs)) (more _ (close _ (conflicts-same (n ∷ ns)))))

  from-same : (n s : List ℕ) {g h : List Kind → List Kind} → Same g h → Same (λ ks. from_tokens n s (g ks)) (λ ks. from_tokens n s (h ks))
  from-same n s q = more _ (more _ (more _ q))

  declaration-same : (d : Declaration S) → Same (declaration_tokens (on_declaration f d)) (declaration_tokens d)
  unfolding declaration_tokens on_declaration
  declaration-same (top_rule r) = top-same r
  declaration-same (rule r) = rule-same r
  declaration-same (tokens x) =
      more _ (more _ (then (each_same (on_token_prec f) token_prec_tokens token_prec_tokens prec_same x.precedences) (then (each_same (on_token_conflict f) token_conflict_tokens token_conflict_tokens conflict-same x.conflicts)
      (then (each_same (on_rule f) rule_tokens rule_tokens rule-same x.rules) (close _ (each_same (on_literal f) literal_tokens literal_tokens literal-same x.literals))))))
  declaration-same (local_tokens x) =
      more _ (more _ (more _ (then (each_same (on_token_prec f) token_prec_tokens token_prec_tokens prec_same x.precedences) (then (each_same (on_rule f) rule_tokens rule_tokens rule-same x.rules) (close _ (fallback-same x.fallback))))))
  declaration-same (context x) = same _
  declaration-same (external_tokens x) = more _ (more _ (from-same x.id x.source (set_same x.tokens x.conflicts)))
  declaration-same (external_specializer x) = more _ (more _ (then (body_same x.token) (from-same x.id x.source (set_same x.tokens []))))
  declaration-same (external_prop_source x) = same _
  declaration-same (precedences x) = more _ (braced-same (on_prec_item f) prec_item_tokens prec_item_tokens item-same x.items)
  declaration-same (main_skip e) = more _ (body_same e)
  declaration-same (scoped_skip x) =
      more _ (then (body_same x.expression) (more _ (then (each_same (on_rule f) top_rule_tokens top_rule_tokens top-same x.top_rules) (close _ (each_same (on_rule f) rule_tokens rule_tokens rule-same x.rules)))))

  external-prop-same : (x : ExternalPropDeclaration S) → Same (external_prop_tokens (on_external_prop f x)) (external_prop_tokens x)
  unfolding external_prop_tokens
  external-prop-same x = same _

  dialects-same : (ns : List (Identifier S)) → dialects_lines (map (on_identifier f) ns) ≡ dialects_lines ns
  dialects-same [] = refl
  dialects-same (n ∷ ns) = ap (λ (l : List Kind). at "dialects" l ∷ []) ((braced-same (on_identifier f) identifier identifier identifier-same (n ∷ ns)).on [])

  map_same : {A B : Type 0} (on-item : A → B) (write : A → List Kind → List Kind) (write' : B → List Kind → List Kind) → ((x : A) → Same (write' (on-item x)) (write x))
      → (xs : List A) → map (λ y. write' y []) (map on-item xs) ≡ map (λ x. write x []) xs
  map_same on-item write write' one [] = refl
  map_same on-item write write' one (x ∷ xs) = rw ((one x).on []) (ap (λ (l : List (List Kind)). write x [] ∷ l) (map_same on-item write write' one xs))

-- ------------------------------------------------------------------ the text

pub lines_same : {S T : Type 0} (f : S → T) (g : GrammarDeclaration S) → lines (on_grammar f g) ≡ lines g
unfolding on_grammar
lines_same f g =
    rw (
      lines_of (on_grammar f g),
      lines_of g,
      map_same f (on_declaration f) declaration_tokens declaration_tokens (declaration-same f) g.declarations,
      dialects-same f g.dialects,
      map_same f (on_external_prop f) external_prop_tokens external_prop_tokens (external-prop-same f) g.external_props,
    )

pub text_of : {S : Type 0} (g : GrammarDeclaration S) → normal_text g ≡ encode_all (lines_text (lines g))
unfolding normal_text encode_all spell spaced lines lines_text
text_of g = refl

pub text_same : {S T : Type 0} (f : S → T) (g : GrammarDeclaration S) → normal_text (on_grammar f g) ≡ normal_text g
text_same f g = rw (text_of (on_grammar f g), text_of g, lines_same f g)
