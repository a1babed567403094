-- The parsers of props, rules and expressions commute with replacing starts.
-- Assumes nothing.
use Prim.Native.Nat.{ℕ, zero, suc, ◌+◌}
use mathlib.Core.Path.{◌≡◌, refl, ap, ◌∙◌}
use mathlib.Core.Bool.{Bool, true, false, ◌&&◌, ◌||◌}
use mathlib.Core.List.{List, [], ◌∷◌, ◌++◌, map, map-append, map-id}
use mathlib.Core.Option.{Option, none, some}
use lib.Dec.{eqb}
use lib.ListN.{length}
use Rattle.basics.specs.Basics.{if◌then◌otherwise◌, letters, is, spells}
use Rattle.characters.specs.Spans.{Span}
use Rattle.lexer.specs.Tokens.{Kind}
use Rattle.lexer.specs.Escapes.{decode_string}
use Rattle.lexer.specs.Sets.{spans, fault}
use Rattle.tree.specs.CharClasses.{from_name}
use Rattle.tree.specs.Syntax.{Identifier, ConflictMarker, ConflictMarkerKind, SpecializeKind, RepeatKind, CharClass, Expression, ◌∷ᴱ◌, Slots, last, slot, RuleDeclaration, TokenReference, start_of, expressions}
use Rattle.notation.specs.Parser.{Parser, mark_in, name_in, at_in, is_mark, ends_sequence}
use Rattle.notation.specs.Limits.{repeats}
use Rattle.notation.specs.Expressions.{repeat_mark, marker_mark, Item, marker, expression, part_by, parse_part, prop_named, prop_by, parse_prop, parse_props, class_by, std_class_by, set_by, parse_set_expression, literal_of, reference_of, content_by, inline_by, stacked, repeat_by, parse_repeat, repeated, slots, sequence_of, is_empty_arm, first_empty_arm, choice_by, choice_of, parse_braced_expression, parse_rule_named, parse_inline_rule_expression, parse_specialize_expression, parse_parenthesized_expression, parse_arguments, parse_named, inner_by, parse_expression_inner, parse_expression_suffix, item_by, parse_item, parse_expression_sequence, parse_arm, parse_expression_choice, choice_at}
use Rattle.laws.proofs.Starts.{on_identifier, on_part, on_prop, on_marker, on_expression, on_expressions, on_slots, on_rule, on_reference}
use Rattle.laws.proofs.Lists.{on_option}
use Rattle.laws.proofs.Alike.{Alike, same, bind_alike, pure_alike, refuse_alike, choose_alike, here_alike, kind_alike, refuse_here_alike, next_alike, eat_alike, expect_alike, parse_identifier_alike, loop_alike, until_alike}

module _ {S T : Type 0} (f : S → T) where
  pub if_alike : {A B : Type 0} {g : A → B} (b : Bool) {p p' : Parser S A} {q q' : Parser T B} → Alike f g p q → Alike f g p' q'
      → Alike f g (if b then p otherwise p') (if b then q otherwise q')
  if_alike true h k = h
  if_alike false h k = k

  -- ------------------------------------------------------------------ props

  part_by_alike : (p : S) (k : Option Kind) → Alike f (on_option (on_part f)) (part_by p k) (part_by (f p) k)
  unfolding part_by
  part_by_alike p (some (Kind.string t)) = bind_alike _ next_alike λ u. pure_alike _ refl
  part_by_alike p (some (Kind.name t)) = bind_alike _ next_alike λ u. pure_alike _ refl
  part_by_alike p (some (Kind.mark c)) =
      if_alike (is "." c) (bind_alike _ next_alike λ u. pure_alike _ refl)
      (if_alike (is "{" c) (bind_alike _ next_alike λ u. bind_alike _ parse_identifier_alike λ n. bind_alike _ (expect_alike "}") λ v. pure_alike _ refl)
      (pure_alike _ refl))
  part_by_alike p (some (Kind.at t)) = pure_alike _ refl
  part_by_alike p (some (Kind.set i t)) = pure_alike _ refl
  part_by_alike p none = pure_alike _ refl

  prop_named_alike : (at : Bool) (t : List ℕ) → Alike f (on_prop f) (prop_named at t) (prop_named at t)
  unfolding prop_named parse_part
  prop_named_alike at t =
      bind_alike _ here_alike λ p.
      bind_alike _ next_alike λ u.
      bind_alike _ (eat_alike "=") λ b.
      bind_alike _ (choose_alike b (loop_alike (on_part f) _ λ before. bind_alike _ here_alike λ q. bind_alike _ kind_alike λ k. part_by_alike q k) (pure_alike _ refl)) λ parts.
      pure_alike _ refl

  prop_by_alike : (a n : Option (List ℕ)) → Alike f (on_prop f) (prop_by a n) (prop_by a n)
  unfolding prop_by
  prop_by_alike (some t) n = prop_named_alike true t
  prop_by_alike none (some t) = prop_named_alike false t
  prop_by_alike none none = refuse_here_alike _

  parse_prop_alike : Alike f (on_prop f) parse_prop parse_prop
  unfolding parse_prop
  parse_prop_alike = bind_alike _ kind_alike λ k. prop_by_alike (at_in k) (name_in k)

  pub parse_props_alike : Alike f (map (on_prop f)) parse_props parse_props
  unfolding parse_props
  parse_props_alike =
      bind_alike _ (eat_alike "[") λ b.
      choose_alike b (until_alike (on_prop f) _ (eat_alike "]") (expect_alike ",") λ _. parse_prop_alike) (pure_alike _ refl)

  -- ------------------------------------------------------------------ parts of expressions

  class_by_alike : (p : S) (c : Option CharClass) → Alike f (on_expression f) (class_by p c) (class_by (f p) c)
  unfolding class_by on_expression
  class_by_alike p none = refuse_here_alike _
  class_by_alike p (some c) = bind_alike _ next_alike λ u. pure_alike _ refl

  std_class_by_alike : (p : S) (a n : Option (List ℕ)) → Alike f (on_expression f) (std_class_by p a n) (std_class_by (f p) a n)
  unfolding std_class_by
  std_class_by_alike p (some t) n = class_by_alike p (from_name t)
  std_class_by_alike p none (some t) = class_by_alike p (from_name t)
  std_class_by_alike p none none = refuse_here_alike _

  set_by_alike : (p : S) (i : Bool) (ss : List Span) (o : Option ℕ) → Alike f (on_expression f) (set_by p i ss o) (set_by (f p) i ss o)
  unfolding set_by on_expression
  set_by_alike p i ss none = bind_alike _ next_alike λ u. pure_alike _ refl
  set_by_alike p i ss (some n) = refuse_alike n p

  parse_set_expression_alike : (p : S) (i : Bool) (t : List ℕ) → Alike f (on_expression f) (parse_set_expression p i t) (parse_set_expression (f p) i t)
  unfolding parse_set_expression
  parse_set_expression_alike p i t = set_by_alike p i (spans t) (fault (spans t))

  literal-on : (p : S) (t : List ℕ) → literal_of (f p) t ≡ on_expression f (literal_of p t)
  unfolding literal_of on_expression
  literal-on p [] = refl
  literal-on p (c ∷ cs) = refl

  pub reference-on : (e : Expression S) → reference_of (on_expression f e) ≡ on_option (on_reference f) (reference_of e)
  unfolding reference_of on_expression on_reference
  reference-on (Expression.name p t es) = refl
  reference-on (Expression.literal p t) = refl
  reference-on (Expression.special p k ps e e') = refl
  reference-on (Expression.inline p t ps e) = refl
  reference-on (Expression.choice p es) = refl
  reference-on (Expression.sequence p s) = refl
  reference-on (Expression.empty p) = refl
  reference-on (Expression.repeat p k e) = refl
  reference-on (Expression.set p i ss) = refl
  reference-on (Expression.any p) = refl
  reference-on (Expression.class p c) = refl

  pub start-of : (e : Expression S) → start_of (on_expression f e) ≡ f (start_of e)
  unfolding on_expression
  start-of (Expression.name p t es) = refl
  start-of (Expression.literal p t) = refl
  start-of (Expression.special p k ps e e') = refl
  start-of (Expression.inline p t ps e) = refl
  start-of (Expression.choice p es) = refl
  start-of (Expression.sequence p s) = refl
  start-of (Expression.empty p) = refl
  start-of (Expression.repeat p k e) = refl
  start-of (Expression.set p i ss) = refl
  start-of (Expression.any p) = refl
  start-of (Expression.class p c) = refl

  content_by_alike : (p : S) (o : Option (TokenReference S)) → Alike f (on_expression f) (content_by p o) (content_by (f p) (on_option (on_reference f) o))
  unfolding content_by on_expression on_reference
  content_by_alike p none = refuse_alike _ p
  content_by_alike p (some (TokenReference.name q t es)) = refuse_alike _ p
  content_by_alike p (some (TokenReference.literal q t)) = pure_alike _ refl

  inline_by_alike : (p : S) (r : RuleDeclaration S) (xs : List (Identifier S)) → Alike f (on_expression f) (inline_by p r xs) (inline_by (f p) (on_rule f r) (map (on_identifier f) xs))
  unfolding inline_by on_expression
  inline_by_alike p r [] = pure_alike _ refl
  inline_by_alike p r (x ∷ xs) = refuse_alike _ p

  -- ------------------------------------------------------------------ repeats, sequences, choices

  stacked-on : (e : Expression S) → stacked (on_expression f e) ≡ stacked e
  unfolding stacked on_expression
  stacked-on (Expression.repeat p k e) = ap suc (stacked-on e)
  stacked-on (Expression.name p t es) = refl
  stacked-on (Expression.literal p t) = refl
  stacked-on (Expression.special p k ps e e') = refl
  stacked-on (Expression.inline p t ps e) = refl
  stacked-on (Expression.choice p es) = refl
  stacked-on (Expression.sequence p s) = refl
  stacked-on (Expression.empty p) = refl
  stacked-on (Expression.set p i ss) = refl
  stacked-on (Expression.any p) = refl
  stacked-on (Expression.class p c) = refl

  repeat_by_alike : (r : Option RepeatKind) (full : Bool) → Alike f (on_option same) (repeat_by r full) (repeat_by r full)
  unfolding repeat_by
  repeat_by_alike none full = pure_alike _ refl
  repeat_by_alike (some r) true = refuse_here_alike _
  repeat_by_alike (some r) false = bind_alike _ next_alike λ u. pure_alike _ refl

  parse_repeat_alike : (s : ℕ) (before : List RepeatKind) → Alike f (on_option same) (parse_repeat s before) (parse_repeat s (map same before))
  unfolding parse_repeat
  parse_repeat_alike s before = rw (map-id before) (bind_alike _ kind_alike λ k. repeat_by_alike (repeat_mark (mark_in k)) (eqb (s + length before) repeats))

  repeated-on : (p : S) (rs : List RepeatKind) (e : Expression S) → repeated (f p) rs (on_expression f e) ≡ on_expression f (repeated p rs e)
  unfolding repeated on_expression
  repeated-on p [] e = refl
  repeated-on p (r ∷ rs) e = repeated-on p rs (Expression.repeat p r e)

  unfoldable on_item : Item S → Item T
  on_item (marker m) = marker (on_marker f m)
  on_item (expression e) = expression (on_expression f e)

  slots-on : (ms : List (ConflictMarker S)) (l : List (Item S)) → slots (map (on_marker f) ms) (map on_item l) ≡ on_slots f (slots ms l)
  unfolding slots on_item on_expression
  slots-on ms [] = refl
  slots-on ms (marker m ∷ l) = rw (← map-append (on_marker f) ms (m ∷ [])) (slots-on (ms ++ m ∷ []) l)
  slots-on ms (expression e ∷ l) = ap (slot (map (on_marker f) ms) (on_expression f e)) (slots-on [] l)

  sequence-on : (p : S) (s : Slots S) → sequence_of (f p) (on_slots f s) ≡ on_expression f (sequence_of p s)
  unfolding sequence_of on_expression
  sequence-on p (slot [] e (last [])) = refl
  sequence-on p (slot [] e (last (m ∷ ms))) = refl
  sequence-on p (slot [] e (slot ms e' s)) = refl
  sequence-on p (slot (m ∷ ms) e s) = refl
  sequence-on p (last ms) = refl

  empty_arm-on : (e : Expression S) → is_empty_arm (on_expression f e) ≡ is_empty_arm e
  unfolding is_empty_arm on_expression
  empty_arm-on (Expression.sequence p (last ms)) = refl
  empty_arm-on (Expression.sequence p (slot ms e s)) = refl
  empty_arm-on (Expression.name p t es) = refl
  empty_arm-on (Expression.literal p t) = refl
  empty_arm-on (Expression.special p k ps e e') = refl
  empty_arm-on (Expression.inline p t ps e) = refl
  empty_arm-on (Expression.choice p es) = refl
  empty_arm-on (Expression.empty p) = refl
  empty_arm-on (Expression.repeat p k e) = refl
  empty_arm-on (Expression.set p i ss) = refl
  empty_arm-on (Expression.any p) = refl
  empty_arm-on (Expression.class p c) = refl

  first_empty_on : (es : List (Expression S)) → first_empty_arm (map (on_expression f) es) ≡ on_option f (first_empty_arm es)
  unfolding first_empty_arm
  first_empty_on [] = refl
  first_empty_on (e ∷ es) = rw (empty_arm-on e, start-of e, first_empty_on es) (go (is_empty_arm e))
    where
      go : (b : Bool) → (if b then some (f (start_of e)) otherwise on_option f (first_empty_arm es)) ≡ on_option f (if b then some (start_of e) otherwise first_empty_arm es)
      go true = refl
      go false = refl

  expressions-on : (es : List (Expression S)) → expressions (map (on_expression f) es) ≡ on_expressions f (expressions es)
  unfolding expressions on_expression
  expressions-on [] = refl
  expressions-on (e ∷ es) = ap (λ l. on_expression f e ∷ᴱ l) (expressions-on es)

  choice_by_alike : (p : S) (es : List (Expression S)) (o : Option S) → Alike f (on_expression f) (choice_by p es o) (choice_by (f p) (map (on_expression f) es) (on_option f o))
  unfolding choice_by on_expression
  choice_by_alike p es none = pure_alike _ (ap (Expression.choice (f p)) (expressions-on es))
  choice_by_alike p es (some q) = refuse_alike _ q

  choice_of_alike : (p : S) (e : Expression S) (es : List (Expression S)) → Alike f (on_expression f) (choice_of p e es) (choice_of (f p) (on_expression f e) (map (on_expression f) es))
  unfolding choice_of
  choice_of_alike p e [] = pure_alike _ refl
  choice_of_alike p e (e' ∷ es) = rw (first_empty_on (e ∷ e' ∷ es)) (choice_by_alike p (e ∷ e' ∷ es) (first_empty_arm (e ∷ e' ∷ es)))

  -- ------------------------------------------------------------------ the functions that call each other

  module _ {below : Parser S (Expression S)} {below' : Parser T (Expression T)} (b-alike : Alike f (on_expression f) below below') where
    pub parse_braced_expression_alike : Alike f (on_expression f) (parse_braced_expression below) (parse_braced_expression below')
    unfolding parse_braced_expression
    parse_braced_expression_alike = bind_alike _ (expect_alike "{") λ u. bind_alike _ b-alike λ e. bind_alike _ (expect_alike "}") λ v. pure_alike _ refl

    pub parse_rule_named_alike : (n : Identifier S) → Alike f (on_rule f) (parse_rule_named below n) (parse_rule_named below' (on_identifier f n))
    unfolding parse_rule_named
    parse_rule_named_alike n =
        bind_alike _ parse_props_alike λ ps.
        bind_alike _ (eat_alike "<") λ b.
        bind_alike _ (choose_alike b (until_alike (on_identifier f) _ (eat_alike ">") (expect_alike ",") λ _. parse_identifier_alike) (pure_alike _ refl)) λ params.
        bind_alike _ parse_braced_expression_alike λ e.
        pure_alike _ refl

    parse_inline_alike : (p : S) (t : List ℕ) → Alike f (on_expression f) (parse_inline_rule_expression below p t) (parse_inline_rule_expression below' (f p) t)
    unfolding parse_inline_rule_expression
    parse_inline_alike p t = bind_alike _ (parse_rule_named_alike (record { start = p; name = t })) λ r. inline_by_alike p r r.params

    parse_specialize_alike : (p : S) (k : SpecializeKind) → Alike f (on_expression f) (parse_specialize_expression below p k) (parse_specialize_expression below' (f p) k)
    unfolding parse_specialize_expression on_expression
    parse_specialize_alike p k =
        bind_alike _ next_alike λ u.
        bind_alike _ parse_props_alike λ ps.
        bind_alike _ (expect_alike "<") λ v.
        bind_alike _ b-alike λ e.
        bind_alike _ (eat_alike ",") λ two.
        bind_alike _ (choose_alike two b-alike (rw (reference-on e) (content_by_alike p (reference_of e)))) λ e'.
        bind_alike _ (expect_alike ">") λ w.
        pure_alike _ refl

    parse_parenthesized_alike : (p : S) → Alike f (on_expression f) (parse_parenthesized_expression below p) (parse_parenthesized_expression below' (f p))
    unfolding parse_parenthesized_expression on_expression
    parse_parenthesized_alike p =
        bind_alike _ (eat_alike ")") λ closed.
        choose_alike closed (pure_alike _ refl) (bind_alike _ b-alike λ e. bind_alike _ (expect_alike ")") λ u. pure_alike _ refl)

    parse_arguments_alike : Alike f (map (on_expression f)) (parse_arguments below) (parse_arguments below')
    unfolding parse_arguments
    parse_arguments_alike = bind_alike _ (eat_alike "<") λ b. choose_alike b (until_alike (on_expression f) _ (eat_alike ">") (expect_alike ",") λ _. b-alike) (pure_alike _ refl)

    parse_named_alike : (p : S) (t : List ℕ) (k : Option Kind) → Alike f (on_expression f) (parse_named below p t k) (parse_named below' (f p) t k)
    unfolding parse_named on_expression
    parse_named_alike p t k =
        if_alike (is_mark "[" k || is_mark "{" k) (parse_inline_alike p t)
        (if_alike (spells "std" t && is_mark "." k) (bind_alike _ next_alike λ u. bind_alike _ kind_alike λ c. std_class_by_alike p (at_in c) (name_in c))
        (bind_alike _ parse_arguments_alike λ es. pure_alike _ (ap (Expression.name (f p) t) (expressions-on es))))

    inner_by_alike : (p : S) (k : Option Kind) → Alike f (on_expression f) (inner_by below p k) (inner_by below' (f p) k)
    unfolding inner_by on_expression
    inner_by_alike p (some (Kind.mark c)) =
        if_alike (is "(" c) (bind_alike _ next_alike λ u. parse_parenthesized_alike p)
        (if_alike (is "[" c) (parse_inline_alike p (letters "_anon")) (refuse_here_alike _))
    inner_by_alike p (some (Kind.string t)) = bind_alike _ next_alike λ u. pure_alike _ (literal-on p (decode_string t))
    inner_by_alike p (some (Kind.set i t)) = parse_set_expression_alike p i t
    inner_by_alike p (some (Kind.at t)) =
        if_alike (spells "specialize" t) (parse_specialize_alike p SpecializeKind.specialize)
        (if_alike (spells "extend" t) (parse_specialize_alike p SpecializeKind.extend) (class_by_alike p (from_name t)))
    inner_by_alike p (some (Kind.name t)) =
        if_alike (spells "_" t) (bind_alike _ next_alike λ u. pure_alike _ refl)
        (bind_alike _ next_alike λ u. bind_alike _ kind_alike λ k. parse_named_alike p t k)
    inner_by_alike p none = refuse_here_alike _

    pub parse_inner_alike : Alike f (on_expression f) (parse_expression_inner below) (parse_expression_inner below')
    unfolding parse_expression_inner
    parse_inner_alike = bind_alike _ here_alike λ p. bind_alike _ kind_alike λ k. inner_by_alike p k

    parse_suffix_alike : Alike f (on_expression f) (parse_expression_suffix below) (parse_expression_suffix below')
    unfolding parse_expression_suffix
    parse_suffix_alike =
        bind_alike _ here_alike λ p.
        bind_alike _ parse_inner_alike λ e.
        bind_alike {g = map same} _ (rw (stacked-on e) (loop_alike same _ λ before. parse_repeat_alike (stacked e) before)) λ rs.
        rw (map-id rs) (pure_alike _ (repeated-on p rs e))

    item_by_alike : (p : S) (k : Option Kind) (m : Option ConflictMarkerKind) → Alike f (on_option on_item) (item_by below p k m) (item_by below' (f p) k m)
    unfolding item_by on_item
    item_by_alike p k (some m) = bind_alike _ next_alike λ u. bind_alike _ parse_identifier_alike λ n. pure_alike _ refl
    item_by_alike p k none = choose_alike (ends_sequence k) (pure_alike _ refl) (bind_alike _ parse_suffix_alike λ e. pure_alike _ refl)

    parse_sequence_alike : Alike f (on_expression f) (parse_expression_sequence below) (parse_expression_sequence below')
    unfolding parse_expression_sequence parse_item
    parse_sequence_alike =
        bind_alike _ here_alike λ p.
        bind_alike _ (loop_alike on_item _ λ before. bind_alike _ here_alike λ q. bind_alike _ kind_alike λ k. item_by_alike q k (marker_mark (mark_in k))) λ l.
        pure_alike _ (ap (sequence_of (f p)) (slots-on [] l) ∙ sequence-on p (slots [] l))

    parse_choice_alike : Alike f (on_expression f) (parse_expression_choice below) (parse_expression_choice below')
    unfolding parse_expression_choice parse_arm
    parse_choice_alike =
        bind_alike _ here_alike λ p.
        bind_alike _ parse_sequence_alike λ e.
        bind_alike _ (loop_alike (on_expression f) _ λ before. bind_alike _ (eat_alike "|") λ bar. choose_alike bar (bind_alike _ parse_sequence_alike λ e'. pure_alike _ refl) (pure_alike _ refl)) λ es.
        choice_of_alike p e es

  pub choice_at_alike : (l : ℕ) → Alike f (on_expression f) (choice_at l) (choice_at l)
  unfolding choice_at
  choice_at_alike zero = refuse_here_alike _
  choice_at_alike (suc l) = parse_choice_alike (choice_at_alike l)
