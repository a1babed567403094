-- Props, rules and expressions: the Rust's functions from `parse_rule` to `parse_expression_choice`.
-- Assumes nothing.
use Rattle.std.specs.Prelude.{ℕ, zero, suc, ◌+◌, Bool, true, false, ◌&&◌, ◌||◌, List, [], ◌∷◌, ◌++◌, eqb, length}
use Rattle.std.proofs.Math.Option.{Option, none, some}
use Rattle.basics.specs.Basics.{if◌then◌otherwise◌, letters, is, spells}
use Rattle.error.specs.Causes.{too_deep, inline_parameters, one_part, empty_arm}
use Rattle.characters.specs.Spans.{Span}
use Rattle.lexer.specs.Tokens.{Kind}
use Rattle.lexer.specs.Escapes.{decode_string}
use Rattle.lexer.specs.Sets.{spans, fault, sorted}
use Rattle.tree.specs.CharClasses.{from_name}
use Rattle.tree.specs.Syntax.{Identifier, PropPart, Prop, ConflictMarker, ConflictMarkerKind, SpecializeKind, RepeatKind, CharClass, Expression, Slots, last, slot, RuleDeclaration, TokenReference, start_of, expressions}
use Rattle.notation.specs.Limits.{levels, repeats}
use Rattle.notation.specs.Parser.{Parser, ◌>>=◌, ◌>>◌, pure, refuse, choose, here, kind, refuse_here, unexpected, next, mark_in, name_in, at_in, is_mark, ends_sequence, eat, expect, parse_identifier, loop, until, comma}

-- the mark of a repeat
abbrev pub repeat_mark : ℕ → Option RepeatKind
repeat_mark c =
    if is "*" c then some RepeatKind.zero_or_more
    otherwise if is "?" c then some RepeatKind.optional
    otherwise if is "+" c then some RepeatKind.one_or_more
    otherwise none

-- the mark of a marker
abbrev pub marker_mark : ℕ → Option ConflictMarkerKind
marker_mark c =
    if is "~" c then some ConflictMarkerKind.ambiguity
    otherwise if is "!" c then some ConflictMarkerKind.precedence
    otherwise none

-- what a sequence is made of
pub data Item (S : Type 0) : Type 0 where
  marker : ConflictMarker S → Item S
  expression : Expression S → Item S

module _ {S : Type 0} where
  -- ------------------------------------------------------------------ props

  -- a string or a name, a dot, or `{name}`
  unfoldable pub part_by : S → Option Kind → Parser S (Option (PropPart S))
  part_by p (some (Kind.string t)) = next >> pure (some (PropPart.value p (decode_string t)))
  part_by p (some (Kind.name t)) = next >> pure (some (PropPart.value p t))
  part_by p (some (Kind.mark c)) =
      if is "." c then next >> pure (some (PropPart.value p (letters ".")))
      otherwise if is "{" c then (do
        next
        n ← parse_identifier
        expect "}"
        pure (some (PropPart.name p n.name)))
      otherwise pure none
  part_by p (some (Kind.at t)) = pure none
  part_by p (some (Kind.set i t)) = pure none
  part_by p none = pure none

  -- a part of a prop, if one follows
  unfoldable pub parse_part : List (PropPart S) → Parser S (Option (PropPart S))
  parse_part before = do
    p ← here
    k ← kind
    part_by p k

  -- after the name t
  unfoldable pub prop_named : (at : Bool) → List ℕ → Parser S (Prop S)
  prop_named at t = do
    p ← here
    next
    equals ← eat "="
    parts ← choose equals (loop parse_part) (pure [])
    pure (record { start = p; at = at; name = t; value = parts })

  -- by the word after an `@`, or the name, that it begins with
  unfoldable pub prop_by : Option (List ℕ) → Option (List ℕ) → Parser S (Prop S)
  prop_by (some t) name = prop_named true t
  prop_by none (some t) = prop_named false t
  prop_by none none = unexpected

  -- `parse_prop`
  unfoldable pub parse_prop : Parser S (Prop S)
  parse_prop = kind >>= λ k. prop_by (at_in k) (name_in k)

  -- `[` props `]`, or nothing
  unfoldable pub parse_props : Parser S (List (Prop S))
  parse_props = do
    opens ← eat "["
    choose opens (until (eat "]") comma (λ _. parse_prop)) (pure [])

  -- ------------------------------------------------------------------ parts of expressions

  -- the class, if there is one of that name
  unfoldable pub class_by : S → Option CharClass → Parser S (Expression S)
  class_by p none = unexpected
  class_by p (some c) = next >> pure (Expression.class p c)

  -- after `std.`, with or without an `@`
  unfoldable pub std_class_by : S → Option (List ℕ) → Option (List ℕ) → Parser S (Expression S)
  std_class_by p (some t) name = class_by p (from_name t)
  std_class_by p none (some t) = class_by p (from_name t)
  std_class_by p none none = unexpected

  -- spans that are refused are so before the token after the set is read: `parse_set_expression`
  unfoldable pub set_by : S → Bool → List Span → Option ℕ → Parser S (Expression S)
  set_by p inverted ss none = next >> pure (Expression.set p inverted (sorted ss))
  set_by p inverted ss (some n) = refuse n p

  -- the set at p, with its body
  unfoldable pub parse_set_expression : S → Bool → List ℕ → Parser S (Expression S)
  parse_set_expression p inverted body = set_by p inverted (spans body) (fault (spans body))

  -- an empty literal is explicitly empty: `parse_literal_expression`
  unfoldable pub literal_of : S → List ℕ → Expression S
  literal_of p [] = Expression.empty p
  literal_of p (c ∷ cs) = Expression.literal p (c ∷ cs)

  -- a name or a literal as a reference
  unfoldable pub reference_of : Expression S → Option (TokenReference S)
  reference_of (Expression.name p t es) = some (TokenReference.name p t es)
  reference_of (Expression.literal p t) = some (TokenReference.literal p t)
  reference_of (Expression.special p k ps e f) = none
  reference_of (Expression.inline p t ps e) = none
  reference_of (Expression.choice p es) = none
  reference_of (Expression.sequence p s) = none
  reference_of (Expression.empty p) = none
  reference_of (Expression.repeat p k e) = none
  reference_of (Expression.set p i ss) = none
  reference_of (Expression.any p) = none
  reference_of (Expression.class p c) = none

  -- the content of a specialize at p that has one part: that part, which must be a literal
  unfoldable pub content_by : S → Option (TokenReference S) → Parser S (Expression S)
  content_by p none = refuse one_part p
  content_by p (some (TokenReference.name q t es)) = refuse one_part p
  content_by p (some (TokenReference.literal q t)) = pure (Expression.literal q t)

  -- an inline rule at p has no parameters
  unfoldable pub inline_by : S → RuleDeclaration S → List (Identifier S) → Parser S (Expression S)
  inline_by p r [] = pure (Expression.inline p r.id.name r.props r.expression)
  inline_by p r (x ∷ xs) = refuse inline_parameters p

  -- ------------------------------------------------------------------ repeats

  -- how many repeats stand directly one over another
  unfoldable pub stacked : Expression S → ℕ
  stacked (Expression.repeat p k e) = suc (stacked e)
  stacked (Expression.name p t es) = 0
  stacked (Expression.special p k ps e f) = 0
  stacked (Expression.inline p t ps e) = 0
  stacked (Expression.choice p es) = 0
  stacked (Expression.sequence p s) = 0
  stacked (Expression.empty p) = 0
  stacked (Expression.literal p t) = 0
  stacked (Expression.set p i ss) = 0
  stacked (Expression.any p) = 0
  stacked (Expression.class p c) = 0

  -- one more repeat, unless the stack is full
  unfoldable pub repeat_by : Option RepeatKind → (full : Bool) → Parser S (Option RepeatKind)
  repeat_by none full = pure none
  repeat_by (some r) true = refuse_here too_deep
  repeat_by (some r) false = next >> pure (some r)

  -- a mark over s repeats and those of the marks before
  unfoldable pub parse_repeat : (s : ℕ) → List RepeatKind → Parser S (Option RepeatKind)
  parse_repeat s before = kind >>= λ k. repeat_by (repeat_mark (mark_in k)) (eqb (s + length before) repeats)

  -- the repeats of marks over e, which starts at p
  unfoldable pub repeated : S → List RepeatKind → Expression S → Expression S
  repeated p [] e = e
  repeated p (r ∷ rs) e = repeated p rs (Expression.repeat p r e)

  -- ------------------------------------------------------------------ sequences

  -- the slots of items, after the markers ms
  unfoldable pub slots : List (ConflictMarker S) → List (Item S) → Slots S
  slots ms [] = last ms
  slots ms (marker m ∷ l) = slots (ms ++ m ∷ []) l
  slots ms (expression e ∷ l) = slot ms e (slots [] l)

  -- one expression with no markers is no sequence
  unfoldable pub sequence_of : S → Slots S → Expression S
  sequence_of p (slot [] e (last [])) = e
  sequence_of p (slot [] e (last (m ∷ ms))) = Expression.sequence p (slot [] e (last (m ∷ ms)))
  sequence_of p (slot [] e (slot ms f s)) = Expression.sequence p (slot [] e (slot ms f s))
  sequence_of p (slot (m ∷ ms) e s) = Expression.sequence p (slot (m ∷ ms) e s)
  sequence_of p (last ms) = Expression.sequence p (last ms)

  -- ------------------------------------------------------------------ choices

  -- an arm that is empty, but not explicitly, or has only markers
  unfoldable pub is_empty_arm : Expression S → Bool
  is_empty_arm (Expression.sequence p (last ms)) = true
  is_empty_arm (Expression.sequence p (slot ms e s)) = false
  is_empty_arm (Expression.name p t es) = false
  is_empty_arm (Expression.special p k ps e f) = false
  is_empty_arm (Expression.inline p t ps e) = false
  is_empty_arm (Expression.choice p es) = false
  is_empty_arm (Expression.empty p) = false
  is_empty_arm (Expression.repeat p k e) = false
  is_empty_arm (Expression.literal p t) = false
  is_empty_arm (Expression.set p i ss) = false
  is_empty_arm (Expression.any p) = false
  is_empty_arm (Expression.class p c) = false

  -- the start of the first such arm
  unfoldable pub first_empty_arm : List (Expression S) → Option S
  first_empty_arm [] = none
  first_empty_arm (e ∷ es) = if is_empty_arm e then some (start_of e) otherwise first_empty_arm es

  -- the choice, unless an arm is empty
  unfoldable pub choice_by : S → List (Expression S) → Option S → Parser S (Expression S)
  choice_by p es none = pure (Expression.choice p (expressions es))
  choice_by p es (some q) = refuse empty_arm q

  -- with no second arm there is no choice
  unfoldable pub choice_of : S → Expression S → List (Expression S) → Parser S (Expression S)
  choice_of p e [] = pure e
  choice_of p e (f ∷ fs) = choice_by p (e ∷ f ∷ fs) (first_empty_arm (e ∷ f ∷ fs))

  -- ------------------------------------------------------------------ the functions that call each other
  -- `below` is `parse_expression_choice` one level further in.

  module _ (below : Parser S (Expression S)) where
    -- `{`, an expression, `}`
    unfoldable pub parse_braced_expression : Parser S (Expression S)
    parse_braced_expression = do
      expect "{"
      e ← below
      expect "}"
      pure e

    -- after its name: `parse_rule`
    unfoldable pub parse_rule_named : Identifier S → Parser S (RuleDeclaration S)
    parse_rule_named n = do
      ps ← parse_props
      angle ← eat "<"
      params ← choose angle (until (eat ">") comma (λ _. parse_identifier)) (pure [])
      e ← parse_braced_expression
      pure (record { id = n; props = ps; params = params; expression = e })

    -- an inline rule at p of the name t
    unfoldable pub parse_inline_rule_expression : S → List ℕ → Parser S (Expression S)
    parse_inline_rule_expression p t = do
      r ← parse_rule_named (record { start = p; name = t })
      inline_by p r r.params

    -- `@specialize` or `@extend` at p, at its keyword
    unfoldable pub parse_specialize_expression : S → SpecializeKind → Parser S (Expression S)
    parse_specialize_expression p k = do
      next
      ps ← parse_props
      expect "<"
      e ← below
      two ← eat ","
      f ← choose two below (content_by p (reference_of e))
      expect ">"
      pure (Expression.special p k ps e f)

    -- after its `(`
    unfoldable pub parse_parenthesized_expression : S → Parser S (Expression S)
    parse_parenthesized_expression p = do
      closed ← eat ")"
      choose closed (pure (Expression.empty p)) (do
        e ← below
        expect ")"
        pure e)

    -- `<`, arguments, `>`, or nothing
    unfoldable pub parse_arguments : Parser S (List (Expression S))
    parse_arguments = do
      angle ← eat "<"
      choose angle (until (eat ">") comma (λ _. below)) (pure [])

    -- after the name t: an inline rule, a class of `std`, or a name with arguments. k is the kind of the token after it
    unfoldable pub parse_named : S → List ℕ → Option Kind → Parser S (Expression S)
    parse_named p t k =
        if is_mark "[" k || is_mark "{" k then parse_inline_rule_expression p t
        otherwise if spells "std" t && is_mark "." k then (do
          next
          c ← kind
          std_class_by p (at_in c) (name_in c))
        otherwise (do
          es ← parse_arguments
          pure (Expression.name p t (expressions es)))

    -- by the kind of its first token
    unfoldable pub inner_by : S → Option Kind → Parser S (Expression S)
    inner_by p (some (Kind.mark c)) =
        if is "(" c then next >> parse_parenthesized_expression p
        otherwise if is "[" c then parse_inline_rule_expression p (letters "_anon")
        otherwise unexpected
    inner_by p (some (Kind.string t)) = next >> pure (literal_of p (decode_string t))
    inner_by p (some (Kind.set inverted body)) = parse_set_expression p inverted body
    inner_by p (some (Kind.at t)) =
        if spells "specialize" t then parse_specialize_expression p SpecializeKind.specialize
        otherwise if spells "extend" t then parse_specialize_expression p SpecializeKind.extend
        otherwise class_by p (from_name t)
    inner_by p (some (Kind.name t)) =
        if spells "_" t then next >> pure (Expression.any p)
        otherwise (do
          next
          k ← kind
          parse_named p t k)
    inner_by p none = unexpected

    -- `parse_expression_inner`
    unfoldable pub parse_expression_inner : Parser S (Expression S)
    parse_expression_inner = do
      p ← here
      k ← kind
      inner_by p k

    -- an expression and the repeats over it: `parse_expression_suffix`
    unfoldable pub parse_expression_suffix : Parser S (Expression S)
    parse_expression_suffix = do
      p ← here
      e ← parse_expression_inner
      rs ← loop (parse_repeat (stacked e))
      pure (repeated p rs e)

    -- a marker, the sequence's end, or an expression
    unfoldable pub item_by : S → Option Kind → Option ConflictMarkerKind → Parser S (Option (Item S))
    item_by p k (some m) = do
      next
      n ← parse_identifier
      pure (some (marker (record { start = p; kind = m; name = n.name })))
    item_by p k none = choose (ends_sequence k) (pure none) (do
      e ← parse_expression_suffix
      pure (some (expression e)))

    -- an item of a sequence, if it goes on
    unfoldable pub parse_item : List (Item S) → Parser S (Option (Item S))
    parse_item before = do
      p ← here
      k ← kind
      item_by p k (marker_mark (mark_in k))

    -- `parse_expression_sequence`
    unfoldable pub parse_expression_sequence : Parser S (Expression S)
    parse_expression_sequence = do
      p ← here
      l ← loop parse_item
      pure (sequence_of p (slots [] l))

    -- `|` and an arm
    unfoldable pub parse_arm : List (Expression S) → Parser S (Option (Expression S))
    parse_arm before = do
      bar ← eat "|"
      choose bar (do
        e ← parse_expression_sequence
        pure (some e)) (pure none)

    -- `parse_expression_choice`
    unfoldable pub parse_expression_choice : Parser S (Expression S)
    parse_expression_choice = do
      p ← here
      e ← parse_expression_sequence
      es ← loop parse_arm
      choice_of p e es

  -- a choice where so many levels are left
  unfoldable pub choice_at : ℕ → Parser S (Expression S)
  choice_at zero = refuse_here too_deep
  choice_at (suc l) = parse_expression_choice (choice_at l)

  -- level 1
  abbrev pub outermost : Parser S (Expression S)
  outermost = choice_at levels
