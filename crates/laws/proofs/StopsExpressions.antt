-- By which causes props and expressions are refused.
-- Assumes nothing.
use Prim.Native.Nat.{ℕ, zero, suc, ◌+◌}
use mathlib.Core.Path.{◌≡◌, refl}
use mathlib.Core.Bool.{Bool, true, false, ◌&&◌, ◌||◌}
use mathlib.Core.List.{List, [], ◌∷◌}
use mathlib.Core.Option.{Option, none, some}
use lib.Dec.{eqb}
use lib.ListN.{length}
use Rattle.basics.specs.Basics.{if◌then◌otherwise◌, letters, is, spells}
use Rattle.characters.specs.Spans.{Span}
use Rattle.lexer.specs.Tokens.{Kind}
use Rattle.lexer.specs.Sets.{spans, reversed, overlaps_one, fault_from, fault}
use Rattle.tree.specs.CharClasses.{from_name}
use Rattle.tree.specs.Syntax.{Identifier, PropPart, ConflictMarkerKind, SpecializeKind, RepeatKind, CharClass, Expression, RuleDeclaration, TokenReference}
use Rattle.notation.specs.Limits.{repeats}
use Rattle.notation.specs.Parser.{Parser, mark_in, name_in, at_in, is_mark, ends_sequence}
use Rattle.notation.specs.Expressions.{repeat_mark, marker_mark, Item, part_by, parse_part, prop_named, prop_by, parse_prop, parse_props, class_by, std_class_by, set_by, parse_set_expression, reference_of, content_by, inline_by, stacked, repeat_by, parse_repeat, first_empty_arm, choice_by, choice_of, parse_braced_expression, parse_rule_named, parse_inline_rule_expression, parse_specialize_expression, parse_parenthesized_expression, parse_arguments, parse_named, inner_by, parse_expression_inner, parse_expression_suffix, item_by, parse_item, parse_expression_sequence, parse_arm, parse_expression_choice, choice_at}
use Rattle.laws.proofs.Stops.{by_itself, Stops, bind_stops, pure-stops, refuse-stops, refuse_here-stops, choose-stops, if_stops, here-stops, kind-stops, next-stops, eat-stops, expect-stops, parse_identifier-stops, comma-stops, loop-stops, until-stops}

-- the cause of a set that is refused
pub data Faults : Option ℕ → Type 0 where
  no_fault : Faults none
  a_fault : {n : ℕ} → by_itself n ≡ true → Faults (some n)

if_faults : (b : Bool) {o q : Option ℕ} → Faults o → Faults q → Faults (if b then o otherwise q)
if_faults true h k = h
if_faults false h k = k

faults-from : (before ss : List Span) → Faults (fault_from before ss)
unfolding fault_from
faults-from before [] = no_fault
faults-from before (s ∷ ss) = if_faults (reversed s) (a_fault refl) (if_faults (overlaps_one s before) (a_fault refl) (faults-from (s ∷ before) ss))

module _ {S : Type 0} where
  -- ------------------------------------------------------------------ props

  part_by-stops : (p : S) (k : Option Kind) → Stops (part_by p k)
  unfolding part_by
  part_by-stops p (some (Kind.string t)) = bind_stops _ next-stops λ u. pure-stops _
  part_by-stops p (some (Kind.name t)) = bind_stops _ next-stops λ u. pure-stops _
  part_by-stops p (some (Kind.mark c)) =
      if_stops (is "." c) (bind_stops _ next-stops λ u. pure-stops _)
      (if_stops (is "{" c)
      (bind_stops _ next-stops λ u. bind_stops _ parse_identifier-stops λ n. bind_stops _ (expect-stops "}") λ v. pure-stops _)
      (pure-stops none))
  part_by-stops p (some (Kind.at t)) = pure-stops none
  part_by-stops p (some (Kind.set i t)) = pure-stops none
  part_by-stops p none = pure-stops none

  parse_part-stops : (before : List (PropPart S)) → Stops (parse_part before)
  unfolding parse_part
  parse_part-stops before = bind_stops _ here-stops λ p. bind_stops _ kind-stops λ k. part_by-stops p k

  prop_named-stops : (at : Bool) (t : List ℕ) → Stops {S = S} (prop_named at t)
  unfolding prop_named
  prop_named-stops at t =
      bind_stops _ here-stops λ p. bind_stops _ next-stops λ u. bind_stops _ (eat-stops "=") λ b.
      bind_stops _ (choose-stops b (loop-stops _ parse_part-stops) (pure-stops [])) λ parts. pure-stops _

  prop_by-stops : (a n : Option (List ℕ)) → Stops {S = S} (prop_by a n)
  unfolding prop_by
  prop_by-stops (some t) n = prop_named-stops true t
  prop_by-stops none (some t) = prop_named-stops false t
  prop_by-stops none none = refuse_here-stops _ refl

  parse_prop-stops : Stops {S = S} parse_prop
  unfolding parse_prop
  parse_prop-stops = bind_stops _ kind-stops λ k. prop_by-stops (at_in k) (name_in k)

  pub parse_props-stops : Stops {S = S} parse_props
  unfolding parse_props
  parse_props-stops =
      bind_stops _ (eat-stops "[") λ b. choose-stops b (until-stops _ (eat-stops "]") comma-stops λ before. parse_prop-stops) (pure-stops [])

  -- ------------------------------------------------------------------ parts of expressions

  class_by-stops : (p : S) (c : Option CharClass) → Stops (class_by p c)
  unfolding class_by
  class_by-stops p none = refuse_here-stops _ refl
  class_by-stops p (some c) = bind_stops _ next-stops λ u. pure-stops _

  std_class_by-stops : (p : S) (a n : Option (List ℕ)) → Stops (std_class_by p a n)
  unfolding std_class_by
  std_class_by-stops p (some t) n = class_by-stops p (from_name t)
  std_class_by-stops p none (some t) = class_by-stops p (from_name t)
  std_class_by-stops p none none = refuse_here-stops _ refl

  set_by-stops : (p : S) (i : Bool) (ss : List Span) (o : Option ℕ) → Faults o → Stops (set_by p i ss o)
  unfolding set_by
  set_by-stops p i ss none h = bind_stops _ next-stops λ u. pure-stops _
  set_by-stops p i ss (some n) (a_fault h) = refuse-stops n p h

  content_by-stops : (p : S) (o : Option (TokenReference S)) → Stops (content_by p o)
  unfolding content_by
  content_by-stops p none = refuse-stops _ p refl
  content_by-stops p (some (TokenReference.name q t es)) = refuse-stops _ p refl
  content_by-stops p (some (TokenReference.literal q t)) = pure-stops _

  inline_by-stops : (p : S) (r : RuleDeclaration S) (xs : List (Identifier S)) → Stops (inline_by p r xs)
  unfolding inline_by
  inline_by-stops p r [] = pure-stops _
  inline_by-stops p r (x ∷ xs) = refuse-stops _ p refl

  repeat_by-stops : (r : Option RepeatKind) (full : Bool) → Stops {S = S} (repeat_by r full)
  unfolding repeat_by
  repeat_by-stops none full = pure-stops none
  repeat_by-stops (some r) true = refuse_here-stops _ refl
  repeat_by-stops (some r) false = bind_stops _ next-stops λ u. pure-stops _

  parse_repeat-stops : (s : ℕ) (before : List RepeatKind) → Stops {S = S} (parse_repeat s before)
  unfolding parse_repeat
  parse_repeat-stops s before = bind_stops _ kind-stops λ k. repeat_by-stops (repeat_mark (mark_in k)) (eqb (s + length before) repeats)

  choice_by-stops : (p : S) (es : List (Expression S)) (o : Option S) → Stops (choice_by p es o)
  unfolding choice_by
  choice_by-stops p es none = pure-stops _
  choice_by-stops p es (some q) = refuse-stops _ q refl

  choice_of-stops : (p : S) (e : Expression S) (es : List (Expression S)) → Stops (choice_of p e es)
  unfolding choice_of
  choice_of-stops p e [] = pure-stops e
  choice_of-stops p e (f ∷ fs) = choice_by-stops p (e ∷ f ∷ fs) (first_empty_arm (e ∷ f ∷ fs))

  -- ------------------------------------------------------------------ expressions, over the level below

  module _ (below : Parser S (Expression S)) (below-stops : Stops below) where
    pub parse_braced_stops : Stops (parse_braced_expression below)
    unfolding parse_braced_expression
    parse_braced_stops = bind_stops _ (expect-stops "{") λ u. bind_stops _ below-stops λ e. bind_stops _ (expect-stops "}") λ v. pure-stops e

    pub parse_rule_named-stops : (n : Identifier S) → Stops (parse_rule_named below n)
    unfolding parse_rule_named
    parse_rule_named-stops n =
        bind_stops _ parse_props-stops λ ps.
        bind_stops _ (eat-stops "<") λ b.
        bind_stops _ (choose-stops b (until-stops _ (eat-stops ">") comma-stops λ before. parse_identifier-stops) (pure-stops [])) λ params.
        bind_stops _ parse_braced_stops λ e. pure-stops _

    parse_inline_stops : (p : S) (t : List ℕ) → Stops (parse_inline_rule_expression below p t)
    unfolding parse_inline_rule_expression
    parse_inline_stops p t = bind_stops _ (parse_rule_named-stops _) λ r. inline_by-stops p r r.params

    parse_specialize_stops : (p : S) (k : SpecializeKind) → Stops (parse_specialize_expression below p k)
    unfolding parse_specialize_expression
    parse_specialize_stops p k =
        bind_stops _ next-stops λ u.
        bind_stops _ parse_props-stops λ ps.
        bind_stops _ (expect-stops "<") λ v.
        bind_stops _ below-stops λ e.
        bind_stops _ (eat-stops ",") λ two.
        bind_stops _ (choose-stops two below-stops (content_by-stops p (reference_of e))) λ f.
        bind_stops _ (expect-stops ">") λ w. pure-stops _

    parse_parenthesized_stops : (p : S) → Stops (parse_parenthesized_expression below p)
    unfolding parse_parenthesized_expression
    parse_parenthesized_stops p =
        bind_stops _ (eat-stops ")") λ closed.
        choose-stops closed (pure-stops _) (bind_stops _ below-stops λ e. bind_stops _ (expect-stops ")") λ u. pure-stops e)

    parse_arguments-stops : Stops (parse_arguments below)
    unfolding parse_arguments
    parse_arguments-stops =
        bind_stops _ (eat-stops "<") λ b. choose-stops b (until-stops _ (eat-stops ">") comma-stops λ before. below-stops) (pure-stops [])

    parse_named-stops : (p : S) (t : List ℕ) (k : Option Kind) → Stops (parse_named below p t k)
    unfolding parse_named
    parse_named-stops p t k =
        if_stops (is_mark "[" k || is_mark "{" k) (parse_inline_stops p t)
        (if_stops (spells "std" t && is_mark "." k)
        (bind_stops _ next-stops λ u. bind_stops _ kind-stops λ c. std_class_by-stops p (at_in c) (name_in c))
        (bind_stops _ parse_arguments-stops λ es. pure-stops _))

    inner_by-stops : (p : S) (k : Option Kind) → Stops (inner_by below p k)
    unfolding inner_by parse_set_expression
    inner_by-stops p (some (Kind.mark c)) =
        if_stops (is "(" c) (bind_stops _ next-stops λ u. parse_parenthesized_stops p)
        (if_stops (is "[" c) (parse_inline_stops p (letters "_anon")) (refuse_here-stops _ refl))
    inner_by-stops p (some (Kind.string t)) = bind_stops _ next-stops λ u. pure-stops _
    inner_by-stops p (some (Kind.set i t)) = set_by-stops p i (spans t) (fault (spans t)) (faults-from [] (spans t))
    inner_by-stops p (some (Kind.at t)) =
        if_stops (spells "specialize" t) (parse_specialize_stops p SpecializeKind.specialize)
        (if_stops (spells "extend" t) (parse_specialize_stops p SpecializeKind.extend) (class_by-stops p (from_name t)))
    inner_by-stops p (some (Kind.name t)) =
        if_stops (spells "_" t) (bind_stops _ next-stops λ u. pure-stops _)
        (bind_stops _ next-stops λ u. bind_stops _ kind-stops λ k. parse_named-stops p t k)
    inner_by-stops p none = refuse_here-stops _ refl

    pub parse_inner_stops : Stops (parse_expression_inner below)
    unfolding parse_expression_inner
    parse_inner_stops = bind_stops _ here-stops λ p. bind_stops _ kind-stops λ k. inner_by-stops p k

    -- ------------------------------------------------------------------ suffixes, sequences, choices

    parse_suffix_stops : Stops (parse_expression_suffix below)
    unfolding parse_expression_suffix
    parse_suffix_stops =
        bind_stops _ here-stops λ p. bind_stops _ parse_inner_stops λ e. bind_stops _ (loop-stops _ (parse_repeat-stops (stacked e))) λ rs. pure-stops _

    item_by-stops : (p : S) (k : Option Kind) (m : Option ConflictMarkerKind) → Stops (item_by below p k m)
    unfolding item_by
    item_by-stops p k (some m) = bind_stops _ next-stops λ u. bind_stops _ parse_identifier-stops λ n. pure-stops _
    item_by-stops p k none = choose-stops (ends_sequence k) (pure-stops none) (bind_stops _ parse_suffix_stops λ e. pure-stops _)

    parse_item-stops : (before : List (Item S)) → Stops (parse_item below before)
    unfolding parse_item
    parse_item-stops before = bind_stops _ here-stops λ p. bind_stops _ kind-stops λ k. item_by-stops p k (marker_mark (mark_in k))

    parse_sequence_stops : Stops (parse_expression_sequence below)
    unfolding parse_expression_sequence
    parse_sequence_stops = bind_stops _ here-stops λ p. bind_stops _ (loop-stops _ parse_item-stops) λ l. pure-stops _

    parse_arm-stops : (before : List (Expression S)) → Stops (parse_arm below before)
    unfolding parse_arm
    parse_arm-stops before = bind_stops _ (eat-stops "|") λ bar. choose-stops bar (bind_stops _ parse_sequence_stops λ e. pure-stops _) (pure-stops none)

    parse_choice_stops : Stops (parse_expression_choice below)
    unfolding parse_expression_choice
    parse_choice_stops =
        bind_stops _ here-stops λ p. bind_stops _ parse_sequence_stops λ e. bind_stops _ (loop-stops _ parse_arm-stops) λ es. choice_of-stops p e es

  -- at each level
  pub choice_at-stops : (l : ℕ) → Stops {S = S} (choice_at l)
  unfolding choice_at
  choice_at-stops zero = refuse_here-stops _ refl
  choice_at-stops (suc l) = parse_choice_stops (choice_at l) (choice_at-stops l)
