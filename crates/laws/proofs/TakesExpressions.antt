-- No loop in the reading of props and expressions meets its bound, at any level: each turn takes a token, or is the first of a list of arguments.
-- Assumes nothing.
use Prim.Native.Nat.{ℕ, zero, suc, ◌+◌, ◌-◌}
use Prim.Native.Char.{Char}
use mathlib.Core.Path.{◌≡◌, refl}
use mathlib.Core.Bool.{Bool, true, false, ◌&&◌, ◌||◌}
use mathlib.Core.List.{List, [], ◌∷◌}
use mathlib.Core.Option.{Option, none, some}
use lib.Dec.{eqb}
use lib.ListN.{length}
use Rattle.basics.specs.Basics.{letters, is, spells}
use Rattle.basics.proofs.Tests.{impossible}
use Rattle.characters.specs.Spans.{Span}
use Rattle.lexer.specs.Tokens.{Kind, Tokens}
use Rattle.lexer.specs.Sets.{spans, fault}
use Rattle.tree.specs.CharClasses.{from_name}
use Rattle.tree.specs.Syntax.{Identifier, PropPart, ConflictMarkerKind, SpecializeKind, RepeatKind, CharClass, Expression, RuleDeclaration, TokenReference}
use Rattle.notation.specs.Limits.{repeats}
use Rattle.notation.specs.Parser.{Parser, ◌>>=◌, pure, choose, start_of, kind_of, mark_in, name_in, at_in, is_end, is_mark, ends_sequence, eat, parse_identifier, until_step, comma}
use Rattle.notation.specs.Expressions.{repeat_mark, marker_mark, Item, part_by, parse_part, prop_named, prop_by, parse_prop, parse_props, class_by, std_class_by, set_by, parse_set_expression, reference_of, content_by, inline_by, stacked, repeat_by, parse_repeat, first_empty_arm, choice_by, choice_of, parse_braced_expression, parse_rule_named, parse_inline_rule_expression, parse_specialize_expression, parse_parenthesized_expression, parse_arguments, parse_named, inner_by, parse_expression_inner, parse_expression_suffix, item_by, parse_item, parse_expression_sequence, parse_arm, parse_expression_choice, choice_at}
use Rattle.laws.specs.Bound.{Enough}
use Rattle.laws.proofs.Takes.{Takes, bind_takes, pure-takes, refuse-takes, refuse_here-takes, choose-takes, if_takes, any, here-takes, kind-takes, There, next-takes, next-any, name-there, at_there, eat-takes, expect-takes, parse_identifier-takes, comma-takes, one_if, one_found, one_after, found, loop-takes, loop-enough, spaced-takes, spaced-enough}

-- a mark of a repeat is a token
repeat-there : (k : Option Kind) (r : RepeatKind) → repeat_mark (mark_in k) ≡ some r → is_end k ≡ false
repeat-there (some k) r h = refl
repeat-there none r h = impossible (cc)

module _ {S : Type 0} where
  pub eat-any : (c : Char) → is c 0 ≡ false → (ts : Tokens S) → Takes (eat c) ts (λ b. 0)
  eat-any c n ts = any (eat-takes c n ts)

  -- ------------------------------------------------------------------ props

  part_by-takes : (p : S) (k : Option Kind) (ts : Tokens S) → is_end (kind_of ts) ≡ is_end k → Takes (part_by p k) ts one_found
  unfolding part_by
  part_by-takes p (some (Kind.string t)) ts h = bind_takes _ (next-takes ts h) λ u us. pure-takes _ us refl
  part_by-takes p (some (Kind.name t)) ts h = bind_takes _ (next-takes ts h) λ u us. pure-takes _ us refl
  part_by-takes p (some (Kind.mark c)) ts h =
      if_takes (is "." c) (bind_takes _ (next-takes ts h) λ u us. pure-takes _ us refl)
      (if_takes (is "{" c)
      (bind_takes _ (next-takes ts h) λ u us. bind_takes _ (parse_identifier-takes us) λ n vs. bind_takes _ (expect-takes "}" refl vs) λ v ws. pure-takes _ ws refl)
      (pure-takes none ts refl))
  part_by-takes p (some (Kind.at t)) ts h = pure-takes none ts refl
  part_by-takes p (some (Kind.set i t)) ts h = pure-takes none ts refl
  part_by-takes p none ts h = pure-takes none ts refl

  part_step : (before : List (PropPart S)) (ts : Tokens S) → Takes (parse_part before) ts (one_after before)
  unfolding parse_part
  part_step before ts = found before (here-takes _ ts (kind-takes _ ts (part_by-takes (start_of ts) (kind_of ts) ts refl)))

  -- the parts of a prop's value
  pub parts-enough : Enough {S = S} parse_part
  parts-enough = loop-enough _ part_step

  prop_named-takes : (at : Bool) (t : List ℕ) (ts : Tokens S) → There ts → Takes (prop_named at t) ts (λ x. 1)
  unfolding prop_named
  prop_named-takes at t ts h =
      here-takes _ ts (bind_takes _ (next-takes ts h) λ u us. bind_takes _ (eat-any "=" refl us) λ b vs.
      bind_takes {j = λ xs. 0} _ (choose-takes b (loop-takes _ part_step vs) (pure-takes [] vs refl)) λ parts ws. pure-takes _ ws refl)

  prop_by-takes : (a n : Option (List ℕ)) (ts : Tokens S) → ((t : List ℕ) → a ≡ some t → There ts) → ((t : List ℕ) → n ≡ some t → There ts) → Takes (prop_by a n) ts (λ x. 1)
  unfolding prop_by
  prop_by-takes (some t) n ts h g = prop_named-takes true t ts (h t refl)
  prop_by-takes none (some t) ts h g = prop_named-takes false t ts (g t refl)
  prop_by-takes none none ts h g = refuse_here-takes _ ts

  parse_prop-takes : (ts : Tokens S) → Takes parse_prop ts (λ x. 1)
  unfolding parse_prop
  parse_prop-takes ts = kind-takes _ ts (prop_by-takes (at_in (kind_of ts)) (name_in (kind_of ts)) ts (at_there (kind_of ts)) (name-there (kind_of ts)))

  -- the props in brackets
  pub props-enough : Enough {S = S} (until_step (eat "]") comma (λ _. parse_prop))
  props-enough = spaced-enough _ (eat-any "]" refl) comma-takes (λ before ts. any (parse_prop-takes ts))

  pub parse_props-takes : (ts : Tokens S) → Takes parse_props ts (λ xs. 0)
  unfolding parse_props
  parse_props-takes ts =
      bind_takes _ (eat-any "[" refl ts) λ b us.
      choose-takes b (spaced-takes _ (eat-any "]" refl) comma-takes (λ before vs. any (parse_prop-takes vs)) us) (pure-takes [] us refl)

  -- ------------------------------------------------------------------ parts of expressions

  class_by-takes : (p : S) (c : Option CharClass) (ts : Tokens S) → There ts → Takes (class_by p c) ts (λ e. 1)
  unfolding class_by
  class_by-takes p none ts h = refuse_here-takes _ ts
  class_by-takes p (some c) ts h = bind_takes _ (next-takes ts h) λ u us. pure-takes _ us refl

  std_class_by-takes : (p : S) (a n : Option (List ℕ)) (ts : Tokens S) → ((t : List ℕ) → a ≡ some t → There ts) → ((t : List ℕ) → n ≡ some t → There ts) → Takes (std_class_by p a n) ts (λ e. 1)
  unfolding std_class_by
  std_class_by-takes p (some t) n ts h g = class_by-takes p (from_name t) ts (h t refl)
  std_class_by-takes p none (some t) ts h g = class_by-takes p (from_name t) ts (g t refl)
  std_class_by-takes p none none ts h g = refuse_here-takes _ ts

  set_by-takes : (p : S) (i : Bool) (ss : List Span) (o : Option ℕ) (ts : Tokens S) → There ts → Takes (set_by p i ss o) ts (λ e. 1)
  unfolding set_by
  set_by-takes p i ss none ts h = bind_takes _ (next-takes ts h) λ u us. pure-takes _ us refl
  set_by-takes p i ss (some n) ts h = refuse-takes n p ts

  content_by-takes : (p : S) (o : Option (TokenReference S)) (ts : Tokens S) → Takes (content_by p o) ts (λ e. 0)
  unfolding content_by
  content_by-takes p none ts = refuse-takes _ p ts
  content_by-takes p (some (TokenReference.name q t es)) ts = refuse-takes _ p ts
  content_by-takes p (some (TokenReference.literal q t)) ts = pure-takes _ ts refl

  inline_by-takes : (p : S) (r : RuleDeclaration S) (xs : List (Identifier S)) (ts : Tokens S) → Takes (inline_by p r xs) ts (λ e. 0)
  unfolding inline_by
  inline_by-takes p r [] ts = pure-takes _ ts refl
  inline_by-takes p r (x ∷ xs) ts = refuse-takes _ p ts

  -- ------------------------------------------------------------------ repeats

  repeat_by-takes : (r : Option RepeatKind) (full : Bool) (ts : Tokens S) → ((k : RepeatKind) → r ≡ some k → There ts) → Takes (repeat_by r full) ts one_found
  unfolding repeat_by
  repeat_by-takes none full ts h = pure-takes none ts refl
  repeat_by-takes (some r) true ts h = refuse_here-takes _ ts
  repeat_by-takes (some r) false ts h = bind_takes _ (next-takes ts (h r refl)) λ u us. pure-takes _ us refl

  repeat-step : (s : ℕ) (before : List RepeatKind) (ts : Tokens S) → Takes (parse_repeat s before) ts (one_after before)
  unfolding parse_repeat
  repeat-step s before ts =
      found before (kind-takes _ ts (repeat_by-takes (repeat_mark (mark_in (kind_of ts))) (eqb (s + length before) repeats) ts (repeat-there (kind_of ts))))

  -- the marks of repeats over s of them
  pub repeats-enough : (s : ℕ) → Enough {S = S} (parse_repeat s)
  repeats-enough s = loop-enough _ (repeat-step s)

  -- ------------------------------------------------------------------ choices

  choice_by-takes : (p : S) (es : List (Expression S)) (o : Option S) (ts : Tokens S) → Takes (choice_by p es o) ts (λ e. 0)
  unfolding choice_by
  choice_by-takes p es none ts = pure-takes _ ts refl
  choice_by-takes p es (some q) ts = refuse-takes _ q ts

  choice_of-takes : (p : S) (e : Expression S) (es : List (Expression S)) (ts : Tokens S) → Takes (choice_of p e es) ts (λ e. 0)
  unfolding choice_of
  choice_of-takes p e [] ts = pure-takes e ts refl
  choice_of-takes p e (f ∷ fs) ts = choice_by-takes p (e ∷ f ∷ fs) (first_empty_arm (e ∷ f ∷ fs)) ts

  -- the parameters of a rule
  pub parameters_enough : Enough {S = S} (until_step (eat ">") comma (λ _. parse_identifier))
  parameters_enough = spaced-enough _ (eat-any ">" refl) comma-takes (λ before ts. any (parse_identifier-takes ts))

  -- ------------------------------------------------------------------ expressions, over the level below

  module _ (below : Parser S (Expression S)) (below-takes : (ts : Tokens S) → Takes below ts (λ e. 0)) where
    pub parse_braced_takes : (ts : Tokens S) → Takes (parse_braced_expression below) ts (λ e. 1)
    unfolding parse_braced_expression
    parse_braced_takes ts =
        bind_takes _ (expect-takes "{" refl ts) λ u us. bind_takes _ (below-takes us) λ e vs. bind_takes _ (expect-takes "}" refl vs) λ v ws. pure-takes e ws refl

    pub parse_rule_named-takes : (n : Identifier S) (ts : Tokens S) → Takes (parse_rule_named below n) ts (λ r. 1)
    unfolding parse_rule_named
    parse_rule_named-takes n ts =
        bind_takes _ (parse_props-takes ts) λ ps us.
        bind_takes _ (eat-any "<" refl us) λ b vs.
        bind_takes {j = λ xs. 0} _ (choose-takes b (spaced-takes _ (eat-any ">" refl) comma-takes (λ before ws. any (parse_identifier-takes ws)) vs) (pure-takes [] vs refl)) λ params ws.
        bind_takes _ (parse_braced_takes ws) λ e xs. pure-takes _ xs refl

    parse_inline_takes : (p : S) (t : List ℕ) (ts : Tokens S) → Takes (parse_inline_rule_expression below p t) ts (λ e. 1)
    unfolding parse_inline_rule_expression
    parse_inline_takes p t ts = bind_takes _ (parse_rule_named-takes _ ts) λ r us. inline_by-takes p r r.params us

    parse_specialize_takes : (p : S) (k : SpecializeKind) (ts : Tokens S) → Takes (parse_specialize_expression below p k) ts (λ e. 1)
    unfolding parse_specialize_expression
    parse_specialize_takes p k ts =
        bind_takes _ (next-any ts) λ u us.
        bind_takes _ (parse_props-takes us) λ ps vs.
        bind_takes _ (expect-takes "<" refl vs) λ v ws.
        bind_takes _ (below-takes ws) λ e xs.
        bind_takes _ (eat-any "," refl xs) λ two ys.
        bind_takes {j = λ f. 0} _ (choose-takes two (below-takes ys) (content_by-takes p (reference_of e) ys)) λ f zs.
        bind_takes _ (expect-takes ">" refl zs) λ w us. pure-takes _ us refl

    parse_parenthesized_takes : (p : S) (ts : Tokens S) → Takes (parse_parenthesized_expression below p) ts (λ e. 0)
    unfolding parse_parenthesized_expression
    parse_parenthesized_takes p ts =
        bind_takes _ (eat-any ")" refl ts) λ closed us.
        choose-takes closed (pure-takes _ us refl) (bind_takes _ (below-takes us) λ e vs. bind_takes _ (expect-takes ")" refl vs) λ u ws. pure-takes e ws refl)

    parse_arguments-takes : (ts : Tokens S) → Takes (parse_arguments below) ts (λ es. 0)
    unfolding parse_arguments
    parse_arguments-takes ts =
        bind_takes _ (eat-any "<" refl ts) λ b us. choose-takes b (spaced-takes _ (eat-any ">" refl) comma-takes (λ before vs. below-takes vs) us) (pure-takes [] us refl)

    parse_named-takes : (p : S) (t : List ℕ) (k : Option Kind) (ts : Tokens S) → Takes (parse_named below p t k) ts (λ e. 0)
    unfolding parse_named
    parse_named-takes p t k ts =
        if_takes (is_mark "[" k || is_mark "{" k) (any (parse_inline_takes p t ts))
        (if_takes (spells "std" t && is_mark "." k)
        (bind_takes _ (next-any ts) λ u us.
        kind-takes _ us (any (std_class_by-takes p (at_in (kind_of us)) (name_in (kind_of us)) us (at_there (kind_of us)) (name-there (kind_of us)))))
        (bind_takes _ (parse_arguments-takes ts) λ es us. pure-takes _ us refl))

    inner_by-takes : (p : S) (k : Option Kind) (ts : Tokens S) → is_end (kind_of ts) ≡ is_end k → Takes (inner_by below p k) ts (λ e. 1)
    unfolding inner_by parse_set_expression
    inner_by-takes p (some (Kind.mark c)) ts h =
        if_takes (is "(" c) (bind_takes _ (next-takes ts h) λ u us. parse_parenthesized_takes p us)
        (if_takes (is "[" c) (parse_inline_takes p (letters "_anon") ts) (refuse_here-takes _ ts))
    inner_by-takes p (some (Kind.string t)) ts h = bind_takes _ (next-takes ts h) λ u us. pure-takes _ us refl
    inner_by-takes p (some (Kind.set i t)) ts h = set_by-takes p i (spans t) (fault (spans t)) ts h
    inner_by-takes p (some (Kind.at t)) ts h =
        if_takes (spells "specialize" t) (parse_specialize_takes p SpecializeKind.specialize ts)
        (if_takes (spells "extend" t) (parse_specialize_takes p SpecializeKind.extend ts) (class_by-takes p (from_name t) ts h))
    inner_by-takes p (some (Kind.name t)) ts h =
        if_takes (spells "_" t) (bind_takes _ (next-takes ts h) λ u us. pure-takes _ us refl)
        (bind_takes _ (next-takes ts h) λ u us. kind-takes _ us (parse_named-takes p t (kind_of us) us))
    inner_by-takes p none ts h = refuse_here-takes _ ts

    pub parse_inner_takes : (ts : Tokens S) → Takes (parse_expression_inner below) ts (λ e. 1)
    unfolding parse_expression_inner
    parse_inner_takes ts = here-takes _ ts (kind-takes _ ts (inner_by-takes (start_of ts) (kind_of ts) ts refl))

    -- ------------------------------------------------------------------ suffixes, sequences, choices

    parse_suffix_takes : (ts : Tokens S) → Takes (parse_expression_suffix below) ts (λ e. 1)
    unfolding parse_expression_suffix
    parse_suffix_takes ts =
        here-takes _ ts (bind_takes _ (parse_inner_takes ts) λ e us. bind_takes _ (loop-takes _ (repeat-step (stacked e)) us) λ rs vs. pure-takes _ vs refl)

    item_by-takes : (p : S) (k : Option Kind) (m : Option ConflictMarkerKind) (ts : Tokens S) → Takes (item_by below p k m) ts one_found
    unfolding item_by
    item_by-takes p k (some m) ts = bind_takes _ (next-any ts) λ u us. bind_takes _ (parse_identifier-takes us) λ n vs. pure-takes _ vs refl
    item_by-takes p k none ts = choose-takes (ends_sequence k) (pure-takes none ts refl) (bind_takes _ (parse_suffix_takes ts) λ e us. pure-takes _ us refl)

    item-step : (before : List (Item S)) (ts : Tokens S) → Takes (parse_item below before) ts (one_after before)
    unfolding parse_item
    item-step before ts = found before (here-takes _ ts (kind-takes _ ts (item_by-takes (start_of ts) (kind_of ts) (marker_mark (mark_in (kind_of ts))) ts)))

    parse_sequence_takes : (ts : Tokens S) → Takes (parse_expression_sequence below) ts (λ e. 0)
    unfolding parse_expression_sequence
    parse_sequence_takes ts = here-takes _ ts (bind_takes _ (loop-takes _ item-step ts) λ l us. pure-takes _ us refl)

    -- after what may be a `|`
    arm_by_takes : (b : Bool) (ts : Tokens S) → Takes (choose b (parse_expression_sequence below >>= λ e. pure (some e)) (pure none)) ts (λ x. one_found x - one_if b)
    unfolding choose
    arm_by_takes true ts = bind_takes _ (parse_sequence_takes ts) λ e us. pure-takes _ us refl
    arm_by_takes false ts = pure-takes none ts refl

    arm_step : (before : List (Expression S)) (ts : Tokens S) → Takes (parse_arm below before) ts (one_after before)
    unfolding parse_arm
    arm_step before ts = found before (bind_takes _ (eat-takes "|" refl ts) arm_by_takes)

    parse_choice_takes : (ts : Tokens S) → Takes (parse_expression_choice below) ts (λ e. 0)
    unfolding parse_expression_choice
    parse_choice_takes ts =
        here-takes _ ts (bind_takes _ (parse_sequence_takes ts) λ e us. bind_takes _ (loop-takes _ arm_step us) λ es vs. choice_of-takes (start_of ts) e es vs)

  -- at each level
  pub choice_at-takes : (l : ℕ) (ts : Tokens S) → Takes (choice_at l) ts (λ e. 0)
  unfolding choice_at
  choice_at-takes zero ts = refuse_here-takes _ ts
  choice_at-takes (suc l) ts = parse_choice_takes (choice_at l) (choice_at-takes l) ts

  -- the arguments of a name; the first may be of no tokens
  pub arguments-enough : (l : ℕ) → Enough {S = S} (until_step (eat ">") comma (λ _. choice_at l))
  arguments-enough l = spaced-enough _ (eat-any ">" refl) comma-takes (λ before ts. choice_at-takes l ts)

  -- the items of a sequence
  pub sequence-enough : (l : ℕ) → Enough {S = S} (parse_item (choice_at l))
  sequence-enough l = loop-enough _ (item-step (choice_at l) (choice_at-takes l))

  -- the arms of a choice
  pub arms-enough : (l : ℕ) → Enough {S = S} (parse_arm (choice_at l))
  arms-enough l = loop-enough _ (arm_step (choice_at l) (choice_at-takes l))
