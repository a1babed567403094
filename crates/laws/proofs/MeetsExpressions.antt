-- Each expression that reading gives is readable.
-- Assumes nothing.
use Prim.Native.Nat.{ℕ, zero, suc, ◌+◌, ◌≤◌}
use native.Mathlib.Omega.{arith}
use borrow.Author.Tests.{eqb-false}
use mathlib.Core.Path.{◌≡◌, refl, ap, sym, ◌∙◌}
use mathlib.Core.Bool.{Bool, true, false, ◌&&◌, ◌||◌}
use mathlib.Core.List.{List, [], ◌∷◌, ◌++◌}
use mathlib.Core.Option.{Option, none, some}
use lib.Dec.{eqb}
use lib.ListN.{length, length-append}
use Rattle.basics.specs.Basics.{if◌then◌otherwise◌, letters, is, same, spells}
use Rattle.basics.proofs.Tests.{impossible, clash}
use Rattle.characters.specs.Alphabetic.{spans as alphabetic, is_alphabetic}
use Rattle.characters.specs.Classes.{is_word}
use Rattle.characters.specs.Spans.{Span, in_spans}
use Rattle.characters.specs.Utf8.{is_scalar}
use Rattle.lexer.specs.Tokens.{Kind, Tokens}
use Rattle.lexer.specs.Escapes.{decode_string}
use Rattle.lexer.specs.Sets.{spans, fault, sorted}
use Rattle.tree.specs.CharClasses.{from_name}
use Rattle.tree.specs.Syntax.{Identifier, ConflictMarker, ConflictMarkerKind, SpecializeKind, RepeatKind, CharClass, Expression, ◌∷ᴱ◌, Slots, last, slot, RuleDeclaration, start_of, expressions}
use Rattle.notation.specs.Limits.{repeats}
use Rattle.notation.specs.Parser.{Parser, kind_of, mark_in, name_in, at_in, is_mark, ends_sequence, eat, loop, separate, until_step, comma}
use Rattle.notation.specs.Expressions.{repeat_mark, marker_mark, Item as SeqItem, marker, expression, part_by, parse_part, prop_named, prop_by, parse_prop, parse_props, class_by, std_class_by, set_by, parse_set_expression, literal_of, reference_of, content_by, inline_by, stacked, repeat_by, parse_repeat, repeated, slots, sequence_of, is_empty_arm, first_empty_arm, choice_by, choice_of, parse_braced_expression, parse_rule_named, parse_inline_rule_expression, parse_specialize_expression, parse_parenthesized_expression, parse_arguments, parse_named, inner_by, parse_expression_inner, parse_expression_suffix, item_by, parse_item, parse_expression_sequence, parse_arm, parse_expression_choice, choice_at}
use Rattle.characters.proofs.Chars.{Scalars}
use Rattle.characters.proofs.Chars as Chars
use Rattle.lexer.proofs.Back.{no_more, one_more}
use Rattle.laws.proofs.Fine.{U, Word, ReadBack, fine-name, fine-string, fine-set}
use Rattle.laws.proofs.Readable.{GoodName, GoodPart, good-value, good-braced, GoodProp, GoodMarker, blank, sole_blank, Grade, Each, each_none, each_more, Item, item-name, item-special, item-inline, item-choice, item-sequence, item-empty, item-repeat, item-literal, item-set, item-any, item-class, InSlots, in_last, in_slot, Arm, arm-sequence, arm-item, Arms, arms_none, arms_more, Level, level_choice, level_arm, Readable, readable_up, item-stacked}
use Rattle.laws.proofs.Meets.{Meets, bind_meets, pure-meets, refuse-meets, refuse_here-meets, choose-meets, if_meets, weaken, here-meets, FineOption, fine-some, kind_meets, next-meets, eat-meets, expect_meets, Given, given-some, name-given, at-given, parse_identifier-meets, Leads, loop-meets, until-meets, eat-any, expect-any}
use Rattle.laws.proofs.Every.{Every, every-none, every_more, every_one}
use Rattle.laws.proofs.Lists.{untrue}

-- ------------------------------------------------------------------ props

-- a dot is a text
dot_scalar : Scalars (letters ".")
unfolding is_scalar
dot_scalar = Chars.one_more refl Chars.none_left

-- the name of an unnamed inline rule
anon_word : Word (letters "_anon")
unfolding is_word is_scalar is_alphabetic in_spans alphabetic
anon_word =
    record {
      some = λ e. impossible (cc);
      words = one_more refl (one_more refl (one_more refl (one_more refl (one_more refl no_more))));
      scalars = Chars.one_more refl (Chars.one_more refl (Chars.one_more refl (Chars.one_more refl (Chars.one_more refl Chars.none_left))));
    }

anon_name : spells "_" (letters "_anon") ≡ false
unfolding same
anon_name = refl

-- something of which G holds, or nothing
pub data Found {A : Type 0} (G : A → Type 0) : Option A → Type 0 where
  found_none : Found G none
  found_some : {a : A} → G a → Found G (some a)

part_by-meets : (p : U) (k : Option Kind) → FineOption k → (ts : Tokens U) → Meets (part_by p k) ts (λ o us. Found GoodPart o)
unfolding part_by
part_by-meets p (some (Kind.string t)) (fine-some (fine-string s)) ts = bind_meets _ (next-meets ts) λ u us h. pure-meets _ us (found_some (good-value s))
part_by-meets p (some (Kind.name t)) (fine-some (fine-name w)) ts = bind_meets _ (next-meets ts) λ u us h. pure-meets _ us (found_some (good-value w.scalars))
part_by-meets p (some (Kind.mark c)) f ts =
    if_meets (is "." c) (λ t. bind_meets _ (next-meets ts) λ u us h. pure-meets _ us (found_some (good-value dot_scalar)))
    (λ d. if_meets (is "{" c)
    (λ t. bind_meets _ (next-meets ts) λ u us h. bind_meets _ (parse_identifier-meets us) λ n vs g. bind_meets _ (expect-any "}" vs) λ v ws i. pure-meets _ ws (found_some (good-braced g.word)))
    (λ e. pure-meets _ ts found_none))
part_by-meets p (some (Kind.at t)) f ts = pure-meets _ ts found_none
part_by-meets p (some (Kind.set i t)) f ts = pure-meets _ ts found_none
part_by-meets p none f ts = pure-meets _ ts found_none

-- a loop of items of which G holds
module _ {A : Type 0} (G : A → Type 0) (step : List A → Parser U (Option A)) (step-meets : (before : List A) (ts : Tokens U) → Meets (step before) ts (λ o us. Found G o)) where
  leads : (before : List A) → Every G before → (o : Option A) (us : Tokens U) → Found G o → Leads (λ xs ts. Every G xs) (λ xs ts. Every G xs) before o us
  leads before e none us f = e
  leads before e (some a) us (found_some g) = every_one e g

  loop-each : (ts : Tokens U) → Meets (loop step) ts (λ xs us. Every G xs)
  loop-each ts = loop-meets (λ xs us. Every G xs) (λ xs us. Every G xs) step (λ before us e. weaken (step-meets before us) (leads before e)) ts every-none

prop_named-meets : (at : Bool) (t : List ℕ) → Word t → (ts : Tokens U) → Meets (prop_named at t) ts (λ x us. GoodProp x)
unfolding prop_named parse_part
prop_named-meets at t w ts =
    bind_meets _ (here-meets ts) λ p us h.
    bind_meets _ (next-meets us) λ u vs h.
    bind_meets _ (eat-any "=" vs) λ b ws h.
    bind_meets {Q = λ xs us. Every GoodPart xs} _
    (choose-meets b (λ t. loop-each GoodPart _ (λ before us. bind_meets _ (here-meets us) λ q vs h. bind_meets _ (kind_meets vs) λ k ws g. part_by-meets q k g.2 ws) ws)
    (λ f. pure-meets [] ws every-none)) λ parts xs e.
    pure-meets _ xs (record { word = w; parts = e })

prop_by-meets : (a n : Option (List ℕ)) → Given Word a → Given Word n → (ts : Tokens U) → Meets (prop_by a n) ts (λ x us. GoodProp x)
unfolding prop_by
prop_by-meets (some t) n (given-some w) h ts = prop_named-meets true t w ts
prop_by-meets none (some t) g (given-some w) ts = prop_named-meets false t w ts
prop_by-meets none none g h ts = refuse_here-meets _ ts

pub parse_props-meets : (ts : Tokens U) → Meets parse_props ts (λ xs us. Every GoodProp xs)
unfolding parse_props parse_prop
parse_props-meets ts =
    bind_meets _ (eat-any "[" ts) λ b us h.
    choose-meets b
    (λ t. until-meets GoodProp _ (eat-any "]") (expect-any ",") (λ before vs. bind_meets _ (kind_meets vs) λ k ws g. prop_by-meets (at_in k) (name_in k) (at-given g.2) (name-given g.2) ws) us)
    (λ f. pure-meets [] us every-none)

-- ------------------------------------------------------------------ expressions, over the level below

module _ (R : Grade) where
  class_by-meets : (p : U) (c : Option CharClass) (ts : Tokens U) → Meets (class_by p c) ts (λ e us. Item R e)
  unfolding class_by
  class_by-meets p none ts = refuse_here-meets _ ts
  class_by-meets p (some c) ts = bind_meets _ (next-meets ts) λ u us h. pure-meets _ us item-class

  std_class_by-meets : (p : U) (a n : Option (List ℕ)) (ts : Tokens U) → Meets (std_class_by p a n) ts (λ e us. Item R e)
  unfolding std_class_by
  std_class_by-meets p (some t) n ts = class_by-meets p (from_name t) ts
  std_class_by-meets p none (some t) ts = class_by-meets p (from_name t) ts
  std_class_by-meets p none none ts = refuse_here-meets _ ts

  set_by-meets : (p : U) (i : Bool) (ss : List Span) (o : Option ℕ) → (o ≡ none → ReadBack (sorted ss)) → (ts : Tokens U) → Meets (set_by p i ss o) ts (λ e us. Item R e)
  unfolding set_by
  set_by-meets p i ss none h ts = bind_meets _ (next-meets ts) λ u us g. pure-meets _ us (item-set (h refl))
  set_by-meets p i ss (some n) h ts = refuse-meets n p ts

  literal-item : (p : U) (t : List ℕ) → Scalars t → Item R (literal_of p t)
  unfolding literal_of
  literal-item p [] s = item-empty
  literal-item p (c ∷ cs) s = item-literal s

  content_by-meets : (p : U) (e : Expression U) → R e → (ts : Tokens U) → Meets (content_by p (reference_of e)) ts (λ f us. R f)
  unfolding content_by reference_of
  content_by-meets p (Expression.literal q t) r ts = pure-meets _ ts r
  content_by-meets p (Expression.name q t es) r ts = refuse-meets _ p ts
  content_by-meets p (Expression.special q k ps e f) r ts = refuse-meets _ p ts
  content_by-meets p (Expression.inline q t ps e) r ts = refuse-meets _ p ts
  content_by-meets p (Expression.choice q es) r ts = refuse-meets _ p ts
  content_by-meets p (Expression.sequence q s) r ts = refuse-meets _ p ts
  content_by-meets p (Expression.empty q) r ts = refuse-meets _ p ts
  content_by-meets p (Expression.repeat q k e) r ts = refuse-meets _ p ts
  content_by-meets p (Expression.set q i ss) r ts = refuse-meets _ p ts
  content_by-meets p (Expression.any q) r ts = refuse-meets _ p ts
  content_by-meets p (Expression.class q c) r ts = refuse-meets _ p ts

  -- a rule that is read
  pub record GoodRule (r : RuleDeclaration U) : Type 0 where
    pub word : Word r.id.name
    pub props : Every GoodProp r.props
    pub params : Every GoodName r.params
    pub body : R r.expression

  inline_by-meets : (p : U) (r : RuleDeclaration U) (xs : List (Identifier U)) → GoodRule r → spells "_" r.id.name ≡ false → (ts : Tokens U) → Meets (inline_by p r xs) ts (λ e us. Item R e)
  unfolding inline_by
  inline_by-meets p r [] g n ts = pure-meets _ ts (item-inline g.word n g.props g.body)
  inline_by-meets p r (x ∷ xs) g n ts = refuse-meets _ p ts

  -- ------------------------------------------------------------------ repeats

  repeat_by-meets : (s : ℕ) (before : List RepeatKind) (o : Option RepeatKind) (full : Bool) → eqb (s + length before) repeats ≡ full → s + length before ≤ repeats → (ts : Tokens U)
      → Meets (repeat_by o full) ts (Leads (λ rs us. s + length rs ≤ repeats) (λ rs us. s + length rs ≤ repeats) before)
  unfolding repeat_by
  repeat_by-meets s before none full e h ts = pure-meets none ts h
  repeat_by-meets s before (some r) true e h ts = refuse_here-meets _ ts
  repeat_by-meets s before (some r) false e h ts =
      let ne = eqb-false _ _ e in
      let l = length-append before (r ∷ []) in
      bind_meets _ (next-meets ts) λ u us g. pure-meets (some r) us (below (s + length before) ne h l)
    where
      below : (m : ℕ) → (s + length before ≡ repeats → ⊥) → s + length before ≤ repeats → length (before ++ r ∷ []) ≡ length before + 1 → s + length (before ++ r ∷ []) ≤ repeats
      below m ne le l = omega arith

  repeated-item : (p : U) (rs : List RepeatKind) (e : Expression U) → Item R e → stacked e + length rs ≤ repeats → Item R (repeated p rs e)
  unfolding repeated stacked
  repeated-item p [] e i h = i
  repeated-item p (r ∷ rs) e i h = repeated-item p rs (Expression.repeat p r e) (item-repeat i (omega arith)) (omega arith)

  -- ------------------------------------------------------------------ arguments

  -- what is known of the first argument: one that writes no token has taken none
  abbrev Sole : Tokens U → List (Expression U) → Tokens U → Type 0
  Sole ts [] us = us ≡ ts
  Sole ts (e ∷ []) us = (blank e ≡ true → us ≡ ts) × (is_mark ">" (kind_of ts) ≡ false)
  Sole ts (e ∷ f ∷ es) us = Unit {0}

  each_of : (es : List (Expression U)) → Every R es → Each R (expressions es)
  unfolding expressions
  each_of [] every-none = each_none
  each_of (e ∷ es) (every_more r q) = each_more r (each_of es q)

  sole_blank-of : (ts : Tokens U) (es : List (Expression U)) (us : Tokens U) → Sole ts es us → is_mark ">" (kind_of us) ≡ true → sole_blank (expressions es) ≡ false
  unfolding expressions
  sole_blank-of ts [] us s h = refl
  sole_blank-of ts (e ∷ []) us s h = untrue (blank e) λ b. clash (is_mark ">" (kind_of ts)) (ap (λ vs. is_mark ">" (kind_of vs)) (sym (s.0 b)) ∙ h) s.1
  sole_blank-of ts (e ∷ f ∷ es) us s h = refl

  sole_more : (ts : Tokens U) (before : List (Expression U)) (us vs ws : Tokens U) (e : Expression U) → Sole ts before us → is_mark ">" (kind_of us) ≡ false
      → vs ≡ us → (blank e ≡ true → ws ≡ vs) → Sole ts (before ++ e ∷ []) ws
  sole_more ts [] us vs ws e s n v b = (λ t. b t ∙ v ∙ s, ap (λ ts. is_mark ">" (kind_of ts)) (sym s) ∙ n)
  sole_more ts (d ∷ []) us vs ws e s n v b = tt
  sole_more ts (d ∷ d' ∷ ds) us vs ws e s n v b = tt

  sole_after : (ts : Tokens U) (d : Expression U) (ds : List (Expression U)) (e : Expression U) (ws : Tokens U) → Sole ts ((d ∷ ds) ++ e ∷ []) ws
  sole_after ts d [] e ws = tt
  sole_after ts d (d' ∷ ds) e ws = tt

  module _ (below : Parser U (Expression U))
      (below-meets : (ts : Tokens U) → Meets below ts (λ e us. R e × (blank e ≡ true → us ≡ ts)))
      (up : (e : Expression U) → R e → Level R e) where
    below_R : (ts : Tokens U) → Meets below ts (λ e us. R e)
    below_R ts = weaken (below-meets ts) λ e us h. h.0

    argument-meets : (ts : Tokens U) (before : List (Expression U)) (us : Tokens U) → Every R before × Sole ts before us
        → Meets (until_step (eat ">") comma (λ _. below) before) us
        (Leads (λ es vs. Every R es × Sole ts es vs) (λ es vs. Every R es × (sole_blank (expressions es) ≡ false)) before)
    unfolding until_step separate
    argument-meets ts [] us i =
        bind_meets _ (eat-meets ">" us) λ b vs h.
        choose-meets b (λ t. pure-meets none vs (i.0, sole_blank-of ts [] us i.1 (h.0 ∙ t)))
        (λ f. bind_meets _ (pure-meets tt vs {Q = λ u ws. ws ≡ vs} refl) λ u ws g. bind_meets _ (below-meets ws) λ e xs r.
        pure-meets (some e) xs (every_one i.0 r.0, sole_more ts [] us ws xs e i.1 (h.0 ∙ f) (g ∙ h.1 f) r.1))
    argument-meets ts (d ∷ ds) us i =
        bind_meets _ (eat-meets ">" us) λ b vs h.
        choose-meets b (λ t. pure-meets none vs (i.0, sole_blank-of ts (d ∷ ds) us i.1 (h.0 ∙ t)))
        (λ f. bind_meets _ (expect-any "," vs) λ u ws g. bind_meets _ (below-meets ws) λ e xs r. pure-meets (some e) xs (every_one i.0 r.0, sole_after ts d ds e xs))

    parse_arguments-meets : (ts : Tokens U) → Meets (parse_arguments below) ts (λ es us. Every R es × (sole_blank (expressions es) ≡ false))
    unfolding parse_arguments expressions
    parse_arguments-meets ts =
        bind_meets _ (eat-any "<" ts) λ b us h.
        choose-meets b (λ t. loop-meets (λ es vs. Every R es × Sole us es vs) (λ es vs. Every R es × (sole_blank (expressions es) ≡ false)) _ (argument-meets us) us (every-none, refl))
        (λ f. pure-meets [] us (every-none, refl))

    -- ------------------------------------------------------------------ inner expressions

    pub parse_braced_meets : (ts : Tokens U) → Meets (parse_braced_expression below) ts (λ e us. R e)
    unfolding parse_braced_expression
    parse_braced_meets ts = bind_meets _ (expect-any "{" ts) λ u us h. bind_meets _ (below_R us) λ e vs r. bind_meets _ (expect-any "}" vs) λ v ws g. pure-meets e ws r

    pub parse_rule_named-meets : (n : Identifier U) → GoodName n → (ts : Tokens U) → Meets (parse_rule_named below n) ts (λ r us. GoodRule r × (r.id ≡ n))
    unfolding parse_rule_named
    parse_rule_named-meets n w ts =
        bind_meets _ (parse_props-meets ts) λ ps us g.
        bind_meets _ (eat-any "<" us) λ b vs h.
        bind_meets {Q = λ xs us. Every GoodName xs} _
        (choose-meets b (λ t. until-meets GoodName _ (eat-any ">") (expect-any ",") (λ before us. parse_identifier-meets us) vs) (λ f. pure-meets [] vs every-none)) λ params ws e.
        bind_meets _ (parse_braced_meets ws) λ e' xs r.
        pure-meets _ xs (record { word = w.word; props = g; params = e; body = r }, refl)

    parse_inline_meets : (p : U) (t : List ℕ) → Word t → spells "_" t ≡ false → (ts : Tokens U) → Meets (parse_inline_rule_expression below p t) ts (λ e us. Item R e)
    unfolding parse_inline_rule_expression
    parse_inline_meets p t w n ts =
        bind_meets _ (parse_rule_named-meets (record { start = p; name = t }) (record { word = w }) ts) λ r us g.
        inline_by-meets p r r.params g.0 (ap (λ i. spells "_" i.name) g.1 ∙ n) us

    parse_specialize_meets : (p : U) (k : SpecializeKind) (ts : Tokens U) → Meets (parse_specialize_expression below p k) ts (λ e us. Item R e)
    unfolding parse_specialize_expression
    parse_specialize_meets p k ts =
        bind_meets _ (next-meets ts) λ u us h.
        bind_meets _ (parse_props-meets us) λ ps vs g.
        bind_meets _ (expect-any "<" vs) λ v ws h.
        bind_meets _ (below_R ws) λ e xs r.
        bind_meets _ (eat-any "," xs) λ two ys h.
        bind_meets {Q = λ f us. R f} _ (choose-meets two (λ t. below_R ys) (λ f. content_by-meets p e r ys)) λ f zs q.
        bind_meets _ (expect-any ">" zs) λ w us h.
        pure-meets _ us (item-special g r q)

    -- an expression that is read in brackets
    bracketed : (e : Expression U) → R e → blank e ≡ false → Level R e → Item R e
    bracketed e r b (level_choice q) = item-choice r
    bracketed e r b (level_arm (arm-sequence q l) h) = item-sequence r b
    bracketed e r b (level_arm (arm-item i z) h) = i

    parse_parenthesized_meets : (p : U) (ts : Tokens U) → Meets (parse_parenthesized_expression below p) ts (λ e us. Item R e)
    unfolding parse_parenthesized_expression
    parse_parenthesized_meets p ts =
        bind_meets _ (eat-meets ")" ts) λ closed us h.
        choose-meets closed (λ t. pure-meets _ us item-empty)
        (λ f. bind_meets _ (below-meets us) λ e vs r. bind_meets _ (expect_meets ")" vs) λ u ws g.
        pure-meets e ws (bracketed e r.0
        (untrue (blank e) λ b. clash (is_mark ")" (kind_of ts)) (ap (λ us. is_mark ")" (kind_of us)) (sym (h.1 f) ∙ sym (r.1 b)) ∙ g) (h.0 ∙ f)) (up e r.0)))

    parse_named-meets : (p : U) (t : List ℕ) (k : Option Kind) → Word t → spells "_" t ≡ false → (ts : Tokens U) → Meets (parse_named below p t k) ts (λ e us. Item R e)
    unfolding parse_named
    parse_named-meets p t k w n ts =
        if_meets (is_mark "[" k || is_mark "{" k) (λ t'. parse_inline_meets p t w n ts)
        (λ f. if_meets (spells "std" t && is_mark "." k)
        (λ t'. bind_meets _ (next-meets ts) λ u us h. bind_meets _ (kind_meets us) λ c vs g. std_class_by-meets p (at_in c) (name_in c) vs)
        (λ f'. bind_meets _ (parse_arguments-meets ts) λ es us h. pure-meets _ us (item-name w n (each_of es h.0) h.1)))

    inner_by-meets : (p : U) (k : Option Kind) → FineOption k → (ts : Tokens U) → Meets (inner_by below p k) ts (λ e us. Item R e)
    unfolding inner_by parse_set_expression
    inner_by-meets p (some (Kind.mark c)) f ts =
        if_meets (is "(" c) (λ t. bind_meets _ (next-meets ts) λ u us h. parse_parenthesized_meets p us)
        (λ d. if_meets (is "[" c) (λ t. parse_inline_meets p (letters "_anon") anon_word anon_name ts) (λ e. refuse_here-meets _ ts))
    inner_by-meets p (some (Kind.string t)) (fine-some (fine-string s)) ts = bind_meets _ (next-meets ts) λ u us h. pure-meets _ us (literal-item p (decode_string t) s)
    inner_by-meets p (some (Kind.set i t)) (fine-some (fine-set g)) ts = set_by-meets p i (spans t) (fault (spans t)) g ts
    inner_by-meets p (some (Kind.at t)) f ts =
        if_meets (spells "specialize" t) (λ b. parse_specialize_meets p SpecializeKind.specialize ts)
        (λ b. if_meets (spells "extend" t) (λ b. parse_specialize_meets p SpecializeKind.extend ts) (λ b. class_by-meets p (from_name t) ts))
    inner_by-meets p (some (Kind.name t)) (fine-some (fine-name w)) ts =
        if_meets (spells "_" t) (λ b. bind_meets _ (next-meets ts) λ u us h. pure-meets _ us item-any)
        (λ b. bind_meets _ (next-meets ts) λ u us h. bind_meets _ (kind_meets us) λ k vs g. parse_named-meets p t k w b vs)
    inner_by-meets p none f ts = refuse_here-meets _ ts

    pub parse_inner_meets : (ts : Tokens U) → Meets (parse_expression_inner below) ts (λ e us. Item R e)
    unfolding parse_expression_inner
    parse_inner_meets ts = bind_meets _ (here-meets ts) λ p us h. bind_meets _ (kind_meets us) λ k vs g. inner_by-meets p k g.2 vs

    -- ------------------------------------------------------------------ suffixes, sequences, choices

    parse_suffix_meets : (ts : Tokens U) → Meets (parse_expression_suffix below) ts (λ e us. Item R e)
    unfolding parse_expression_suffix parse_repeat
    parse_suffix_meets ts =
        bind_meets _ (here-meets ts) λ p us h.
        bind_meets _ (parse_inner_meets us) λ e vs i.
        bind_meets _ (loop-meets (λ rs ws. stacked e + length rs ≤ repeats) (λ rs ws. stacked e + length rs ≤ repeats) _
        (λ before ws g. bind_meets _ (kind_meets ws) λ k xs h. repeat_by-meets (stacked e) before (repeat_mark (mark_in k)) _ refl g xs) vs (let s = item-stacked i in omega arith)) λ rs ws g.
        pure-meets _ ws (repeated-item p rs e i g)

    data GoodItem : SeqItem U → Type 0 where
      good-marker : {m : ConflictMarker U} → GoodMarker m → GoodItem (marker m)
      good-expression : {e : Expression U} → Item R e → GoodItem (expression e)

    -- markers and expressions, and that nothing was taken where there are none
    abbrev Items : Tokens U → List (SeqItem U) → Tokens U → Type 0
    Items ts l us = Every GoodItem l × (l ≡ [] → us ≡ ts)

    not_none : {A B : Type 0} (xs : List A) (x : A) → xs ++ x ∷ [] ≡ [] → B
    not_none [] x e = impossible (cc)
    not_none (y ∷ ys) x e = impossible (cc)

    item_by-meets : (ts : Tokens U) (before : List (SeqItem U)) (p : U) (k : Option Kind) (m : Option ConflictMarkerKind) (us : Tokens U) → Items ts before us
        → Meets (item_by below p k m) us (Leads (Items ts) (Items ts) before)
    unfolding item_by
    item_by-meets ts before p k (some m) us i =
        bind_meets _ (next-meets us) λ u vs h. bind_meets _ (parse_identifier-meets vs) λ n ws w.
        pure-meets _ ws (every_one i.0 (good-marker (record { word = w.word })), λ e. not_none before _ e)
    item_by-meets ts before p k none us i =
        choose-meets (ends_sequence k) (λ t. pure-meets none us i)
        (λ f. bind_meets _ (parse_suffix_meets us) λ e vs g. pure-meets _ vs (every_one i.0 (good-expression g), λ e. not_none before _ e))

    slots-good : (ms : List (ConflictMarker U)) (l : List (SeqItem U)) → Every GoodMarker ms → Every GoodItem l → InSlots R (slots ms l)
    unfolding slots
    slots-good ms [] g every-none = in_last g
    slots-good ms (marker m ∷ l) g (every_more (good-marker h) q) = slots-good (ms ++ m ∷ []) l (every_one g h) q
    slots-good ms (expression e ∷ l) g (every_more (good-expression i) q) = in_slot g i (slots-good [] l every-none q)

    item-solid : {e : Expression U} → Item R e → blank e ≡ false
    item-solid (item-name w n q b) = refl
    item-solid (item-special g r q) = refl
    item-solid (item-inline w n g r) = refl
    item-solid (item-choice r) = refl
    item-solid (item-sequence r b) = b
    item-solid item-empty = refl
    item-solid (item-repeat i h) = refl
    item-solid (item-literal s) = refl
    item-solid (item-set g) = refl
    item-solid item-any = refl
    item-solid item-class = refl

    level_sequence : {p : U} {s : Slots U} → Level R (Expression.sequence p s) → Arm R (Expression.sequence p s)
    level_sequence (level_arm a h) = a

    item-arm : {e : Expression U} → Item R e → Arm R e
    item-arm (item-name w n q b) = arm-item (item-name w n q b) refl
    item-arm (item-special g r q) = arm-item (item-special g r q) refl
    item-arm (item-inline w n g r) = arm-item (item-inline w n g r) refl
    item-arm (item-choice r) = arm-item (item-choice r) refl
    item-arm (item-sequence r b) = level_sequence (up _ r)
    item-arm item-empty = arm-item item-empty refl
    item-arm (item-repeat i h) = arm-item (item-repeat i h) refl
    item-arm (item-literal s) = arm-item (item-literal s) refl
    item-arm (item-set g) = arm-item (item-set g) refl
    item-arm item-any = arm-item item-any refl
    item-arm item-class = arm-item item-class refl

    -- only no items at all make a sequence that writes no token
    marker-first : (ms : List (ConflictMarker U)) (m : ConflictMarker U) (l : List (SeqItem U)) (p : U) → blank (Expression.sequence p (slots (ms ++ m ∷ []) l)) ≡ false
    unfolding slots
    marker-first [] m [] p = refl
    marker-first (n ∷ ms) m [] p = refl
    marker-first ms m (marker n ∷ l) p = marker-first (ms ++ m ∷ []) n l p
    marker-first ms m (expression e ∷ l) p = refl

    no_items_lem : (l : List (SeqItem U)) (p : U) → blank (Expression.sequence p (slots [] l)) ≡ true → l ≡ []
    unfolding slots
    no_items_lem [] p b = refl
    no_items_lem (marker m ∷ l) p b = clash _ b (marker-first [] m l p)
    no_items_lem (expression e ∷ l) p b = clash _ b refl

    settle : (p : U) (s : Slots U) → InSlots R s → Arm R (sequence_of p s) × (blank (sequence_of p s) ≡ true → blank (Expression.sequence p s) ≡ true)
    unfolding sequence_of
    settle p (last ms) q = (arm-sequence q refl, λ z. z)
    settle p (slot [] e (last [])) (in_slot g i q) = (item-arm i, λ z. clash (blank e) z (item-solid i))
    settle p (slot [] e (last (m ∷ ms))) q = (arm-sequence q refl, λ z. z)
    settle p (slot [] e (slot ms e' s)) q = (arm-sequence q refl, λ z. z)
    settle p (slot (m ∷ ms) e s) q = (arm-sequence q refl, λ z. z)

    parse_sequence_meets : (ts : Tokens U) → Meets (parse_expression_sequence below) ts (λ e us. Arm R e × (blank e ≡ true → us ≡ ts))
    unfolding parse_expression_sequence parse_item
    parse_sequence_meets ts =
        bind_meets _ (here-meets ts) λ p us h.
        bind_meets _ (loop-meets (Items us) (Items us) _
        (λ before vs i. bind_meets _ (here-meets vs) λ q ws g. bind_meets _ (kind_meets ws) λ k xs z.
        item_by-meets us before q k (marker_mark (mark_in k)) xs (i.0, λ e. z.1 ∙ g ∙ i.1 e)) us (every-none, λ e. refl)) λ l vs i.
        let a = settle p (slots [] l) (slots-good [] l every-none i.0) in
        pure-meets _ vs (a.0, λ b. i.1 (no_items_lem l p (a.1 b)) ∙ h)

    arms_of : (es : List (Expression U)) → Every (Arm R) es → first_empty_arm es ≡ none → Arms R (expressions es)
    unfolding first_empty_arm expressions
    arms_of [] every-none h = arms_none
    arms_of (e ∷ es) (every_more a q) h = go (is_empty_arm e) refl h (arms_of es q)
      where
        go : (b : Bool) → is_empty_arm e ≡ b → (if b then some (start_of e) otherwise first_empty_arm es) ≡ none → (first_empty_arm es ≡ none → Arms R (expressions es)) → Arms R (e ∷ᴱ expressions es)
        go true z h k = impossible (cc)
        go false z h k = arms_more a z (k h)

    choice_by-meets : (p : U) (e f : Expression U) (fs : List (Expression U)) (o : Option U) → first_empty_arm (e ∷ f ∷ fs) ≡ o → Every (Arm R) (e ∷ f ∷ fs) → (ts : Tokens U)
        → Meets (choice_by p (e ∷ f ∷ fs) o) ts (λ c us. Level R c × (blank c ≡ false))
    unfolding choice_by expressions
    choice_by-meets p e f fs none h q ts = pure-meets _ ts (level_choice (arms_of (e ∷ f ∷ fs) q h), refl)
    choice_by-meets p e f fs (some z) h q ts = refuse-meets _ z ts

    arm_level : (e : Expression U) → Arm R e → Level R e
    arm_level e (arm-sequence q l) = level_arm (arm-sequence q l) refl
    arm_level e (arm-item (item-name w n q b) h) = level_arm (arm-item (item-name w n q b) h) refl
    arm_level e (arm-item (item-special g r q) h) = level_arm (arm-item (item-special g r q) h) refl
    arm_level e (arm-item (item-inline w n g r) h) = level_arm (arm-item (item-inline w n g r) h) refl
    arm_level e (arm-item (item-choice r) h) = up _ r
    arm_level e (arm-item (item-sequence r b) h) = clash true refl h
    arm_level e (arm-item item-empty h) = level_arm (arm-item item-empty h) refl
    arm_level e (arm-item (item-repeat i g) h) = level_arm (arm-item (item-repeat i g) h) refl
    arm_level e (arm-item (item-literal s) h) = level_arm (arm-item (item-literal s) h) refl
    arm_level e (arm-item (item-set g) h) = level_arm (arm-item (item-set g) h) refl
    arm_level e (arm-item item-any h) = level_arm (arm-item item-any h) refl
    arm_level e (arm-item item-class h) = level_arm (arm-item item-class h) refl

    choice_of-meets : (p : U) (e : Expression U) (es : List (Expression U)) (ts us : Tokens U) → Arm R e → (blank e ≡ true → es ≡ [] → us ≡ ts) → Every (Arm R) es
        → Meets (choice_of p e es) us (λ c vs. Level R c × (blank c ≡ true → vs ≡ ts))
    unfolding choice_of
    choice_of-meets p e [] ts us a b q = pure-meets e us (arm_level e a, λ z. b z refl)
    choice_of-meets p e (f ∷ fs) ts us a b q = weaken (choice_by-meets p e f fs _ refl (every_more a q) us) λ c vs h. (h.0, λ z. clash (blank c) z h.1)

    parse_choice_meets : (ts : Tokens U) → Meets (parse_expression_choice below) ts (λ e us. Level R e × (blank e ≡ true → us ≡ ts))
    unfolding parse_expression_choice parse_arm
    parse_choice_meets ts =
        bind_meets _ (here-meets ts) λ p us h.
        bind_meets _ (parse_sequence_meets us) λ e vs a.
        bind_meets _ (loop-meets (λ es ws. Every (Arm R) es × (es ≡ [] → ws ≡ vs)) (λ es ws. Every (Arm R) es × (es ≡ [] → ws ≡ vs)) _
        (λ before ws i. bind_meets _ (eat-meets "|" ws) λ bar xs g. choose-meets bar
        (λ t. bind_meets _ (parse_sequence_meets xs) λ f ys b. pure-meets (some f) ys (every_one i.0 b.0, λ z. not_none before f z))
        (λ f. pure-meets none xs (i.0, λ z. g.1 f ∙ i.1 z))) vs (every-none, λ z. refl)) λ es ws q.
        choice_of-meets p e es ts ws a.0 (λ b z. q.1 z ∙ a.1 b ∙ h) q.0

pub choice_at-meets : (l : ℕ) (ts : Tokens U) → Meets (choice_at l) ts (λ e us. Readable l e × (blank e ≡ true → us ≡ ts))
unfolding choice_at
choice_at-meets zero ts = refuse_here-meets _ ts
choice_at-meets (suc l) ts = parse_choice_meets (Readable l) (choice_at l) (choice_at-meets l) (readable_up l) ts
