-- A readable expression, written, is read back, whatever stop follows it.
-- Assumes nothing.
use Prim.Native.Nat.{ℕ, zero, suc, ◌+◌, ◌<◌, ◌≤◌}
use native.Mathlib.Omega.{arith}
use mathlib.Core.Path.{◌≡◌, refl, ap, ◌∙◌}
use mathlib.Core.Bool.{Bool, true, false, ◌&&◌, ◌||◌}
use mathlib.Core.List.{List, [], ◌∷◌, ◌++◌, append-nil}
use mathlib.Core.Option.{Option, none, some}
use lib.ListN.{length}
use lib.Seq.{append_snoc}
use Rattle.basics.specs.Basics.{letters, same, spells, first_element}
use Rattle.basics.proofs.Tests.{clash}
use Rattle.characters.specs.Spans.{Span}
use Rattle.lexer.specs.Tokens.{Kind}
use Rattle.tree.specs.Syntax.{Prop, ConflictMarker, ConflictMarkerKind, ambiguity, precedence, SpecializeKind, extend, specialize, RepeatKind, CharClass, ascii_letter, ascii_lowercase, ascii_uppercase, digit, whitespace, eof, Expression, special, inline, sequence, empty, set, any, class, Expressions, []ᴱ, ◌∷ᴱ◌, Slots, last, slot, expressions}
use Rattle.notation.specs.Limits.{repeats}
use Rattle.notation.specs.Parser.{Parser, is_mark, eat, separate, until_step, comma}
use Rattle.notation.specs.Expressions.{Item as SeqItem, marker, expression, class_by, set_by, parse_set_expression, literal_of, inline_by, stacked, parse_repeat, slots, sequence_of, first_empty_arm, choice_by, choice_of, parse_braced_expression, parse_rule_named, parse_inline_rule_expression, parse_specialize_expression, parse_parenthesized_expression, parse_arguments, parse_named, inner_by, parse_expression_inner, parse_expression_suffix, item_by, parse_item, parse_expression_sequence, parse_arm, parse_expression_choice, choice_at}
use Rattle.spelling.specs.Spelling.{quoted, spans_text}
use Rattle.spelling.specs.NormalText.{each, mark, marker_sign, specialize_word, class_name, props_tokens, is_choice, marker_tokens, expression_tokens, arguments_tokens, more_arguments, more_arms, slots_tokens, body_tokens}
use Rattle.spelling.proofs.Back.{decode_back, spans-back}
use Rattle.laws.proofs.Fine.{U, ReadBack}
use Rattle.laws.proofs.Readable.{GoodProp, blank, sole_blank, lone, Grade, Each, each_none, each_more, Item, item-name, item-special, item-inline, item-choice, item-sequence, item-empty, item-repeat, item-literal, item-set, item-any, item-class, InSlots, in_last, in_slot, Arm, arm-sequence, arm-item, Arms, arms_none, arms_more, Level, level_choice, level_arm, Readable, readable_up, item-stacked}
use Rattle.laws.proofs.ReadBack.{Reads, bind_reads, pure-reads, choose-true, choose-false, here_reads, kind-reads, next-reads, eat_yes, eat_no, expect-reads, parse_identifier-reads, Back, over, turn, loop-reads, comma-reads}
use Rattle.laws.proofs.ReadBackProps.{if_true, if_false, props-reads}
use Rattle.laws.proofs.Follows.{Stops, stop_brace, stop_paren, stop_comma, stop_angle, Ends, end_stop, end_bar, Follows, follow_end, AfterInner, after-name, follows_repeat, opens-goes, ends-over, stops_bar, begins_open, as_item, as_arm, bracket-longer, longer, blank-writes, unbracketed, as-arm, item-opens, item-longer, slots_follow, level_begins}
use Rattle.laws.proofs.ReadBackRepeats.{core, marks, under, marks-back, marks-after}
use Rattle.laws.proofs.Every.{Every}

-- ------------------------------------------------------------------ arguments

unfoldable pub list_of : Expressions U → List (Expression U)
list_of []ᴱ = []
list_of (e ∷ᴱ es) = e ∷ list_of es

expressions_list : (es : Expressions U) → expressions (list_of es) ≡ es
unfolding expressions list_of
expressions_list []ᴱ = refl
expressions_list (e ∷ᴱ es) = ap (λ l. e ∷ᴱ l) (expressions_list es)

more-stops : (es : Expressions U) (ks : List Kind) → Stops (more_arguments es ks)
unfolding expression_tokens
more-stops []ᴱ ks = stop_angle
more-stops (e ∷ᴱ es) ks = stop_comma

module _ (R : Grade) (below : Parser U (Expression U)) (below-reads : (e : Expression U) → R e → (ks : List Kind) → Stops ks → Reads below (expression_tokens e ks) e ks)
    (up : (e : Expression U) → R e → Level R e) where
  -- the first argument is no closing bracket
  first_open : (e : Expression U) (es : Expressions U) → R e → sole_blank (e ∷ᴱ es) ≡ false → (ks : List Kind) → is_mark ">" (first_element (expression_tokens e (more_arguments es ks))) ≡ false
  unfolding expression_tokens
  first_open e []ᴱ r b ks = (begins_open (level_begins R (up e r) b _)).1
  first_open e (f ∷ᴱ es) r b ks = go (blank e) refl
    where
      go : (b : Bool) → blank e ≡ b → is_mark ">" (first_element (expression_tokens e (more_arguments (f ∷ᴱ es) ks))) ≡ false
      go true z = rw (blank-writes e z (more_arguments (f ∷ᴱ es) ks))
      go false z = (begins_open (level_begins R (up e r) z _)).1

  abbrev pub argument : List (Expression U) → Parser U (Option (Expression U))
  argument = until_step (eat ">") comma (λ _. below)

  more-back : (es : Expressions U) → Each R es → (d : Expression U) (before : List (Expression U)) (ks : List Kind) → Back argument ks 0 (d ∷ before) (more_arguments es ks) (list_of es)
  unfolding expression_tokens list_of until_step separate
  more-back []ᴱ each_none d before ks = over (bind_reads _ (eat_yes ">" _ ks refl) (choose-true _ refl (pure-reads none ks)))
  more-back (e ∷ᴱ es) (each_more r q) d before ks =
      let ls = more_arguments es ks in
      let l = longer e ls in
      let less : length ls + 0 < length (mark "," (expression_tokens e ls)) + 0 = omega arith in
      turn 0 ls (bind_reads _ (eat_no ">" _ refl) (choose-false _ refl (bind_reads _ (comma-reads _) (bind_reads _ (below-reads e r ls (more-stops es ks)) (pure-reads (some e) ls))))) less
      (more-back es q d (before ++ e ∷ []) ks)

  arguments-reads : (es : Expressions U) → Each R es → sole_blank es ≡ false → (ks : List Kind) → is_mark "<" (first_element ks) ≡ false → Reads (parse_arguments below) (arguments_tokens es ks) (list_of es) ks
  unfolding parse_arguments expression_tokens list_of until_step separate
  arguments-reads []ᴱ each_none b ks h = bind_reads _ (eat_no "<" ks h) (choose-false _ refl (pure-reads [] ks))
  arguments-reads (e ∷ᴱ es) (each_more r q) b ks h =
      let ls = more_arguments es ks in
      let l = longer e ls in
      let less : length ls + 0 < length (expression_tokens e ls) + 1 = omega arith in
      bind_reads _ (eat_yes "<" _ _ refl) (choose-true _ refl (loop-reads argument ks _ (e ∷ list_of es)
      (turn 0 ls (bind_reads _ (eat_no ">" _ (first_open e es r b ks)) (choose-false _ refl (bind_reads _ (pure-reads tt _) (bind_reads _ (below-reads e r ls (more-stops es ks)) (pure-reads (some e) ls))))) less
      (more-back es q e [] ks))))

  -- ------------------------------------------------------------------ inner expressions

  pub braced-reads : (e : Expression U) → R e → (ks : List Kind) → Reads (parse_braced_expression below) (body_tokens e ks) e ks
  unfolding parse_braced_expression
  braced-reads e r ks = bind_reads _ (expect-reads "{" _ _ refl) (bind_reads _ (below-reads e r _ stop_brace) (bind_reads _ (expect-reads "}" _ ks refl) (pure-reads e ks)))

  inline-reads : (t : List ℕ) (ps : List (Prop U)) (e : Expression U) → Every GoodProp ps → R e → (ks : List Kind)
      → Reads (parse_inline_rule_expression below tt t) (props_tokens ps (body_tokens e ks)) (inline tt t ps e) ks
  unfolding parse_inline_rule_expression parse_rule_named inline_by
  inline-reads t ps e g r ks =
      bind_reads _ (bind_reads _ (props-reads ps g _ refl) (bind_reads _ (eat_no "<" _ refl) (bind_reads _ (choose-false _ refl (pure-reads [] _)) (bind_reads _ (braced-reads e r ks) (pure-reads _ ks))))) (pure-reads _ ks)

  specialize-reads : (k : SpecializeKind) (ps : List (Prop U)) (e f : Expression U) → Every GoodProp ps → R e → R f → (a : Kind) (ks : List Kind)
      → Reads (parse_specialize_expression below tt k) (a ∷ props_tokens ps (mark "<" (expression_tokens e (mark "," (expression_tokens f (mark ">" ks)))))) (special tt k ps e f) ks
  unfolding parse_specialize_expression
  specialize-reads k ps e f g r q a ks =
      bind_reads _ (next-reads a _) (bind_reads _ (props-reads ps g _ refl) (bind_reads _ (expect-reads "<" _ _ refl)
      (bind_reads _ (below-reads e r _ stop_comma) (bind_reads _ (eat_yes "," _ _ refl) (bind_reads _ (choose-true _ refl (below-reads f q _ stop_angle)) (bind_reads _ (expect-reads ">" _ ks refl) (pure-reads _ ks)))))))

  -- what props, or a brace, begin with after a name
  rule-first : (ps : List (Prop U)) (e : Expression U) (ks : List Kind) → (is_mark "[" (first_element (props_tokens ps (body_tokens e ks))) || is_mark "{" (first_element (props_tokens ps (body_tokens e ks)))) ≡ true
  rule-first [] e ks = refl
  rule-first (x ∷ xs) e ks = refl

  -- arguments, or what follows, begin with no rule and no dot
  name-first : (es : Expressions U) (ks : List Kind) → AfterInner ks → ((is_mark "[" (first_element (arguments_tokens es ks)) || is_mark "{" (first_element (arguments_tokens es ks))) ≡ false) × (is_mark "." (first_element (arguments_tokens es ks)) ≡ false)
  unfolding expression_tokens
  name-first []ᴱ ks a = let n = after-name a in (rw (n.no_square, n.no_brace), n.no_dot)
  name-first (e ∷ᴱ es) ks a = (refl, refl)

  and_fails : (b c : Bool) → c ≡ false → (b && c) ≡ false
  and_fails true c h = h
  and_fails false c h = refl

  paren_reads : (e : Expression U) → R e → blank e ≡ false → (ks : List Kind) → Reads (parse_expression_inner below) (mark "(" (expression_tokens e (mark ")" ks))) e ks
  unfolding parse_expression_inner inner_by parse_parenthesized_expression
  paren_reads e r b ks =
      bind_reads _ (here_reads _) (bind_reads _ (kind-reads _ refl) (bind_reads _ (next-reads _ _) (bind_reads _ (eat_no ")" _ (begins_open (level_begins R (up e r) b _)).0)
      (choose-false _ refl (bind_reads _ (below-reads e r _ stop_paren) (bind_reads _ (expect-reads ")" _ ks refl) (pure-reads e ks)))))))

  name-reads : (t : List ℕ) (es : Expressions U) → spells "_" t ≡ false → Each R es → sole_blank es ≡ false → (ks : List Kind) → AfterInner ks
      → Reads (parse_expression_inner below) (Kind.name t ∷ arguments_tokens es ks) (Expression.name tt t es) ks
  unfolding parse_expression_inner inner_by parse_named
  name-reads t es n q b ks a =
      let f = name-first es ks a in
      bind_reads _ (here_reads _) (bind_reads _ (kind-reads _ refl) (if_false _ n (bind_reads _ (next-reads _ _) (bind_reads _ (kind-reads _ refl)
      (if_false _ f.0 (if_false _ (and_fails (spells "std" t) _ f.1)
      (bind_reads _ (arguments-reads es q b ks (after-name a).no_angle) (rw (expressions_list es) (pure-reads _ ks)))))))))

  rule-reads : (t : List ℕ) (ps : List (Prop U)) (e : Expression U) → spells "_" t ≡ false → Every GoodProp ps → R e → (ks : List Kind)
      → Reads (parse_expression_inner below) (Kind.name t ∷ props_tokens ps (body_tokens e ks)) (inline tt t ps e) ks
  unfolding parse_expression_inner inner_by parse_named
  rule-reads t ps e n g r ks =
      bind_reads _ (here_reads _) (bind_reads _ (kind-reads _ refl) (if_false _ n (bind_reads _ (next-reads _ _) (bind_reads _ (kind-reads _ refl)
      (if_true _ (rule-first ps e ks) (inline-reads t ps e g r ks))))))

  special-reads : (k : SpecializeKind) (ps : List (Prop U)) (e f : Expression U) → Every GoodProp ps → R e → R f → (ks : List Kind)
      → Reads (parse_expression_inner below) (Kind.at (letters (specialize_word k)) ∷ props_tokens ps (mark "<" (expression_tokens e (mark "," (expression_tokens f (mark ">" ks)))))) (special tt k ps e f) ks
  unfolding parse_expression_inner inner_by same
  special-reads extend ps e f g r q ks = bind_reads _ (here_reads _) (bind_reads _ (kind-reads _ refl) (specialize-reads extend ps e f g r q _ ks))
  special-reads specialize ps e f g r q ks = bind_reads _ (here_reads _) (bind_reads _ (kind-reads _ refl) (specialize-reads specialize ps e f g r q _ ks))

  empty-reads : (ks : List Kind) → Reads (parse_expression_inner below) (mark "(" (mark ")" ks)) (empty tt) ks
  unfolding parse_expression_inner inner_by parse_parenthesized_expression
  empty-reads ks = bind_reads _ (here_reads _) (bind_reads _ (kind-reads _ refl) (bind_reads _ (next-reads _ _) (bind_reads _ (eat_yes ")" _ ks refl) (choose-true _ refl (pure-reads _ ks)))))

  literal-reads : (c : ℕ) (cs : List ℕ) (ks : List Kind) → Reads (parse_expression_inner below) (Kind.string (quoted (c ∷ cs)) ∷ ks) (Expression.literal tt (c ∷ cs)) ks
  unfolding parse_expression_inner inner_by literal_of
  literal-reads c cs ks = bind_reads _ (here_reads _) (bind_reads _ (kind-reads _ refl) (bind_reads _ (next-reads _ ks) (rw (decode_back (c ∷ cs), literal_of) (pure-reads _ ks))))

  set_reads : (i : Bool) (ss : List Span) → ReadBack ss → (ks : List Kind) → Reads (parse_expression_inner below) (Kind.set i (spans_text ss) ∷ ks) (set tt i ss) ks
  unfolding parse_expression_inner inner_by parse_set_expression set_by
  set_reads i ss g ks = bind_reads _ (here_reads _) (bind_reads _ (kind-reads _ refl) (rw (spans-back g.spelled, g.sound, set_by) (bind_reads _ (next-reads _ ks) (rw (spans-back g.spelled, g.ordered) (pure-reads _ ks)))))

  any-reads : (ks : List Kind) → Reads (parse_expression_inner below) (Kind.name (letters "_") ∷ ks) (any tt) ks
  unfolding parse_expression_inner inner_by same
  any-reads ks = bind_reads _ (here_reads _) (bind_reads _ (kind-reads _ refl) (bind_reads _ (next-reads _ ks) (pure-reads _ ks)))

  class-reads : (c : CharClass) (ks : List Kind) → Reads (parse_expression_inner below) (Kind.at (letters (class_name c)) ∷ ks) (class tt c) ks
  unfolding parse_expression_inner inner_by class_by same
  class-reads ascii_letter ks = bind_reads _ (here_reads _) (bind_reads _ (kind-reads _ refl) (bind_reads _ (next-reads _ ks) (pure-reads _ ks)))
  class-reads ascii_lowercase ks = bind_reads _ (here_reads _) (bind_reads _ (kind-reads _ refl) (bind_reads _ (next-reads _ ks) (pure-reads _ ks)))
  class-reads ascii_uppercase ks = bind_reads _ (here_reads _) (bind_reads _ (kind-reads _ refl) (bind_reads _ (next-reads _ ks) (pure-reads _ ks)))
  class-reads digit ks = bind_reads _ (here_reads _) (bind_reads _ (kind-reads _ refl) (bind_reads _ (next-reads _ ks) (pure-reads _ ks)))
  class-reads whitespace ks = bind_reads _ (here_reads _) (bind_reads _ (kind-reads _ refl) (bind_reads _ (next-reads _ ks) (pure-reads _ ks)))
  class-reads eof ks = bind_reads _ (here_reads _) (bind_reads _ (kind-reads _ refl) (bind_reads _ (next-reads _ ks) (pure-reads _ ks)))

  -- an item that is no repeat
  pub inner-reads : {e : Expression U} → Item R e → stacked e ≡ 0 → (ks : List Kind) → AfterInner ks → Reads (parse_expression_inner below) (as_item e ks) e ks
  unfolding expression_tokens stacked
  inner-reads (item-name {t = t} {es = es} w n q b) s ks a = name-reads t es n q b ks a
  inner-reads (item-special {k = k} {ps} {e} {f} g r q) s ks a = special-reads k ps e f g r q ks
  inner-reads (item-inline {t = t} {ps} {e} w n g r) s ks a = rule-reads t ps e n g r ks
  inner-reads (item-choice r) s ks a = paren_reads _ r refl ks
  inner-reads (item-sequence r b) s ks a = paren_reads _ r b ks
  inner-reads item-empty s ks a = empty-reads ks
  inner-reads (item-repeat i h) s ks a = absurd (omega arith)
  inner-reads (item-literal {c = c} {cs} z) s ks a = literal-reads c cs ks
  inner-reads (item-set {i = i} {ss} g) s ks a = set_reads i ss g ks
  inner-reads item-any s ks a = any-reads ks
  inner-reads (item-class {c = c}) s ks a = class-reads c ks

  -- ------------------------------------------------------------------ suffixes and sequences

  suffix_reads : {e : Expression U} → Item R e → stacked e ≤ repeats → (ks : List Kind) → Follows ks → Reads (parse_expression_suffix below) (as_item e ks) e ks
  unfolding parse_expression_suffix
  suffix_reads {e} i h ks f =
      let u = under R i in
      let c = u.count in
      let z = u.plain in
      let enough : stacked (core e) + length (◌++◌ {A = RepeatKind} [] []) + length (marks e) ≤ repeats = omega arith in
      rw (u.written ks) (bind_reads _ (here_reads _) (bind_reads _ (inner-reads u.item u.plain _ (marks-after (marks e) ks f))
      (bind_reads _ (loop-reads (parse_repeat (stacked (core e))) ks _ (marks e) (marks-back (stacked (core e)) (marks e) [] ks enough (follows_repeat f))) (rw u.whole (pure-reads e ks)))))

  -- what a sequence is read as, and its slots again
  unfoldable pub markers_of : List (ConflictMarker U) → List (SeqItem U) → List (SeqItem U)
  markers_of [] l = l
  markers_of (m ∷ ms) l = marker m ∷ markers_of ms l

  unfoldable pub items_of : Slots U → List (SeqItem U)
  items_of (last ms) = markers_of ms []
  items_of (slot ms e s) = markers_of ms (expression e ∷ items_of s)

  slots-markers : (ms ns : List (ConflictMarker U)) (l : List (SeqItem U)) → slots ms (markers_of ns l) ≡ slots (ms ++ ns) l
  unfolding slots markers_of
  slots-markers ms [] l = rw (append-nil ms)
  slots-markers ms (n ∷ ns) l = slots-markers (ms ++ n ∷ []) ns l ∙ rw (append_snoc ms n ns)

  slots_items : (s : Slots U) → slots [] (items_of s) ≡ s
  unfolding slots items_of
  slots_items (last ms) = slots-markers [] ms []
  slots_items (slot ms e s) = slots-markers [] ms (expression e ∷ items_of s) ∙ rw (slots_items s)

  marker-reads : (before : List (SeqItem U)) (m : ConflictMarker U) (ks : List Kind) → Reads (parse_item below before) (marker_tokens m ks) (some (marker m)) ks
  unfolding parse_item item_by
  marker-reads before m ks = go m.kind
    where
      go : (k : ConflictMarkerKind) → Reads (parse_item below before) (mark (marker_sign k) (Kind.name m.name ∷ ks)) (some (marker (record { start = tt; kind = k; name = m.name }))) ks
      go ambiguity = bind_reads _ (here_reads _) (bind_reads _ (kind-reads _ refl) (bind_reads _ (next-reads _ _) (bind_reads _ (parse_identifier-reads (record { start = tt; name = m.name }) ks) (pure-reads _ ks))))
      go precedence = bind_reads _ (here_reads _) (bind_reads _ (kind-reads _ refl) (bind_reads _ (next-reads _ _) (bind_reads _ (parse_identifier-reads (record { start = tt; name = m.name }) ks) (pure-reads _ ks))))

  sequence-over : (before : List (SeqItem U)) (ks : List Kind) → Ends ks → Reads (parse_item below before) ks none ks
  unfolding parse_item item_by
  sequence-over before ks f =
      let o = ends-over f in
      bind_reads _ (here_reads _) (bind_reads _ (kind-reads ks refl) (rw (o.no_marker, item_by) (choose-true _ o.at-end (pure-reads none ks))))

  item-reads : (before : List (SeqItem U)) {e : Expression U} → Item R e → (ks : List Kind) → Follows ks → Reads (parse_item below before) (as_item e ks) (some (expression e)) ks
  unfolding parse_item item_by
  item-reads before {e} i ks f =
      let o = opens-goes (item-opens R i ks) in
      bind_reads _ (here_reads _) (bind_reads _ (kind-reads (as_item e ks) refl) (rw (o.no_marker, item_by) (choose-false _ o.no_end (bind_reads _ (suffix_reads i (item-stacked i) ks f) (pure-reads _ ks)))))

  markers-back : (rest : List Kind) (ms : List (ConflictMarker U)) (ks : List Kind) (l : List (SeqItem U)) → ((before : List (SeqItem U)) → Back (parse_item below) rest 1 before ks l)
      → (before : List (SeqItem U)) → Back (parse_item below) rest 1 before (each marker_tokens ms ks) (markers_of ms l)
  unfolding each markers_of
  markers-back rest [] ks l b before = b before
  markers-back rest (m ∷ ms) ks l b before =
      let ls = each marker_tokens ms ks in
      let less : length ls + 1 < length (marker_tokens m ls) + 1 = omega arith in
      turn 1 ls (marker-reads before m ls) less (markers-back rest ms ks l b (before ++ marker m ∷ []))

  slots-back : {s : Slots U} → InSlots R s → (ks : List Kind) → Ends ks → (before : List (SeqItem U)) → Back (parse_item below) ks 1 before (slots_tokens s ks) (items_of s)
  unfolding expression_tokens items_of
  slots-back (in_last {ms = ms} g) ks f before = markers-back ks ms ks [] (λ b. over (sequence-over b ks f)) before
  slots-back (in_slot {ms = ms} {e} {s} g i q) ks f before =
      let ls = slots_tokens s ks in
      let l = item-longer R i ls in
      let less : length ls + 1 < length (as_item e ls) + 1 = omega arith in
      markers-back ks ms (as_item e ls) (expression e ∷ items_of s) (λ b. turn 1 ls (item-reads b i ls (slots_follow R q f)) less (slots-back q ks f (b ++ expression e ∷ []))) before

  lone-sequence : (s : Slots U) → lone s ≡ false → sequence_of tt s ≡ sequence tt s
  unfolding sequence_of
  lone-sequence (last ms) h = refl
  lone-sequence (slot [] e (last [])) h = clash _ refl h
  lone-sequence (slot [] e (last (m ∷ ms))) h = refl
  lone-sequence (slot [] e (slot ms e' s)) h = refl
  lone-sequence (slot (m ∷ ms) e s) h = refl

  one-item : {e : Expression U} → Item R e → (ks : List Kind) → Ends ks → Reads (parse_expression_sequence below) (as_item e ks) e ks
  unfolding parse_expression_sequence slots sequence_of
  one-item {e} i ks f =
      let l = item-longer R i ks in
      let less : length ks + 1 < length (as_item e ks) + 1 = omega arith in
      bind_reads _ (here_reads _) (bind_reads _ (loop-reads (parse_item below) ks _ (expression e ∷ []) (turn 1 ks (item-reads [] i ks (follow_end f)) less (over (sequence-over _ ks f)))) (pure-reads _ ks))

  arm-reads : {e : Expression U} → Arm R e → (ks : List Kind) → Ends ks → Reads (parse_expression_sequence below) (as_arm e ks) e ks
  unfolding parse_expression_sequence expression_tokens
  arm-reads (arm-sequence {s = s} q l) ks f =
      bind_reads _ (here_reads _) (bind_reads _ (loop-reads (parse_item below) ks _ (items_of s) (slots-back q ks f [])) (rw (slots_items s, lone-sequence s l) (pure-reads _ ks)))
  arm-reads {e} (arm-item i h) ks f = rw (as-arm e h ks) (one-item i ks f)

  -- ------------------------------------------------------------------ choices

  arms_end : {es : Expressions U} → Arms R es → (ks : List Kind) → Stops ks → Ends (more_arms es ks)
  unfolding expression_tokens
  arms_end arms_none ks z = end_stop z
  arms_end (arms_more a h q) ks z = end_bar

  arms-back : {es : Expressions U} → Arms R es → (before : List (Expression U)) (ks : List Kind) → Stops ks → Back (parse_arm below) ks 1 before (more_arms es ks) (list_of es)
  unfolding expression_tokens list_of parse_arm
  arms-back arms_none before ks z = over (bind_reads _ (eat_no "|" ks (stops_bar z)) (choose-false _ refl (pure-reads none ks)))
  arms-back (arms_more {e} {es} a h q) before ks z =
      let ls = more_arms es ks in
      let l = bracket-longer (is_choice e) (λ l. expression_tokens e l) (λ l. longer e l) ls in
      let less : length ls + 1 < length (mark "|" (as_arm e ls)) + 1 = omega arith in
      turn 1 ls (bind_reads _ (eat_yes "|" _ _ refl) (choose-true _ refl (bind_reads _ (arm-reads a ls (arms_end q ks z)) (pure-reads (some e) ls)))) less (arms-back q (before ++ e ∷ []) ks z)

  no_arm : (ks : List Kind) → Stops ks → Reads (parse_arm below []) ks none ks
  unfolding parse_arm
  no_arm ks z = bind_reads _ (eat_no "|" ks (stops_bar z)) (choose-false _ refl (pure-reads none ks))

  no_empty : {es : Expressions U} → Arms R es → first_empty_arm (list_of es) ≡ none
  unfolding first_empty_arm list_of
  no_empty arms_none = refl
  no_empty (arms_more a h q) = rw h (no_empty q)

  level_reads : {e : Expression U} → Level R e → (ks : List Kind) → Stops ks → Reads (parse_expression_choice below) (expression_tokens e ks) e ks
  unfolding parse_expression_choice expression_tokens choice_of choice_by list_of
  level_reads (level_choice {e = e} {e'} {es} (arms_more a h q)) ks z =
      bind_reads _ (here_reads _) (bind_reads _ (arm-reads a _ (arms_end q ks z)) (bind_reads _ (loop-reads (parse_arm below) ks _ (e' ∷ list_of es) (arms-back q [] ks z))
      (rw (no_empty (arms_more a h q), choice_by, expressions_list (e ∷ᴱ (e' ∷ᴱ es))) (pure-reads _ ks))))
  level_reads {e} (level_arm a h) ks z =
      rw (← unbracketed e h ks) (bind_reads _ (here_reads _) (bind_reads _ (arm-reads a ks (end_stop z)) (bind_reads _
      (loop-reads (parse_arm below) ks _ [] (over (no_arm ks z))) (pure-reads e ks))))

pub choice_at-reads : (l : ℕ) (e : Expression U) → Readable l e → (ks : List Kind) → Stops ks → Reads (choice_at l) (expression_tokens e ks) e ks
unfolding choice_at
choice_at-reads zero e r ks z = absurd r
choice_at-reads (suc l) e r ks z = level_reads (Readable l) (choice_at l) (choice_at-reads l) (readable_up l) r ks z
