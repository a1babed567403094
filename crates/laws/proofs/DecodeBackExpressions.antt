-- An expression, stored, is decoded back.
-- Assumes nothing.
use Prim.Native.Nat.{ℕ, zero, suc}
use borrow.Author.Tests.{ne_eqb}
use mathlib.Core.Path.{◌≡◌, refl, ap, sym, ◌∙◌}
use mathlib.Core.Bool.{Bool, true, false}
use mathlib.Core.List.{List, [], ◌∷◌, ◌++◌, map, append-nil}
use lib.Dec.{eqb}
use lib.Seq.{append_snoc}
use Rattle.basics.specs.Basics.{if◌then◌otherwise◌}
use Rattle.basics.proofs.Tests.{clash}
use Rattle.characters.specs.Spans.{Span}
use Rattle.characters.proofs.Chars.{Scalars, codes_all}
use Rattle.tree.specs.Records.{Branch, Branches, []ᴮ, ◌∷ᴮ◌}
use Rattle.tree.specs.OneTree.{is_expression, kind_of}
use Rattle.tree.specs.Stored.{each, flag, part_branch, prop_branch, marker_number, marker_branch, span_branch, specialize_value, expression_branch, expression_branches, slot_branches}
use Rattle.tree.specs.Syntax.{PropPart, value, Prop, ConflictMarker, ConflictMarkerKind, ambiguity, precedence, SpecializeKind, extend, specialize, RepeatKind, optional, zero_or_more, one_or_more, CharClass, ascii_letter, ascii_lowercase, ascii_uppercase, digit, whitespace, eof, Expression, special, inline, choice, sequence, empty, repeat, set, any, class, Expressions, Slots, expressions}
use Rattle.tree.proofs.ExpressionsFit.{expression-kind}
use Rattle.laws.proofs.Starts.{on_part, on_prop, on_marker, on_expression, on_expressions, on_slots}
use Rattle.laws.proofs.Fine.{U, Word}
use Rattle.laws.proofs.Readable.{GoodPart, good-value, good-braced, GoodProp, GoodMarker, Grade, Each, each_none, each_more, Item, item-name, item-special, item-inline, item-choice, item-sequence, item-empty, item-repeat, item-literal, item-set, item-any, item-class, InSlots, in_last, in_slot, Arm, arm-sequence, arm-item, Arms, arms_none, arms_more, Level, level_choice, level_arm, Readable}
use Rattle.laws.proofs.Decode.{pick, part_in, all_in, prop_in, span_in, marker_in, expression_by, expression_in, expressions_in, slots_in}
use Rattle.laws.proofs.Every.{Every, every-none, every_more}

abbrev pub zeroed : U → ℕ
zeroed u = 0

-- ------------------------------------------------------------------ lists of branches

module _ {X Y : Type 0} (z : X → Y) (g : Y → Branch) where
  all_back : {A : X → Type 0} (f : Branch → X) → ((x : X) → A x → f (g (z x)) ≡ x) → {xs : List X} → Every A xs → all_in f (each g (map z xs) []ᴮ) ≡ xs
  unfolding all_in each
  all_back f e every-none = refl
  all_back f e (every_more {x} {xs} a q) = rw (e x a, all_back f e q)

  pub pick_same : {A : X → Type 0} (k : ℕ) (f : Branch → X) → ((x : X) → eqb (kind_of (g (z x))) k ≡ true) → ((x : X) → A x → f (g (z x)) ≡ x) → {xs : List X} → Every A xs → (bs : Branches)
      → pick k f (each g (map z xs) bs) ≡ xs ++ pick k f bs
  unfolding pick each
  pick_same k f h e every-none bs = refl
  pick_same k f h e (every_more {x} {xs} a q) bs = rw (h x, e x a, pick_same k f h e q bs)

module _ {Y : Type 0} (g : Y → Branch) where
  pub pick_other : {A : Type 0} (k : ℕ) (f : Branch → A) → ((y : Y) → eqb (kind_of (g y)) k ≡ false) → (ys : List Y) (bs : Branches) → pick k f (each g ys bs) ≡ pick k f bs
  unfolding pick each
  pick_other k f h [] bs = refl
  pick_other k f h (y ∷ ys) bs = rw (h y) (pick_other k f h ys bs)

  pub expressions-skip : ((y : Y) → is_expression (kind_of (g y)) ≡ false) → (ys : List Y) (bs : Branches) → expressions_in (each g ys bs) ≡ expressions_in bs
  unfolding expression_in each
  expressions-skip h [] bs = refl
  expressions-skip h (y ∷ ys) bs = rw (h y) (expressions-skip h ys bs)

-- ------------------------------------------------------------------ props and markers

part-back : (x : PropPart U) → GoodPart x → part_in (part_branch (on_part zeroed x)) ≡ x
unfolding part_in
part-back (value p t) (good-value s) = ap (value tt) (codes_all s)
part-back (PropPart.name p t) (good-braced w) = ap (PropPart.name tt) (codes_all w.scalars)

pub flag-back : (b : Bool) → eqb (flag b) 1 ≡ b
flag-back true = refl
flag-back false = refl

pub prop-back : (x : Prop U) → GoodProp x → prop_in (prop_branch (on_prop zeroed x)) ≡ x
unfolding prop_in
prop-back x g = rw (flag-back x.at, codes_all g.word.scalars, all_back (on_part zeroed) part_branch part_in part-back g.parts)

marker-kind : (k : ConflictMarkerKind) → (if eqb (marker_number k) 41 then ambiguity otherwise precedence) ≡ k
marker-kind ambiguity = refl
marker-kind precedence = refl

marker-back : (m : ConflictMarker U) → GoodMarker m → marker_in (marker_branch (on_marker zeroed m)) ≡ m
unfolding marker_in
marker-back m g = rw (codes_all g.word.scalars, marker-kind m.kind)

marker-plain : (m : ConflictMarker ℕ) → is_expression (kind_of (marker_branch m)) ≡ false
marker-plain m = go m.kind
  where
    go : (k : ConflictMarkerKind) → is_expression (marker_number k) ≡ false
    go ambiguity = refl
    go precedence = refl

spans-back : (p : ℕ) (ss : List Span) → all_in span_in (each (span_branch p) ss []ᴮ) ≡ ss
unfolding all_in each span_in
spans-back p [] = refl
spans-back p (s ∷ ss) = ap (λ l. s ∷ l) (spans-back p ss)

-- ------------------------------------------------------------------ expressions

abbrev pub Z : Expression U → Expression ℕ
Z e = on_expression zeroed e

-- an expression that stands first
pub expression-first : (e : Expression ℕ) (bs : Branches) → expressions_in (expression_branch e ∷ᴮ bs) ≡ expression_in (expression_branch e) ∷ expressions_in bs
unfolding expression_in
expression-first e bs = rw (expression-kind e)

pub pick-expression : {A : Type 0} (k : ℕ) (f : Branch → A) → is_expression k ≡ false → (e : Expression ℕ) (bs : Branches) → pick k f (expression_branch e ∷ᴮ bs) ≡ pick k f bs
unfolding pick
pick-expression k f h e bs = rw (ne_eqb (kind_of (expression_branch e)) k (λ q. clash (is_expression k) (ap is_expression (sym q) ∙ expression-kind e) h))

pub specialize-back : (k : SpecializeKind) → (if eqb (specialize_value k) 1 then extend otherwise specialize) ≡ k
specialize-back extend = refl
specialize-back specialize = refl

module _ (R : Grade) (back : (e : Expression U) → R e → expression_in (expression_branch (Z e)) ≡ e) where
  each_back : {es : Expressions U} → Each R es → expressions (expressions_in (expression_branches (on_expressions zeroed es))) ≡ es
  unfolding expression_branch on_expression expression_in expressions
  each_back each_none = refl
  each_back (each_more {e} {es} r q) = rw (expression-kind (Z e), back e r, each_back q)

  -- props, and then one expression, or two
  props-one : (ps : List (Prop U)) → Every GoodProp ps → (e : Expression ℕ) (bs : Branches) → pick 5 prop_in bs ≡ [] → pick 5 prop_in (each prop_branch (map (on_prop zeroed) ps) (expression_branch e ∷ᴮ bs)) ≡ ps
  props-one ps g e bs h = pick_same (on_prop zeroed) prop_branch 5 prop_in (λ x. refl) prop-back g (expression_branch e ∷ᴮ bs) ∙ rw (pick-expression 5 prop_in refl e bs, h, append-nil ps)

  props-then : (ps : List (Prop U)) (e : Expression ℕ) (bs : Branches) → expressions_in (each prop_branch (map (on_prop zeroed) ps) (expression_branch e ∷ᴮ bs)) ≡ expression_in (expression_branch e) ∷ expressions_in bs
  props-then ps e bs = expressions-skip prop_branch (λ x. refl) (map (on_prop zeroed) ps) (expression_branch e ∷ᴮ bs) ∙ expression-first e bs

  name_back : (t : List ℕ) (es : Expressions U) → Word t → Each R es → expression_in (expression_branch (Z (Expression.name tt t es))) ≡ Expression.name tt t es
  unfolding expression_branch on_expression expression_in expression_by
  name_back t es w q = rw (codes_all w.scalars, each_back q)

  special-back : (k : SpecializeKind) (ps : List (Prop U)) (e f : Expression U) → Every GoodProp ps → expression_in (expression_branch (Z e)) ≡ e → expression_in (expression_branch (Z f)) ≡ f
      → expression_in (expression_branch (Z (special tt k ps e f))) ≡ special tt k ps e f
  unfolding expression_branch on_expression expression_in expression_by pick
  special-back k ps e f g b c =
      rw (specialize-back k, props-one ps g (Z e) (expression_branch (Z f) ∷ᴮ []ᴮ) (pick-expression 5 prop_in refl (Z f) []ᴮ), props-then ps (Z e) (expression_branch (Z f) ∷ᴮ []ᴮ), expression-first (Z f) []ᴮ, b, c)

  inline-back : (t : List ℕ) (ps : List (Prop U)) (e : Expression U) → Word t → Every GoodProp ps → expression_in (expression_branch (Z e)) ≡ e → expression_in (expression_branch (Z (inline tt t ps e))) ≡ inline tt t ps e
  unfolding expression_branch on_expression expression_in expression_by pick
  inline-back t ps e w g b = rw (codes_all w.scalars, props-one ps g (Z e) []ᴮ refl, props-then ps (Z e) []ᴮ, b)

  empty_back : expression_in (expression_branch (Z (empty tt))) ≡ empty tt
  unfolding expression_branch on_expression expression_in expression_by
  empty_back = refl

  repeat-back : (k : RepeatKind) (e : Expression U) → expression_in (expression_branch (Z e)) ≡ e → expression_in (expression_branch (Z (repeat tt k e))) ≡ repeat tt k e
  unfolding expression_branch on_expression expression_in expression_by
  repeat-back optional e b = rw (expression-first (Z e) []ᴮ, b)
  repeat-back zero_or_more e b = rw (expression-first (Z e) []ᴮ, b)
  repeat-back one_or_more e b = rw (expression-first (Z e) []ᴮ, b)

  literal-back : (t : List ℕ) → Scalars t → expression_in (expression_branch (Z (Expression.literal tt t))) ≡ Expression.literal tt t
  unfolding expression_branch on_expression expression_in expression_by
  literal-back t s = ap (Expression.literal tt) (codes_all s)

  set_back : (i : Bool) (ss : List Span) → expression_in (expression_branch (Z (set tt i ss))) ≡ set tt i ss
  unfolding expression_branch on_expression expression_in expression_by
  set_back i ss = rw (flag-back i, spans-back 0 ss)

  any-back : expression_in (expression_branch (Z (any tt))) ≡ any tt
  unfolding expression_branch on_expression expression_in expression_by
  any-back = refl

  class_back : (c : CharClass) → expression_in (expression_branch (Z (class tt c))) ≡ class tt c
  unfolding expression_branch on_expression expression_in expression_by
  class_back ascii_letter = refl
  class_back ascii_lowercase = refl
  class_back ascii_uppercase = refl
  class_back digit = refl
  class_back whitespace = refl
  class_back eof = refl

  pub item_back : {e : Expression U} → Item R e → expression_in (expression_branch (Z e)) ≡ e
  item_back (item-name {p} {t} {es} w n q b) = name_back t es w q
  item_back (item-special {p} {k} {ps} {e} {f} g r q) = special-back k ps e f g (back e r) (back f q)
  item_back (item-inline {p} {t} {ps} {e} w n g r) = inline-back t ps e w g (back e r)
  item_back (item-choice r) = back _ r
  item_back (item-sequence r b) = back _ r
  item_back item-empty = empty_back
  item_back (item-repeat {p} {k} {e} i h) = repeat-back k e (item_back i)
  item_back (item-literal {p} {c} {cs} s) = literal-back (c ∷ cs) s
  item_back (item-set {p} {i} {ss} g) = set_back i ss
  item_back item-any = any-back
  item_back (item-class {p} {c}) = class_back c

  markers-in : (ms : List (ConflictMarker U)) {ns : List (ConflictMarker U)} → Every GoodMarker ns → (bs : Branches) → slots_in ms (each marker_branch (map (on_marker zeroed) ns) bs) ≡ slots_in (ms ++ ns) bs
  unfolding expression_in each
  markers-in ms every-none bs = rw (append-nil ms)
  markers-in ms (every_more {x = n} {xs = ns} g q) bs = rw (marker-plain (on_marker zeroed n), marker-back n g, markers-in (ms ++ n ∷ []) q bs, append_snoc ms n ns)

  slots-back : {s : Slots U} → InSlots R s → slots_in [] (slot_branches (on_slots zeroed s)) ≡ s
  unfolding expression_branch on_expression expression_in
  slots-back (in_last g) = markers-in [] g []ᴮ
  slots-back (in_slot {ms} {e} {s} g i q) = markers-in [] g (expression_branch (Z e) ∷ᴮ slot_branches (on_slots zeroed s)) ∙ rw (expression-kind (Z e), item_back i, slots-back q)

  sequence-back : {s : Slots U} → InSlots R s → expression_in (expression_branch (Z (sequence tt s))) ≡ sequence tt s
  unfolding expression_branch on_expression expression_in expression_by
  sequence-back q = ap (sequence tt) (slots-back q)

  arm_back : {e : Expression U} → Arm R e → expression_in (expression_branch (Z e)) ≡ e
  arm_back (arm-sequence q l) = sequence-back q
  arm_back (arm-item i h) = item_back i

  arms-back : {es : Expressions U} → Arms R es → expressions (expressions_in (expression_branches (on_expressions zeroed es))) ≡ es
  unfolding expression_branch on_expression expression_in expressions
  arms-back arms_none = refl
  arms-back (arms_more {e} {es} a h q) = rw (expression-kind (Z e), arm_back a, arms-back q)

  choice-back : (es : Expressions U) → Arms R es → expression_in (expression_branch (Z (choice tt es))) ≡ choice tt es
  unfolding expression_branch on_expression expression_in expression_by
  choice-back es q = ap (choice tt) (arms-back q)

  level_back : {e : Expression U} → Level R e → expression_in (expression_branch (Z e)) ≡ e
  level_back (level_choice q) = choice-back _ q
  level_back (level_arm a h) = arm_back a

pub expression-back : (l : ℕ) (e : Expression U) → Readable l e → expression_in (expression_branch (Z e)) ≡ e
expression-back zero e r = absurd r
expression-back (suc l) e r = level_back (Readable l) (expression-back l) r
