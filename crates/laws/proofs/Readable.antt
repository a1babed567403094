-- The trees that reading gives, without starts. For expressions level by level: R holds of those that are read one level further in.
-- Assumes nothing.
use native.Mathlib.Omega.{arith}
use Prim.Native.Nat.{ℕ, zero, suc, ◌<◌, ◌≤◌}
use mathlib.Core.Path.{◌≡◌}
use mathlib.Core.Bool.{Bool, true, false}
use mathlib.Core.List.{List, [], ◌∷◌}
use Rattle.basics.specs.Basics.{spells}
use Rattle.characters.specs.Spans.{Span}
use Rattle.tree.specs.Syntax.{Identifier, PropPart, value, Prop, ConflictMarker, SpecializeKind, RepeatKind, CharClass, Expression, special, inline, choice, sequence, empty, repeat, set, any, class, Expressions, []ᴱ, ◌∷ᴱ◌, Slots, last, slot}
use Rattle.notation.specs.Limits.{repeats}
use Rattle.notation.specs.Expressions.{stacked, is_empty_arm}
use Rattle.spelling.specs.NormalText.{is_choice, is_sequence}
use Rattle.characters.proofs.Chars.{Scalars}
use Rattle.laws.proofs.Fine.{U, Word, ReadBack}
use Rattle.laws.proofs.Every.{Every}

pub record GoodName (n : Identifier U) : Type 0 where
  pub word : Word n.name

pub data GoodPart : PropPart U → Type 0 where
  good-value : {p : U} {t : List ℕ} → Scalars t → GoodPart (value p t)
  good-braced : {p : U} {t : List ℕ} → Word t → GoodPart (PropPart.name p t)

pub record GoodProp (x : Prop U) : Type 0 where
  pub word : Word x.name
  pub parts : Every GoodPart x.value

pub record GoodMarker (m : ConflictMarker U) : Type 0 where
  pub word : Word m.name

-- an expression that writes no token
abbrev pub blank : Expression U → Bool
blank (sequence p (last [])) = true
blank (sequence p (last (m ∷ ms))) = false
blank (sequence p (slot ms e s)) = false
blank (Expression.name p t es) = false
blank (special p k ps e f) = false
blank (inline p t ps e) = false
blank (choice p es) = false
blank (empty p) = false
blank (repeat p k e) = false
blank (Expression.literal p t) = false
blank (set p i ss) = false
blank (any p) = false
blank (class p c) = false

-- a list of one argument that writes no token would be read as no argument
abbrev pub sole_blank : Expressions U → Bool
sole_blank []ᴱ = false
sole_blank (e ∷ᴱ []ᴱ) = blank e
sole_blank (e ∷ᴱ (e' ∷ᴱ es)) = false

-- one expression and no marker: no sequence
abbrev pub lone : Slots U → Bool
lone (last ms) = false
lone (slot [] e (last [])) = true
lone (slot [] e (last (m ∷ ms))) = false
lone (slot [] e (slot ms e' s)) = false
lone (slot (m ∷ ms) e s) = false

abbrev pub Grade : Type 1
Grade = Expression U → Type 0

module _ (R : Grade) where
  pub data Each : Expressions U → Type 0 where
    each_none : Each []ᴱ
    each_more : {e : Expression U} {es : Expressions U} → R e → Each es → Each (e ∷ᴱ es)

  -- in a sequence or under a repeat
  pub data Item : Expression U → Type 0 where
    item-name : {p : U} {t : List ℕ} {es : Expressions U} → Word t → spells "_" t ≡ false → Each es → sole_blank es ≡ false → Item (Expression.name p t es)
    item-special : {p : U} {k : SpecializeKind} {ps : List (Prop U)} {e f : Expression U} → Every GoodProp ps → R e → R f → Item (special p k ps e f)
    item-inline : {p : U} {t : List ℕ} {ps : List (Prop U)} {e : Expression U} → Word t → spells "_" t ≡ false → Every GoodProp ps → R e → Item (inline p t ps e)
    item-choice : {p : U} {es : Expressions U} → R (choice p es) → Item (choice p es)
    item-sequence : {p : U} {s : Slots U} → R (sequence p s) → blank (sequence p s) ≡ false → Item (sequence p s)
    item-empty : {p : U} → Item (empty p)
    item-repeat : {p : U} {k : RepeatKind} {e : Expression U} → Item e → stacked e < repeats → Item (repeat p k e)
    item-literal : {p : U} {c : ℕ} {cs : List ℕ} → Scalars (c ∷ cs) → Item (Expression.literal p (c ∷ cs))
    item-set : {p : U} {i : Bool} {ss : List Span} → ReadBack ss → Item (set p i ss)
    item-any : {p : U} → Item (any p)
    item-class : {p : U} {c : CharClass} → Item (class p c)

  pub data InSlots : Slots U → Type 0 where
    in_last : {ms : List (ConflictMarker U)} → Every GoodMarker ms → InSlots (last ms)
    in_slot : {ms : List (ConflictMarker U)} {e : Expression U} {s : Slots U} → Every GoodMarker ms → Item e → InSlots s → InSlots (slot ms e s)

  -- as an arm of a choice
  pub data Arm : Expression U → Type 0 where
    arm-sequence : {p : U} {s : Slots U} → InSlots s → lone s ≡ false → Arm (sequence p s)
    arm-item : {e : Expression U} → Item e → is_sequence e ≡ false → Arm e

  pub data Arms : Expressions U → Type 0 where
    arms_none : Arms []ᴱ
    arms_more : {e : Expression U} {es : Expressions U} → Arm e → is_empty_arm e ≡ false → Arms es → Arms (e ∷ᴱ es)

  pub data Level : Expression U → Type 0 where
    level_choice : {p : U} {e e' : Expression U} {es : Expressions U} → Arms (e ∷ᴱ (e' ∷ᴱ es)) → Level (choice p (e ∷ᴱ (e' ∷ᴱ es)))
    level_arm : {e : Expression U} → Arm e → is_choice e ≡ false → Level e

pub item-stacked : {R : Grade} {e : Expression U} → Item R e → stacked e ≤ repeats
unfolding stacked
item-stacked (item-name w n q b) = omega arith
item-stacked (item-special g r q) = omega arith
item-stacked (item-inline w n g r) = omega arith
item-stacked (item-choice r) = omega arith
item-stacked (item-sequence r b) = omega arith
item-stacked item-empty = omega arith
item-stacked (item-repeat i h) = h
item-stacked (item-literal s) = omega arith
item-stacked (item-set g) = omega arith
item-stacked item-any = omega arith
item-stacked item-class = omega arith

module _ {R R' : Grade} (up : (e : Expression U) → R e → R' e) where
  each_up : {es : Expressions U} → Each R es → Each R' es
  each_up each_none = each_none
  each_up (each_more r q) = each_more (up _ r) (each_up q)

  item_up : {e : Expression U} → Item R e → Item R' e
  item_up (item-name w n q b) = item-name w n (each_up q) b
  item_up (item-special g r q) = item-special g (up _ r) (up _ q)
  item_up (item-inline w n g r) = item-inline w n g (up _ r)
  item_up (item-choice r) = item-choice (up _ r)
  item_up (item-sequence r b) = item-sequence (up _ r) b
  item_up item-empty = item-empty
  item_up (item-repeat i h) = item-repeat (item_up i) h
  item_up (item-literal s) = item-literal s
  item_up (item-set g) = item-set g
  item_up item-any = item-any
  item_up item-class = item-class

  slots_up : {s : Slots U} → InSlots R s → InSlots R' s
  slots_up (in_last g) = in_last g
  slots_up (in_slot g i q) = in_slot g (item_up i) (slots_up q)

  arm_up : {e : Expression U} → Arm R e → Arm R' e
  arm_up (arm-sequence q l) = arm-sequence (slots_up q) l
  arm_up (arm-item i s) = arm-item (item_up i) s

  arms_up : {es : Expressions U} → Arms R es → Arms R' es
  arms_up arms_none = arms_none
  arms_up (arms_more a h q) = arms_more (arm_up a) h (arms_up q)

  level_up : {e : Expression U} → Level R e → Level R' e
  level_up (level_choice q) = level_choice (arms_up q)
  level_up (level_arm a c) = level_arm (arm_up a) c

-- with l levels left
abbrev pub Readable : ℕ → Grade
Readable zero e = ⊥
Readable (suc l) e = Level (Readable l) e

pub readable_up : (l : ℕ) (e : Expression U) → Readable l e → Readable (suc l) e
readable_up zero e r = absurd r
readable_up (suc l) e r = level_up (readable_up l) r
