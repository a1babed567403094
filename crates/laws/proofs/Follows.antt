-- What may follow an expression, and how expressions are written: the tokens that they begin with.
-- Assumes nothing.
use Prim.Native.Nat.{ℕ, ◌<◌, ◌≤◌}
use Prim.Native.Char.{code}
use native.Mathlib.Omega.{arith}
use mathlib.Core.Path.{◌≡◌, refl}
use mathlib.Core.Bool.{Bool, true, false, ◌||◌}
use mathlib.Core.List.{List, [], ◌∷◌}
use mathlib.Core.Option.{Option, none}
use lib.ListN.{length}
use Rattle.basics.specs.Basics.{first_element}
use Rattle.basics.proofs.Tests.{clash}
use Rattle.lexer.specs.Tokens.{Kind}
use Rattle.tree.specs.Syntax.{ConflictMarker, ConflictMarkerKind, ambiguity, precedence, RepeatKind, optional, zero_or_more, one_or_more, Expression, special, inline, choice, sequence, empty, repeat, set, any, class, Expressions, []ᴱ, ◌∷ᴱ◌, Slots, last, slot}
use Rattle.notation.specs.Parser.{mark_in, is_mark, ends_sequence}
use Rattle.notation.specs.Expressions.{repeat_mark, marker_mark, is_empty_arm}
use Rattle.spelling.specs.NormalText.{each, mark, marker_sign, repeat_sign, bracket_if, is_choice, is_sequence, marker_tokens, expression_tokens, arguments_tokens, more_arguments, arms_tokens, more_arms, slots_tokens}
use Rattle.laws.proofs.Fine.{U}
use Rattle.laws.proofs.Readable.{blank, Grade, Item, item-name, item-special, item-inline, item-choice, item-sequence, item-empty, item-repeat, item-literal, item-set, item-any, item-class, InSlots, in_last, in_slot, Arm, arm-sequence, arm-item, arms_more, Level, level_choice, level_arm}
use Rattle.laws.proofs.ReadBackProps.{each-longer, props-longer}

-- ------------------------------------------------------------------ what may follow

-- the first token of an item
pub data Opens : List Kind → Type 0 where
  open_name : {t : List ℕ} {ks : List Kind} → Opens (Kind.name t ∷ ks)
  open_string : {t : List ℕ} {ks : List Kind} → Opens (Kind.string t ∷ ks)
  open_set : {i : Bool} {t : List ℕ} {ks : List Kind} → Opens (Kind.set i t ∷ ks)
  open_at : {t : List ℕ} {ks : List Kind} → Opens (Kind.at t ∷ ks)
  open_paren : {ks : List Kind} → Opens (Kind.mark (code "(") ∷ ks)

-- the first token of an expression that has one
pub data Begins : List Kind → Type 0 where
  begin_open : {ks : List Kind} → Opens ks → Begins ks
  begin_tilde : {ks : List Kind} → Begins (Kind.mark (code "~") ∷ ks)
  begin_bang : {ks : List Kind} → Begins (Kind.mark (code "!") ∷ ks)

-- what may stand after a choice
pub data Stops : List Kind → Type 0 where
  stop_brace : {ks : List Kind} → Stops (Kind.mark (code "}") ∷ ks)
  stop_paren : {ks : List Kind} → Stops (Kind.mark (code ")") ∷ ks)
  stop_comma : {ks : List Kind} → Stops (Kind.mark (code ",") ∷ ks)
  stop_angle : {ks : List Kind} → Stops (Kind.mark (code ">") ∷ ks)

-- what may stand after a sequence
pub data Ends : List Kind → Type 0 where
  end_stop : {ks : List Kind} → Stops ks → Ends ks
  end_bar : {ks : List Kind} → Ends (Kind.mark (code "|") ∷ ks)

-- what may stand after an item, and between it and the marks of its repeats
pub data Follows : List Kind → Type 0 where
  follow_begin : {ks : List Kind} → Begins ks → Follows ks
  follow_end : {ks : List Kind} → Ends ks → Follows ks

pub data AfterInner : List Kind → Type 0 where
  inner_follow : {ks : List Kind} → Follows ks → AfterInner ks
  inner-repeat : (k : RepeatKind) {ks : List Kind} → AfterInner (Kind.mark (code (repeat_sign k)) ∷ ks)

-- no rule, no arguments, no class after a name
pub record NoName (k : Option Kind) : Type 0 where
  pub no_square : is_mark "[" k ≡ false
  pub no_brace : is_mark "{" k ≡ false
  pub no_dot : is_mark "." k ≡ false
  pub no_angle : is_mark "<" k ≡ false

opens-name : {ks : List Kind} → Opens ks → NoName (first_element ks)
opens-name open_name = record { no_square = refl; no_brace = refl; no_dot = refl; no_angle = refl }
opens-name open_string = record { no_square = refl; no_brace = refl; no_dot = refl; no_angle = refl }
opens-name open_set = record { no_square = refl; no_brace = refl; no_dot = refl; no_angle = refl }
opens-name open_at = record { no_square = refl; no_brace = refl; no_dot = refl; no_angle = refl }
opens-name open_paren = record { no_square = refl; no_brace = refl; no_dot = refl; no_angle = refl }

pub after-name : {ks : List Kind} → AfterInner ks → NoName (first_element ks)
after-name (inner_follow (follow_begin (begin_open o))) = opens-name o
after-name (inner_follow (follow_begin begin_tilde)) = record { no_square = refl; no_brace = refl; no_dot = refl; no_angle = refl }
after-name (inner_follow (follow_begin begin_bang)) = record { no_square = refl; no_brace = refl; no_dot = refl; no_angle = refl }
after-name (inner_follow (follow_end (end_stop stop_brace))) = record { no_square = refl; no_brace = refl; no_dot = refl; no_angle = refl }
after-name (inner_follow (follow_end (end_stop stop_paren))) = record { no_square = refl; no_brace = refl; no_dot = refl; no_angle = refl }
after-name (inner_follow (follow_end (end_stop stop_comma))) = record { no_square = refl; no_brace = refl; no_dot = refl; no_angle = refl }
after-name (inner_follow (follow_end (end_stop stop_angle))) = record { no_square = refl; no_brace = refl; no_dot = refl; no_angle = refl }
after-name (inner_follow (follow_end end_bar)) = record { no_square = refl; no_brace = refl; no_dot = refl; no_angle = refl }
after-name (inner-repeat optional) = record { no_square = refl; no_brace = refl; no_dot = refl; no_angle = refl }
after-name (inner-repeat zero_or_more) = record { no_square = refl; no_brace = refl; no_dot = refl; no_angle = refl }
after-name (inner-repeat one_or_more) = record { no_square = refl; no_brace = refl; no_dot = refl; no_angle = refl }

pub follows_repeat : {ks : List Kind} → Follows ks → repeat_mark (mark_in (first_element ks)) ≡ none
follows_repeat (follow_begin (begin_open open_name)) = refl
follows_repeat (follow_begin (begin_open open_string)) = refl
follows_repeat (follow_begin (begin_open open_set)) = refl
follows_repeat (follow_begin (begin_open open_at)) = refl
follows_repeat (follow_begin (begin_open open_paren)) = refl
follows_repeat (follow_begin begin_tilde) = refl
follows_repeat (follow_begin begin_bang) = refl
follows_repeat (follow_end (end_stop stop_brace)) = refl
follows_repeat (follow_end (end_stop stop_paren)) = refl
follows_repeat (follow_end (end_stop stop_comma)) = refl
follows_repeat (follow_end (end_stop stop_angle)) = refl
follows_repeat (follow_end end_bar) = refl

-- an item goes on a sequence, and is no marker
pub record GoesOn (k : Option Kind) : Type 0 where
  pub no_marker : marker_mark (mark_in k) ≡ none
  pub no_end : ends_sequence k ≡ false

pub opens-goes : {ks : List Kind} → Opens ks → GoesOn (first_element ks)
opens-goes open_name = record { no_marker = refl; no_end = refl }
opens-goes open_string = record { no_marker = refl; no_end = refl }
opens-goes open_set = record { no_marker = refl; no_end = refl }
opens-goes open_at = record { no_marker = refl; no_end = refl }
opens-goes open_paren = record { no_marker = refl; no_end = refl }

pub record Over (k : Option Kind) : Type 0 where
  pub no_marker : marker_mark (mark_in k) ≡ none
  pub at-end : ends_sequence k ≡ true

pub ends-over : {ks : List Kind} → Ends ks → Over (first_element ks)
ends-over (end_stop stop_brace) = record { no_marker = refl; at-end = refl }
ends-over (end_stop stop_paren) = record { no_marker = refl; at-end = refl }
ends-over (end_stop stop_comma) = record { no_marker = refl; at-end = refl }
ends-over (end_stop stop_angle) = record { no_marker = refl; at-end = refl }
ends-over end_bar = record { no_marker = refl; at-end = refl }

pub stops_bar : {ks : List Kind} → Stops ks → is_mark "|" (first_element ks) ≡ false
stops_bar stop_brace = refl
stops_bar stop_paren = refl
stops_bar stop_comma = refl
stops_bar stop_angle = refl

-- an expression that begins with a token begins with no closing bracket
pub begins_open : {ks : List Kind} → Begins ks → (is_mark ")" (first_element ks) ≡ false) × (is_mark ">" (first_element ks) ≡ false)
begins_open (begin_open open_name) = (refl, refl)
begins_open (begin_open open_string) = (refl, refl)
begins_open (begin_open open_set) = (refl, refl)
begins_open (begin_open open_at) = (refl, refl)
begins_open (begin_open open_paren) = (refl, refl)
begins_open begin_tilde = (refl, refl)
begins_open begin_bang = (refl, refl)

-- ------------------------------------------------------------------ how expressions are written

-- as an item of a sequence, and as an arm of a choice
abbrev pub as_item : Expression U → List Kind → List Kind
as_item e ks = bracket_if (is_choice e || is_sequence e) (λ l. expression_tokens e l) ks

abbrev pub as_arm : Expression U → List Kind → List Kind
as_arm e ks = bracket_if (is_choice e) (λ l. expression_tokens e l) ks

pub bracket-longer : (b : Bool) (f : List Kind → List Kind) → ((l : List Kind) → length l ≤ length (f l)) → (ks : List Kind) → length ks ≤ length (bracket_if b f ks)
bracket-longer true f h ks = let l = h (mark ")" ks) in omega arith
bracket-longer false f h ks = h ks

marker-longer : (m : ConflictMarker U) (ks : List Kind) → length ks < length (marker_tokens m ks)
marker-longer m ks = omega arith

-- writing only adds tokens
mutual
  unfolding expression_tokens

  pub longer : (e : Expression U) (ks : List Kind) → length ks ≤ length (expression_tokens e ks)
  longer (Expression.name p t es) ks = let l = arguments-longer es ks in omega arith
  longer (special p k ps e f) ks =
      let a = longer f (mark ">" ks) in
      let b = longer e (mark "," (expression_tokens f (mark ">" ks))) in
      let c = props-longer ps (mark "<" (expression_tokens e (mark "," (expression_tokens f (mark ">" ks))))) in
      omega arith
  longer (inline p t ps e) ks = let a = longer e (mark "}" ks) in let b = props-longer ps (mark "{" (expression_tokens e (mark "}" ks))) in omega arith
  longer (choice p es) ks = arms-longer es ks
  longer (sequence p s) ks = slots-longer s ks
  longer (empty p) ks = omega arith
  longer (repeat p k e) ks = let a = bracket-longer (is_choice e || is_sequence e) (λ l. expression_tokens e l) (λ l. longer e l) (mark (repeat_sign k) ks) in omega arith
  longer (Expression.literal p t) ks = omega arith
  longer (set p i ss) ks = omega arith
  longer (any p) ks = omega arith
  longer (class p c) ks = omega arith

  pub arguments-longer : (es : Expressions U) (ks : List Kind) → length ks ≤ length (arguments_tokens es ks)
  arguments-longer []ᴱ ks = omega arith
  arguments-longer (e ∷ᴱ es) ks = let a = more-longer es ks in let b = longer e (more_arguments es ks) in omega arith

  more-longer : (es : Expressions U) (ks : List Kind) → length ks < length (more_arguments es ks)
  more-longer []ᴱ ks = omega arith
  more-longer (e ∷ᴱ es) ks = let a = more-longer es ks in let b = longer e (more_arguments es ks) in omega arith

  arms-longer : (es : Expressions U) (ks : List Kind) → length ks ≤ length (arms_tokens es ks)
  arms-longer []ᴱ ks = omega arith
  arms-longer (e ∷ᴱ es) ks = let a = more_arms-longer es ks in let b = bracket-longer (is_choice e) (λ l. expression_tokens e l) (λ l. longer e l) (more_arms es ks) in omega arith

  more_arms-longer : (es : Expressions U) (ks : List Kind) → length ks ≤ length (more_arms es ks)
  more_arms-longer []ᴱ ks = omega arith
  more_arms-longer (e ∷ᴱ es) ks = let a = more_arms-longer es ks in let b = bracket-longer (is_choice e) (λ l. expression_tokens e l) (λ l. longer e l) (more_arms es ks) in omega arith

  slots-longer : (s : Slots U) (ks : List Kind) → length ks ≤ length (slots_tokens s ks)
  slots-longer (last ms) ks = each-longer marker_tokens marker-longer ms ks
  slots-longer (slot ms e s) ks =
      let a = slots-longer s ks in
      let b = bracket-longer (is_choice e || is_sequence e) (λ l. expression_tokens e l) (λ l. longer e l) (slots_tokens s ks) in
      let c = each-longer marker_tokens marker-longer ms (bracket_if (is_choice e || is_sequence e) (λ l. expression_tokens e l) (slots_tokens s ks)) in
      omega arith

-- an expression that is blank writes nothing
pub blank-writes : (e : Expression U) → blank e ≡ true → (ks : List Kind) → expression_tokens e ks ≡ ks
unfolding expression_tokens each
blank-writes (sequence p (last [])) b ks = refl
blank-writes (sequence p (last (m ∷ ms))) b ks = clash _ b refl
blank-writes (sequence p (slot ms e s)) b ks = clash _ b refl
blank-writes (Expression.name p t es) b ks = clash _ b refl
blank-writes (special p k ps e f) b ks = clash _ b refl
blank-writes (inline p t ps e) b ks = clash _ b refl
blank-writes (choice p es) b ks = clash _ b refl
blank-writes (empty p) b ks = clash _ b refl
blank-writes (repeat p k e) b ks = clash _ b refl
blank-writes (Expression.literal p t) b ks = clash _ b refl
blank-writes (set p i ss) b ks = clash _ b refl
blank-writes (any p) b ks = clash _ b refl
blank-writes (class p c) b ks = clash _ b refl

pub unbracketed : (e : Expression U) → is_choice e ≡ false → (ks : List Kind) → as_arm e ks ≡ expression_tokens e ks
unbracketed e h ks = rw h

pub as-arm : (e : Expression U) → is_sequence e ≡ false → (ks : List Kind) → as_arm e ks ≡ as_item e ks
as-arm e h ks = rw h (go (is_choice e))
  where
    go : (b : Bool) → bracket_if b (λ l. expression_tokens e l) ks ≡ bracket_if (b || false) (λ l. expression_tokens e l) ks
    go true = refl
    go false = refl

solid : (e : Expression U) → is_empty_arm e ≡ false → blank e ≡ false
unfolding is_empty_arm
solid (sequence p (last ms)) h = clash _ refl h
solid (sequence p (slot ms e s)) h = refl
solid (Expression.name p t es) h = refl
solid (special p k ps e f) h = refl
solid (inline p t ps e) h = refl
solid (choice p es) h = refl
solid (empty p) h = refl
solid (repeat p k e) h = refl
solid (Expression.literal p t) h = refl
solid (set p i ss) h = refl
solid (any p) h = refl
solid (class p c) h = refl

marker-begins : (m : ConflictMarker U) (ks : List Kind) → Begins (marker_tokens m ks)
marker-begins m ks = go m.kind
  where
    go : (k : ConflictMarkerKind) → Begins (mark (marker_sign k) (Kind.name m.name ∷ ks))
    go ambiguity = begin_tilde
    go precedence = begin_bang

module _ (R : Grade) where
  pub item-opens : {e : Expression U} → Item R e → (ks : List Kind) → Opens (as_item e ks)
  unfolding expression_tokens
  item-opens (item-name w n q b) ks = open_name
  item-opens (item-special g r q) ks = open_at
  item-opens (item-inline w n g r) ks = open_name
  item-opens (item-choice r) ks = open_paren
  item-opens (item-sequence r b) ks = open_paren
  item-opens item-empty ks = open_paren
  item-opens (item-repeat {k = k} i h) ks = item-opens i (mark (repeat_sign k) ks)
  item-opens (item-literal s) ks = open_string
  item-opens (item-set g) ks = open_set
  item-opens item-any ks = open_name
  item-opens item-class ks = open_at

  pub item-longer : {e : Expression U} → Item R e → (ks : List Kind) → length ks < length (as_item e ks)
  unfolding expression_tokens
  item-longer (item-name {es = es} w n q b) ks = let l = arguments-longer es ks in omega arith
  item-longer (item-special {p} {k} {ps} {e} {f} g r q) ks =
      let a = longer f (mark ">" ks) in
      let b = longer e (mark "," (expression_tokens f (mark ">" ks))) in
      let c = props-longer ps (mark "<" (expression_tokens e (mark "," (expression_tokens f (mark ">" ks))))) in
      omega arith
  item-longer (item-inline {p} {t} {ps} {e} w n g r) ks = let a = longer e (mark "}" ks) in let b = props-longer ps (mark "{" (expression_tokens e (mark "}" ks))) in omega arith
  item-longer (item-choice {es = es} r) ks = let a = arms-longer es (mark ")" ks) in omega arith
  item-longer (item-sequence {s = s} r b) ks = let a = slots-longer s (mark ")" ks) in omega arith
  item-longer item-empty ks = omega arith
  item-longer (item-repeat {k = k} i h) ks = let a = item-longer i (mark (repeat_sign k) ks) in omega arith
  item-longer (item-literal s) ks = omega arith
  item-longer (item-set g) ks = omega arith
  item-longer item-any ks = omega arith
  item-longer item-class ks = omega arith

  pub slots_follow : {s : Slots U} → InSlots R s → {ks : List Kind} → Ends ks → Follows (slots_tokens s ks)
  unfolding expression_tokens each
  slots_follow (in_last {ms = []} g) q = follow_end q
  slots_follow (in_last {ms = m ∷ ms} g) q = follow_begin (marker-begins m _)
  slots_follow (in_slot {ms = []} g i s) q = follow_begin (begin_open (item-opens i _))
  slots_follow (in_slot {ms = m ∷ ms} g i s) q = follow_begin (marker-begins m _)

  slots_begin : {p : U} {s : Slots U} → InSlots R s → blank (sequence p s) ≡ false → (ks : List Kind) → Begins (slots_tokens s ks)
  unfolding expression_tokens each
  slots_begin (in_last {ms = []} g) b ks = clash _ refl b
  slots_begin (in_last {ms = m ∷ ms} g) b ks = marker-begins m _
  slots_begin (in_slot {ms = []} g i s) b ks = begin_open (item-opens i _)
  slots_begin (in_slot {ms = m ∷ ms} g i s) b ks = marker-begins m _

  arm-begins : {e : Expression U} → Arm R e → blank e ≡ false → (ks : List Kind) → Begins (as_arm e ks)
  unfolding expression_tokens
  arm-begins (arm-sequence q l) b ks = slots_begin q b ks
  arm-begins {e = e} (arm-item i h) b ks = rw (as-arm e h ks) (begin_open (item-opens i ks))

  pub level_begins : {e : Expression U} → Level R e → blank e ≡ false → (ks : List Kind) → Begins (expression_tokens e ks)
  unfolding expression_tokens
  level_begins (level_choice {e = e} (arms_more a h q)) b ks = arm-begins a (solid e h) _
  level_begins {e = e} (level_arm a h) b ks = rw (← unbracketed e h ks) (arm-begins a b ks)
