-- The tokens that a good tree is written as: each, spelled out, is read as that token.
-- Assumes nothing.
use Prim.Native.Nat.{ℕ, zero, suc, ◌<◌}
use Prim.Native.Char.{Char, code}
use Prim.Native.String.{String}
use native.Mathlib.Omega.{arith}
use mathlib.Core.Path.{◌≡◌, refl}
use mathlib.Core.Bool.{Bool, true, false, ◌&&◌, ◌||◌}
use mathlib.Core.List.{List, [], ◌∷◌, ◌++◌}
use Rattle.basics.specs.Basics.{letters, is}
use Rattle.basics.proofs.Tests.{both_true}
use Rattle.characters.specs.Classes.{is_punctuation, is_word}
use Rattle.characters.specs.Alphabetic.{spans, is_alphabetic}
use Rattle.characters.specs.Spans.{Span, in_spans}
use Rattle.characters.specs.Utf8.{is_scalar}
use Rattle.characters.proofs.Encode.{scalar-low}
use Rattle.characters.proofs.Chars.{Scalars, none_left, one_more}
use Rattle.lexer.specs.Tokens.{Kind}
use Rattle.lexer.proofs.Back.{Words, no_more, Written, a-name, an_at, a-string, a-set, a_not_set, a-mark}
use Rattle.lexer.proofs.Back as B
use Rattle.tree.specs.Syntax.{Identifier, PropPart, Prop, ConflictMarkerKind, ambiguity, precedence, ConflictMarker, SpecializeKind, extend, specialize, RepeatKind, optional, zero_or_more, one_or_more, CharClass, ascii_letter, ascii_lowercase, ascii_uppercase, digit, whitespace, eof, Expression, Expressions, Slots}
use Rattle.spelling.specs.Spelling.{quoted, spans_text, spell}
use Rattle.spelling.specs.NormalText.{each, each_after, commas, bracketed, mark, at, word, identifier, marker_sign, repeat_sign, specialize_word, class_name, bracket_if, prop_name, part_tokens, value_tokens, prop_tokens, props_tokens, is_choice, is_sequence, marker_tokens, expression_tokens, arguments_tokens, more_arguments, arms_tokens, more_arms, slots_tokens}
use Rattle.spelling.proofs.Back.{quoted-body, spans-body, Ascii, no_ascii, more-ascii, spans-ascii}
use Rattle.laws.proofs.Lists.{not_empty}
use Rattle.laws.proofs.Fine.{U, Word}
use Rattle.laws.proofs.Readable.{GoodName, GoodPart, good-value, good-braced, GoodProp, GoodMarker, Grade, Each, each_none, each_more, Item, item-name, item-special, item-inline, item-choice, item-sequence, item-empty, item-repeat, item-literal, item-set, item-any, item-class, InSlots, in_last, in_slot, Arm, arm-sequence, arm-item, Arms, arms_none, arms_more, Level, level_choice, level_arm, Readable}
use Rattle.laws.proofs.Every.{Every, every-none, every_more}

-- ------------------------------------------------------------------ single tokens

pub record Lexable (k : Kind) : Type 0 where
  pub written : Written k (spell k)
  pub scalars : Scalars (spell k)

ascii : (c : ℕ) → c < 0x80 → is_scalar c ≡ true
ascii c h = scalar-low c (omega arith)

-- one more after those
scalars-one : {cs : List ℕ} → Scalars cs → (c : ℕ) → is_scalar c ≡ true → Scalars (cs ++ c ∷ [])
scalars-one none_left c h = one_more h none_left
scalars-one (one_more s t) c h = one_more s (scalars-one t c h)

pub name_lexable : (t : List ℕ) → Word t → Lexable (Kind.name t)
unfolding spell
name_lexable [] w = absurd (w.some refl)
name_lexable (c ∷ cs) w = go w.words
  where
    go : Words (c ∷ cs) → Lexable (Kind.name (c ∷ cs))
    go (B.one_more h q) = record { written = a-name h q; scalars = w.scalars }

pub at_lexable : (t : List ℕ) → Word t → Lexable (Kind.at t)
unfolding spell
at_lexable [] w = absurd (w.some refl)
at_lexable (c ∷ cs) w = go w.words
  where
    go : Words (c ∷ cs) → Lexable (Kind.at (c ∷ cs))
    go (B.one_more h q) = record { written = an_at h q; scalars = one_more (ascii 0x40 (omega arith)) w.scalars }

quoted-scalars : {t : List ℕ} → Scalars t → Scalars (quoted t)
unfolding quoted
quoted-scalars none_left = none_left
quoted-scalars (one_more {c} {cs} h t) = go (is "\"" c || is "\\" c) (quoted-scalars t)
  where
    go : (b : Bool) → Scalars (quoted cs) → Scalars (elim b [ true ↦ code "\\" ∷ c ∷ quoted cs | false ↦ c ∷ quoted cs ])
    go true q = one_more (ascii 0x5C (omega arith)) (one_more h q)
    go false q = one_more h q

pub string_lexable : {t : List ℕ} → Scalars t → Lexable (Kind.string (quoted t))
unfolding spell
string_lexable {t} s = record { written = a-string (quoted-body t); scalars = one_more (ascii 0x22 (omega arith)) (scalars-one (quoted-scalars s) 0x22 (ascii 0x22 (omega arith))) }

ascii-scalars : {cs : List ℕ} → Ascii cs → Scalars cs
ascii-scalars no_ascii = none_left
ascii-scalars (more-ascii c h t) = one_more (ascii c h) (ascii-scalars t)

between_brackets : (ss : List Span) → Scalars (0x5B ∷ spans_text ss ++ 0x5D ∷ [])
between_brackets ss = one_more (ascii 0x5B (omega arith)) (scalars-one (ascii-scalars (spans-ascii ss)) 0x5D (ascii 0x5D (omega arith)))

pub set_lexable : (i : Bool) (ss : List Span) → Lexable (Kind.set i (spans_text ss))
unfolding spell
set_lexable false ss =
    record { written = a-set (spans-body ss); scalars = one_more (ascii 0x24 (omega arith)) (between_brackets ss) }
set_lexable true ss =
    record { written = a_not_set (spans-body ss); scalars = one_more (ascii 0x21 (omega arith)) (between_brackets ss) }

unfoldable pub is_sign : ℕ → Bool
unfolding is_punctuation is_scalar
is_sign c = is_punctuation c && is_scalar c

pub sign : (c : Char) → is_sign (code c) ≡ true → Lexable (Kind.mark (code c))
unfolding spell is_sign is_punctuation is_scalar
sign c h = let k = both_true (is_punctuation (code c)) (is_scalar (code c)) h in record { written = a-mark k.0; scalars = one_more k.1 none_left }

-- a keyword: characters of names, and codes that UTF-8 writes
unfoldable pub is_keyword : List ℕ → Bool
unfolding in_spans spans is_alphabetic is_word is_scalar
is_keyword [] = true
is_keyword (c ∷ cs) = is_word c && (is_scalar c && is_keyword cs)

keyword-parts : (c : ℕ) (cs : List ℕ) → is_keyword (c ∷ cs) ≡ true → (is_word c ≡ true) × (is_scalar c ≡ true) × (is_keyword cs ≡ true)
unfolding is_keyword in_spans spans is_alphabetic is_word is_scalar
keyword-parts c cs h =
    let k = both_true (is_word c) (is_scalar c && is_keyword cs) h in
    let l = both_true (is_scalar c) (is_keyword cs) k.1 in
    (k.0, l.0, l.1)

keyword-words : (t : List ℕ) → is_keyword t ≡ true → Words t
keyword-words [] h = no_more
keyword-words (c ∷ cs) h = let k = keyword-parts c cs h in B.one_more k.0 (keyword-words cs k.2)

keyword-scalars : (t : List ℕ) → is_keyword t ≡ true → Scalars t
keyword-scalars [] h = none_left
keyword-scalars (c ∷ cs) h = let k = keyword-parts c cs h in one_more k.1 (keyword-scalars cs k.2)

keyword : (t : List ℕ) → (t ≡ [] → ⊥) → is_keyword t ≡ true → Word t
keyword t s h = record { some = s; words = keyword-words t h; scalars = keyword-scalars t h }

-- ------------------------------------------------------------------ tokens in front of others

-- f puts tokens in front that are each read back
pub record Keeps (f : List Kind → List Kind) : Type 0 where
  pub on : {ks : List Kind} → Every Lexable ks → Every Lexable (f ks)

pub one-keeps : {k : Kind} → Lexable k → Keeps (λ ks. k ∷ ks)
one-keeps l = record { on = λ q. every_more l q }

pub more-keeps : {k : Kind} → Lexable k → {f : List Kind → List Kind} → Keeps f → Keeps (λ ks. k ∷ f ks)
more-keeps l a = record { on = λ q. every_more l (a.on q) }

pub then_keeps : {f g : List Kind → List Kind} → Keeps f → Keeps g → Keeps (λ ks. f (g ks))
then_keeps a b = record { on = λ q. a.on (b.on q) }

pub none-keeps : Keeps (λ ks. ks)
none-keeps = record { on = λ q. q }

-- a fixed word, after `@` or not
pub word_keeps : (s : String) → (letters s ≡ [] → ⊥) → is_keyword (letters s) ≡ true → {f : List Kind → List Kind} → Keeps f → Keeps (λ ks. word s (f ks))
word_keeps s n h a = more-keeps (name_lexable (letters s) (keyword (letters s) n h)) a

pub at-keeps : (s : String) → (letters s ≡ [] → ⊥) → is_keyword (letters s) ≡ true → {f : List Kind → List Kind} → Keeps f → Keeps (λ ks. at s (f ks))
at-keeps s n h a = more-keeps (at_lexable (letters s) (keyword (letters s) n h)) a

module _ {A : Type 0} {write : A → List Kind → List Kind} {G : A → Type 0} (keeps : (x : A) → G x → Keeps (write x)) where
  pub each_keeps : {xs : List A} → Every G xs → Keeps (each write xs)
  unfolding each
  each_keeps every-none = none-keeps
  each_keeps (every_more g q) = then_keeps (keeps _ g) (each_keeps q)

  after-keeps : {xs : List A} → Every G xs → Keeps (each_after write xs)
  unfolding each_after is_sign
  after-keeps every-none = none-keeps
  after-keeps (every_more g q) = more-keeps (sign "," refl) (then_keeps (keeps _ g) (after-keeps q))

  pub commas-keep : {xs : List A} → Every G xs → Keeps (commas write xs)
  commas-keep every-none = none-keeps
  commas-keep (every_more g q) = then_keeps (keeps _ g) (after-keeps q)

  pub bracketed-keeps : (a b : Char) → is_sign (code a) ≡ true → is_sign (code b) ≡ true → {xs : List A} → Every G xs → Keeps (bracketed write a b xs)
  bracketed-keeps a b h k every-none = none-keeps
  bracketed-keeps a b h k (every_more g q) = more-keeps (sign a h) (then_keeps (keeps _ g) (then_keeps (after-keeps q) (one-keeps (sign b k))))

-- ------------------------------------------------------------------ props

pub identifier-keeps : (n : Identifier U) → GoodName n → Keeps (identifier n)
identifier-keeps n g = one-keeps (name_lexable n.name g.word)

part-keeps : (x : PropPart U) → GoodPart x → Keeps (part_tokens x)
unfolding is_sign
part-keeps x (good-value s) = one-keeps (string_lexable s)
part-keeps x (good-braced w) = more-keeps (sign "{" refl) (more-keeps (name_lexable _ w) (one-keeps (sign "}" refl)))

value_keeps : {xs : List (PropPart U)} → Every GoodPart xs → Keeps (value_tokens xs)
unfolding is_sign
value_keeps every-none = none-keeps
value_keeps (every_more g q) = more-keeps (sign "=" refl) (each_keeps part-keeps (every_more g q))

prop-keeps : (x : Prop U) → GoodProp x → Keeps (prop_tokens x)
prop-keeps x g = go x.at (value_keeps g.parts)
  where
    go : (b : Bool) {f : List Kind → List Kind} → Keeps f → Keeps (λ ks. prop_name b x.name ∷ f ks)
    go true a = more-keeps (at_lexable x.name g.word) a
    go false a = more-keeps (name_lexable x.name g.word) a

pub props-keep : {ps : List (Prop U)} → Every GoodProp ps → Keeps (props_tokens ps)
unfolding is_sign
props-keep q = bracketed-keeps prop-keeps "[" "]" refl refl q

-- ------------------------------------------------------------------ expressions

marker-keeps : (m : ConflictMarker U) → GoodMarker m → Keeps (marker_tokens m)
unfolding is_sign
marker-keeps m g = go m.kind (one-keeps (name_lexable m.name g.word))
  where
    go : (k : ConflictMarkerKind) {f : List Kind → List Kind} → Keeps f → Keeps (λ ks. mark (marker_sign k) (f ks))
    go ambiguity a = more-keeps (sign "~" refl) a
    go precedence a = more-keeps (sign "!" refl) a

bracket-keeps : (b : Bool) {f : List Kind → List Kind} → Keeps f → Keeps (bracket_if b f)
unfolding is_sign
bracket-keeps true a = more-keeps (sign "(" refl) (then_keeps a (one-keeps (sign ")" refl)))
bracket-keeps false a = a

repeat-keeps : (k : RepeatKind) → Keeps (mark (repeat_sign k))
unfolding is_sign
repeat-keeps optional = one-keeps (sign "?" refl)
repeat-keeps zero_or_more = one-keeps (sign "*" refl)
repeat-keeps one_or_more = one-keeps (sign "+" refl)

class-keeps : (c : CharClass) → Keeps (at (class_name c))
unfolding is_keyword
class-keeps ascii_letter = at-keeps "asciiLetter" not_empty refl none-keeps
class-keeps ascii_lowercase = at-keeps "asciiLowercase" not_empty refl none-keeps
class-keeps ascii_uppercase = at-keeps "asciiUppercase" not_empty refl none-keeps
class-keeps digit = at-keeps "digit" not_empty refl none-keeps
class-keeps whitespace = at-keeps "whitespace" not_empty refl none-keeps
class-keeps eof = at-keeps "eof" not_empty refl none-keeps

specialize-keeps : (k : SpecializeKind) {f : List Kind → List Kind} → Keeps f → Keeps (λ ks. at (specialize_word k) (f ks))
unfolding is_keyword
specialize-keeps extend a = at-keeps "extend" not_empty refl a
specialize-keeps specialize a = at-keeps "specialize" not_empty refl a

module _ {R : Grade} (below : (e : Expression U) → R e → Keeps (expression_tokens e)) where
  more-arguments-keep : {es : Expressions U} → Each R es → Keeps (more_arguments es)
  unfolding expression_tokens is_sign
  more-arguments-keep each_none = one-keeps (sign ">" refl)
  more-arguments-keep (each_more r q) = more-keeps (sign "," refl) (then_keeps (below _ r) (more-arguments-keep q))

  arguments-keep : {es : Expressions U} → Each R es → Keeps (arguments_tokens es)
  unfolding expression_tokens is_sign
  arguments-keep each_none = none-keeps
  arguments-keep (each_more r q) = more-keeps (sign "<" refl) (then_keeps (below _ r) (more-arguments-keep q))

  pub item-keeps : {e : Expression U} → Item R e → Keeps (expression_tokens e)
  unfolding expression_tokens is_keyword is_sign
  item-keeps (item-name w n q b) = more-keeps (name_lexable _ w) (arguments-keep q)
  item-keeps (item-special {k = k} g r q) =
      specialize-keeps k (then_keeps (props-keep g) (more-keeps (sign "<" refl) (then_keeps (below _ r) (more-keeps (sign "," refl) (then_keeps (below _ q) (one-keeps (sign ">" refl)))))))
  item-keeps (item-inline w n g r) = more-keeps (name_lexable _ w) (then_keeps (props-keep g) (more-keeps (sign "{" refl) (then_keeps (below _ r) (one-keeps (sign "}" refl)))))
  item-keeps (item-choice r) = below _ r
  item-keeps (item-sequence r b) = below _ r
  item-keeps item-empty = more-keeps (sign "(" refl) (one-keeps (sign ")" refl))
  item-keeps (item-repeat {k = k} {e = e} i h) = then_keeps (bracket-keeps (is_choice e || is_sequence e) (item-keeps i)) (repeat-keeps k)
  item-keeps (item-literal s) = one-keeps (string_lexable s)
  item-keeps (item-set {i = i} {ss = ss} g) = one-keeps (set_lexable i ss)
  item-keeps item-any = word_keeps "_" not_empty refl none-keeps
  item-keeps (item-class {c = c}) = class-keeps c

  slots-keep : {s : Slots U} → InSlots R s → Keeps (slots_tokens s)
  unfolding expression_tokens
  slots-keep (in_last g) = each_keeps marker-keeps g
  slots-keep (in_slot {e = e} g i q) = then_keeps (each_keeps marker-keeps g) (then_keeps (bracket-keeps (is_choice e || is_sequence e) (item-keeps i)) (slots-keep q))

  arm-keeps : {e : Expression U} → Arm R e → Keeps (expression_tokens e)
  unfolding expression_tokens
  arm-keeps (arm-sequence q l) = slots-keep q
  arm-keeps (arm-item i s) = item-keeps i

  more-arms-keep : {es : Expressions U} → Arms R es → Keeps (more_arms es)
  unfolding expression_tokens is_sign
  more-arms-keep arms_none = none-keeps
  more-arms-keep (arms_more {e = e} a h q) = more-keeps (sign "|" refl) (then_keeps (bracket-keeps (is_choice e) (arm-keeps a)) (more-arms-keep q))

  arms-keep : {es : Expressions U} → Arms R es → Keeps (arms_tokens es)
  unfolding expression_tokens
  arms-keep arms_none = none-keeps
  arms-keep (arms_more {e = e} a h q) = then_keeps (bracket-keeps (is_choice e) (arm-keeps a)) (more-arms-keep q)

  level_keeps : {e : Expression U} → Level R e → Keeps (expression_tokens e)
  unfolding expression_tokens
  level_keeps (level_choice q) = arms-keep q
  level_keeps (level_arm a c) = arm-keeps a

pub readable_keeps : (l : ℕ) (e : Expression U) → Readable l e → Keeps (expression_tokens e)
readable_keeps zero e r = absurd r
readable_keeps (suc l) e r = level_keeps (readable_keeps l) r
