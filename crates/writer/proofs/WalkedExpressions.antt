-- The walk over the records of an expression writes the tokens of its definition.
-- Assumes nothing.
use Prim.Native.Nat.{ℕ}
use mathlib.Core.Path.{◌≡◌, refl, sym, ◌∙◌, ap}
use mathlib.Core.Bool.{Bool, true, false, ◌||◌}
use mathlib.Core.List.{List, [], ◌∷◌, ◌++◌, append_assoc}
use Rattle.basics.specs.Basics.{letters}
use Rattle.characters.specs.Spans.{Span}
use Rattle.characters.specs.Utf8.{encode, encode_all}
use Rattle.lexer.specs.Tokens.{Kind}
use Rattle.tree.specs.Syntax.{PropPart, value, Prop, ConflictMarkerKind, ambiguity, precedence, ConflictMarker, SpecializeKind, extend, specialize, RepeatKind, optional, zero_or_more, one_or_more, CharClass, ascii_letter, ascii_lowercase, ascii_uppercase, digit, whitespace, eof, Expression, special, inline, choice, sequence, empty, repeat, set, any, class, Expressions, []ᴱ, ◌∷ᴱ◌, Slots, last, slot}
use Rattle.tree.specs.Records.{Row, branch, Branches, []ᴮ, ◌∷ᴮ◌}
use Rattle.tree.specs.Stored.{full, named, valued, plain, leaf, flag, part_branch, prop_branch, marker_number, marker_branch, span_branch, expression_branch, expression_branches, slot_branches}
use Rattle.tree.specs.Stored as Stored
use Rattle.tree.proofs.ExpressionsFit.{expression-kind}
use Rattle.spelling.specs.Spelling.{span_text, spans_text, spell}
use Rattle.spelling.specs.NormalText.{each, mark, prop_tokens, props_tokens, part_tokens, value_tokens, prop_name, marker_tokens, is_choice, is_sequence, bracket_if, expression_tokens, arguments_tokens, more_arguments, arms_tokens, more_arms, slots_tokens}
use Rattle.writer.specs.Walk.{text_for, comma, opens, shuts, between, separator, tail, setting, in_brackets, is_line, tokenless, lead, ends, before, spelled, after, close, block_end, last_class}
use Rattle.writer.specs.Walk as Walk
use Rattle.spelling.proofs.Bytes.{set-bytes}
use Rattle.writer.proofs.Walked.{class_of, source_on, body, walks, led, led-string, Child, children-bracketed}

-- ------------------------------------------------------------------ props

part : (x : PropPart ℕ) (ks : List Kind) (z : List ℕ) → body 0 (part_branch x) (led ks z) ≡ led (part_tokens x ks) z
unfolding text_for Walk.class in_brackets is_line tokenless lead ends before spelled after close block_end body led encode encode_all spell
part (value p t) ks z = sym (led-string t ks z)
part (PropPart.name p t) ks z = refl

-- parts behind the first
parts : (xs : List (PropPart ℕ)) (p : ℕ) (t : List ℕ) (v : ℕ) (ks : List Kind) (z : List ℕ) → walks (full 5 p t v) 6 (Stored.each part_branch xs []ᴮ) (led ks z) ≡ led (each part_tokens xs ks) z
unfolding Stored.each each body Walk.class between separator comma text_for source_on tail setting
parts [] p t v ks z = refl
parts (value q u ∷ xs) p t v ks z = ap (λ (x : List ℕ). body 0 (part_branch (value q u)) x) (parts xs p t v ks z) ∙ part (value q u) (each part_tokens xs ks) z
parts (PropPart.name q u ∷ xs) p t v ks z = ap (λ (x : List ℕ). body 0 (part_branch (PropPart.name q u)) x) (parts xs p t v ks z) ∙ part (PropPart.name q u) (each part_tokens xs ks) z

-- `=` and parts
valued-prop : (vs : List (PropPart ℕ)) (p : ℕ) (t : List ℕ) (v : ℕ) (ks : List Kind) (z : List ℕ) → walks (full 5 p t v) 0 (Stored.each part_branch vs []ᴮ) (led ks z) ≡ led (value_tokens vs ks) z
unfolding Stored.each each body Walk.class between separator comma opens shuts text_for source_on tail setting led encode encode_all spell
valued-prop [] p t v ks z = refl
valued-prop (value q u ∷ xs) p t v ks z =
    ap (λ (x : List ℕ). 0x20 ∷ 0x3D ∷ body 0 (part_branch (value q u)) x) (parts xs p t v ks z) ∙ ap (λ (x : List ℕ). 0x20 ∷ 0x3D ∷ x) (part (value q u) (each part_tokens xs ks) z)
valued-prop (PropPart.name q u ∷ xs) p t v ks z =
    ap (λ (x : List ℕ). 0x20 ∷ 0x3D ∷ body 0 (part_branch (PropPart.name q u)) x) (parts xs p t v ks z) ∙ ap (λ (x : List ℕ). 0x20 ∷ 0x3D ∷ x) (part (PropPart.name q u) (each part_tokens xs ks) z)

prop-at : (b : Bool) (p : ℕ) (t : List ℕ) (vs : List (PropPart ℕ)) (ks : List Kind) (z : List ℕ)
    → body 0 (branch (full 5 p t (flag b)) (Stored.each part_branch vs []ᴮ)) (led ks z) ≡ led (prop_name b t ∷ value_tokens vs ks) z
unfolding body lead in_brackets is_line tokenless before spelled after close block_end ends text_for led encode encode_all spell
prop-at true p t vs ks z = ap (λ (x : List ℕ). 0x20 ∷ 0x40 ∷ (encode_all t ++ x)) (valued-prop vs p t 1 ks z)
prop-at false p t vs ks z = ap (λ (x : List ℕ). 0x20 ∷ (encode_all t ++ x)) (valued-prop vs p t 0 ks z)

pub prop : (x : Prop ℕ) (ks : List Kind) (z : List ℕ) → body 0 (prop_branch x) (led ks z) ≡ led (prop_tokens x ks) z
prop x ks z = prop-at x.at x.start x.name x.value ks z

-- a record that props may stand in
pub record Holds (k : ℕ) : Type 0 where
  pub none : setting k ≡ 0
  pub first : between k 0 5 ≡ letters " ["
  pub next : between k 5 5 ≡ letters " ,"

pub prop-child : {k : ℕ} → Holds k → Child prop_branch prop_tokens k 5
unfolding Walk.class tail text_for
prop-child h = record { says = prop; is = λ x. refl; none = h.none; alone = refl; other = refl }

-- a list of props that may be left out
pub props : (p : Row) (h : Holds p.kind) (bs : Branches) (rest z : List ℕ) (xs : List (Prop ℕ)) (ks : List Kind) → walks p 0 bs rest ≡ led ks z → walks p 5 bs rest ≡ led (mark "]" ks) z
    → walks p 0 (Stored.each prop_branch xs bs) rest ≡ led (props_tokens xs ks) z
unfolding led encode encode_all spell
props p h bs rest z xs ks d e = children-bracketed p (prop-child h) rest z "[" "]" [] (letters " [") 0 h.first (λ l. refl) h.next xs bs ks d e

-- ------------------------------------------------------------------ expressions among children

pub expression-class : (e : Expression ℕ) → class_of (expression_branch e) ≡ 30
unfolding Walk.class
expression-class e = rw (expression-kind e)

pub expression-child : (p : Row) (l : ℕ) (e : Expression ℕ) (bs : Branches) (rest : List ℕ)
    → walks p l (expression_branch e ∷ᴮ bs) rest ≡ between p.kind l 30 ++ body (setting p.kind) (expression_branch e) (tail p.kind 30 ++ walks p 30 bs rest)
unfolding body source_on
expression-child p l e bs rest = rw (expression-class e)

last-expression : (es : Expressions ℕ) → last_class 30 (expression_branches es) ≡ 30
unfolding last_class expression_branch
last-expression []ᴱ = refl
last-expression (e ∷ᴱ es) = ap (λ (c : ℕ). last_class c (expression_branches es)) (expression-class e) ∙ last-expression es

-- what is written for an expression that stands by itself
abbrev Says : Expression ℕ → Type 0
Says e = (ks : List Kind) (z : List ℕ) → body 0 (expression_branch e) (led ks z) ≡ led (expression_tokens e ks) z

-- an arm: a choice is in brackets
arm : (e : Expression ℕ) → Says e → (ks : List Kind) (z : List ℕ) → body 33 (expression_branch e) (led ks z) ≡ led (bracket_if (is_choice e) (λ l. expression_tokens e l) ks) z
unfolding expression_branch body lead in_brackets is_line tokenless before close block_end ends text_for led encode encode_all spell
arm (Expression.name p t es) h ks z = h ks z
arm (special p k ps e f) h ks z = h ks z
arm (inline p t ps e) h ks z = h ks z
arm (choice p es) h ks z = ap (λ (x : List ℕ). 0x20 ∷ 0x28 ∷ x) (h (mark ")" ks) z)
arm (sequence p s) h ks z = h ks z
arm (empty p) h ks z = h ks z
arm (repeat p k e) h ks z = h ks z
arm (Expression.literal p t) h ks z = h ks z
arm (set p i ss) h ks z = h ks z
arm (any p) h ks z = h ks z
arm (class p c) h ks z = h ks z

-- in a sequence or under a repeat: a choice and a sequence are in brackets
tight : (e : Expression ℕ) → Says e → (ks : List Kind) (z : List ℕ) → body 34 (expression_branch e) (led ks z) ≡ led (bracket_if (is_choice e || is_sequence e) (λ l. expression_tokens e l) ks) z
unfolding expression_branch body lead in_brackets is_line tokenless before close block_end ends text_for led encode encode_all spell
tight (Expression.name p t es) h ks z = h ks z
tight (special p k ps e f) h ks z = h ks z
tight (inline p t ps e) h ks z = h ks z
tight (choice p es) h ks z = ap (λ (x : List ℕ). 0x20 ∷ 0x28 ∷ x) (h (mark ")" ks) z)
tight (sequence p s) h ks z = ap (λ (x : List ℕ). 0x20 ∷ 0x28 ∷ x) (h (mark ")" ks) z)
tight (empty p) h ks z = h ks z
tight (repeat p k e) h ks z = h ks z
tight (Expression.literal p t) h ks z = h ks z
tight (set p i ss) h ks z = h ks z
tight (any p) h ks z = h ks z
tight (class p c) h ks z = h ks z

-- ------------------------------------------------------------------ markers, spans, classes

marker-at : (k : ConflictMarkerKind) (q : ℕ) (t : List ℕ) (p l : ℕ) (bs : Branches) (rest : List ℕ) (ks : List Kind) (z : List ℕ)
    → ((c : ℕ) → walks (plain 34 p) c bs rest ≡ led ks z)
    → walks (plain 34 p) l (leaf (named (marker_number k) q t) ∷ᴮ bs) rest ≡ led (marker_tokens (record { start = q; kind = k; name = t }) ks) z
unfolding body Walk.class between separator opens text_for source_on tail setting lead in_brackets is_line tokenless before spelled after close block_end ends led encode encode_all spell
marker-at ambiguity q t p l bs rest ks z h = ap (λ (x : List ℕ). 0x20 ∷ 0x7E ∷ 0x20 ∷ (encode_all t ++ x)) (h 41)
marker-at precedence q t p l bs rest ks z h = ap (λ (x : List ℕ). 0x20 ∷ 0x21 ∷ 0x20 ∷ (encode_all t ++ x)) (h 42)

markers : (ms : List (ConflictMarker ℕ)) (p : ℕ) (bs : Branches) (rest : List ℕ) (ks : List Kind) (z : List ℕ) → ((c : ℕ) → walks (plain 34 p) c bs rest ≡ led ks z)
    → (l : ℕ) → walks (plain 34 p) l (Stored.each marker_branch ms bs) rest ≡ led (each marker_tokens ms ks) z
unfolding Stored.each each
markers [] p bs rest ks z h l = h l
markers (m ∷ ms) p bs rest ks z h l = marker-at m.kind m.start m.name p l (Stored.each marker_branch ms bs) rest (each marker_tokens ms ks) z (markers ms p bs rest ks z h)

spans : (ss : List Span) (p v l : ℕ) (rest : List ℕ) → walks (valued 37 p v) l (Stored.each (span_branch p) ss []ᴮ) rest ≡ spans_text ss ++ rest
unfolding Stored.each spans_text body Walk.class between separator opens text_for source_on tail setting lead in_brackets is_line tokenless before spelled after close block_end ends
spans [] p v l rest = refl
spans (s ∷ ss) p v l rest = ap (λ (x : List ℕ). span_text s ++ x) (spans ss p v 38 rest) ∙ sym (append_assoc (span_text s) (spans_text ss) rest)

set_says : (i : Bool) (p : ℕ) (ss : List Span) (ks : List Kind) (z : List ℕ)
    → body 0 (branch (valued 37 p (flag i)) (Stored.each (span_branch p) ss []ᴮ)) (led ks z) ≡ led (Kind.set i (spans_text ss) ∷ ks) z
unfolding body lead in_brackets is_line tokenless before spelled after close block_end ends text_for led spell encode_all Stored.each
set_says i p ss ks z = at i ∙ ap (λ (x : List ℕ). 0x20 ∷ (x ++ led ks z)) (sym (set-bytes i ss))
  where
    at : (b : Bool) → body 0 (branch (valued 37 p (flag b)) (Stored.each (span_branch p) ss []ᴮ)) (led ks z) ≡ 0x20 ∷ (spell (Kind.set b (spans_text ss)) ++ led ks z)
    at true = ap (λ (x : List ℕ). 0x20 ∷ 0x21 ∷ 0x5B ∷ x) (spans ss p 1 0 (0x5D ∷ led ks z) ∙ sym (append_assoc (spans_text ss) (0x5D ∷ []) (led ks z)))
    at false = ap (λ (x : List ℕ). 0x20 ∷ 0x24 ∷ 0x5B ∷ x) (spans ss p 0 0 (0x5D ∷ led ks z) ∙ sym (append_assoc (spans_text ss) (0x5D ∷ []) (led ks z)))

class-says : (c : CharClass) (p : ℕ) → Says (class p c)
unfolding expression_branch expression_tokens body lead in_brackets is_line tokenless before spelled after close block_end ends text_for led encode encode_all spell
class-says ascii_letter p ks z = refl
class-says ascii_lowercase p ks z = refl
class-says ascii_uppercase p ks z = refl
class-says digit p ks z = refl
class-says whitespace p ks z = refl
class-says eof p ks z = refl

-- ------------------------------------------------------------------ records over expressions

repeat-says : (k : RepeatKind) (p : ℕ) (e : Expression ℕ) → Says e → Says (repeat p k e)
unfolding expression_branch expression_tokens body lead in_brackets is_line tokenless before spelled after close block_end ends text_for between separator shuts opens setting tail Walk.class led encode encode_all spell
repeat-says k p e h ks z = at k
  where
    one : (v : ℕ) (rest : List ℕ) → walks (valued 35 p v) 0 (expression_branch e ∷ᴮ []ᴮ) rest ≡ body 34 (expression_branch e) rest
    one v rest = expression-child (valued 35 p v) 0 e []ᴮ rest

    at : (j : RepeatKind) → body 0 (expression_branch (repeat p j e)) (led ks z) ≡ led (expression_tokens (repeat p j e) ks) z
    at optional = one 0 (led (mark "?" ks) z) ∙ tight e h (mark "?" ks) z
    at zero_or_more = one 1 (led (mark "*" ks) z) ∙ tight e h (mark "*" ks) z
    at one_or_more = one 2 (led (mark "+" ks) z) ∙ tight e h (mark "+" ks) z

special-says : (k : SpecializeKind) (p : ℕ) (ps : List (Prop ℕ)) (e f : Expression ℕ) → Says e → Says f → Says (special p k ps e f)
unfolding expression_branch expression_tokens body lead in_brackets is_line tokenless before spelled after close block_end ends text_for between separator comma shuts opens setting tail Walk.class led encode encode_all spell
special-says k p ps e f h i ks z = at k
  where
    inner : (v : ℕ) → walks (valued 31 p v) 30 (expression_branch f ∷ᴮ []ᴮ) (led (mark ">" ks) z) ≡ led (mark "," (expression_tokens f (mark ">" ks))) z
    inner v = expression-child (valued 31 p v) 30 f []ᴮ (led (mark ">" ks) z) ∙ ap (λ (x : List ℕ). 0x20 ∷ 0x2C ∷ x) (i (mark ">" ks) z)

    both : (v l : ℕ) → walks (valued 31 p v) l (expression_branch e ∷ᴮ expression_branch f ∷ᴮ []ᴮ) (led (mark ">" ks) z) ≡ between 31 l 30 ++ led (expression_tokens e (mark "," (expression_tokens f (mark ">" ks)))) z
    both v l = expression-child (valued 31 p v) l e (expression_branch f ∷ᴮ []ᴮ) (led (mark ">" ks) z)
        ∙ ap (λ (x : List ℕ). between 31 l 30 ++ body 0 (expression_branch e) x) (inner v) ∙ ap (λ (x : List ℕ). between 31 l 30 ++ x) (h (mark "," (expression_tokens f (mark ">" ks))) z)

    rest : (v : ℕ) → walks (valued 31 p v) 0 (Stored.each prop_branch ps (expression_branch e ∷ᴮ expression_branch f ∷ᴮ []ᴮ)) (led (mark ">" ks) z)
        ≡ led (props_tokens ps (mark "<" (expression_tokens e (mark "," (expression_tokens f (mark ">" ks)))))) z
    rest v = props (valued 31 p v) (record { none = refl; first = refl; next = refl }) (expression_branch e ∷ᴮ expression_branch f ∷ᴮ []ᴮ) (led (mark ">" ks) z) z ps
        (mark "<" (expression_tokens e (mark "," (expression_tokens f (mark ">" ks))))) (both v 0) (both v 5)

    at : (j : SpecializeKind) → body 0 (expression_branch (special p j ps e f)) (led ks z) ≡ led (expression_tokens (special p j ps e f) ks) z
    at extend = ap (λ (x : List ℕ). 0x20 ∷ (letters "@extend" ++ x)) (rest 1)
    at specialize = ap (λ (x : List ℕ). 0x20 ∷ (letters "@specialize" ++ x)) (rest 2)

inline-says : (p : ℕ) (t : List ℕ) (ps : List (Prop ℕ)) (e : Expression ℕ) → Says e → Says (inline p t ps e)
unfolding expression_branch expression_tokens body lead in_brackets is_line tokenless before spelled after close block_end ends text_for between separator comma shuts opens setting tail Walk.class led encode encode_all spell
inline-says p t ps e h ks z =
    ap (λ (x : List ℕ). 0x20 ∷ (encode_all t ++ x)) (props (named 32 p t) (record { none = refl; first = refl; next = refl }) (expression_branch e ∷ᴮ []ᴮ) (led (mark "}" ks) z) z ps
    (mark "{" (expression_tokens e (mark "}" ks))) (one 0) (one 5))
  where
    one : (l : ℕ) → walks (named 32 p t) l (expression_branch e ∷ᴮ []ᴮ) (led (mark "}" ks) z) ≡ between 32 l 30 ++ led (expression_tokens e (mark "}" ks)) z
    one l = expression-child (named 32 p t) l e []ᴮ (led (mark "}" ks) z) ∙ ap (λ (x : List ℕ). between 32 l 30 ++ x) (h (mark "}" ks) z)

-- ------------------------------------------------------------------ expressions

mutual
  unfolding expression_branch expression_tokens body lead in_brackets is_line tokenless before spelled after close block_end ends text_for between separator comma shuts opens setting tail Walk.class last_class led encode encode_all spell

  pub expression : (e : Expression ℕ) → Says e
  expression (Expression.name p t es) ks z = ap (λ (x : List ℕ). 0x20 ∷ (encode_all t ++ x)) (arguments es p t ks z)
  expression (special p k ps e f) ks z = special-says k p ps e f (λ a b. expression e a b) (λ a b. expression f a b) ks z
  expression (inline p t ps e) ks z = inline-says p t ps e (λ a b. expression e a b) ks z
  expression (choice p es) ks z = arms es p ks z
  expression (sequence p s) ks z = slots s p ks z 0
  expression (empty p) ks z = refl
  expression (repeat p k e) ks z = repeat-says k p e (λ a b. expression e a b) ks z
  expression (Expression.literal p t) ks z = sym (led-string t ks z)
  expression (set p i ss) ks z = set_says i p ss ks z
  expression (any p) ks z = refl
  expression (class p c) ks z = class-says c p ks z

  arguments : (es : Expressions ℕ) (p : ℕ) (t : List ℕ) (ks : List Kind) (z : List ℕ)
      → walks (named 30 p t) 0 (expression_branches es) (close 30 0 (last_class 0 (expression_branches es)) ++ led ks z) ≡ led (arguments_tokens es ks) z
  arguments []ᴱ p t ks z = refl
  arguments (e ∷ᴱ es) p t ks z =
      ap (λ (c : ℕ). walks (named 30 p t) 0 (expression_branch e ∷ᴮ expression_branches es) (close 30 0 (last_class c (expression_branches es)) ++ led ks z)) (expression-class e)
      ∙ ap (λ (c : ℕ). walks (named 30 p t) 0 (expression_branch e ∷ᴮ expression_branches es) (close 30 0 c ++ led ks z)) (last-expression es)
      ∙ expression-child (named 30 p t) 0 e (expression_branches es) (led (mark ">" ks) z)
      ∙ ap (λ (x : List ℕ). 0x20 ∷ 0x3C ∷ body 0 (expression_branch e) x) (more-arguments es p t ks z)
      ∙ ap (λ (x : List ℕ). 0x20 ∷ 0x3C ∷ x) (expression e (more_arguments es ks) z)

  more-arguments : (es : Expressions ℕ) (p : ℕ) (t : List ℕ) (ks : List Kind) (z : List ℕ) → walks (named 30 p t) 30 (expression_branches es) (led (mark ">" ks) z) ≡ led (more_arguments es ks) z
  more-arguments []ᴱ p t ks z = refl
  more-arguments (e ∷ᴱ es) p t ks z =
      expression-child (named 30 p t) 30 e (expression_branches es) (led (mark ">" ks) z)
      ∙ ap (λ (x : List ℕ). 0x20 ∷ 0x2C ∷ body 0 (expression_branch e) x) (more-arguments es p t ks z)
      ∙ ap (λ (x : List ℕ). 0x20 ∷ 0x2C ∷ x) (expression e (more_arguments es ks) z)

  arms : (es : Expressions ℕ) (p : ℕ) (ks : List Kind) (z : List ℕ) → walks (plain 33 p) 0 (expression_branches es) (led ks z) ≡ led (arms_tokens es ks) z
  arms []ᴱ p ks z = refl
  arms (e ∷ᴱ es) p ks z =
      expression-child (plain 33 p) 0 e (expression_branches es) (led ks z)
      ∙ ap (λ (x : List ℕ). body 33 (expression_branch e) x) (more-arms es p ks z)
      ∙ arm e (λ a b. expression e a b) (more_arms es ks) z

  more-arms : (es : Expressions ℕ) (p : ℕ) (ks : List Kind) (z : List ℕ) → walks (plain 33 p) 30 (expression_branches es) (led ks z) ≡ led (more_arms es ks) z
  more-arms []ᴱ p ks z = refl
  more-arms (e ∷ᴱ es) p ks z =
      expression-child (plain 33 p) 30 e (expression_branches es) (led ks z)
      ∙ ap (λ (x : List ℕ). 0x20 ∷ 0x7C ∷ body 33 (expression_branch e) x) (more-arms es p ks z)
      ∙ ap (λ (x : List ℕ). 0x20 ∷ 0x7C ∷ x) (arm e (λ a b. expression e a b) (more_arms es ks) z)

  slots : (s : Slots ℕ) (p : ℕ) (ks : List Kind) (z : List ℕ) (l : ℕ) → walks (plain 34 p) l (slot_branches s) (led ks z) ≡ led (slots_tokens s ks) z
  slots (last ms) p ks z l = markers ms p []ᴮ (led ks z) ks z (λ c. refl) l
  slots (slot ms e s) p ks z l =
      markers ms p (expression_branch e ∷ᴮ slot_branches s) (led ks z) (bracket_if (is_choice e || is_sequence e) (λ m. expression_tokens e m) (slots_tokens s ks)) z
      (λ c. expression-child (plain 34 p) c e (slot_branches s) (led ks z)
      ∙ ap (λ (x : List ℕ). body 34 (expression_branch e) x) (slots s p ks z 30)
      ∙ tight e (λ a b. expression e a b) (slots_tokens s ks) z) l
