-- Trees of expressions are structurally equal just where the Rust's arms say so.
-- Assumes nothing.
use Prim.Native.Nat.{ℕ}
use mathlib.Core.Path.{◌≡◌, refl, sym, ◌∙◌, ap}
use mathlib.Core.Bool.{Bool, true, false, ◌&&◌, ◌||◌, or-true}
use mathlib.Core.List.{List, [], ◌∷◌, ◌++◌}
use mathlib.Core.Option.{Option, some}
use lib.Dec.{eqb}
use borrow.Author.Tests.{eq-eqb}
use Rattle.basics.specs.Basics.{same}
use Rattle.characters.specs.Spans.{Span}
use Rattle.characters.specs.Utf8.{encode_all}
use Rattle.tree.specs.CharClasses.{class_value}
use Rattle.tree.specs.Records.{Branch, Branches, []ᴮ, ◌∷ᴮ◌, records, words, texts}
use Rattle.tree.specs.OneTree.{is_expression, build}
use Rattle.tree.specs.Stored.{full, named, valued, plain, each, flag, part_branch, prop_branch, marker_branch, span_branch, specialize_value, repeat_value, expression_branch, expression_branches, slot_branches}
use Rattle.tree.specs.Equality.{same_row, same_branch, same_branches}
use Rattle.tree.specs.Equality as Tree
use Rattle.tree.specs.Syntax.{PropPart, value, name, Prop, ConflictMarkerKind, ambiguity, precedence, ConflictMarker, SpecializeKind, extend, specialize, RepeatKind, optional, zero_or_more, one_or_more, CharClass, ascii_letter, ascii_lowercase, ascii_uppercase, digit, whitespace, eof, Expression, special, inline, choice, sequence, empty, repeat, set, any, class, Expressions, []ᴱ, ◌∷ᴱ◌, Slots, last, slot}
use Rattle.tree.proofs.ExpressionsFit.{expression-kind}
use Rattle.tree.proofs.Encoded.{encoded}
use Rattle.grammar.specs.Calls.{compared, compare_by, compare}
use Rattle.trees.specs.IsTree.{Proper}
use Rattle.trees.specs.Arms.{same_text, same_specialize, same_repeat, same_class, same_flag, same_spans, same_marker_kind, same_markers, same_part, same_parts, same_props, structurally_eq, expressions_structurally_eq, slots_structurally_eq, ComparesByTheArms}
use Rattle.trees.proofs.Trees.{fits}

-- ------------------------------------------------------------------ two tests and more

and-true : (b : Bool) → (b && true) ≡ b
and-true true = refl
and-true false = refl

and-false : (b : Bool) → (b && false) ≡ false
and-false true = refl
and-false false = refl

and-assoc : (a b c : Bool) → ((a && b) && c) ≡ (a && (b && c))
and-assoc true b c = refl
and-assoc false b c = refl

and-three : (a b c : Bool) → (a && (b && (c && true))) ≡ ((a && b) && c)
and-three a b c = rw (and-true c) (sym (and-assoc a b c))

and-four : (a b c d : Bool) → (a && (b && (c && (d && true)))) ≡ (((a && b) && c) && d)
and-four a b c d = rw (and-three b c d) (sym (and-assoc a (b && c) d) ∙ ap (λ (x : Bool). x && d) (sym (and-assoc a b c)))

-- ------------------------------------------------------------------ rows of one kind

-- by their texts and their values, but for a prop's
row-same : (k p q : ℕ) (t u : List ℕ) (v w : ℕ) → same_row (full k p t v) (full k q u w) ≡ (same_text t u && (eqb k 5 || eqb v w))
row-same k p q t u v w = rw (eq-eqb k k refl) (and-true (same_text t u && (eqb k 5 || eqb v w)))

-- by their texts
text_row : (k p q : ℕ) (t u : List ℕ) → same_row (named k p t) (named k q u) ≡ same_text t u
text_row k p q t u = row-same k p q t u 0 0 ∙ rw (or-true (eqb k 5)) (and-true (same_text t u))

-- a prop's `@` is not looked at
prop_row : (p q : ℕ) (t u : List ℕ) (v w : ℕ) → same_row (full 5 p t v) (full 5 q u w) ≡ same_text t u
prop_row p q t u v w = row-same 5 p q t u v w ∙ and-true (same_text t u)

-- by their values
value_row : (k p q v w : ℕ) → eqb k 5 ≡ false → same_row (valued k p v) (valued k q w) ≡ eqb v w
unfolding same encode_all
value_row k p q v w e = row-same k p q [] [] v w ∙ rw e

-- rows with neither
plain-row : (k p q : ℕ) → same_row (plain k p) (plain k q) ≡ true
unfolding same encode_all
plain-row k p q = text_row k p q [] []

-- ------------------------------------------------------------------ values

specialize-same : (k l : SpecializeKind) → eqb (specialize_value k) (specialize_value l) ≡ same_specialize k l
specialize-same extend extend = refl
specialize-same specialize specialize = refl
specialize-same k l = refl

repeat-same : (k l : RepeatKind) → eqb (repeat_value k) (repeat_value l) ≡ same_repeat k l
repeat-same optional optional = refl
repeat-same zero_or_more zero_or_more = refl
repeat-same one_or_more one_or_more = refl
repeat-same k l = refl

class-same : (c d : CharClass) → eqb (class_value c) (class_value d) ≡ same_class c d
class-same ascii_letter ascii_letter = refl
class-same ascii_lowercase ascii_lowercase = refl
class-same ascii_uppercase ascii_uppercase = refl
class-same digit digit = refl
class-same whitespace whitespace = refl
class-same eof eof = refl
class-same c d = refl

flag-same : (i j : Bool) → eqb (flag i) (flag j) ≡ same_flag i j
flag-same true true = refl
flag-same false false = refl
flag-same i j = refl

-- ------------------------------------------------------------------ spans, parts, props, markers

span-same : (p q : ℕ) (s r : Span) → same_branch (span_branch p s) (span_branch q r) ≡ (eqb s.first r.first && eqb s.past r.past)
unfolding same same_branch
span-same p q s r = and-true (eqb s.first r.first && eqb s.past r.past)

spans-same : (p q : ℕ) (ss rs : List Span) → same_branches (each (span_branch p) ss []ᴮ) (each (span_branch q) rs []ᴮ) ≡ same_spans ss rs
unfolding each same_branch same_spans
spans-same p q [] [] = refl
spans-same p q (s ∷ ss) (r ∷ rs) = rw (span-same p q s r, spans-same p q ss rs)
spans-same p q ss rs = refl

part-same : (x y : PropPart ℕ) → same_branch (part_branch x) (part_branch y) ≡ same_part x y
unfolding same_branch
part-same (value p t) (value q u) = and-true (same_row (named 6 p t) (named 6 q u)) ∙ text_row 6 p q t u
part-same (name p t) (name q u) = and-true (same_row (named 7 p t) (named 7 q u)) ∙ text_row 7 p q t u
part-same x y = refl

parts-same : (xs ys : List (PropPart ℕ)) → same_branches (each part_branch xs []ᴮ) (each part_branch ys []ᴮ) ≡ same_parts xs ys
unfolding each same_branch same_parts
parts-same [] [] = refl
parts-same (x ∷ xs) (y ∷ ys) = rw (part-same x y, parts-same xs ys)
parts-same xs ys = refl

prop-same : (x y : Prop ℕ) → same_branch (prop_branch x) (prop_branch y) ≡ (same_text x.name y.name && same_parts x.value y.value)
unfolding same_branch
prop-same x y = rw (prop_row x.start y.start x.name y.name (flag x.at) (flag y.at), parts-same x.value y.value)

marker-same : (m n : ConflictMarker ℕ) → same_branch (marker_branch m) (marker_branch n) ≡ (same_marker_kind m.kind n.kind && same_text m.name n.name)
unfolding same_branch
marker-same m n = go m.kind n.kind refl refl
  where
    by_text : (k l : ConflictMarkerKind) (b : Bool) → m.kind ≡ k → n.kind ≡ l → same_text m.name n.name ≡ b → same_branch (marker_branch m) (marker_branch n) ≡ (same_marker_kind k l && b)
    by_text ambiguity ambiguity true e f g = rw (e, f, g)
    by_text ambiguity ambiguity false e f g = rw (e, f, g)
    by_text precedence precedence true e f g = rw (e, f, g)
    by_text precedence precedence false e f g = rw (e, f, g)
    by_text k l b e f g = rw (e, f)

    go : (k l : ConflictMarkerKind) → m.kind ≡ k → n.kind ≡ l → same_branch (marker_branch m) (marker_branch n) ≡ (same_marker_kind k l && same_text m.name n.name)
    go k l e f = by_text k l (same_text m.name n.name) e f refl

-- ------------------------------------------------------------------ props and markers in front of expressions

-- a prop or a marker is no expression
prop-not : (x : Prop ℕ) (e : Expression ℕ) → same_branch (prop_branch x) (expression_branch e) ≡ false
unfolding same_branch expression_branch
prop-not x (any p) = refl
prop-not x e = refl

not_prop : (e : Expression ℕ) (x : Prop ℕ) → same_branch (expression_branch e) (prop_branch x) ≡ false
unfolding same_branch expression_branch
not_prop (any p) x = refl
not_prop e x = refl

marker-not : (m : ConflictMarker ℕ) (e : Expression ℕ) → same_branch (marker_branch m) (expression_branch e) ≡ false
unfolding same_branch expression_branch
marker-not m e = go m.kind refl e
  where
    go : (k : ConflictMarkerKind) → m.kind ≡ k → (e : Expression ℕ) → same_branch (marker_branch m) (expression_branch e) ≡ false
    go ambiguity f (any p) = rw f
    go ambiguity f e = rw f
    go precedence f (any p) = rw f
    go precedence f e = rw f

not-marker : (e : Expression ℕ) (m : ConflictMarker ℕ) → same_branch (expression_branch e) (marker_branch m) ≡ false
unfolding same_branch expression_branch
not-marker e m = go m.kind refl e
  where
    go : (k : ConflictMarkerKind) → m.kind ≡ k → (e : Expression ℕ) → same_branch (expression_branch e) (marker_branch m) ≡ false
    go ambiguity f (any p) = rw f
    go ambiguity f e = rw f
    go precedence f (any p) = rw f
    go precedence f e = rw f

module _ (e f : Expression ℕ) (bs cs : Branches) where
  props-then : (xs ys : List (Prop ℕ))
      → same_branches (each prop_branch xs (expression_branch e ∷ᴮ bs)) (each prop_branch ys (expression_branch f ∷ᴮ cs))
      ≡ (same_props xs ys && same_branches (expression_branch e ∷ᴮ bs) (expression_branch f ∷ᴮ cs))
  unfolding each same_branch same_props
  props-then [] [] = refl
  props-then (x ∷ xs) (y ∷ ys) = rw (prop-same x y, props-then xs ys) (sym (and-assoc (same_text x.name y.name && same_parts x.value y.value) (same_props xs ys) (same_branches (expression_branch e ∷ᴮ bs) (expression_branch f ∷ᴮ cs))))
  props-then [] (y ∷ ys) = rw (not_prop e y)
  props-then (x ∷ xs) [] = rw (prop-not x f)

  markers-then : (ms ns : List (ConflictMarker ℕ))
      → same_branches (each marker_branch ms (expression_branch e ∷ᴮ bs)) (each marker_branch ns (expression_branch f ∷ᴮ cs))
      ≡ (same_markers ms ns && same_branches (expression_branch e ∷ᴮ bs) (expression_branch f ∷ᴮ cs))
  unfolding each same_branch same_markers
  markers-then [] [] = refl
  markers-then (m ∷ ms) (n ∷ ns) = rw (marker-same m n, markers-then ms ns) (sym (and-assoc (same_marker_kind m.kind n.kind && same_text m.name n.name) (same_markers ms ns) (same_branches (expression_branch e ∷ᴮ bs) (expression_branch f ∷ᴮ cs))))
  markers-then [] (n ∷ ns) = rw (not-marker e n)
  markers-then (m ∷ ms) [] = rw (marker-not m f)

-- the markers after the last expression
markers-same : (ms ns : List (ConflictMarker ℕ)) → same_branches (each marker_branch ms []ᴮ) (each marker_branch ns []ᴮ) ≡ same_markers ms ns
unfolding each same_branch same_markers
markers-same [] [] = refl
markers-same (m ∷ ms) (n ∷ ns) = rw (marker-same m n, markers-same ms ns)
markers-same ms ns = refl

-- are not followed by one
last-not : (ms ns : List (ConflictMarker ℕ)) (f : Expression ℕ) (cs : Branches) → same_branches (each marker_branch ms []ᴮ) (each marker_branch ns (expression_branch f ∷ᴮ cs)) ≡ false
unfolding each same_branch
last-not [] [] f cs = refl
last-not [] (n ∷ ns) f cs = refl
last-not (m ∷ ms) [] f cs = rw (marker-not m f)
last-not (m ∷ ms) (n ∷ ns) f cs = rw (last-not ms ns f cs) (and-false (same_branch (marker_branch m) (marker_branch n)))

not_last : (ms ns : List (ConflictMarker ℕ)) (e : Expression ℕ) (bs : Branches) → same_branches (each marker_branch ms (expression_branch e ∷ᴮ bs)) (each marker_branch ns []ᴮ) ≡ false
unfolding each same_branch
not_last [] [] e bs = refl
not_last (m ∷ ms) [] e bs = refl
not_last [] (n ∷ ns) e bs = rw (not-marker e n)
not_last (m ∷ ms) (n ∷ ns) e bs = rw (not_last ms ns e bs) (and-false (same_branch (marker_branch m) (marker_branch n)))

-- ------------------------------------------------------------------ the arms

mutual
  unfolding same_branch expression_branch structurally_eq

  arms : (e f : Expression ℕ) → same_branch (expression_branch e) (expression_branch f) ≡ structurally_eq e f
  arms (Expression.name p t es) (Expression.name q u fs) = rw (text_row 30 p q t u, arms-all es fs)
  arms (special p k ps e f) (special q l qs g h) =
      rw (value_row 31 p q (specialize_value k) (specialize_value l) refl, specialize-same k l, props-then e g (expression_branch f ∷ᴮ []ᴮ) (expression_branch h ∷ᴮ []ᴮ) ps qs, arms e g, arms f h)
      (and-four (same_specialize k l) (same_props ps qs) (structurally_eq e g) (structurally_eq f h))
  arms (inline p t ps e) (inline q u qs f) = rw (text_row 32 p q t u, props-then e f []ᴮ []ᴮ ps qs, arms e f) (and-three (same_text t u) (same_props ps qs) (structurally_eq e f))
  arms (choice p es) (choice q fs) = rw (plain-row 33 p q) (arms-all es fs)
  arms (sequence p s) (sequence q t) = rw (plain-row 34 p q) (arms-slots s t)
  arms (sequence p s) (empty q) = rw (value_row 34 p q 0 1 refl)
  arms (empty p) (sequence q t) = rw (value_row 34 p q 1 0 refl)
  arms (empty p) (empty q) = rw (value_row 34 p q 1 1 refl)
  arms (repeat p k e) (repeat q l f) = rw (value_row 35 p q (repeat_value k) (repeat_value l) refl, repeat-same k l, arms e f, and-true (structurally_eq e f))
  arms (Expression.literal p t) (Expression.literal q u) = and-true (same_row (named 36 p t) (named 36 q u)) ∙ text_row 36 p q t u
  arms (set p i ss) (set q j rs) = rw (value_row 37 p q (flag i) (flag j) refl, flag-same i j, spans-same p q ss rs)
  arms (any p) (any q) = rw (plain-row 39 p q)
  arms (class p c) (class q d) = and-true (same_row (valued 40 p (class_value c)) (valued 40 q (class_value d))) ∙ value_row 40 p q (class_value c) (class_value d) refl ∙ class-same c d
  arms e f = refl

  arms-all : (es fs : Expressions ℕ) → same_branches (expression_branches es) (expression_branches fs) ≡ expressions_structurally_eq es fs
  arms-all []ᴱ []ᴱ = refl
  arms-all (e ∷ᴱ es) (f ∷ᴱ fs) = rw (arms e f, arms-all es fs)
  arms-all es fs = refl

  arms-slots : (s t : Slots ℕ) → same_branches (slot_branches s) (slot_branches t) ≡ slots_structurally_eq s t
  arms-slots (last ms) (last ns) = markers-same ms ns
  arms-slots (slot ms e s) (slot ns f t) = rw (markers-then e f (slot_branches s) (slot_branches t) ms ns, arms e f, arms-slots s t) (sym (and-assoc (same_markers ms ns) (structurally_eq e f) (slots_structurally_eq s t)))
  arms-slots (last ms) (slot ns f t) = last-not ms ns f (slot_branches t)
  arms-slots (slot ms e s) (last ns) = not_last ms ns e (slot_branches s)

-- ------------------------------------------------------------------ the call

module _ (e : Expression ℕ) (more : List ℕ) (proper : Proper (expression_branch e)) where
  built : build is_expression (words (records (expression_branch e))) (texts (expression_branch e) ++ more) ≡ some (expression_branch e)
  built = encoded is_expression (expression_branch e) more (fits (expression_branch e) proper) (expression-kind e)

by_trees : {o q : Option Branch} {b c : Branch} → o ≡ some b → q ≡ some c → compare_by o q ≡ compared (Tree.structurally_eq b c)
by_trees h k = rw (h, k)

compare-of : (ls lts rs rts : List ℕ) → compare ls lts rs rts ≡ compare_by (build is_expression ls lts) (build is_expression rs rts)
unfolding compare
compare-of ls lts rs rts = refl

equality-of : (b c : Branch) → Tree.structurally_eq b c ≡ same_branch b c
unfolding Tree.structurally_eq
equality-of b c = refl

pub compares_by_the-arms : ComparesByTheArms
compares_by_the-arms e f more rest a b =
    compare-of _ _ _ _ ∙ by_trees (built e more a) (built f rest b) ∙ ap compared (equality-of (expression_branch e) (expression_branch f) ∙ arms e f)
