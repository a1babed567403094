-- The trees of expressions whose spans are spans fit, so that their records and texts are one tree.
-- Assumes nothing.
use Prim.Native.Nat.{ℕ}
use mathlib.Core.Path.{◌≡◌, refl}
use mathlib.Core.Bool.{Bool, true, false, ◌&&◌, ◌||◌, or-true}
use mathlib.Core.List.{List, [], ◌∷◌, ◌++◌, map, reverse}
use mathlib.Core.Option.{some}
use lib.Dec.{eqb, leb, ltb}
use lib.ListN.{length}
use Rattle.basics.specs.Basics.{among}
use Rattle.characters.specs.Spans.{Span}
use Rattle.characters.specs.Utf8.{encode_all}
use Rattle.tree.specs.Syntax.{PropPart, value, name, Prop, ConflictMarkerKind, ambiguity, precedence, ConflictMarker, SpecializeKind, extend, specialize, RepeatKind, optional, zero_or_more, one_or_more, CharClass, ascii_letter, ascii_lowercase, ascii_uppercase, digit, whitespace, eof, Expression, special, inline, choice, sequence, empty, repeat, set, any, class, Expressions, []ᴱ, ◌∷ᴱ◌, Slots, last, slot}
use Rattle.tree.specs.CharClasses.{class_value}
use Rattle.tree.specs.Records.{Row, Branch, Branches, []ᴮ, ◌∷ᴮ◌, records, texts, words}
use Rattle.tree.specs.Stored.{full, named, valued, plain, leaf, each, flag, part_branch, prop_branch, marker_number, marker_branch, span_branch, specialize_value, repeat_value, expression_branch, expression_branches, slot_branches}
use Rattle.tree.specs.OneTree.{is_kind, is_expression, expression_kinds, has_text, values_fit, Group, many, one, groups_of, without, matches, kind_of, build}
use Rattle.tree.proofs.Encoded.{stacked, FitsRow, Fits, FitsAll, encoded}
use Rattle.tree.proofs.Upto.{kinds_upon, kinds-upon, Upto, upto-none, upto-more, upto-one, AllOf, all_of, Reaches, many-each}

-- ------------------------------------------------------------------ spans that are spans

abbrev pub FineSpan : Span → Type 0
FineSpan s = (ltb s.first s.past && leb s.past 1114112) ≡ true

unfoldable mutual
  pub Fine : Expression ℕ → Type 0
  Fine (Expression.name p t es) = FineAll es
  Fine (special p k ps e f) = Fine e × Fine f
  Fine (inline p t ps e) = Fine e
  Fine (choice p es) = FineAll es
  Fine (sequence p s) = FineSlots s
  Fine (empty p) = Unit
  Fine (repeat p k e) = Fine e
  Fine (Expression.literal p t) = Unit
  Fine (set p i ss) = AllOf FineSpan ss
  Fine (any p) = Unit
  Fine (class p c) = Unit

  pub FineAll : Expressions ℕ → Type 0
  FineAll []ᴱ = Unit
  FineAll (e ∷ᴱ es) = Fine e × FineAll es

  pub FineSlots : Slots ℕ → Type 0
  FineSlots (last ms) = Unit
  FineSlots (slot ms e s) = Fine e × FineSlots s

-- ------------------------------------------------------------------ rows

-- a row over children that match its groups, `fin`, last first
pub row_fits : (r : Row) (fin : List Group) (bs : Branches) → is_kind r.kind ≡ true → values_fit r.kind r.value r.second ≡ true → reverse (groups_of r.kind r.value) ≡ fin
    → Reaches fin bs [] → (eqb (length r.text) 0 || has_text r.kind) ≡ true → FitsRow r (map kind_of (stacked bs []))
row_fits r fin bs k v g c t =
    record { kind = k; values = v; children = rw (kinds-upon bs [], g) c; text = t }

pub has : (n : ℕ) (b : Bool) → b ≡ true → (eqb n 0 || b) ≡ true
has n b e = rw e (or-true (eqb n 0))

pub flag-fits : (b : Bool) → leb (flag b) 1 ≡ true
flag-fits true = refl
flag-fits false = refl

no_children : (fin : List Group) → matches fin [] ≡ true → Reaches fin []ᴮ []
unfolding kinds_upon
no_children fin e = e

pub fits_each : {A : Type 0} (P : A → Type 0) (f : A → Branch) → ((x : A) → P x → Fits (f x)) → (xs : List A) (bs : Branches) → AllOf P xs → FitsAll bs → FitsAll (each f xs bs)
unfolding each Fits AllOf
fits_each P f h [] bs a b = b
fits_each P f h (x ∷ xs) bs (p, a) b = (h x p, fits_each P f h xs bs a b)

pub fits-every : {A : Type 0} (f : A → Branch) → ((x : A) → Fits (f x)) → (xs : List A) (bs : Branches) → FitsAll bs → FitsAll (each f xs bs)
fits-every f h xs bs b = fits_each (λ x. Unit {0}) f (λ x u. h x) xs bs (all_of (λ x. Unit {0}) (λ x. tt) xs) b

-- the branches of a list, the only group
pub only-many : {A : Type 0} (ks : List ℕ) (f : A → Branch) (xs : List A) → AllOf (λ x. among ks (kind_of (f x)) ≡ true) xs → Reaches (many ks ∷ []) (each f xs []ᴮ) []
unfolding kinds_upon
only-many ks f xs h = many-each ks (many ks ∷ []) f xs []ᴮ h upto-none refl (λ ds u. u.matched)

-- ------------------------------------------------------------------ props, markers, spans

pub leaf-fits : (r : Row) → is_kind r.kind ≡ true → values_fit r.kind r.value r.second ≡ true → matches (reverse (groups_of r.kind r.value)) [] ≡ true
    → (eqb (length r.text) 0 || has_text r.kind) ≡ true → Fits (leaf r)
unfolding Fits
leaf-fits r k v g t = (row_fits r (reverse (groups_of r.kind r.value)) []ᴮ k v refl (no_children (reverse (groups_of r.kind r.value)) g) t, tt)

-- a name alone, of a kind that has a text, no value and no children
pub named-fits : (k p : ℕ) (t : List ℕ) → is_kind k ≡ true → values_fit k 0 0 ≡ true → matches (reverse (groups_of k 0)) [] ≡ true → has_text k ≡ true → Fits (leaf (named k p t))
named-fits k p t i v g h = leaf-fits (named k p t) i v g (has (length (encode_all t)) (has_text k) h)

part-fits : (x : PropPart ℕ) → Fits (part_branch x)
unfolding values_fit groups_of matches
part-fits (value p t) = named-fits 6 p t refl refl refl refl
part-fits (name p t) = named-fits 7 p t refl refl refl refl

part-kind : (x : PropPart ℕ) → among (6 ∷ 7 ∷ []) (kind_of (part_branch x)) ≡ true
part-kind (value p t) = refl
part-kind (name p t) = refl

pub prop-fits : (x : Prop ℕ) → Fits (prop_branch x)
unfolding Fits values_fit groups_of
prop-fits x = (
  row_fits (full 5 x.start x.name (flag x.at)) (many (6 ∷ 7 ∷ []) ∷ []) (each part_branch x.value []ᴮ) refl (rw (flag-fits x.at)) refl
      (only-many (6 ∷ 7 ∷ []) part_branch x.value (all_of (λ y. among (6 ∷ 7 ∷ []) (kind_of (part_branch y)) ≡ true) part-kind x.value)) (has (length (encode_all x.name)) true refl),
  fits-every part_branch part-fits x.value []ᴮ tt,
)

pub props_fit : (ps : List (Prop ℕ)) (bs : Branches) → FitsAll bs → FitsAll (each prop_branch ps bs)
props_fit ps bs b = fits-every prop_branch prop-fits ps bs b

-- props first, and then others
pub props_reach : (fin : List Group) (ps : List (Prop ℕ)) (bs : Branches) → ((ds : List ℕ) → Upto (many (5 ∷ []) ∷ []) (5 ∷ []) ds → Reaches fin bs ds) → Reaches fin (each prop_branch ps bs) []
props_reach fin ps bs go =
    many-each (5 ∷ []) fin prop_branch ps bs (all_of (λ y. among (5 ∷ []) (kind_of (prop_branch y)) ≡ true) (λ y. refl) ps) upto-none refl go

mark-fits : (k : ConflictMarkerKind) (p : ℕ) (t : List ℕ) → Fits (leaf (named (marker_number k) p t))
unfolding values_fit groups_of matches
mark-fits ambiguity p t = named-fits 41 p t refl refl refl refl
mark-fits precedence p t = named-fits 42 p t refl refl refl refl

marker-fits : (m : ConflictMarker ℕ) → Fits (marker_branch m)
marker-fits m = mark-fits m.kind m.start m.name

abbrev slot_kinds : List ℕ
slot_kinds = 41 ∷ 42 ∷ expression_kinds

marker-kind : (k : ConflictMarkerKind) → among slot_kinds (marker_number k) ≡ true
marker-kind ambiguity = refl
marker-kind precedence = refl

span_fits : (p : ℕ) (s : Span) → FineSpan s → Fits (span_branch p s)
unfolding values_fit groups_of matches
span_fits p s h = leaf-fits (record { kind = 38; start = p; text = []; value = s.first; second = s.past }) refl h refl refl

-- ------------------------------------------------------------------ expressions

pub expression-kind : (e : Expression ℕ) → among expression_kinds (kind_of (expression_branch e)) ≡ true
unfolding expression_branch
expression-kind (Expression.name p t es) = refl
expression-kind (special p k ps e f) = refl
expression-kind (inline p t ps e) = refl
expression-kind (choice p es) = refl
expression-kind (sequence p s) = refl
expression-kind (empty p) = refl
expression-kind (repeat p k e) = refl
expression-kind (Expression.literal p t) = refl
expression-kind (set p i ss) = refl
expression-kind (any p) = refl
expression-kind (class p c) = refl

-- one expression, the last child
pub last-expression : {gs : List Group} {hs ds : List ℕ} (e : Expression ℕ) → Upto gs hs ds → Reaches (one expression_kinds ∷ gs) (expression_branch e ∷ᴮ []ᴮ) ds
unfolding kinds_upon
last-expression e u = (upto-one expression_kinds (kind_of (expression_branch e)) (expression-kind e) u).matched

-- two
last-expressions : {gs : List Group} {hs ds : List ℕ} (e f : Expression ℕ) → Upto gs hs ds
    → Reaches (one expression_kinds ∷ one expression_kinds ∷ gs) (expression_branch e ∷ᴮ expression_branch f ∷ᴮ []ᴮ) ds
unfolding kinds_upon
last-expressions e f u =
    (upto-one expression_kinds (kind_of (expression_branch f)) (expression-kind f) (upto-one expression_kinds (kind_of (expression_branch e)) (expression-kind e) u)).matched

-- as many as there are
all-expressions : {ds : List ℕ} (es : Expressions ℕ) → Upto (many expression_kinds ∷ []) expression_kinds ds → Reaches (many expression_kinds ∷ []) (expression_branches es) ds
unfolding kinds_upon expression_branch
all-expressions {ds = ds} []ᴱ u = u.matched
all-expressions {ds = ds} (e ∷ᴱ es) u =
    all-expressions {ds = kind_of (expression_branch e) ∷ ds} es (upto-more expression_kinds (kind_of (expression_branch e)) (expression-kind e) (expression-kind e) u)

slot-kind : (e : Expression ℕ) → among slot_kinds (kind_of (expression_branch e)) ≡ true
slot-kind e = rw (expression-kind e) (or_true_right (eqb (kind_of (expression_branch e)) 41) (eqb (kind_of (expression_branch e)) 42))
  where
    or_true_right : (a b : Bool) → (a || (b || true)) ≡ true
    or_true_right true b = refl
    or_true_right false true = refl
    or_true_right false false = refl

-- markers and expressions by turns
all-markers : {ds : List ℕ} (ms : List (ConflictMarker ℕ)) (bs : Branches) → Upto (many slot_kinds ∷ []) slot_kinds ds
    → ((cs : List ℕ) → Upto (many slot_kinds ∷ []) slot_kinds cs → Reaches (many slot_kinds ∷ []) bs cs) → Reaches (many slot_kinds ∷ []) (each marker_branch ms bs) ds
unfolding kinds_upon each
all-markers {ds} [] bs u go = go ds u
all-markers (m ∷ ms) bs u go = all-markers ms bs (upto-more slot_kinds (marker_number m.kind) (marker-kind m.kind) (marker-kind m.kind) u) go

all_slots : {ds : List ℕ} (s : Slots ℕ) → Upto (many slot_kinds ∷ []) slot_kinds ds → Reaches (many slot_kinds ∷ []) (slot_branches s) ds
unfolding kinds_upon expression_branch
all_slots {ds = ds} (last ms) u = all-markers ms []ᴮ u (λ cs v. v.matched)
all_slots {ds = ds} (slot ms e s) u =
    all-markers ms (expression_branch e ∷ᴮ slot_branches s) u (λ cs v. all_slots {ds = kind_of (expression_branch e) ∷ cs} s (upto-more slot_kinds (kind_of (expression_branch e)) (slot-kind e) (slot-kind e) v))

pub specialize-fits : (k : SpecializeKind) (n : ℕ) → n ≡ 18 → values_fit n (specialize_value k) 0 ≡ true
unfolding values_fit
specialize-fits extend n e = rw e
specialize-fits specialize n e = rw e

special-fits : (k : SpecializeKind) → values_fit 31 (specialize_value k) 0 ≡ true
unfolding values_fit
special-fits extend = refl
special-fits specialize = refl

repeat-fits : (k : RepeatKind) → values_fit 35 (repeat_value k) 0 ≡ true
unfolding values_fit
repeat-fits optional = refl
repeat-fits zero_or_more = refl
repeat-fits one_or_more = refl

class-fits : (c : CharClass) → values_fit 40 (class_value c) 0 ≡ true
unfolding values_fit
class-fits ascii_letter = refl
class-fits ascii_lowercase = refl
class-fits ascii_uppercase = refl
class-fits digit = refl
class-fits whitespace = refl
class-fits eof = refl

set-fits : (i : Bool) → values_fit 37 (flag i) 0 ≡ true
unfolding values_fit
set-fits true = refl
set-fits false = refl

any-many : (ks : List ℕ) → Upto (many ks ∷ []) ks []
unfolding matches without
any-many ks = record { matched = refl; heads = refl }

mutual
  unfolding Fits Fine expression_branch values_fit groups_of matches encode_all

  pub expression-fits : (e : Expression ℕ) → Fine e → Fits (expression_branch e)
  expression-fits (Expression.name p t es) h =
      (row_fits (named 30 p t) (many expression_kinds ∷ []) (expression_branches es) refl refl refl (all-expressions es (any-many expression_kinds)) (has (length (encode_all t)) true refl), expressions_fit es h)
  expression-fits (special p k ps e f) (a, b) = (
    row_fits (valued 31 p (specialize_value k)) (one expression_kinds ∷ one expression_kinds ∷ many (5 ∷ []) ∷ []) (each prop_branch ps (expression_branch e ∷ᴮ expression_branch f ∷ᴮ []ᴮ)) refl (special-fits k) refl
        (props_reach (one expression_kinds ∷ one expression_kinds ∷ many (5 ∷ []) ∷ []) ps (expression_branch e ∷ᴮ expression_branch f ∷ᴮ []ᴮ) (λ ds u. last-expressions e f u)) refl,
    props_fit ps (expression_branch e ∷ᴮ expression_branch f ∷ᴮ []ᴮ) (expression-fits e a, (expression-fits f b, tt)),
  )
  expression-fits (inline p t ps e) h = (
    row_fits (named 32 p t) (one expression_kinds ∷ many (5 ∷ []) ∷ []) (each prop_branch ps (expression_branch e ∷ᴮ []ᴮ)) refl refl refl
        (props_reach (one expression_kinds ∷ many (5 ∷ []) ∷ []) ps (expression_branch e ∷ᴮ []ᴮ) (λ ds u. last-expression e u)) (has (length (encode_all t)) true refl),
    props_fit ps (expression_branch e ∷ᴮ []ᴮ) (expression-fits e h, tt),
  )
  expression-fits (choice p es) h =
      (row_fits (plain 33 p) (many expression_kinds ∷ []) (expression_branches es) refl refl refl (all-expressions es (any-many expression_kinds)) refl, expressions_fit es h)
  expression-fits (sequence p s) h =
      (row_fits (plain 34 p) (many slot_kinds ∷ []) (slot_branches s) refl refl refl (all_slots s (any-many slot_kinds)) refl, slots_fit s h)
  expression-fits (empty p) h = leaf-fits (valued 34 p 1) refl refl refl refl
  expression-fits (repeat p k e) h =
      (row_fits (valued 35 p (repeat_value k)) (one expression_kinds ∷ []) (expression_branch e ∷ᴮ []ᴮ) refl (repeat-fits k) refl (last-expression e upto-none) refl, (expression-fits e h, tt))
  expression-fits (Expression.literal p t) h = named-fits 36 p t refl refl refl refl
  expression-fits (set p i ss) h = (
    row_fits (valued 37 p (flag i)) (many (38 ∷ []) ∷ []) (each (span_branch p) ss []ᴮ) refl (set-fits i) refl
        (only-many (38 ∷ []) (span_branch p) ss (all_of (λ y. among (38 ∷ []) (kind_of (span_branch p y)) ≡ true) (λ y. refl) ss)) refl,
    fits_each FineSpan (span_branch p) (span_fits p) ss []ᴮ h tt,
  )
  expression-fits (any p) h = leaf-fits (plain 39 p) refl refl refl refl
  expression-fits (class p c) h = leaf-fits (valued 40 p (class_value c)) refl (class-fits c) refl refl

  pub expressions_fit : (es : Expressions ℕ) → FineAll es → FitsAll (expression_branches es)
  expressions_fit []ᴱ h = tt
  expressions_fit (e ∷ᴱ es) (a, b) = (expression-fits e a, expressions_fit es b)

  pub slots_fit : (s : Slots ℕ) → FineSlots s → FitsAll (slot_branches s)
  slots_fit (last ms) h = fits-every marker_branch marker-fits ms []ᴮ tt
  slots_fit (slot ms e s) (a, b) = fits-every marker_branch marker-fits ms (expression_branch e ∷ᴮ slot_branches s) (expression-fits e a, slots_fit s b)

-- the records and texts of an expression are one tree
pub expression-encoded : (e : Expression ℕ) (more : List ℕ) → Fine e → build is_expression (words (records (expression_branch e))) (texts (expression_branch e) ++ more) ≡ some (expression_branch e)
expression-encoded e more h = encoded is_expression (expression_branch e) more (expression-fits e h) (expression-kind e)
