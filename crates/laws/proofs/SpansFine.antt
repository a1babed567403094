-- The spans of a set that nothing stops, in order, are read back as they are.
-- Assumes nothing.
use Prim.Native.Nat.{ℕ, zero, suc, ◌+◌, ◌-◌, ◌<◌, ◌≤◌}
use native.Mathlib.Omega.{arith}
use borrow.Author.Tests.{leb-true, leb-false, lt-leb}
use mathlib.Core.Path.{◌≡◌, refl, ap, sym, ◌∙◌}
use mathlib.Core.Bool.{Bool, true, false, ◌&&◌, not, and_comm}
use mathlib.Core.List.{List, [], ◌∷◌}
use mathlib.Core.Option.{Option, none, some}
use lib.Dec.{leb, ltb}
use Rattle.basics.specs.Basics.{if◌then◌otherwise◌}
use Rattle.basics.proofs.Tests.{cases, impossible, both_false}
use Rattle.error.specs.Causes.{overlapping_span}
use Rattle.characters.specs.Spans.{Span, ◌upto◌}
use Rattle.characters.specs.Utf8.{is_scalar}
use Rattle.lexer.specs.Escapes.{Atom}
use Rattle.lexer.specs.Sets.{dash, range_end, span_by, written, overlap, overlaps_one, fault_from, fault, insert, sorted}
use Rattle.lexer.specs.Promise.{Ascending, a-none, a-more, later}
use Rattle.lexer.proofs.Ordered.{apart-before, insert-here, insert-on, insert-none, met-insert, insert-ascending}
use Rattle.lexer.proofs.Faults.{fine, fault-none, fault-on, fault-block}
use Rattle.spelling.proofs.Back.{Spelled, no_spans, one_span}
use Rattle.laws.proofs.Fine.{ReadBack}

-- ------------------------------------------------------------------ what nothing stops has no overlap

overlap-swap : (s t : Span) → overlap s t ≡ overlap t s
overlap-swap s t = and_comm (ltb s.first t.past) (ltb t.first s.past)

-- s is one of the spans
data Among (s : Span) : List Span → Type 0 where
  among_first : {ss : List Span} → Among s (s ∷ ss)
  among_later : {t : Span} {ss : List Span} → Among s ss → Among s (t ∷ ss)

unmet-one : (t s : Span) {ss : List Span} → Among s ss → overlaps_one t ss ≡ false → overlap t s ≡ false
unfolding overlaps_one
unmet-one t s (among_first {ss}) h = (both_false (overlap t s) (overlaps_one t ss) h).0
unmet-one t s (among_later {t = u} {ss} a) h = unmet-one t s a (both_false (overlap t u) (overlaps_one t ss) h).1

-- a span before meets none of those after it
unmet-after : (s : Span) (ss before : List Span) → Among s before → fault_from before ss ≡ none → overlaps_one s ss ≡ false
unfolding overlaps_one
unmet-after s [] before a h = refl
unmet-after s (t ∷ ss) before a h =
    let f = fine before t ss h in
    rw (overlap-swap s t, unmet-one t s a f.unmet, unmet-after s ss (t ∷ before) (among_later a) f.rest)

-- without those before, nothing stops it either
alone : (before ss : List Span) → fault_from before ss ≡ none → fault ss ≡ none
alone before ss h = go (later before ss) (sym (fault-block before ss) ∙ h)
  where
    go : (b : Bool) → (if b then some overlapping_span otherwise fault ss) ≡ none → fault ss ≡ none
    go true e = impossible (cc)
    go false e = e

met-more : (s t : Span) (ss us : List Span) → overlaps_one s ss ≡ overlaps_one s us → overlaps_one s (t ∷ ss) ≡ overlaps_one s (t ∷ us)
unfolding overlaps_one
met-more s t ss us e = rw e

met-sorted : (s : Span) (ss : List Span) → overlaps_one s (sorted ss) ≡ overlaps_one s ss
unfolding sorted
met-sorted s [] = refl
met-sorted s (t ∷ ss) = met-insert s t (sorted ss) ∙ met-more s t (sorted ss) ss (met-sorted s ss)

-- ------------------------------------------------------------------ in order

sorted_ascends : (ss : List Span) → fault ss ≡ none → Ascending 0 (sorted ss)
unfolding sorted
sorted_ascends [] h = a-none
sorted_ascends (s ∷ ss) h =
    let f = fine [] s ss h in
    insert-ascending s (sorted_ascends ss (alone (s ∷ []) ss f.rest)) (omega arith) f.forth (met-sorted s ss ∙ unmet-after s ss (s ∷ []) among_first f.rest)

insert-first : (s : Span) {ss : List Span} → Ascending s.past ss → s.first < s.past → insert s ss ≡ s ∷ ss
insert-first s a-none h = insert-none s
insert-first s (a-more {s = t} {ss} l f q) h = insert-here s t ss (omega arith)

ascends_sorted : {lo : ℕ} {ss : List Span} → Ascending lo ss → sorted ss ≡ ss
unfolding sorted
ascends_sorted a-none = refl
ascends_sorted (a-more {s = s} {ss} l f q) = rw (ascends_sorted q) (insert-first s q f)

-- all before end at or before a code
data Below (lo : ℕ) : List Span → Type 0 where
  below_none : Below lo []
  below_more : {s : Span} {ss : List Span} → s.past ≤ lo → Below lo ss → Below lo (s ∷ ss)

below-unmet : (s : Span) {lo : ℕ} {before : List Span} → Below lo before → lo ≤ s.first → overlaps_one s before ≡ false
unfolding overlaps_one
below-unmet s below_none h = refl
below-unmet s (below_more {s = t} p q) h = rw (apart-before s t (omega arith), below-unmet s q h)

below_up : {lo hi : ℕ} {ss : List Span} → lo ≤ hi → Below lo ss → Below hi ss
below_up h below_none = below_none
below_up {hi = hi} h (below_more {s = s} p q) = let g : s.past ≤ hi = omega arith in below_more g (below_up h q)

ascends_fault : {lo : ℕ} {ss : List Span} → Ascending lo ss → {before : List Span} → Below lo before → fault_from before ss ≡ none
ascends_fault a-none {before} b = fault-none before
ascends_fault (a-more {s = s} {ss} l f q) {before} b =
    fault-on before s ss (lt-leb s.past s.first f) (below-unmet s b l) ∙ ascends_fault q (below_more {s = s} (omega arith) (below_up {hi = s.past} (omega arith) b))

-- ------------------------------------------------------------------ spans that can be spelled

spelled-insert : (s : Span) → s.first < s.past → is_scalar s.first ≡ true → is_scalar (s.past - 1) ≡ true → {ss : List Span} → Spelled ss → Spelled (insert s ss)
spelled-insert s f a b no_spans = rw (insert-none s) (one_span f a b no_spans)
spelled-insert s f a b (one_span {s = t} {ss} g c d q) =
    cases (leb s.first t.first) (λ e. rw (insert-here s t ss (leb-true _ _ e)) (one_span f a b (one_span g c d q)))
    (λ e. rw (insert-on s t ss (leb-false _ _ e)) (one_span g c d (spelled-insert s f a b q)))

spelled-sorted : {ss : List Span} → Spelled ss → Spelled (sorted ss)
unfolding sorted
spelled-sorted no_spans = no_spans
spelled-sorted (one_span f a b q) = spelled-insert _ f a b (spelled-sorted q)

-- the spans of atoms that are characters
pub data ScalarAtoms : List Atom → Type 0 where
  no_atoms : ScalarAtoms []
  more-atoms : {a : Atom} {l : List Atom} → is_scalar a.char ≡ true → ScalarAtoms l → ScalarAtoms (a ∷ l)

data ScalarEnds : List Span → Type 0 where
  no_ends : ScalarEnds []
  more-ends : {s : Span} {ss : List Span} → is_scalar s.first ≡ true → is_scalar (s.past - 1) ≡ true → ScalarEnds ss → ScalarEnds (s ∷ ss)

less_one : (n : ℕ) → n + 1 - 1 ≡ n
less_one n = omega arith

range_scalar : (a : Atom) {l : List Atom} → ScalarAtoms l → (z : ℕ) → range_end a l ≡ some z → is_scalar z ≡ true
unfolding range_end
range_scalar a no_atoms z e = impossible (cc)
range_scalar a (more-atoms s no_atoms) z e = impossible (cc)
range_scalar a (more-atoms {a = b} s (more-atoms {a = c} t q)) z e = go (not (dash a) && dash b) e
  where
    go : (x : Bool) → (if x then some c.char otherwise none) ≡ some z → is_scalar z ≡ true
    go true f = let w : c.char ≡ z = cc in ap is_scalar (sym w) ∙ t
    go false f = impossible (cc)

written-ends : {l : List Atom} → ScalarAtoms l → (k : ℕ) → ScalarEnds (written l k)
unfolding written
written-ends no_atoms k = no_ends
written-ends (more-atoms s t) (suc k) = written-ends t k
written-ends (more-atoms {a} {l} s t) zero = go l t (λ k. written-ends t k)
  where
    by : (o : Option ℕ) → ((z : ℕ) → o ≡ some z → is_scalar z ≡ true) → {rest : ℕ → List Span} → ((k : ℕ) → ScalarEnds (rest k)) → ScalarEnds (span_by a o rest)
    by none h r = more-ends {s = a.char upto (a.char + 1)} s (rw (less_one a.char) s) (r 0)
    by (some z) h r = more-ends {s = a.char upto (z + 1)} s (rw (less_one z) (h z refl)) (r 2)

    ends : {l : List Atom} → ScalarAtoms l → (z : ℕ) → range_end a l ≡ some z → is_scalar z ≡ true
    ends t z e = range_scalar a t z e

    go : (l : List Atom) → ScalarAtoms l → ((k : ℕ) → ScalarEnds (written l k)) → ScalarEnds (span_by a (range_end a l) (λ k. written l k))
    go l t r = by (range_end a l) (ends t) r

spelled-of : {ss : List Span} → ScalarEnds ss → (before : List Span) → fault_from before ss ≡ none → Spelled ss
spelled-of no_ends before h = no_spans
spelled-of (more-ends {s} {ss} a b q) before h = let f = fine before s ss h in one_span f.forth a b (spelled-of q (s ∷ before) f.rest)

-- the spans of a set that nothing stops
pub read_back : {l : List Atom} → ScalarAtoms l → fault (written l 0) ≡ none → ReadBack (sorted (written l 0))
read_back {l} t h =
    let a = sorted_ascends (written l 0) h in
    record { sound = ascends_fault a below_none; ordered = ascends_sorted a; spelled = spelled-sorted (spelled-of (written-ends t 0) [] h) }
