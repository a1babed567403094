-- How the spans of a body go on at a place.
-- Assumes nothing.
use mathlib.Core.Path.{◌≡◌, refl, ◌∙◌, ap, subst}
use mathlib.Core.Bool.{Bool, true, false, not, and-false}
use mathlib.Core.List.{List, [], ◌∷◌}
use mathlib.Core.Option.{none}
use Prim.Native.Nat.{ℕ, suc, ◌+◌, ◌≤◌, ◌<◌}
use native.Mathlib.Omega.{arith}
use lib.Dec.{eqb}
use lib.ListN.{length}
use borrow.Author.Tests.{ne_eqb}
use Rattle.std.proofs.Common.{Some, None}
use Rattle.std.proofs.Common as Std
use Rattle.lexer.specs.declared.escapes.Atom as Read
use Rattle.lexer.specs.declared.sets.Span.{Span}
use Rattle.basics.specs.Basics.{is}
use Rattle.basics.proofs.Tests.{cases}
use Rattle.characters.specs.Utf8.{codes}
use Rattle.characters.specs.Places.{decode_at, chars_at, peek_at}
use Rattle.characters.proofs.Chars.{codes-on, codes_off, peek_on, next-head}
use Rattle.characters.specs.Spans.{◌upto◌}
use Rattle.characters.proofs.Encode.{scalar-top, width_some}
use Rattle.lexer.specs.Escapes.{Atom, escape, escaped_by, atoms_from}
use Rattle.lexer.specs.Sets.{dash, range_end, written, spans}
use Rattle.lexer.specs.Promise.{atoms_at, ReadsAtom, spans_at, range_answer, RangePlaced, ReadsRange}
use Rattle.lexer.proofs.Escaped.{value_on, atoms-on, atoms-plain, atoms-escaped}

-- ------------------------------------------------------------------ the spans of atoms

pub written_one : (a : Atom) (l : List Atom) → range_end a l ≡ none → written (a ∷ l) 0 ≡ a.char upto (a.char + 1) ∷ written l 0
unfolding written
written_one a l e = rw e

pub written_range : (a b z : Atom) (l : List Atom) → dash a ≡ false → dash b ≡ true
    → written (a ∷ b ∷ z ∷ l) 0 ≡ a.char upto (z.char + 1) ∷ written l 0
unfolding written range_end
written_range a b z l e f = rw (e, f)

dash-none : (a : Atom) (l : List Atom) → dash a ≡ true → range_end a l ≡ none
unfolding range_end
dash-none a [] e = refl
dash-none a (b ∷ []) e = refl
dash-none a (b ∷ z ∷ l) e = rw e

pub other_none : (a b : Atom) (l : List Atom) → dash b ≡ false → range_end a (b ∷ l) ≡ none
unfolding range_end
other_none a b [] e = refl
other_none a b (z ∷ l) e = rw (e, and-false (not (dash a)))

-- ------------------------------------------------------------------ the first span at a place

abbrev span : ℕ → ℕ → Span
span a b = record { first = a; past = b }

-- an atom at a place
pub record Stands (s : List ℕ) (at c : ℕ) (x : Bool) (end : ℕ) : Type 0 where
  pub forth : at < end
  pub inside : end ≤ length s
  pub small : c < 0x110000
  pub atom : atoms_at s at ≡ record { char = c; escaped = x } ∷ atoms_at s end

pub atom-of : (s : List ℕ) (at : ℕ) (r : Std.Option Read.Atom) (a : Read.Atom) → ReadsAtom s at r → r ≡ Some a → Stands s at a.code a.escaped a.end
atom-of s at r a h e =
    let v = value_on s at r a h e in
    let f = v.forth in
    let w = width_some a.code in
    record { forth = omega arith; inside = v.inside; small = scalar-top a.code v.scalar; atom = atoms-on s at r a h e }

abbrev atom_of : ℕ → Bool → Atom
atom_of c x = record { char = c; escaped = x }

cases-escaped : (a : Atom) (l : List ℕ) (rest : ℕ → List Atom) → range_end a (escaped_by l rest) ≡ none
unfolding range_end
cases-escaped a [] rest = refl
cases-escaped a (e ∷ cs) rest =
    other_none a (record { char = (escape e cs).char; escaped = true }) (rest (suc (escape e cs).taken)) (and-false (is "-" (escape e cs).char))

-- a dash that stands there raw is the next atom, and no other atom is a dash
dash-at : (s : List ℕ) (at : ℕ) → peek_at s at ≡ 0x2D → atoms_at s at ≡ atom_of 0x2D false ∷ atoms_at s (at + 1)
unfolding atoms_at
dash-at s at h = ap (λ (l : List ℕ). atoms_from l 0) (next-head s at 0x2D (omega arith) (omega arith) h).chars ∙ atoms-plain 0x2D (chars_at s (at + 1)) refl

none_left : (a : Atom) → range_end a (atoms_from [] 0) ≡ none
unfolding range_end atoms_from
none_left a = refl

no_dash : (s : List ℕ) (at : ℕ) (a : Atom) → (peek_at s at ≡ 0x2D → ⊥) → range_end a (atoms_at s at) ≡ none
unfolding atoms_at
no_dash s at a h = by (decode_at s at) refl
  where
    by : (ch : Std.Option (ℕ × ℕ)) → decode_at s at ≡ ch → range_end a (atoms_from (chars_at s at) 0) ≡ none
    by None e = rw (codes_off s at e) (none_left a)
    by (Some (c, n)) e =
        rw (codes-on s at e) (cases (eqb c 0x5C) (λ q. rw (atoms-escaped c (chars_at s (at + n)) q) (cases-escaped a (chars_at s (at + n)) (λ k. atoms_from (chars_at s (at + n)) k)))
        (λ q. rw (atoms-plain c (chars_at s (at + n)) q)
        (other_none a (atom_of c false) (atoms_from (chars_at s (at + n)) 0) (rw (ne_eqb c 0x2D (λ z. h (peek_on s at e ∙ z)))))))

module _ (s : List ℕ) (at : ℕ) where
  pub range_none : atoms_at s at ≡ [] → ReadsRange s at None
  unfolding spans_at written
  range_none e = record { spans = rw e; placed = tt }

  module _ (a after : ℕ) (x : Bool) (h : Stands s at a x after) where
    single : range_end (atom_of a x) (atoms_at s after) ≡ none → ReadsRange s at (Some (span a (a + 1), after))
    unfolding spans_at
    single e =
        record { spans = ap (λ (l : List Atom). written l 0) h.atom ∙ written_one (atom_of a x) (atoms_at s after) e; placed = (h.forth, h.inside) }

    pub range_dash : dash (atom_of a x) ≡ true → ReadsRange s at (Some (span a (a + 1), after))
    range_dash e = single (dash-none (atom_of a x) (atoms_at s after) e)

    -- no dash follows
    pub range_single : (peek_at s after ≡ 0x2D → ⊥) → ReadsRange s at (Some (span a (a + 1), after))
    range_single h = single (no_dash s after (atom_of a x) h)

    -- a dash follows
    module _ (g : peek_at s after ≡ 0x2D) where
      dashed : atoms_at s after ≡ atom_of 0x2D false ∷ atoms_at s (after + 1)
      dashed = dash-at s after g

      pub range_short : atoms_at s (after + 1) ≡ [] → ReadsRange s at (Some (span a (a + 1), after))
      unfolding range_end
      range_short e = single (rw (dashed, e))

      pub range_whole : (z end : ℕ) (w : Bool) → dash (atom_of a x) ≡ false → Stands s (after + 1) z w end → ReadsRange s at (Some (span a (z + 1), end))
      unfolding spans_at
      range_whole z end w e k =
          let p : atoms_at s at ≡ atom_of a x ∷ atom_of 0x2D false ∷ atom_of z w ∷ atoms_at s end =
          h.atom ∙ ap (λ (l : List Atom). atom_of a x ∷ l) (dashed ∙ ap (λ (l : List Atom). atom_of 0x2D false ∷ l) k.atom) in
          let h₁ = h.forth in
          let h₃ = k.forth in
          record {
            spans = ap (λ (l : List Atom). written l 0) p ∙ written_range (atom_of a x) (atom_of 0x2D false) (atom_of z w) (atoms_at s end) e refl;
            placed = (omega arith, k.inside);
          }

-- ------------------------------------------------------------------ the next span

pub record Span-at (s : List ℕ) (at first past end : ℕ) : Type 0 where
  pub forth : at < end
  pub inside : end ≤ length s
  pub span : spans_at s at ≡ first upto past ∷ spans_at s end

module _ (s : List ℕ) (at : ℕ) (r : Std.Option (Span × ℕ)) (h : ReadsRange s at r) where
  pub span_of : (sp : Span) (end : ℕ) → r ≡ Some (sp, end) → Span-at s at sp.first sp.past end
  span_of sp end e =
      let q = subst (RangePlaced s at) e h.placed in record { forth = q.0; inside = q.1; span = h.spans ∙ ap (range_answer s) e }

  pub span_off : r ≡ None → spans_at s at ≡ []
  span_off e = h.spans ∙ ap (range_answer s) e

pub spans_all : (s : List ℕ) → spans_at s 0 ≡ spans (codes s)
unfolding spans_at atoms_at
spans_all s = refl
