-- A text that passes the check is the bytes of its characters.
-- Assumes nothing.
use mathlib.Core.Path.{◌≡◌, refl, sym, ◌∙◌, ap}
use mathlib.Core.List.{List, ◌++◌}
use Prim.Native.Nat.{ℕ, zero, suc, ◌+◌, ◌-◌, ◌≤◌, ◌<◌}
use native.Mathlib.Omega.{arith}
use native.Mathlib.Decide.{dec_lt}
use lib.ListN.{length, drop, drop_of_length-le}
use lib.Seq.{drop-drop}
use Rattle.std.proofs.Common.{Option, Some, None, Ok, Err}
use Rattle.std.proofs.Common.{Result}
use Rattle.characters.specs.declared.IllFormed.{IllFormed}
use Rattle.characters.specs.Utf8.{ill_at}
use Rattle.basics.proofs.Tests.{impossible}
use Rattle.characters.specs.Utf8.{encode, encode_all, codes, check_from, check}
use Rattle.characters.specs.Places.{decode_at, chars_at}
use Rattle.characters.proofs.Laws.{scalar_fits, check-on, check-bad}
use Rattle.characters.proofs.Chars.{codes-on, codes_off, stands_at}

abbrev GoodAt : List ℕ → ℕ → Type 0
GoodAt s at = check_from 0 at (drop at s) ≡ Ok tt → encode_all (chars_at s at) ≡ drop at s

one : (s : List ℕ) (at : ℕ) (ch : Option (ℕ × ℕ)) → decode_at s at ≡ ch → ((n : ℕ) → 1 ≤ n → at + n ≤ length s → GoodAt s (at + n)) → GoodAt s at
unfolding encode_all
one s at (Some (c, n)) e r h =
    let f = scalar_fits s at e in
    rw (codes-on s at e) (ap (λ (l : List ℕ). encode c ++ l) (r n f.0 f.1 (sym (check-on s at e) ∙ h) ∙ sym (drop-drop n at s)) ∙ sym (stands_at s at e).bytes)
one s at None e r h = elim (dec_lt at (length s)) [ yes l ↦ never (sym (check-bad s at l e) ∙ h) | no l ↦ rw (codes_off s at e) (sym (drop_of_length-le s (out l))) ]
  where
    out : (at < length s → ⊥) → length s ≤ at
    out l = omega arith

    never : ◌≡◌ {A = Result (Unit {0}) IllFormed} (Err (ill_at at)) (Ok tt) → encode_all (chars_at s at) ≡ drop at s
    never q = impossible (cc)

all : (k : ℕ) (s : List ℕ) (at : ℕ) → length s - at ≤ k → GoodAt s at
all zero s at h = one s at (decode_at s at) refl (λ n f g. absurd (omega arith))
all (suc k) s at h = one s at (decode_at s at) refl (λ n f g. all k s (at + n) (omega arith))

pub whole : (s : List ℕ) → check s ≡ Ok tt → encode_all (codes s) ≡ s
unfolding check
whole s h = all (length s) s 0 (omega arith) h
