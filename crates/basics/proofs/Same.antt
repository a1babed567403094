-- `same` is equality of lists.
-- Assumes nothing.
use mathlib.Core.Path.{◌≡◌, refl, sym, ◌∙◌, ap, ap₂}
use mathlib.Core.Bool.{Bool, true, false}
use mathlib.Core.List.{List, [], ◌∷◌}
use Prim.Native.Nat.{ℕ}
use lib.Dec.{eqb}
use borrow.Author.Tests.{eq-eqb, eqb-true}
use Rattle.basics.specs.Basics.{same}
use Rattle.basics.proofs.Tests.{cases, impossible, both_true}

pub same_true : (a b : List ℕ) → same a b ≡ true → a ≡ b
unfolding same
same_true [] [] e = refl
same_true [] (y ∷ b) e = impossible (cc)
same_true (x ∷ a) [] e = impossible (cc)
same_true (x ∷ a) (y ∷ b) e =
    let h = both_true (eqb x y) (same a b) e in
    ap₂ (λ (n : ℕ) (l : List ℕ). n ∷ l) (eqb-true x y h.0) (same_true a b h.1)

pub same_refl : (a : List ℕ) → same a a ≡ true
unfolding same
same_refl [] = refl
same_refl (x ∷ a) = rw (eq-eqb x x refl) (same_refl a)

-- a test that holds exactly of equal lists is `same`
pub same_by : (r : Bool) (a b : List ℕ) → (r ≡ true → a ≡ b) → (a ≡ b → r ≡ true) → r ≡ same a b
same_by true a b f g = sym (ap (same a) (sym (f refl)) ∙ same_refl a)
same_by false a b f g = cases (same a b) (λ e. g (same_true a b e) ∙ sym e) (λ e. sym e)
