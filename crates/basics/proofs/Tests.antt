-- Laws of the tests that definitions are made of.
-- Assumes nothing.
use mathlib.Core.Path.{◌≡◌, refl}
use mathlib.Core.Bool.{Bool, true, false, ◌&&◌, ◌||◌, and-false}
use mathlib.Core.List.{List, [], ◌∷◌}
use Prim.Native.Nat.{ℕ, ◌≤◌, ◌<◌}
use native.Mathlib.Omega.{arith}
use lib.Dec.{T, leb}
use borrow.Author.Tests.{leb-true, le-leb, lt-leb, ne_eqb}
use Rattle.basics.specs.Basics.{within, among}

-- a proof by what a test says. In each case `rw` with the equation opens an `if` over the test
pub cases {ℓ} : {A : Type ℓ} (b : Bool) → (b ≡ true → A) → (b ≡ false → A) → A
cases true f g = f refl
cases false f g = g refl

-- where two constructors are said to be equal: `impossible (cc)`
pub impossible {ℓ} : {A : Type ℓ} → ◌≡◌ {A = ℕ} 0 1 → A
impossible e = absurd (omega arith)

-- a test that holds and does not
pub clash {ℓ} : {A : Type ℓ} (b : Bool) → b ≡ true → b ≡ false → A
clash b p q = impossible (cc)

pub both_true : (a b : Bool) → (a && b) ≡ true → (a ≡ true) × (b ≡ true)
both_true true b e = (refl, e)
both_true false b e = (e, (cc))

pub both_false : (a b : Bool) → (a || b) ≡ false → (a ≡ false) × (b ≡ false)
both_false true b e = ((cc), (cc))
both_false false b e = (refl, e)

module _ (lo hi x : ℕ) where
  pub within-true : within lo hi x ≡ true → (lo ≤ x) × (x ≤ hi)
  within-true e = let h = both_true (leb lo x) (leb x hi) e in (leb-true lo x h.0, leb-true x hi h.1)

  pub within_yes : lo ≤ x → x ≤ hi → within lo hi x ≡ true
  within_yes h h' = simp (le-leb lo x h, le-leb x hi h')

  pub within-lo : x < lo → within lo hi x ≡ false
  within-lo h = simp (lt-leb lo x h)

  pub within_hi : hi < x → within lo hi x ≡ false
  within_hi h = simp (lt-leb x hi h, and-false)

-- a test as a type
pub and_left : (a b : Bool) → T (a && b) → T a
and_left true b t = tt
and_left false b t = t

pub and_right : (a b : Bool) → T (a && b) → T b
and_right true b t = t
and_right false b t = absurd t

-- ------------------------------------------------------------------ the last arm of a match

-- P, and the number is none of the keys: in this form the last arm of a match is told it, with nothing for P
abbrev pub Rest : Type 0 → List ℕ → ℕ → Type 0
Rest P [] n = P
Rest P (k ∷ ks) n = Rest (P × (n ≡ k → ⊥)) ks n

rest-among : {P : Type 0} (ks : List ℕ) (n : ℕ) → Rest P ks n → P × (among ks n ≡ false)
rest-among [] n r = (r, refl)
rest-among (k ∷ ks) n r = let h = rest-among ks n r in (h.0.0, rw (ne_eqb n k h.0.1) h.1)

-- so a test of the keys fails
pub not_among : (ks : List ℕ) (n : ℕ) → Rest (Unit {0}) ks n → among ks n ≡ false
not_among ks n r = (rest-among ks n r).1
