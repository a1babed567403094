-- Laws of lists that several crates use.
-- Assumes nothing.
use native.Mathlib.Omega.{arith}
use mathlib.Core.Path.{◌≡◌, refl}
use mathlib.Core.List.{List, [], ◌∷◌, ◌++◌}
use mathlib.Core.Option.{Option, none, some}
use lib.ListN.{length}
use Rattle.basics.specs.Basics.{or_not, picked}

-- a list of length 0 in front of another
pub front-none : {A : Type 0} (xs ys : List A) → length xs ≡ 0 → xs ++ ys ≡ ys
front-none [] ys e = refl
front-none (x ∷ xs) ys e = absurd (omega arith)

module _ {A B : Type 0} (p : B → Option A) where
  pub picked-append : (xs ys : List B) → picked p (xs ++ ys) ≡ picked p xs ++ picked p ys
  unfolding picked
  picked-append [] ys = refl
  picked-append (x ∷ xs) ys = rw (picked-append xs ys) (go (p x))
    where
      go : (o : Option A) → or_not o (picked p xs ++ picked p ys) ≡ or_not o (picked p xs) ++ picked p ys
      go none = refl
      go (some a) = refl

  -- one more at the end
  pub picked-one : (xs : List B) (x : B) → picked p (xs ++ x ∷ []) ≡ picked p xs ++ or_not (p x) []
  unfolding picked
  picked-one xs x = picked-append xs (x ∷ [])
