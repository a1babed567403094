-- Laws of lists that the other files share.
-- Assumes nothing.
use mathlib.Core.Path.{◌≡◌, refl, sym}
use mathlib.Core.Bool.{Bool, true, false}
use mathlib.Core.List.{List, [], ◌∷◌, map, map-append}
use mathlib.Core.Option.{Option, none, some}
use Rattle.basics.specs.Basics.{concat, last_of, first_element, is_empty, or_not, keep_if, kept, picked}
use Rattle.basics.proofs.Tests.{impossible}

-- a test that cannot hold
pub untrue : (b : Bool) → (b ≡ true → ⊥) → b ≡ false
untrue true h = absurd (h refl)
untrue false h = refl

abbrev pub on_option : {A B : Type 0} → (A → B) → Option A → Option B
on_option g none = none
on_option g (some a) = some (g a)

module _ {A B : Type 0} (g : A → B) where
  pub map_is_empty : (xs : List A) → is_empty (map g xs) ≡ is_empty xs
  map_is_empty [] = refl
  map_is_empty (x ∷ xs) = refl

  pub map_first_of : (xs : List A) → first_element (map g xs) ≡ on_option g (first_element xs)
  map_first_of [] = refl
  map_first_of (x ∷ xs) = refl

  pub map_concat : (xss : List (List A)) → concat (map (map g) xss) ≡ map g (concat xss)
  unfolding concat
  map_concat [] = refl
  map_concat (xs ∷ xss) = rw (map_concat xss) (sym (map-append g xs (concat xss)))

  pub map_last_of : (xs : List A) → last_of (map g xs) ≡ map g (last_of xs)
  unfolding last_of
  map_last_of [] = refl
  map_last_of (x ∷ []) = refl
  map_last_of (x ∷ y ∷ ys) = map_last_of (y ∷ ys)

-- what is kept of a list that is mapped, if the tests agree
module _ {A B : Type 0} (g : A → B) (p : A → Bool) (q : B → Bool) (e : (a : A) → q (g a) ≡ p a) where
  pub map_kept : (xs : List A) → kept q (map g xs) ≡ map g (kept p xs)
  unfolding kept
  map_kept [] = refl
  map_kept (x ∷ xs) = rw (e x, map_kept xs) (go (p x))
    where
      go : (b : Bool) → keep_if b (g x) (map g (kept p xs)) ≡ map g (keep_if b x (kept p xs))
      go true = refl
      go false = refl

-- what is picked from a list that is mapped, if picking commutes with mapping
module _ {A B A' B' : Type 0} (g : A → A') (h : B → B') (p : B → Option A) (q : B' → Option A') (e : (b : B) → q (h b) ≡ on_option g (p b)) where
  pub map_picked : (xs : List B) → picked q (map h xs) ≡ map g (picked p xs)
  unfolding picked
  map_picked [] = refl
  map_picked (x ∷ xs) = rw (e x, map_picked xs) (go (p x))
    where
      go : (o : Option A) → or_not (on_option g o) (map g (picked p xs)) ≡ map g (or_not o (picked p xs))
      go none = refl
      go (some a) = refl

pub not_empty : {A : Type 0} {x : A} {xs : List A} → x ∷ xs ≡ [] → ⊥
not_empty e = impossible (cc)
