-- What holds of every member of a list.
-- Assumes nothing.
use mathlib.Core.Bool.{Bool, true, false}
use mathlib.Core.List.{List, [], ◌∷◌, ◌++◌, map}
use Rattle.basics.specs.Basics.{concat, keep_if, kept}

pub data Every {A : Type 0} (G : A → Type 0) : List A → Type 0 where
  every-none : Every G []
  every_more : {x : A} {xs : List A} → G x → Every G xs → Every G (x ∷ xs)

pub every_map : {A B : Type 0} {G : A → Type 0} {H : B → Type 0} (c : A → B) → ((a : A) → G a → H (c a)) → {xs : List A} → Every G xs → Every H (map c xs)
every_map c f every-none = every-none
every_map c f (every_more {x} g q) = every_more (f x g) (every_map c f q)

module _ {A : Type 0} {G : A → Type 0} where
  pub every_append : {xs ys : List A} → Every G xs → Every G ys → Every G (xs ++ ys)
  every_append every-none h = h
  every_append (every_more g e) h = every_more g (every_append e h)

  -- one more at the end
  pub every_one : {xs : List A} {y : A} → Every G xs → G y → Every G (xs ++ y ∷ [])
  every_one e g = every_append e (every_more g every-none)

  pub every-concat : {xss : List (List A)} → Every (Every G) xss → Every G (concat xss)
  unfolding concat
  every-concat every-none = every-none
  every-concat (every_more g q) = every_append g (every-concat q)

  pub every-kept : (p : A → Bool) {xs : List A} → Every G xs → Every G (kept p xs)
  unfolding kept
  every-kept p every-none = every-none
  every-kept p (every_more {x} {xs} g e) = go (p x) (every-kept p e)
    where
      go : (b : Bool) → Every G (kept p xs) → Every G (keep_if b x (kept p xs))
      go true q = every_more g q
      go false q = q
