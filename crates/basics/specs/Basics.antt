-- Small tests, quoted texts and lists. A text is a list of codes (Unicode code points); bytes are a list of numbers below 256.
-- Assumes nothing.
use Rattle.std.specs.Prelude.{ℕ, Bool, true, false, ◌&&◌, ◌||◌, List, [], ◌∷◌, ◌++◌, eqb, leb, length, drop}
use Prim.Native.Char.{Char, code}
use Prim.Native.String.{String}
use Rattle.std.proofs.Math.Option.{Option, none, some}

infixr 10 if◌then◌otherwise◌
-- the first where the test holds, the second where it does not
abbrev pub if◌then◌otherwise◌ {ℓ} : {A : Type ℓ} → Bool → A → A → A
if true then a otherwise b = a
if false then a otherwise b = b

-- from lo to hi, both in
abbrev pub within : ℕ → ℕ → ℕ → Bool
within lo hi x = leb lo x && leb x hi

-- the codes of a quoted text
abbrev pub letters : String → List ℕ
letters String.[] = []
letters (String.◌∷◌ c s) = code c ∷ letters s

-- the code n is the character c
abbrev pub is : Char → ℕ → Bool
is c n = eqb n (code c)

-- n is one of the codes
abbrev pub among : List ℕ → ℕ → Bool
among [] n = false
among (c ∷ cs) n = eqb n c || among cs n

-- two lists of numbers are equal
unfoldable pub same : List ℕ → List ℕ → Bool
same [] [] = true
same [] (b ∷ bs) = false
same (a ∷ l) [] = false
same (a ∷ l) (b ∷ bs) = eqb a b && same l bs

-- a text is the quoted one
abbrev pub spells : String → List ℕ → Bool
spells s t = same (letters s) t

-- the first code, or 0, which is no mark
abbrev pub head : List ℕ → ℕ
head [] = 0
head (c ∷ cs) = c

-- bytes or words over the front of what was lent; the rest of it is unchanged
abbrev pub over : List ℕ → List ℕ → List ℕ
over xs lent = xs ++ drop (length xs) lent

module _ {A : Type 0} where
  -- all pass the test
  unfoldable pub every : (A → Bool) → List A → Bool
  every p [] = true
  every p (x ∷ xs) = p x && every p xs

  -- the lists one after another
  unfoldable pub concat : List (List A) → List A
  concat [] = []
  concat (xs ∷ xss) = xs ++ concat xss

  -- there is none
  abbrev pub is_empty : List A → Bool
  is_empty [] = true
  is_empty (x ∷ xs) = false

  -- the first one, if there is one
  abbrev pub first_element : List A → Option A
  first_element [] = none
  first_element (x ∷ xs) = some x

  -- the last one, if there is one, as a list
  unfoldable pub last_of : List A → List A
  last_of [] = []
  last_of (x ∷ []) = x ∷ []
  last_of (x ∷ y ∷ ys) = last_of (y ∷ ys)

  -- one more in front, if there is one
  abbrev pub or_not : Option A → List A → List A
  or_not none xs = xs
  or_not (some x) xs = x ∷ xs

  -- one more in front, if a test says so
  abbrev pub keep_if : Bool → A → List A → List A
  keep_if true x xs = x ∷ xs
  keep_if false x xs = xs

  -- those that pass a test
  unfoldable pub kept : (A → Bool) → List A → List A
  kept p [] = []
  kept p (x ∷ xs) = keep_if (p x) x (kept p xs)

  -- what a function makes of those of which it makes something
  unfoldable pub picked : {B : Type 0} → (B → Option A) → List B → List A
  picked f [] = []
  picked f (x ∷ xs) = or_not (f x) (picked f xs)
