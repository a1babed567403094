-- Children that match their groups, put together from the first to the last.
-- Assumes nothing.
use Prim.Native.Nat.{ℕ}
use mathlib.Core.Path.{◌≡◌, refl, sym, ◌∙◌}
use mathlib.Core.Bool.{Bool, true, false, not, ◌&&◌, or-true}
use mathlib.Core.List.{List, [], ◌∷◌, ◌++◌, map}
use lib.Dec.{eqb}
use borrow.Author.Tests.{eqb-true}
use Rattle.basics.specs.Basics.{among}
use Rattle.basics.proofs.Tests.{cases, both_true, impossible}
use Rattle.tree.specs.Records.{Branch, Branches, []ᴮ, ◌∷ᴮ◌}
use Rattle.tree.specs.OneTree.{Group, many, one, at_most_one, begins, matches, kind_of}
use Rattle.tree.specs.Stored.{each}
use Rattle.tree.proofs.Matching.{many_yes, many_no, one_yes, most_yes, most_no}
use Rattle.tree.proofs.Encoded.{stacked}

-- the kinds of branches, last first, on those before
unfoldable pub kinds_upon : Branches → List ℕ → List ℕ
kinds_upon []ᴮ ks = ks
kinds_upon (b ∷ᴮ bs) ks = kinds_upon bs (kind_of b ∷ ks)

pub kinds-upon : (bs : Branches) (l : List Branch) → map kind_of (stacked bs l) ≡ kinds_upon bs (map kind_of l)
unfolding stacked kinds_upon
kinds-upon []ᴮ l = refl
kinds-upon (b ∷ᴮ bs) l = kinds-upon bs (b ∷ l)

-- ------------------------------------------------------------------ kinds that no later group has

-- the first, if there is one, is among some kinds
abbrev pub head_in : List ℕ → List ℕ → Bool
head_in hs [] = true
head_in hs (k ∷ ks) = among hs k

-- no kind is in both
abbrev pub apart : List ℕ → List ℕ → Bool
apart ks [] = true
apart ks (h ∷ hs) = not (among ks h) && apart ks hs

apart-one : (ks hs : List ℕ) (k : ℕ) → among hs k ≡ true → apart ks hs ≡ true → among ks k ≡ false
apart-one ks [] k h d = impossible (cc)
apart-one ks (g ∷ hs) k h d =
    let e = both_true (not (among ks g)) (apart ks hs) d in
    cases (eqb k g) (λ t. rw (eqb-true k g t) (not_false-of (among ks g) e.0)) (λ t. apart-one ks hs k (rw t at h) e.1)
  where
    not_false-of : (b : Bool) → not b ≡ true → b ≡ false
    not_false-of true t = sym t
    not_false-of false t = refl

no_begin : (ks hs cs : List ℕ) → head_in hs cs ≡ true → apart ks hs ≡ true → begins ks cs ≡ false
no_begin ks hs [] h d = refl
no_begin ks hs (k ∷ cs) h d = apart-one ks hs k h d

among-right : (ks hs : List ℕ) (k : ℕ) → among hs k ≡ true → among (ks ++ hs) k ≡ true
among-right [] hs k h = h
among-right (x ∷ ks) hs k h = rw (among-right ks hs k h) (or-true (eqb k x))

among-left : (ks hs : List ℕ) (k : ℕ) → among ks k ≡ true → among (ks ++ hs) k ≡ true
among-left [] hs k h = impossible (cc)
among-left (x ∷ ks) hs k h = cases (eqb k x) (λ t. rw t) (λ t. rw t (among-left ks hs k (rw t at h)))

head_more : (ks hs cs : List ℕ) → head_in hs cs ≡ true → head_in (ks ++ hs) cs ≡ true
head_more ks hs [] h = refl
head_more ks hs (k ∷ cs) h = among-right ks hs k h

-- ------------------------------------------------------------------ groups so far

-- the kinds so far, last first, match the groups so far, last first; the last kind is among hs
pub record Upto (gs : List Group) (hs cs : List ℕ) : Type 0 where
  pub matched : matches gs cs ≡ true
  pub heads : head_in hs cs ≡ true

pub upto-none : Upto [] [] []
unfolding matches
upto-none = record { matched = refl; heads = refl }

module _ (ks : List ℕ) {gs : List Group} {hs cs : List ℕ} where
  pub upto-many : Upto gs hs cs → apart ks hs ≡ true → Upto (many ks ∷ gs) (ks ++ hs) cs
  upto-many u d = record { matched = many_no ks gs cs (no_begin ks hs cs u.heads d) ∙ u.matched; heads = head_more ks hs cs u.heads }

  pub upto-more : (k : ℕ) → among ks k ≡ true → among hs k ≡ true → Upto (many ks ∷ gs) hs cs → Upto (many ks ∷ gs) hs (k ∷ cs)
  upto-more k e h u = record { matched = many_yes ks gs (k ∷ cs) e ∙ u.matched; heads = h }

  pub upto-one : (k : ℕ) → among ks k ≡ true → Upto gs hs cs → Upto (one ks ∷ gs) ks (k ∷ cs)
  upto-one k e u = record { matched = one_yes ks gs (k ∷ cs) e ∙ u.matched; heads = e }

  pub upto-most : (k : ℕ) → among ks k ≡ true → Upto gs hs cs → Upto (at_most_one ks ∷ gs) ks (k ∷ cs)
  upto-most k e u = record { matched = most_yes ks gs (k ∷ cs) e ∙ u.matched; heads = e }

  pub upto_missing : Upto gs hs cs → apart ks hs ≡ true → Upto (at_most_one ks ∷ gs) hs cs
  upto_missing u d = record { matched = most_no ks gs cs (no_begin ks hs cs u.heads d) ∙ u.matched; heads = u.heads }

-- ------------------------------------------------------------------ lists of children

unfoldable pub AllOf : {A : Type 0} → (A → Type 0) → List A → Type 0
AllOf P [] = Unit
AllOf P (x ∷ xs) = P x × AllOf P xs

pub all_of : {A : Type 0} (P : A → Type 0) → ((x : A) → P x) → (xs : List A) → AllOf P xs
unfolding AllOf
all_of P h [] = tt
all_of P h (x ∷ xs) = (h x, all_of P h xs)

abbrev pub Reaches : List Group → Branches → List ℕ → Type 0
Reaches fin bs cs = matches fin (kinds_upon bs cs) ≡ true

-- the branches of a list are a group, and others follow
many_more : {A : Type 0} {gs : List Group} {hs cs : List ℕ} (ks : List ℕ) (fin : List Group) (f : A → Branch) (xs : List A) (bs : Branches)
    → ((k : ℕ) → among ks k ≡ true → among hs k ≡ true) → AllOf (λ x. among ks (kind_of (f x)) ≡ true) xs → Upto (many ks ∷ gs) hs cs
    → ((ds : List ℕ) → Upto (many ks ∷ gs) hs ds → Reaches fin bs ds) → Reaches fin (each f xs bs) cs
unfolding AllOf each kinds_upon
many_more {cs = cs} ks fin f [] bs i h u go = go cs u
many_more ks fin f (x ∷ xs) bs i (e, h) u go = many_more ks fin f xs bs i h (upto-more ks (kind_of (f x)) e (i (kind_of (f x)) e) u) go

pub many-each : {A : Type 0} {gs : List Group} {hs cs : List ℕ} (ks : List ℕ) (fin : List Group) (f : A → Branch) (xs : List A) (bs : Branches)
    → AllOf (λ x. among ks (kind_of (f x)) ≡ true) xs → Upto gs hs cs → apart ks hs ≡ true → ((ds : List ℕ) → Upto (many ks ∷ gs) (ks ++ hs) ds → Reaches fin bs ds)
    → Reaches fin (each f xs bs) cs
many-each {hs = hs} ks fin f xs bs h u d go = many_more ks fin f xs bs (among-left ks hs) h (upto-many ks u d) go
