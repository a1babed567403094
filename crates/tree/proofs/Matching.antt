-- Laws of matching children with groups, one child or one group at a time.
-- Assumes nothing.
use Prim.Native.Nat.{ℕ, zero, suc, ◌+◌, ◌-◌, ◌≤◌, ◌<◌}
use native.Mathlib.Omega.{arith}
use native.Mathlib.Numerals.{add-one}
use mathlib.Core.Path.{◌≡◌, refl, sym}
use mathlib.Core.Bool.{true, false}
use mathlib.Core.List.{List, [], ◌∷◌, map}
use lib.Dec.{eqb}
use lib.ListN.{length, drop, get_or, drop_of_length-le}
use lib.Seq.{drop-cons}
use borrow.Author.Tests.{ne_eqb}
use Rattle.basics.specs.Basics.{among}
use Rattle.basics.proofs.Tests.{impossible}
use Rattle.tree.specs.OneTree.{Group, many, one, at_most_one, without, begins, matches}
use Rattle.tree.specs.Promise.{first_place, kind_before, kinds_back, kinds_of, group_of}
use Rattle.tree.specs.declared.Kinds.{Kinds}
use Rattle.tree.specs.declared.Group.{Group as DeclaredGroup}
use Rattle.tree.specs.declared.Group.TheVariants as Groups

-- ------------------------------------------------------------------ children

pub none_begin : (ks ws : List ℕ) (j n : ℕ) → n ≡ 0 → false ≡ begins ks (kinds_back ws j n)
unfolding kinds_back
none_begin ks ws j zero e = refl
none_begin ks ws j (suc n) e = absurd (omega arith)

pub some_begin : (ks ws : List ℕ) (j n : ℕ) → (n ≡ 0 → ⊥) → among ks (kind_before ws j) ≡ begins ks (kinds_back ws j n)
unfolding kinds_back
some_begin ks ws j zero e = absurd (e refl)
some_begin ks ws j (suc n) e = refl

pub none_begins : (ks ws : List ℕ) (j n : ℕ) → among ks (kind_before ws j) ≡ false → false ≡ begins ks (kinds_back ws j n)
unfolding kinds_back
none_begins ks ws j zero e = refl
none_begins ks ws j (suc n) e = sym e

pub begun : (ks ws : List ℕ) (j n : ℕ) → begins ks (kinds_back ws j n) ≡ true → 0 < n
unfolding kinds_back
begun ks ws j zero e = impossible (cc)
begun ks ws j (suc n) e = omega arith

pub all-matched : (ws : List ℕ) (j n : ℕ) → matches [] (kinds_back ws j n) ≡ eqb n 0
unfolding kinds_back matches
all-matched ws j zero = refl
all-matched ws j (suc n) = sym (ne_eqb (suc n) 0 (λ e. omega arith))

-- the rest of the children, where the branch before the last begins at i
pub rest : (ws : List ℕ) (i j n : ℕ) → 0 < n → (0 < n - 1 → i ≡ first_place ws j 1) → drop 1 (kinds_back ws j n) ≡ kinds_back ws i (n - 1)
unfolding kinds_back
rest ws i j zero h e = absurd (omega arith)
rest ws i j (suc zero) h e = refl
rest ws i j (suc (suc n)) h e =
    let f : suc (suc n) - 1 ≡ suc n = omega arith in
    let g : i ≡ first_place ws j 1 = e (omega arith) in
    rw (f, g)

-- ------------------------------------------------------------------ the first group

pub without_yes : (ks cs : List ℕ) → begins ks cs ≡ true → without ks cs ≡ without ks (drop 1 cs)
unfolding without
without_yes ks [] e = impossible (cc)
without_yes ks (c ∷ cs) e = rw (e, without)

pub without_no : (ks cs : List ℕ) → begins ks cs ≡ false → without ks cs ≡ cs
unfolding without
without_no ks [] e = refl
without_no ks (c ∷ cs) e = rw (e, without)

module _ (ks : List ℕ) (gs : List Group) where
  pub many_all : (cs : List ℕ) → matches (many ks ∷ gs) cs ≡ matches gs (without ks cs)
  unfolding matches
  many_all cs = refl

  pub many_yes : (cs : List ℕ) → begins ks cs ≡ true → matches (many ks ∷ gs) cs ≡ matches (many ks ∷ gs) (drop 1 cs)
  unfolding matches without
  many_yes [] e = impossible (cc)
  many_yes (c ∷ cs) e = rw (e, without)

  pub many_no : (cs : List ℕ) → begins ks cs ≡ false → matches (many ks ∷ gs) cs ≡ matches gs cs
  unfolding matches without
  many_no [] e = refl
  many_no (c ∷ cs) e = rw (e, without)

  pub one_yes : (cs : List ℕ) → begins ks cs ≡ true → matches (one ks ∷ gs) cs ≡ matches gs (drop 1 cs)
  unfolding matches
  one_yes cs e = rw e

  pub one_no : (cs : List ℕ) → begins ks cs ≡ false → matches (one ks ∷ gs) cs ≡ false
  unfolding matches
  one_no cs e = rw e

  pub most_yes : (cs : List ℕ) → begins ks cs ≡ true → matches (at_most_one ks ∷ gs) cs ≡ matches gs (drop 1 cs)
  unfolding matches
  most_yes cs e = rw e

  pub most_no : (cs : List ℕ) → begins ks cs ≡ false → matches (at_most_one ks ∷ gs) cs ≡ matches gs cs
  unfolding matches
  most_no cs e = rw e

-- ------------------------------------------------------------------ as the code goes on

-- with the group i of the code, all groups from there on match some children, if those after it match the children that are left
module _ (gs : List DeclaredGroup) (i : ℕ) (d : DeclaredGroup) (h : i < length gs) where
  next_group : {g : DeclaredGroup} → get_or gs i d ≡ g → map group_of (drop i gs) ≡ group_of g ∷ map group_of (drop (i + 1) gs)
  next_group e = rw (add-one, drop-cons gs i d h, e)

  module _ (ks : Kinds) (cs : List ℕ) where
    pub each_left : get_or gs i d ≡ Groups.Each ks → matches (map group_of (drop (i + 1) gs)) (without (kinds_of ks) cs) ≡ matches (map group_of (drop i gs)) cs
    each_left e = rw (next_group e) (sym (many_all (kinds_of ks) (map group_of (drop (i + 1) gs)) cs))

    pub one_left : get_or gs i d ≡ Groups.One ks → begins (kinds_of ks) cs ≡ true → matches (map group_of (drop (i + 1) gs)) (drop 1 cs) ≡ matches (map group_of (drop i gs)) cs
    one_left e b = rw (next_group e) (sym (one_yes (kinds_of ks) (map group_of (drop (i + 1) gs)) cs b))

    pub one_missing : get_or gs i d ≡ Groups.One ks → begins (kinds_of ks) cs ≡ false → false ≡ matches (map group_of (drop i gs)) cs
    one_missing e b = rw (next_group e) (sym (one_no (kinds_of ks) (map group_of (drop (i + 1) gs)) cs b))

    pub most_left : get_or gs i d ≡ Groups.AtMostOne ks → begins (kinds_of ks) cs ≡ true → matches (map group_of (drop (i + 1) gs)) (drop 1 cs) ≡ matches (map group_of (drop i gs)) cs
    most_left e b = rw (next_group e) (sym (most_yes (kinds_of ks) (map group_of (drop (i + 1) gs)) cs b))

    pub most_missing : get_or gs i d ≡ Groups.AtMostOne ks → begins (kinds_of ks) cs ≡ false → matches (map group_of (drop (i + 1) gs)) cs ≡ matches (map group_of (drop i gs)) cs
    most_missing e b = rw (next_group e) (sym (most_no (kinds_of ks) (map group_of (drop (i + 1) gs)) cs b))

pub none-left : (gs : List DeclaredGroup) (i : ℕ) → length gs ≤ i → (ws : List ℕ) (j n : ℕ) → eqb n 0 ≡ matches (map group_of (drop i gs)) (kinds_back ws j n)
none-left gs i h ws j n = let e : drop i gs ≡ [] = drop_of_length-le gs {i = i} h in rw e (sym (all-matched ws j n))
