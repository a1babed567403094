-- Groups at their places, one after another, are the groups of the definition.
-- Assumes nothing.
use Prim.Native.Nat.{ℕ, zero, suc, ◌+◌, ◌*◌, ◌≤◌, ◌<◌}
use native.Mathlib.Omega.{arith}
use mathlib.Core.Path.{◌≡◌, refl, ap, sym, ◌∙◌}
use mathlib.Core.List.{List, [], ◌∷◌, ◌++◌}
use lib.Dec.{eqb}
use lib.ListN.{length, length-append, take, get_or}
use lib.Seq.{take-suc}
use Rattle.tree.specs.Records.{Branch, Node, nodes, width, records_from, words, texts_of}
use Rattle.tree.proofs.Encoded.{records-append, texts-append}
use Rattle.parser.specs.Storing.{flat}
use Rattle.parser.proofs.Lists.{flat_append}
use Rattle.parser.proofs.Stored.{words-length, words_append}
use Rattle.reader.specs.Groups.{wants, all_of, groups_of}
use Rattle.reader.specs.Places.{place_in, group_at, Holds, sum, lined_up}
use Rattle.reader.proofs.GroupSizes.{groups-next, Nonzero}
use Rattle.reader.proofs.PlaceLaws.{Distinct, place_test}
use Rattle.reader.proofs.Filling.{holds-first, holds-rest, holds-both}

-- ------------------------------------------------------------------ a group by its kind

wants_is : (w k : ℕ) → 0 < w → wants w k ≡ eqb k w
wants_is zero k h = absurd (omega arith)
wants_is (suc w) k h = refl

nonzero_at : (ks : List ℕ) → Nonzero ks → (i : ℕ) → i < length ks → 0 < get_or ks i 0
nonzero_at [] h i l = absurd (omega arith)
nonzero_at (k ∷ ks) h zero l = h.0
nonzero_at (k ∷ ks) h (suc i) l = nonzero_at ks h.1 i (omega arith)

module _ {M : Type 0} (kind : M → ℕ) (branches : M → List Branch) (ks : List ℕ) (distinct : Distinct ks) (positive : Nonzero ks) where
  pub group_is : (i : ℕ) → i < length ks → (ms : List M) → group_at (λ m. place_in ks (kind m)) branches i ms ≡ all_of kind branches (get_or ks i 0) ms
  unfolding group_at all_of
  group_is i l [] = refl
  group_is i l (m ∷ ms) = rw (place_test ks distinct (kind m) i l, ← wants_is (get_or ks i 0) (kind m) (nonzero_at ks positive i l), group_is i l ms)

  -- the first groups and one more
  groups-on : (i : ℕ) → i < length ks → (ms : List M) → groups_of kind branches (take (suc i) ks) ms ≡ groups_of kind branches (take i ks) ms ++ group_at (λ m. place_in ks (kind m)) branches i ms
  groups-on i l ms = let e : suc i ≡ i + 1 = omega arith in groups-next kind branches ks i ms e l ∙ rw (← group_is i l ms)

  pub nodes-on : (i : ℕ) → i < length ks → (ms : List M)
      → flat nodes (groups_of kind branches (take (suc i) ks) ms) ≡ flat nodes (groups_of kind branches (take i ks) ms) ++ flat nodes (group_at (λ m. place_in ks (kind m)) branches i ms)
  nodes-on i l ms = ap (flat nodes) (groups-on i l ms) ∙ flat_append nodes (groups_of kind branches (take i ks) ms) (group_at (λ m. place_in ks (kind m)) branches i ms)

-- ------------------------------------------------------------------ places

pub lined-length : (at : ℕ) (xs : List ℕ) → length (lined_up at xs) ≡ length xs
unfolding lined_up
lined-length at [] = refl
lined-length at (x ∷ xs) = ap suc (lined-length (at + x) xs)

pub lined-at : (at : ℕ) (xs : List ℕ) (g : ℕ) → g < length xs → get_or (lined_up at xs) g 0 ≡ at + sum (take g xs)
unfolding lined_up sum
lined-at at [] g l = absurd (omega arith)
lined-at at (x ∷ xs) zero l = omega arith
lined-at at (x ∷ xs) (suc g) l = let h = lined-at (at + x) xs g (omega arith) in omega arith

sum-append : (xs ys : List ℕ) → sum (xs ++ ys) ≡ sum xs + sum ys
unfolding sum
sum-append [] ys = omega arith
sum-append (x ∷ xs) ys = let h = sum-append xs ys in omega arith

pub sum-suc : (xs : List ℕ) (g : ℕ) → g < length xs → sum (take (suc g) xs) ≡ sum (take g xs) + get_or xs g 0
unfolding sum
sum-suc xs g l = ap sum (take-suc xs g 0 l) ∙ sum-append (take g xs) (get_or xs g 0 ∷ []) ∙ omega arith

pub sum-part : (xs : List ℕ) (g : ℕ) → sum (take g xs) ≤ sum xs
unfolding sum
sum-part [] zero = omega arith
sum-part [] (suc g) = omega arith
sum-part (x ∷ xs) zero = omega arith
sum-part (x ∷ xs) (suc g) = let h = sum-part xs g in omega arith

-- ------------------------------------------------------------------ one after another

-- what is stored of nodes, whose texts begin at a place: their words, or their bytes
pub record Coding : Type 0 where
  pub code : ℕ → List Node → List ℕ
  pub size : List Node → ℕ
  pub more : (b : ℕ) (xs ys : List Node) → code b (xs ++ ys) ≡ code b xs ++ code (b + length (texts_of xs)) ys
  pub sized : (b : ℕ) (xs : List Node) → length (code b xs) ≡ size xs

abbrev pub in_words : Coding
in_words =
    record {
      code = λ b xs. words (records_from b xs);
      size = λ xs. width * length xs;
      more = λ b xs ys. ap words (records-append b xs ys) ∙ words_append (records_from b xs) (records_from (b + length (texts_of xs)) ys);
      sized = words-length;
    }

abbrev pub in_bytes : Coding
in_bytes = record { code = λ b xs. texts_of xs; size = λ xs. length (texts_of xs); more = λ b xs ys. texts-append xs ys; sized = λ b xs. refl }

module _ (c : Coding) where
  pub size-append : (a b : List Node) → c.size (a ++ b) ≡ c.size a + c.size b
  size-append a b =
      let e = ap length (c.more 0 a b) ∙ length-append (c.code 0 a) (c.code (0 + length (texts_of a)) b) in
      let f = c.sized 0 (a ++ b) in
      let g = c.sized 0 a in
      let h = c.sized (0 + length (texts_of a)) b in
      omega arith

  pub size_none : c.size [] ≡ 0
  size_none = let e = size-append [] [] in omega arith

-- the first groups together, and each of them
module _ (c : Coding) (first group : ℕ → List Node) (count : ℕ) (none : first 0 ≡ []) (on : (i : ℕ) → i < count → first (suc i) ≡ first i ++ group i) where
  -- the sizes of the groups, added up
  pub sizes-are : (xs : List ℕ) → count ≤ length xs → ((g : ℕ) → g < count → get_or xs g 0 ≡ c.size (group g)) → (i : ℕ) → i ≤ count → sum (take i xs) ≡ c.size (first i)
  unfolding sum
  sizes-are xs l are zero h = sym (ap c.size none ∙ size_none c)
  sizes-are xs l are (suc i) h =
      let a = sizes-are xs l are i (omega arith) in
      let b = sum-suc xs i (omega arith) in
      let d = are i (omega arith) in
      let e = ap c.size (on i (omega arith)) ∙ size-append c (first i) (group i) in
      omega arith

  pub lined-are : (from : ℕ) (xs : List ℕ) {ys : List ℕ} → ys ≡ lined_up from xs → count ≤ length xs → ((g : ℕ) → g < count → get_or xs g 0 ≡ c.size (group g)) → (g : ℕ) → g < count → get_or ys g 0 ≡ from + c.size (first g)
  lined-are from xs e l are g h = let a = ap (λ (z : List ℕ). get_or z g 0) e ∙ lined-at from xs g (omega arith) in let b = sizes-are xs l are g (omega arith) in omega arith

  -- where the groups begin, from a place in the list and one in the bytes on
  module _ (at from : ℕ) (whole : List ℕ) where
    abbrev Front : ℕ → Type 0
    Front i = Holds whole at (c.code from (first i))

    abbrev At : ℕ → Type 0
    At i = Holds whole (at + c.size (first i)) (c.code (from + length (texts_of (first i))) (group i))

    front-split : (i : ℕ) → i < count → c.code from (first (suc i)) ≡ c.code from (first i) ++ c.code (from + length (texts_of (first i))) (group i)
    front-split i l = ap (c.code from) (on i l) ∙ c.more from (first i) (group i)

    -- the fronts are held, and each group
    pub front_less : (d i : ℕ) → i + d ≤ count → Front (i + d) → Front i
    front_less zero i l h = let e : i + 0 ≡ i = omega arith in rw e at h
    front_less (suc d) i l h =
        let e : i + suc d ≡ suc (i + d) = omega arith in
        let f : Holds whole at (c.code from (first (i + d)) ++ c.code (from + length (texts_of (first (i + d)))) (group (i + d))) = rw (e, front-split (i + d) (omega arith)) at h in
        front_less d i (omega arith) (holds-first (c.code from (first (i + d))) _ f)

    pub group_held : (i : ℕ) → i < count → Front (suc i) → At i
    group_held i l h =
        let f : Holds whole at (c.code from (first i) ++ c.code (from + length (texts_of (first i))) (group i)) = rw (front-split i l) at h in
        let g = holds-rest (c.code from (first i)) _ f in
        rw (c.sized from (first i)) at g

    -- and back
    pub front-more : (i : ℕ) → i < count → Front i → At i → Front (suc i)
    front-more i l h k =
        let g : Holds whole (at + length (c.code from (first i))) (c.code (from + length (texts_of (first i))) (group i)) = rw (c.sized from (first i)) k in
        rw (front-split i l) (holds-both (c.code from (first i)) _ h g)
