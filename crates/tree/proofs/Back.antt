-- Laws of counting back: the branches on a stack are found in the words, last first.
-- Assumes nothing.
use Prim.Native.Nat.{ℕ, zero, suc, ◌+◌, ◌-◌, ◌≤◌, ◌<◌}
use native.Mathlib.Omega.{arith}
use mathlib.Core.Path.{◌≡◌, refl, ap, sym, ◌∙◌}
use mathlib.Core.List.{List, [], ◌∷◌, ◌++◌, map, append_assoc, append-nil}
use lib.ListN.{length, take, drop, length-append, length-take, length-drop}
use Rattle.tree.specs.Records.{Row, Branch, branch, Branches, []ᴮ, ◌∷ᴮ◌, count, Node, nodes, nodes_all}
use Rattle.tree.specs.OneTree.{kind_of, in_order}
use Rattle.tree.specs.Promise.{word_at, node_at, At, All, first_place, kind_before, kinds_back}

-- ------------------------------------------------------------------ one record back

pub kind-none : (ws : List ℕ) (end : ℕ) → end ≡ 0 → 0 ≡ kind_before ws end
unfolding kind_before
kind-none ws zero e = refl
kind-none ws (suc n) e = absurd (omega arith)

pub kind-some : (ws : List ℕ) (end : ℕ) → (end ≡ 0 → ⊥) → word_at ws (end - 1) 0 ≡ kind_before ws end
unfolding kind_before
kind-some ws zero h = absurd (h refl)
kind-some ws (suc n) h = let e : suc n - 1 ≡ n = omega arith in rw e

pub first-none : (ws : List ℕ) (end : ℕ) → first_place ws end 0 ≡ end
unfolding first_place
first-none ws zero = refl
first-none ws (suc n) = refl

first-suc : (ws : List ℕ) (end n : ℕ) → first_place ws (suc end) (suc n) ≡ first_place ws end (n + word_at ws end 6)
unfolding first_place
first-suc ws end n = refl

pub first-few : (ws : List ℕ) (end n : ℕ) → end < n → first_place ws end n ≡ 0
unfolding first_place
first-few ws zero n h = refl
first-few ws (suc end) zero h = absurd (omega arith)
first-few ws (suc end) (suc n) h = first-few ws end (n + word_at ws end 6) (omega arith)

pub first_step : (ws : List ℕ) (end n : ℕ) → 0 < n → n ≤ end → first_place ws end n ≡ first_place ws (end - 1) (n - 1 + word_at ws (end - 1) 6)
unfolding first_place
first_step ws zero n h g = absurd (omega arith)
first_step ws (suc end) zero h g = absurd (omega arith)
first_step ws (suc end) (suc n) h g =
    let e : suc end - 1 ≡ end = omega arith in
    let f : suc n - 1 ≡ n = omega arith in
    rw (e, f)

pub first-low : (ws : List ℕ) (end n : ℕ) → first_place ws end n ≤ end
unfolding first_place
first-low ws zero n = omega arith
first-low ws (suc end) zero = omega arith
first-low ws (suc end) (suc n) = omega (arith, first-low ws end (n + word_at ws end 6))

-- ------------------------------------------------------------------ records that are nodes

module _ (ws ts : List ℕ) where
  shift : (lo n : ℕ) → suc lo + n ≡ lo + suc n
  shift lo n = omega arith

  pub all_append : (lo : ℕ) (xs ys : List Node) → All ws ts lo xs → All ws ts (lo + length xs) ys → All ws ts lo (xs ++ ys)
  unfolding All
  all_append lo [] ys a b = let e : lo + 0 ≡ lo = omega arith in rw e at b
  all_append lo (x ∷ xs) ys (a, a') b = (a, all_append (suc lo) xs ys a' (rw (shift lo (length xs)) b))

  pub all_one : (i : ℕ) → word_at ws i 2 + word_at ws i 3 ≤ length ts → All ws ts i (node_at ws ts i ∷ [])
  unfolding All
  all_one i h = (record { is = refl; inside = h }, tt)

  pub all_left : (lo : ℕ) (xs ys : List Node) → All ws ts lo (xs ++ ys) → All ws ts lo xs
  unfolding All
  all_left lo [] ys a = tt
  all_left lo (x ∷ xs) ys (a, b) = (a, all_left (suc lo) xs ys b)

  pub all_right : (lo : ℕ) (xs ys : List Node) → All ws ts lo (xs ++ ys) → All ws ts (lo + length xs) ys
  unfolding All
  all_right lo [] ys a = let e : lo + 0 ≡ lo = omega arith in rw e a
  all_right lo (x ∷ xs) ys (a, b) = rw (shift lo (length xs)) at (all_right (suc lo) xs ys b)

  -- the last record of a branch is its own
  pub root_at : (lo : ℕ) (r : Row) (bs : Branches) → All ws ts lo (nodes (branch r bs)) → At ws ts (lo + length (nodes_all bs)) (record { row = r; children = count bs })
  unfolding nodes All
  root_at lo r bs a = (all_right lo (nodes_all bs) (record { row = r; children = count bs } ∷ []) a).0

  pub past_root : (lo : ℕ) (r : Row) (bs : Branches) → lo + length (nodes (branch r bs)) ≡ suc (lo + length (nodes_all bs))
  unfolding nodes
  past_root lo r bs = omega (arith, length-append (nodes_all bs) (record { row = r; children = count bs } ∷ []))

  -- counting back over a branch, and over the children of one
  mutual
    unfolding nodes count

    pub first-branch : (b : Branch) (lo n : ℕ) → All ws ts lo (nodes b) → first_place ws (lo + length (nodes b)) (suc n) ≡ first_place ws lo n
    first-branch (branch r bs) lo n a =
        let k : word_at ws (lo + length (nodes_all bs)) 6 ≡ count bs = ap (λ (x : Node). x.children) (root_at lo r bs a).is in
        let e : n + count bs ≡ count bs + n = omega arith in
        rw (past_root lo r bs, first-suc ws (lo + length (nodes_all bs)) n, k, e) (first-branches bs lo n (all_left lo (nodes_all bs) (record { row = r; children = count bs } ∷ []) a))

    pub first-branches : (bs : Branches) (lo n : ℕ) → All ws ts lo (nodes_all bs) → first_place ws (lo + length (nodes_all bs)) (count bs + n) ≡ first_place ws lo n
    first-branches []ᴮ lo n a = let e : lo + 0 ≡ lo = omega arith in let f : 0 + n ≡ n = omega arith in rw (e, f)
    first-branches (b ∷ᴮ bs) lo n a =
        let e : lo + length (nodes b ++ nodes_all bs) ≡ lo + length (nodes b) + length (nodes_all bs) = omega (arith, length-append (nodes b) (nodes_all bs)) in
        let f : 1 + count bs + n ≡ count bs + suc n = omega arith in
        rw (e, f) (first-branches bs (lo + length (nodes b)) (suc n) (all_right lo (nodes b) (nodes_all bs) a)
        ∙ first-branch b lo n (all_left lo (nodes b) (nodes_all bs) a))

  pub kind-last : (b : Branch) (lo : ℕ) → All ws ts lo (nodes b) → kind_before ws (lo + length (nodes b)) ≡ kind_of b
  unfolding kind_before
  kind-last (branch r bs) lo a = rw (past_root lo r bs) (ap (λ (x : Node). x.row.kind) (root_at lo r bs a).is)

-- the branches cs after bs
unfoldable pub before : Branches → Branches → Branches
before []ᴮ cs = cs
before (b ∷ᴮ bs) cs = b ∷ᴮ before bs cs

pub nodes-before : (bs cs : Branches) → nodes_all (before bs cs) ≡ nodes_all bs ++ nodes_all cs
unfolding before nodes
nodes-before []ᴮ cs = refl
nodes-before (b ∷ᴮ bs) cs = rw (nodes-before bs cs) (sym (append_assoc (nodes b) (nodes_all bs) (nodes_all cs)))

-- among children, those before the last ones end where these begin
pub first-last : (ws ts : List ℕ) (bs cs : Branches) (lo : ℕ) → All ws ts lo (nodes_all (before bs cs)) → first_place ws (lo + length (nodes_all (before bs cs))) (count cs) ≡ lo + length (nodes_all bs)
first-last ws ts bs cs lo a =
    let e : lo + length (nodes_all (before bs cs)) ≡ lo + length (nodes_all bs) + length (nodes_all cs) = omega (arith, ap length (nodes-before bs cs), length-append (nodes_all bs) (nodes_all cs)) in
    let n : count cs ≡ count cs + 0 = omega arith in
    let r : All ws ts (lo + length (nodes_all bs)) (nodes_all cs) = all_right ws ts lo (nodes_all bs) (nodes_all cs) (rw (nodes-before bs cs) at a) in
    rw (e, n) (first-branches ws ts cs (lo + length (nodes_all bs)) 0 r) ∙ first-none ws (lo + length (nodes_all bs))

pub nodes-some : (b : Branch) → 0 < length (nodes b)
unfolding nodes
nodes-some (branch r bs) = omega (arith, length-append (nodes_all bs) (record { row = r; children = count bs } ∷ []))

-- ------------------------------------------------------------------ a stack of branches

-- the nodes of the branches on a stack, whose last is first
unfoldable pub flat : List Branch → List Node
flat [] = []
flat (b ∷ l) = flat l ++ nodes b

module _ (ws ts : List ℕ) where
  pub kinds-back : (l : List Branch) (n : ℕ) → n ≤ length l → All ws ts 0 (flat l) → kinds_back ws (length (flat l)) n ≡ map kind_of (take n l)
  unfolding kinds_back flat
  kinds-back l zero h a = refl
  kinds-back [] (suc n) h a = absurd (omega arith)
  kinds-back (b ∷ l) (suc n) h a =
      let e : length (flat l ++ nodes b) ≡ length (flat l) + length (nodes b) = length-append (flat l) (nodes b) in
      let r : All ws ts (length (flat l)) (nodes b) = let z : 0 + length (flat l) ≡ length (flat l) = omega arith in rw z at (all_right ws ts 0 (flat l) (nodes b) a) in
      let f : first_place ws (length (flat l) + length (nodes b)) 1 ≡ length (flat l) = first-branch ws ts b (length (flat l)) 0 r ∙ first-none ws (length (flat l)) in
      rw (e, f, kind-last ws ts b (length (flat l)) r, kinds-back l n (omega arith) (all_left ws ts 0 (flat l) (nodes b) a))

  -- the one branch of a stack
  pub kind-top : (b : Branch) → All ws ts 0 (flat (b ∷ [])) → kind_before ws (length (flat (b ∷ []))) ≡ kind_of b
  unfolding flat
  kind-top b a = let z : 0 + length (nodes b) ≡ length (nodes b) = omega arith in rw z at (kind-last ws ts b 0 a)

flat-order : (l : List Branch) (bs : Branches) → nodes_all (in_order l bs) ≡ flat l ++ nodes_all bs
unfolding in_order flat nodes
flat-order [] bs = refl
flat-order (b ∷ l) bs = flat-order l (b ∷ᴮ bs) ∙ sym (append_assoc (flat l) (nodes b) (nodes_all bs))

pub count-order : (l : List Branch) (bs : Branches) → count (in_order l bs) ≡ length l + count bs
unfolding in_order count
count-order [] bs = omega arith
count-order (b ∷ l) bs = omega (arith, count-order l (b ∷ᴮ bs))

flat-split : (n : ℕ) (l : List Branch) → flat l ≡ flat (drop n l) ++ flat (take n l)
unfolding flat
flat-split zero l = sym (append-nil (flat l))
flat-split (suc n) [] = refl
flat-split (suc n) (b ∷ l) = rw (flat-split n l) (append_assoc (flat (drop n l)) (flat (take n l)) (nodes b))

-- a record over the last branches of a stack
abbrev pub over : Row → ℕ → List Branch → List Branch
over r n l = branch r (in_order (take n l) []ᴮ) ∷ drop n l

pub flat-over : (r : Row) (n : ℕ) (l : List Branch) → n ≤ length l → flat (over r n l) ≡ flat l ++ (record { row = r; children = n } ∷ [])
unfolding flat nodes count
flat-over r n l h =
    let c : count (in_order (take n l) []ᴮ) ≡ n = omega (arith, count-order (take n l) []ᴮ, length-take n l) in
    rw (flat-order (take n l) []ᴮ, c, flat-split n l, append-nil (flat (take n l)), append_assoc)

pub length_over : (r : Row) (n : ℕ) (l : List Branch) → n ≤ length l → length (over r n l) ≡ length l - n + 1
length_over r n l h = omega (arith, length-drop n l)
