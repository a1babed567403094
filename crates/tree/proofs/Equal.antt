-- Trees are structurally equal just where their nodes are the same, one by one.
-- Assumes nothing.
use Prim.Native.Nat.{ℕ, zero, suc, ◌+◌, ◌*◌, ◌/◌, ◌<◌}
use native.Mathlib.Omega.{arith}
use mathlib.Core.Path.{◌≡◌, refl, ap, sym, ◌∙◌}
use mathlib.Core.Bool.{Bool, true, false, ◌&&◌, and-true, and-false, and_assoc, and_comm}
use mathlib.Core.List.{List, [], ◌∷◌, ◌++◌, append_assoc, append-nil}
use mathlib.Core.Option.{Option, none, some}
use Rattle.std.proofs.Common.{Result, Ok, Err}
use lib.Dec.{eqb}
use lib.ListN.{length}
use borrow.Author.Tests.{eqb-true, eqb-false, eq-eqb, ne_eqb}
use Rattle.basics.proofs.Tests.{cases, impossible}
use Rattle.tree.specs.Records.{Row, Branch, branch, Branches, []ᴮ, ◌∷ᴮ◌, count, Node, nodes, nodes_all, width}
use Rattle.tree.specs.OneTree.{kind_of, is_expression, rooted, build}
use Rattle.tree.specs.Equality.{same_row, same_branch, same_branches, structurally_eq}
use Rattle.tree.specs.Promise.{count_of, node_at, Inside, is_some, same_node, comparison, All}
use Rattle.tree.specs.declared.NotATree.{NotATree}
use Rattle.tree.proofs.Trees.{grown-first, grown_of, build-whole, build_broken, none-some, standing}
use Rattle.tree.proofs.Standing.{all-inside}

-- ------------------------------------------------------------------ node by node

unfoldable pub same_nodes : List Node → List Node → Bool
same_nodes [] [] = true
same_nodes [] (y ∷ ys) = false
same_nodes (x ∷ xs) [] = false
same_nodes (x ∷ xs) (y ∷ ys) = same_node x y && same_nodes xs ys

none_left : (ys : List Node) (y : Node) → same_nodes [] (ys ++ (y ∷ [])) ≡ false
unfolding same_nodes
none_left [] y = refl
none_left (z ∷ ys) y = refl

none_right : (xs : List Node) (x : Node) → same_nodes (xs ++ (x ∷ [])) [] ≡ false
unfolding same_nodes
none_right [] x = refl
none_right (z ∷ xs) x = refl

same_snoc : (xs ys : List Node) (x y : Node) → same_nodes (xs ++ (x ∷ [])) (ys ++ (y ∷ [])) ≡ (same_nodes xs ys && same_node x y)
unfolding same_nodes
same_snoc [] [] x y = and-true (same_node x y)
same_snoc [] (z ∷ ys) x y = rw (none_left ys y) (and-false (same_node x z))
same_snoc (z ∷ xs) [] x y = rw (none_right xs x) (and-false (same_node z y))
same_snoc (w ∷ xs) (z ∷ ys) x y = rw (same_snoc xs ys x y) (sym (and_assoc (same_node w z) (same_nodes xs ys) (same_node x y)))

counts-differ : (bs cs : Branches) → (count bs ≡ count cs → ⊥) → same_branches bs cs ≡ false
unfolding count same_branch
counts-differ []ᴮ []ᴮ h = absurd (h refl)
counts-differ []ᴮ (c ∷ᴮ cs) h = refl
counts-differ (b ∷ᴮ bs) []ᴮ h = refl
counts-differ (b ∷ᴮ bs) (c ∷ᴮ cs) h = rw (counts-differ bs cs (λ e. h (ap (λ (n : ℕ). 1 + n) e))) (and-false (same_branch b c))

abbrev node : Row → Branches → Node
node r bs = record { row = r; children = count bs }

node-same : (r q : Row) (bs cs : Branches) → count bs ≡ count cs → same_node (node r bs) (node q cs) ≡ same_row r q
unfolding same_node
node-same r q bs cs e = rw (eq-eqb (count bs) (count cs) e) (and-true (same_row r q))

node-differs : (r q : Row) (bs cs : Branches) → (count bs ≡ count cs → ⊥) → same_node (node r bs) (node q cs) ≡ false
unfolding same_node
node-differs r q bs cs e = rw (ne_eqb (count bs) (count cs) e) (and-false (same_row r q))

turn : (s t u : Bool) → (s && t && u) ≡ (s && (u && t))
turn s t u = and_assoc s t u ∙ ap (λ (x : Bool). s && x) (and_comm t u)

branch_same : (r q : Row) (bs cs : Branches) → same_branch (branch r bs) (branch q cs) ≡ (same_row r q && same_branches bs cs)
unfolding same_branch
branch_same r q bs cs = refl

none-same : same_branches []ᴮ []ᴮ ≡ true
unfolding same_branch
none-same = refl

some_same : (b c : Branch) (bs cs : Branches) → same_branches (b ∷ᴮ bs) (c ∷ᴮ cs) ≡ (same_branch b c && same_branches bs cs)
unfolding same_branch
some_same b c bs cs = refl

mutual
  unfolding nodes count

  same_branch_lem : (b c : Branch) (xs ys : List Node) → same_nodes (xs ++ nodes b) (ys ++ nodes c) ≡ (same_nodes xs ys && same_branch b c)
  same_branch_lem (branch r bs) (branch q cs) xs ys =
      rw (← append_assoc xs (nodes_all bs) (node r bs ∷ []), ← append_assoc ys (nodes_all cs) (node q cs ∷ []), same_snoc (xs ++ nodes_all bs) (ys ++ nodes_all cs) (node r bs) (node q cs), branch_same r q bs cs)
      (cases (eqb (count bs) (count cs))
      (λ e. let f = eqb-true (count bs) (count cs) e in
      rw (same-branches bs cs xs ys f, node-same r q bs cs f) (turn (same_nodes xs ys) (same_branches bs cs) (same_row r q)))
      (λ e. let f = eqb-false (count bs) (count cs) e in
      rw (node-differs r q bs cs f, counts-differ bs cs f, and-false (same_row r q), and-false (same_nodes xs ys)) (and-false (same_nodes (xs ++ nodes_all bs) (ys ++ nodes_all cs)))))

  same-branches : (bs cs : Branches) (xs ys : List Node) → count bs ≡ count cs → same_nodes (xs ++ nodes_all bs) (ys ++ nodes_all cs) ≡ (same_nodes xs ys && same_branches bs cs)
  same-branches []ᴮ []ᴮ xs ys e = rw (append-nil xs, append-nil ys, none-same) (sym (and-true (same_nodes xs ys)))
  same-branches []ᴮ (c ∷ᴮ cs) xs ys e = absurd (omega arith)
  same-branches (b ∷ᴮ bs) []ᴮ xs ys e = absurd (omega arith)
  same-branches (b ∷ᴮ bs) (c ∷ᴮ cs) xs ys e =
      rw (← append_assoc xs (nodes b) (nodes_all bs), ← append_assoc ys (nodes c) (nodes_all cs), same-branches bs cs (xs ++ nodes b) (ys ++ nodes c) (omega arith), same_branch_lem b c xs ys, some_same b c bs cs)
      (and_assoc (same_nodes xs ys) (same_branch b c) (same_branches bs cs))

pub same_nodes_lem : (b c : Branch) → structurally_eq b c ≡ same_nodes (nodes b) (nodes c)
unfolding structurally_eq same_nodes
same_nodes_lem b c = sym (same_branch_lem b c [] [])

-- ------------------------------------------------------------------ record by record

pub lengths_differ : (xs ys : List Node) → (length xs ≡ length ys → ⊥) → same_nodes xs ys ≡ false
unfolding same_nodes
lengths_differ [] [] h = absurd (h refl)
lengths_differ [] (y ∷ ys) h = refl
lengths_differ (x ∷ xs) [] h = refl
lengths_differ (x ∷ xs) (y ∷ ys) h = rw (lengths_differ xs ys (λ e. h (ap suc e))) (and-false (same_node x y))

module _ (lw lt rw' rt : List ℕ) where
  -- n records from the record i on are the same
  unfoldable pub same_from : (i n : ℕ) → Bool
  same_from i zero = true
  same_from i (suc n) = same_node (node_at lw lt i) (node_at rw' rt i) && same_from (i + 1) n

  pub same_from_lem : (xs ys : List Node) (i n : ℕ) → All lw lt i xs → All rw' rt i ys → length xs ≡ n → length ys ≡ n → same_nodes xs ys ≡ same_from i n
  unfolding same_nodes same_from All
  same_from_lem [] [] i zero a b e f = refl
  same_from_lem [] ys i (suc n) a b e f = absurd (omega arith)
  same_from_lem [] (y ∷ ys) i zero a b e f = absurd (omega arith)
  same_from_lem (x ∷ xs) ys i zero a b e f = absurd (omega arith)
  same_from_lem (x ∷ xs) [] i (suc n) a b e f = absurd (omega arith)
  same_from_lem (x ∷ xs) (y ∷ ys) i (suc n) (a, a') (b, b') e f =
      let z : suc i ≡ i + 1 = omega arith in
      rw (← a.is, ← b.is, same_from_lem xs ys (i + 1) n (rw z at a') (rw z at b') (omega arith) (omega arith))

  module _ (i n m : ℕ) (q : n ≡ suc m) where
    pub from_yes : same_node (node_at lw lt i) (node_at rw' rt i) ≡ true → same_from i n ≡ same_from (i + 1) m
    unfolding same_from
    from_yes e = rw (q, e)

    pub from_no : same_node (node_at lw lt i) (node_at rw' rt i) ≡ false → same_from i n ≡ false
    unfolding same_from
    from_no e = rw (q, e)

  pub from-none : (i n : ℕ) → n ≡ 0 → same_from i n ≡ true
  unfolding same_from
  from-none i n e = rw e

-- ------------------------------------------------------------------ words that are a tree

pub record Tree (root : ℕ → Bool) (ws ts : List ℕ) : Type 0 where
  pub top : Branch
  pub is : build root ws ts ≡ some top
  pub all : All ws ts 0 (nodes top)
  pub whole : length ws ≡ length (nodes top) * width

pub rooted-some : (root : ℕ → Bool) (o : Option Branch) (b : Branch) → rooted root o ≡ some b → o ≡ some b
rooted-some root none b e = e
rooted-some root (some c) b e = cases (root (kind_of c)) (λ t. rw t at e) (λ t. none-some (rw t at e))

tree-by : (root : ℕ → Bool) (ws ts : List ℕ) (b : Branch) → build root ws ts ≡ some b → Tree root ws ts
tree-by root ws ts b e =
    cases (eqb (length ws / width * width) (length ws))
    (λ w. let f = eqb-true (length ws / width * width) (length ws) w in
    let o : grown_of ws ts (length ws / width) ≡ some b = rooted-some root (grown_of ws ts (length ws / width)) b (sym (build-whole root ws ts (length ws / width) (sym f)) ∙ e) in
    let s = standing ws ts b (length ws / width) 0 0 0 (rw o at (grown-first ws ts (length ws / width) (length ws / width) refl)) (omega arith) in
    record { top = b; is = e; all = s.0; whole = omega (arith, s.1) })
    (λ w. none-some (sym (build_broken root ws ts (eqb-false (length ws / width * width) (length ws) w)) ∙ e))

tree-some : (root : ℕ → Bool) (ws ts : List ℕ) (o : Option Branch) → build root ws ts ≡ o → true ≡ is_some o → Tree root ws ts
tree-some root ws ts none e h = impossible (cc)
tree-some root ws ts (some b) e h = tree-by root ws ts b e

pub tree_of : (root : ℕ → Bool) (ws ts : List ℕ) → true ≡ is_some (build root ws ts) → Tree root ws ts
tree_of root ws ts h = tree-some root ws ts (build root ws ts) refl h

not_some : (o : Option Branch) → false ≡ is_some o → o ≡ none
not_some none h = refl
not_some (some b) h = impossible (cc)

pub tree_not : (root : ℕ → Bool) (ws ts : List ℕ) → false ≡ is_some (build root ws ts) → build root ws ts ≡ none
tree_not root ws ts h = not_some (build root ws ts) h

pub inside : {root : ℕ → Bool} {ws ts : List ℕ} (i : ℕ) → Tree root ws ts → i < count_of ws → Inside ws ts i
inside {root} {ws} {ts} i t h =
    record { there = h; text = all-inside ws ts (nodes t.top) 0 i t.all (omega arith) (omega (arith, t.whole)) }

-- ------------------------------------------------------------------ two trees

abbrev pub comparing : (lw lt rw' rt : List ℕ) → Result Bool NotATree
comparing lw lt rw' rt = comparison (build is_expression lw lt) (build is_expression rw' rt)

module _ {lw lt : List ℕ} (t : Tree is_expression lw lt) where
  pub other_not : (rw' rt : List ℕ) → build is_expression rw' rt ≡ none → Err (record {}) ≡ comparing lw lt rw' rt
  other_not rw' rt e = rw (t.is, e)

  module _ {rw' rt : List ℕ} (u : Tree is_expression rw' rt) where
    compared : comparing lw lt rw' rt ≡ Ok (same_nodes (nodes t.top) (nodes u.top))
    compared = rw (t.is, u.is) (ap (λ (b : Bool). Ok b) (same_nodes_lem t.top u.top))

    pub unequal : (length lw ≡ length rw' → ⊥) → Ok false ≡ comparing lw lt rw' rt
    unequal h =
        sym (compared ∙ ap (λ (b : Bool). Ok b) (lengths_differ (nodes t.top) (nodes u.top) (λ e. h (t.whole ∙ ap (λ (n : ℕ). n * width) e ∙ sym u.whole))))

    pub by-records : (n : ℕ) → n ≡ count_of lw → length lw ≡ length rw' → comparing lw lt rw' rt ≡ Ok (same_from lw lt rw' rt 0 n)
    by-records n e h =
        let a = t.whole in
        let b = u.whole in
        compared ∙ ap (λ (b : Bool). Ok b) (same_from_lem lw lt rw' rt (nodes t.top) (nodes u.top) 0 n t.all u.all (omega arith) (omega arith))
