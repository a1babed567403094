-- Words that are one tree and words that just are not, trees that are equal and trees that just are not: a table, and one theorem that
-- none of its lines is wrong.
-- Assumes nothing.
use Rattle.std.specs.Prelude.{ℕ, suc, ◌≡◌, refl, Bool, true, false, not, List, [], ◌∷◌, ◌++◌, Result, Ok, Err}
use Rattle.basics.specs.Basics.{letters}
use Rattle.tree.specs.OneTree.{is_expression, build}
use Rattle.tree.specs.Equality.{structurally_eq}
use Rattle.tree.specs.Promise.{is_some, comparison}
use Rattle.tree.specs.declared.NotATree.{NotATree}

-- what is claimed of words and texts, the root an expression
pub data Claim : Type 0 where
  tree : (words texts : List ℕ) → Claim
  no_tree : (words texts : List ℕ) → Claim
  equal : (texts left right : List ℕ) → Claim
  different : (texts left right : List ℕ) → Claim

-- two trees are equal
abbrev is_equal : Result Bool NotATree → Bool
is_equal (Ok b) = b
is_equal (Err e) = false

-- two trees are not equal
abbrev is_different : Result Bool NotATree → Bool
is_different (Ok b) = not b
is_different (Err e) = false

-- two expressions over the same texts
abbrev compared : (texts left right : List ℕ) → Result Bool NotATree
compared ts l r = comparison (build is_expression l ts) (build is_expression r ts)

-- the definitions bear the claim out
unfoldable pub holds : Claim → Bool
unfolding build structurally_eq
holds (tree ws ts) = is_some (build is_expression ws ts)
holds (no_tree ws ts) = not (is_some (build is_expression ws ts))
holds (equal ts l r) = is_equal (compared ts l r)
holds (different ts l r) = is_different (compared ts l r)

-- the numbers of the lines that do not hold
unfoldable pub wrong : ℕ → List Claim → List ℕ
unfolding holds
wrong n [] = []
wrong n (c ∷ cs) = elim (holds c) [ true ↦ wrong (suc n) cs | false ↦ n ∷ wrong (suc n) cs ]

-- a record's words, its start 9
abbrev row : (kind place size value second children : ℕ) → List ℕ
row k p n v s c = k ∷ 9 ∷ p ∷ n ∷ v ∷ s ∷ c ∷ []

-- a set of one span
abbrev set : (first past : ℕ) → List ℕ
set a z = row 38 0 0 a z 0 ++ row 37 0 0 0 0 1

-- a name with a name for argument, whose texts stand at these places
abbrev names : (inner outer : ℕ) → List ℕ
names p q = row 30 p 1 0 0 0 ++ row 30 q 1 0 0 1

-- an inline rule of anything, with one prop of this value
abbrev inline : (at : ℕ) → List ℕ
inline v = row 5 0 1 v 0 0 ++ row 39 0 0 0 0 0 ++ row 32 1 1 0 0 2

-- the claims
abbrev pub table : List Claim
table =
    -- spans: the first code below the one past the last, which is at most 1,114,112
    tree (set 5 6) []
    ∷ no_tree (set 5 5) []
    ∷ no_tree (set 6 5) []
    ∷ tree (set 0 1114112) []
    ∷ no_tree (set 0 1114113) []
    -- texts follow one another
    ∷ tree (names 0 1) (letters "ab")
    ∷ no_tree (names 0 0) (letters "ab")
    ∷ no_tree (names 1 0) (letters "ab")
    -- a prop's value, which is its `@`, is not compared; a set's is
    ∷ equal (letters "pn") (inline 0) (inline 1)
    ∷ different [] (row 37 0 0 0 0 0) (row 37 0 0 1 0 0)
    ∷ []

-- all of them hold
pub none-wrong : wrong 0 table ≡ []
unfolding wrong
none-wrong = refl
