-- "One tree of the records": what words and texts have to be, said of the tree that they are. `build` finds that tree, or that there is none.
-- Assumes nothing.
use Rattle.std.specs.Prelude.{ℕ, ◌≡◌, Bool, true, ◌||◌, List, [], ◌∷◌, ◌++◌, eqb, length}
use Rattle.std.proofs.Math.Option.{some}
use Rattle.basics.specs.Basics.{among}
use Rattle.tree.specs.Records.{Row, Branch, branch, Branches, []ᴮ, ◌∷ᴮ◌, words, records, texts}
use Rattle.tree.specs.OneTree.{is_kind, has_text, values_fit, Group, many, one, at_most_one, groups_of, kind_of, build}

-- the kinds of a record's children, from the first to the last, are made of its groups
pub data Made : List Group → List ℕ → Type 0 where
  done : Made [] []
  more : {k : ℕ} {ks cs : List ℕ} {gs : List Group} → among ks k ≡ true → Made (many ks ∷ gs) cs → Made (many ks ∷ gs) (k ∷ cs)
  no_more : {ks cs : List ℕ} {gs : List Group} → Made gs cs → Made (many ks ∷ gs) cs
  the_one : {k : ℕ} {ks cs : List ℕ} {gs : List Group} → among ks k ≡ true → Made gs cs → Made (one ks ∷ gs) (k ∷ cs)
  there : {k : ℕ} {ks cs : List ℕ} {gs : List Group} → among ks k ≡ true → Made gs cs → Made (at_most_one ks ∷ gs) (k ∷ cs)
  not_there : {ks cs : List ℕ} {gs : List Group} → Made gs cs → Made (at_most_one ks ∷ gs) cs

-- the kinds of branches, from the first to the last
unfoldable pub kinds : Branches → List ℕ
kinds []ᴮ = []
kinds (b ∷ᴮ bs) = kind_of b ∷ kinds bs

-- a record as the table of kinds has it: its kind, its values, its children, and no text where its kind has none
pub record ProperRow (r : Row) (children : List ℕ) : Type 0 where
  pub kind : is_kind r.kind ≡ true
  pub values : values_fit r.kind r.value r.second ≡ true
  pub made : Made (groups_of r.kind r.value) children
  pub text : (eqb (length r.text) 0 || has_text r.kind) ≡ true

-- a record and all below it are
unfoldable mutual
  pub Proper : Branch → Type 0
  Proper (branch r bs) = ProperRow r (kinds bs) × ProperAll bs

  pub ProperAll : Branches → Type 0
  ProperAll []ᴮ = Unit
  ProperAll (b ∷ᴮ bs) = Proper b × ProperAll bs

-- Words and texts are the tree b, whose root passes a test: the words are those of its records, children before their parent, the last
-- record the root; its texts follow one another from the first byte on, and anything stands behind them.
pub record IsTree (root : ℕ → Bool) (ws ts : List ℕ) (b : Branch) : Type 0 where
  pub proper : Proper b
  pub rooted : root (kind_of b) ≡ true
  pub words_are : ws ≡ words (records b)
  pub behind : List ℕ
  pub texts-are : ts ≡ texts b ++ behind

-- `build` gives a tree exactly when words and texts are that tree.
abbrev pub BuildsWhatIsATree : Type 0
BuildsWhatIsATree =
    (root : ℕ → Bool) (ws ts : List ℕ) (b : Branch)
    → (build root ws ts ≡ some b → IsTree root ws ts b) × (IsTree root ws ts b → build root ws ts ≡ some b)

-- Two trees that the same words and texts are, are one.
abbrev pub TreesAreOne : Type 0
TreesAreOne = (root : ℕ → Bool) (ws ts : List ℕ) (b c : Branch) → IsTree root ws ts b → IsTree root ws ts c → b ≡ c
