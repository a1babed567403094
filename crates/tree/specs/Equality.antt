-- Two equalities of trees: `structurally_eq` of the Rust, and agreement, which looks at more.
-- Assumes nothing.
use Rattle.std.specs.Prelude.{ℕ, Bool, true, false, ◌&&◌, ◌||◌, List, [], ◌∷◌, eqb}
use Rattle.basics.specs.Basics.{same}
use Rattle.tree.specs.Records.{Row, Branch, branch, Branches, []ᴮ, ◌∷ᴮ◌, Record}
use Rattle.tree.specs.Syntax.{GrammarDeclaration}
use Rattle.tree.specs.Stored.{grammar_records, grammar_texts}

-- ------------------------------------------------------------------ structurally_eq

-- all but the starts and a prop's value, which is its `@`. An explicitly empty sequence differs from an empty one by its value
abbrev pub same_row : Row → Row → Bool
same_row r q =
    eqb r.kind q.kind && same r.text q.text && (eqb r.kind 5 || eqb r.value q.value) && eqb r.second q.second

-- trees that are equal in all but the starts and the `@` of props
unfoldable mutual
  -- the rows are equal so, and all below them
  pub same_branch : Branch → Branch → Bool
  same_branch (branch r bs) (branch q cs) = same_row r q && same_branches bs cs

  -- equally many branches, equal one by one
  pub same_branches : Branches → Branches → Bool
  same_branches []ᴮ []ᴮ = true
  same_branches []ᴮ (c ∷ᴮ cs) = false
  same_branches (b ∷ᴮ bs) []ᴮ = false
  same_branches (b ∷ᴮ bs) (c ∷ᴮ cs) = same_branch b c && same_branches bs cs

-- `structurally_eq`
unfoldable pub structurally_eq : Branch → Branch → Bool
unfolding same same_branch
structurally_eq b c = same_branch b c

-- ------------------------------------------------------------------ agreement

-- all words but the starts are equal
abbrev pub agreeing : Record → Record → Bool
agreeing r q =
    eqb r.kind q.kind && eqb r.place q.place && eqb r.size q.size && eqb r.value q.value
    && eqb r.second q.second && eqb r.children q.children

-- equally many records, and all words but the starts are equal
unfoldable pub all_agreeing : List Record → List Record → Bool
all_agreeing [] [] = true
all_agreeing [] (q ∷ qs) = false
all_agreeing (r ∷ rs) [] = false
all_agreeing (r ∷ rs) (q ∷ qs) = agreeing r q && all_agreeing rs qs

-- and so are the bytes of all texts
unfoldable pub agree : GrammarDeclaration ℕ → GrammarDeclaration ℕ → Bool
unfolding same all_agreeing grammar_records grammar_texts
agree g h = all_agreeing (grammar_records g) (grammar_records h) && same (grammar_texts g) (grammar_texts h)
