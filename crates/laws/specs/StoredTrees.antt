-- What a text is read as, stored, is one tree. Statement only; its proof is in `proofs/StoredTrees.antt`.
-- Assumes nothing.
use Rattle.std.specs.Prelude.{ℕ, ◌≡◌, List, ◌++◌, eqb}
use Rattle.tree.specs.Syntax.{GrammarDeclaration}
use Rattle.tree.specs.Stored.{grammar_words, grammar_texts, grammar_branch}
use Rattle.grammar.specs.Reading.{tree, reading}
use Rattle.trees.specs.IsTree.{IsTree}

-- The words and texts of the tree of an accepted text are one tree, whatever stands behind the texts; its root is a grammar's record.
abbrev pub StoredIsOneTree : Type 0
StoredIsOneTree =
    (text : List ℕ) (g : GrammarDeclaration ℕ) (behind : List ℕ) → reading text ≡ tree g
    → IsTree (λ k. eqb k 1) (grammar_words g) (grammar_texts g ++ behind) (grammar_branch g)
