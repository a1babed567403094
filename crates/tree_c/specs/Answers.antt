-- The numbers that stand for a comparison.
-- Assumes nothing.
use Rattle.std.specs.Prelude.{ℕ, Bool, true, false, Result, Ok, Err}
use Rattle.error.specs.Causes.{not_a_tree}
use Rattle.tree.specs.declared.NotATree.{NotATree}

-- 1, 0, or the number of the refusal
abbrev pub comparison_number : Result Bool NotATree → ℕ
comparison_number (Ok true) = 1
comparison_number (Ok false) = 0
comparison_number (Err e) = not_a_tree
