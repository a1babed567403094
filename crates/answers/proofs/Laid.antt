-- Words laid over others.
-- Assumes nothing.
use mathlib.Core.Path.{◌≡◌}
use mathlib.Core.List.{List, ◌++◌}
use Prim.Native.Nat.{ℕ, ◌≤◌, ◌<◌}
use lib.ListN.{length, drop}
use borrow.Author.Tests.{le-leb, lt-leb}
use Rattle.answers.specs.Words.{laid}

module _ (ws out : List ℕ) where
  pub laid_in : (n : ℕ) → length ws ≡ n → n ≤ length out → ws ++ drop n out ≡ laid ws out
  unfolding laid
  laid_in n e h = rw (e, le-leb n (length out) h)

  pub laid_out : length out < length ws → out ≡ laid ws out
  unfolding laid
  laid_out h = rw (lt-leb (length ws) (length out) h)
