-- The limits of nesting.
-- Assumes nothing.
use Rattle.std.specs.Prelude.{ℕ}

-- levels: a level is one nested entry into `parse_expression_choice`
unfoldable pub levels : ℕ
levels = 64

-- stacked repeats: repeats directly one over another, brackets between them not counted
unfoldable pub repeats : ℕ
repeats = 64
