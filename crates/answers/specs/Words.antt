-- The words of an answer in what a caller lends for them.
-- Assumes nothing.
use Rattle.std.specs.Prelude.{ℕ, List, Bool, true, false, leb, length}
use Rattle.basics.specs.Basics.{if◌then◌otherwise◌, over}

-- words laid over the first of others, where they fit
unfoldable pub laid : List ℕ → List ℕ → List ℕ
laid ws out = if leb (length ws) (length out) then over ws out otherwise out

-- 1 for yes
abbrev pub bit : Bool → ℕ
bit false = 0
bit true = 1
