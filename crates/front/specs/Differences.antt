-- The first line in which two texts differ, as it is shown.
-- Assumes nothing.
use Rattle.std.specs.Prelude.{ℕ, List, [], ◌∷◌, ◌++◌, ltb, length}
use Rattle.basics.specs.Basics.{if◌then◌otherwise◌, is, same, letters}

-- a byte in front of the first line, or a line of its own where there is none
abbrev pub onto : ℕ → List (List ℕ) → List (List ℕ)
onto b [] = (b ∷ []) ∷ []
onto b (l ∷ ls) = (b ∷ l) ∷ ls

-- the lines of a text, each with its line feed; the last one may have none
unfoldable pub lines : List ℕ → List (List ℕ)
lines [] = []
lines (b ∷ bs) = if is "\n" b then (b ∷ []) ∷ lines bs otherwise onto b (lines bs)

-- a line up to its line feed
unfoldable pub bare_line : List ℕ → List ℕ
bare_line [] = []
bare_line (b ∷ bs) = if is "\n" b then [] otherwise b ∷ bare_line bs

-- what a line ends with: that it has no line feed is said below it
unfoldable pub line_end : List ℕ → List ℕ
unfolding bare_line
line_end line = if ltb (length (bare_line line)) (length line) then letters "\n" otherwise letters "\n\\ no line feed at the end\n"

-- a line behind a mark
unfoldable pub marked : (mark line : List ℕ) → List ℕ
unfolding bare_line line_end
marked mark line = mark ++ (bare_line line ++ line_end line)

-- two lines that differ, as `< ..` and `> ..`
unfoldable pub both : (left right : List ℕ) → List ℕ
unfolding marked
both left right = marked (letters "< ") left ++ marked (letters "> ") right

-- the first lines that differ; where one text has ended, the line of the other alone; nothing where the texts are equal
unfoldable pub difference_of : (left right : List (List ℕ)) → List ℕ
unfolding same marked both
difference_of [] [] = []
difference_of [] (r ∷ rs) = marked (letters "> ") r
difference_of (l ∷ ls) [] = marked (letters "< ") l
difference_of (l ∷ ls) (r ∷ rs) = if same l r then difference_of ls rs otherwise both l r

-- the first difference of two texts
unfoldable pub difference : (left right : List ℕ) → List ℕ
unfolding lines difference_of
difference left right = difference_of (lines left) (lines right)
