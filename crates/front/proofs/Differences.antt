-- Lines, and the first two that differ.
-- Assumes nothing.
use Prim.Native.Nat.{ℕ, suc, ◌+◌, ◌-◌, ◌≤◌, ◌<◌}
use native.Mathlib.Omega.{arith}
use mathlib.Core.Path.{◌≡◌, refl, ap, sym}
use mathlib.Core.Bool.{true, false}
use mathlib.Core.List.{List, [], ◌∷◌, ◌++◌, append_assoc}
use lib.ListN.{length, take, drop, length-drop}
use lib.Dec.{eqb, ltb}
use borrow.Author.Tests.{lt-ltb, le-ltb}
use lib.Pointwise.{pointwise}
use Rattle.basics.specs.Basics.{is, same, letters}
use Rattle.basics.proofs.Tests.{cases}
use Rattle.front.specs.Differences.{onto, lines, bare_line, line_end, marked, both, difference_of, difference}
use Rattle.front.specs.Promise.{FirstLine}

-- ------------------------------------------------------------------ a line without its line feed

pub bare-few : (s : List ℕ) → length (bare_line s) ≤ length s
unfolding bare_line
bare-few [] = omega arith
bare-few (b ∷ bs) = cases (is "\n" b) (λ e. rw e (omega arith)) (λ e. rw e (omega (arith, bare-few bs)))

pub bare-front : (s : List ℕ) → take (length (bare_line s)) s ≡ bare_line s
unfolding bare_line
bare-front [] = refl
bare-front (b ∷ bs) = cases (is "\n" b) (λ e. rw e refl) (λ e. rw e (ap (λ (l : List ℕ). b ∷ l) (bare-front bs)))

-- ------------------------------------------------------------------ the first line, and those behind it

-- it has a line feed
with-feed : (s : List ℕ) → length (bare_line s) < length s → lines s ≡ take (suc (length (bare_line s))) s ∷ lines (drop (suc (length (bare_line s))) s)
unfolding bare_line lines
with-feed [] h = absurd (omega arith)
with-feed (b ∷ bs) h =
    cases (is "\n" b)
    (λ e. rw e refl)
    (λ e. let k : length (bare_line bs) < length bs = let j = rw e at h in omega (arith, j) in rw e (ap (onto b) (with-feed bs k)))

-- it has none, and is the last one
without-feed : (b : ℕ) (bs : List ℕ) → length (b ∷ bs) ≤ length (bare_line (b ∷ bs)) → lines (b ∷ bs) ≡ (b ∷ bs) ∷ []
unfolding bare_line lines
without-feed b [] h = cases (is "\n" b) (λ e. rw e refl) (λ e. rw e refl)
without-feed b (c ∷ bs) h =
    cases (is "\n" b)
    (λ e. let j = rw e at h in absurd (omega (arith, j)))
    (λ e. let j = rw e at h in rw e (ap (onto b) (without-feed c bs (omega (arith, j)))))

pub first-line : (s : List ℕ) (n : ℕ) → n ≡ length (bare_line s) → n < length s → FirstLine s (n + 1)
first-line s n e h =
    let l : n + 1 ≡ suc (length (bare_line s)) = omega (arith, e) in
    (omega arith, λ k. (omega arith, rw l (with-feed s (omega (arith, e)))))

drop-all : (s : List ℕ) → drop (length s) s ≡ []
drop-all [] = refl
drop-all (b ∷ bs) = drop-all bs

take-all : (s : List ℕ) → take (length s) s ≡ s
take-all [] = refl
take-all (b ∷ bs) = ap (λ (l : List ℕ). b ∷ l) (take-all bs)

pub last-line : (s : List ℕ) (n : ℕ) → n ≡ length (bare_line s) → length s ≤ n → FirstLine s n
unfolding lines
last-line [] n e h = (omega (arith, e, bare-few []), λ k. absurd (omega arith))
last-line (b ∷ bs) n e h =
    let m : n ≡ length (b ∷ bs) = omega (arith, e, h, bare-few (b ∷ bs)) in
    (omega arith, λ k. (omega arith, rw (m, take-all (b ∷ bs), drop-all (b ∷ bs)) (without-feed b bs (omega (arith, e, h)))))

-- ------------------------------------------------------------------ a line as it is shown

module _ (mark line : List ℕ) (n : ℕ) (e : n ≡ length (bare_line line)) where
  pub marked-feed : n < length line → marked mark line ≡ (mark ++ take n line) ++ letters "\n"
  unfolding marked line_end
  marked-feed h =
      let k : ltb (length (bare_line line)) (length line) ≡ true = lt-ltb (length (bare_line line)) (length line) (omega (arith, e)) in
      rw (k, e, bare-front line) (sym (append_assoc mark (bare_line line) (letters "\n")))

  pub marked-end : length line ≤ n → marked mark line ≡ (mark ++ take n line) ++ letters "\n\\ no line feed at the end\n"
  unfolding marked line_end
  marked-end h =
      let k : ltb (length (bare_line line)) (length line) ≡ false = le-ltb (length (bare_line line)) (length line) (omega (arith, e)) in
      rw (k, e, bare-front line) (sym (append_assoc mark (bare_line line) (letters "\n\\ no line feed at the end\n")))

-- ------------------------------------------------------------------ the first difference

-- bytes that are compared one by one
pub pointwise-same : (a b : List ℕ) → pointwise eqb a b ≡ same a b
unfolding same
pointwise-same [] [] = refl
pointwise-same [] (y ∷ b) = refl
pointwise-same (x ∷ a) [] = refl
pointwise-same (x ∷ a) (y ∷ b) = rw (pointwise-same a b) refl

none : (s : List ℕ) → length s ≡ 0 → s ≡ []
none [] e = refl
none (b ∷ bs) e = absurd (omega (arith, e))

module _ (a b : List ℕ) (m : ℕ) (filled : 0 < length a) (first : FirstLine a m) where
  pub left-alone : length b ≡ 0 → difference a b ≡ marked (letters "< ") (take m a)
  unfolding difference difference_of lines
  left-alone e = rw (none b e, (first.1 filled).1) refl

  module _ (n : ℕ) (other : 0 < length b) (second : FirstLine b n) where
    pub lines-equal : same (take m a) (take n b) ≡ true → difference a b ≡ difference (drop m a) (drop n b)
    unfolding difference difference_of
    lines-equal e = rw ((first.1 filled).1, (second.1 other).1, e) refl

    pub lines-differ : same (take m a) (take n b) ≡ false → difference a b ≡ both (take m a) (take n b)
    unfolding difference difference_of
    lines-differ e = rw ((first.1 filled).1, (second.1 other).1, e) refl

pub right_alone : (a b : List ℕ) (n : ℕ) → length a ≡ 0 → 0 < length b → FirstLine b n → difference a b ≡ marked (letters "> ") (take n b)
unfolding difference difference_of lines
right_alone a b n e h second = rw (none a e, (second.1 h).1) refl

pub both-empty : (a b : List ℕ) → length a ≡ 0 → length b ≡ 0 → difference a b ≡ []
unfolding difference difference_of lines
both-empty a b e h = rw (none a e, none b h) refl

-- all that is behind a place
pub behind : (n : ℕ) (s : List ℕ) → take (length s - n) (drop n s) ≡ drop n s
behind n s = let l = length-drop n s in rw (← l) (take-all (drop n s))
