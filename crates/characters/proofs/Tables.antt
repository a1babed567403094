-- A place of an ascending list of span ends says whether a code lies in a span. Holds for any table.
-- Assumes nothing.
use mathlib.Core.Path.{◌≡◌, refl}
use mathlib.Core.Bool.{Bool, true, false}
use mathlib.Core.List.{List, [], ◌∷◌}
use Prim.Native.Nat.{ℕ, zero, suc, ◌%◌, ◌≤◌, ◌<◌, zero-le, suc-le-suc}
use native.Mathlib.Nat.{le_refl, le_of_lt, le_of_suc-le-suc, not-suc-le-zero}
use native.Mathlib.Omega.{arith}
use lib.Dec.{T, leb, ltb, eqb, ltb→lt}
use Rattle.std.specs.List.Sorted.{IsPartitionedBy, IsPartitionPoint}
use Rattle.std.proofs.lemmas.List.Sorted.{IsPartitionedBy-leb, IsNonDecreasingBy-from_default}
use lib.ListN.{length, get_or}
use borrow.Author.Tests.{lt-ltb, le-ltb, le-leb, lt-leb, leb-true, leb-false}
use Rattle.basics.proofs.Tests.{and_left, and_right}
use Rattle.characters.specs.Spans.{Span, in_spans}
use Rattle.characters.specs.Promise.{flat, ascending, Split}

above : (l : List ℕ) (a : ℕ) → T (ascending a l) → (k : ℕ) → k < length l → a < get_or l k 0
unfolding ascending
above [] a t k h = absurd (not-suc-le-zero h)
above (b ∷ l) a t zero h = ltb→lt a b (and_left (ltb a b) (ascending b l) t)
above (b ∷ l) a t (suc k) h =
    let i = ltb→lt a b (and_left (ltb a b) (ascending b l) t) in
    let r = above l b (and_right (ltb a b) _ t) k (le_of_suc-le-suc h) in omega arith

sorted : (l : List ℕ) (a : ℕ) → T (ascending a l) → (p q : ℕ) → p ≤ q → q < length l → get_or l p 0 ≤ get_or l q 0
unfolding ascending
sorted [] a t p q i h = absurd (not-suc-le-zero h)
sorted (b ∷ l) a t zero zero i h = le_refl b
sorted (b ∷ l) a t zero (suc q) i h = le_of_lt (above l b (and_right (ltb a b) _ t) q (le_of_suc-le-suc h))
sorted (b ∷ l) a t (suc p) zero i h = absurd (not-suc-le-zero i)
sorted (b ∷ l) a t (suc p) (suc q) i h = sorted l b (and_right (ltb a b) _ t) p q (le_of_suc-le-suc i) (le_of_suc-le-suc h)

-- ------------------------------------------------------------------ an odd number of ends is at most a code in a span

odd : ℕ → Bool
odd zero = false
odd (suc zero) = true
odd (suc (suc k)) = odd k

tail2 : {a b x k : ℕ} {l : List ℕ} → Split (a ∷ b ∷ l) x (suc (suc k)) → Split l x k
tail2 s = record {
  within = le_of_suc-le-suc (le_of_suc-le-suc s.within);
  upto = λ i h. s.upto (suc (suc i)) (suc-le-suc (suc-le-suc h));
  rest = λ i h h'. s.rest (suc (suc i)) (suc-le-suc (suc-le-suc h)) (suc-le-suc (suc-le-suc h'));
}

tail0 : {a b x : ℕ} {l : List ℕ} → Split (a ∷ b ∷ l) x 0 → Split l x 0
tail0 s = record {
  within = zero-le;
  upto = λ i h. absurd (not-suc-le-zero h);
  rest = λ i h h'. s.rest (suc (suc i)) zero-le (suc-le-suc (suc-le-suc h'));
}

in_odd : (l : List Span) (x k : ℕ) → Split (flat l) x k → in_spans l x ≡ odd k
unfolding in_spans flat odd
in_odd [] x zero s = refl
in_odd [] x (suc k) s = absurd (not-suc-le-zero s.within)
in_odd (p ∷ l) x zero s = simp (lt-leb _ _ (s.rest 0 zero-le (omega arith))) (in_odd l x 0 (tail0 s))
in_odd (p ∷ l) x (suc zero) s = simp (le-leb _ _ (s.upto 0 (omega arith)), lt-ltb _ _ (s.rest 1 (omega arith) (omega arith)))
in_odd (p ∷ l) x (suc (suc k)) s =
    simp (le-leb _ _ (s.upto 0 (omega arith)), le-ltb _ _ (s.upto 1 (omega arith))) (in_odd l x k (tail2 s))

odd_mod : (k : ℕ) → odd k ≡ eqb (k % 2) 1
unfolding odd
odd_mod zero = refl
odd_mod (suc zero) = refl
odd_mod (suc (suc k)) = let e : suc (suc k) % 2 ≡ k % 2 = omega arith in rw e (odd_mod k)

pub in-spans : (l : List Span) (x k : ℕ) → Split (flat l) x k → in_spans l x ≡ eqb (k % 2) 1
in-spans l x k s = rw (← odd_mod k) (in_odd l x k s)

-- ------------------------------------------------------------------ the search

module _ (l : List ℕ) (x : ℕ) where
  pub partitioned : T (ascending 0 l) → IsPartitionedBy (λ y. leb y x) l
  partitioned t = IsPartitionedBy-leb (λ y. y) l x (IsNonDecreasingBy-from_default (λ y. y) l 0 (sorted l 0 t))

  pub split : (k : ℕ) → k ≤ length l → IsPartitionPoint (λ y. leb y x ≡ true) (λ y. leb y x ≡ false) l k → Split l x k
  split k h p = record {
    within = h;
    upto = λ i i<. leb-true _ _ (p.0 i 0 zero-le i<);
    rest = λ i i≥ i<. leb-false _ _ (p.1 i 0 i≥ i<);
  }
