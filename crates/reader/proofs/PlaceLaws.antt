-- Where kinds stand, and how sizes become places.
-- Assumes nothing.
use Prim.Native.Nat.{ℕ, zero, suc, ◌+◌, ◌≤◌, ◌<◌}
use native.Mathlib.Omega.{arith}
use mathlib.Core.Path.{◌≡◌, refl, ap, sym, ◌∙◌}
use mathlib.Core.Bool.{Bool, true, false}
use mathlib.Core.List.{List, [], ◌∷◌, ◌++◌, append_assoc, append-nil}
use lib.Dec.{T, eqb, eqb→eq, eqb_refl, eqb-suc-zero, eqb-zero-suc, eqb-suc-suc}
use lib.ListN.{length, length-set, take, drop, get_or, set}
use lib.Seq.{take-suc-set, drop-set-lt, drop-cons, take_all, drop-length}
use Rattle.basics.specs.Basics.{if◌then◌otherwise◌}
use Rattle.reader.specs.Places.{place_in, sum, lined_up}

-- ------------------------------------------------------------------ the place of a kind

-- no kind stands twice
abbrev pub Missing : ℕ → List ℕ → Type 0
Missing k [] = Unit {0}
Missing k (x ∷ xs) = (eqb x k ≡ false) × Missing k xs

abbrev pub Distinct : List ℕ → Type 0
Distinct [] = Unit {0}
Distinct (k ∷ ks) = Missing k ks × Distinct ks

missing_at : (k : ℕ) (xs : List ℕ) → Missing k xs → (i : ℕ) → i < length xs → eqb (get_or xs i 0) k ≡ false
missing_at k [] h i l = absurd (omega arith)
missing_at k (x ∷ xs) h zero l = h.0
missing_at k (x ∷ xs) h (suc i) l = missing_at k xs h.1 i (omega arith)

pub eqb_same : (k : ℕ) → eqb k k ≡ true
eqb_same k = go (eqb k k) (eqb_refl k)
  where
    go : (b : Bool) → T b → b ≡ true
    go true t = refl
    go false t = absurd t

pub place_at : (ks : List ℕ) → Distinct ks → (i : ℕ) → i < length ks → place_in ks (get_or ks i 0) ≡ i
unfolding place_in
place_at [] d i l = absurd (omega arith)
place_at (k ∷ ks) d zero l = rw (eqb_same k)
place_at (k ∷ ks) d (suc i) l = rw (missing_at k ks d.0 i (omega arith), place_at ks d.1 i (omega arith))

-- a kind that is none of them stands behind
abbrev pub Absent : ℕ → List ℕ → Type 0
Absent k [] = Unit {0}
Absent k (x ∷ xs) = (k ≡ x → ⊥) × Absent k xs

pub place-behind : (k : ℕ) (ks : List ℕ) → Absent k ks → place_in ks k ≡ length ks
unfolding place_in
place-behind k [] h = refl
place-behind k (x ∷ xs) h = go (eqb k x) refl (place-behind k xs h.1)
  where
    go : (b : Bool) → eqb k x ≡ b → place_in xs k ≡ length xs → (if b then 0 otherwise suc (place_in xs k)) ≡ suc (length xs)
    go true e i = absurd (h.0 (eqb→eq k x (rw e tt)))
    go false e i = ap suc i

pub place-within : (ks : List ℕ) (k : ℕ) → place_in ks k ≤ length ks
unfolding place_in
place-within [] k = omega arith
place-within (x ∷ xs) k = go (eqb k x) (place-within xs k)
  where
    go : (b : Bool) → place_in xs k ≤ length xs → (if b then 0 otherwise suc (place_in xs k)) ≤ suc (length xs)
    go true h = omega arith
    go false h = omega arith

-- it stands at a place exactly if it is the kind there
pub place_test : (ks : List ℕ) → Distinct ks → (k i : ℕ) → i < length ks → eqb (place_in ks k) i ≡ eqb k (get_or ks i 0)
unfolding place_in
place_test [] d k i l = absurd (omega arith)
place_test (x ∷ xs) d k zero l = go (eqb k x)
  where
    go : (b : Bool) → eqb (if b then 0 otherwise suc (place_in xs k)) 0 ≡ b
    go true = refl
    go false = eqb-suc-zero (place_in xs k)
place_test (x ∷ xs) d k (suc i) l = go (eqb k x) refl (place_test xs d.1 k i (omega arith))
  where
    go : (b : Bool) → eqb k x ≡ b → eqb (place_in xs k) i ≡ eqb k (get_or xs i 0) → eqb (if b then 0 otherwise suc (place_in xs k)) (suc i) ≡ eqb k (get_or xs i 0)
    go true e r =
        let z : k ≡ x = eqb→eq k x (rw e tt) in
        let m = missing_at x xs d.0 i (omega arith) in
        eqb-zero-suc i ∙ rw z (other (eqb x (get_or xs i 0)) refl m)
      where
        other : (b : Bool) → eqb x (get_or xs i 0) ≡ b → eqb (get_or xs i 0) x ≡ false → false ≡ b
        other true q m = absurd (let z : x ≡ get_or xs i 0 = eqb→eq x (get_or xs i 0) (rw q tt) in let y : eqb (get_or xs i 0) (get_or xs i 0) ≡ false = rw z at m in let w = eqb_refl (get_or xs i 0) in rw y at w)
        other false q m = refl
    go false e r = eqb-suc-suc (place_in xs k) i ∙ r

-- ------------------------------------------------------------------ sizes become places

-- the first i are places, the rest sizes
pub record Lining (from : ℕ) (sizes₀ sizes : List ℕ) (at i : ℕ) : Type 0 where
  pub is : lined_up from sizes₀ ≡ take i sizes ++ lined_up at (drop i sizes)
  pub left : at + sum (drop i sizes) ≡ from + sum sizes₀
  pub same : length sizes ≡ length sizes₀
  pub within : i ≤ length sizes

pub lining_start : (from : ℕ) (sizes : List ℕ) → Lining from sizes sizes from 0
lining_start from sizes = record { is = refl; left = omega arith; same = refl; within = omega arith }

module _ {from : ℕ} {sizes₀ sizes : List ℕ} {at i : ℕ} (l : Lining from sizes₀ sizes at i) where
  module _ (h : i < length sizes) where
    lining_sum : sum (drop i sizes) ≡ get_or sizes i 0 + sum (drop (i + 1) sizes)
    unfolding sum
    lining_sum = let n : suc i ≡ i + 1 = omega arith in ap sum (drop-cons sizes i 0 h) ∙ ap (λ (k : ℕ). get_or sizes i 0 + sum (drop k sizes)) n

    pub lining_small : from + sum sizes₀ < 0x10000000000000000 → at + get_or sizes i 0 < 0x10000000000000000
    lining_small z = let a = lining_sum in let b = l.left in omega arith

    pub lining_next : {next : List ℕ} → next ≡ set sizes i at → Lining from sizes₀ next (at + get_or sizes i 0) (i + 1)
    unfolding lined_up
    lining_next e =
        let n : suc i ≡ i + 1 = omega arith in
        let a = lining_sum in
        let b = l.left in
        let d : drop (i + 1) (set sizes i at) ≡ drop (i + 1) sizes = drop-set-lt (i + 1) sizes i at (omega arith) in
        let t : take (i + 1) (set sizes i at) ≡ take i sizes ++ at ∷ [] = ap (λ (k : ℕ). take k (set sizes i at)) (sym n) ∙ take-suc-set sizes i at h in
        let c : drop i sizes ≡ get_or sizes i 0 ∷ drop (i + 1) sizes = drop-cons sizes i 0 h ∙ rw n in
        record {
          is = l.is ∙ rw (e, t, d, c) (sym (append_assoc (take i sizes) (at ∷ []) (lined_up (at + get_or sizes i 0) (drop (i + 1) sizes))));
          left = rw (e, d) (omega arith);
          same = rw e (length-set sizes i at ∙ l.same);
          within = rw (e, length-set sizes i at) (omega arith);
        }

  pub lining_done : length sizes ≤ i → sizes ≡ lined_up from sizes₀
  unfolding lined_up
  lining_done h =
      let w = l.within in
      let e : i ≡ length sizes = omega arith in
      sym (l.is ∙ rw (e, drop-length sizes, append-nil) (take_all (length sizes) sizes (omega arith)))
