-- The digits of a number, one after another, and the line of a refusal.
-- Assumes nothing.
use Prim.Native.Nat.{ℕ, zero, suc, ◌+◌, ◌-◌, ◌/◌, ◌%◌, ◌≤◌, ◌<◌, ◌^◌}
use mathlib.Core.Path.{◌≡◌, refl, sym, ◌∙◌, ap}
use mathlib.Core.List.{List, [], ◌∷◌, ◌++◌, append_assoc}
use native.Mathlib.Omega.{arith}
use native.Mathlib.Nat.{div-lt_iff_lt-mul, zero-lt-suc, pow-suc}
use lib.Dec.{ltb}
use lib.ListN.{length, take, drop}
use borrow.Rule.Slice.PartMut.{put_mid}
use borrow.Author.Tests.{lt-ltb, le-ltb}
use Rattle.basics.specs.Basics.{letters}
use Rattle.basics.proofs.Tests.{cases}
use Rattle.output.specs.Promise.{Wrote}
use Rattle.output.proofs.Writes.{then}
use Rattle.error.specs.Lines.{Refusal}
use Rattle.grammar.specs.Program.{decimal_from, decimal, refusal_line}
use Rattle.printing.specs.Promise.{WroteDigits}

-- what follows the digits stands behind them
pub digits-then : (k n : ℕ) (rest : List ℕ) → decimal_from k n rest ≡ decimal_from k n [] ++ rest
unfolding decimal_from
digits-then zero n rest = refl
digits-then (suc k) n rest =
    cases (ltb n 10)
    (λ e. rw (decimal_from, e))
    (λ e. rw (decimal_from, e) (digits-then k (n / 10) ((0x30 + n % 10) ∷ rest) ∙ sym (append_assoc (decimal_from k (n / 10) []) ((0x30 + n % 10) ∷ []) rest) ∙ ap (λ (l : List ℕ). l ++ rest) (sym (digits-then k (n / 10) ((0x30 + n % 10) ∷ [])))))

-- there are as many as are allowed at most
pub digits-few : (k n : ℕ) (rest : List ℕ) → length (decimal_from k n rest) ≤ k + length rest
unfolding decimal_from
digits-few zero n rest = omega arith
digits-few (suc k) n rest =
    cases (ltb n 10)
    (λ e. rw (decimal_from, e) (omega arith))
    (λ e. rw (decimal_from, e) (omega (arith, digits-few k (n / 10) ((0x30 + n % 10) ∷ rest))))

-- a number below ten
pub one-digit : {n m : ℕ} {old new : List ℕ} → n < 10 → Wrote ((0x30 + n) ∷ []) old new m → WroteDigits n old new m
unfolding decimal_from
one-digit {n} h a k g = rw (decimal_from, lt-ltb n 10 h) a

-- any other has its last digit behind those of its tenth
pub more-digits : {n m l at : ℕ} {old mid part : List ℕ} → 10 ≤ n → WroteDigits (n / 10) old mid m
    → (at ≤ length mid) × (m ≤ length mid → at ≡ m) → Wrote ((0x30 + n % 10) ∷ []) (take (length mid - at) (drop at mid)) part l
    → WroteDigits n old (put_mid at (length mid - at) mid part) (m + l)
unfolding decimal_from
more-digits h d e a zero g = absurd (omega arith)
more-digits {n} h d e a (suc k) g =
    let b : n / 10 < 10 ^ suc k = (div-lt_iff_lt-mul (zero-lt-suc 9)).1 (rw (pow-suc 10 (suc k)) at g) in
    rw (decimal_from, le-ltb n 10 h, digits-then (suc k) (n / 10) ((0x30 + n % 10) ∷ [])) (then (d k b) e a)

-- twenty digits are enough for 64 bits
pub of_word : {v m : ℕ} {old new : List ℕ} → v < 2 ^ 64 → WroteDigits v old new m → Wrote (decimal v []) old new m
of_word h d = d 19 (omega arith)

pub word-few : {v m : ℕ} {old new : List ℕ} → v < 2 ^ 64 → WroteDigits v old new m → m ≤ 20
word-few {v} h d = omega (arith, (of_word h d).counts, digits-few 20 v [])

-- ------------------------------------------------------------------ the line

-- a number behind a few bytes, and what follows
numbered : (k : ℕ) (label : List ℕ) (v : ℕ) (rest : List ℕ) → (label ++ decimal_from k v []) ++ rest ≡ label ++ decimal_from k v rest
numbered k label v rest = append_assoc label (decimal_from k v []) rest ∙ ap (λ (l : List ℕ). label ++ l) (sym (digits-then k v rest))

in_row : (a b c d e : List ℕ) → (((a ++ b) ++ c) ++ d) ++ e ≡ a ++ (b ++ (c ++ (d ++ e)))
in_row a b c d e = simp append_assoc

-- four of them
four : (k : ℕ) (p : List ℕ) (v : ℕ) (q : List ℕ) (w : ℕ) (s : List ℕ) (x : ℕ) (t : List ℕ) (y : ℕ) (e : List ℕ)
    → ((((p ++ decimal_from k v []) ++ (q ++ decimal_from k w [])) ++ (s ++ decimal_from k x [])) ++ (t ++ decimal_from k y [])) ++ e
    ≡ p ++ decimal_from k v (q ++ decimal_from k w (s ++ decimal_from k x (t ++ decimal_from k y e)))
four k p v q w s x t y e =
    in_row (p ++ decimal_from k v []) (q ++ decimal_from k w []) (s ++ decimal_from k x []) (t ++ decimal_from k y []) e
    ∙ ap (λ (l : List ℕ). (p ++ decimal_from k v []) ++ l)
    (ap (λ (l : List ℕ). (q ++ decimal_from k w []) ++ l) (ap (λ (l : List ℕ). (s ++ decimal_from k x []) ++ l) (numbered k t y e) ∙ numbered k s x _)
    ∙ numbered k q w _)
    ∙ numbered k p v _

-- the parts of a refusal's line, as they are written
pub line-parts : (r : Refusal)
    → ((((letters "refused " ++ decimal r.cause []) ++ (letters " at " ++ decimal r.place [])) ++ (letters " line " ++ decimal r.line [])) ++ (letters " column " ++ decimal r.column []))
    ++ letters "\n" ≡ refusal_line r
unfolding refusal_line
line-parts r = four 20 (letters "refused ") r.cause (letters " at ") r.place (letters " line ") r.line (letters " column ") r.column (letters "\n")
