-- Below 0x80 a class that a table gives is one that a few tests give: a computed test at each code.
-- Assumes nothing.
use mathlib.Core.Path.{◌≡◌, refl}
use mathlib.Core.Bool.{Bool, true, false, ◌&&◌}
use Prim.Native.Nat.{ℕ, zero, suc, ◌≤◌, ◌<◌}
use native.Mathlib.Nat.{not-suc-le-zero}
use native.Mathlib.Decide.{ℕ_discrete}
use native.Mathlib.Omega.{arith}
use lib.Dec.{T}
use borrow.Author.Tests.{ne_eqb}
use Rattle.basics.proofs.Tests.{and_left, and_right, within_hi}
use Rattle.characters.specs.Spans.{in_spans}
use Rattle.characters.specs.Alphabetic.{is_alphabetic, spans}
use Rattle.characters.specs.Classes.{is_whitespace, white_space, is_word}
use Rattle.characters.specs.Promise.{is_ascii_letter, is_ascii_space, is_ascii_word}

same : Bool → Bool → Bool
same true b = b
same false true = false
same false false = true

same_out : (a b : Bool) → T (same a b) → a ≡ b
unfolding same
same_out true true t = refl
same_out true false t = absurd t
same_out false true t = absurd t
same_out false false t = refl

-- two tests agree at each number below n
agree : (f g : ℕ → Bool) → ℕ → Bool
agree f g zero = true
agree f g (suc n) = same (f n) (g n) && agree f g n

agree_at : (f g : ℕ → Bool) (n : ℕ) → T (agree f g n) → (k : ℕ) → k < n → f k ≡ g k
unfolding agree
agree_at f g zero t k h = absurd (not-suc-le-zero h)
agree_at f g (suc n) t k h =
    elim (ℕ_discrete k n) [
      | yes e ↦ rw e (same_out (f n) (g n) (and_left (same (f n) (g n)) (agree f g n) t))
      | no d ↦ agree_at f g n (and_right (same (f n) (g n)) (agree f g n) t) k (less d)
    ]
  where
    less : (k ≡ n → ⊥) → k < n
    less d = omega arith

letters-agree : T (agree is_alphabetic is_ascii_letter 0x80)
unfolding agree same is_alphabetic is_ascii_letter in_spans spans
letters-agree = tt

pub ascii-letter : (k : ℕ) → k < 0x80 → is_alphabetic k ≡ is_ascii_letter k
ascii-letter k h = agree_at is_alphabetic is_ascii_letter 0x80 letters-agree k h

spaces_agree : T (agree is_whitespace is_ascii_space 0x80)
unfolding agree same is_whitespace is_ascii_space in_spans white_space
spaces_agree = tt

pub ascii-space : (k : ℕ) → k < 0x80 → is_whitespace k ≡ is_ascii_space k
ascii-space k h = agree_at is_whitespace is_ascii_space 0x80 spaces_agree k h

pub ascii-word : (k : ℕ) → k < 0x80 → is_word k ≡ is_ascii_word k
unfolding is_word is_ascii_word
ascii-word k h = rw (ascii-letter k h)

-- above, only Alphabetic codes are in words
pub wide_word : (k : ℕ) → 0x80 ≤ k → is_word k ≡ is_alphabetic k
unfolding is_word
wide_word k h = simp (ne_eqb k 0x5F (λ e. omega arith), ne_eqb k 0x2D (λ e. omega arith), within_hi 0x30 0x39 k (omega arith))
