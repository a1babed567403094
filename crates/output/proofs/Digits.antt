-- The digits of a code one by one, from the highest, and how long the texts of codes are.
-- Assumes nothing.
use mathlib.Core.Path.{◌≡◌, refl, sym, ◌∙◌, ap}
use mathlib.Core.List.{List, [], ◌∷◌, ◌++◌, append_assoc}
use Prim.Native.Nat.{ℕ, zero, suc, ◌+◌, ◌-◌, ◌*◌, ◌/◌, ◌%◌, ◌≤◌, ◌<◌}
use native.Mathlib.Omega.{arith}
use native.Mathlib.Decide.{dec_lt, dec_le}
use native.Mathlib.Numerals.{add-one}
use native.Mathlib.Nat.{div-div-eq-div-mul}
use lib.Dec.{eqb}
use lib.ListN.{length, length-append, get_or}
use borrow.Author.Tests.{le-leb, lt-leb}
use Rattle.spelling.specs.Spelling.{hex_digit, hex_from, code_text, span_text}
use Rattle.basics.specs.Basics.{letters}
use Rattle.basics.proofs.Tests.{cases}
use Rattle.characters.specs.Spans.{Span}
use Rattle.output.specs.Promise.{digit_at}
use Rattle.spelling.proofs.Back.{hex-low, hex-high, hex-append}

module _ (n unit : ℕ) where
  pub digit_yes : unit ≤ n → digit_at n unit ≡ hex_digit (n / unit % 16) ∷ []
  unfolding digit_at
  digit_yes h = rw (le-leb unit n h)

  pub digit_no : n < unit → digit_at n unit ≡ []
  unfolding digit_at
  digit_no h = rw (lt-leb unit n h)

  pub digit-small : length (digit_at n unit) ≤ 1
  digit-small = elim (dec_le unit n) [ yes h ↦ rw (digit_yes h) (omega arith) | no h ↦ rw (digit_no (omega arith)) (omega arith) ]

-- the digit of a sixteenth is the next higher one of the whole
digit_up : (n unit : ℕ) → digit_at (n / 16) unit ≡ digit_at n (16 * unit)
digit_up n unit =
    elim (dec_le unit (n / 16)) [
      | yes h ↦ digit_yes (n / 16) unit h ∙ ap (λ (q : ℕ). hex_digit (q % 16) ∷ []) (div-div-eq-div-mul n 16 unit) ∙ sym (digit_yes n (16 * unit) (omega arith))
      | no h ↦ digit_no (n / 16) unit (omega arith) ∙ sym (digit_no n (16 * unit) (omega arith))
    ]

-- the digits of n but the last, k at most
upper : (k n : ℕ) → List ℕ
upper zero n = []
upper (suc k) n = upper k (n / 16) ++ digit_at n 16

upper-none : (k : ℕ) → upper k 0 ≡ []
unfolding upper digit_at
upper-none zero = refl
upper-none (suc k) = rw (upper-none k)

hex-upper : (k n : ℕ) (rest : List ℕ) → hex_from (suc k) n rest ≡ upper k n ++ (hex_digit (n % 16) ∷ rest)
unfolding upper hex_from
hex-upper zero n rest =
    elim (dec_lt n 16) [
      | yes l ↦ let e : n ≡ n % 16 = omega arith in hex-low zero n rest l ∙ ap (λ (d : ℕ). hex_digit d ∷ rest) e
      | no l ↦ hex-high zero n rest (omega arith)
    ]
hex-upper (suc k) n rest =
    elim (dec_lt n 16) [
      | yes l ↦
          let z : n / 16 ≡ 0 = omega arith in
          let e : n ≡ n % 16 = omega arith in
          hex-low (suc k) n rest l ∙ ap (λ (d : ℕ). hex_digit d ∷ rest) e ∙ rw (z, upper-none k, digit_no n 16 l)
      | no l ↦
          hex-high (suc k) n rest (omega arith) ∙ hex-upper k (n / 16) (hex_digit (n % 16) ∷ rest)
          ∙ rw (digit_yes n 16 (omega arith), append_assoc (upper k (n / 16)))
    ]

-- all six, each at its power of 16
hex-digits : (n : ℕ)
    → ((((digit_at n 0x100000 ++ digit_at n 0x10000) ++ digit_at n 0x1000) ++ digit_at n 0x100) ++ digit_at n 0x10) ++ (hex_digit (n % 16) ∷ []) ≡ hex_from 6 n []
unfolding upper
hex-digits n =
    let a = digit_up n in
    let b = digit_up (n / 16) in
    let c = digit_up (n / 16 / 16) in
    let d = digit_up (n / 16 / 16 / 16) in
    sym (hex-upper 5 n [] ∙ rw (d 0x10, c 0x100, c 0x10, b 0x1000, b 0x100, b 0x10, a 0x10000, a 0x1000, a 0x100, a 0x10))

-- the powers of 16 of all digits but the last, from the highest
abbrev pub units : List ℕ
units = 0x100000 ∷ 0x10000 ∷ 0x1000 ∷ 0x100 ∷ 0x10 ∷ []

-- the first k of them
unfoldable pub first_digits : (n k : ℕ) → List ℕ
first_digits n zero = []
first_digits n (suc k) = first_digits n k ++ digit_at n (get_or units k 0)

pub first-next : (n k : ℕ) → first_digits n k ++ digit_at n (get_or units k 0) ≡ first_digits n (k + 1)
unfolding first_digits
first-next n k = rw (add-one) refl

pub first-small : (n k : ℕ) → length (first_digits n k) ≤ k
unfolding first_digits
first-small n zero = omega arith
first-small n (suc k) = omega (arith, length-append (first_digits n k) (digit_at n (get_or units k 0)), first-small n k, digit-small n (get_or units k 0))

pub first-all : (n : ℕ) → first_digits n 5 ++ (hex_digit (n % 16) ∷ []) ≡ hex_from 6 n []
unfolding first_digits
first-all n = hex-digits n

-- ------------------------------------------------------------------ how long texts are

pub hex-small : (k n : ℕ) (rest : List ℕ) → length (hex_from k n rest) ≤ k + length rest
unfolding hex_from
hex-small zero n rest = omega arith
hex-small (suc k) n rest =
    elim (dec_lt n 16) [
      | yes l ↦ rw (hex-low k n rest l) (omega arith)
      | no l ↦ let g : 16 ≤ n = omega arith in rw (hex-high k n rest g) (omega (arith, hex-small k (n / 16) (hex_digit (n % 16) ∷ rest)))
    ]

pub code-small : (c : ℕ) → length (code_text c) ≤ 10
unfolding code_text
code-small c = omega (arith, hex-small 6 c (0x7D ∷ []))

pub span_small : (s : Span) → length (span_text s) ≤ 21
unfolding span_text
span_small s =
    let a : List ℕ = code_text s.first in
    let b : List ℕ = code_text (s.past - 1) in
    cases (eqb (s.first + 1) s.past)
    (λ e. rw e (omega (arith, code-small s.first)))
    (λ e. rw (e, length-append (a ++ letters "-") b, length-append a (letters "-")) (omega (arith, code-small s.first, code-small (s.past - 1))))

-- the parts of `\u{HEX}`
pub code-parts : (c : ℕ) → ((((0x5C ∷ []) ++ (0x75 ∷ [])) ++ (0x7B ∷ [])) ++ hex_from 6 c []) ++ (0x7D ∷ []) ≡ code_text c
unfolding code_text
code-parts c = ap (λ (l : List ℕ). 0x5C ∷ 0x75 ∷ 0x7B ∷ l) (hex-append 6 c [] (0x7D ∷ []))
