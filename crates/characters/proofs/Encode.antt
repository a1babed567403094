-- The bytes of a code, and that they are read as that code.
-- Assumes nothing.
use mathlib.Core.Path.{◌≡◌, ap}
use mathlib.Core.Bool.{true, false}
use mathlib.Core.List.{List, [], ◌∷◌, ◌++◌}
use mathlib.Core.Logic.{◌⊎◌, inl, inr, ⊎_elim}
use Prim.Native.Nat.{ℕ, ◌+◌, ◌*◌, ◌/◌, ◌%◌, ◌≤◌, ◌<◌}
use native.Mathlib.Decide.{dec_lt}
use native.Mathlib.Omega.{arith}
use lib.Dec.{leb, ltb}
use lib.ListN.{length, get_or}
use borrow.Author.Tests.{lt-ltb, le-ltb, le-leb, ltb-true, leb-true}
use Rattle.std.proofs.Common.{Some}
use Rattle.basics.specs.Basics.{within}
use Rattle.basics.proofs.Tests.{cases, both_true, within_yes, within_hi}
use Rattle.characters.specs.Utf8.{row, lead_len, char_of, first_char, is_scalar, encode, width}

-- ------------------------------------------------------------------ scalars

abbrev pub IsScalar : ℕ → Type 0
IsScalar c = is_scalar c ≡ true

module _ (c : ℕ) where
  pub scalar-low : c < 0xD800 → IsScalar c
  unfolding is_scalar
  scalar-low h = rw (lt-ltb c 0xD800 h)

  pub scalar-high : 0xE000 ≤ c → c < 0x110000 → IsScalar c
  unfolding is_scalar
  scalar-high h g = rw (le-ltb c 0xD800 (omega arith), le-leb 0xE000 c h, lt-ltb c 0x110000 g)

  pub scalar_cases : IsScalar c → (c < 0xD800) ⊎ ((0xE000 ≤ c) × (c < 0x110000))
  unfolding is_scalar
  scalar_cases s =
      cases (ltb c 0xD800) (λ e. inl (ltb-true c 0xD800 e))
      (λ e. let h = both_true (leb 0xE000 c) (ltb c 0x110000) (rw e at s) in inr (leb-true 0xE000 c h.0, ltb-true c 0x110000 h.1))

  pub scalar-top : IsScalar c → c < 0x110000
  scalar-top s = ⊎_elim (λ t. omega arith) (λ t. omega arith) (scalar_cases s)

-- ------------------------------------------------------------------ the bytes of a code by its size

module _ (c : ℕ) where
  pub encode_1 : c < 0x80 → encode c ≡ c ∷ []
  unfolding encode
  encode_1 h = rw (lt-ltb c 0x80 h)

  pub encode_2 : 0x80 ≤ c → c < 0x800 → encode c ≡ (0xC0 + c / 64) ∷ (0x80 + c % 64) ∷ []
  unfolding encode
  encode_2 h g = rw (le-ltb c 0x80 h, lt-ltb c 0x800 g)

  pub encode_3 : 0x800 ≤ c → c < 0x10000 → encode c ≡ (0xE0 + c / 4096) ∷ (0x80 + c / 64 % 64) ∷ (0x80 + c % 64) ∷ []
  unfolding encode
  encode_3 h g = rw (le-ltb c 0x80 (omega arith), le-ltb c 0x800 h, lt-ltb c 0x10000 g)

  pub encode_4 : 0x10000 ≤ c → encode c ≡ (0xF0 + c / 262144) ∷ (0x80 + c / 4096 % 64) ∷ (0x80 + c / 64 % 64) ∷ (0x80 + c % 64) ∷ []
  unfolding encode
  encode_4 h = rw (le-ltb c 0x80 (omega arith), le-ltb c 0x800 (omega arith), le-ltb c 0x10000 h)

  -- what holds of the bytes in each of the four sizes
  pub by_size {ℓ} : (P : List ℕ → Type ℓ) → (c < 0x80 → P (c ∷ []))
      → (0x80 ≤ c → c < 0x800 → P ((0xC0 + c / 64) ∷ (0x80 + c % 64) ∷ []))
      → (0x800 ≤ c → c < 0x10000 → P ((0xE0 + c / 4096) ∷ (0x80 + c / 64 % 64) ∷ (0x80 + c % 64) ∷ []))
      → (0x10000 ≤ c → P ((0xF0 + c / 262144) ∷ (0x80 + c / 4096 % 64) ∷ (0x80 + c / 64 % 64) ∷ (0x80 + c % 64) ∷ []))
      → P (encode c)
  by_size P p₁ p₂ p₃ p₄ =
      elim (dec_lt c 0x80) [
        | yes h₁ ↦ rw (encode_1 h₁) (p₁ h₁)
        | no h₁ ↦ elim (dec_lt c 0x800) [
          | yes h₂ ↦ rw (encode_2 (omega arith) h₂) (p₂ (omega arith) h₂)
          | no h₂ ↦ elim (dec_lt c 0x10000) [
            | yes h₃ ↦ rw (encode_3 (omega arith) h₃) (p₃ (omega arith) h₃)
            | no h₃ ↦ rw (encode_4 (omega arith)) (p₄ (omega arith))
          ]
        ]
      ]

  pub width_some : 1 ≤ width c
  width_some = by_size (λ (l : List ℕ). 1 ≤ length l) (λ _. omega arith) (λ _ _. omega arith) (λ _ _. omega arith) (λ _. omega arith)

  pub width_small : width c ≤ 4
  width_small = by_size (λ (l : List ℕ). length l ≤ 4) (λ _. omega arith) (λ _ _. omega arith) (λ _ _. omega arith) (λ _. omega arith)

  pub ascii-wide : c < 0x80 → width c ≡ 1
  ascii-wide h = rw (encode_1 h)

-- ------------------------------------------------------------------ reading them

module _ (alo ahi blo bhi a b : ℕ) where
  row_yes : alo ≤ a → a ≤ ahi → blo ≤ b → b ≤ bhi → row alo ahi blo bhi a b ≡ true
  unfolding row
  row_yes h h' g g' = simp (within_yes alo ahi a h h', within_yes blo bhi b g g')

  row_hi : ahi < a → row alo ahi blo bhi a b ≡ false
  unfolding row
  row_hi h = simp (within_hi alo ahi a h)

-- the rows of table 3-7 that a first byte is past, and the length that each row gives
module _ (a b : ℕ) where
  not_1 : 0x80 ≤ a → within 0x00 0x7F a ≡ false
  not_1 h = within_hi 0x00 0x7F a h

  not_2 : 0xE0 ≤ a → row 0xC2 0xDF 0x80 0xBF a b ≡ false
  not_2 h = row_hi 0xC2 0xDF 0x80 0xBF a b h

  not_E0 : 0xE1 ≤ a → row 0xE0 0xE0 0xA0 0xBF a b ≡ false
  not_E0 h = row_hi 0xE0 0xE0 0xA0 0xBF a b h

  not_E1 : 0xED ≤ a → row 0xE1 0xEC 0x80 0xBF a b ≡ false
  not_E1 h = row_hi 0xE1 0xEC 0x80 0xBF a b h

  not_ED : 0xEE ≤ a → row 0xED 0xED 0x80 0x9F a b ≡ false
  not_ED h = row_hi 0xED 0xED 0x80 0x9F a b h

  not_EE : 0xF0 ≤ a → row 0xEE 0xEF 0x80 0xBF a b ≡ false
  not_EE h = row_hi 0xEE 0xEF 0x80 0xBF a b h

  not_F0 : 0xF1 ≤ a → row 0xF0 0xF0 0x90 0xBF a b ≡ false
  not_F0 h = row_hi 0xF0 0xF0 0x90 0xBF a b h

  not_F1 : 0xF4 ≤ a → row 0xF1 0xF3 0x80 0xBF a b ≡ false
  not_F1 h = row_hi 0xF1 0xF3 0x80 0xBF a b h

  pub lead_1 : a < 0x80 → lead_len a b ≡ 1
  unfolding lead_len
  lead_1 h = rw (within_yes 0x00 0x7F a (omega arith) (omega arith))

  pub lead_2 : 0xC2 ≤ a → a ≤ 0xDF → 0x80 ≤ b → b ≤ 0xBF → lead_len a b ≡ 2
  unfolding lead_len
  lead_2 h h' g g' = rw (not_1 (omega arith), row_yes 0xC2 0xDF 0x80 0xBF a b h h' g g')

  pub lead-E0 : 0xE0 ≤ a → a ≤ 0xE0 → 0xA0 ≤ b → b ≤ 0xBF → lead_len a b ≡ 3
  unfolding lead_len
  lead-E0 h h' g g' = rw (not_1 (omega arith), not_2 (omega arith), row_yes 0xE0 0xE0 0xA0 0xBF a b h h' g g')

  pub lead_E1 : 0xE1 ≤ a → a ≤ 0xEC → 0x80 ≤ b → b ≤ 0xBF → lead_len a b ≡ 3
  unfolding lead_len
  lead_E1 h h' g g' = rw (not_1 (omega arith), not_2 (omega arith), not_E0 (omega arith), row_yes 0xE1 0xEC 0x80 0xBF a b h h' g g')

  pub lead-ED : 0xED ≤ a → a ≤ 0xED → 0x80 ≤ b → b ≤ 0x9F → lead_len a b ≡ 3
  unfolding lead_len
  lead-ED h h' g g' =
      rw (not_1 (omega arith), not_2 (omega arith), not_E0 (omega arith), not_E1 (omega arith), row_yes 0xED 0xED 0x80 0x9F a b h h' g g')

  pub lead_EE : 0xEE ≤ a → a ≤ 0xEF → 0x80 ≤ b → b ≤ 0xBF → lead_len a b ≡ 3
  unfolding lead_len
  lead_EE h h' g g' =
      rw (
        not_1 (omega arith),
        not_2 (omega arith),
        not_E0 (omega arith),
        not_E1 (omega arith),
        not_ED (omega arith),
        row_yes 0xEE 0xEF 0x80 0xBF a b h h' g g',
      )

  pub lead-F0 : 0xF0 ≤ a → a ≤ 0xF0 → 0x90 ≤ b → b ≤ 0xBF → lead_len a b ≡ 4
  unfolding lead_len
  lead-F0 h h' g g' =
      rw (
        not_1 (omega arith),
        not_2 (omega arith),
        not_E0 (omega arith),
        not_E1 (omega arith),
        not_ED (omega arith),
        not_EE (omega arith),
        row_yes 0xF0 0xF0 0x90 0xBF a b h h' g g',
      )

  pub lead_F1 : 0xF1 ≤ a → a ≤ 0xF3 → 0x80 ≤ b → b ≤ 0xBF → lead_len a b ≡ 4
  unfolding lead_len
  lead_F1 h h' g g' =
      rw (
        not_1 (omega arith),
        not_2 (omega arith),
        not_E0 (omega arith),
        not_E1 (omega arith),
        not_ED (omega arith),
        not_EE (omega arith),
        not_F0 (omega arith),
        row_yes 0xF1 0xF3 0x80 0xBF a b h h' g g',
      )

  pub lead-F4 : 0xF4 ≤ a → a ≤ 0xF4 → 0x80 ≤ b → b ≤ 0x8F → lead_len a b ≡ 4
  unfolding lead_len
  lead-F4 h h' g g' =
      rw (
        not_1 (omega arith),
        not_2 (omega arith),
        not_E0 (omega arith),
        not_E1 (omega arith),
        not_ED (omega arith),
        not_EE (omega arith),
        not_F0 (omega arith),
        not_F1 (omega arith),
        row_yes 0xF4 0xF4 0x80 0x8F a b h h' g g',
      )

-- a code is the sum of its parts of six bits
parts : {c q₁ q₂ q₃ r₁ r₂ r₃ w x y z : ℕ} → w ≡ q₃ → x ≡ r₃ → y ≡ r₂ → z ≡ r₁ → c ≡ q₁ * 64 + r₁ → q₁ ≡ q₂ * 64 + r₂ → q₂ ≡ q₃ * 64 + r₃
    → w * 262144 + x * 4096 + y * 64 + z ≡ c
parts a b d e f g h = omega arith

low : (r : ℕ) → (128 + r % 64) % 64 ≡ r % 64
low r = omega arith

module _ (c : ℕ) where
  whole : c < 0x110000
      → (0xF0 + c / 262144) % 8 * 262144 + (0x80 + c / 4096 % 64) % 64 * 4096 + (0x80 + c / 64 % 64) % 64 * 64 + (0x80 + c % 64) % 64 ≡ c
  whole h =
      let a : (0xF0 + c / 262144) % 8 ≡ c / 262144 = omega arith in
      let e₁ : c ≡ c / 64 * 64 + c % 64 = omega arith in
      let e₂ : c / 64 ≡ c / 4096 * 64 + c / 64 % 64 = omega arith in
      let e₃ : c / 4096 ≡ c / 262144 * 64 + c / 4096 % 64 = omega arith in
      parts a (low (c / 4096)) (low (c / 64)) (low c) e₁ e₂ e₃

  three : 0x800 ≤ c → c < 0x10000 → IsScalar c → lead_len (0xE0 + c / 4096) (0x80 + c / 64 % 64) ≡ 3
  three h h' s =
      elim (dec_lt c 0x1000) [
        | yes l ↦ lead-E0 _ _ (omega arith) (omega arith) (omega arith) (omega arith)
        | no l ↦ elim (dec_lt c 0xD000) [
          | yes l' ↦ lead_E1 _ _ (omega arith) (omega arith) (omega arith) (omega arith)
          | no l' ↦ ⊎_elim
              (λ t. lead-ED _ _ (omega arith) (omega arith) (omega arith) (omega arith))
              (λ t. lead_EE _ _ (omega arith) (omega arith) (omega arith) (omega arith)) (scalar_cases c s)
        ]
      ]

  four : 0x10000 ≤ c → c < 0x110000 → lead_len (0xF0 + c / 262144) (0x80 + c / 4096 % 64) ≡ 4
  four h h' =
      elim (dec_lt c 0x40000) [
        | yes l ↦ lead-F0 _ _ (omega arith) (omega arith) (omega arith) (omega arith)
        | no l ↦ elim (dec_lt c 0x100000) [
          | yes l' ↦ lead_F1 _ _ (omega arith) (omega arith) (omega arith) (omega arith)
          | no l' ↦ lead-F4 _ _ (omega arith) (omega arith) (omega arith) (omega arith)
        ]
      ]

  trail : (r : ℕ) → within 0x80 0xBF (0x80 + r % 64) ≡ true
  trail r = within_yes 0x80 0xBF (0x80 + r % 64) (omega arith) (omega arith)

  pub as_1 : (rest : List ℕ) → c < 0x80 → first_char (c ∷ rest) ≡ Some (c, 1)
  unfolding first_char char_of
  as_1 rest h = rw (lead_1 c (get_or rest 0 0) h)

  as_2 : (rest : List ℕ) → 0x80 ≤ c → c < 0x800 → first_char ((0xC0 + c / 64) ∷ (0x80 + c % 64) ∷ rest) ≡ Some (c, 2)
  unfolding first_char char_of
  as_2 rest h h' =
      rw (lead_2 (0xC0 + c / 64) (0x80 + c % 64) (omega arith) (omega arith) (omega arith) (omega arith))
      (ap (λ (m : ℕ). Some (m, 2)) (omega arith))

  as_3 : (rest : List ℕ) → IsScalar c → 0x800 ≤ c → c < 0x10000
      → first_char ((0xE0 + c / 4096) ∷ (0x80 + c / 64 % 64) ∷ (0x80 + c % 64) ∷ rest) ≡ Some (c, 3)
  unfolding first_char char_of
  as_3 rest s h h' = rw (three h h' s, trail c) (ap (λ (m : ℕ). Some (m, 3)) (omega arith))

  as_4 : (rest : List ℕ) → IsScalar c → 0x10000 ≤ c
      → first_char ((0xF0 + c / 262144) ∷ (0x80 + c / 4096 % 64) ∷ (0x80 + c / 64 % 64) ∷ (0x80 + c % 64) ∷ rest) ≡ Some (c, 4)
  unfolding first_char char_of
  as_4 rest s h = rw (four h (scalar-top c s), trail (c / 64), trail c) (ap (λ (m : ℕ). Some (m, 4)) (whole (scalar-top c s)))

  pub read_back : (rest : List ℕ) → IsScalar c → first_char (encode c ++ rest) ≡ Some (c, width c)
  read_back rest s =
      by_size c (λ (l : List ℕ). first_char (l ++ rest) ≡ Some (c, length l))
      (λ h. as_1 rest h) (λ h h'. as_2 rest h h') (λ h h'. as_3 rest s h h') (λ h. as_4 rest s h)
