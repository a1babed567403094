-- The length of a character by its first byte, once its second is known to be one that may follow.
-- Assumes nothing.
use mathlib.Core.Path.{◌≡◌, refl, sym, ◌∙◌}
use mathlib.Core.Bool.{true, false, true≢false, ◌&&◌}
use Prim.Native.Nat.{ℕ, ◌+◌, ◌*◌, ◌%◌, ◌≤◌, ◌<◌}
use Rattle.std.proofs.Common.{Some, None}
use native.Mathlib.Decide.{dec_lt}
use native.Mathlib.Omega.{arith}
use lib.Dec.{eqb}
use borrow.Author.Tests.{eqb-true, eqb-false}
use Rattle.basics.specs.Basics.{within}
use Rattle.basics.proofs.Tests.{cases, within-true, within_yes}
use Rattle.characters.specs.Utf8.{lead_len, char_of}
use Rattle.characters.specs.Promise.{is_second}
use Rattle.characters.proofs.Encode.{lead_1, lead_2, lead-E0, lead_E1, lead-ED, lead_EE, lead-F0, lead_F1, lead-F4}
use Rattle.characters.proofs.Heads.{Lead, one, two, three-low, three-high, four, none, lead}

-- what a second byte satisfies
pub record Second (a b : ℕ) : Type 0 where
  pub low : 0x80 ≤ b
  pub high : b ≤ 0xBF
  pub E0 : a ≡ 0xE0 → 0xA0 ≤ b
  pub ED : a ≡ 0xED → b ≤ 0x9F
  pub F0 : a ≡ 0xF0 → 0x90 ≤ b
  pub F4 : a ≡ 0xF4 → b ≤ 0x8F

module _ (a b : ℕ) where
  second_yes : Second a b → is_second a b ≡ true
  unfolding is_second
  second_yes s =
      let l = s.low in
      let h = s.high in
      cases (eqb a 0xE0) (λ e. rw e (within_yes 0xA0 0xBF b (s.E0 (eqb-true a 0xE0 e)) h))
      (λ e. rw e (cases (eqb a 0xED) (λ e. rw e (within_yes 0x80 0x9F b l (s.ED (eqb-true a 0xED e))))
      (λ e. rw e (cases (eqb a 0xF0) (λ e. rw e (within_yes 0x90 0xBF b (s.F0 (eqb-true a 0xF0 e)) h))
      (λ e. rw e (cases (eqb a 0xF4) (λ e. rw e (within_yes 0x80 0x8F b l (s.F4 (eqb-true a 0xF4 e))))
      (λ e. rw e (within_yes 0x80 0xBF b l h))))))))

  never : {A : Type 0} → is_second a b ≡ false → (a ≡ 0xE0 → 0xA0 ≤ b) → (a ≡ 0xED → b ≤ 0x9F) → (a ≡ 0xF0 → 0x90 ≤ b) → (a ≡ 0xF4 → b ≤ 0x8F)
      → 0x80 ≤ b → b ≤ 0xBF → A
  never f p q r s l h =
      let t = second_yes (record { low = l; high = h; E0 = p; ED = q; F0 = r; F4 = s }) in
      let z : true ≡ false = sym t ∙ f in absurd (true≢false z)

  second : (lo hi : ℕ) → 0x80 ≤ lo → hi ≤ 0xBF → (a ≡ 0xE0 → 0xA0 ≤ lo) → (a ≡ 0xED → hi ≤ 0x9F) → (a ≡ 0xF0 → 0x90 ≤ lo) → (a ≡ 0xF4 → hi ≤ 0x8F)
      → within lo hi b ≡ true → Second a b
  second lo hi l h p q r s e =
      let w = within-true lo hi b e in
      record {
        low = omega arith;
        high = omega arith;
        E0 = λ x. omega (arith, p x);
        ED = λ x. omega (arith, q x);
        F0 = λ x. omega (arith, r x);
        F4 = λ x. omega (arith, s x);
      }

  second-true : is_second a b ≡ true → Second a b
  unfolding is_second
  second-true =
      cases (eqb a 0xE0)
      (λ e. let x = eqb-true a 0xE0 e in
      rw e (second 0xA0 0xBF (omega arith) (omega arith) (λ y. omega arith) (λ y. omega arith) (λ y. omega arith) (λ y. omega arith)))
      (λ e₁. let n₁ = eqb-false a 0xE0 e₁ in rw e₁ (cases (eqb a 0xED)
      (λ e. let x = eqb-true a 0xED e in
      rw e (second 0x80 0x9F (omega arith) (omega arith) (λ y. omega arith) (λ y. omega arith) (λ y. omega arith) (λ y. omega arith)))
      (λ e₂. let n₂ = eqb-false a 0xED e₂ in rw e₂ (cases (eqb a 0xF0)
      (λ e. let x = eqb-true a 0xF0 e in
      rw e (second 0x90 0xBF (omega arith) (omega arith) (λ y. omega arith) (λ y. omega arith) (λ y. omega arith) (λ y. omega arith)))
      (λ e₃. let n₃ = eqb-false a 0xF0 e₃ in rw e₃ (cases (eqb a 0xF4)
      (λ e. let x = eqb-true a 0xF4 e in
      rw e (second 0x80 0x8F (omega arith) (omega arith) (λ y. omega arith) (λ y. omega arith) (λ y. omega arith) (λ y. omega arith)))
      (λ e₄. let n₄ = eqb-false a 0xF4 e₄ in
      rw e₄ (second 0x80 0xBF (omega arith) (omega arith) (λ y. omega arith) (λ y. omega arith) (λ y. omega arith) (λ y. omega arith)))))))))

  -- a first byte that no row has, or a second that no row has after it
  out-of_rows : {n : ℕ} → Lead a b n → 0x80 ≤ a → (0xC2 ≤ a → a < 0xF5 → is_second a b ≡ false) → n ≡ 0
  out-of_rows none h w = refl
  out-of_rows (one k) h w = absurd (omega arith)
  out-of_rows (two p q l k) h w = never (w (omega arith) (omega arith)) (λ y. omega arith) (λ y. omega arith) (λ y. omega arith) (λ y. omega arith) l k
  out-of_rows (three-low p q l k) h w = never (w (omega arith) (omega arith)) (λ y. omega arith) (λ y. omega arith) (λ y. omega arith) (λ y. omega arith) l k
  out-of_rows (three-high p q l k) h w = never (w (omega arith) (omega arith)) (λ y. omega arith) (λ y. omega arith) (λ y. omega arith) (λ y. omega arith) l k
  out-of_rows (four p q l k) h w = never (w (omega arith) (omega arith)) (λ y. omega arith) (λ y. omega arith) (λ y. omega arith) (λ y. omega arith) l k

  len_0 : 0x80 ≤ a → (0xC2 ≤ a → a < 0xF5 → is_second a b ≡ false) → lead_len a b ≡ 0
  len_0 h w = out-of_rows (lead a b) h w

  module _ (t : is_second a b ≡ true) where
    len_2 : 0xC2 ≤ a → a < 0xE0 → lead_len a b ≡ 2
    len_2 h h' = let s = second-true t in lead_2 a b h (omega arith) s.low s.high

    len_3 : 0xE0 ≤ a → a < 0xF0 → lead_len a b ≡ 3
    len_3 h h' =
        let s = second-true t in
        elim (dec_lt a 0xE1) [
          | yes l ↦ lead-E0 a b h (omega arith) (s.E0 (omega arith)) s.high
          | no l ↦ elim (dec_lt a 0xED) [
            | yes l' ↦ lead_E1 a b (omega arith) (omega arith) s.low s.high
            | no l' ↦ elim (dec_lt a 0xEE) [
              | yes l'' ↦ lead-ED a b (omega arith) (omega arith) s.low (s.ED (omega arith))
              | no l'' ↦ lead_EE a b (omega arith) (omega arith) s.low s.high
            ]
          ]
        ]

    len_4 : 0xF0 ≤ a → a < 0xF5 → lead_len a b ≡ 4
    len_4 h h' =
        let s = second-true t in
        elim (dec_lt a 0xF1) [
          | yes l ↦ lead-F0 a b h (omega arith) (s.F0 (omega arith)) s.high
          | no l ↦ elim (dec_lt a 0xF4) [
            | yes l' ↦ lead_F1 a b (omega arith) (omega arith) s.low s.high
            | no l' ↦ lead-F4 a b (omega arith) (omega arith) s.low (s.F4 (omega arith))
          ]
        ]

-- the character that begins with four bytes, by its row of table 3-7
module _ (a b c d : ℕ) where
  pub char_1 : a < 0x80 → char_of (lead_len a b) a b c d ≡ Some (a, 1)
  unfolding char_of
  char_1 h = rw (lead_1 a b h)

  pub none_0 : 0x80 ≤ a → (0xC2 ≤ a → a < 0xF5 → is_second a b ≡ false) → char_of (lead_len a b) a b c d ≡ None
  unfolding char_of
  none_0 h w = rw (len_0 a b h w)

  module _ (t : is_second a b ≡ true) where
    pub char_2 : 0xC2 ≤ a → a < 0xE0 → char_of (lead_len a b) a b c d ≡ Some (a % 32 * 64 + b % 64, 2)
    unfolding char_of
    char_2 h h' = rw (len_2 a b t h h')

    module _ (h : 0xE0 ≤ a) (h' : a < 0xF0) where
      pub char_3 : within 0x80 0xBF c ≡ true → char_of (lead_len a b) a b c d ≡ Some (a % 16 * 4096 + b % 64 * 64 + c % 64, 3)
      unfolding char_of
      char_3 w = rw (len_3 a b t h h', w)

      pub none_3 : within 0x80 0xBF c ≡ false → char_of (lead_len a b) a b c d ≡ None
      unfolding char_of
      none_3 w = rw (len_3 a b t h h', w)

    module _ (h : 0xF0 ≤ a) (h' : a < 0xF5) where
      pub char_4 : within 0x80 0xBF c ≡ true → within 0x80 0xBF d ≡ true
          → char_of (lead_len a b) a b c d ≡ Some (a % 8 * 262144 + b % 64 * 4096 + c % 64 * 64 + d % 64, 4)
      unfolding char_of
      char_4 w w' = rw (len_4 a b t h h', w, w')

      pub none_4 : (within 0x80 0xBF c && within 0x80 0xBF d) ≡ false → char_of (lead_len a b) a b c d ≡ None
      unfolding char_of
      none_4 w = rw (len_4 a b t h h', w)
