-- A text that begins with a character begins with that character's bytes.
-- Assumes nothing.
use mathlib.Core.Path.{◌≡◌, refl, sym, ◌∙◌, ap, ap₂, subst}
use mathlib.Core.Bool.{true}
use mathlib.Core.List.{List, [], ◌∷◌, ◌++◌}
use Prim.Native.Nat.{ℕ, ◌+◌, ◌*◌, ◌%◌, ◌≤◌}
use native.Mathlib.Omega.{arith}
use lib.ListN.{length, get_or, drop}
use lib.Seq.{drop-append_seam}
use Rattle.std.proofs.Common.{Option, Some, None}
use Rattle.basics.specs.Basics.{within}
use Rattle.basics.proofs.Tests.{cases, both_true, within-true}
use Rattle.characters.specs.Utf8.{row, lead_len, char_of, first_char, encode, width}
use Rattle.characters.proofs.Encode.{IsScalar, scalar-low, scalar-high, encode_1, encode_2, encode_3, encode_4}

pub row-true : (alo ahi blo bhi a b : ℕ) → row alo ahi blo bhi a b ≡ true → (alo ≤ a) × (a ≤ ahi) × (blo ≤ b) × (b ≤ bhi)
unfolding row
row-true alo ahi blo bhi a b e =
    let h = both_true (within alo ahi a) (within blo bhi b) e in
    let x = within-true alo ahi a h.0 in
    let y = within-true blo bhi b h.1 in (x.0, x.1, y.0, y.1)

-- what the rows of table 3-7 say of the first two bytes: together, as one number, they lie between the first and the last pair of the
-- rows of their length. Between the rows of three bytes is the gap of the surrogates
pub data Lead (a b : ℕ) : ℕ → Type 0 where
  one : a ≤ 0x7F → Lead a b 1
  two : 0xC2 * 64 + 0x80 ≤ a * 64 + b → a * 64 + b ≤ 0xDF * 64 + 0xBF → 0x80 ≤ b → b ≤ 0xBF → Lead a b 2
  three-low : 0xE0 * 64 + 0xA0 ≤ a * 64 + b → a * 64 + b ≤ 0xED * 64 + 0x9F → 0x80 ≤ b → b ≤ 0xBF → Lead a b 3
  three-high : 0xEE * 64 + 0x80 ≤ a * 64 + b → a * 64 + b ≤ 0xEF * 64 + 0xBF → 0x80 ≤ b → b ≤ 0xBF → Lead a b 3
  four : 0xF0 * 64 + 0x90 ≤ a * 64 + b → a * 64 + b ≤ 0xF4 * 64 + 0x8F → 0x80 ≤ b → b ≤ 0xBF → Lead a b 4
  none : Lead a b 0

pub lead : (a b : ℕ) → Lead a b (lead_len a b)
unfolding lead_len
lead a b =
    cases (within 0x00 0x7F a) (λ e. rw e (one (within-true 0x00 0x7F a e).1))
    (λ e. rw e (cases (row 0xC2 0xDF 0x80 0xBF a b)
    (λ e. let h = row-true 0xC2 0xDF 0x80 0xBF a b e in rw e (two (omega arith) (omega arith) (omega arith) (omega arith)))
    (λ e. rw e (cases (row 0xE0 0xE0 0xA0 0xBF a b)
    (λ e. let h = row-true 0xE0 0xE0 0xA0 0xBF a b e in rw e (three-low (omega arith) (omega arith) (omega arith) (omega arith)))
    (λ e. rw e (cases (row 0xE1 0xEC 0x80 0xBF a b)
    (λ e. let h = row-true 0xE1 0xEC 0x80 0xBF a b e in rw e (three-low (omega arith) (omega arith) (omega arith) (omega arith)))
    (λ e. rw e (cases (row 0xED 0xED 0x80 0x9F a b)
    (λ e. let h = row-true 0xED 0xED 0x80 0x9F a b e in rw e (three-low (omega arith) (omega arith) (omega arith) (omega arith)))
    (λ e. rw e (cases (row 0xEE 0xEF 0x80 0xBF a b)
    (λ e. let h = row-true 0xEE 0xEF 0x80 0xBF a b e in rw e (three-high (omega arith) (omega arith) (omega arith) (omega arith)))
    (λ e. rw e (cases (row 0xF0 0xF0 0x90 0xBF a b)
    (λ e. let h = row-true 0xF0 0xF0 0x90 0xBF a b e in rw e (four (omega arith) (omega arith) (omega arith) (omega arith)))
    (λ e. rw e (cases (row 0xF1 0xF3 0x80 0xBF a b)
    (λ e. let h = row-true 0xF1 0xF3 0x80 0xBF a b e in rw e (four (omega arith) (omega arith) (omega arith) (omega arith)))
    (λ e. rw e (cases (row 0xF4 0xF4 0x80 0x8F a b)
    (λ e. let h = row-true 0xF4 0xF4 0x80 0x8F a b e in rw e (four (omega arith) (omega arith) (omega arith) (omega arith)))
    (λ e. rw e none)))))))))))))))))

-- a text, and what its first character is
data Head : List ℕ → Option (ℕ × ℕ) → Type 0 where
  begins : {c : ℕ} (rest : List ℕ) → IsScalar c → Head (encode c ++ rest) (Some (c, width c))
  ill : {l : List ℕ} → Head l None

made : (w rest : List ℕ) (c : ℕ) → IsScalar c → encode c ≡ w → Head (w ++ rest) (Some (c, length w))
made w rest c s e = subst (λ (v : List ℕ). Head (v ++ rest) (Some (c, length v))) e (begins rest s)

-- a code put together from bytes has these bytes
module _ (a b c d : ℕ) (g : 0x80 ≤ b) (g' : b ≤ 0xBF) where
  bytes_2 : 0xC2 * 64 + 0x80 ≤ a * 64 + b → a * 64 + b ≤ 0xDF * 64 + 0xBF → encode (a % 32 * 64 + b % 64) ≡ a ∷ b ∷ []
  bytes_2 h h' = encode_2 (a % 32 * 64 + b % 64) (omega arith) (omega arith) ∙ ap₂ (λ (x y : ℕ). x ∷ y ∷ []) (omega arith) (omega arith)

  module _ (k : 0x80 ≤ c) (k' : c ≤ 0xBF) where
    bytes_3 : 0xE0 * 64 + 0xA0 ≤ a * 64 + b → a * 64 + b ≤ 0xEF * 64 + 0xBF → encode (a % 16 * 4096 + b % 64 * 64 + c % 64) ≡ a ∷ b ∷ c ∷ []
    bytes_3 h h' =
        encode_3 (a % 16 * 4096 + b % 64 * 64 + c % 64) (omega arith) (omega arith)
        ∙ ap₂ (λ (x : ℕ) (l : List ℕ). x ∷ l) (omega arith) (ap₂ (λ (x y : ℕ). x ∷ y ∷ []) (omega arith) (omega arith))

    bytes_4 : 0xF0 * 64 + 0x90 ≤ a * 64 + b → a * 64 + b ≤ 0xF4 * 64 + 0x8F → 0x80 ≤ d → d ≤ 0xBF
        → encode (a % 8 * 262144 + b % 64 * 4096 + c % 64 * 64 + d % 64) ≡ a ∷ b ∷ c ∷ d ∷ []
    bytes_4 h h' j j' =
        encode_4 (a % 8 * 262144 + b % 64 * 4096 + c % 64 * 64 + d % 64) (omega arith)
        ∙ ap₂ (λ (x : ℕ) (l : List ℕ). x ∷ l) (omega arith)
        (ap₂ (λ (x : ℕ) (l : List ℕ). x ∷ l) (omega arith) (ap₂ (λ (x y : ℕ). x ∷ y ∷ []) (omega arith) (omega arith)))

-- a byte that is not 0 lies within the text, so each case has as many bytes as it reads
head_2 : (a : ℕ) (l : List ℕ) → 0xC2 * 64 + 0x80 ≤ a * 64 + get_or l 0 0 → a * 64 + get_or l 0 0 ≤ 0xDF * 64 + 0xBF → 0x80 ≤ get_or l 0 0
    → get_or l 0 0 ≤ 0xBF → Head (a ∷ l) (Some (a % 32 * 64 + get_or l 0 0 % 64, 2))
head_2 a [] h h' g g' = absurd (omega arith)
head_2 a (b ∷ l) h h' g g' = made (a ∷ b ∷ []) l _ (scalar-low _ (omega arith)) (bytes_2 a b 0 0 g g' h h')

head_3 : (a : ℕ) (l : List ℕ) → 0xE0 * 64 + 0xA0 ≤ a * 64 + get_or l 0 0 → a * 64 + get_or l 0 0 ≤ 0xEF * 64 + 0xBF → 0x80 ≤ get_or l 0 0
    → get_or l 0 0 ≤ 0xBF → (0x80 ≤ get_or l 1 0) × (get_or l 1 0 ≤ 0xBF) → IsScalar (a % 16 * 4096 + get_or l 0 0 % 64 * 64 + get_or l 1 0 % 64)
    → Head (a ∷ l) (Some (a % 16 * 4096 + get_or l 0 0 % 64 * 64 + get_or l 1 0 % 64, 3))
head_3 a [] h h' g g' k s = absurd (omega arith)
head_3 a (b ∷ []) h h' g g' k s = absurd (omega arith)
head_3 a (b ∷ c ∷ l) h h' g g' k s = made (a ∷ b ∷ c ∷ []) l _ s (bytes_3 a b c 0 g g' k.0 k.1 h h')

head_4 : (a : ℕ) (l : List ℕ) → 0xF0 * 64 + 0x90 ≤ a * 64 + get_or l 0 0 → a * 64 + get_or l 0 0 ≤ 0xF4 * 64 + 0x8F → 0x80 ≤ get_or l 0 0
    → get_or l 0 0 ≤ 0xBF → (0x80 ≤ get_or l 1 0) × (get_or l 1 0 ≤ 0xBF) → (0x80 ≤ get_or l 2 0) × (get_or l 2 0 ≤ 0xBF)
    → Head (a ∷ l) (Some (a % 8 * 262144 + get_or l 0 0 % 64 * 4096 + get_or l 1 0 % 64 * 64 + get_or l 2 0 % 64, 4))
head_4 a [] h h' g g' k j = absurd (omega arith)
head_4 a (b ∷ []) h h' g g' k j = absurd (omega arith)
head_4 a (b ∷ c ∷ []) h h' g g' k j = absurd (omega arith)
head_4 a (b ∷ c ∷ d ∷ l) h h' g g' k j =
    made (a ∷ b ∷ c ∷ d ∷ []) l _ (scalar-high _ (omega arith) (omega arith)) (bytes_4 a b c d g g' k.0 k.1 h h' j.0 j.1)

head_of : (a : ℕ) (l : List ℕ) (n : ℕ) → Lead a (get_or l 0 0) n → Head (a ∷ l) (char_of n a (get_or l 0 0) (get_or l 1 0) (get_or l 2 0))
unfolding char_of
head_of a l n (one h) = made (a ∷ []) l a (scalar-low a (omega arith)) (encode_1 a (omega arith))
head_of a l n (two h h' g g') = head_2 a l h h' g g'
head_of a l n (three-low h h' g g') =
    cases (within 0x80 0xBF (get_or l 1 0))
    (λ e. let k = within-true 0x80 0xBF (get_or l 1 0) e in rw e (head_3 a l h (omega arith) g g' k (scalar-low _ (omega arith)))) (λ e. rw e ill)
head_of a l n (three-high h h' g g') =
    cases (within 0x80 0xBF (get_or l 1 0))
    (λ e. let k = within-true 0x80 0xBF (get_or l 1 0) e in rw e (head_3 a l (omega arith) h' g g' k (scalar-high _ (omega arith) (omega arith)))) (λ e. rw e ill)
head_of a l n (four h h' g g') =
    cases (within 0x80 0xBF (get_or l 1 0))
    (λ e. rw e (cases (within 0x80 0xBF (get_or l 2 0))
    (λ f. rw f (head_4 a l h h' g g' (within-true 0x80 0xBF (get_or l 1 0) e) (within-true 0x80 0xBF (get_or l 2 0) f))) (λ f. rw f ill)))
    (λ e. rw e ill)
head_of a l n none = ill

begun : (l : List ℕ) → Head l (first_char l)
unfolding first_char
begun [] = ill
begun (a ∷ l) = head_of a l _ (lead a (get_or l 0 0))

-- the text l begins with the character c, of n bytes
pub record Stands (l : List ℕ) (c n : ℕ) : Type 0 where
  pub scalar : IsScalar c
  pub wide : n ≡ width c
  pub bytes : l ≡ encode c ++ drop n l

head-out : {l : List ℕ} {c n : ℕ} → Head l (Some (c, n)) → Stands l c n
head-out (begins {c = c} rest s) =
    record { scalar = s; wide = refl; bytes = ap (λ (r : List ℕ). encode c ++ r) (sym (drop-append_seam (encode c) rest)) }

pub stands : (l : List ℕ) {c n : ℕ} → first_char l ≡ Some (c, n) → Stands l c n
stands l e = head-out (subst (Head l) e (begun l))
