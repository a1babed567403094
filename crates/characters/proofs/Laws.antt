-- A character at a place lies within the text, and the check of a text goes on after it.
-- Assumes nothing.
use mathlib.Core.Path.{◌≡◌, refl, sym, ◌∙◌, ap, ap₂}
use mathlib.Core.List.{List, [], ◌∷◌}
use Prim.Native.Nat.{ℕ, zero, suc, ◌+◌, ◌-◌, ◌≤◌, ◌<◌}
use native.Mathlib.Omega.{arith}
use native.Mathlib.Nat.{add-zero, le_of_suc-le-suc, not-suc-le-zero}
use lib.ListN.{length, get_or, take, drop, length-drop, length-append, drop_of_length-le}
use lib.Seq.{drop-cons, drop-drop, take_all}
use Rattle.std.proofs.Common.{Some, None, Ok, Err}
use Rattle.characters.specs.Utf8.{ill_at}
use Rattle.characters.specs.Utf8.{lead_len, char_of, first_char, on_char, encode, check_from}
use Rattle.characters.specs.Places.{decode_at}
use Rattle.characters.proofs.Encode.{width_some, as_1}
use Rattle.characters.proofs.Heads.{stands}

pub first_fits : (l : List ℕ) {c n : ℕ} → first_char l ≡ Some (c, n) → (1 ≤ n) × (n ≤ length l)
first_fits l {c} {n} e =
    let s = stands l e in
    let w = s.wide in
    let z = ap length s.bytes ∙ length-append (encode c) (drop n l) in
    let k = width_some c in (omega arith, omega arith)

-- a character at a place lies within the text
pub scalar_fits : (s : List ℕ) (at : ℕ) {c n : ℕ} → decode_at s at ≡ Some (c, n) → (1 ≤ n) × (at + n ≤ length s)
unfolding decode_at
scalar_fits s at {c} {n} e =
    let f = first_fits (drop at s) e in
    let g : n ≤ length s - at = rw (← length-drop at s) f.1 in
    (f.0, omega arith)

-- a machine that passes the bytes of the character in hand one by one goes on past them
module _ {A : Type 0} (M : ℕ → ℕ → List ℕ → A) (one : (j at x : ℕ) (xs : List ℕ) → M (suc j) at (x ∷ xs) ≡ M j (at + 1) xs) where
  skip : (j at : ℕ) (l : List ℕ) → j ≤ length l → M j at l ≡ M 0 (at + j) (drop j l)
  skip zero at l h = rw add-zero
  skip (suc j) at [] h = absurd (not-suc-le-zero h)
  skip (suc j) at (x ∷ xs) h =
      let e : at + 1 + j ≡ at + suc j = omega arith in
      one j at x xs ∙ skip j (at + 1) xs (le_of_suc-le-suc h) ∙ ap (λ (m : ℕ). M 0 m (drop j xs)) e

  pub next : (s : List ℕ) (at n : ℕ) → 1 ≤ n → at + n ≤ length s
      → M (n - 1) (at + 1) (drop (suc at) s) ≡ M 0 (at + n) (drop (at + n) s)
  next s at n h h' =
      let e : at + 1 + (n - 1) ≡ at + n = omega arith in
      let e' : suc at + (n - 1) ≡ at + n = omega arith in
      skip (n - 1) (at + 1) (drop (suc at) s) (simp length-drop (omega arith))
      ∙ ap₂ (λ (m : ℕ) (l : List ℕ). M 0 m l) e (drop-drop (n - 1) (suc at) s ∙ ap (λ (m : ℕ). drop m s) e')

check-one : (j at x : ℕ) (xs : List ℕ) → check_from (suc j) at (x ∷ xs) ≡ check_from j (at + 1) xs
unfolding check_from
check-one j at x xs = refl

module _ (s : List ℕ) (at : ℕ) where
  check-at : at < length s
      → check_from 0 at (drop at s) ≡ on_char (decode_at s at) (λ _ n. check_from (n - 1) (at + 1) (drop (suc at) s)) (Err (ill_at at))
  unfolding check_from decode_at
  check-at l = simp (drop-cons s at 0)

  pub check-on : {c n : ℕ} → decode_at s at ≡ Some (c, n) → check_from 0 at (drop at s) ≡ check_from 0 (at + n) (drop (at + n) s)
  unfolding on_char
  check-on {c} {n} e = let f = scalar_fits s at e in check-at (omega arith) ∙ simp e (next check_from check-one s at n f.0 f.1)

  pub check-bad : at < length s → decode_at s at ≡ None → check_from 0 at (drop at s) ≡ Err (ill_at at)
  unfolding on_char
  check-bad l e = check-at l ∙ simp e

  pub check-end : length s ≤ at → check_from 0 at (drop at s) ≡ Ok tt
  unfolding check_from
  check-end l = simp (drop_of_length-le s l)

-- an ASCII byte is a character by itself
pub ascii-at : (s : List ℕ) (at : ℕ) → at < length s → get_or s at 0 < 0x80 → decode_at s at ≡ Some (get_or s at 0, 1)
unfolding decode_at
ascii-at s at h g = rw (drop-cons s at 0) (as_1 (get_or s at 0) (drop (suc at) s) g)

pub ascii-by : (s : List ℕ) (at b : ℕ) → at < length s → b ≡ get_or s at 0 → b < 0x80 → Some (b, 1) ≡ decode_at s at
ascii-by s at b h e g = rw e (sym (ascii-at s at h (rw e at g)))

-- a character by the bytes from a place on
pub bytes-at : (s : List ℕ) (at : ℕ) → at < length s → (r : List ℕ) → r ≡ take (length s - at) (drop at s)
    → decode_at s at ≡ char_of (lead_len (get_or r 0 0) (get_or r 1 0)) (get_or r 0 0) (get_or r 1 0) (get_or r 2 0) (get_or r 3 0)
unfolding decode_at first_char
bytes-at s at h r e = rw (e, take_all (length s - at) (drop at s) (simp length-drop (omega arith)), drop-cons s at 0)
