-- Bytes written where they fit.
-- Assumes nothing.
use mathlib.Core.Path.{◌≡◌, refl, sym, ◌∙◌, ap}
use mathlib.Core.Bool.{false}
use mathlib.Core.List.{List, [], ◌∷◌, ◌++◌, append_assoc, append-nil}
use Prim.Native.Nat.{ℕ, ◌+◌, ◌-◌, ◌≤◌, ◌<◌}
use native.Mathlib.Omega.{arith}
use native.Mathlib.Decide.{dec_le}
use lib.ListN.{take-append-drop, length, take, drop, length-append, length-drop, drop_of_length-le}
use lib.Seq.{length-take-le, take_all, take_at, drop_at, drop-drop}
use borrow.Rule.Slice.PartMut.{put_mid}
use borrow.Author.Tests.{le-leb, lt-leb}
use Rattle.characters.specs.Utf8.{is_scalar, encode, encode_all}
use Rattle.characters.specs.Promise.{scalar_bytes, written, written_all}
use Rattle.characters.proofs.Encode.{IsScalar}

module _ (out : List ℕ) (at : ℕ) (bs : List ℕ) where
  pub written_not : length out < at + length bs → written out at bs ≡ out
  unfolding written
  written_not h = rw (lt-leb (at + length bs) (length out) h)

  pub written_in : at + length bs ≤ length out → written out at bs ≡ take at out ++ bs ++ drop (at + length bs) out
  unfolding written
  written_in h = rw (le-leb (at + length bs) (length out) h)

  pub length-written : length (written out at bs) ≡ length out
  length-written =
      elim (dec_le (at + length bs) (length out)) [
        | yes h ↦
            let l : length (take at out) ≡ at = length-take-le at out (omega arith) in
            ap length (written_in h) ∙ simp (length-append, length-drop, l) (omega arith)
        | no h ↦ ap length (written_not (omega arith))
      ]

pub written_none : (out : List ℕ) → written out 0 [] ≡ out
written_none out = written_in out 0 [] (omega arith)

-- what is written to the start of a part of the whole
module _ (bs : List ℕ) where
  pub written-empty : written [] 0 bs ≡ []
  written-empty = nil (written [] 0 bs) (length-written [] 0 bs)
    where
      nil : (l : List ℕ) → length l ≡ 0 → l ≡ []
      nil [] e = refl
      nil (x ∷ l) e = absurd (omega arith)

  pub written-rest : (out : List ℕ) (at : ℕ) → at ≤ length out
      → put_mid at (length out - at) out (written (take (length out - at) (drop at out)) 0 bs) ≡ written out at bs
  written-rest out at h =
      let k = length out - at in
      let ld : length (drop at out) ≡ k = length-drop at out in
      let t : take k (drop at out) ≡ drop at out = take_all k (drop at out) (omega arith) in
      let d : drop k (drop at out) ≡ [] = drop_of_length-le (drop at out) {i = k} (omega arith) in
      rw (t, d, append-nil) (
      elim (dec_le (at + length bs) (length out)) [
        | yes i ↦
            let z : 0 + length bs ≡ length bs = omega arith in
            rw (written_in (drop at out) 0 bs (omega arith), written_in out at bs i, z) (
            ap (λ (x : List ℕ). take at out ++ (bs ++ x)) (drop-drop (length bs) at out) ∙ sym (append_assoc (take at out) bs (drop (at + length bs) out)))
        | no i ↦ rw (written_not (drop at out) 0 bs (omega arith), written_not out at bs (omega arith)) (take-append-drop at out)
      ])

-- ------------------------------------------------------------------ the bytes of a scalar

module _ (c : ℕ) where
  pub bytes-none : is_scalar c ≡ false → scalar_bytes c ≡ []
  unfolding scalar_bytes
  bytes-none e = rw e

  pub bytes-some : IsScalar c → scalar_bytes c ≡ encode c
  unfolding scalar_bytes
  bytes-some e = rw e

-- ------------------------------------------------------------------ several

-- where all fit, they are all there
pub all_in_lem : (cs : List ℕ) (out : List ℕ) (at : ℕ) → at + length (encode_all cs) ≤ length out
    → written_all out at cs ≡ take at out ++ encode_all cs ++ drop (at + length (encode_all cs)) out
unfolding written_all encode_all
all_in_lem [] out at h = let e : at + 0 ≡ at = omega arith in rw (e, append-nil) (sym (take-append-drop at out))
all_in_lem (c ∷ cs) out at h =
    let n = length (encode c) in
    let m = length (encode_all cs) in
    let l = length-append (encode c) (encode_all cs) in
    let i : at + n ≤ length out = omega arith in
    let w = written_in out at (encode c) i in
    let a = take at out in
    let la : length a ≡ at = length-take-le at out (omega arith) in
    let o' = a ++ encode c ++ drop (at + n) out in
    let lo : length o' ≡ length out = simp (length-append, length-drop, la) (omega arith) in
    let t : take (at + n) o' ≡ a ++ encode c = take_at (a ++ encode c) (drop (at + n) out) (at + n) (length-append a (encode c) ∙ ap (λ (x : ℕ). x + n) la) in
    let d : drop (at + n) o' ≡ drop (at + n) out = drop_at (a ++ encode c) (drop (at + n) out) (at + n) (length-append a (encode c) ∙ ap (λ (x : ℕ). x + n) la) in
    let e : at + n + m ≡ at + length (encode c ++ encode_all cs) = omega arith in
    let d₂ : drop (at + n + m) o' ≡ drop (at + length (encode c ++ encode_all cs)) out = sym (drop-drop m (at + n) o') ∙ ap (drop m) d ∙ drop-drop m (at + n) out ∙ ap (λ (x : ℕ). drop x out) e in
    rw w (all_in_lem cs o' (at + n) (omega arith) ∙ rw (t, d₂) (ap (λ (x : List ℕ). x ++ drop (at + length (encode c ++ encode_all cs)) out) (append_assoc a (encode c) (encode_all cs))))
