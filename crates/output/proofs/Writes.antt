-- Laws of what was written to an output: nothing, and one text after another.
-- Assumes nothing.
use mathlib.Core.Path.{◌≡◌, refl, sym, ◌∙◌, ap}
use mathlib.Core.List.{List, [], ◌∷◌, ◌++◌, append_assoc, append-nil}
use Prim.Native.Nat.{ℕ, suc, ◌+◌, ◌-◌, ◌≤◌, ◌<◌}
use native.Mathlib.Omega.{arith}
use native.Mathlib.Numerals.{add-one}
use lib.ListN.{length, take, drop, get_or, set, length-append, length-drop, drop_of_length-le}
use lib.Seq.{take_all, take_at, drop_at, drop-drop, take-suc, drop-cons, set_at, length-take-le}
use borrow.Rule.Slice.PartMut.{put_mid, same_len_mid}
use Rattle.spelling.specs.Spelling.{quoted}
use Rattle.spelling.proofs.Bytes.{quoted-append}
use Rattle.output.specs.Promise.{Wrote}

-- one more byte of a string
pub quoted-next : (i : ℕ) (s : List ℕ) → i < length s → quoted (take i s) ++ quoted (get_or s i 0 ∷ []) ≡ quoted (take (i + 1) s)
quoted-next i s h = rw (add-one, take-suc s i 0 h) (sym (quoted-append (take i s) (get_or s i 0 ∷ [])))

-- nothing at the start
pub wrote_none : (old : List ℕ) → Wrote [] old old 0
wrote_none old = record { counts = refl; same = refl; holds = λ _. refl }

-- a text of which i bytes are written
module _ (s old : List ℕ) (i : ℕ) (h : i ≤ length s) (k : length s ≤ length old) where
  pub length-begun : length (take i s ++ drop i old) ≡ length old
  length-begun = simp (length-append (take i s) (drop i old), length-take-le i s h, length-drop i old) (omega arith)

  -- one byte more
  pub begun-step : i < length s → set (take i s ++ drop i old) i (get_or s i 0) ≡ take (i + 1) s ++ drop (i + 1) old
  begun-step l =
      let a = set_at (take i s) (get_or old i 0) (drop (suc i) old) (get_or s i 0) i (length-take-le i s h) in
      rw (add-one, drop-cons old i 0 (omega arith), take-suc s i 0 l) (a ∙ sym (append_assoc (take i s) (get_or s i 0 ∷ []) (drop (suc i) old)))

  -- all of them
  pub wrote_all : {new : List ℕ} → new ≡ take i s ++ drop i old → i ≡ length s → Wrote s old new (length s)
  wrote_all p e =
      let t : take i s ≡ s = take_all i s (omega arith) in
      let q = p ∙ ap (λ (l : List ℕ). l ++ drop i old) t in
      record { counts = refl; same = ap length p ∙ length-begun; holds = λ _. q ∙ ap (λ (n : ℕ). s ++ drop n old) e }

-- b after a, in the part of what a left that starts at `at`
module _ {a b old mid part : List ℕ} {n m at : ℕ} where
  pub then : Wrote a old mid n → (at ≤ length mid) × (n ≤ length mid → at ≡ n) → Wrote b (take (length mid - at) (drop at mid)) part m
      → Wrote (a ++ b) old (put_mid at (length mid - at) mid part) (n + m)
  then v (h, e) w =
      let z : take (length mid - at) (drop at mid) ≡ drop at mid = take_all (length mid - at) (drop at mid) (simp length-drop (omega arith)) in
      let y : drop (length mid - at) (drop at mid) ≡ [] = drop_of_length-le (drop at mid) {i = length mid - at} (simp length-drop (omega arith)) in
      record {
        counts = omega (arith, length-append a b, v.counts, w.counts);
        same = same_len_mid at (length mid - at) mid part w.same ∙ v.same;
        holds = λ k.
            let c = v.counts in
            let d = v.same in
            let f : at ≡ n = e (omega arith) in
            let g : length a ≡ at = omega arith in
            let p : mid ≡ a ++ drop n old = v.holds (omega arith) in
            let q : drop at mid ≡ drop n old = ap (drop at) p ∙ drop_at a (drop n old) at g in
            let l : m ≤ length (take (length mid - at) (drop at mid)) = rw (z, length-drop) (omega arith) in
            let r : part ≡ b ++ drop m (drop n old) = rw (z, q) at (w.holds l) in
            let s : take at mid ≡ a = ap (take at) p ∙ take_at a (drop n old) at g in
            rw (y, append-nil, s, r, drop-drop, append_assoc);
      }
