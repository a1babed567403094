-- The library's test of UTF-8 is the check by table 3-7.
-- Assumes nothing.
use mathlib.Core.Path.{◌≡◌, refl, sym, ◌∙◌, ap, ap₂}
use mathlib.Core.Bool.{true}
use mathlib.Core.List.{List, [], ◌∷◌, ◌++◌, append_assoc, append-nil}
use Prim.Native.Nat.{ℕ, ◌+◌}
use native.Mathlib.Omega.{arith}
use lib.Dec.{ltb}
use lib.ListN.{length, take, drop, length-append, length-take}
use lib.Seq.{drop-drop, drop-append_seam, take_at}
use Rattle.std.proofs.lemmas.List.{take-append-drop}
use lib.Utf8.{scalar, scalars, encode as library_encode, encodes}
use Rattle.std.specs.Str.{IsUtf8, IsValidUpTo}
use Rattle.std.proofs.Common.{Option, Some, None, Ok, Err}
use Rattle.basics.proofs.Tests.{cases, both_true}
use Rattle.characters.specs.Utf8.{encode, encode_all, is_scalar, check_from, check, ill_at, width}
use Rattle.characters.specs.Places.{decode_at}
use Rattle.characters.proofs.Encode.{IsScalar, read_back}
use Rattle.characters.proofs.Laws.{scalar_fits, check-on, check-bad, check-end}
use Rattle.characters.proofs.Chars.{Scalars, none_left, one_more, stands_at}

-- ------------------------------------------------------------------ the library's words

scalar-is : (c : ℕ) → scalar c ≡ is_scalar c
unfolding is_scalar
scalar-is c = cases (ltb c 0xD800) (λ e. rw e) (λ e. rw e)

encode-is : (c : ℕ) → library_encode c ≡ encode c
unfolding encode library_encode
encode-is c =
    cases (ltb c 0x80) (λ e. rw e)
    (λ e. rw e (cases (ltb c 0x800) (λ e. rw e)
    (λ e. rw e (cases (ltb c 0x10000) (λ e. rw e) (λ e. rw e)))))

encodes-is : (cs : List ℕ) → encodes cs ≡ encode_all cs
unfolding encode_all
encodes-is [] = refl
encodes-is (c ∷ cs) = rw (encode-is c, encodes-is cs)

scalars_of : (cs : List ℕ) → scalars cs ≡ true → Scalars cs
scalars_of [] e = none_left
scalars_of (c ∷ cs) e = let h = both_true (scalar c) (scalars cs) e in one_more (sym (scalar-is c) ∙ h.0) (scalars_of cs h.1)

scalars-one : (cs : List ℕ) (c : ℕ) → scalars cs ≡ true → IsScalar c → scalars (cs ++ c ∷ []) ≡ true
scalars-one [] c e h = rw (scalar-is c, h)
scalars-one (x ∷ cs) c e h = let g = both_true (scalar x) (scalars cs) e in rw (g.0, scalars-one cs c g.1 h)

encode_all-one : (cs : List ℕ) (c : ℕ) → encode_all (cs ++ c ∷ []) ≡ encode_all cs ++ encode c
unfolding encode_all
encode_all-one [] c = append-nil (encode c)
encode_all-one (x ∷ cs) c = rw (encode_all-one cs c) (sym (append_assoc (encode x) (encode_all cs) (encode c)))

-- ------------------------------------------------------------------ the check

on : (s : List ℕ) (at c : ℕ) (rest : List ℕ) → IsScalar c → drop at s ≡ encode c ++ rest → decode_at s at ≡ Some (c, width c)
unfolding decode_at
on s at c rest h e = rw e (read_back c rest h)

-- the check of a text passes characters that stand from a place to another
check-front : (s : List ℕ) {cs : List ℕ} → Scalars cs → (at to : ℕ) (rest : List ℕ) → drop at s ≡ encode_all cs ++ rest → at + length (encode_all cs) ≡ to
    → check_from 0 at (drop at s) ≡ check_from 0 to (drop to s)
unfolding encode_all
check-front s none_left at to rest e q = ap (λ (m : ℕ). check_from 0 m (drop m s)) (omega arith)
check-front s (one_more {c = c} {cs = cs} h t) at to rest e q =
    let f = e ∙ append_assoc (encode c) (encode_all cs) rest in
    let g : drop (at + width c) s ≡ encode_all cs ++ rest = sym (drop-drop (width c) at s) ∙ ap (drop (width c)) f ∙ drop-append_seam (encode c) (encode_all cs ++ rest) in
    check-on s at (on s at c (encode_all cs ++ rest) h f)
    ∙ check-front s t (at + width c) to rest g (omega (arith, length-append (encode c) (encode_all cs)))

pub check-good : (s : List ℕ) → IsUtf8 s → check s ≡ Ok tt
unfolding check
check-good s (cs, (h, e)) =
    let f : encode_all cs ≡ s = sym (encodes-is cs) ∙ e in
    let l : length (encode_all cs) ≡ length s = ap length f in
    check-front s (scalars_of cs h) 0 (length s) [] (sym f ∙ sym (append-nil (encode_all cs))) (omega arith) ∙ check-end s (length s) (omega arith)

-- no character stands after the longest front that is UTF-8
none-after : (s : List ℕ) (n : ℕ) → IsValidUpTo s n → (cs : List ℕ) → scalars cs ≡ true → encode_all cs ≡ take n s → (ch : Option (ℕ × ℕ)) → decode_at s n ≡ ch
    → decode_at s n ≡ None
none-after s n v cs h f None e = e
none-after s n v cs h f (Some (c, k)) e =
    let w = stands_at s n e in
    let fits = scalar_fits s n e in
    let l : length (encode_all cs) ≡ n = ap length f ∙ simp length-take (omega (arith, v.short)) in
    let whole : s ≡ (encode_all cs ++ encode c) ++ drop k (drop n s) =
    sym (take-append-drop n s) ∙ ap₂ (λ (x y : List ℕ). x ++ y) (sym f) w.bytes ∙ sym (append_assoc (encode_all cs) (encode c) (drop k (drop n s))) in
    let m : length (encode_all cs ++ encode c) ≡ n + k = length-append (encode_all cs) (encode c) ∙ omega (arith, w.wide) in
    let t : take (n + k) s ≡ encode_all cs ++ encode c = ap (take (n + k)) whole ∙ take_at _ _ (n + k) m in
    absurd (v.longest (n + k) (omega arith) (cs ++ c ∷ [], (scalars-one cs c h w.scalar, encodes-is (cs ++ c ∷ []) ∙ encode_all-one cs c ∙ sym t)))

pub check-ill : (s : List ℕ) (n : ℕ) → IsValidUpTo s n → check s ≡ Err (ill_at n)
unfolding check
check-ill s n v = by v.front
  where
    by : IsUtf8 (take n s) → check_from 0 0 s ≡ Err (ill_at n)
    by (cs, (h, e)) =
        let f : encode_all cs ≡ take n s = sym (encodes-is cs) ∙ e in
        let l : length (encode_all cs) ≡ n = ap length f ∙ simp length-take (omega (arith, v.short)) in
        check-front s (scalars_of cs h) 0 n (drop n s) (sym (take-append-drop n s) ∙ ap (λ (x : List ℕ). x ++ drop n s) (sym f)) (omega arith)
        ∙ check-bad s n v.short (none-after s n v cs h f (decode_at s n) refl)
