-- What ties the list of a text's characters to its bytes.
-- Assumes nothing.
use mathlib.Core.Path.{◌≡◌, refl, sym, ◌∙◌, ap, subst}
use mathlib.Core.List.{List, [], ◌∷◌, ◌++◌, append_assoc, append-nil}
use Prim.Native.Nat.{ℕ, zero, suc, ◌+◌, ◌-◌, ◌≤◌, ◌<◌}
use native.Mathlib.Omega.{arith}
use native.Mathlib.Nat.{not-suc-le-zero}
use mathlib.Core.Bool.{Bool, true, false, not}
use lib.Dec.{eqb}
use borrow.Author.Tests.{ne_eqb, eqb-true, eqb-false}
use Rattle.std.specs.Option.{option_eq, MatchOption, IsSomeAnd}
use lib.ListN.{length, take, drop, length-drop, length-append}
use lib.Seq.{drop-drop, drop-append_seam, take_at}
use Rattle.basics.specs.Basics.{head}
use Rattle.basics.proofs.Tests.{impossible}
use Rattle.std.proofs.Common.{Option, Some, None}
use Rattle.characters.specs.Utf8.{first_char, on_char, encode, codes_from, codes, encode_all, width}
use Rattle.characters.specs.Places.{decode_at, peek_at, first_of, first_at, past, cut}
use Rattle.characters.specs.Promise.{Next}
use Rattle.characters.proofs.Encode.{IsScalar, read_back, ascii-wide}
use Rattle.characters.proofs.Heads.{Stands, stands}
use Rattle.characters.proofs.Laws.{first_fits, scalar_fits}

-- the characters from a place on
codes-skip : (j : ℕ) (l : List ℕ) → codes_from j l ≡ codes_from 0 (drop j l)
unfolding codes_from
codes-skip zero l = refl
codes-skip (suc j) [] = refl
codes-skip (suc j) (x ∷ xs) = codes-skip j xs

codes-cons : (l : List ℕ) {c n : ℕ} → first_char l ≡ Some (c, n) → codes l ≡ c ∷ codes (drop n l)
unfolding codes_from on_char
codes-cons [] e = let f = first_fits [] e in absurd (omega arith)
codes-cons (x ∷ xs) {c} {n} e = let f = first_fits (x ∷ xs) e in simp e (ap (λ (r : List ℕ). c ∷ r) (tail n f))
  where
    tail : (m : ℕ) → (1 ≤ m) × (m ≤ suc (length xs)) → codes_from (m - 1) xs ≡ codes_from 0 (drop m (x ∷ xs))
    tail zero f = absurd (not-suc-le-zero f.0)
    tail (suc m) f = let q : suc m - 1 ≡ m = omega arith in rw q (codes-skip m xs)

codes-nil : (l : List ℕ) → first_char l ≡ None → codes l ≡ []
unfolding codes_from on_char
codes-nil [] e = refl
codes-nil (x ∷ xs) e = simp e

module _ (s : List ℕ) (at : ℕ) where
  pub codes-on : {c n : ℕ} → decode_at s at ≡ Some (c, n) → codes (drop at s) ≡ c ∷ codes (drop (at + n) s)
  unfolding decode_at
  codes-on {c} {n} e = codes-cons (drop at s) e ∙ ap (λ (l : List ℕ). c ∷ codes l) (drop-drop n at s)

  pub codes_off : decode_at s at ≡ None → codes (drop at s) ≡ []
  unfolding decode_at
  codes_off e = codes-nil (drop at s) e

  pub stands_at : {c n : ℕ} → decode_at s at ≡ Some (c, n) → Stands (drop at s) c n
  unfolding decode_at
  stands_at e = stands (drop at s) e

-- what is written is read back
pub data Scalars : List ℕ → Type 0 where
  none_left : Scalars []
  one_more : {c : ℕ} {cs : List ℕ} → IsScalar c → Scalars cs → Scalars (c ∷ cs)

pub codes-append : {cs : List ℕ} → Scalars cs → (rest : List ℕ) → codes (encode_all cs ++ rest) ≡ cs ++ codes rest
unfolding encode_all
codes-append none_left rest = refl
codes-append (one_more {c = c} {cs = cs} h t) rest =
    rw append_assoc (codes-cons _ (read_back c (encode_all cs ++ rest) h)
    ∙ ap (λ (l : List ℕ). c ∷ l) (rw (drop-append_seam (encode c) (encode_all cs ++ rest)) (codes-append t rest)))

codes-empty : codes [] ≡ []
unfolding codes_from
codes-empty = refl

pub codes_all : {cs : List ℕ} → Scalars cs → codes (encode_all cs) ≡ cs
codes_all {cs} h = ap codes (sym (append-nil (encode_all cs))) ∙ codes-append h [] ∙ rw (codes-empty, append-nil)

-- the first k characters of a text from place p on end at place q: n bytes
pub record Prefix (l : List ℕ) (k p q : ℕ) : Type 0 where
  pub n : ℕ
  pub ends : q ≡ p + n
  pub inside : n ≤ length l
  pub rest : codes (drop n l) ≡ drop k (codes l)
  pub scalars : Scalars (take k (codes l))
  pub whole : l ≡ encode_all (take k (codes l)) ++ drop n l
  pub size : length (encode_all (take k (codes l))) ≡ n

prefix-none : (k p : ℕ) (l : List ℕ) → codes l ≡ [] → Prefix l (suc k) p (past p (suc k) (codes l))
unfolding encode_all past
prefix-none k p l e =
    rw e (record {
      n = 0;
      ends = omega arith;
      inside = omega arith;
      rest = rw e;
      scalars = rw e none_left;
      whole = rw e;
      size = rw e;
    })

prefix-one : (k p c n : ℕ) (l : List ℕ) → Stands l c n → (n ≤ length l) → codes l ≡ c ∷ codes (drop n l)
    → Prefix (drop n l) k (p + width c) (past (p + width c) k (codes (drop n l))) → Prefix l (suc k) p (past p (suc k) (codes l))
unfolding encode_all past
prefix-one k p c n l h f e r =
    rw e (record {
      n = n + r.n;
      ends = let x = r.ends in let w = h.wide in omega arith;
      inside = let x = simp length-drop at r.inside in omega arith;
      rest = rw e (ap codes (sym (drop-drop r.n n l)) ∙ r.rest);
      scalars = rw e (one_more h.scalar r.scalars);
      whole = rw e (h.bytes ∙ ap (λ (x : List ℕ). encode c ++ x) r.whole ∙ sym (append_assoc (encode c) (encode_all (take k (codes (drop n l)))) (drop r.n (drop n l)))
          ∙ ap (λ (x : List ℕ). (encode c ++ encode_all (take k (codes (drop n l)))) ++ x) (drop-drop r.n n l));
      size = rw e (length-append (encode c) (encode_all (take k (codes (drop n l)))) ∙ (let x = r.size in let w = h.wide in omega arith));
    })

prefix-by : (k p : ℕ) (l : List ℕ) → ((p : ℕ) (l : List ℕ) → Prefix l k p (past p k (codes l))) → (ch : Option (ℕ × ℕ)) → first_char l ≡ ch
    → Prefix l (suc k) p (past p (suc k) (codes l))
prefix-by k p l r None e = prefix-none k p l (codes-nil l e)
prefix-by k p l r (Some (c, n)) e = prefix-one k p c n l (stands l e) (first_fits l e).1 (codes-cons l e) (r (p + width c) (drop n l))

pub prefix : (k p : ℕ) (l : List ℕ) → Prefix l k p (past p k (codes l))
unfolding encode_all past
prefix zero p l = record { n = 0; ends = omega arith; inside = omega arith; rest = refl; scalars = none_left; whole = refl; size = refl }
prefix (suc k) p l = prefix-by k p l (λ q m. prefix k q m) (first_char l) refl

-- the same at a place of a text
pub record Run (s : List ℕ) (at k e : ℕ) : Type 0 where
  pub forth : at ≤ e
  pub inside : e ≤ length s
  pub rest : codes (drop e s) ≡ drop k (codes (drop at s))
  pub part : codes (cut s at e) ≡ take k (codes (drop at s))
  pub bytes : encode_all (codes (cut s at e)) ≡ cut s at e

-- the k characters at a place of a text
module _ (s : List ℕ) (at k : ℕ) (h : at ≤ length s) where
  part_bytes : (r : Prefix (drop at s) k at (past at k (codes (drop at s)))) → cut s at (past at k (codes (drop at s))) ≡ encode_all (take k (codes (drop at s)))
  part_bytes r =
      let x = r.ends in
      let q : past at k (codes (drop at s)) - at ≡ r.n = omega arith in
      rw q (ap (take r.n) r.whole ∙ take_at _ _ r.n r.size)

  part-codes : (r : Prefix (drop at s) k at (past at k (codes (drop at s)))) → codes (encode_all (take k (codes (drop at s)))) ≡ take k (codes (drop at s))
  part-codes r = codes_all r.scalars

  pub run_at : Run s at k (past at k (codes (drop at s)))
  run_at =
      let r = prefix k at (drop at s) in
      let i = simp length-drop at r.inside in
      let x = r.ends in
      record {
        forth = omega arith;
        inside = omega arith;
        rest = rw r.ends (ap codes (sym (drop-drop r.n at s)) ∙ r.rest);
        part = ap codes (part_bytes r) ∙ part-codes r;
        bytes = ap (λ (l : List ℕ). encode_all (codes l)) (part_bytes r) ∙ ap encode_all (part-codes r) ∙ sym (part_bytes r);
      }

-- the characters from a place on go on after one of them
pub next_of : (s : List ℕ) (at : ℕ) {c n : ℕ} → decode_at s at ≡ Some (c, n) → c < 0x80 → Next s at c
next_of s at {c} {n} e h =
    let f = scalar_fits s at e in
    let w : n ≡ 1 = (stands_at s at e).wide ∙ ascii-wide c h in
    record { inside = omega arith; chars = codes-on s at e ∙ rw w }

pub peek_on : (s : List ℕ) (at : ℕ) {c n : ℕ} → decode_at s at ≡ Some (c, n) → peek_at s at ≡ c
unfolding peek_at
peek_on s at e = rw (codes-on s at e)

module _ (s : List ℕ) (at : ℕ) where
  pub first-on : {c n : ℕ} → decode_at s at ≡ Some (c, n) → first_at s at ≡ Some c
  unfolding first_at
  first-on e = rw (codes-on s at e)

  pub first_off : decode_at s at ≡ None → first_at s at ≡ None
  unfolding first_at
  first_off e = rw (codes_off s at e)

  -- the character by its code, if there is one
  pub decoded : {c : ℕ} → Some c ≡ first_at s at → Some (c, width c) ≡ decode_at s at
  decoded {c} h = by (decode_at s at) refl
    where
      by : (o : Option (ℕ × ℕ)) → decode_at s at ≡ o → Some (c, width c) ≡ o
      by None e = let k : Some c ≡ None = h ∙ first_off e in impossible (cc)
      by (Some (d, n)) e = let k : Some c ≡ Some d = h ∙ first-on e in let w = (stands_at s at e).wide in cc

  pub decoded-none : None ≡ first_at s at → None ≡ decode_at s at
  decoded-none h = by (decode_at s at) refl
    where
      by : (o : Option (ℕ × ℕ)) → decode_at s at ≡ o → None ≡ o
      by None e = refl
      by (Some (d, n)) e = let k : None ≡ Some d = h ∙ first-on e in impossible (cc)

  pub first_is : {x : ℕ} → Some x ≡ first_at s at → x ≡ peek_at s at
  unfolding first_at peek_at
  first_is {x} = by (codes (drop at s))
    where
      by : (cs : List ℕ) → Some x ≡ first_of cs → x ≡ head cs
      by [] e = impossible (cc)
      by (c ∷ cs) e = cc

  pub first_none : None ≡ first_at s at → codes (drop at s) ≡ []
  unfolding first_at
  first_none = by (codes (drop at s))
    where
      by : (cs : List ℕ) → None ≡ first_of cs → cs ≡ []
      by [] e = refl
      by (c ∷ cs) e = impossible (cc)

-- whether a character other than 0 is the first, by `==` and by `!=`
module _ (s : List ℕ) (at : ℕ) {o : Option ℕ} (p : o ≡ first_at s at) {x : ℕ} {b : Bool} where
  pub first_eq : 1 ≤ x → b ≡ option_eq eqb o (Some x) → b ≡ eqb (peek_at s at) x
  unfolding first_at peek_at
  first_eq h e = e ∙ ap (λ (o : Option ℕ). option_eq eqb o (Some x)) p ∙ by (codes (drop at s))
    where
      by : (cs : List ℕ) → option_eq eqb (first_of cs) (Some x) ≡ eqb (head cs) x
      by [] = sym (ne_eqb 0 x (λ e. omega arith))
      by (c ∷ cs) = refl

  pub eq_yes : 1 ≤ x → b ≡ option_eq eqb o (Some x) → b ≡ true → peek_at s at ≡ x
  eq_yes h e t = eqb-true (peek_at s at) x (sym (first_eq h e) ∙ t)

  pub eq_no : 1 ≤ x → b ≡ option_eq eqb o (Some x) → b ≡ false → peek_at s at ≡ x → ⊥
  eq_no h e t = eqb-false (peek_at s at) x (sym (first_eq h e) ∙ t)

module _ (s : List ℕ) (at : ℕ) {o : Option ℕ} (p : o ≡ first_at s at) {x : ℕ} {b : Bool} where
  pub ne_no : 1 ≤ x → b ≡ not (option_eq eqb o (Some x)) → b ≡ false → peek_at s at ≡ x
  ne_no h e t = eq_yes s at p h refl (by (option_eq eqb o (Some x)) (sym e ∙ t))
    where
      by : (a : Bool) → not a ≡ false → a ≡ true
      by true e = refl
      by false e = impossible (cc)

  pub ne_yes : 1 ≤ x → b ≡ not (option_eq eqb o (Some x)) → b ≡ true → peek_at s at ≡ x → ⊥
  ne_yes h e t = eq_no s at p h refl (by (option_eq eqb o (Some x)) (sym e ∙ t))
    where
      by : (a : Bool) → not a ≡ true → a ≡ false
      by true e = impossible (cc)
      by false e = refl

pub next-head : (s : List ℕ) (at x : ℕ) → 1 ≤ x → x < 0x80 → peek_at s at ≡ x → Next s at x
unfolding peek_at
next-head s at x h h' = by (decode_at s at) refl
  where
    by : (ch : Option (ℕ × ℕ)) → decode_at s at ≡ ch → peek_at s at ≡ x → Next s at x
    by None e g = let z = rw (codes_off s at e) at g in absurd (omega arith)
    by (Some (c, n)) e g = let z = sym (peek_on s at e) ∙ g in subst (Next s at) z (next_of s at e (omega arith))

-- the code of a character that may be missing
pub first-decoded : (s : List ℕ) (at : ℕ) (o : Option (ℕ × ℕ)) (r : Option ℕ) {Q : ℕ × ℕ → ℕ → Type 0} → o ≡ decode_at s at
    → MatchOption o (r ≡ None) (λ x. IsSomeAnd r (Q x)) → ((x : ℕ × ℕ) (y : ℕ) → Q x y → y ≡ x.0) → r ≡ first_at s at
first-decoded s at None r e m f = m ∙ sym (first_off s at (sym e))
first-decoded s at (Some x) (Some y) e m f = ap Some (f x y m) ∙ sym (first-on s at (sym e))
first-decoded s at (Some x) None e m f = absurd m
