-- Words compared by their bytes, and by their characters.
-- Assumes nothing.
use mathlib.Core.Path.{◌≡◌, refl, sym, ◌∙◌, ap, subst}
use mathlib.Core.Bool.{Bool, true}
use mathlib.Core.List.{List, [], ◌∷◌}
use Prim.Native.Nat.{ℕ}
use native.Mathlib.Omega.{arith}
use lib.Dec.{ltb}
use borrow.Author.Tests.{ltb-true}
use Rattle.basics.specs.Basics.{same, every}
use Rattle.basics.proofs.Tests.{both_true}
use Rattle.basics.proofs.Same.{same_true, same_refl, same_by}
use Rattle.characters.specs.Utf8.{encode_all, codes}
use Rattle.characters.proofs.Encode.{scalar-low, encode_1}
use Rattle.characters.proofs.Chars.{Scalars, none_left, one_more, codes_all}

-- all ASCII
abbrev is_plain : List ℕ → Bool
is_plain w = every (λ c. ltb c 0x80) w

plain-scalars : (w : List ℕ) → is_plain w ≡ true → Scalars w
unfolding every
plain-scalars [] h = none_left
plain-scalars (c ∷ w) h =
    let e = both_true (ltb c 0x80) (is_plain w) h in
    let l = ltb-true c 0x80 e.0 in
    one_more (scalar-low c (omega arith)) (plain-scalars w e.1)

plain-bytes : (w : List ℕ) → is_plain w ≡ true → encode_all w ≡ w
unfolding every encode_all
plain-bytes [] h = refl
plain-bytes (c ∷ w) h =
    let e = both_true (ltb c 0x80) (is_plain w) h in
    rw (encode_1 c (ltb-true c 0x80 e.0)) (ap (λ (l : List ℕ). c ∷ l) (plain-bytes w e.1))

-- a text that is the bytes of its characters spells such a word by the one as by the other
pub spells-codes : (w bs : List ℕ) → is_plain w ≡ true → encode_all (codes bs) ≡ bs → same w bs ≡ same w (codes bs)
spells-codes w bs h e =
    same_by (same w bs) w (codes bs) (λ q. sym (codes_all (plain-scalars w h)) ∙ ap codes (plain-bytes w h ∙ same_true w bs q))
    (λ q. subst (λ (l : List ℕ). same w l ≡ true) (sym (plain-bytes w h) ∙ ap encode_all q ∙ e) (same_refl w))
