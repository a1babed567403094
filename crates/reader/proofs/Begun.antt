-- Places that move on stay small.
-- Assumes nothing.
use Prim.Native.Nat.{ℕ, ◌+◌, ◌≤◌, ◌<◌}
use native.Mathlib.Omega.{arith}
use native.Mathlib.Decide.{dec_lt}
use mathlib.Core.Path.{◌≡◌, ◌∙◌}
use mathlib.Core.Bool.{Bool, true, false}
use mathlib.Core.List.{List, [], ◌∷◌, ◌++◌}
use lib.Dec.{eqb}
use lib.ListN.{length, get_or, get_or-eq_default}
use Rattle.basics.specs.Basics.{if◌then◌otherwise◌}
use Rattle.tree.specs.Records.{Branch, nodes, texts_of}
use Rattle.tokens.specs.Promise.{LiesIn}
use Rattle.parser.specs.Storing.{flat}
use Rattle.lexer.specs.declared.Token.{Token}
use Rattle.reader.specs.Groups.{all_of}
use Rattle.reader.specs.Places.{group_at, Fills, Begins}
use Rattle.reader.proofs.GroupSizes.{Weight, nodes-of, bytes_of}

-- a group weighs no more than all
group_weighs : {M : Type 0} (place kind : M → ℕ) (branches : M → List Branch) (w : Weight) (g : ℕ) (ms : List M) → w.of (group_at place branches g ms) ≤ w.of (all_of kind branches 0 ms)
unfolding group_at all_of
group_weighs place kind branches w g [] = omega arith
group_weighs place kind branches w g (m ∷ ms) =
    let a = group_weighs place kind branches w g ms in
    let b = w.more (branches m) (all_of kind branches 0 ms) in
    go (eqb (place m) g) w.none a b
  where
    go : (b : Bool) → w.of [] ≡ 0 → w.of (group_at place branches g ms) ≤ w.of (all_of kind branches 0 ms) → w.of (branches m ++ all_of kind branches 0 ms) ≡ w.of (branches m) + w.of (all_of kind branches 0 ms)
        → w.of ((if b then branches m otherwise []) ++ group_at place branches g ms) ≤ w.of (branches m ++ all_of kind branches 0 ms)
    go true n a b = let c = w.more (branches m) (group_at place branches g ms) in omega arith
    go false n a b = omega arith

module _ {M : Type 0} (place kind : M → ℕ) (branches : M → List Branch) {count : ℕ} {ms : List M} {ps qs ps₁ qs₁ ws ts vs us : List ℕ} (f : Fills place branches count ms ps qs ps₁ qs₁ ws ts vs us)
    (few : length (flat nodes (all_of kind branches 0 ms)) ≤ 0x20000) (short : length (texts_of (flat nodes (all_of kind branches 0 ms))) ≤ 0x30000) where
  words_stay : {limit : ℕ} (more : ℕ) → limit + 0x100000 ≤ more → length ps ≡ count → (g : ℕ) → get_or ps g 0 ≤ limit → Dec (g < count) → get_or ps₁ g 0 ≤ more
  words_stay more m e g a (yes h) =
      let on = f.words-on g h in
      let w = group_weighs place kind branches nodes-of g ms in
      omega arith
  words_stay more m e g a (no h) =
      let k = f.same_places in
      let d : get_or ps₁ g 0 ≡ 0 = get_or-eq_default ps₁ 0 {n = g} (omega arith) in
      omega arith

  bytes_stay : {limit : ℕ} (more : ℕ) → limit + 0x100000 ≤ more → length qs ≡ count → (g : ℕ) → get_or qs g 0 ≤ limit → Dec (g < count) → get_or qs₁ g 0 ≤ more
  bytes_stay more m e g a (yes h) =
      let on = f.bytes_on g h in
      let w = group_weighs place kind branches bytes_of g ms in
      omega arith
  bytes_stay more m e g a (no h) =
      let k = f.same_bytes in
      let d : get_or qs₁ g 0 ≡ 0 = get_or-eq_default qs₁ 0 {n = g} (omega arith) in
      omega arith

  pub begins-on : {limit : ℕ} {s : List ℕ} {t u : Token} → Begins count limit s t ps qs → (more : ℕ) → limit + 0x100000 ≤ more → LiesIn s 0 u → Begins count more s u ps₁ qs₁
  begins-on b more m i =
      record {
        lies = i;
        small = b.small;
        words-all = f.same_places ∙ b.words-all;
        bytes-all = f.same_bytes ∙ b.bytes-all;
        words-few = λ g. words_stay more m b.words-all g (b.words-few g) (dec_lt g count);
        bytes-few = λ g. bytes_stay more m b.bytes-all g (b.bytes-few g) (dec_lt g count);
      }
