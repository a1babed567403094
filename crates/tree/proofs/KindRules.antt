-- Laws of kinds and their numbers.
-- Assumes nothing.
use Prim.Native.Nat.{ℕ}
use native.Mathlib.Omega.{arith}
use mathlib.Core.Path.{◌≡◌, refl, ap, ◌∙◌}
use mathlib.Core.Bool.{true, false}
use mathlib.Core.List.{List, [], ◌∷◌}
use lib.Dec.{eqb}
use borrow.Author.Tests.{eqb-true}
use Rattle.basics.specs.Basics.{among, every}
use Rattle.basics.proofs.Tests.{cases, both_true, clash}
use Rattle.tree.specs.OneTree.{is_kind, expression_kinds}
use Rattle.tree.specs.Promise.{kind_number, kinds_of, root_of}
use Rattle.tree.specs.declared.NodeKind.{NodeKind}
use Rattle.tree.specs.declared.Kinds.{Kinds}
use Rattle.tree.specs.declared.Root.{Root}

number_is_kind : (k : NodeKind) → is_kind (kind_number k) ≡ true
number_is_kind k = grind arith

-- a number that is no kind's is none of these
none_of : (ks : List ℕ) → every is_kind ks ≡ true → (n : ℕ) → is_kind n ≡ false → among ks n ≡ false
unfolding every
none_of [] a n h = refl
none_of (k ∷ ks) a n h =
    let e = both_true (is_kind k) (every is_kind ks) a in
    cases (eqb n k) (λ t. clash (is_kind n) (ap is_kind (eqb-true n k t) ∙ e.0) h) (λ t. rw t (none_of ks e.1 n h))

all_kinds : (ks : Kinds) → every is_kind (kinds_of ks) ≡ true
unfolding every
all_kinds (Kinds.Of k) = rw (number_is_kind k)
all_kinds Kinds.Expressions = refl
all_kinds Kinds.Slots = refl
all_kinds Kinds.References = refl
all_kinds Kinds.Parts = refl

pub not_in : (ks : Kinds) (n : ℕ) → is_kind n ≡ false → among (kinds_of ks) n ≡ false
not_in ks = none_of (kinds_of ks) (all_kinds ks)

pub not_root : (r : Root) (n : ℕ) → is_kind n ≡ false → root_of r n ≡ false
unfolding every
not_root Root.Expression n h = none_of expression_kinds refl n h
not_root Root.Grammar n h = cases (eqb n 1) (λ t. clash (is_kind n) (ap is_kind (eqb-true n 1 t)) h) (λ t. t)
