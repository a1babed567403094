-- Members in groups: all of them one after another, and group by group, weigh the same.
-- Assumes nothing.
use Prim.Native.Nat.{ℕ, zero, suc, ◌+◌, ◌≤◌, ◌<◌}
use native.Mathlib.Omega.{arith}
use mathlib.Core.Path.{◌≡◌, refl, ap, sym, ◌∙◌}
use mathlib.Core.List.{List, [], ◌∷◌, ◌++◌, append_assoc, append-nil}
use lib.ListN.{length, length-append, take, get_or}
use Rattle.tree.specs.Records.{Branch, Node, nodes, texts_of}
use Rattle.tree.proofs.Encoded.{texts-append}
use Rattle.parser.specs.Storing.{flat}
use Rattle.parser.proofs.Lists.{flat-none, flat_append}
use Rattle.notation.specs.Members.{TokenMember, LocalMember, SkipMember, ExternalMember}
use Rattle.reader.specs.Groups.{chosen, all_of, groups_of}
use Rattle.reader.specs.Blocks.{MemberOf, kind_of, branches_of, kinds_of}
use Rattle.reader.specs.declared.blocks.Block.{Block}
use Rattle.reader.specs.declared.blocks.Block.TheVariants.{Tokens, LocalTokens, ExternalTokens, Specializer, Skip}

-- a number that is added up over branches: how many they are, how many nodes they have, how many bytes of text
pub record Weight : Type 0 where
  pub of : List Branch → ℕ
  pub none : of [] ≡ 0
  pub more : (xs ys : List Branch) → of (xs ++ ys) ≡ of xs + of ys

pub no_bytes : length (texts_of (flat nodes [])) ≡ 0
unfolding flat texts_of
no_bytes = refl

abbrev pub number : Weight
number = record { of = length; none = refl; more = length-append }

abbrev pub nodes-of : Weight
nodes-of =
    record { of = λ bs. length (flat nodes bs); none = ap length (flat-none nodes); more = λ xs ys. ap length (flat_append nodes xs ys) ∙ length-append (flat nodes xs) (flat nodes ys) }

abbrev pub bytes_of : Weight
bytes_of =
    record {
      of = λ bs. length (texts_of (flat nodes bs));
      none = no_bytes;
      more = λ xs ys. ap (λ (l : List Node). length (texts_of l)) (flat_append nodes xs ys) ∙ ap length (texts-append (flat nodes xs) (flat nodes ys)) ∙ length-append (texts_of (flat nodes xs)) (texts_of (flat nodes ys));
    }

module _ {M : Type 0} (kind : M → ℕ) (branches : M → List Branch) where
  pub all_snoc : (w : ℕ) (ms : List M) (m : M) → all_of kind branches w (ms ++ m ∷ []) ≡ all_of kind branches w ms ++ chosen kind branches w m
  unfolding all_of
  all_snoc w [] m = append-nil (chosen kind branches w m)
  all_snoc w (n ∷ ms) m = rw (all_snoc w ms m) (sym (append_assoc (chosen kind branches w n) (all_of kind branches w ms) (chosen kind branches w m)))

  -- the nodes of all, member by member
  pub all-nodes : (w : ℕ) (ms : List M) → flat nodes (all_of kind branches w ms) ≡ flat (λ m. flat nodes (chosen kind branches w m)) ms
  unfolding all_of flat
  all-nodes w [] = refl
  all-nodes w (m ∷ ms) = flat_append nodes (chosen kind branches w m) (all_of kind branches w ms) ∙ rw (all-nodes w ms)

  -- ------------------------------------------------------------------ the first groups

  groups-suc : (ks : List ℕ) (i : ℕ) (ms : List M) → i < length ks → groups_of kind branches (take (suc i) ks) ms ≡ groups_of kind branches (take i ks) ms ++ all_of kind branches (get_or ks i 0) ms
  unfolding groups_of
  groups-suc [] i ms h = absurd (omega arith)
  groups-suc (k ∷ ks) zero ms h = append-nil (all_of kind branches k ms)
  groups-suc (k ∷ ks) (suc i) ms h =
      rw (groups-suc ks i ms (omega arith)) (sym (append_assoc (all_of kind branches k ms) (groups_of kind branches (take i ks) ms) (all_of kind branches (get_or ks i 0) ms)))

  pub groups-next : (ks : List ℕ) (i : ℕ) {j : ℕ} (ms : List M) → j ≡ i + 1 → i < length ks → groups_of kind branches (take j ks) ms ≡ groups_of kind branches (take i ks) ms ++ all_of kind branches (get_or ks i 0) ms
  groups-next ks i {j} ms e h = let q : j ≡ suc i = omega arith in rw q (groups-suc ks i ms h)

  module _ (w : Weight) where
    -- ------------------------------------------------------------------ all groups

    groups_none : (ks : List ℕ) → w.of (groups_of kind branches ks []) ≡ 0
    unfolding groups_of all_of
    groups_none [] = w.none
    groups_none (k ∷ ks) = groups_none ks

    groups-first : (ks : List ℕ) (m : M) (ms : List M) → w.of (groups_of kind branches ks (m ∷ ms)) ≡ w.of (groups_of kind branches ks (m ∷ [])) + w.of (groups_of kind branches ks ms)
    unfolding groups_of all_of
    groups-first [] m ms = let a = w.none in omega arith
    groups-first (k ∷ ks) m ms =
        let c = chosen kind branches k m in
        let l = all_of kind branches k ms in
        let a = w.more (c ++ l) (groups_of kind branches ks (m ∷ ms)) in
        let b = w.more c l in
        let d = w.more (c ++ []) (groups_of kind branches ks (m ∷ [])) in
        let e = w.more c [] in
        let f = w.none in
        let g = w.more l (groups_of kind branches ks ms) in
        let h = groups-first ks m ms in
        omega arith

    -- where each member alone is what its groups hold of it
    pub groups_weigh : (ks : List ℕ) → ((m : M) → groups_of kind branches ks (m ∷ []) ≡ branches m) → (ms : List M) → w.of (groups_of kind branches ks ms) ≡ w.of (all_of kind branches 0 ms)
    unfolding all_of
    groups_weigh ks single [] = groups_none ks ∙ sym w.none
    groups_weigh ks single (m ∷ ms) =
        let a = groups-first ks m ms in
        let b = ap w.of (single m) in
        let c = w.more (branches m) (all_of kind branches 0 ms) in
        let d = groups_weigh ks single ms in
        omega arith

-- ------------------------------------------------------------------ blocks

-- a member stands in one group of its block
in_one : (b : Block) (m : MemberOf b) → groups_of (kind_of b) (branches_of b) (kinds_of b) (m ∷ []) ≡ branches_of b m
unfolding groups_of all_of
in_one Tokens (TokenMember.precedence x) = refl
in_one Tokens (TokenMember.conflict x) = refl
in_one Tokens (TokenMember.rule x) = refl
in_one Tokens (TokenMember.literal x) = refl
in_one LocalTokens (LocalMember.precedence x) = refl
in_one LocalTokens (LocalMember.rule x) = refl
in_one LocalTokens (LocalMember.fallback x) = refl
in_one ExternalTokens (ExternalMember.token x) = refl
in_one ExternalTokens (ExternalMember.conflicts ns) = rw (append-nil, append-nil)
in_one Specializer (ExternalMember.token x) = refl
in_one Specializer (ExternalMember.conflicts ns) = refl
in_one Skip (SkipMember.top_rule x) = refl
in_one Skip (SkipMember.rule x) = refl

-- group by group they weigh what all weigh
pub block_weighs : (b : Block) (w : Weight) (ms : List (MemberOf b)) → w.of (groups_of (kind_of b) (branches_of b) (kinds_of b) ms) ≡ w.of (all_of (kind_of b) (branches_of b) 0 ms)
block_weighs b w ms = groups_weigh (kind_of b) (branches_of b) w (kinds_of b) (in_one b) ms

-- no kind is 0
abbrev pub Nonzero : List ℕ → Type 0
Nonzero [] = Unit {0}
Nonzero (k ∷ ks) = (0 < k) × Nonzero ks

pub kinds_nonzero : (b : Block) → Nonzero (kinds_of b)
kinds_nonzero Tokens = (omega arith, (omega arith, (omega arith, (omega arith, tt))))
kinds_nonzero LocalTokens = (omega arith, (omega arith, (omega arith, tt)))
kinds_nonzero ExternalTokens = (omega arith, (omega arith, tt))
kinds_nonzero Specializer = (omega arith, tt)
kinds_nonzero Skip = (omega arith, (omega arith, tt))

-- a block has at most four groups
pub kinds-few : (b : Block) → length (kinds_of b) ≤ 4
kinds-few Tokens = omega arith
kinds-few LocalTokens = omega arith
kinds-few ExternalTokens = omega arith
kinds-few Specializer = omega arith
kinds-few Skip = omega arith
