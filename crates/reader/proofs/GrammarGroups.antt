-- The groups of declarations at top level are the lists of the grammar's record: what is stored of them is what its branch stores.
-- Assumes nothing.
use Prim.Native.Nat.{ℕ, ◌+◌}
use native.Mathlib.Omega.{arith}
use mathlib.Core.Path.{◌≡◌, refl, ap, sym, ◌∙◌}
use mathlib.Core.Bool.{Bool, true, false, not}
use mathlib.Core.List.{List, [], ◌∷◌, ◌++◌, append_assoc, append-nil}
use mathlib.Core.Option.{Option, none, some}
use lib.Dec.{eqb}
use lib.ListN.{length, length-append}
use Rattle.basics.specs.Basics.{if◌then◌otherwise◌, is_empty, or_not, keep_if, kept, picked}
use Rattle.characters.specs.Utf8.{encode_all}
use Rattle.tree.specs.Records.{Branch, branch, Branches, []ᴮ, count, nodes, nodes_all}
use Rattle.tree.specs.Stored.{each, name_branch, declaration_branch, external_prop_branch, flag, valued, grammar_branch}
use Rattle.tree.specs.Syntax.{Declaration, declaration_kind, of_kind, groups, grouped}
use Rattle.notation.specs.Members.{Member, declaration, dialects, external_prop, detect_delim, declared, declared_prop, detects}
use Rattle.notation.specs.Declarations.{grammar_of}
use Rattle.parser.specs.Storing.{node, flat, nodes_of}
use Rattle.parser.proofs.Lists.{flat_append}
use Rattle.parser.proofs.Ready.{nodes-branch, nodes-each, count-each}
use Rattle.reader.specs.Groups.{wants, chosen, all_of, groups_of}
use Rattle.reader.specs.Directives.{member_kind, member_branches}
use Rattle.reader.specs.Whole.{last_names}
use Rattle.reader.proofs.GroupPicks.{branch_of, picked-nodes, picked-length}

-- ------------------------------------------------------------------ one member

-- a member's branches stand in the group of its kind, and in no other
pub top_one : (m : Member ℕ) → groups_of member_kind member_branches (2 ∷ 3 ∷ 8 ∷ 12 ∷ 14 ∷ 16 ∷ 18 ∷ 19 ∷ 20 ∷ 22 ∷ 23 ∷ 25 ∷ []) (m ∷ []) ≡ member_branches m
unfolding groups_of all_of
top_one (declaration (Declaration.top_rule r)) = refl
top_one (declaration (Declaration.rule r)) = refl
top_one (declaration (Declaration.tokens x)) = refl
top_one (declaration (Declaration.local_tokens x)) = refl
top_one (declaration (Declaration.context x)) = refl
top_one (declaration (Declaration.external_tokens x)) = refl
top_one (declaration (Declaration.external_specializer x)) = refl
top_one (declaration (Declaration.external_prop_source x)) = refl
top_one (declaration (Declaration.precedences x)) = refl
top_one (declaration (Declaration.main_skip e)) = refl
top_one (declaration (Declaration.scoped_skip x)) = refl
top_one (dialects ns) = refl
top_one (external_prop x) = refl
top_one detect_delim = refl

-- ------------------------------------------------------------------ declarations

-- the declaration that a member of a kind is
abbrev declared_of : ℕ → Member ℕ → Option (Declaration ℕ)
declared_of k (declaration d) = if eqb (declaration_kind d) k then some d otherwise none
declared_of k (dialects ns) = none
declared_of k (external_prop x) = none
declared_of k detect_delim = none

either-none : (b : Bool) → ◌≡◌ {A = List Branch} (if b then [] otherwise []) []
either-none true = refl
either-none false = refl

branch_if : (b : Bool) (d : Declaration ℕ) → (if b then declaration_branch d ∷ [] otherwise []) ≡ branch_of declaration_branch (if b then some d otherwise none)
branch_if true d = refl
branch_if false d = refl

keep-if : (b : Bool) (d : Declaration ℕ) (ds : List (Declaration ℕ)) → or_not (if b then some d otherwise none) ds ≡ keep_if b d ds
keep-if true d ds = refl
keep-if false d ds = refl

module _ (k : ℕ) where
  kept-declared : (ms : List (Member ℕ)) → picked (declared_of k) ms ≡ of_kind k (picked declared ms)
  unfolding picked kept
  kept-declared [] = refl
  kept-declared (declaration d ∷ ms) = rw (kept-declared ms) (keep-if (eqb (declaration_kind d) k) d _)
  kept-declared (dialects ns ∷ ms) = kept-declared ms
  kept-declared (external_prop x ∷ ms) = kept-declared ms
  kept-declared (detect_delim ∷ ms) = kept-declared ms

  -- a kind that is not that of external props
  module _ (w : (x : ℕ) → wants k x ≡ eqb x k) (e : eqb 25 k ≡ false) where
    declared-chosen : (m : Member ℕ) → chosen member_kind member_branches k m ≡ branch_of declaration_branch (declared_of k m)
    declared-chosen (declaration d) = rw (w (declaration_kind d)) (branch_if (eqb (declaration_kind d) k) d)
    declared-chosen (dialects ns) = either-none (wants k 24)
    declared-chosen (external_prop x) = rw (w 25, e)
    declared-chosen detect_delim = either-none (wants k 1)

-- the groups of these kinds store what the declarations of these groups store, and are as many
record Same (ks : List ℕ) (ms : List (Member ℕ)) : Type 0 where
  pub stored : flat nodes (groups_of member_kind member_branches ks ms) ≡ flat (nodes_of declaration_branch) (groups ks (picked declared ms))
  pub counted : length (groups_of member_kind member_branches ks ms) ≡ length (groups ks (picked declared ms))

same_none : (ms : List (Member ℕ)) → Same [] ms
unfolding groups_of groups flat
same_none ms = record { stored = refl; counted = refl }

same_more : (k : ℕ) → ((x : ℕ) → wants k x ≡ eqb x k) → eqb 25 k ≡ false → {ks : List ℕ} {ms : List (Member ℕ)} → Same ks ms → Same (k ∷ ks) ms
unfolding groups_of groups
same_more k w e {ks} {ms} f =
    let is = declared-chosen k w e in
    let p = picked-nodes member_kind member_branches (declared_of k) declaration_branch k is ms in
    let q = picked-length member_kind member_branches (declared_of k) declaration_branch k is ms in
    let z = kept-declared k ms in
    let a = length-append (all_of member_kind member_branches k ms) (groups_of member_kind member_branches ks ms) in
    let b = length-append (of_kind k (picked declared ms)) (groups ks (picked declared ms)) in
    let c = f.counted in
    let d = q ∙ ap length z in
    record {
      stored = flat_append nodes (all_of member_kind member_branches k ms) (groups_of member_kind member_branches ks ms)
          ∙ rw (p, z, f.stored) (sym (flat_append (nodes_of declaration_branch) (of_kind k (picked declared ms)) (groups ks (picked declared ms))));
      counted = omega arith;
    }

-- the kinds of declarations, in the order of their groups
abbrev pub declared_kinds : List ℕ
declared_kinds = 2 ∷ 3 ∷ 8 ∷ 12 ∷ 14 ∷ 16 ∷ 18 ∷ 19 ∷ 20 ∷ 22 ∷ 23 ∷ []

declared_same : (ms : List (Member ℕ)) → Same declared_kinds ms
declared_same ms =
    same_more 2 (λ x. refl) refl
    (same_more 3 (λ x. refl) refl
    (same_more 8 (λ x. refl) refl
    (same_more 12 (λ x. refl) refl
    (same_more 14 (λ x. refl) refl
    (same_more 16 (λ x. refl) refl
    (same_more 18 (λ x. refl) refl
    (same_more 19 (λ x. refl) refl
    (same_more 20 (λ x. refl) refl
    (same_more 22 (λ x. refl) refl
    (same_more 23 (λ x. refl) refl (same_none ms)))))))))))

module _ (ms : List (Member ℕ)) where
  pub declared-groups : flat nodes (groups_of member_kind member_branches declared_kinds ms) ≡ flat (nodes_of declaration_branch) (grouped (picked declared ms))
  declared-groups = (declared_same ms).stored

  pub declared-length : length (groups_of member_kind member_branches declared_kinds ms) ≡ length (grouped (picked declared ms))
  declared-length = (declared_same ms).counted

-- ------------------------------------------------------------------ external props

prop-chosen : (m : Member ℕ) → chosen member_kind member_branches 25 m ≡ branch_of external_prop_branch (declared_prop m)
prop-chosen (declaration (Declaration.top_rule r)) = refl
prop-chosen (declaration (Declaration.rule r)) = refl
prop-chosen (declaration (Declaration.tokens x)) = refl
prop-chosen (declaration (Declaration.local_tokens x)) = refl
prop-chosen (declaration (Declaration.context x)) = refl
prop-chosen (declaration (Declaration.external_tokens x)) = refl
prop-chosen (declaration (Declaration.external_specializer x)) = refl
prop-chosen (declaration (Declaration.external_prop_source x)) = refl
prop-chosen (declaration (Declaration.precedences x)) = refl
prop-chosen (declaration (Declaration.main_skip e)) = refl
prop-chosen (declaration (Declaration.scoped_skip x)) = refl
prop-chosen (dialects ns) = refl
prop-chosen (external_prop x) = refl
prop-chosen detect_delim = refl

module _ (ms : List (Member ℕ)) where
  pub prop-groups : flat nodes (all_of member_kind member_branches 25 ms) ≡ flat (nodes_of external_prop_branch) (picked declared_prop ms)
  prop-groups = picked-nodes member_kind member_branches declared_prop external_prop_branch 25 prop-chosen ms

  pub prop-length : length (all_of member_kind member_branches 25 ms) ≡ length (picked declared_prop ms)
  prop-length = picked-length member_kind member_branches declared_prop external_prop_branch 25 prop-chosen ms

-- ------------------------------------------------------------------ the grammar

no_branches : (nodes_all []ᴮ ≡ []) × (count []ᴮ ≡ 0)
unfolding nodes count
no_branches = (refl, refl)

-- how many branches the grammar's has
abbrev pub grammar_children : List (Member ℕ) → ℕ
grammar_children ms = length (groups_of member_kind member_branches declared_kinds ms) + length (last_names ms) + length (all_of member_kind member_branches 25 ms)

module _ (p : ℕ) (ms : List (Member ℕ)) where
  abbrev props : Branches
  props = each external_prop_branch (picked declared_prop ms) []ᴮ

  abbrev named : Branches
  named = each (name_branch 24) (last_names ms) props

  abbrev all : Branches
  all = each declaration_branch (grouped (picked declared ms)) named

  grammar-branch : grammar_branch (grammar_of p ms) ≡ branch (valued 1 p (flag (not (is_empty (picked detects ms))))) all
  unfolding grammar_branch grammar_of last_names
  grammar-branch = refl

  grammar-count : count all ≡ grammar_children ms
  grammar-count =
      let a = count-each declaration_branch (grouped (picked declared ms)) named in
      let b = count-each (name_branch 24) (last_names ms) props in
      let c = count-each external_prop_branch (picked declared_prop ms) []ᴮ in
      let d = no_branches.1 in
      let e = declared-length ms in
      let f = prop-length ms in
      omega arith

  grammar-all : nodes_all all
      ≡ flat nodes (groups_of member_kind member_branches declared_kinds ms) ++ flat (nodes_of (name_branch 24)) (last_names ms) ++ flat nodes (all_of member_kind member_branches 25 ms)
  grammar-all =
      nodes-each declaration_branch (grouped (picked declared ms)) named
      ∙ rw (nodes-each (name_branch 24) (last_names ms) props, nodes-each external_prop_branch (picked declared_prop ms) []ᴮ, no_branches.0, append-nil (flat (nodes_of external_prop_branch) (picked declared_prop ms)), declared-groups ms, prop-groups ms)
      (sym (append_assoc (flat (nodes_of declaration_branch) (grouped (picked declared ms))) (flat (nodes_of (name_branch 24)) (last_names ms)) (flat (nodes_of external_prop_branch) (picked declared_prop ms))))

  pub grammar-nodes : nodes (grammar_branch (grammar_of p ms))
      ≡ flat nodes (groups_of member_kind member_branches declared_kinds ms) ++ flat (nodes_of (name_branch 24)) (last_names ms) ++ flat nodes (all_of member_kind member_branches 25 ms)
      ++ node 1 p [] (flag (not (is_empty (picked detects ms)))) 0 (grammar_children ms) ∷ []
  unfolding encode_all
  grammar-nodes =
      ap nodes grammar-branch
      ∙ nodes-branch (valued 1 p (flag (not (is_empty (picked detects ms))))) all
      ∙ rw (grammar-all, grammar-count)
