-- The groups of a block are the lists of its declaration's record: what is stored of them is what the record's branches store.
-- Assumes nothing.
use Prim.Native.Nat.{ℕ, zero, suc, ◌+◌, ◌≤◌}
use native.Mathlib.Omega.{arith}
use mathlib.Core.Path.{◌≡◌, refl, sym, ◌∙◌}
use mathlib.Core.Bool.{Bool, true, false, ◌&&◌}
use mathlib.Core.List.{List, [], ◌∷◌, ◌++◌}
use mathlib.Core.Option.{Option, none, some}
use lib.ListN.{length, length-append}
use Rattle.basics.specs.Basics.{concat, is_empty, first_element, or_not, picked}
use Rattle.lexer.specs.Tokens.{Tokens as Stream}
use Rattle.tree.specs.Records.{Branch, Branches, []ᴮ, count, nodes, nodes_all}
use Rattle.tree.specs.Stored.{each, name_branch, rule_branch, token_prec_branch, token_conflict_branch, literal_branch, named_node_branch, fallback_branches}
use Rattle.tree.specs.Syntax.{RuleDeclaration, TokenPrecDeclaration, NamedNode}
use Rattle.notation.specs.Parser.{Answer, read, refused, Parser, and_then, ◌>>=◌, pure, choose, refuse_here, kind_of as kind_at, kind, at_in, says, eat, eat_at, expect, turns, loop, separate, until_step, until, nothing}
use Rattle.notation.specs.Members.{TokenMember, token_precedence, token_conflict, token_rule, token_literal, LocalMember, local_precedence, local_rule, local_fallback, SkipMember, skip_top_rule, skip_rule, ExternalMember, external_token, external_conflicts}
use Rattle.notation.specs.Declarations.{parse_rule, block, parse_token_precedence, parse_named_node, parse_local_member}
use Rattle.parser.specs.Storing.{flat, nodes_of}
use Rattle.parser.proofs.Lists.{flat-none, flat_append}
use Rattle.parser.proofs.Ready.{nodes-each, count-each}
use Rattle.reader.specs.Groups.{chosen, all_of, groups_of}
use Rattle.reader.specs.Blocks.{kinds_of, kind_of, branches_of, name_branches, members_of}
use Rattle.reader.specs.declared.blocks.Block.TheVariants.{Tokens, LocalTokens, ExternalTokens, Specializer, Skip}
use Rattle.reader.proofs.MemberLaws.{flat-names, length-names}

-- ------------------------------------------------------------------ groups and branches

-- the branches store what the groups of these kinds store, and are as many
pub record Grouped {M : Type 0} (kind : M → ℕ) (branches : M → List Branch) (ks : List ℕ) (ms : List M) (bs : Branches) : Type 0 where
  pub stored : nodes_all bs ≡ flat nodes (groups_of kind branches ks ms)
  pub counted : count bs ≡ length (groups_of kind branches ks ms)

-- the branch of what is picked, if there is one
abbrev pub branch_of : {X : Type 0} → (X → Branch) → Option X → List Branch
branch_of f none = []
branch_of f (some x) = f x ∷ []

module _ {M : Type 0} {kind : M → ℕ} {branches : M → List Branch} where
  pub grouped-none : (ms : List M) → Grouped kind branches [] ms []ᴮ
  unfolding groups_of flat nodes count
  grouped-none ms = record { stored = refl; counted = refl }

  module _ {X : Type 0} (f : X → Branch) (k : ℕ) {ks : List ℕ} {ms : List M} {bs : Branches} where
    -- one group before others
    grouped-more : (xs : List X) → flat nodes (all_of kind branches k ms) ≡ flat (nodes_of f) xs → length (all_of kind branches k ms) ≡ length xs
        → Grouped kind branches ks ms bs → Grouped kind branches (k ∷ ks) ms (each f xs bs)
    unfolding groups_of
    grouped-more xs p q g =
        let c = count-each f xs bs in
        let d = g.counted in
        let l = length-append (all_of kind branches k ms) (groups_of kind branches ks ms) in
        record {
          stored = nodes-each f xs bs ∙ rw (g.stored, ← p) (sym (flat_append nodes (all_of kind branches k ms) (groups_of kind branches ks ms)));
          counted = omega arith;
        }

module _ {M : Type 0} (kind : M → ℕ) (branches : M → List Branch) {X : Type 0} (pick : M → Option X) (f : X → Branch) (k : ℕ)
    (is : (m : M) → chosen kind branches k m ≡ branch_of f (pick m)) where
  pub picked-nodes : (ms : List M) → flat nodes (all_of kind branches k ms) ≡ flat (nodes_of f) (picked pick ms)
  unfolding all_of picked flat
  picked-nodes [] = refl
  picked-nodes (m ∷ ms) = rw (is m) (more (pick m) _ _ (picked-nodes ms))
    where
      more : (o : Option X) (bs : List Branch) (xs : List X) → flat nodes bs ≡ flat (nodes_of f) xs → flat nodes (branch_of f o ++ bs) ≡ flat (nodes_of f) (or_not o xs)
      more none bs xs h = h
      more (some x) bs xs h = rw h

  pub picked-length : (ms : List M) → length (all_of kind branches k ms) ≡ length (picked pick ms)
  unfolding all_of picked
  picked-length [] = refl
  picked-length (m ∷ ms) = rw (is m) (more (pick m) _ _ (picked-length ms))
    where
      more : (o : Option X) (bs : List Branch) (xs : List X) → length bs ≡ length xs → length (branch_of f o ++ bs) ≡ length (or_not o xs)
      more none bs xs h = h
      more (some x) bs xs h = rw h

  -- a group of members of which each has one branch
  grouped-by : {ks : List ℕ} {ms : List M} {bs : Branches} → Grouped kind branches ks ms bs → Grouped kind branches (k ∷ ks) ms (each f (picked pick ms) bs)
  grouped-by {ms = ms} g = grouped-more f k (picked pick ms) (picked-nodes ms) (picked-length ms) g

-- ------------------------------------------------------------------ `@tokens`

precedence-chosen : (m : TokenMember ℕ) → chosen (kind_of Tokens) (branches_of Tokens) 9 m ≡ branch_of token_prec_branch (token_precedence m)
precedence-chosen (TokenMember.precedence x) = refl
precedence-chosen (TokenMember.conflict x) = refl
precedence-chosen (TokenMember.rule x) = refl
precedence-chosen (TokenMember.literal x) = refl

conflict-chosen : (m : TokenMember ℕ) → chosen (kind_of Tokens) (branches_of Tokens) 10 m ≡ branch_of token_conflict_branch (token_conflict m)
conflict-chosen (TokenMember.precedence x) = refl
conflict-chosen (TokenMember.conflict x) = refl
conflict-chosen (TokenMember.rule x) = refl
conflict-chosen (TokenMember.literal x) = refl

rule-chosen : (m : TokenMember ℕ) → chosen (kind_of Tokens) (branches_of Tokens) 3 m ≡ branch_of (rule_branch 3) (token_rule m)
rule-chosen (TokenMember.precedence x) = refl
rule-chosen (TokenMember.conflict x) = refl
rule-chosen (TokenMember.rule x) = refl
rule-chosen (TokenMember.literal x) = refl

literal-chosen : (m : TokenMember ℕ) → chosen (kind_of Tokens) (branches_of Tokens) 11 m ≡ branch_of literal_branch (token_literal m)
literal-chosen (TokenMember.precedence x) = refl
literal-chosen (TokenMember.conflict x) = refl
literal-chosen (TokenMember.rule x) = refl
literal-chosen (TokenMember.literal x) = refl

pub tokens-grouped : (ms : List (TokenMember ℕ)) → Grouped (kind_of Tokens) (branches_of Tokens) (kinds_of Tokens) ms
    (each token_prec_branch (picked token_precedence ms) (each token_conflict_branch (picked token_conflict ms) (each (rule_branch 3) (picked token_rule ms) (each literal_branch (picked token_literal ms) []ᴮ))))
tokens-grouped ms =
    grouped-by _ _ token_precedence token_prec_branch 9 precedence-chosen
    (grouped-by _ _ token_conflict token_conflict_branch 10 conflict-chosen
    (grouped-by _ _ token_rule (rule_branch 3) 3 rule-chosen
    (grouped-by _ _ token_literal literal_branch 11 literal-chosen (grouped-none ms))))

-- ------------------------------------------------------------------ scoped skips

top-chosen : (m : SkipMember ℕ) → chosen (kind_of Skip) (branches_of Skip) 2 m ≡ branch_of (rule_branch 2) (skip_top_rule m)
top-chosen (SkipMember.top_rule x) = refl
top-chosen (SkipMember.rule x) = refl

skip-chosen : (m : SkipMember ℕ) → chosen (kind_of Skip) (branches_of Skip) 3 m ≡ branch_of (rule_branch 3) (skip_rule m)
skip-chosen (SkipMember.top_rule x) = refl
skip-chosen (SkipMember.rule x) = refl

pub skip-grouped : (ms : List (SkipMember ℕ)) → Grouped (kind_of Skip) (branches_of Skip) (kinds_of Skip) ms (each (rule_branch 2) (picked skip_top_rule ms) (each (rule_branch 3) (picked skip_rule ms) []ᴮ))
skip-grouped ms = grouped-by _ _ skip_top_rule (rule_branch 2) 2 top-chosen (grouped-by _ _ skip_rule (rule_branch 3) 3 skip-chosen (grouped-none ms))

-- ------------------------------------------------------------------ external tokens

external-chosen : (m : ExternalMember ℕ) → chosen (kind_of ExternalTokens) (branches_of ExternalTokens) 13 m ≡ branch_of named_node_branch (external_token m)
external-chosen (ExternalMember.token x) = refl
external-chosen (ExternalMember.conflicts ns) = refl

-- the names of all conflicts
conflicts-nodes : (ms : List (ExternalMember ℕ)) → flat nodes (all_of (kind_of ExternalTokens) (branches_of ExternalTokens) 17 ms) ≡ flat (nodes_of (name_branch 17)) (concat (picked external_conflicts ms))
unfolding all_of picked concat
conflicts-nodes [] = flat-none nodes ∙ sym (flat-none (nodes_of (name_branch 17)))
conflicts-nodes (ExternalMember.token x ∷ ms) = conflicts-nodes ms
conflicts-nodes (ExternalMember.conflicts ns ∷ ms) =
    flat_append nodes (name_branches 17 ns) (all_of (kind_of ExternalTokens) (branches_of ExternalTokens) 17 ms)
    ∙ rw (flat-names 17 ns, conflicts-nodes ms) (sym (flat_append (nodes_of (name_branch 17)) ns (concat (picked external_conflicts ms))))

conflicts-length : (ms : List (ExternalMember ℕ)) → length (all_of (kind_of ExternalTokens) (branches_of ExternalTokens) 17 ms) ≡ length (concat (picked external_conflicts ms))
unfolding all_of picked concat
conflicts-length [] = refl
conflicts-length (ExternalMember.token x ∷ ms) = conflicts-length ms
conflicts-length (ExternalMember.conflicts ns ∷ ms) =
    let a = length-append (name_branches 17 ns) (all_of (kind_of ExternalTokens) (branches_of ExternalTokens) 17 ms) in
    let b = length-append ns (concat (picked external_conflicts ms)) in
    let c = length-names 17 ns in
    let d = conflicts-length ms in
    omega arith

pub external-grouped : (ms : List (ExternalMember ℕ)) → Grouped (kind_of ExternalTokens) (branches_of ExternalTokens) (kinds_of ExternalTokens) ms
    (each named_node_branch (picked external_token ms) (each (name_branch 17) (concat (picked external_conflicts ms)) []ᴮ))
external-grouped ms =
    grouped-by _ _ external_token named_node_branch 13 external-chosen
    (grouped-more (name_branch 17) 17 (concat (picked external_conflicts ms)) (conflicts-nodes ms) (conflicts-length ms) (grouped-none ms))

-- ------------------------------------------------------------------ external specializers

specializer_chosen : (m : ExternalMember ℕ) → chosen (kind_of Specializer) (branches_of Specializer) 13 m ≡ branch_of named_node_branch (external_token m)
specializer_chosen (ExternalMember.token x) = refl
specializer_chosen (ExternalMember.conflicts ns) = refl

pub specializer_grouped : (ms : List (ExternalMember ℕ)) → Grouped (kind_of Specializer) (branches_of Specializer) (kinds_of Specializer) ms (each named_node_branch (picked external_token ms) []ᴮ)
specializer_grouped ms = grouped-by _ _ external_token named_node_branch 13 specializer_chosen (grouped-none ms)

-- ------------------------------------------------------------------ what a loop keeps

module _ {A : Type 0} (P : List A → Type 0) where
  module _ (step : List A → Parser ℕ (Option A))
      (keeps : (before : List A) (ts us : Stream ℕ) (a : A) → P before → step before ts ≡ read (some a) us → P (before ++ a ∷ [])) (ms : List A) (us : Stream ℕ) where
    -- one turn, where the turns that are left keep it
    turn-keeps : (n : ℕ) (rest : (before : List A) (ts : Stream ℕ) → P before → turns n step before ts ≡ read ms us → P ms) (before : List A) (ts : Stream ℕ) → P before
        → turns (suc n) step before ts ≡ read ms us → P ms
    unfolding turns ◌>>=◌ and_then pure
    turn-keeps n rest before ts p e = go (step before ts) refl
      where
        go : (a : Answer ℕ (Option A)) → step before ts ≡ a → P ms
        go (read none vs) q =
            let z : read before vs ≡ read ms us = rw (turns, q) at e in
            let y : before ≡ ms = cc in
            rw (← y) p
        go (read (some x) vs) q = rest (before ++ x ∷ []) vs (keeps before ts vs x p q) (rw (turns, q) at e)
        go (refused c o) q =
            let z : ◌≡◌ {A = Answer ℕ (List A)} (refused c o) (read ms us) = rw (turns, q) at e in
            absurd (let y : ◌≡◌ {A = ℕ} 0 1 = cc in omega arith)

    turns-keep : (n : ℕ) (before : List A) (ts : Stream ℕ) → P before → turns n step before ts ≡ read ms us → P ms
    unfolding turns refuse_here
    turns-keep zero before ts p e = absurd (let y : ◌≡◌ {A = ℕ} 0 1 = cc in omega arith)
    turns-keep (suc n) before ts p e = turn-keeps n (turns-keep n) before ts p e

  module _ (stop : Parser ℕ Bool) (between : Parser ℕ (Unit {0})) (item : List A → Parser ℕ A)
      (keeps : (before : List A) (ts us : Stream ℕ) (a : A) → P before → item before ts ≡ read a us → P (before ++ a ∷ [])) where
    -- what an item keeps a turn keeps
    step_keeps : (before : List A) (ts us : Stream ℕ) (a : A) → P before → until_step stop between item before ts ≡ read (some a) us → P (before ++ a ∷ [])
    unfolding until_step ◌>>=◌ and_then choose pure
    step_keeps before ts us a p e = front (stop ts) e
      where
        back : (vs : Stream ℕ) (d : Answer ℕ A) → item before vs ≡ d → and_then d (λ x. pure (some x)) ≡ read (some a) us → P (before ++ a ∷ [])
        back vs (read b ws) q e =
            let y : b ≡ a = cc in
            let z : ws ≡ us = cc in
            keeps before vs us a p (q ∙ rw (y, z))
        back vs (refused c o) q e = absurd (let y : ◌≡◌ {A = ℕ} 0 1 = cc in omega arith)

        middle : (d : Answer ℕ (Unit {0})) → and_then d (λ _. item before >>= λ x. pure (some x)) ≡ read (some a) us → P (before ++ a ∷ [])
        middle (read x vs) e = back vs (item before vs) refl e
        middle (refused c o) e = absurd (let y : ◌≡◌ {A = ℕ} 0 1 = cc in omega arith)

        front : (d : Answer ℕ Bool) → and_then d (λ done. choose done (pure none) (separate between before >>= λ _. item before >>= λ x. pure (some x))) ≡ read (some a) us → P (before ++ a ∷ [])
        front (read true vs) e = absurd (let y : ◌≡◌ {A = ℕ} 0 1 = cc in omega arith)
        front (read false vs) e = middle (separate between before vs) e
        front (refused c o) e = absurd (let y : ◌≡◌ {A = ℕ} 0 1 = cc in omega arith)

    -- and so all that is read
    until-keeps : (ts us : Stream ℕ) (ms : List A) → P [] → until stop between item ts ≡ read ms us → P ms
    unfolding loop
    until-keeps ts us ms p e = turns-keep (until_step stop between item) step_keeps ms us _ [] ts p e

-- ------------------------------------------------------------------ `@local tokens`

-- what is read of something else is no fallback
made_other : {A : Type 0} (make : A → LocalMember ℕ) {x : NamedNode ℕ} {us : Stream ℕ} → ((y : A) → make y ≡ LocalMember.fallback x → ⊥) → (a : Answer ℕ A)
    → and_then a (λ y. pure (make y)) ≡ read (LocalMember.fallback x) us → ⊥
unfolding and_then pure
made_other make h (read y vs) e = h y cc
made_other make h (refused c p) e = absurd (let z : ◌≡◌ {A = ℕ} 0 1 = cc in omega arith)

no_precedence : {x : NamedNode ℕ} (y : TokenPrecDeclaration ℕ) → LocalMember.precedence y ≡ LocalMember.fallback x → ⊥
no_precedence y e = absurd (let z : ◌≡◌ {A = ℕ} 0 1 = cc in omega arith)

no_rule : {x : NamedNode ℕ} (y : RuleDeclaration ℕ) → LocalMember.rule y ≡ LocalMember.fallback x → ⊥
no_rule y e = absurd (let z : ◌≡◌ {A = ℕ} 0 1 = cc in omega arith)

-- a fallback is read only where none is before
fallback-first : (before : List (LocalMember ℕ)) (ts us : Stream ℕ) (x : NamedNode ℕ) → parse_local_member before ts ≡ read (LocalMember.fallback x) us → is_empty (picked local_fallback before) ≡ true
unfolding parse_local_member kind ◌>>=◌ and_then choose
fallback-first before ts us x e = front (says "precedence" (at_in (kind_at ts))) e
  where
    back : (b f : Bool) (vs : Stream ℕ) → choose (b && f) (parse_named_node >>= λ x. pure (LocalMember.fallback x)) (parse_rule >>= λ x. pure (LocalMember.rule x)) vs ≡ read (LocalMember.fallback x) us → f ≡ true
    back true true vs e = refl
    back true false vs e = absurd (made_other LocalMember.rule no_rule (parse_rule vs) e)
    back false f vs e = absurd (made_other LocalMember.rule no_rule (parse_rule vs) e)

    middle : (d : Answer ℕ Bool) → and_then d (λ is_else. choose (is_else && is_empty (picked local_fallback before)) (parse_named_node >>= λ x. pure (LocalMember.fallback x)) (parse_rule >>= λ x. pure (LocalMember.rule x)))
        ≡ read (LocalMember.fallback x) us → is_empty (picked local_fallback before) ≡ true
    middle (read b vs) e = back b (is_empty (picked local_fallback before)) vs e
    middle (refused c o) e = absurd (let z : ◌≡◌ {A = ℕ} 0 1 = cc in omega arith)

    front : (b : Bool) → choose b (parse_token_precedence >>= λ x. pure (LocalMember.precedence x)) (eat_at "else" >>= λ is_else. choose (is_else && is_empty (picked local_fallback before))
        (parse_named_node >>= λ x. pure (LocalMember.fallback x)) (parse_rule >>= λ x. pure (LocalMember.rule x))) ts ≡ read (LocalMember.fallback x) us → is_empty (picked local_fallback before) ≡ true
    front true e = absurd (made_other LocalMember.precedence no_precedence (parse_token_precedence ts) e)
    front false e = middle (eat_at "else" ts) e

-- at most one fallback
abbrev AtMostOne : List (LocalMember ℕ) → Type 0
AtMostOne ms = length (picked local_fallback ms) ≤ 1

picked_snoc : (ms : List (LocalMember ℕ)) (m : LocalMember ℕ) → length (picked local_fallback (ms ++ m ∷ [])) ≡ length (picked local_fallback ms) + length (or_not (local_fallback m) [])
unfolding picked
picked_snoc [] m = omega arith
picked_snoc (LocalMember.precedence x ∷ ms) m = picked_snoc ms m
picked_snoc (LocalMember.rule x ∷ ms) m = picked_snoc ms m
picked_snoc (LocalMember.fallback x ∷ ms) m = let h = picked_snoc ms m in omega arith

empty-length : {A : Type 0} (xs : List A) → is_empty xs ≡ true → length xs ≡ 0
empty-length [] e = refl
empty-length (x ∷ xs) e = absurd (let z : ◌≡◌ {A = ℕ} 0 1 = cc in omega arith)

member_keeps : (before : List (LocalMember ℕ)) (ts us : Stream ℕ) (m : LocalMember ℕ) → AtMostOne before → parse_local_member before ts ≡ read m us → AtMostOne (before ++ m ∷ [])
member_keeps before ts us (LocalMember.precedence x) h e = let l = picked_snoc before (LocalMember.precedence x) in omega arith
member_keeps before ts us (LocalMember.rule x) h e = let l = picked_snoc before (LocalMember.rule x) in omega arith
member_keeps before ts us (LocalMember.fallback x) h e =
    let l = picked_snoc before (LocalMember.fallback x) in
    let z = empty-length (picked local_fallback before) (fallback-first before ts us x e) in
    omega arith

-- so of the members of a block that is read at most one is a fallback
pub one-fallback : (ts us : Stream ℕ) (ms : List (LocalMember ℕ)) → members_of LocalTokens ts ≡ read ms us → length (picked local_fallback ms) ≤ 1
unfolding picked
one-fallback ts us ms e = until-keeps AtMostOne (eat "}") nothing parse_local_member member_keeps ts us ms (omega arith) e

-- in its braces
pub block-one-fallback : (ts us : Stream ℕ) (ms : List (LocalMember ℕ)) → block nothing parse_local_member ts ≡ read ms us → length (picked local_fallback ms) ≤ 1
unfolding ◌>>=◌ and_then
block-one-fallback ts us ms e = go (expect "{" ts) e
  where
    go : (a : Answer ℕ (Unit {0})) → and_then a (λ _. members_of LocalTokens) ≡ read ms us → length (picked local_fallback ms) ≤ 1
    go (read x vs) e = one-fallback vs us ms e
    go (refused c o) e = absurd (let z : ◌≡◌ {A = ℕ} 0 1 = cc in omega arith)

local_precedence-chosen : (m : LocalMember ℕ) → chosen (kind_of LocalTokens) (branches_of LocalTokens) 9 m ≡ branch_of token_prec_branch (local_precedence m)
local_precedence-chosen (LocalMember.precedence x) = refl
local_precedence-chosen (LocalMember.rule x) = refl
local_precedence-chosen (LocalMember.fallback x) = refl

local_rule-chosen : (m : LocalMember ℕ) → chosen (kind_of LocalTokens) (branches_of LocalTokens) 3 m ≡ branch_of (rule_branch 3) (local_rule m)
local_rule-chosen (LocalMember.precedence x) = refl
local_rule-chosen (LocalMember.rule x) = refl
local_rule-chosen (LocalMember.fallback x) = refl

fallback-chosen : (m : LocalMember ℕ) → chosen (kind_of LocalTokens) (branches_of LocalTokens) 13 m ≡ branch_of named_node_branch (local_fallback m)
fallback-chosen (LocalMember.precedence x) = refl
fallback-chosen (LocalMember.rule x) = refl
fallback-chosen (LocalMember.fallback x) = refl

-- the first of at most one is all of them
first-all : (xs : List (NamedNode ℕ)) → length xs ≤ 1 → each named_node_branch xs []ᴮ ≡ fallback_branches (first_element xs)
unfolding each
first-all [] h = refl
first-all (x ∷ []) h = refl
first-all (x ∷ y ∷ xs) h = absurd (omega arith)

pub local_grouped : (ms : List (LocalMember ℕ)) → length (picked local_fallback ms) ≤ 1 → Grouped (kind_of LocalTokens) (branches_of LocalTokens) (kinds_of LocalTokens) ms
    (each token_prec_branch (picked local_precedence ms) (each (rule_branch 3) (picked local_rule ms) (fallback_branches (first_element (picked local_fallback ms)))))
local_grouped ms h =
    rw (← first-all (picked local_fallback ms) h)
    (grouped-by _ _ local_precedence token_prec_branch 9 local_precedence-chosen
    (grouped-by _ _ local_rule (rule_branch 3) 3 local_rule-chosen
    (grouped-by _ _ local_fallback named_node_branch 13 fallback-chosen (grouped-none ms))))
