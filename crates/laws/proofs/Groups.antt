-- Laws of groups: grouping twice is grouping once, and keeps what there is one of at most, and top rules.
-- Assumes nothing.
use Prim.Native.Nat.{ℕ, ◌+◌, ◌≤◌}
use native.Mathlib.Omega.{arith}
use borrow.Author.Tests.{eqb-true, eqb-false, eq-eqb, ne_eqb, not-true}
use mathlib.Core.Path.{◌≡◌, refl, ap, sym, ◌∙◌}
use mathlib.Core.Bool.{Bool, true, false, ◌&&◌, ◌||◌, not, or_assoc}
use mathlib.Core.List.{List, [], ◌∷◌, ◌++◌, append-nil}
use lib.Dec.{eqb}
use lib.ListN.{length, length-append}
use Rattle.basics.specs.Basics.{among, is_empty, every, keep_if, kept}
use Rattle.basics.proofs.Tests.{clash, both_true, both_false}
use Rattle.tree.specs.Syntax.{Declaration, declaration_kind, of_kind, groups, grouped, has_kind}
use Rattle.notation.specs.Declarations.{is_top, has_top}
use Rattle.laws.proofs.Fine.{U}
use Rattle.laws.proofs.Good.{is_single, Singles}
use Rattle.laws.proofs.Every.{Every, every-none, every_append, every-kept}

-- no number stands twice in a list
abbrev distinct : List ℕ → Bool
distinct [] = true
distinct (k ∷ ks) = not (among ks k) && distinct ks

-- the kinds in the order of groups
abbrev pub kinds : List ℕ
kinds = 2 ∷ 3 ∷ 8 ∷ 12 ∷ 14 ∷ 16 ∷ 18 ∷ 19 ∷ 20 ∷ 22 ∷ 23 ∷ []

kept_append : {A : Type 0} (p : A → Bool) (xs ys : List A) → kept p (xs ++ ys) ≡ kept p xs ++ kept p ys
unfolding kept
kept_append p [] ys = refl
kept_append p (x ∷ xs) ys = rw (kept_append p xs ys) (go (p x))
  where
    go : (b : Bool) → keep_if b x (kept p xs ++ kept p ys) ≡ keep_if b x (kept p xs) ++ kept p ys
    go true = refl
    go false = refl

-- what is kept of one kind holds nothing of another, and all of its own
kept-other : {S : Type 0} (k l : ℕ) → (k ≡ l → ⊥) → (ds : List (Declaration S)) → of_kind k (of_kind l ds) ≡ []
unfolding kept
kept-other k l ne [] = refl
kept-other k l ne (d ∷ ds) = go (eqb (declaration_kind d) l) refl (kept-other k l ne ds)
  where
    go : (b : Bool) → eqb (declaration_kind d) l ≡ b → of_kind k (of_kind l ds) ≡ [] → of_kind k (keep_if b d (of_kind l ds)) ≡ []
    go true e h = rw (ne_eqb (declaration_kind d) k (λ q. ne (sym q ∙ eqb-true _ _ e)), h)
    go false e h = h

kept_same : {S : Type 0} (k : ℕ) (ds : List (Declaration S)) → of_kind k (of_kind k ds) ≡ of_kind k ds
unfolding kept
kept_same k [] = refl
kept_same k (d ∷ ds) = go (eqb (declaration_kind d) k) refl (kept_same k ds)
  where
    go : (b : Bool) → eqb (declaration_kind d) k ≡ b → of_kind k (of_kind k ds) ≡ of_kind k ds → of_kind k (keep_if b d (of_kind k ds)) ≡ keep_if b d (of_kind k ds)
    go true e h = rw (e, h)
    go false e h = h

groups_none : {S : Type 0} (k : ℕ) (ks : List ℕ) (ds : List (Declaration S)) → among ks k ≡ false → of_kind k (groups ks ds) ≡ []
unfolding groups kept
groups_none k [] ds h = refl
groups_none k (l ∷ ks) ds h =
    let o = both_false (eqb k l) (among ks k) h in
    kept_append (λ d. eqb (declaration_kind d) k) (of_kind l ds) (groups ks ds) ∙ rw (kept-other k l (eqb-false k l o.0) ds, groups_none k ks ds o.1)

-- of two tests of which one holds, and the first does not
or_rest : (b c : Bool) → b ≡ false → (b || c) ≡ true → c ≡ true
or_rest true c z m = clash true refl z
or_rest false c z m = m

groups-one : {S : Type 0} (k : ℕ) (ks : List ℕ) (ds : List (Declaration S)) → distinct ks ≡ true → among ks k ≡ true → of_kind k (groups ks ds) ≡ of_kind k ds
unfolding groups
groups-one k [] ds d h = clash false h refl
groups-one k (l ∷ ks) ds d h = kept_append (λ d. eqb (declaration_kind d) k) (of_kind l ds) (groups ks ds) ∙ go (eqb k l) refl (λ m. groups-one k ks ds two.1 m)
  where
    two : (not (among ks l) ≡ true) × (distinct ks ≡ true)
    two = both_true (not (among ks l)) (distinct ks) d

    go : (b : Bool) → eqb k l ≡ b → (among ks k ≡ true → of_kind k (groups ks ds) ≡ of_kind k ds) → of_kind k (of_kind l ds) ++ of_kind k (groups ks ds) ≡ of_kind k ds
    go true e f =
        let q = eqb-true k l e in
        let n : among ks k ≡ false = ap (among ks) q ∙ not-true (among ks l) two.0 in
        rw (groups_none k ks ds n, append-nil (of_kind k (of_kind l ds)), ← q) (kept_same k ds)
    go false e f = rw (kept-other k l (eqb-false k l e) ds) (f (or_rest (eqb k l) (among ks k) e h))

-- ------------------------------------------------------------------ grouping twice is grouping once

groups_twice : {S : Type 0} (ls ks : List ℕ) (ds : List (Declaration S)) → distinct ks ≡ true → every (among ks) ls ≡ true → groups ls (groups ks ds) ≡ groups ls ds
unfolding groups every
groups_twice [] ks ds d h = refl
groups_twice (l ∷ ls) ks ds d h =
    let two = both_true (among ks l) (every (among ks) ls) h in
    rw (groups-one l ks ds d two.0, groups_twice ls ks ds d two.1)

pub grouped_twice : {S : Type 0} (ds : List (Declaration S)) → grouped (grouped ds) ≡ grouped ds
unfolding every
grouped_twice ds = groups_twice kinds kinds ds refl refl

-- ------------------------------------------------------------------ what there is one of at most

single-kind : (k : ℕ) → is_single k ≡ true → among kinds k ≡ true
single-kind k h = go (eqb k 8) (eqb k 14) (eqb k 20) (eqb k 22) refl refl refl refl h
  where
    at : (n : ℕ) → eqb k n ≡ true → among kinds n ≡ true → among kinds k ≡ true
    at n e m = ap (among kinds) (eqb-true k n e) ∙ m

    go : (a b c d : Bool) → eqb k 8 ≡ a → eqb k 14 ≡ b → eqb k 20 ≡ c → eqb k 22 ≡ d → (a || (b || (c || (d || false)))) ≡ true → among kinds k ≡ true
    go true b c d ea eb ec ed h = at 8 ea refl
    go false true c d ea eb ec ed h = at 14 eb refl
    go false false true d ea eb ec ed h = at 20 ec refl
    go false false false true ea eb ec ed h = at 22 ed refl
    go false false false false ea eb ec ed h = clash false h refl

pub grouped-singles : (ds : List (Declaration U)) → Singles ds → Singles (grouped ds)
grouped-singles ds s = record { few = λ k h. rw (groups-one k kinds ds refl (single-kind k h)) (s.few k h) }

has-none : (k : ℕ) (ds : List (Declaration U)) → has_kind k ds ≡ false → length (of_kind k ds) ≡ 0
unfolding has_kind kept
has-none k [] h = refl
has-none k (d ∷ ds) h = let o = both_false (eqb (declaration_kind d) k) (has_kind k ds) h in rw o.0 (has-none k ds o.1)

none_has : (k : ℕ) (ds : List (Declaration U)) → length (of_kind k ds) ≡ 0 → has_kind k ds ≡ false
unfolding has_kind kept
none_has k [] h = refl
none_has k (d ∷ ds) h = go (eqb (declaration_kind d) k) h (none_has k ds)
  where
    go : (b : Bool) → length (keep_if b d (of_kind k ds)) ≡ 0 → (length (of_kind k ds) ≡ 0 → has_kind k ds ≡ false) → (b || has_kind k ds) ≡ false
    go true z f = absurd (omega arith)
    go false z f = f z

-- a declaration of which there is one at most comes after none of its kind
pub record Fresh (ds : List (Declaration U)) (d : Declaration U) : Type 0 where
  pub unseen : is_single (declaration_kind d) ≡ true → has_kind (declaration_kind d) ds ≡ false

pub singles-more : (ds : List (Declaration U)) (d : Declaration U) → Singles ds → Fresh ds d → Singles (ds ++ d ∷ [])
unfolding kept
singles-more ds d s f = record { few = λ k h. rw (kept_append (λ d. eqb (declaration_kind d) k) ds (d ∷ []), length-append (of_kind k ds) (keep_if (eqb (declaration_kind d) k) d [])) (go k h (eqb (declaration_kind d) k) refl) }
  where
    go : (k : ℕ) → is_single k ≡ true → (b : Bool) → eqb (declaration_kind d) k ≡ b → length (of_kind k ds) + length (keep_if b d []) ≤ 1
    go k h true e =
        let q = eqb-true (declaration_kind d) k e in
        let z = has-none k ds (ap (λ n. has_kind n ds) (sym q) ∙ f.unseen (ap is_single q ∙ h)) in
        omega arith
    go k h false e = let z = s.few k h in omega arith

pub singles_fresh : (ds : List (Declaration U)) (d : Declaration U) (es : List (Declaration U)) → Singles (ds ++ d ∷ es) → Fresh ds d
unfolding kept
singles_fresh ds d es s = record { unseen = λ h. none_has (declaration_kind d) ds (go h) }
  where
    go : is_single (declaration_kind d) ≡ true → length (of_kind (declaration_kind d) ds) ≡ 0
    go h =
        let k = declaration_kind d in
        let a = rw (kept_append (λ d. eqb (declaration_kind d) k) ds (d ∷ es), length-append (of_kind k ds) (keep_if (eqb k k) d (of_kind k es)), eq-eqb k k refl) at (s.few k h) in
        omega arith

pub singles-none : Singles []
unfolding kept
singles-none = record { few = λ k h. omega arith }

-- ------------------------------------------------------------------ what holds of each

every-groups : {G : Declaration U → Type 0} (ks : List ℕ) {ds : List (Declaration U)} → Every G ds → Every G (groups ks ds)
unfolding groups
every-groups [] e = every-none
every-groups (k ∷ ks) e = every_append (every-kept _ e) (every-groups ks e)

pub every-grouped : {G : Declaration U → Type 0} {ds : List (Declaration U)} → Every G ds → Every G (grouped ds)
every-grouped e = every-groups kinds e

-- ------------------------------------------------------------------ top rules

top-append : (xs ys : List (Declaration U)) → has_top (xs ++ ys) ≡ (has_top xs || has_top ys)
unfolding has_top
top-append [] ys = refl
top-append (x ∷ xs) ys = rw (top-append xs ys) (sym (or_assoc (is_top x) (has_top xs) (has_top ys)))

-- a top rule is of kind 2 or 23
top-kinds : (ds : List (Declaration U)) → has_top ds ≡ true → (has_top (of_kind 2 ds) || has_top (of_kind 23 ds)) ≡ true
unfolding has_top kept
top-kinds [] h = h
top-kinds (Declaration.top_rule r ∷ ds) h = refl
top-kinds (Declaration.scoped_skip x ∷ ds) h = go (not (is_empty x.top_rules)) (has_top (of_kind 2 ds)) h (top-kinds ds)
  where
    go : (b c : Bool) → (b || has_top ds) ≡ true → (has_top ds ≡ true → (c || has_top (of_kind 23 ds)) ≡ true) → (c || (b || has_top (of_kind 23 ds))) ≡ true
    go true true h f = refl
    go true false h f = refl
    go false c h f = f h
top-kinds (Declaration.rule r ∷ ds) h = top-kinds ds h
top-kinds (Declaration.tokens x ∷ ds) h = top-kinds ds h
top-kinds (Declaration.local_tokens x ∷ ds) h = top-kinds ds h
top-kinds (Declaration.context x ∷ ds) h = top-kinds ds h
top-kinds (Declaration.external_tokens x ∷ ds) h = top-kinds ds h
top-kinds (Declaration.external_specializer x ∷ ds) h = top-kinds ds h
top-kinds (Declaration.external_prop_source x ∷ ds) h = top-kinds ds h
top-kinds (Declaration.precedences x ∷ ds) h = top-kinds ds h
top-kinds (Declaration.main_skip e ∷ ds) h = top-kinds ds h

or_right : (b c : Bool) → c ≡ true → (b || c) ≡ true
or_right true c h = refl
or_right false c h = h

or_left : (b c : Bool) → b ≡ true → (b || c) ≡ true
or_left true c h = refl
or_left false c h = clash false h refl

top_group : (k : ℕ) (ks : List ℕ) (ds : List (Declaration U)) → among ks k ≡ true → has_top (of_kind k ds) ≡ true → has_top (groups ks ds) ≡ true
unfolding groups
top_group k [] ds h t = clash false h refl
top_group k (l ∷ ks) ds h t = top-append (of_kind l ds) (groups ks ds) ∙ go (eqb k l) refl (top_group k ks ds)
  where
    go : (b : Bool) → eqb k l ≡ b → (among ks k ≡ true → has_top (of_kind k ds) ≡ true → has_top (groups ks ds) ≡ true) → (has_top (of_kind l ds) || has_top (groups ks ds)) ≡ true
    go true e f = or_left (has_top (of_kind l ds)) (has_top (groups ks ds)) (ap (λ n. has_top (of_kind n ds)) (sym (eqb-true k l e)) ∙ t)
    go false e f = or_right (has_top (of_kind l ds)) (has_top (groups ks ds)) (f (or_rest (eqb k l) (among ks k) e h) t)

pub grouped-top : (ds : List (Declaration U)) → has_top ds ≡ true → has_top (grouped ds) ≡ true
grouped-top ds h = go (has_top (of_kind 2 ds)) refl (top-kinds ds h)
  where
    go : (b : Bool) → has_top (of_kind 2 ds) ≡ b → (b || has_top (of_kind 23 ds)) ≡ true → has_top (grouped ds) ≡ true
    go true e q = top_group 2 kinds ds refl e
    go false e q = top_group 23 kinds ds refl q
