-- How a run of branches is walked: none, one with its children, and two halves.
-- Assumes nothing.
use Prim.Native.Nat.{ℕ, zero, suc, ◌+◌, ◌-◌, ◌*◌, ◌≤◌, ◌<◌}
use native.Mathlib.Omega.{arith}
use mathlib.Core.Path.{◌≡◌, refl, ap, sym, ◌∙◌}
use mathlib.Core.List.{List, [], ◌∷◌, ◌++◌, append_assoc, append-nil}
use lib.ListN.{length, length-append}
use borrow.Author.Tests.{ne_eqb, eq-eqb}
use Rattle.tree.specs.Records.{Row, Branch, branch, Branches, []ᴮ, ◌∷ᴮ◌, count, Node, nodes, nodes_all}
use Rattle.tree.specs.OneTree.{kind_of}
use Rattle.tree.specs.Promise.{word_at, first_place, kind_before, All}
use Rattle.tree.proofs.Back.{all_left, all_right, root_at, past_root, kind-last, before, nodes-before, nodes-some, first-last}
use Rattle.writer.specs.Promise.{Lent, row_at, Run}
use Rattle.output.specs.Promise.{Wrote}
use Rattle.writer.specs.Walk.{class, front, back, last_at, last_class, branch_text, branches_text, WroteRun}
use Rattle.writer.proofs.Small.{row_small, front-small, back-small}

-- ------------------------------------------------------------------ runs of branches

nodes-length : (b : Branch) (bs : Branches) → length (nodes_all (b ∷ᴮ bs)) ≡ length (nodes b) + length (nodes_all bs)
unfolding nodes
nodes-length b bs = length-append (nodes b) (nodes_all bs)

pub count-size : (bs : Branches) → count bs ≤ length (nodes_all bs)
unfolding count nodes
count-size []ᴮ = omega arith
count-size (b ∷ᴮ bs) = omega (arith, count-size bs, nodes-length b bs, nodes-some b)

text-append : (p : Row) (bs cs : Branches) (l : ℕ) → branches_text p l (before bs cs) ≡ branches_text p l bs ++ branches_text p (last_class l bs) cs
unfolding before branches_text last_class
text-append p []ᴮ cs l = refl
text-append p (b ∷ᴮ bs) cs l = rw (text-append p bs cs (class (kind_of b))) (sym (append_assoc (branch_text p l b) (branches_text p (class (kind_of b)) bs) (branches_text p (last_class (class (kind_of b)) bs) cs)))

-- the first k branches, and the others
unfoldable firsts : ℕ → Branches → Branches
firsts zero bs = []ᴮ
firsts (suc k) []ᴮ = []ᴮ
firsts (suc k) (b ∷ᴮ bs) = b ∷ᴮ firsts k bs

unfoldable others : ℕ → Branches → Branches
others zero bs = bs
others (suc k) []ᴮ = []ᴮ
others (suc k) (b ∷ᴮ bs) = others k bs

joined : (k : ℕ) (bs : Branches) → before (firsts k bs) (others k bs) ≡ bs
unfolding before firsts others
joined zero bs = refl
joined (suc k) []ᴮ = refl
joined (suc k) (b ∷ᴮ bs) = ap (λ (cs : Branches). b ∷ᴮ cs) (joined k bs)

count-firsts : (k : ℕ) (bs : Branches) → k ≤ count bs → count (firsts k bs) ≡ k
unfolding count firsts
count-firsts zero bs h = refl
count-firsts (suc k) []ᴮ h = absurd (omega arith)
count-firsts (suc k) (b ∷ᴮ bs) h = omega (arith, count-firsts k bs (omega arith))

count-others : (k : ℕ) (bs : Branches) → k ≤ count bs → count (others k bs) + k ≡ count bs
unfolding count others
count-others zero bs h = omega arith
count-others (suc k) []ᴮ h = absurd (omega arith)
count-others (suc k) (b ∷ᴮ bs) h = omega (arith, count-others k bs (omega arith))

module _ (ws ts : List ℕ) where
  -- the class of the last branch stands in its record
  last-before : (b : Branch) (bs : Branches) (l lo : ℕ) → All ws ts lo (nodes_all (b ∷ᴮ bs)) → last_class l (b ∷ᴮ bs) ≡ class (kind_before ws (lo + length (nodes_all (b ∷ᴮ bs))))
  unfolding last_class nodes
  last-before b []ᴮ l lo a =
      let e : lo + length (nodes b ++ []) ≡ lo + length (nodes b) = omega (arith, length-append (nodes b) []) in
      rw (e, kind-last ws ts b lo (all_left ws ts lo (nodes b) [] a))
  last-before b (c ∷ᴮ bs) l lo a =
      let e : lo + length (nodes b ++ nodes_all (c ∷ᴮ bs)) ≡ lo + length (nodes b) + length (nodes_all (c ∷ᴮ bs)) = omega (arith, length-append (nodes b) (nodes_all (c ∷ᴮ bs))) in
      rw e (last-before c bs (class (kind_of b)) (lo + length (nodes b)) (all_right ws ts lo (nodes b) (nodes_all (c ∷ᴮ bs)) a))

  last_some : (bs : Branches) (l lo : ℕ) → 0 < count bs → All ws ts lo (nodes_all bs) → last_class l bs ≡ class (kind_before ws (lo + length (nodes_all bs)))
  unfolding count
  last_some []ᴮ l lo h a = absurd (omega arith)
  last_some (b ∷ᴮ bs) l lo h a = last-before b bs l lo a

  pub last_of : (bs : Branches) (i lo : ℕ) → word_at ws i 6 ≡ count bs → lo + length (nodes_all bs) ≡ i → All ws ts lo (nodes_all bs) → last_class 0 bs ≡ last_at ws i
  unfolding last_at last_class count
  last_of []ᴮ i lo e f a = rw (eq-eqb (word_at ws i 6) 0 e)
  last_of (b ∷ᴮ bs) i lo e f a = rw (ne_eqb (word_at ws i 6) 0 (λ z. omega arith), ← f) (last-before b bs 0 lo a)

-- ------------------------------------------------------------------ none

none_of : (p : Row) (l : ℕ) (bs : Branches) → count bs ≡ 0 → branches_text p l bs ≡ []
unfolding count branches_text
none_of p l []ᴮ h = refl
none_of p l (b ∷ᴮ bs) h = absurd (omega arith)

pub text-none : {ws ts : List ℕ} {n end : ℕ} (p : Row) (l : ℕ) (s : Run ws ts n end) → n ≡ 0 → branches_text p l s.branches ≡ []
text-none p l s h = none_of p l s.branches (s.counted ∙ h)

-- ------------------------------------------------------------------ one

pub record Only (ws ts : List ℕ) (end : ℕ) (bs : Branches) : Type 0 where
  pub positive : 0 < end
  pub kids : Run ws ts (word_at ws (end - 1) 6) (end - 1)
  pub says : (p : Row) (l : ℕ) → branches_text p l bs ≡ branch_text p l (branch (row_at ws ts (end - 1)) kids.branches)

only_of : (ws ts : List ℕ) (end lo : ℕ) (bs : Branches) → All ws ts lo (nodes_all bs) → count bs ≡ 1 → lo + length (nodes_all bs) ≡ end → Only ws ts end bs
unfolding count nodes branches_text
only_of ws ts end lo []ᴮ a e f = absurd (omega arith)
only_of ws ts end lo (b ∷ᴮ c ∷ᴮ bs) a e f = absurd (omega arith)
only_of ws ts end lo (b ∷ᴮ []ᴮ) a e f = at-branch b a f
  where
    at-branch : (c : Branch) → All ws ts lo (nodes_all (c ∷ᴮ []ᴮ)) → lo + length (nodes_all (c ∷ᴮ []ᴮ)) ≡ end → Only ws ts end (c ∷ᴮ []ᴮ)
    at-branch (branch r us) g h =
        let x : Node = record { row = r; children = count us } in
        let d : All ws ts lo (nodes (branch r us)) = all_left ws ts lo (nodes (branch r us)) [] g in
        let t = root_at ws ts lo r us d in
        let q : lo + length (nodes_all us) ≡ end - 1 = omega (arith, past_root ws ts lo r us, length-append (nodes (branch r us)) [], h) in
        record {
          positive = omega (arith, past_root ws ts lo r us, length-append (nodes (branch r us)) [], h);
          kids = record {
            lo = lo;
            branches = us;
            all = all_left ws ts lo (nodes_all us) (x ∷ []) d;
            counted = sym (ap (λ (y : Node). y.children) t.is) ∙ ap (λ (i : ℕ). word_at ws i 6) q;
            ends = q;
          };
          says = λ p l. append-nil (branch_text p l (branch r us)) ∙ ap (λ (y : Row). branch_text p l (branch y us)) (sym (ap (λ (y : Node). y.row) t.is) ∙ ap (row_at ws ts) q);
        }

pub only : {ws ts : List ℕ} {n end : ℕ} (s : Run ws ts n end) → n ≡ 1 → Only ws ts end s.branches
only {ws} {ts} {n} {end} s h = only_of ws ts end s.lo s.branches s.all (s.counted ∙ h) s.ends

-- the text of a branch, by its record
pub branch-says : {ws ts : List ℕ} (i : ℕ) (p : Row) (l : ℕ) (s : Run ws ts (word_at ws i 6) i)
    → branch_text p l (branch (row_at ws ts i) s.branches) ≡ (front p l (row_at ws ts i) ++ branches_text (row_at ws ts i) 0 s.branches) ++ back p.kind (row_at ws ts i) (last_at ws i)
unfolding branches_text
branch-says {ws} {ts} i p l s = rw (last_of ws ts s.branches i s.lo (sym s.counted) s.ends s.all)

-- ------------------------------------------------------------------ two halves

module _ {ws ts : List ℕ} {n end : ℕ} (s : Run ws ts n end) (b : ℕ) (h : b ≤ n) where
  lefts : Branches
  lefts = firsts (n - b) s.branches

  rights : Branches
  rights = others (n - b) s.branches

  whole : before lefts rights ≡ s.branches
  unfolding lefts rights
  whole = joined (n - b) s.branches

  all_both : All ws ts s.lo (nodes_all lefts ++ nodes_all rights)
  all_both = rw (← nodes-before lefts rights, whole) s.all

  pub mid : ℕ
  mid = s.lo + length (nodes_all lefts)

  ends_at : mid + length (nodes_all rights) ≡ end
  unfolding mid
  ends_at = omega (arith, s.ends, ap (λ (bs : Branches). length (nodes_all bs)) whole, ap length (nodes-before lefts rights), length-append (nodes_all lefts) (nodes_all rights))

  count_left : count lefts ≡ n - b
  unfolding lefts
  count_left = count-firsts (n - b) s.branches (omega (arith, s.counted))

  count-right : count rights ≡ b
  unfolding rights
  count-right = omega (arith, count-others (n - b) s.branches (omega (arith, s.counted)), s.counted)

  pub right : Run ws ts b end
  unfolding mid
  right = record { lo = mid; branches = rights; all = all_right ws ts s.lo (nodes_all lefts) (nodes_all rights) all_both; counted = count-right; ends = ends_at }

  -- counting back over the second half
  pub mid-first : first_place ws end b ≡ mid
  unfolding mid
  mid-first =
      let a : All ws ts s.lo (nodes_all (before lefts rights)) = rw whole s.all in
      let e : s.lo + length (nodes_all (before lefts rights)) ≡ end = rw whole s.ends in
      ap (λ (x : ℕ). first_place ws x b) (sym e) ∙ ap (first_place ws (s.lo + length (nodes_all (before lefts rights)))) (sym count-right) ∙ first-last ws ts lefts rights s.lo a

  pub left : {m : ℕ} → m ≡ mid → Run ws ts (n - b) m
  unfolding mid
  left e = record { lo = s.lo; branches = lefts; all = all_left ws ts s.lo (nodes_all lefts) (nodes_all rights) all_both; counted = count_left; ends = sym e }

  pub mid-low : 0 < b → mid < end
  mid-low k = omega (arith, ends_at, count-size rights, count-right)

  pub halves : (p : Row) (l : ℕ) {m : ℕ} (e : m ≡ mid) → b < n → branches_text p l s.branches ≡ branches_text p l (left e).branches ++ branches_text p (class (kind_before ws m)) right.branches
  unfolding left right mid
  halves p l e k =
      let c : last_class l lefts ≡ class (kind_before ws mid) = last_some ws ts lefts l s.lo (omega (arith, count_left)) (all_left ws ts s.lo (nodes_all lefts) (nodes_all rights) all_both) in
      ap (branches_text p l) (sym whole) ∙ text-append p lefts rights l ∙ ap (λ (x : ℕ). branches_text p l lefts ++ branches_text p x rights) (c ∙ ap (λ (x : ℕ). class (kind_before ws x)) (sym e))

-- ------------------------------------------------------------------ how long texts are

module _ {ws ts : List ℕ} (t : Lent ws ts) where
  mutual
    unfolding nodes branches_text

    branch-small : (b : Branch) (p : Row) (l lo : ℕ) → All ws ts lo (nodes b) → length p.text ≤ 4294967296 → length (branch_text p l b) ≤ length (nodes b) * 17179869184
    branch-small (branch r bs) p l lo a h =
        let x : Node = record { row = r; children = count bs } in
        let i : ℕ = lo + length (nodes_all bs) in
        let k : length r.text ≤ 4294967296 = rw (← ap (λ (y : Node). y.row) (root_at ws ts lo r bs a).is) (row_small t i) in
        let m = branches-small bs r 0 lo (all_left ws ts lo (nodes_all bs) (x ∷ []) a) k in
        simp length-append (omega (arith, front-small p l r, back-small p.kind r (last_class 0 bs)))

    branches-small : (bs : Branches) (p : Row) (l lo : ℕ) → All ws ts lo (nodes_all bs) → length p.text ≤ 4294967296 → length (branches_text p l bs) ≤ length (nodes_all bs) * 17179869184
    branches-small []ᴮ p l lo a h = omega arith
    branches-small (b ∷ᴮ bs) p l lo a h =
        let m = branch-small b p l lo (all_left ws ts lo (nodes b) (nodes_all bs) a) h in
        let k = branches-small bs p (class (kind_of b)) (lo + length (nodes b)) (all_right ws ts lo (nodes b) (nodes_all bs) a) h in
        simp length-append (omega arith)

  pub run_small : {old new : List ℕ} {n r e : ℕ} (i l : ℕ) (s : Run ws ts n e) → Wrote (branches_text (row_at ws ts i) l s.branches) old new r → r ≤ e * 17179869184
  run_small i l s w = omega (arith, w.counts, s.ends, branches-small s.branches (row_at ws ts i) l s.lo s.all (row_small t i))

pub run-few : {ws ts : List ℕ} {n end : ℕ} → Run ws ts n end → n ≤ end
run-few s = omega (arith, s.counted, s.ends, count-size s.branches)

-- a run of as many, said otherwise
abbrev pub recount : {ws ts : List ℕ} {n m end : ℕ} → m ≡ n → Run ws ts n end → Run ws ts m end
recount e s = record { lo = s.lo; branches = s.branches; all = s.all; counted = s.counted ∙ sym e; ends = s.ends }

-- a run that is written, said of the same words
pub moved : {ws ts vs us : List ℕ} {i j n e m : ℕ} {old new : List ℕ} (l : ℕ) → vs ≡ ws → us ≡ ts → j ≡ i → WroteRun vs us j l n e old new m → WroteRun ws ts i l n e old new m
moved l a b c w = rw (← a, ← b, ← c) w
