-- Laws of the test of one tree: record after record, with the stack of branches found in the words.
-- Assumes nothing.
use Prim.Native.Nat.{ℕ, zero, suc, ◌+◌, ◌-◌, ◌*◌, ◌/◌, ◌≤◌, ◌<◌}
use native.Mathlib.Omega.{arith}
use mathlib.Core.Path.{◌≡◌, refl, ap, sym, ◌∙◌}
use mathlib.Core.Bool.{Bool, true, false, ◌&&◌}
use mathlib.Core.List.{List, [], ◌∷◌, ◌++◌, map}
use mathlib.Core.Option.{Option, none, some}
use lib.Dec.{eqb, leb}
use lib.ListN.{length, take, length-append}
use borrow.Author.Tests.{eqb-true, eqb-false, leb-true, leb-false, le-leb, lt-leb}
use Rattle.basics.proofs.Tests.{cases, both_true, impossible}
use Rattle.tree.specs.Records.{Row, Branch, nodes, Record, width}
use Rattle.tree.specs.OneTree.{kind_of, row_of, has_text, is_kind, values_fit, children_fit, text_fits, record_fits, only, build_from, records_in, build_by, rooted, build}
use Rattle.tree.specs.Promise.{word_at, record_at, node_at, kind_before, kinds_back, is_some, All}
use Rattle.tree.proofs.Back.{all_append, all_one, flat, over, flat-over, length_over, kinds-back, kind-top, nodes-some}

-- ------------------------------------------------------------------ records in words

-- n records from the record i on
unfoldable pub records_of : List ℕ → (i n : ℕ) → List Record
records_of ws i zero = []
records_of ws i (suc n) = record_at ws i ∷ records_of ws (i + 1) n

-- past the seven words of the first record
module _ (a b c d e f g : ℕ) (ws : List ℕ) where
  past_word : (i k : ℕ) → word_at (a ∷ b ∷ c ∷ d ∷ e ∷ f ∷ g ∷ ws) (i + 1) k ≡ word_at ws i k
  past_word i k =
      let z : (i + 1) * width + k ≡ suc (suc (suc (suc (suc (suc (suc (i * width + k))))))) = omega arith in
      rw z

  past-records : (n i : ℕ) → records_of (a ∷ b ∷ c ∷ d ∷ e ∷ f ∷ g ∷ ws) (i + 1) n ≡ records_of ws i n
  unfolding records_of
  past-records zero i = refl
  past-records (suc n) i =
      rw (past_word i 0, past_word i 1, past_word i 2, past_word i 3, past_word i 4, past_word i 5, past_word i 6, past-records n (i + 1))

pub records-in : (n : ℕ) (ws : List ℕ) → length ws ≡ n * width → records_in ws ≡ some (records_of ws 0 n)
unfolding records_in records_of
records-in zero [] h = refl
records-in zero (a ∷ ws) h = absurd (omega arith)
records-in (suc n) [] h = absurd (omega arith)
records-in (suc n) (a ∷ []) h = absurd (omega arith)
records-in (suc n) (a ∷ b ∷ []) h = absurd (omega arith)
records-in (suc n) (a ∷ b ∷ c ∷ []) h = absurd (omega arith)
records-in (suc n) (a ∷ b ∷ c ∷ d ∷ []) h = absurd (omega arith)
records-in (suc n) (a ∷ b ∷ c ∷ d ∷ e ∷ []) h = absurd (omega arith)
records-in (suc n) (a ∷ b ∷ c ∷ d ∷ e ∷ f ∷ []) h = absurd (omega arith)
records-in (suc n) (a ∷ b ∷ c ∷ d ∷ e ∷ f ∷ g ∷ ws) h = rw (records-in n ws (omega arith), past-records a b c d e f g ws n 0)

pub records_broken : (ws : List ℕ) → (length ws / width * width ≡ length ws → ⊥) → records_in ws ≡ none
unfolding records_in
records_broken [] h = absurd (h refl)
records_broken (a ∷ []) h = refl
records_broken (a ∷ b ∷ []) h = refl
records_broken (a ∷ b ∷ c ∷ []) h = refl
records_broken (a ∷ b ∷ c ∷ d ∷ []) h = refl
records_broken (a ∷ b ∷ c ∷ d ∷ e ∷ []) h = refl
records_broken (a ∷ b ∷ c ∷ d ∷ e ∷ f ∷ []) h = refl
records_broken (a ∷ b ∷ c ∷ d ∷ e ∷ f ∷ g ∷ ws) h = rw (records_broken ws (λ z. h (omega arith)))

-- the tree of whole records
abbrev pub grown_of : (ws ts : List ℕ) → ℕ → Option Branch
grown_of ws ts n = build_from ts 0 (records_of ws 0 n) []

pub build-whole : (root : ℕ → Bool) (ws ts : List ℕ) (n : ℕ) → length ws ≡ n * width → build root ws ts ≡ rooted root (grown_of ws ts n)
unfolding build
build-whole root ws ts n h = ap (λ o. rooted root (build_by ts o)) (records-in n ws h)

pub build_broken : (root : ℕ → Bool) (ws ts : List ℕ) → (length ws / width * width ≡ length ws → ⊥) → build root ws ts ≡ none
unfolding build
build_broken root ws ts h = ap (λ o. rooted root (build_by ts o)) (records_broken ws h)

-- ------------------------------------------------------------------ texts lie in the room

text-inside : (room at : ℕ) (r : Record) → text_fits room at r ≡ true → at ≤ room → (r.place + r.size ≤ room) × (at + r.size ≤ room)
unfolding text_fits
text-inside room at r t h =
    cases (eqb r.size 0)
    (λ e. let f : eqb r.place 0 ≡ true = rw e at t in
    let z = eqb-true r.size 0 e in
    let y = eqb-true r.place 0 f in
    (omega arith, omega arith))
    (λ e. let f : (has_text r.kind && eqb r.place at && leb (at + r.size) room) ≡ true = rw e at t in
    let g = both_true (has_text r.kind && eqb r.place at) (leb (at + r.size) room) f in
    let k = both_true (has_text r.kind) (eqb r.place at) g.0 in
    let z = leb-true (at + r.size) room g.1 in
    let y = eqb-true r.place at k.1 in
    (omega arith, omega arith))

pub record_inside : (room at : ℕ) (r : Record) (cs : List ℕ) → record_fits room at r cs ≡ true → at ≤ room → (r.place + r.size ≤ room) × (at + r.size ≤ room)
unfolding record_fits
record_inside room at r cs t h =
    text-inside room at r (both_true (is_kind r.kind && values_fit r.kind r.value r.second && children_fit r.kind r.value cs) (text_fits room at r) t).1 h

-- ------------------------------------------------------------------ record after record

-- before the record i: the branches so far, `depth` of them, and what the n records that are left give
pub record Grown (ws ts : List ℕ) (n i depth at : ℕ) (o : Option Branch) : Type 0 where
  pub stack : List Branch
  pub all : All ws ts 0 (flat stack)
  pub counted : length (flat stack) ≡ i
  pub deep : length stack ≡ depth
  pub left : build_from ts at (records_of ws i n) stack ≡ o

pub grown-first : (ws ts : List ℕ) (n m : ℕ) → m ≡ n → Grown ws ts m 0 0 0 (grown_of ws ts n)
unfolding flat All
grown-first ws ts n m e = record { stack = []; all = tt; counted = refl; deep = refl; left = rw e }

flat-few : (l : List Branch) → length l ≤ length (flat l)
unfolding flat
flat-few [] = omega arith
flat-few (b ∷ l) = omega (arith, flat-few l, length-append (flat l) (nodes b), nodes-some b)

pub grown-few : {ws ts : List ℕ} {n i depth at : ℕ} {o : Option Branch} → Grown ws ts n i depth at o → depth ≤ i
grown-few g = omega (arith, g.counted, g.deep, flat-few g.stack)

module _ (ws ts : List ℕ) (i at : ℕ) where
  step_no : (n : ℕ) (l : List Branch) → (leb (word_at ws i 6) (length l) && record_fits (length ts) at (record_at ws i) (map kind_of (take (word_at ws i 6) l))) ≡ false
      → build_from ts at (records_of ws i (suc n)) l ≡ none
  unfolding build_from records_of
  step_no n l e = rw (e, build_from)

  step_yes : (n : ℕ) (l : List Branch) → (leb (word_at ws i 6) (length l) && record_fits (length ts) at (record_at ws i) (map kind_of (take (word_at ws i 6) l))) ≡ true
      → build_from ts at (records_of ws i (suc n)) l ≡ build_from ts (at + word_at ws i 3) (records_of ws (i + 1) n) (over (row_of ts (record_at ws i)) (word_at ws i 6) l)
  unfolding build_from records_of
  step_yes n l e = rw (e, build_from)

  module _ {depth : ℕ} {o : Option Branch} (n m : ℕ) (q : n ≡ suc m) (g : Grown ws ts n i depth at o) where
    left-of : build_from ts at (records_of ws i (suc m)) g.stack ≡ o
    left-of = rw q at g.left

    pub too_few : depth < word_at ws i 6 → o ≡ none
    too_few h =
        let d = g.deep in
        let e : leb (word_at ws i 6) (length g.stack) ≡ false = lt-leb (word_at ws i 6) (length g.stack) (omega arith) in
        sym left-of ∙ step_no m g.stack (rw e)

    -- the kinds of the children, by counting back
    kinds : word_at ws i 6 ≤ depth → kinds_back ws i (word_at ws i 6) ≡ map kind_of (take (word_at ws i 6) g.stack)
    kinds h = let d = g.deep in rw g.counted at (kinds-back ws ts g.stack (word_at ws i 6) (omega arith) g.all)

    enough : word_at ws i 6 ≤ depth → leb (word_at ws i 6) (length g.stack) ≡ true
    enough h = let d = g.deep in le-leb (word_at ws i 6) (length g.stack) (omega arith)

    pub misfit : record_fits (length ts) at (record_at ws i) (kinds_back ws i (word_at ws i 6)) ≡ false → o ≡ none
    misfit e =
        cases (leb (word_at ws i 6) depth)
        (λ t. let h = leb-true (word_at ws i 6) depth t in sym left-of ∙ step_no m g.stack (rw (enough h, ← kinds h) e))
        (λ t. too_few (leb-false (word_at ws i 6) depth t))

    -- a number that is no kind's is no record
    pub kindless : is_kind (word_at ws i 0) ≡ false → o ≡ none
    unfolding record_fits
    kindless e = misfit (rw e)

    pub grow : word_at ws i 6 ≤ depth → record_fits (length ts) at (record_at ws i) (kinds_back ws i (word_at ws i 6)) ≡ true → at ≤ length ts
        → Grown ws ts m (i + 1) (depth - word_at ws i 6 + 1) (at + word_at ws i 3) o
    grow h e t =
        let k : ℕ = word_at ws i 6 in
        let r : Row = row_of ts (record_at ws i) in
        let d = g.deep in
        let c = g.counted in
        let f = flat-over r k g.stack (omega arith) in
        let z : 0 + length (flat g.stack) ≡ i = omega arith in
        let y : length (flat g.stack ++ (node_at ws ts i ∷ [])) ≡ i + 1 = omega (arith, length-append (flat g.stack) (node_at ws ts i ∷ [])) in
        record {
          stack = over r k g.stack;
          all = rw f (all_append ws ts 0 (flat g.stack) (node_at ws ts i ∷ []) g.all (rw z (all_one ws ts i (record_inside (length ts) at (record_at ws i) (kinds_back ws i k) e t).0)));
          counted = rw f y;
          deep = length_over r k g.stack (omega arith) ∙ ap (λ (x : ℕ). x - k + 1) d;
          left = sym (step_yes m g.stack (rw (enough h, ← kinds h) e)) ∙ left-of;
        }

-- ------------------------------------------------------------------ at the end

module _ (ws ts : List ℕ) where
  only_one : (root : ℕ → Bool) (l : List Branch) → length l ≡ 1 → All ws ts 0 (flat l) → is_some (rooted root (only l)) ≡ root (kind_before ws (length (flat l)))
  only_one root [] h a = absurd (omega arith)
  only_one root (b ∷ []) h a = rw (kind-top ws ts b a) (cases (root (kind_of b)) (λ e. rw e) (λ e. rw e))
  only_one root (b ∷ c ∷ l) h a = absurd (omega arith)

  not_one : (l : List Branch) → (length l ≡ 1 → ⊥) → only l ≡ none
  not_one [] h = refl
  not_one (b ∷ []) h = absurd (h refl)
  not_one (b ∷ c ∷ l) h = refl

  module _ {i depth at : ℕ} {o : Option Branch} (n : ℕ) (q : n ≡ 0) (g : Grown ws ts n i depth at o) where
    last_of : only g.stack ≡ o
    unfolding build_from records_of
    last_of = rw q at g.left

    pub one_left : (root : ℕ → Bool) → depth ≡ 1 → is_some (rooted root o) ≡ root (kind_before ws i)
    one_left root d =
        ap (λ (p : Option Branch). is_some (rooted root p)) (sym last_of) ∙ rw g.counted at (only_one root g.stack (g.deep ∙ d) g.all)

    pub more_left : (depth ≡ 1 → ⊥) → o ≡ none
    more_left d = sym last_of ∙ not_one g.stack (λ e. d (sym g.deep ∙ e))

-- ------------------------------------------------------------------ the nodes of the tree stand in the words

pub none-some : {b : Branch} {A : Type 0} → none ≡ some b → A
none-some e = impossible (cc)

module _ (ws ts : List ℕ) (b : Branch) where
  pub whole_of : (l : List Branch) → only l ≡ some b → l ≡ b ∷ []
  whole_of [] e = none-some e
  whole_of (c ∷ []) e = cc
  whole_of (c ∷ d ∷ l) e = none-some e

  pub standing : (n i depth at : ℕ) → Grown ws ts n i depth at (some b) → at ≤ length ts → All ws ts 0 (nodes b) × (length (nodes b) ≡ i + n)
  unfolding flat
  standing zero i depth at g h =
      let e : g.stack ≡ b ∷ [] = whole_of g.stack (last_of ws ts zero refl g) in
      (rw e at g.all, rw e at g.counted ∙ omega arith)
  standing (suc n) i depth at g h =
      cases (leb (word_at ws i 6) depth)
      (λ d. cases (record_fits (length ts) at (record_at ws i) (kinds_back ws i (word_at ws i 6)))
      (λ e. let s = standing n (i + 1) (depth - word_at ws i 6 + 1) (at + word_at ws i 3) (grow ws ts i at (suc n) n refl g (leb-true (word_at ws i 6) depth d) e h)
      (record_inside (length ts) at (record_at ws i) (kinds_back ws i (word_at ws i 6)) e h).1 in
      (s.0, omega arith))
      (λ e. none-some (sym (misfit ws ts i at (suc n) n refl g e))))
      (λ d. none-some (sym (too_few ws ts i at (suc n) n refl g (leb-false (word_at ws i 6) depth d))))

pub no-tree : (root : ℕ → Bool) (ws ts : List ℕ) (n : ℕ) → length ws ≡ n * width → grown_of ws ts n ≡ none → false ≡ is_some (build root ws ts)
no-tree root ws ts n h e = sym (ap is_some (build-whole root ws ts n h ∙ ap (rooted root) e))

pub ended : (root : ℕ → Bool) (ws ts : List ℕ) (n : ℕ) → length ws ≡ n * width → {i depth at : ℕ} (m : ℕ) → m ≡ 0 → i ≡ n → Grown ws ts m i depth at (grown_of ws ts n)
    → (eqb depth 1 && root (kind_before ws n)) ≡ is_some (build root ws ts)
ended root ws ts n h {depth = depth} m q e g =
    cases (eqb depth 1)
    (λ t. rw t (ap (λ (k : ℕ). root (kind_before ws k)) (sym e) ∙ sym (one_left ws ts m q g root (eqb-true depth 1 t)) ∙ sym (ap is_some (build-whole root ws ts n h))))
    (λ t. rw t (no-tree root ws ts n h (more_left ws ts m q g (eqb-false depth 1 t))))
