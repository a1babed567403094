-- A tree of records is known by its words, but for the starts, and its texts.
-- Assumes nothing.
use Prim.Native.Nat.{ℕ, ◌+◌}
use borrow.Author.Tests.{eqb-true, eq-eqb}
use mathlib.Core.Path.{◌≡◌, refl, ap, sym, ◌∙◌}
use mathlib.Core.Bool.{true, ◌&&◌}
use mathlib.Core.List.{List, [], ◌∷◌, ◌++◌, map, map-append, append_assoc, append-nil}
use lib.Dec.{eqb}
use lib.ListN.{length, take, drop}
use lib.Seq.{take-append_seam, drop-append_seam}
use Rattle.basics.specs.Basics.{same}
use Rattle.basics.proofs.Tests.{both_true, impossible}
use Rattle.basics.proofs.Same.{same_true, same_refl}
use Rattle.tree.specs.Records.{Row, Branch, branch, Branches, []ᴮ, ◌∷ᴮ◌, count, Node, nodes, nodes_all, Record, record_of, records_from, texts_of, records, texts}
use Rattle.tree.specs.Equality.{agreeing, all_agreeing}
use Rattle.tree.proofs.Back.{over}
use Rattle.tree.proofs.Encoded.{node, stacked, over-stacked, records-append, texts-append}

-- ------------------------------------------------------------------ without starts

abbrev pub bare_row : Row → Row
bare_row r = record { kind = r.kind; start = 0; text = r.text; value = r.value; second = r.second }

unfoldable mutual
  pub bare_branch : Branch → Branch
  bare_branch (branch r bs) = branch (bare_row r) (bare_branches bs)

  pub bare_branches : Branches → Branches
  bare_branches []ᴮ = []ᴮ
  bare_branches (b ∷ᴮ bs) = bare_branch b ∷ᴮ bare_branches bs

abbrev bare_node : Node → Node
bare_node x = record { row = bare_row x.row; children = x.children }

abbrev no_start : Record → Record
no_start r = record { kind = r.kind; start = 0; place = r.place; size = r.size; value = r.value; second = r.second; children = r.children }

count-bare : (bs : Branches) → count (bare_branches bs) ≡ count bs
unfolding count bare_branch
count-bare []ᴮ = refl
count-bare (b ∷ᴮ bs) = ap (λ n. 1 + n) (count-bare bs)

mutual
  unfolding nodes bare_branch

  nodes-bare : (b : Branch) → nodes (bare_branch b) ≡ map bare_node (nodes b)
  nodes-bare (branch r bs) = rw (nodes_all-bare bs, count-bare bs, map-append bare_node (nodes_all bs) (record { row = r; children = count bs } ∷ []))

  nodes_all-bare : (bs : Branches) → nodes_all (bare_branches bs) ≡ map bare_node (nodes_all bs)
  nodes_all-bare []ᴮ = refl
  nodes_all-bare (b ∷ᴮ bs) = rw (nodes-bare b, nodes_all-bare bs, map-append bare_node (nodes b) (nodes_all bs))

records-from-bare : (at : ℕ) (xs : List Node) → records_from at (map bare_node xs) ≡ map no_start (records_from at xs)
unfolding records_from
records-from-bare at [] = refl
records-from-bare at (x ∷ xs) = ap (λ l. no_start (record_of at x) ∷ l) (records-from-bare (at + length x.row.text) xs)

texts-of-bare : (xs : List Node) → texts_of (map bare_node xs) ≡ texts_of xs
unfolding texts_of
texts-of-bare [] = refl
texts-of-bare (x ∷ xs) = ap (λ l. x.row.text ++ l) (texts-of-bare xs)

-- the records and texts, by their nodes
records-nodes : (b : Branch) → records b ≡ records_from 0 (nodes b)
unfolding records
records-nodes b = refl

texts-nodes : (b : Branch) → texts b ≡ texts_of (nodes b)
unfolding texts
texts-nodes b = refl

records-bare : (b : Branch) → records (bare_branch b) ≡ map no_start (records b)
records-bare b = rw (records-nodes b, records-nodes (bare_branch b), nodes-bare b) (records-from-bare 0 (nodes b))

texts-bare : (b : Branch) → texts (bare_branch b) ≡ texts b
texts-bare b = rw (texts-nodes b, texts-nodes (bare_branch b), nodes-bare b) (texts-of-bare (nodes b))

-- ------------------------------------------------------------------ records that agree

agreeing-same : (r q : Record) → agreeing r q ≡ true → no_start r ≡ no_start q
agreeing-same r q h =
    let a = both_true (eqb r.kind q.kind && eqb r.place q.place && eqb r.size q.size && eqb r.value q.value && eqb r.second q.second) (eqb r.children q.children) h in
    let b = both_true (eqb r.kind q.kind && eqb r.place q.place && eqb r.size q.size && eqb r.value q.value) (eqb r.second q.second) a.0 in
    let c = both_true (eqb r.kind q.kind && eqb r.place q.place && eqb r.size q.size) (eqb r.value q.value) b.0 in
    let d = both_true (eqb r.kind q.kind && eqb r.place q.place) (eqb r.size q.size) c.0 in
    let e = both_true (eqb r.kind q.kind) (eqb r.place q.place) d.0 in
    rw (eqb-true r.kind q.kind e.0, eqb-true r.place q.place e.1, eqb-true r.size q.size d.1, eqb-true r.value q.value c.1, eqb-true r.second q.second b.1, eqb-true r.children q.children a.1)

pub agreeing-all : (rs qs : List Record) → all_agreeing rs qs ≡ true → map no_start rs ≡ map no_start qs
unfolding all_agreeing
agreeing-all [] [] h = refl
agreeing-all [] (q ∷ qs) h = impossible (cc)
agreeing-all (r ∷ rs) [] h = impossible (cc)
agreeing-all (r ∷ rs) (q ∷ qs) h = let a = both_true (agreeing r q) (all_agreeing rs qs) h in rw (agreeing-same r q a.0, agreeing-all rs qs a.1)

-- a record agrees with another that is the same but for the start
same-agreeing : (r q : Record) → no_start r ≡ no_start q → agreeing r q ≡ true
same-agreeing r q h =
    rw (
      eq-eqb r.kind q.kind (ap (λ x. x.kind) h),
      eq-eqb r.place q.place (ap (λ x. x.place) h),
      eq-eqb r.size q.size (ap (λ x. x.size) h),
      eq-eqb r.value q.value (ap (λ x. x.value) h),
      eq-eqb r.second q.second (ap (λ x. x.second) h),
      eq-eqb r.children q.children (ap (λ x. x.children) h),
    )

heads : {A : Type 0} {x y : A} {xs ys : List A} → x ∷ xs ≡ y ∷ ys → (x ≡ y) × (xs ≡ ys)
heads e = (cc, cc)

pub all-agreeing : (rs qs : List Record) → map no_start rs ≡ map no_start qs → all_agreeing rs qs ≡ true
unfolding all_agreeing
all-agreeing [] [] h = refl
all-agreeing [] (q ∷ qs) h = impossible (cc)
all-agreeing (r ∷ rs) [] h = impossible (cc)
all-agreeing (r ∷ rs) (q ∷ qs) h = let t = heads h in rw (same-agreeing r q t.0, all-agreeing rs qs t.1)

-- ------------------------------------------------------------------ the tree of records and texts

abbrev row_of : Record → List ℕ → Row
row_of r ts = record { kind = r.kind; start = r.start; text = take r.size ts; value = r.value; second = r.second }

-- each record takes its text from the front of the texts, and its children from the stack; nothing is tested
unfoldable grow : List ℕ → List Record → List Branch → List Branch
grow ts [] stack = stack
grow ts (r ∷ rs) stack = grow (drop r.size ts) rs (over (row_of r ts) r.children stack)

-- one record over its children
last_one : (r : Row) (bs : Branches) (a : ℕ) (ts : List ℕ) (rs : List Record) (stack : List Branch)
    → grow (texts_of (node r bs ∷ []) ++ ts) (records_from a (node r bs ∷ []) ++ rs) (stacked bs stack) ≡ grow ts rs (branch r bs ∷ stack)
unfolding grow texts_of records_from
last_one r bs a ts rs stack = rw (append-nil r.text, drop-append_seam r.text ts, take-append_seam r.text ts, over-stacked bs stack r)

mutual
  unfolding nodes stacked texts_of records_from

  grow-branch : (b : Branch) (a : ℕ) (ts : List ℕ) (rs : List Record) (stack : List Branch) → grow (texts_of (nodes b) ++ ts) (records_from a (nodes b) ++ rs) stack ≡ grow ts rs (b ∷ stack)
  grow-branch (branch r bs) a ts rs stack =
      let x : Node = node r bs in
      let t = texts_of (nodes_all bs) in
      rw (
        texts-append (nodes_all bs) (x ∷ []),
        append_assoc t (texts_of (x ∷ [])) ts,
        records-append a (nodes_all bs) (x ∷ []),
        append_assoc (records_from a (nodes_all bs)) (records_from (a + length t) (x ∷ [])) rs,
        grow-branches bs a (texts_of (x ∷ []) ++ ts) (records_from (a + length t) (x ∷ []) ++ rs) stack,
      )
      (last_one r bs (a + length t) ts rs stack)

  grow-branches : (bs : Branches) (a : ℕ) (ts : List ℕ) (rs : List Record) (stack : List Branch)
      → grow (texts_of (nodes_all bs) ++ ts) (records_from a (nodes_all bs) ++ rs) stack ≡ grow ts rs (stacked bs stack)
  grow-branches []ᴮ a ts rs stack = refl
  grow-branches (b ∷ᴮ bs) a ts rs stack =
      let t = texts_of (nodes b) in
      rw (
        texts-append (nodes b) (nodes_all bs),
        append_assoc t (texts_of (nodes_all bs)) ts,
        records-append a (nodes b) (nodes_all bs),
        append_assoc (records_from a (nodes b)) (records_from (a + length t) (nodes_all bs)) rs,
        grow-branch b a (texts_of (nodes_all bs) ++ ts) (records_from (a + length t) (nodes_all bs) ++ rs) stack,
      )
      (grow-branches bs (a + length t) ts rs (b ∷ stack))

grown : (b : Branch) → grow (texts b) (records b) [] ≡ b ∷ []
unfolding grow
grown b = rw (texts-nodes b, records-nodes b, ← append-nil (texts_of (nodes b)), ← append-nil (records_from 0 (nodes b))) (grow-branch b 0 [] [] [])

-- a tree is known by its records and texts
pub known : (b c : Branch) → records b ≡ records c → texts b ≡ texts c → b ≡ c
known b c r t = let e : b ∷ [] ≡ c ∷ [] = sym (grown b) ∙ rw (r, t) (grown c) in cc

-- but for the starts, by what agrees
pub agreed : (b c : Branch) → all_agreeing (records b) (records c) ≡ true → same (texts b) (texts c) ≡ true → bare_branch b ≡ bare_branch c
agreed b c r t =
    known (bare_branch b) (bare_branch c) (records-bare b ∙ agreeing-all (records b) (records c) r ∙ sym (records-bare c)) (texts-bare b ∙ same_true (texts b) (texts c) t ∙ sym (texts-bare c))

pub agrees : (b c : Branch) → bare_branch b ≡ bare_branch c → (all_agreeing (records b) (records c) ≡ true) × (same (texts b) (texts c) ≡ true)
agrees b c e = (
  all-agreeing (records b) (records c) (sym (records-bare b) ∙ ap records e ∙ records-bare c),
  ap (same (texts b)) (sym (texts-bare c) ∙ ap texts (sym e) ∙ texts-bare b) ∙ same_refl (texts b),
)
