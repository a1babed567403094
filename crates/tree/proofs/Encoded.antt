-- The records and texts of a branch that fits are one tree, and it is that branch.
-- Assumes nothing.
use Prim.Native.Nat.{ℕ, ◌+◌, ◌-◌, ◌≤◌}
use native.Mathlib.Omega.{arith}
use mathlib.Core.Path.{◌≡◌, refl, ap, sym, ◌∙◌}
use mathlib.Core.Bool.{Bool, true, false, ◌&&◌, ◌||◌}
use mathlib.Core.List.{List, [], ◌∷◌, ◌++◌, map, append_assoc, append-nil}
use mathlib.Core.Option.{some}
use lib.Dec.{eqb, leb}
use lib.ListN.{length, take, drop, length-append, length-drop}
use lib.Seq.{take-append_seam, drop-append_seam, drop-drop}
use borrow.Author.Tests.{eq-eqb, ne_eqb, le-leb}
use Rattle.characters.specs.Places.{cut}
use Rattle.tree.specs.Records.{Row, Branch, branch, Branches, []ᴮ, ◌∷ᴮ◌, count, Node, nodes, nodes_all, Record, place_of, record_of, records_from, words, texts_of, records, texts}
use Rattle.tree.specs.OneTree.{is_kind, has_text, values_fit, children_fit, text_fits, record_fits, kind_of, in_order, row_of, build_from, records_in, build_by, rooted, build}
use Rattle.tree.proofs.Back.{before, over}

-- ------------------------------------------------------------------ a stack of branches

-- branches on a stack, last first
unfoldable pub stacked : Branches → List Branch → List Branch
stacked []ᴮ stack = stack
stacked (b ∷ᴮ bs) stack = stacked bs (b ∷ stack)

stacked-append : (bs : Branches) (stack more : List Branch) → stacked bs (stack ++ more) ≡ stacked bs stack ++ more
unfolding stacked
stacked-append []ᴮ stack more = refl
stacked-append (b ∷ᴮ bs) stack more = stacked-append bs (b ∷ stack) more

stacked-length : (bs : Branches) (stack : List Branch) → length (stacked bs stack) ≡ count bs + length stack
unfolding stacked count
stacked-length []ᴮ stack = omega arith
stacked-length (b ∷ᴮ bs) stack = let h = stacked-length bs (b ∷ stack) in omega arith

stacked-order : (bs : Branches) (stack : List Branch) (cs : Branches) → in_order (stacked bs stack) cs ≡ in_order stack (before bs cs)
unfolding stacked in_order before
stacked-order []ᴮ stack cs = refl
stacked-order (b ∷ᴮ bs) stack cs = stacked-order bs (b ∷ stack) cs

before-none : (bs : Branches) → before bs []ᴮ ≡ bs
unfolding before
before-none []ᴮ = refl
before-none (b ∷ᴮ bs) = ap (λ l. b ∷ᴮ l) (before-none bs)

in_order_lem : (bs : Branches) → in_order (stacked bs []) []ᴮ ≡ bs
unfolding in_order
in_order_lem bs = stacked-order bs [] []ᴮ ∙ before-none bs

module _ (bs : Branches) (stack : List Branch) where
  whole : count bs ≡ length (stacked bs [])
  whole = let l = stacked-length bs [] in omega arith

  taken : take (count bs) (stacked bs stack) ≡ stacked bs []
  taken = rw (stacked-append bs [] stack, whole) (take-append_seam (stacked bs []) stack)

  dropped : drop (count bs) (stacked bs stack) ≡ stack
  dropped = rw (stacked-append bs [] stack, whole) (drop-append_seam (stacked bs []) stack)

  -- a record over the branches bs
  pub over-stacked : (r : Row) → over r (count bs) (stacked bs stack) ≡ branch r bs ∷ stack
  over-stacked r = rw (taken, dropped, in_order_lem bs)

-- ------------------------------------------------------------------ branches that fit

-- a record fits over children of these kinds, last first
pub record FitsRow (r : Row) (cs : List ℕ) : Type 0 where
  pub kind : is_kind r.kind ≡ true
  pub values : values_fit r.kind r.value r.second ≡ true
  pub children : children_fit r.kind r.value cs ≡ true
  pub text : (eqb (length r.text) 0 || has_text r.kind) ≡ true

unfoldable mutual
  pub Fits : Branch → Type 0
  Fits (branch r bs) = FitsRow r (map kind_of (stacked bs [])) × FitsAll bs

  pub FitsAll : Branches → Type 0
  FitsAll []ᴮ = Unit
  FitsAll (b ∷ᴮ bs) = Fits b × FitsAll bs

-- ------------------------------------------------------------------ texts

module _ (ts : List ℕ) where
  -- the text t stands at a place, and u after it
  pub record Lies (at : ℕ) (t u : List ℕ) : Type 0 where
    pub low : at ≤ length ts
    pub is : drop at ts ≡ t ++ u

  pub lies-length : (at : ℕ) (t u : List ℕ) → Lies at t u → at + length t ≤ length ts
  lies-length at t u l =
      let e = ap length l.is in
      let f = length-append t u in
      let g = length-drop at ts in
      let h = l.low in
      omega arith

  pub lies-after : (at : ℕ) (t u v : List ℕ) → Lies at t (u ++ v) → Lies (at + length t) u v
  lies-after at t u v l =
      record { low = lies-length at t (u ++ v) l; is = sym (drop-drop (length t) at ts) ∙ ap (drop (length t)) l.is ∙ drop-append_seam t (u ++ v) }

  pub lies-part : (at : ℕ) (t u v : List ℕ) → Lies at (t ++ u) v → Lies at t (u ++ v)
  lies-part at t u v l = record { low = l.low; is = l.is ∙ append_assoc t u v }

  pub cut-text : (at : ℕ) (t u : List ℕ) → Lies at t u → cut ts (place_of at (length t)) (place_of at (length t) + length t) ≡ t
  cut-text at [] u l = refl
  cut-text at (c ∷ t) u l =
      let e : at + length (c ∷ t) - at ≡ length (c ∷ t) = omega arith in
      rw (e, l.is) (take-append_seam (c ∷ t) u)

-- all of a record but its text's place and size
text-fits : (room at kind start value second children : ℕ) (t : List ℕ) → (eqb (length t) 0 || has_text kind) ≡ true → at + length t ≤ room
    → text_fits room at (record { kind = kind; start = start; place = place_of at (length t); size = length t; value = value; second = second; children = children }) ≡ true
unfolding text_fits
text-fits room at kind start value second children [] h g = refl
text-fits room at kind start value second children (c ∷ t) h g =
    let z : eqb (length (c ∷ t)) 0 ≡ false = ne_eqb (length (c ∷ t)) 0 (λ e. omega arith) in
    let k : has_text kind ≡ true = rw z at h in
    rw (z, k, eq-eqb at at refl, le-leb (at + length (c ∷ t)) room g)

-- ------------------------------------------------------------------ record after record

pub records-append : (a : ℕ) (xs ys : List Node) → records_from a (xs ++ ys) ≡ records_from a xs ++ records_from (a + length (texts_of xs)) ys
unfolding records_from texts_of
records-append a [] ys = let n : a ≡ a + 0 = omega arith in ap (λ k. records_from k ys) n
records-append a (x ∷ xs) ys =
    let l = length-append x.row.text (texts_of xs) in
    let n : a + length x.row.text + length (texts_of xs) ≡ a + length (x.row.text ++ texts_of xs) = omega arith in
    rw (records-append (a + length x.row.text) xs ys, n)

pub texts-append : (xs ys : List Node) → texts_of (xs ++ ys) ≡ texts_of xs ++ texts_of ys
unfolding texts_of
texts-append [] ys = refl
texts-append (x ∷ xs) ys = rw (texts-append xs ys) (sym (append_assoc x.row.text (texts_of xs) (texts_of ys)))

abbrev pub node : Row → Branches → Node
node r bs = record { row = r; children = count bs }

module _ (ts : List ℕ) where
  pub build-step : (at : ℕ) (r : Record) (rs : List Record) (l : List Branch) → (leb r.children (length l) && record_fits (length ts) at r (map kind_of (take r.children l))) ≡ true
      → build_from ts at (r ∷ rs) l ≡ build_from ts (at + r.size) rs (over (row_of ts r) r.children l)
  unfolding build_from
  build-step at r rs l e = rw (e, build_from)

  row_back : (at : ℕ) (r : Row) (bs : Branches) (u : List ℕ) → Lies ts at r.text u → row_of ts (record_of at (node r bs)) ≡ r
  row_back at r bs u l = rw (cut-text ts at r.text u l)

  record-fits : (at : ℕ) (r : Row) (bs : Branches) (u : List ℕ) (stack : List Branch) → FitsRow r (map kind_of (stacked bs [])) → Lies ts at r.text u
      → (leb (count bs) (length (stacked bs stack)) && record_fits (length ts) at (record_of at (node r bs)) (map kind_of (take (count bs) (stacked bs stack)))) ≡ true
  unfolding record_fits
  record-fits at r bs u stack f l =
      let h = stacked-length bs stack in
      let e : leb (count bs) (length (stacked bs stack)) ≡ true = le-leb (count bs) (length (stacked bs stack)) (omega arith) in
      rw (e, taken bs stack, f.kind, f.values, f.children, text-fits (length ts) at r.kind r.start r.value r.second (count bs) r.text f.text (lies-length ts at r.text u l))

  build-one : (at : ℕ) (r : Row) (bs : Branches) (u : List ℕ) (rs : List Record) (stack : List Branch) → FitsRow r (map kind_of (stacked bs [])) → Lies ts at r.text u
      → build_from ts at (record_of at (node r bs) ∷ rs) (stacked bs stack) ≡ build_from ts (at + length r.text) rs (branch r bs ∷ stack)
  build-one at r bs u rs stack f l =
      build-step at (record_of at (node r bs)) rs (stacked bs stack) (record-fits at r bs u stack f l)
      ∙ ap (λ (q : Row). build_from ts (at + length r.text) rs (over q (count bs) (stacked bs stack))) (row_back at r bs u l)
      ∙ ap (build_from ts (at + length r.text) rs) (over-stacked bs stack r)

  last_one : (at : ℕ) (r : Row) (bs : Branches) (u : List ℕ) (rs : List Record) (stack : List Branch) → FitsRow r (map kind_of (stacked bs [])) → Lies ts at (texts_of (node r bs ∷ [])) u
      → build_from ts at (records_from at (node r bs ∷ []) ++ rs) (stacked bs stack) ≡ build_from ts (at + length (texts_of (node r bs ∷ []))) rs (branch r bs ∷ stack)
  unfolding texts_of records_from
  last_one at r bs u rs stack f l = rw (append-nil r.text) (build-one at r bs u rs stack f (rw (append-nil r.text) at l))

  none-built : (at : ℕ) (rs : List Record) (stack : List Branch) → build_from ts at (records_from at [] ++ rs) stack ≡ build_from ts (at + length (texts_of [])) rs stack
  unfolding records_from texts_of
  none-built at rs stack = let n : at ≡ at + 0 = omega arith in ap (λ (k : ℕ). build_from ts k rs stack) n

  last_built : (at : ℕ) (b : Branch) → build_from ts at [] (b ∷ []) ≡ some b
  unfolding build_from
  last_built at b = refl

  mutual
    unfolding nodes Fits stacked

    build-branch : (b : Branch) → Fits b → (at : ℕ) (u : List ℕ) (rs : List Record) (stack : List Branch) → Lies ts at (texts_of (nodes b)) u
        → build_from ts at (records_from at (nodes b) ++ rs) stack ≡ build_from ts (at + length (texts_of (nodes b))) rs (b ∷ stack)
    build-branch (branch r bs) (f, fs) at u rs stack l =
        let x : Node = node r bs in
        let t = texts_of (nodes_all bs) in
        let p : Lies ts at t (texts_of (x ∷ []) ++ u) = lies-part ts at t (texts_of (x ∷ [])) u (rw (texts-append (nodes_all bs) (x ∷ [])) at l) in
        let n : at + length (t ++ texts_of (x ∷ [])) ≡ at + length t + length (texts_of (x ∷ [])) = omega (arith, length-append t (texts_of (x ∷ []))) in
        rw (records-append at (nodes_all bs) (x ∷ []), append_assoc (records_from at (nodes_all bs)) (records_from (at + length t) (x ∷ [])) rs, texts-append (nodes_all bs) (x ∷ []), n)
        (build-branches bs fs at (texts_of (x ∷ []) ++ u) (records_from (at + length t) (x ∷ []) ++ rs) stack p
        ∙ last_one (at + length t) r bs u rs stack f (lies-after ts at t (texts_of (x ∷ [])) u p))

    build-branches : (bs : Branches) → FitsAll bs → (at : ℕ) (u : List ℕ) (rs : List Record) (stack : List Branch) → Lies ts at (texts_of (nodes_all bs)) u
        → build_from ts at (records_from at (nodes_all bs) ++ rs) stack ≡ build_from ts (at + length (texts_of (nodes_all bs))) rs (stacked bs stack)
    build-branches []ᴮ fs at u rs stack l = none-built at rs stack
    build-branches (b ∷ᴮ bs) (f, fs) at u rs stack l =
        let t = texts_of (nodes b) in
        let s = texts_of (nodes_all bs) in
        let p : Lies ts at t (s ++ u) = lies-part ts at t s u (rw (texts-append (nodes b) (nodes_all bs)) at l) in
        let n : at + length (t ++ s) ≡ at + length t + length s = omega (arith, length-append t s) in
        rw (records-append at (nodes b) (nodes_all bs), append_assoc (records_from at (nodes b)) (records_from (at + length t) (nodes_all bs)) rs, texts-append (nodes b) (nodes_all bs), n)
        (build-branch b f at (s ++ u) (records_from (at + length t) (nodes_all bs) ++ rs) stack p
        ∙ build-branches bs fs (at + length t) u rs (b ∷ stack) (lies-after ts at t s u p))

-- ------------------------------------------------------------------ the whole tree

words_back : (rs : List Record) → records_in (words rs) ≡ some rs
unfolding records_in words
words_back [] = refl
words_back (r ∷ rs) = rw (words_back rs)

-- a tree that fits is one tree, with any bytes after its texts
pub encoded : (root : ℕ → Bool) (b : Branch) (more : List ℕ) → Fits b → root (kind_of b) ≡ true → build root (words (records b)) (texts b ++ more) ≡ some b
unfolding build records texts
encoded root b more f h =
    let t : List ℕ = texts_of (nodes b) in
    let l : Lies (t ++ more) 0 t more = record { low = omega arith; is = refl } in
    ap (λ o. rooted root (build_by (t ++ more) o)) (words_back (records_from 0 (nodes b)))
    ∙ ap (rooted root) (ap (λ rs. build_from (t ++ more) 0 rs []) (sym (append-nil (records_from 0 (nodes b)))) ∙ build-branch (t ++ more) b f 0 more [] [] l ∙ last_built (t ++ more) (0 + length t) b)
    ∙ rw h
