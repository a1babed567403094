-- `build` gives a tree exactly when words and texts are that tree.
-- Assumes nothing.
use Prim.Native.Nat.{ℕ, zero, suc, ◌+◌, ◌-◌, ◌≤◌}
use native.Mathlib.Omega.{arith}
use mathlib.Core.Path.{◌≡◌, refl, sym, ◌∙◌, ap}
use mathlib.Core.Bool.{Bool, true, false, ◌&&◌, ◌||◌}
use mathlib.Core.List.{List, [], ◌∷◌, ◌++◌, append_assoc, append-nil, map, reverse}
use mathlib.Core.Option.{Option, none, some}
use lib.Dec.{eqb, leb}
use lib.ListN.{length, take, drop, length-take, length-drop}
use Rattle.std.proofs.lemmas.List.{reverse-append, take-append-drop}
use Rattle.basics.proofs.Tests.{cases, both_true}
use Rattle.characters.specs.Places.{cut}
use Rattle.tree.specs.Records.{Branch, branch, Branches, []ᴮ, ◌∷ᴮ◌, Record, texts}
use Rattle.tree.specs.OneTree.{has_text, is_kind, values_fit, children_fit, text_fits, record_fits, kind_of, in_order, row_of, build_from, records_in, build_by, rooted, build}
use Rattle.tree.proofs.Back.{over}
use Rattle.tree.proofs.Encoded.{stacked, FitsRow, Fits, FitsAll, build-step, encoded}
use Rattle.tree.proofs.Decoded.{decoded}
use Rattle.tree.proofs.Trees.{record_inside, none-some, whole_of}
use Rattle.tree.proofs.Equal.{rooted-some}
use Rattle.trees.specs.IsTree.{kinds, Proper, ProperAll, IsTree, BuildsWhatIsATree, TreesAreOne}
use Rattle.trees.proofs.Making.{fit-made, made-fit}

-- ------------------------------------------------------------------ a branch fits just where it is proper

-- the kinds on the stack, last first, are those of the children, first to last
kinds_stacked : (bs : Branches) (stack : List Branch) → map kind_of (stacked bs stack) ≡ reverse (kinds bs) ++ map kind_of stack
unfolding stacked kinds
kinds_stacked []ᴮ stack = refl
kinds_stacked (b ∷ᴮ bs) stack =
    kinds_stacked bs (b ∷ stack) ∙ sym (append_assoc (reverse (kinds bs)) (kind_of b ∷ []) (map kind_of stack))
    ∙ ap (λ l. l ++ map kind_of stack) (sym (reverse-append (kind_of b ∷ []) (kinds bs)))

kinds_are : (bs : Branches) → map kind_of (stacked bs []) ≡ reverse (kinds bs)
kinds_are bs = kinds_stacked bs [] ∙ append-nil (reverse (kinds bs))

mutual
  unfolding Fits Proper

  proper : (b : Branch) → Fits b → Proper b
  proper (branch r bs) (f, fs) =
      (record { kind = f.kind; values = f.values; made = fit-made r.kind r.value (kinds bs) (rw (kinds_are bs) at f.children); text = f.text }, proper-all bs fs)

  proper-all : (bs : Branches) → FitsAll bs → ProperAll bs
  proper-all []ᴮ fs = tt
  proper-all (b ∷ᴮ bs) (f, fs) = (proper b f, proper-all bs fs)

mutual
  unfolding Fits Proper

  pub fits : (b : Branch) → Proper b → Fits b
  fits (branch r bs) (p, ps) =
      (record { kind = p.kind; values = p.values; children = rw (kinds_are bs) (made-fit r.kind r.value (kinds bs) p.made); text = p.text }, fits-all bs ps)

  fits-all : (bs : Branches) → ProperAll bs → FitsAll bs
  fits-all []ᴮ ps = tt
  fits-all (b ∷ᴮ bs) (p, ps) = (fits b p, fits-all bs ps)

-- ------------------------------------------------------------------ what is built fits

-- all branches on a stack do
unfoldable AllFit : List Branch → Type 0
AllFit [] = Unit
AllFit (b ∷ l) = Fits b × AllFit l

all-taken : (n : ℕ) (l : List Branch) → AllFit l → AllFit (take n l)
unfolding AllFit
all-taken zero l a = tt
all-taken (suc n) [] a = tt
all-taken (suc n) (b ∷ l) (f, fs) = (f, all-taken n l fs)

all-dropped : (n : ℕ) (l : List Branch) → AllFit l → AllFit (drop n l)
unfolding AllFit
all-dropped zero l a = a
all-dropped (suc n) [] a = tt
all-dropped (suc n) (b ∷ l) (f, fs) = all-dropped n l fs

-- taken off the stack, in order
all-in_order : (l : List Branch) (bs : Branches) → AllFit l → FitsAll bs → FitsAll (in_order l bs)
unfolding AllFit in_order Fits
all-in_order [] bs a f = f
all-in_order (b ∷ l) bs (f, fs) g = all-in_order l (b ∷ᴮ bs) fs (f, g)

stacked-in_order : (l : List Branch) (bs : Branches) (stack : List Branch) → stacked (in_order l bs) stack ≡ stacked bs (l ++ stack)
unfolding in_order stacked
stacked-in_order [] bs stack = refl
stacked-in_order (b ∷ l) bs stack = stacked-in_order l (b ∷ᴮ bs) stack

back-on_the_stack : (l : List Branch) → stacked (in_order l []ᴮ) [] ≡ l
unfolding stacked
back-on_the_stack l = stacked-in_order l []ᴮ [] ∙ append-nil l

module _ (ts : List ℕ) where
  cut-length : (p n : ℕ) → p + n ≤ length ts → length (cut ts p (p + n)) ≡ n
  cut-length p n h = omega (arith, length-take (p + n - p) (drop p ts), length-drop p ts)

  -- a text that a record may have
  text-may : (at : ℕ) (r : Record) → text_fits (length ts) at r ≡ true → r.place + r.size ≤ length ts → (eqb (length (cut ts r.place (r.place + r.size))) 0 || has_text r.kind) ≡ true
  unfolding text_fits
  text-may at r t h =
      let n = cut-length r.place r.size h in
      cases (eqb r.size 0)
      (λ e. rw (n, e))
      (λ e. let f = both_true (has_text r.kind && eqb r.place at) (leb (at + r.size) (length ts)) (rw e at t) in
      let g = both_true (has_text r.kind) (eqb r.place at) f.0 in
      rw (n, e, g.0))

  row-fits : (at : ℕ) (r : Record) (cs : List ℕ) → record_fits (length ts) at r cs ≡ true → r.place + r.size ≤ length ts → FitsRow (row_of ts r) cs
  unfolding record_fits
  row-fits at r cs e h =
      let a = both_true (is_kind r.kind && values_fit r.kind r.value r.second && children_fit r.kind r.value cs) (text_fits (length ts) at r) e in
      let b = both_true (is_kind r.kind && values_fit r.kind r.value r.second) (children_fit r.kind r.value cs) a.0 in
      let c = both_true (is_kind r.kind) (values_fit r.kind r.value r.second) b.0 in
      record { kind = c.0; values = c.1; children = b.1; text = text-may at r a.1 h }

  over-fits : (at : ℕ) (r : Record) (l : List Branch) → AllFit l → record_fits (length ts) at r (map kind_of (take r.children l)) ≡ true → r.place + r.size ≤ length ts
      → AllFit (over (row_of ts r) r.children l)
  unfolding AllFit Fits
  over-fits at r l a e h =
      ((rw (back-on_the_stack (take r.children l)) (row-fits at r (map kind_of (take r.children l)) e h), all-in_order (take r.children l) []ᴮ (all-taken r.children l a) tt), all-dropped r.children l a)

  build_not : (at : ℕ) (r : Record) (rs : List Record) (l : List Branch) → (leb r.children (length l) && record_fits (length ts) at r (map kind_of (take r.children l))) ≡ false
      → build_from ts at (r ∷ rs) l ≡ none
  unfolding build_from
  build_not at r rs l e = rw (e, build_from)

  built-fits : (b : Branch) (rs : List Record) (at : ℕ) (l : List Branch) → AllFit l → at ≤ length ts → build_from ts at rs l ≡ some b → Fits b
  unfolding build_from AllFit
  built-fits b [] at l a h e = let w : l ≡ b ∷ [] = whole_of ts ts b l e in (rw w at a).0
  built-fits b (r ∷ rs) at l a h e =
      cases (leb r.children (length l) && record_fits (length ts) at r (map kind_of (take r.children l)))
      (λ t. let g = both_true (leb r.children (length l)) (record_fits (length ts) at r (map kind_of (take r.children l))) t in
      let i = record_inside (length ts) at r (map kind_of (take r.children l)) g.1 h in
      built-fits b rs (at + r.size) (over (row_of ts r) r.children l) (over-fits at r l a g.1 i.0) i.1 (sym (build-step ts at r rs l t) ∙ e))
      (λ t. none-some (sym (build_not at r rs l t) ∙ e))

-- ------------------------------------------------------------------ the whole

rooted-so : (root : ℕ → Bool) (o : Option Branch) (b : Branch) → rooted root o ≡ some b → root (kind_of b) ≡ true
rooted-so root none b e = none-some e
rooted-so root (some c) b e =
    cases (root (kind_of c))
    (λ t. let f : c ≡ b = let g : some c ≡ some b = rw t at e in cc in rw (← f) t)
    (λ t. let g : none ≡ some b = rw t at e in none-some g)

fits-by : (root : ℕ → Bool) (ts : List ℕ) (b : Branch) (o : Option (List Record)) → rooted root (build_by ts o) ≡ some b → Fits b × (root (kind_of b) ≡ true)
unfolding AllFit
fits-by root ts b none e = none-some e
fits-by root ts b (some rs) e =
    (built-fits ts b rs 0 [] tt (omega arith) (rooted-some root (build_from ts 0 rs []) b e), rooted-so root (build_from ts 0 rs []) b e)

is-tree : (root : ℕ → Bool) (ws ts : List ℕ) (b : Branch) → build root ws ts ≡ some b → IsTree root ws ts b
unfolding build
is-tree root ws ts b e =
    let f = fits-by root ts b (records_in ws) e in
    let d = decoded root ws ts b e in
    record {
      proper = proper b f.0;
      rooted = f.1;
      words_are = sym d.is-words;
      behind = drop (length (texts b)) ts;
      texts-are = sym (take-append-drop (length (texts b)) ts) ∙ ap (λ (l : List ℕ). l ++ drop (length (texts b)) ts) (sym d.is-texts);
    }

builds : (root : ℕ → Bool) (ws ts : List ℕ) (b : Branch) → IsTree root ws ts b → build root ws ts ≡ some b
builds root ws ts b t = rw (t.words_are, t.texts-are) (encoded root b t.behind (fits b t.proper) t.rooted)

pub builds_what_is-a_tree : BuildsWhatIsATree
builds_what_is-a_tree root ws ts b = (is-tree root ws ts b, builds root ws ts b)

some-one : {b c : Branch} → some b ≡ some c → b ≡ c
some-one e = cc

pub trees-are-one : TreesAreOne
trees-are-one root ws ts b c s t = some-one (sym (builds root ws ts b s) ∙ builds root ws ts c t)
