-- The tree of words and texts has these as its records and texts; so trees whose words are the same but for the starts, and whose texts are
-- the same, agree.
-- Assumes nothing.
use Prim.Native.Nat.{ℕ, zero, suc, ◌+◌, ◌-◌, ◌≤◌}
use native.Mathlib.Omega.{arith}
use mathlib.Core.Path.{◌≡◌, refl, ap, sym, ◌∙◌}
use mathlib.Core.Bool.{Bool, true, false, ◌&&◌}
use mathlib.Core.List.{List, [], ◌∷◌, ◌++◌, map, append_assoc, append-nil}
use mathlib.Core.Option.{Option, none, some}
use lib.Dec.{eqb, leb}
use lib.ListN.{length, take, drop, length-append, length-take, length-drop}
use lib.Seq.{take-add}
use borrow.Author.Tests.{eqb-true, ne_eqb, leb-true}
use Rattle.basics.specs.Basics.{same}
use Rattle.basics.proofs.Tests.{cases, both_true, impossible}
use Rattle.basics.proofs.Same.{same_refl}
use Rattle.characters.specs.Places.{cut}
use Rattle.tree.specs.Records.{Branch, Node, nodes, Record, place_of, record_of, records_from, words_of, words, texts_of, records, texts}
use Rattle.tree.specs.OneTree.{has_text, is_kind, values_fit, children_fit, text_fits, record_fits, kind_of, row_of, only, build_from, onto, records_in, build_by, rooted, build}
use Rattle.tree.specs.Equality.{agreeing, all_agreeing}
use Rattle.tree.proofs.Back.{flat, over, flat-over}
use Rattle.tree.proofs.Encoded.{records-append, texts-append, build-step}
use Rattle.tree.proofs.Trees.{record_inside, none-some, whole_of}
use Rattle.tree.proofs.Equal.{rooted-some}

-- ------------------------------------------------------------------ one record

-- the text's place is where the texts before it end
text-placed : (room at : ℕ) (r : Record) → text_fits room at r ≡ true → place_of at r.size ≡ r.place
unfolding text_fits
text-placed room at r t = go r.size refl
  where
    go : (n : ℕ) → r.size ≡ n → place_of at n ≡ r.place
    go zero e = let f : eqb r.place 0 ≡ true = rw e at t in sym (eqb-true r.place 0 f)
    go (suc n) e =
        let f : (has_text r.kind && eqb r.place at && leb (at + suc n) room) ≡ true = rw (e, ne_eqb (suc n) 0 (λ z. omega arith)) at t in
        let g = both_true (has_text r.kind && eqb r.place at) (leb (at + suc n) room) f in
        sym (eqb-true r.place at (both_true (has_text r.kind) (eqb r.place at) g.0).1)

record_placed : (room at : ℕ) (r : Record) (cs : List ℕ) → record_fits room at r cs ≡ true → place_of at r.size ≡ r.place
unfolding record_fits
record_placed room at r cs t =
    text-placed room at r (both_true (is_kind r.kind && values_fit r.kind r.value r.second && children_fit r.kind r.value cs) (text_fits room at r) t).1

module _ (ts : List ℕ) where
  cut-length : (p n : ℕ) → p + n ≤ length ts → length (cut ts p (p + n)) ≡ n
  cut-length p n h = omega (arith, length-take (p + n - p) (drop p ts), length-drop p ts)

  -- the texts up to a place, and the text there
  cut-next : (at n : ℕ) → take at ts ++ cut ts (place_of at n) (place_of at n + n) ≡ take (at + n) ts
  cut-next at zero = let e : at + 0 ≡ at = omega arith in rw e (append-nil (take at ts))
  cut-next at (suc n) = let e : at + suc n - at ≡ suc n = omega arith in rw e (sym (take-add at (suc n) ts))

  abbrev node_of : Record → Node
  node_of r = record { row = row_of ts r; children = r.children }

  record_back : (at : ℕ) (r : Record) → r.place + r.size ≤ length ts → place_of at r.size ≡ r.place → record_of at (node_of r) ≡ r
  record_back at r h p = rw (cut-length r.place r.size h, p)

  -- ---------------------------------------------------------------- record after record

  nodes-only : (at : ℕ) (x : Node) → records_from at (x ∷ []) ≡ record_of at x ∷ []
  unfolding records_from
  nodes-only at x = refl

  texts-only : (x : Node) → texts_of (x ∷ []) ≡ x.row.text
  unfolding texts_of
  texts-only x = append-nil x.row.text

  -- the stack has the records and the texts so far
  record Kept (at : ℕ) (done : List Record) (l : List Branch) : Type 0 where
    kept-records : records_from 0 (flat l) ≡ done
    kept-texts : texts_of (flat l) ≡ take at ts
    low : at ≤ length ts

  keep : (at : ℕ) (done : List Record) (l : List Branch) (r : Record) (cs : List ℕ) → Kept at done l → r.children ≤ length l → record_fits (length ts) at r cs ≡ true
      → Kept (at + r.size) (done ++ (r ∷ [])) (over (row_of ts r) r.children l)
  keep at done l r cs k c f =
      let i = record_inside (length ts) at r cs f k.low in
      let p = record_placed (length ts) at r cs f in
      let o = flat-over (row_of ts r) r.children l c in
      let n : 0 + length (texts_of (flat l)) ≡ at = let low = k.low in omega (arith, ap length k.kept-texts, length-take at ts) in
      record {
        kept-records = rw (o, records-append 0 (flat l) (node_of r ∷ []), k.kept-records, n, nodes-only at (node_of r), record_back at r i.0 p);
        kept-texts = rw (o, texts-append (flat l) (node_of r ∷ []), texts-only (node_of r), k.kept-texts, ← p) (cut-next at r.size);
        low = i.1;
      }

  build_not : (at : ℕ) (r : Record) (rs : List Record) (l : List Branch) → (leb r.children (length l) && record_fits (length ts) at r (map kind_of (take r.children l))) ≡ false
      → build_from ts at (r ∷ rs) l ≡ none
  unfolding build_from
  build_not at r rs l e = rw (e, build_from)

  build-last : (at : ℕ) (l : List Branch) → build_from ts at [] l ≡ only l
  unfolding build_from
  build-last at l = refl

  built : (b : Branch) (rs done : List Record) (at : ℕ) (l : List Branch) → Kept at done l → build_from ts at rs l ≡ some b
      → (records_from 0 (nodes b) ≡ done ++ rs) × (texts_of (nodes b) ≡ take (length (texts_of (nodes b))) ts)
  unfolding flat
  built b [] done at l k e =
      let w : l ≡ b ∷ [] = whole_of ts ts b l (sym (build-last at l) ∙ e) in
      let t : texts_of (nodes b) ≡ take at ts = rw w at k.kept-texts in
      let n : length (texts_of (nodes b)) ≡ at = let low = k.low in omega (arith, ap length t, length-take at ts) in
      (rw w at k.kept-records ∙ sym (append-nil done), rw n t)
  built b (r ∷ rs) done at l k e =
      cases (leb r.children (length l) && record_fits (length ts) at r (map kind_of (take r.children l)))
      (λ t. let g = both_true (leb r.children (length l)) (record_fits (length ts) at r (map kind_of (take r.children l))) t in
      let s = built b rs (done ++ (r ∷ [])) (at + r.size) (over (row_of ts r) r.children l) (keep at done l r (map kind_of (take r.children l)) k (leb-true r.children (length l) g.0) g.1)
      (sym (build-step ts at r rs l t) ∙ e) in
      (s.0 ∙ append_assoc done (r ∷ []) rs, s.1))
      (λ t. none-some (sym (build_not at r rs l t) ∙ e))

  kept-none : Kept 0 [] []
  unfolding flat records_from texts_of
  kept-none = record { kept-records = refl; kept-texts = refl; low = omega arith }

-- ------------------------------------------------------------------ the whole tree

onto-back : (r : Record) (ws : List ℕ) (rs : List Record) (o : Option (List Record)) → ((qs : List Record) → o ≡ some qs → words qs ≡ ws) → onto r o ≡ some rs → words rs ≡ words_of r ++ ws
unfolding words
onto-back r ws rs none h e = impossible (cc)
onto-back r ws rs (some qs) h e = let f : r ∷ qs ≡ rs = cc in rw (← f) (ap (λ l. words_of r ++ l) (h qs refl))

words_in : (ws : List ℕ) (rs : List Record) → records_in ws ≡ some rs → words rs ≡ ws
unfolding records_in words
words_in [] rs e = let f : [] ≡ rs = cc in rw (← f) refl
words_in (a ∷ []) rs e = impossible (cc)
words_in (a ∷ b ∷ []) rs e = impossible (cc)
words_in (a ∷ b ∷ c ∷ []) rs e = impossible (cc)
words_in (a ∷ b ∷ c ∷ d ∷ []) rs e = impossible (cc)
words_in (a ∷ b ∷ c ∷ d ∷ f ∷ []) rs e = impossible (cc)
words_in (a ∷ b ∷ c ∷ d ∷ f ∷ g ∷ []) rs e = impossible (cc)
words_in (a ∷ b ∷ c ∷ d ∷ f ∷ g ∷ h ∷ ws) rs e =
    onto-back (record { kind = a; start = b; place = c; size = d; value = f; second = g; children = h }) ws rs (records_in ws) (λ qs q. words_in ws qs q) e

-- the records are those of the words, and the texts come first in the texts
pub record Decoded (ws ts : List ℕ) (b : Branch) : Type 0 where
  pub is-records : records_in ws ≡ some (records b)
  pub is-words : words (records b) ≡ ws
  pub is-texts : texts b ≡ take (length (texts b)) ts

decoded-by : (root : ℕ → Bool) (ws ts : List ℕ) (b : Branch) (o : Option (List Record)) → records_in ws ≡ o → rooted root (build_by ts o) ≡ some b → Decoded ws ts b
unfolding records texts
decoded-by root ws ts b none q e = none-some e
decoded-by root ws ts b (some rs) q e =
    let s = built ts b rs [] 0 [] (kept-none ts) (rooted-some root (build_from ts 0 rs []) b e) in
    record { is-records = q ∙ ap some (sym s.0); is-words = ap words s.0 ∙ words_in ws rs q; is-texts = s.1 }

pub decoded : (root : ℕ → Bool) (ws ts : List ℕ) (b : Branch) → build root ws ts ≡ some b → Decoded ws ts b
unfolding build
decoded root ws ts b e = decoded-by root ws ts b (records_in ws) refl e

-- ------------------------------------------------------------------ agreement

unfoldable sizes : List Record → ℕ
sizes [] = 0
sizes (r ∷ rs) = r.size + sizes rs

texts-sized : (at : ℕ) (xs : List Node) → length (texts_of xs) ≡ sizes (records_from at xs)
unfolding texts_of records_from sizes
texts-sized at [] = refl
texts-sized at (x ∷ xs) = omega (arith, length-append x.row.text (texts_of xs), texts-sized (at + length x.row.text) xs)

size-agrees : (r q : Record) → agreeing r q ≡ true → r.size ≡ q.size
size-agrees r q h =
    let k = eqb r.kind q.kind && eqb r.place q.place in
    let a = both_true (k && eqb r.size q.size && eqb r.value q.value && eqb r.second q.second) (eqb r.children q.children) h in
    let b = both_true (k && eqb r.size q.size && eqb r.value q.value) (eqb r.second q.second) a.0 in
    let c = both_true (k && eqb r.size q.size) (eqb r.value q.value) b.0 in
    eqb-true r.size q.size (both_true k (eqb r.size q.size) c.0).1

sizes-agree : (rs qs : List Record) → all_agreeing rs qs ≡ true → sizes rs ≡ sizes qs
unfolding all_agreeing sizes
sizes-agree [] [] h = refl
sizes-agree [] (q ∷ qs) h = impossible (cc)
sizes-agree (r ∷ rs) [] h = impossible (cc)
sizes-agree (r ∷ rs) (q ∷ qs) h =
    let a = both_true (agreeing r q) (all_agreeing rs qs) h in
    omega (arith, size-agrees r q a.0, sizes-agree rs qs a.1)

-- words that are the same but for the starts, over the same texts: the trees agree
pub words-agree : (root : ℕ → Bool) (lw rw' ts : List ℕ) (b c : Branch) (rs qs : List Record) → build root lw ts ≡ some b → build root rw' ts ≡ some c → records_in lw ≡ some rs → records_in rw' ≡ some qs
    → all_agreeing rs qs ≡ true → (all_agreeing (records b) (records c) ≡ true) × (same (texts b) (texts c) ≡ true)
unfolding records texts
words-agree root lw rw' ts b c rs qs e f p q a =
    let d = decoded root lw ts b e in
    let g = decoded root rw' ts c f in
    let r : records b ≡ rs = cc d.is-records in
    let s : records c ≡ qs = cc g.is-records in
    let n : length (texts b) ≡ length (texts c) = texts-sized 0 (nodes b) ∙ ap sizes r ∙ sizes-agree rs qs a ∙ sym (ap sizes s) ∙ sym (texts-sized 0 (nodes c)) in
    let t : texts c ≡ texts b = g.is-texts ∙ ap (λ (k : ℕ). take k ts) (sym n) ∙ sym d.is-texts in
    (rw (r, s) a, ap (same (texts b)) t ∙ same_refl (texts b))
