-- Nodes stored one after another.
-- Assumes nothing.
use Prim.Native.Nat.{ℕ, zero, suc, ◌+◌, ◌-◌, ◌*◌, ◌≤◌, ◌<◌}
use native.Mathlib.Omega.{arith}
use mathlib.Core.Path.{◌≡◌, refl, ap, sym, ◌∙◌}
use mathlib.Core.List.{List, [], ◌∷◌, ◌++◌, append_assoc, append-nil}
use lib.ListN.{length, take, drop, length-append, length-drop, take-append-drop}
use lib.Seq.{length-take-le, take_at, drop_at, drop-drop}
use borrow.Rule.Slice.PartMut.{put_mid}
use Rattle.characters.specs.Utf8.{encode_all}
use Rattle.characters.specs.Promise.{written, written_all}
use Rattle.characters.proofs.Written.{written_in, length-written, written-rest, all_in_lem}
use Rattle.tree.specs.Records.{Node, Record, place_of, words_of, width, records_from, words, texts_of}
use Rattle.tree.proofs.Encoded.{records-append, texts-append}
use Rattle.parser.specs.declared.store.Store.{Store}
use Rattle.parser.specs.Storing.{Lent, Kept, Stores, node}

-- ------------------------------------------------------------------ one after another

-- what is written behind what was written is written with it
pub written_then : (out : List ℕ) (at n : ℕ) (u v : List ℕ) → n ≡ length u → at + n + length v ≤ length out
    → written (written out at u) (at + n) v ≡ written out at (u ++ v)
written_then out at n u v e h =
    let a = take at out in
    let la : length a ≡ at = length-take-le at out (omega arith) in
    let lu : length (a ++ u) ≡ at + n = length-append a u ∙ rw (la, e) in
    let o = a ++ u ++ drop (at + length u) out in
    let w : written out at u ≡ o = written_in out at u (omega arith) in
    let lo : length o ≡ length out = ap length (sym w) ∙ length-written out at u in
    let t : take (at + n) o ≡ a ++ u = take_at (a ++ u) (drop (at + length u) out) (at + n) lu in
    let s : at + length u + length v ≡ at + length (u ++ v) = let l = length-append u v in omega arith in
    let d : drop (at + n + length v) o ≡ drop (at + length (u ++ v)) out =
    sym (drop-drop (length v) (at + n) o) ∙ ap (drop (length v)) (drop_at (a ++ u) (drop (at + length u) out) (at + n) lu)
    ∙ drop-drop (length v) (at + length u) out ∙ ap (λ (k : ℕ). drop k out) s in
    rw (w, written_in o (at + n) v (omega arith), t, d) (
    rw (written_in out at (u ++ v) (let l = length-append u v in omega arith)) (
    ap (λ (l : List ℕ). l ++ drop (at + length (u ++ v)) out) (append_assoc a u v)))

-- the words of records one after another
pub words_append : (rs qs : List Record) → words (rs ++ qs) ≡ words rs ++ words qs
unfolding words
words_append [] qs = refl
words_append (r ∷ rs) qs = rw (words_append rs qs) (sym (append_assoc (words_of r) (words rs) (words qs)))

pub words-length : (at : ℕ) (xs : List Node) → length (words (records_from at xs)) ≡ width * length xs
unfolding words records_from
words-length at [] = refl
words-length at (x ∷ xs) = let l = words-length (at + length x.row.text) xs in omega arith

pub written_none : (out : List ℕ) (at : ℕ) → at ≤ length out → written out at [] ≡ out
written_none out at h = let z : at + 0 ≡ at = omega arith in written_in out at [] (omega arith) ∙ rw (z, append-nil) (take-append-drop at out)

-- nothing
pub stores-none : (a : Lent) → Stores [] a a
unfolding words records_from texts_of
stores-none a =
    record {
      words-end = omega arith;
      texts-end = omega arith;
      same-words = refl;
      same-texts = refl;
      records = λ h. sym (written_none a.words a.n h);
      bytes = λ h. sym (written_none a.texts a.x h);
    }

-- nodes and then others
pub stores-then : {xs ys : List Node} {a b c : Lent} → Stores xs a b → Stores ys b c → Stores (xs ++ ys) a c
stores-then {xs} {ys} {a} {b} {c} f g =
    let l = length-append xs ys in
    let t = texts-append xs ys in
    let m : length (texts_of (xs ++ ys)) ≡ length (texts_of xs) + length (texts_of ys) = ap length t ∙ length-append (texts_of xs) (texts_of ys) in
    let wx = words-length a.x xs in
    let wy = words-length b.x ys in
    let we = f.words-end in
    let te = f.texts-end in
    record {
      words-end = g.words-end ∙ rw we (omega arith);
      texts-end = g.texts-end ∙ rw te (omega arith);
      same-words = g.same-words ∙ f.same-words;
      same-texts = g.same-texts ∙ f.same-texts;
      records = λ h.
          let sw = f.same-words in
          let ge = g.words-end in
          let k : written (written a.words a.n (words (records_from a.x xs))) (a.n + width * length xs) (words (records_from b.x ys))
          ≡ written a.words a.n (words (records_from a.x xs) ++ words (records_from b.x ys)) =
          written_then a.words a.n (width * length xs) _ _ (sym wx) (omega arith) in
          g.records (omega arith) ∙ rw (f.records (omega arith), we) (k ∙ ap (written a.words a.n) (
          sym (words_append (records_from a.x xs) (records_from b.x ys)) ∙ ap words (rw te (sym (records-append a.x xs ys)))));
      bytes = λ h.
          let sw = f.same-texts in
          let ge = g.texts-end in
          let k : written (written a.texts a.x (texts_of xs)) (a.x + length (texts_of xs)) (texts_of ys) ≡ written a.texts a.x (texts_of xs ++ texts_of ys) =
          written_then a.texts a.x (length (texts_of xs)) _ _ refl (omega arith) in
          g.bytes (omega arith) ∙ rw (f.bytes (omega arith), te) (k ∙ ap (written a.texts a.x) (sym t));
    }

-- ------------------------------------------------------------------ what is lent

pub kept_then : {a b c : Store} → Kept a b → Kept b c → Kept a c
kept_then f g = record { records = g.records ∙ f.records; texts = g.texts ∙ f.texts; words = g.words ∙ f.words; bytes = g.bytes ∙ f.bytes }

pub kept_here : (a : Store) → Kept a a
kept_here a = record { records = refl; texts = refl; words = refl; bytes = refl }

-- ------------------------------------------------------------------ one node

pub place-below : (x size : ℕ) {b : ℕ} → x < b → place_of x size < b
place-below x zero h = omega arith
place-below x (suc n) h = h

-- its record and its text
module _ {k p v c : ℕ} {t : List ℕ} {a b : Lent} where
  pub stores_one : (size : ℕ) → size ≡ length t → b.n ≡ a.n + 7 → b.x ≡ a.x + size → b.words ≡ written a.words a.n (k ∷ p ∷ place_of a.x size ∷ size ∷ v ∷ 0 ∷ c ∷ [])
      → length b.texts ≡ length a.texts → (a.x + size ≤ length a.texts → b.texts ≡ written a.texts a.x t) → Stores (node k p t v 0 c ∷ []) a b
  unfolding words records_from texts_of
  stores_one size e n x r l h =
      record {
        words-end = n ∙ omega arith;
        texts-end = x ∙ ap (λ (l : ℕ). a.x + l) (e ∙ ap length (sym (append-nil t)));
        same-words = ap length r ∙ length-written a.words a.n _;
        same-texts = l;
        records = λ i. rw e at r;
        bytes = λ i. h (rw (← x) i) ∙ ap (written a.texts a.x) (sym (append-nil t));
      }

-- its record alone
pub stores-plain : {k p v c : ℕ} {a b : Lent} → b.n ≡ a.n + 7 → b.x ≡ a.x → b.words ≡ written a.words a.n (k ∷ p ∷ 0 ∷ 0 ∷ v ∷ 0 ∷ c ∷ []) → b.texts ≡ a.texts
    → Stores (node k p [] v 0 c ∷ []) a b
stores-plain {a = a} n x r t = stores_one 0 refl n (x ∙ omega arith) r (ap length t) (λ h. t ∙ sym (written_none a.texts a.x (omega arith)))

-- ------------------------------------------------------------------ the value of a string

-- characters written to the part from a place on, where all fit
pub value-rest : (cs out : List ℕ) (at : ℕ) → at + length (encode_all cs) ≤ length out
    → put_mid at (length out - at) out (written_all (take (length out - at) (drop at out)) 0 cs) ≡ written out at (encode_all cs)
value-rest cs out at h =
    let k = length out - at in
    let d : length (drop at out) ≡ k = length-drop at out in
    let l : length (take k (drop at out)) ≡ k = length-take-le k (drop at out) (omega arith) in
    let w : written_all (take k (drop at out)) 0 cs ≡ written (take k (drop at out)) 0 (encode_all cs) =
    all_in_lem cs (take k (drop at out)) 0 (omega arith) ∙ sym (written_in (take k (drop at out)) 0 (encode_all cs) (omega arith)) in
    rw w (written-rest (encode_all cs) out at (omega arith))
