-- The spans of a set as records: two words a span are spread to seven, the last first.
-- Assumes nothing.
use Prim.Native.Nat.{ℕ, zero, suc, ◌+◌, ◌-◌, ◌*◌, ◌≤◌, ◌<◌}
use native.Mathlib.Omega.{arith}
use mathlib.Core.Path.{◌≡◌, refl, ap, ap₂, sym, ◌∙◌}
use mathlib.Core.Bool.{Bool, true, false}
use mathlib.Core.List.{List, [], ◌∷◌, ◌++◌, append_assoc}
use mathlib.Core.Option as M
use mathlib.Core.Option.{none, some}
use Rattle.std.specs.Prelude.{Option, Some, None, Ok}
use lib.ListN.{length, take, drop, get_or, take-append-drop}
use lib.Seq.{length-take-le, take-append-le, take-take, drop_at, drop-drop, get_or-take, get_or-drop}
use borrow.Rule.Slice.PartMut.{put_mid}
use Rattle.basics.specs.Basics.{is}
use Rattle.characters.specs.Utf8.{codes_from, codes, first_char, on_char}
use Rattle.characters.specs.Spans.{Span}
use Rattle.characters.specs.Promise.{written}
use Rattle.characters.proofs.Written.{written_in, written_not, length-written, written-rest}
use Rattle.lexer.specs.Escapes.{Atom, escape, escaped_by, atoms_from, atoms}
use Rattle.lexer.specs.Sets.{range_end, span_by, spans, fault, sorted}
use Rattle.lexer.specs.Sets as S
use Rattle.lexer.specs.Promise.{spans_in, words_of, stored, Checks}
use Rattle.lexer.proofs.Held.{length-words, length-spans, length-insert, spans-back}
use Rattle.tree.specs.Records.{count, nodes, records_from, words, texts_of}
use Rattle.tree.specs.Stored.{span_branch}
use Rattle.parser.specs.Storing.{lent, Stores, flat, nodes_of, span_words, StoresSet}
use Rattle.parser.proofs.Stored.{written_none}

-- ------------------------------------------------------------------ no more spans than bytes

codes-few : (j : ℕ) (l : List ℕ) → length (codes_from j l) ≤ length l
unfolding codes_from on_char
codes-few j [] = omega arith
codes-few (suc j) (x ∷ xs) = let h = codes-few j xs in omega arith
codes-few zero (x ∷ xs) = by (first_char (x ∷ xs)) (λ k. codes-few k xs)
  where
    by : (ch : Option (ℕ × ℕ)) → ((k : ℕ) → length (codes_from k xs) ≤ length xs) → length (on_char ch (λ c n. c ∷ codes_from (n - 1) xs) []) ≤ suc (length xs)
    by (Some (c, n)) h = let i = h (n - 1) in omega arith
    by None h = omega arith

atoms-few : (cs : List ℕ) (k : ℕ) → length (atoms_from cs k) ≤ length cs
unfolding atoms_from
atoms-few [] k = omega arith
atoms-few (c ∷ cs) (suc k) = let h = atoms-few cs k in omega arith
atoms-few (c ∷ cs) zero = by (is "\\" c) cs (λ k. atoms_from cs k) (λ k. atoms-few cs k)
  where
    by : (b : Bool) (l : List ℕ) (rest : ℕ → List Atom) → ((k : ℕ) → length (rest k) ≤ length l)
        → length {A = Atom} (elim b [ true ↦ escaped_by l rest | false ↦ record { char = c; escaped = false } ∷ rest 0 ]) ≤ suc (length l)
    by true [] rest h = omega arith
    by true (e ∷ l) rest h = let i = h (suc (escape e l).taken) in omega arith
    by false l rest h = let i = h 0 in omega arith

written-few : (l : List Atom) (k : ℕ) → length (S.written l k) ≤ length l
unfolding S.written
written-few [] k = omega arith
written-few (a ∷ l) (suc k) = let h = written-few l k in omega arith
written-few (a ∷ l) zero = by (range_end a l) (λ k. written-few l k)
  where
    by : (o : M.Option ℕ) → ((k : ℕ) → length (S.written l k) ≤ length l) → length (span_by a o (λ k. S.written l k)) ≤ suc (length l)
    by none h = let i = h 0 in omega arith
    by (some z) h = let i = h 2 in omega arith

pub spans-few : (b : List ℕ) → length (spans (codes b)) ≤ length b
spans-few b = omega (arith, written-few (atoms (codes b)) 0, atoms-few (codes b) 0, codes-few 0 b)

pub length-sorted : (ss : List Span) → length (sorted ss) ≡ length ss
unfolding sorted
length-sorted [] = refl
length-sorted (s ∷ ss) = length-insert s (sorted ss) ∙ ap suc (length-sorted ss)

-- ------------------------------------------------------------------ what is read

-- two words a span, laid over the words lent for them where they fit
stored-written : (ss : List Span) (out : List ℕ) → fault ss ≡ none → stored ss out ≡ written out 0 (words_of (sorted ss))
unfolding stored written
stored-written ss out e =
    let l : 0 + length (words_of (sorted ss)) ≡ 2 * length ss = let w = length-words (sorted ss) in let k = length-sorted ss in omega arith in
    rw (e, l)

module _ (ss : List Span) (out : List ℕ) (n : ℕ) (e : fault ss ≡ none) where
  pub read-rest : n ≤ length out → put_mid n (length out - n) out (stored ss (take (length out - n) (drop n out))) ≡ written out n (words_of (sorted ss))
  read-rest h = rw (stored-written ss (take (length out - n) (drop n out)) e) (written-rest (words_of (sorted ss)) out n h)

-- ------------------------------------------------------------------ what is written before, at and behind a place

module _ (out : List ℕ) (at : ℕ) (v : List ℕ) (h : at + length v ≤ length out) where
  front : length (take at out) ≡ at
  front = length-take-le at out (omega arith)

  split : written out at v ≡ take at out ++ (v ++ drop (at + length v) out)
  split = written_in out at v h ∙ append_assoc (take at out) v (drop (at + length v) out)

  before-written : (m : ℕ) → m ≤ at → take m (written out at v) ≡ take m out
  before-written m k =
      let f = front in
      rw split (take-append-le m (take at out) (v ++ drop (at + length v) out) (omega arith) ∙ take-take m at out k)

  from-written : drop at (written out at v) ≡ v ++ drop (at + length v) out
  from-written = rw split (drop_at (take at out) (v ++ drop (at + length v) out) at front)

  behind-written : (m : ℕ) → length v ≤ m → drop (at + m) (written out at v) ≡ drop (at + m) out
  behind-written m k =
      let i : at + length v + (m - length v) ≡ at + m = omega arith in
      let j : length v + (m - length v) ≡ m = omega arith in
      sym (drop-drop m at (written out at v)) ∙ ap (drop m) from-written
      ∙ ap (λ (x : ℕ). drop x (v ++ drop (at + length v) out)) (sym j) ∙ sym (drop-drop (m - length v) (length v) (v ++ drop (at + length v) out))
      ∙ ap (drop (m - length v)) (drop_at v (drop (at + length v) out) (length v) refl)
      ∙ drop-drop (m - length v) (at + length v) out ∙ ap (λ (x : ℕ). drop x out) i

-- what is written over something no longer
written_over : (out : List ℕ) (at : ℕ) (u v : List ℕ) → length u ≤ length v → at + length v ≤ length out → written (written out at u) at v ≡ written out at v
written_over out at u v k h =
    let l = length-written out at u in
    let i : at + length u ≤ length out = omega arith in
    written_in (written out at u) at v (omega arith)
    ∙ rw (before-written out at u i at (omega arith), behind-written out at u i (length v) k) (sym (written_in out at v h))

-- ------------------------------------------------------------------ the records of spans

module _ (p : ℕ) where
  words-spans : (x y : ℕ) (ss : List Span) → words (records_from x (flat (nodes_of (span_branch p)) ss)) ≡ words (records_from y (flat (nodes_of (span_branch p)) ss))
  unfolding flat count nodes records_from words
  words-spans x y [] = refl
  words-spans x y (s ∷ ss) = ap (λ (l : List ℕ). 38 ∷ p ∷ 0 ∷ 0 ∷ s.first ∷ s.past ∷ 0 ∷ l) (words-spans (x + 0) (y + 0) ss)

  words_anywhere : (x : ℕ) (ss : List Span) → span_words p ss ≡ words (records_from x (flat (nodes_of (span_branch p)) ss))
  unfolding span_words
  words_anywhere x ss = words-spans 0 x ss

  pub texts-spans : (ss : List Span) → texts_of (flat (nodes_of (span_branch p)) ss) ≡ []
  unfolding flat count nodes texts_of
  texts-spans [] = refl
  texts-spans (s ∷ ss) = texts-spans ss

  pub length-flat : (ss : List Span) → length (flat (nodes_of (span_branch p)) ss) ≡ length ss
  unfolding flat count nodes
  length-flat [] = refl
  length-flat (s ∷ ss) = ap suc (length-flat ss)

  words-none : span_words p [] ≡ []
  unfolding span_words flat records_from words
  words-none = refl

  words-one : (s : Span) (ss : List Span) → span_words p (s ∷ ss) ≡ 38 ∷ p ∷ 0 ∷ 0 ∷ s.first ∷ s.past ∷ 0 ∷ span_words p ss
  unfolding span_words flat count nodes records_from words
  words-one s ss = refl

  length-span-words : (ss : List Span) → length (span_words p ss) ≡ 7 * length ss
  length-span-words [] = ap length words-none
  length-span-words (s ∷ ss) = let e = ap length (words-one s ss) in let h = length-span-words ss in omega arith

-- ------------------------------------------------------------------ spread from the last to the first

-- the spans from the i-th on are spread, and those before stand as they did
pub record Spreading (p n count : ℕ) (ws₀ ws : List ℕ) (i : ℕ) : Type 0 where
  pub few : i ≤ count
  pub size : length ws ≡ length ws₀
  pub kept : take (n + 2 * i) ws ≡ take (n + 2 * i) ws₀
  pub done : drop (n + 7 * i) ws ≡ span_words p (spans_in (count - i) (drop (n + 2 * i) ws₀)) ++ drop (n + 7 * count) ws₀

module _ (p n count : ℕ) (ws₀ : List ℕ) where
  pub spread_none : Spreading p n count ws₀ ws₀ count
  unfolding spans_in
  spread_none =
      let z : count - count ≡ 0 = omega arith in
      record { few = omega arith; size = refl; kept = refl; done = rw (z, words-none p) }

  pub spread_narrow : length ws₀ < n + 7 * count → ws₀ ≡ written ws₀ n (span_words p (spans_in count (drop n ws₀)))
  spread_narrow h =
      let l = length-span-words p (spans_in count (drop n ws₀)) in
      let k = length-spans count (drop n ws₀) in
      sym (written_not ws₀ n (span_words p (spans_in count (drop n ws₀))) (omega arith))

  module _ (h : n + 7 * count ≤ length ws₀) where
    pub spread_all : (ws : List ℕ) (i : ℕ) → Spreading p n count ws₀ ws i → i ≡ 0 → ws ≡ written ws₀ n (span_words p (spans_in count (drop n ws₀)))
    spread_all ws i f e =
        let u = span_words p (spans_in count (drop n ws₀)) in
        let l = length-span-words p (spans_in count (drop n ws₀)) in
        let k = length-spans count (drop n ws₀) in
        let a : n + 2 * i ≡ n = omega arith in
        let b : n + 7 * i ≡ n = omega arith in
        let c : count - i ≡ count = omega arith in
        let d : n + length u ≡ n + 7 * count = omega arith in
        sym (take-append-drop n ws) ∙ ap₂ (λ (x y : List ℕ). x ++ y) (rw a at f.kept) (rw (b, c, a) at f.done)
        ∙ sym (append_assoc (take n ws₀) u (drop (n + 7 * count) ws₀)) ∙ ap (λ (x : ℕ). take n ws₀ ++ u ++ drop x ws₀) (sym d)
        ∙ sym (written_in ws₀ n u (omega arith))

    module _ (ws : List ℕ) (i k : ℕ) (f : Spreading p n count ws₀ ws i) (e : i ≡ k + 1) where
      same : (j : ℕ) → j < n + 2 * i → get_or ws j 0 ≡ get_or ws₀ j 0
      same j l = sym (get_or-take (n + 2 * i) ws j 0 l) ∙ ap (λ (x : List ℕ). get_or x j 0) f.kept ∙ get_or-take (n + 2 * i) ws₀ j 0 l

      pub spread_on : (after : List ℕ) → after ≡ written ws (n + 7 * k) (38 ∷ p ∷ 0 ∷ 0 ∷ get_or ws (n + 2 * k) 0 ∷ get_or ws (n + 2 * k + 1) 0 ∷ 0 ∷ [])
          → Spreading p n count ws₀ after k
      unfolding spans_in
      spread_on after w =
          let few = f.few in
          let size = f.size in
          let at = n + 7 * k in
          let v : List ℕ = 38 ∷ p ∷ 0 ∷ 0 ∷ get_or ws (n + 2 * k) 0 ∷ get_or ws (n + 2 * k + 1) 0 ∷ 0 ∷ [] in
          let room : at + 7 ≤ length ws = omega arith in
          let a : at + 7 ≡ n + 7 * i = omega arith in
          let c : count - k ≡ suc (count - i) = omega arith in
          let d : n + 2 * k + 2 ≡ n + 2 * i = omega arith in
          let z : n + 2 * k + 0 ≡ n + 2 * k = omega arith in
          let rest = drop (n + 2 * k) ws₀ in
          let g₀ : get_or ws (n + 2 * k) 0 ≡ get_or rest 0 0 = same (n + 2 * k) (omega arith) ∙ sym (get_or-drop (n + 2 * k) ws₀ 0 0 ∙ ap (λ (x : ℕ). get_or ws₀ x 0) z) in
          let g₁ : get_or ws (n + 2 * k + 1) 0 ≡ get_or rest 1 0 = same (n + 2 * k + 1) (omega arith) ∙ sym (get_or-drop (n + 2 * k) ws₀ 1 0) in
          let t : drop 2 rest ≡ drop (n + 2 * i) ws₀ = drop-drop 2 (n + 2 * k) ws₀ ∙ ap (λ (x : ℕ). drop x ws₀) d in
          record {
            few = omega arith;
            size = ap length w ∙ length-written ws at v ∙ size;
            kept = ap (take (n + 2 * k)) w ∙ before-written ws at v room (n + 2 * k) (omega arith)
                ∙ sym (take-take (n + 2 * k) (n + 2 * i) ws (omega arith)) ∙ ap (take (n + 2 * k)) f.kept ∙ take-take (n + 2 * k) (n + 2 * i) ws₀ (omega arith);
            done = ap (drop at) w ∙ from-written ws at v room
                ∙ ap (λ (x : List ℕ). v ++ x) (ap (λ (x : ℕ). drop x ws) a ∙ f.done)
                ∙ rw (c, words-one p, t, g₀, g₁);
          }

-- ------------------------------------------------------------------ all

module _ (p n m x : ℕ) (ss : List Span) (ws mid vs ts : List ℕ) where
  spread_stores : m ≡ length ss → mid ≡ written ws n (words_of ss) → vs ≡ written mid n (span_words p (spans_in m (drop n mid)))
      → Stores (flat (nodes_of (span_branch p)) ss) (lent n ws x ts) (lent (n + 7 * m) vs x ts)
  spread_stores e r w =
      let l = length-flat p ss in
      let t = texts-spans p ss in
      record {
        words-end = omega arith;
        texts-end = rw t (omega arith);
        same-words = ap length w ∙ length-written mid n (span_words p (spans_in m (drop n mid))) ∙ ap length r ∙ length-written ws n (words_of ss);
        same-texts = refl;
        records = λ h. there h ∙ ap (written ws n) (words_anywhere p x ss);
        bytes = λ h. rw t (sym (written_none ts x h));
      }
    where
      there : n + 7 * m ≤ length ws → vs ≡ written ws n (span_words p ss)
      there h =
          let l = length-words ss in
          let k = length-span-words p ss in
          let d : drop n mid ≡ words_of ss ++ drop (n + length (words_of ss)) ws = ap (drop n) r ∙ from-written ws n (words_of ss) (omega arith) in
          let s : spans_in m (drop n mid) ≡ ss = rw (d, e) (spans-back ss (drop (n + length (words_of ss)) ws)) in
          w ∙ rw (s, r) (written_over ws n (words_of ss) (span_words p ss) (omega arith) (omega arith))

pub set-few : (b : List ℕ) {m : ℕ} → Checks (spans (codes b)) (Ok m) → m ≤ length b
set-few b h = let e = h.count in let f = spans-few b in omega arith

module _ (b : List ℕ) (p n m x : ℕ) (ws mid vs ts : List ℕ) where
  pub set-stores : Checks (spans (codes b)) (Ok m) → (fault (spans (codes b)) ≡ none → mid ≡ written ws n (words_of (sorted (spans (codes b)))))
      → vs ≡ written mid n (span_words p (spans_in m (drop n mid)))
      → StoresSet b p (lent n ws x ts) (lent (n + 7 * m) vs x ts) (Ok m)
  set-stores h r w =
      let c = h.count ∙ sym (length-sorted (spans (codes b))) in
      (set-few b h, c, spread_stores p n m x (sorted (spans (codes b))) ws mid vs ts c (r (sym h.cause)) w)
