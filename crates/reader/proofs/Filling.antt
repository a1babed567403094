-- Parts that are filled in, each from its place on. What is written is always what the whole holds there, so nothing that agrees with it is lost.
-- Assumes nothing.
use Prim.Native.Nat.{ℕ, ◌+◌, ◌-◌, ◌*◌, ◌≤◌, ◌<◌}
use native.Mathlib.Omega.{arith}
use native.Mathlib.Decide.{dec_lt}
use mathlib.Core.Path.{◌≡◌, refl, ap, sym, ◌∙◌}
use mathlib.Core.Bool.{Bool, true, false}
use mathlib.Core.List.{List, [], ◌∷◌, ◌++◌, append_assoc, append-nil}
use lib.Dec.{T, eqb, eqb→eq, eqb_refl}
use lib.ListN.{length, length-append, length-set, take, drop, get_or, set, get_or-append}
use lib.Seq.{length-take-le, get_or-append-add, get_or-take, get_or-drop, get_or-set_same, get_or-set_other}
use Rattle.basics.specs.Basics.{if◌then◌otherwise◌}
use Rattle.characters.specs.Promise.{written}
use Rattle.characters.proofs.Written.{written_in}
use Rattle.tree.specs.Records.{Branch, Node, nodes, width, records_from, words, texts_of}
use Rattle.tree.proofs.Encoded.{records-append, texts-append}
use Rattle.parser.specs.Storing.{lent, Stores, flat}
use Rattle.parser.proofs.Lists.{flat_append, flat-none}
use Rattle.parser.proofs.Stored.{words-length, words_append}
use Rattle.reader.specs.Places.{Holds, HoldsAll, Filled, group_at, Fills}

-- ------------------------------------------------------------------ the words of records

-- ------------------------------------------------------------------ parts of a list

-- an index behind a place is the place and some more
beyond : (c i : ℕ) → c ≤ i → i ≡ c + (i - c)
beyond c i h = omega arith

get_d_behind : (xs ys : List ℕ) (i : ℕ) → length xs ≤ i → get_or (xs ++ ys) i 0 ≡ get_or ys (i - length xs) 0
get_d_behind xs ys i h = ap (λ (k : ℕ). get_or (xs ++ ys) k 0) (beyond (length xs) i h) ∙ get_or-append-add xs ys (i - length xs) 0

module _ {whole : List ℕ} {at : ℕ} (a b : List ℕ) where
  pub holds-first : Holds whole at (a ++ b) → Holds whole at a
  holds-first h =
      let l = length-append a b in
      let w = h.within in
      record { within = omega arith; is = λ i p. h.is i (omega arith) ∙ get_or-append a b 0 i p }

  pub holds-rest : Holds whole at (a ++ b) → Holds whole (at + length a) b
  holds-rest h =
      let l = length-append a b in
      let w = h.within in
      record {
        within = omega arith;
        is = λ i p.
            let e : at + length a + i ≡ at + (length a + i) = omega arith in
            ap (λ (k : ℕ). get_or whole k 0) e ∙ h.is (length a + i) (omega arith) ∙ get_or-append-add a b i 0;
      }

  pub holds-both : Holds whole at a → Holds whole (at + length a) b → Holds whole at (a ++ b)
  holds-both h k =
      let l = length-append a b in
      let w = k.within in
      record { within = omega arith; is = λ i p. go i p (dec_lt i (length a)) }
    where
      go : (i : ℕ) → i < length (a ++ b) → Dec (i < length a) → get_or whole (at + i) 0 ≡ get_or (a ++ b) i 0
      go i p (yes q) = h.is i q ∙ sym (get_or-append a b 0 i q)
      go i p (no q) =
          let l = length-append a b in
          let e : at + i ≡ at + length a + (i - length a) = omega arith in
          ap (λ (k : ℕ). get_or whole k 0) e ∙ k.is (i - length a) (omega arith) ∙ sym (get_d_behind a b i (omega arith))

-- ------------------------------------------------------------------ what is written

-- a part is written from a place on, where there is room for it
pub record Put (before after : List ℕ) (c : ℕ) (part : List ℕ) : Type 0 where
  pub same : length after ≡ length before
  pub put : c + length part ≤ length before → after ≡ written before c part

module _ {before after : List ℕ} {c : ℕ} {part : List ℕ} (p : Put before after c part) (f : c + length part ≤ length before) where
  is-written : after ≡ take c before ++ (part ++ drop (c + length part) before)
  is-written = p.put f ∙ written_in before c part f ∙ append_assoc (take c before) part (drop (c + length part) before)

  front : length (take c before) ≡ c
  front = length-take-le c before (omega arith)

  written_at : (i : ℕ) → i < length part → get_or after (c + i) 0 ≡ get_or part i 0
  written_at i q =
      let l = front in
      let n : c + i ≡ length (take c before) + i = omega arith in
      ap (λ (l : List ℕ). get_or l (c + i) 0) is-written ∙ ap (λ (k : ℕ). get_or (take c before ++ (part ++ drop (c + length part) before)) k 0) n
      ∙ get_or-append-add (take c before) (part ++ drop (c + length part) before) i 0 ∙ get_or-append part (drop (c + length part) before) 0 i q

  pub written-before : (i : ℕ) → i < c → get_or after i 0 ≡ get_or before i 0
  written-before i q =
      let l = front in
      ap (λ (l : List ℕ). get_or l i 0) is-written
      ∙ get_or-append (take c before) (part ++ drop (c + length part) before) 0 i (omega arith) ∙ get_or-take c before i 0 q

  pub written_behind : (i : ℕ) → c + length part ≤ i → get_or after i 0 ≡ get_or before i 0
  written_behind i q =
      let l = front in
      let n : c + length part + (i - length (take c before) - length part) ≡ i = omega arith in
      ap (λ (l : List ℕ). get_or l i 0) is-written
      ∙ get_d_behind (take c before) (part ++ drop (c + length part) before) i (omega arith)
      ∙ get_d_behind part (drop (c + length part) before) (i - length (take c before)) (omega arith)
      ∙ get_or-drop (c + length part) before (i - length (take c before) - length part) 0
      ∙ ap (λ (k : ℕ). get_or before k 0) n

  -- it stands there
  pub written-holds : Holds after c part
  written-holds = let l = p.same in record { within = omega arith; is = written_at }

  module _ {whole : List ℕ} (h : Holds whole c part) where
    -- where it is what the whole holds there, what agreed with the whole still does
    pub written-kept : (i : ℕ) → get_or before i 0 ≡ get_or whole i 0 → get_or after i 0 ≡ get_or whole i 0
    written-kept i q = go (dec_lt i c) (dec_lt i (c + length part))
      where
        go : Dec (i < c) → Dec (i < c + length part) → get_or after i 0 ≡ get_or whole i 0
        go (yes a) b = written-before i a ∙ q
        go (no a) (yes b) =
            let n : i ≡ c + (i - c) = omega arith in
            ap (λ (k : ℕ). get_or after k 0) n ∙ written_at (i - c) (omega arith) ∙ sym (h.is (i - c) (omega arith)) ∙ ap (λ (k : ℕ). get_or whole k 0) (sym n)
        go (no a) (no b) = written_behind i (omega arith) ∙ q

    -- and so do parts of the whole that stand there
    pub still-holds : {at : ℕ} {other : List ℕ} → Holds whole at other → Holds before at other → Holds after at other
    still-holds {at} {other} k b =
        let w = b.within in
        let l = p.same in
        record { within = omega arith; is = λ i q. written-kept (at + i) (b.is i q ∙ sym (k.is i q)) ∙ k.is i q }

module _ {xs : List Node} {n x m y : ℕ} {ws ts vs us : List ℕ} (st : Stores xs (lent n ws x ts) (lent m vs y us)) where
  pub put-words : Put ws vs n (words (records_from x xs))
  put-words = let l = words-length x xs in let e = st.words-end in record { same = st.same-words; put = λ h. st.records (omega arith) }

  pub put-texts : Put ts us x (texts_of xs)
  put-texts = let e = st.texts-end in record { same = st.same-texts; put = λ h. st.bytes (omega arith) }

-- ------------------------------------------------------------------ one part more

-- behind the part of a group, more of it
module _ {count : ℕ} {places : List ℕ} {part : ℕ → List ℕ} {before mid after : List ℕ} (f : Filled count places part before mid)
    {g c : ℕ} {new : List ℕ} (p : Put mid after c new) (l : g < count) (e : c ≡ get_or places g 0 + length (part g)) where
  pub filled_more : (next : ℕ → List ℕ) → ((h : ℕ) → next h ≡ part h ++ (if eqb g h then new otherwise [])) → Filled count places next before after
  filled_more next n =
      record {
        same = p.same ∙ f.same;
        kept = λ whole w all i q. written-kept p (fits whole w all) (new_in whole all) i (f.kept whole w (old_in whole all) i q);
        filled = λ whole w all h q.
            let o = still-holds p (fits whole w all) (new_in whole all) (old_in whole all h q) (f.filled whole w (old_in whole all) h q) in
            rw (n h) (both h (eqb g h) refl o (written-holds p (fits whole w all)));
      }
    where
      old_in : (whole : List ℕ) → HoldsAll whole count places next → HoldsAll whole count places part
      old_in whole all h q = let a : Holds whole (get_or places h 0) (part h ++ (if eqb g h then new otherwise [])) = rw (n h) at (all h q) in holds-first (part h) _ a

      same_group : (b : Bool) → eqb g g ≡ b → (if b then new otherwise []) ≡ new
      same_group true q = refl
      same_group false q = absurd (let z = eqb_refl g in rw q at z)

      new_in : (whole : List ℕ) → HoldsAll whole count places next → Holds whole c new
      new_in whole all =
          let a : Holds whole (get_or places g 0) (part g ++ (if eqb g g then new otherwise [])) = rw (n g) at (all g l) in
          let b : Holds whole (get_or places g 0 + length (part g)) (if eqb g g then new otherwise []) = holds-rest (part g) _ a in
          rw (e, ← same_group (eqb g g) refl) b

      fits : (whole : List ℕ) → length whole ≡ length before → HoldsAll whole count places next → c + length new ≤ length mid
      fits whole w all = let a = (new_in whole all).within in let b = f.same in omega arith

      both : (h : ℕ) (b : Bool) → eqb g h ≡ b → Holds after (get_or places h 0) (part h) → Holds after c new → Holds after (get_or places h 0) (part h ++ (if b then new otherwise []))
      both h true q o w =
          let z : g ≡ h = eqb→eq g h (rw q tt) in
          let y : Holds after (get_or places h 0 + length (part h)) new = rw (← z, ← e) w in
          holds-both (part h) new o y
      both h false q o w = rw append-nil o

-- ------------------------------------------------------------------ one member more

module _ {M : Type 0} (place : M → ℕ) (branches : M → List Branch) where
  pub group_snoc : (g : ℕ) (ms : List M) (m : M) → group_at place branches g (ms ++ m ∷ []) ≡ group_at place branches g ms ++ (if eqb (place m) g then branches m otherwise [])
  unfolding group_at
  group_snoc g [] m = append-nil (if eqb (place m) g then branches m otherwise [])
  group_snoc g (n ∷ ms) m =
      rw (group_snoc g ms m) (sym (append_assoc (if eqb (place n) g then branches n otherwise []) (group_at place branches g ms) (if eqb (place m) g then branches m otherwise [])))

  -- nothing yet
  pub fills-none : (count : ℕ) (ps qs ws ts : List ℕ) → Fills place branches count [] ps qs ps qs ws ts ws ts
  unfolding group_at flat words records_from texts_of
  fills-none count ps qs ws ts =
      record {
        same_places = refl;
        same_bytes = refl;
        words-on = λ g l. omega arith;
        bytes_on = λ g l. omega arith;
        records = record { same = refl; kept = λ whole w all i q. q; filled = λ whole w all g l. nothing ws w (all g l) };
        texts = record { same = refl; kept = λ whole w all i q. q; filled = λ whole w all g l. nothing ts w (all g l) };
      }
    where
      nothing : (l : List ℕ) {whole : List ℕ} {at : ℕ} → length whole ≡ length l → Holds whole at [] → Holds l at []
      nothing l w h = let z = h.within in record { within = omega arith; is = λ i q. absurd (omega arith) }

  module _ {count : ℕ} {ms : List M} {ps qs ps₁ qs₁ ws ts vs us : List ℕ} (f : Fills place branches count ms ps qs ps₁ qs₁ ws ts vs us)
      {m : M} (l : place m < count) (lp : count ≤ length ps) (lq : count ≤ length qs) where
    -- what a group has more
    more_of : (g : ℕ) (b : Bool) → eqb (place m) g ≡ b → flat nodes (group_at place branches g ms ++ (if b then branches m otherwise [])) ≡ flat nodes (group_at place branches g ms) ++ (if b then flat nodes (branches m) otherwise [])
    more_of g true q = flat_append nodes (group_at place branches g ms) (branches m)
    more_of g false q = flat_append nodes (group_at place branches g ms) [] ∙ rw (flat-none nodes)

    group_more : (g : ℕ) → flat nodes (group_at place branches g (ms ++ m ∷ [])) ≡ flat nodes (group_at place branches g ms) ++ (if eqb (place m) g then flat nodes (branches m) otherwise [])
    group_more g = rw (group_snoc g ms m) (more_of g (eqb (place m) g) refl)

    words_more : (g : ℕ) → words (records_from (get_or qs g 0) (flat nodes (group_at place branches g (ms ++ m ∷ []))))
        ≡ words (records_from (get_or qs g 0) (flat nodes (group_at place branches g ms))) ++ (if eqb (place m) g then words (records_from (get_or qs₁ (place m) 0) (flat nodes (branches m))) otherwise [])
    words_more g = rw (group_more g) (go (eqb (place m) g) refl)
      where
        go : (b : Bool) → eqb (place m) g ≡ b → words (records_from (get_or qs g 0) (flat nodes (group_at place branches g ms) ++ (if b then flat nodes (branches m) otherwise [])))
            ≡ words (records_from (get_or qs g 0) (flat nodes (group_at place branches g ms))) ++ (if b then words (records_from (get_or qs₁ (place m) 0) (flat nodes (branches m))) otherwise [])
        go true q =
            let z : place m ≡ g = eqb→eq (place m) g (rw q tt) in
            let y : get_or qs₁ (place m) 0 ≡ get_or qs g 0 + length (texts_of (flat nodes (group_at place branches g ms))) = rw z (f.bytes_on g (rw z at l)) in
            ap words (records-append (get_or qs g 0) (flat nodes (group_at place branches g ms)) (flat nodes (branches m)))
            ∙ words_append (records_from (get_or qs g 0) (flat nodes (group_at place branches g ms))) (records_from (get_or qs g 0 + length (texts_of (flat nodes (group_at place branches g ms)))) (flat nodes (branches m)))
            ∙ rw y
        go false q = rw (append-nil, append-nil)

    texts-more : (g : ℕ) → texts_of (flat nodes (group_at place branches g (ms ++ m ∷ [])))
        ≡ texts_of (flat nodes (group_at place branches g ms)) ++ (if eqb (place m) g then texts_of (flat nodes (branches m)) otherwise [])
    texts-more g = rw (group_more g) (go (eqb (place m) g))
      where
        go : (b : Bool) → texts_of (flat nodes (group_at place branches g ms) ++ (if b then flat nodes (branches m) otherwise []))
            ≡ texts_of (flat nodes (group_at place branches g ms)) ++ (if b then texts_of (flat nodes (branches m)) otherwise [])
        go true = texts-append (flat nodes (group_at place branches g ms)) (flat nodes (branches m))
        go false = rw (append-nil, append-nil)

    -- a place moves on
    place-on : (size : List Node → ℕ) → ((a b : List Node) → size (a ++ b) ≡ size a + size b) → (rs rs₁ : List ℕ) {k : ℕ} {rs₂ : List ℕ} → length rs₁ ≡ length rs → count ≤ length rs
        → ((g : ℕ) → g < count → get_or rs₁ g 0 ≡ get_or rs g 0 + size (flat nodes (group_at place branches g ms))) → k ≡ get_or rs₁ (place m) 0 + size (flat nodes (branches m)) → rs₂ ≡ set rs₁ (place m) k
        → (g : ℕ) → g < count → get_or rs₂ g 0 ≡ get_or rs g 0 + size (flat nodes (group_at place branches g (ms ++ m ∷ [])))
    place-on size add rs rs₁ {k} {rs₂} s c on e d g q = rw (group_more g, d) (go (eqb (place m) g) refl)
      where
        go : (b : Bool) → eqb (place m) g ≡ b → get_or (set rs₁ (place m) k) g 0 ≡ get_or rs g 0 + size (flat nodes (group_at place branches g ms) ++ (if b then flat nodes (branches m) otherwise []))
        go true h =
            let z : place m ≡ g = eqb→eq (place m) g (rw h tt) in
            let a = add (flat nodes (group_at place branches g ms)) (flat nodes (branches m)) in
            let b : get_or (set rs₁ (place m) k) (place m) 0 ≡ k = get_or-set_same rs₁ (place m) k 0 (omega arith) in
            let o = on g q in
            let y : get_or (set rs₁ (place m) k) g 0 ≡ k = sym (ap (λ (i : ℕ). get_or (set rs₁ (place m) k) i 0) z) ∙ b in
            let w : k ≡ get_or rs₁ g 0 + size (flat nodes (branches m)) = rw z at e in
            omega arith
        go false h = rw append-nil (get_or-set_other rs₁ (place m) g k 0 no_eq ∙ on g q)
          where
            no_eq : g ≡ place m → ⊥
            no_eq z = let y = eqb_refl g in let x : T (eqb (place m) g) = rw (← z) y in rw h at x

    pub fills-more : {n x : ℕ} {ps₂ qs₂ vs₂ us₂ : List ℕ} → Stores (flat nodes (branches m)) (lent (get_or ps₁ (place m) 0) vs (get_or qs₁ (place m) 0) us) (lent n vs₂ x us₂)
        → ps₂ ≡ set ps₁ (place m) n → qs₂ ≡ set qs₁ (place m) x → Fills place branches count (ms ++ m ∷ []) ps qs ps₂ qs₂ ws ts vs₂ us₂
    fills-more {n} {x} st d e =
        record {
          same_places = rw d (length-set ps₁ (place m) n ∙ f.same_places);
          same_bytes = rw e (length-set qs₁ (place m) x ∙ f.same_bytes);
          words-on = place-on (λ l. width * length l) (λ a b. let l = length-append a b in omega arith) ps ps₁ f.same_places lp f.words-on st.words-end d;
          bytes_on = place-on (λ l. length (texts_of l)) (λ a b. ap length (texts-append a b) ∙ length-append (texts_of a) (texts_of b)) qs qs₁ f.same_bytes lq f.bytes_on st.texts-end e;
          records = filled_more f.records (put-words st) l (f.words-on (place m) l ∙ rw (words-length)) _ words_more;
          texts = filled_more f.texts (put-texts st) l (f.bytes_on (place m) l) _ texts-more;
        }
