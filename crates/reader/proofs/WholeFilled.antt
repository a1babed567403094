-- The groups of the file with the names before the last one and a record behind: once each part is written at its place, all together is
-- the whole, over the front of what was lent.
-- Assumes nothing.
use Prim.Native.Nat.{ℕ, zero, suc, ◌+◌, ◌-◌, ◌≤◌, ◌<◌}
use native.Mathlib.Omega.{arith}
use native.Mathlib.Decide.{dec_lt}
use mathlib.Core.Path.{◌≡◌, refl, ap, sym, ◌∙◌}
use mathlib.Core.List.{List, [], ◌∷◌, ◌++◌}
use lib.ListN.{length, length-append, take, get_or, set, get_or-eq_default, length-set}
use lib.Seq.{take_all, get_or-set_same, get_or-set_other, ext_get_or}
use Rattle.characters.specs.Promise.{written}
use Rattle.characters.proofs.Written.{length-written}
use Rattle.tree.specs.Records.{Node, nodes, texts_of}
use Rattle.tree.specs.Syntax.{Declaration}
use Rattle.tree.proofs.Encoded.{texts-append}
use Rattle.notation.specs.Members.{Member, declaration, dialects, external_prop, detect_delim}
use Rattle.parser.specs.Storing.{flat}
use Rattle.reader.specs.Groups.{groups_of}
use Rattle.reader.specs.Places.{place_in, group_at, Holds, HoldsAll, Filled, sum, lined_up}
use Rattle.reader.specs.Directives.{member_kind, member_branches}
use Rattle.reader.specs.Whole.{stored_kinds, member_place}
use Rattle.reader.proofs.GroupSizes.{Nonzero}
use Rattle.reader.proofs.TopPlaces.{stored-distinct}
use Rattle.reader.proofs.Filling.{holds-first, holds-rest, holds-both, Put, written-holds, written-kept, written_behind, still-holds}
use Rattle.reader.proofs.GroupPlaces.{Coding, nodes-on, front_less, group_held, front-more, lined-at, lined-length, sum-suc, size-append, size_none, sum-part, sizes-are}

pub stored-positive : Nonzero stored_kinds
stored-positive =
    (omega arith, (omega arith, (omega arith, (omega arith, (omega arith, (omega arith, (omega arith, (omega arith, (omega arith, (omega arith, (omega arith, (omega arith, tt))))))))))))

-- what stands behind the groups has no records
pub none-behind : (ms : List (Member ℕ)) → group_at member_place member_branches 12 ms ≡ []
unfolding group_at place_in
none-behind [] = refl
none-behind (declaration (Declaration.top_rule r) ∷ ms) = none-behind ms
none-behind (declaration (Declaration.rule r) ∷ ms) = none-behind ms
none-behind (declaration (Declaration.tokens x) ∷ ms) = none-behind ms
none-behind (declaration (Declaration.local_tokens x) ∷ ms) = none-behind ms
none-behind (declaration (Declaration.context x) ∷ ms) = none-behind ms
none-behind (declaration (Declaration.external_tokens x) ∷ ms) = none-behind ms
none-behind (declaration (Declaration.external_specializer x) ∷ ms) = none-behind ms
none-behind (declaration (Declaration.external_prop_source x) ∷ ms) = none-behind ms
none-behind (declaration (Declaration.precedences x) ∷ ms) = none-behind ms
none-behind (declaration (Declaration.main_skip e) ∷ ms) = none-behind ms
none-behind (declaration (Declaration.scoped_skip x) ∷ ms) = none-behind ms
none-behind (dialects ns ∷ ms) = none-behind ms
none-behind (external_prop x ∷ ms) = none-behind ms
none-behind (detect_delim ∷ ms) = none-behind ms

-- ------------------------------------------------------------------ what is stored of nodes

module _ (c : Coding) where
  -- nothing is held anywhere
  holds-nothing : {whole : List ℕ} {at from : ℕ} {xs : List Node} → xs ≡ [] → at ≤ length whole → Holds whole at (c.code from xs)
  holds-nothing {whole} {at} {from} {xs} e h =
      let l = c.sized from xs in
      let n = ap c.size e ∙ size_none c in
      record { within = omega arith; is = λ i q. absurd (omega arith) }

  -- nodes and more
  module _ (a b : List Node) {n z : ℕ} (e : n ≡ c.size a) (f : z ≡ length (texts_of a)) where
    at-is : n ≡ 0 + length (c.code 0 a)
    at-is = let s = c.sized 0 a in omega arith

    from_is : z ≡ 0 + length (texts_of a)
    from_is = omega arith

    holds-split : {whole : List ℕ} → Holds whole 0 (c.code 0 (a ++ b)) → Holds whole 0 (c.code 0 a) × Holds whole n (c.code z b)
    holds-split {whole} h =
        let q : Holds whole 0 (c.code 0 a ++ c.code (0 + length (texts_of a)) b) = rw (c.more 0 a b) at h in
        (holds-first (c.code 0 a) _ q, rw (at-is, from_is) (holds-rest (c.code 0 a) _ q))

    holds_join : {whole : List ℕ} → Holds whole 0 (c.code 0 a) → Holds whole n (c.code z b) → Holds whole 0 (c.code 0 (a ++ b))
    holds_join {whole} h k =
        let q : Holds whole (0 + length (c.code 0 a)) (c.code (0 + length (texts_of a)) b) = rw (at-is, from_is) at k in
        rw (c.more 0 a b) (holds-both (c.code 0 a) _ h q)

-- ------------------------------------------------------------------ sizes and places

abbrev pub stored_before : List (Member ℕ) → ℕ → List Node
stored_before ms i = flat nodes (groups_of member_kind member_branches (take i stored_kinds) ms)

abbrev pub group_of : List (Member ℕ) → ℕ → List Node
group_of ms g = flat nodes (group_at member_place member_branches g ms)

behind-none : (ms : List (Member ℕ)) → group_of ms 12 ≡ []
unfolding flat
behind-none ms = ap (flat nodes) (none-behind ms)

first-none : (ms : List (Member ℕ)) → stored_before ms 0 ≡ []
unfolding flat groups_of
first-none ms = refl

first_on : (ms : List (Member ℕ)) (i : ℕ) → i < 12 → stored_before ms (suc i) ≡ stored_before ms i ++ group_of ms i
first_on ms i l = nodes-on member_kind member_branches stored_kinds stored-distinct stored-positive i l ms

module _ (c : Coding) (ms : List (Member ℕ)) (xs : List ℕ) (all : length xs ≡ 13) (are : (g : ℕ) → g < 13 → get_or xs g 0 ≡ c.size (group_of ms g)) where
  sums_are : (i : ℕ) → i ≤ 12 → sum (take i xs) ≡ c.size (stored_before ms i)
  sums_are i h = sizes-are c (stored_before ms) (group_of ms) 12 (first-none ms) (first_on ms) xs (omega arith) (λ g b. are g (omega arith)) i h

  -- all of them together
  pub sum_is : sum xs ≡ c.size (stored_before ms 12)
  sum_is =
      let a = sums_are 12 (omega arith) in
      let b = sum-suc xs 12 (omega arith) in
      let d = are 12 (omega arith) in
      let e = ap c.size (behind-none ms) ∙ size_none c in
      let f = ap sum (take_all 13 xs (omega arith)) in
      omega arith

  module _ {ys : List ℕ} (lined : ys ≡ lined_up 0 xs) where
    lined-all : length ys ≡ 13
    lined-all = ap length lined ∙ lined-length 0 xs ∙ all

    pub lined-is : (g : ℕ) → g ≤ 12 → get_or ys g 0 ≡ c.size (stored_before ms g)
    lined-is g h = let a = ap (λ (l : List ℕ). get_or l g 0) lined ∙ lined-at 0 xs g (omega arith) in let b = sums_are g h in omega arith

    -- the last group begins behind the names
    module _ (k : ℕ) where
      pub places_all : length (set ys 11 k) ≡ 13
      places_all = length-set ys 11 k ∙ lined-all

      pub place-first : (g : ℕ) → g < 11 → get_or (set ys 11 k) g 0 ≡ c.size (stored_before ms g)
      place-first g h = get_or-set_other ys 11 g k 0 (λ e. omega arith) ∙ lined-is g (omega arith)

      pub place_eleven : get_or (set ys 11 k) 11 0 ≡ k
      place_eleven = let a = lined-all in get_or-set_same ys 11 k 0 (omega arith)

      place_twelve : get_or (set ys 11 k) 12 0 ≡ c.size (stored_before ms 12)
      place_twelve = get_or-set_other ys 11 12 k 0 (λ e. omega arith) ∙ lined-is 12 (omega arith)

      pub place-behind : (names own : List Node) → get_or (set ys 11 k) 12 0 ≤ c.size (stored_before ms 11 ++ names ++ group_of ms 11 ++ own)
      place-behind names own =
          let a = place_twelve in
          let b = ap c.size (first_on ms 11 (omega arith)) ∙ size-append c (stored_before ms 11) (group_of ms 11) in
          let d = size-append c (stored_before ms 11 ++ names ++ group_of ms 11) own in
          let f = size-append c (stored_before ms 11 ++ names) (group_of ms 11) in
          let g = size-append c (stored_before ms 11) names in
          omega arith

      pub places_few : (most : ℕ) → sum xs ≤ most → k ≤ most → (g : ℕ) → get_or (set ys 11 k) g 0 ≤ most
      places_few most s l g = go (dec_lt g 11) (dec_lt g 12) (dec_lt g 13)
        where
          go : Dec (g < 11) → Dec (g < 12) → Dec (g < 13) → get_or (set ys 11 k) g 0 ≤ most
          go (yes a) b d = let p = place-first g a in let q = sums_are g (omega arith) in let r = sum-part xs g in omega arith
          go (no a) (yes b) d = let e : g ≡ 11 = omega arith in let p = ap (λ (i : ℕ). get_or (set ys 11 k) i 0) e ∙ place_eleven in omega arith
          go (no a) (no b) (yes d) = let e : g ≡ 12 = omega arith in let p = ap (λ (i : ℕ). get_or (set ys 11 k) i 0) e ∙ place_twelve in let q = sum_is in omega arith
          go (no a) (no b) (no d) = let n = places_all in let p = get_or-eq_default (set ys 11 k) 0 {n = g} (omega arith) in omega arith

-- ------------------------------------------------------------------ the whole

module _ (c : Coding) (ms : List (Member ℕ)) (names own : List Node) where
  abbrev pub every : List Node
  every = stored_before ms 11 ++ names ++ group_of ms 11 ++ own

  -- where the names, the last group and the record behind it begin, in the list and in the bytes
  module _ {m k i y x w : ℕ} (em : m ≡ c.size (stored_before ms 11)) (ey : y ≡ length (texts_of (stored_before ms 11))) (ek : k ≡ m + c.size names) (ex : x ≡ y + length (texts_of names))
      (ei : i ≡ k + c.size (group_of ms 11)) (ew : w ≡ x + length (texts_of (group_of ms 11))) where
    texts-length : (a b : List Node) → length (texts_of (a ++ b)) ≡ length (texts_of a) + length (texts_of b)
    texts-length a b = ap length (texts-append a b) ∙ length-append (texts_of a) (texts_of b)

    last-at : k ≡ c.size (stored_before ms 11 ++ names)
    last-at = let a = size-append c (stored_before ms 11) names in omega arith

    last-from : x ≡ length (texts_of (stored_before ms 11 ++ names))
    last-from = let a = texts-length (stored_before ms 11) names in omega arith

    own_at : i ≡ c.size (stored_before ms 11 ++ names ++ group_of ms 11)
    own_at = let a = size-append c (stored_before ms 11 ++ names) (group_of ms 11) in let b = last-at in omega arith

    own-from : w ≡ length (texts_of (stored_before ms 11 ++ names ++ group_of ms 11))
    own-from = let a = texts-length (stored_before ms 11 ++ names) (group_of ms 11) in let b = last-from in omega arith

    -- the parts of the whole
    record Parts (whole : List ℕ) : Type 0 where
      front : Holds whole 0 (c.code 0 (stored_before ms 11))
      naming : Holds whole m (c.code y names)
      last : Holds whole k (c.code x (group_of ms 11))
      behind : Holds whole i (c.code w own)

    parts-of : {whole : List ℕ} → Holds whole 0 (c.code 0 every) → Parts whole
    parts-of h =
        let a = holds-split c (stored_before ms 11 ++ names ++ group_of ms 11) own own_at own-from h in
        let b = holds-split c (stored_before ms 11 ++ names) (group_of ms 11) last-at last-from a.0 in
        let d = holds-split c (stored_before ms 11) names em ey b.0 in
        record { front = d.0; naming = d.1; last = b.1; behind = a.1 }

    whole_of : {whole : List ℕ} → Parts whole → Holds whole 0 (c.code 0 every)
    whole_of p =
        holds_join c (stored_before ms 11 ++ names ++ group_of ms 11) own own_at own-from
        (holds_join c (stored_before ms 11 ++ names) (group_of ms 11) last-at last-from (holds_join c (stored_before ms 11) names em ey p.front p.naming) p.last) p.behind

    module _ (ps qs : List ℕ) (firsts : (g : ℕ) → g < 11 → get_or ps g 0 ≡ c.size (stored_before ms g)) (froms : (g : ℕ) → g < 11 → get_or qs g 0 ≡ length (texts_of (stored_before ms g)))
        (eleven : get_or ps 11 0 ≡ k) (eleven-from : get_or qs 11 0 ≡ x) (twelve : get_or ps 12 0 ≤ c.size every) where
      place_is : (g : ℕ) → g < 11 → get_or ps g 0 ≡ 0 + c.size (stored_before ms g)
      place_is g l = let a = firsts g l in omega arith

      from_place_lem : (g : ℕ) → g < 11 → get_or qs g 0 ≡ 0 + length (texts_of (stored_before ms g))
      from_place_lem g l = let a = froms g l in omega arith

      -- the whole holds each group
      groups-of : {whole : List ℕ} → Holds whole 0 (c.code 0 every) → HoldsAll whole 13 ps (λ g. c.code (get_or qs g 0) (group_of ms g))
      groups-of {whole} h g l = go (dec_lt g 11) (dec_lt g 12)
        where
          p : Parts whole
          p = parts-of h

          eleven_is : (n : ℕ) → n ≡ 11 → Holds whole 0 (c.code 0 (stored_before ms n))
          eleven_is n e = rw e p.front

          go : Dec (g < 11) → Dec (g < 12) → Holds whole (get_or ps g 0) (c.code (get_or qs g 0) (group_of ms g))
          go (yes a) b =
              let f = front_less c (stored_before ms) (group_of ms) 12 (first-none ms) (first_on ms) 0 0 whole (10 - g) (suc g) (omega arith) (eleven_is (suc g + (10 - g)) (omega arith)) in
              let t = group_held c (stored_before ms) (group_of ms) 12 (first-none ms) (first_on ms) 0 0 whole g (omega arith) f in
              rw (place_is g a, from_place_lem g a) t
          go (no a) (yes b) = let e : g ≡ 11 = omega arith in rw (e, eleven, eleven-from) p.last
          go (no a) (no b) =
              let e : g ≡ 12 = omega arith in
              let w = h.within in
              let s = c.sized 0 every in
              rw e (holds-nothing c (behind-none ms) (omega arith))

      module _ {ws vs vs₂ vs₃ : List ℕ} (fit : c.size every ≤ length ws) (d : Put ws vs m (c.code y names)) (f : Filled 13 ps (λ g. c.code (get_or qs g 0) (group_of ms g)) vs vs₂) (o : Put vs₂ vs₃ i (c.code w own)) where
        abbrev whole : List ℕ
        whole = written ws 0 (c.code 0 every)

        whole-put : Put ws whole 0 (c.code 0 every)
        whole-put = record { same = length-written ws 0 (c.code 0 every); put = λ h. refl }

        whole-fits : 0 + length (c.code 0 every) ≤ length ws
        whole-fits = let s = c.sized 0 every in omega arith

        whole-holds : Holds whole 0 (c.code 0 every)
        whole-holds = written-holds whole-put whole-fits

        ps-of : Parts whole
        ps-of = parts-of whole-holds

        names_fit : m + length (c.code y names) ≤ length ws
        names_fit = let a = ps-of.naming.within in let b = whole-put.same in omega arith

        same_whole : length whole ≡ length vs
        same_whole = let a = whole-put.same in let b = d.same in omega arith

        own_fit : i + length (c.code w own) ≤ length vs₂
        own_fit = let a = ps-of.behind.within in let b = same_whole in let e = f.same in omega arith

        groups-held : HoldsAll whole 13 ps (λ g. c.code (get_or qs g 0) (group_of ms g))
        groups-held = groups-of whole-holds

        -- what agrees with the whole once the names are stored still does at the end
        kept_on : (j : ℕ) → get_or vs j 0 ≡ get_or whole j 0 → get_or vs₃ j 0 ≡ get_or whole j 0
        kept_on j q = written-kept o own_fit ps-of.behind j (f.kept whole same_whole groups-held j q)

        filled_on : (g : ℕ) → g < 13 → Holds vs₃ (get_or ps g 0) (c.code (get_or qs g 0) (group_of ms g))
        filled_on g l = still-holds o own_fit ps-of.behind (groups-held g l) (f.filled whole same_whole groups-held g l)

        same_end : length vs₃ ≡ length whole
        same_end = let a = same_whole in let b = f.same in let e = o.same in omega arith

        fronts : (j : ℕ) → j ≤ 11 → Holds vs₃ 0 (c.code 0 (stored_before ms j))
        fronts zero h = holds-nothing c (first-none ms) (omega arith)
        fronts (suc j) h =
            let t : Holds vs₃ (0 + c.size (stored_before ms j)) (c.code (0 + length (texts_of (stored_before ms j))) (group_of ms j)) = rw (place_is j (omega arith), from_place_lem j (omega arith)) at (filled_on j (omega arith)) in
            front-more c (stored_before ms) (group_of ms) 12 (first-none ms) (first_on ms) 0 0 vs₃ j (omega arith) (fronts j (omega arith)) t

        named-on : Holds vs₃ m (c.code y names)
        named-on =
            let a = ps-of.naming.within in
            let b = same_end in
            let n = written-holds d names_fit in
            record { within = omega arith; is = λ j q. kept_on (m + j) (n.is j q ∙ sym (ps-of.naming.is j q)) ∙ ps-of.naming.is j q }

        ended : Holds vs₃ 0 (c.code 0 every)
        ended =
            let l : Holds vs₃ k (c.code x (group_of ms 11)) = rw (eleven, eleven-from) at (filled_on 11 (omega arith)) in
            whole_of (record { front = fronts 11 (omega arith); naming = named-on; last = l; behind = written-holds o own_fit })

        pub all-written : vs₃ ≡ written ws 0 (c.code 0 every)
        all-written = ext_get_or 0 vs₃ whole same_end (λ j q. go j (dec_lt j (length (c.code 0 every))))
          where
            go : (j : ℕ) → Dec (j < length (c.code 0 every)) → get_or vs₃ j 0 ≡ get_or whole j 0
            go j (yes a) =
                let e : j ≡ 0 + j = omega arith in
                ap (λ (n : ℕ). get_or vs₃ n 0) e ∙ ended.is j a ∙ sym (whole-holds.is j a) ∙ ap (λ (n : ℕ). get_or whole n 0) (sym e)
            go j (no a) = kept_on j (written-kept d names_fit ps-of.naming j (sym (written_behind whole-put whole-fits j (omega arith))))
