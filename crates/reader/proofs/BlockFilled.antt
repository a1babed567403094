-- The members of a block, in its groups: measured in a first pass, and stored in a second.
-- Assumes nothing.
use Prim.Native.Nat.{ℕ, zero, suc, ◌+◌, ◌*◌, ◌≤◌, ◌<◌, ◌^◌}
use native.Mathlib.Omega.{arith}
use native.Mathlib.Decide.{dec_lt}
use mathlib.Core.Path.{◌≡◌, refl, ap, sym, ◌∙◌}
use mathlib.Core.Bool.{Bool, true, false}
use mathlib.Core.List.{List, [], ◌∷◌, ◌++◌, append-nil}
use lib.Dec.{eqb, eqb→eq}
use lib.ListN.{length, take, get_or, get_or-eq_default, set}
use lib.Seq.{take_all, get_or-set_same}
use Rattle.basics.specs.Basics.{if◌then◌otherwise◌}
use Rattle.tree.specs.Records.{Node, nodes, width, texts_of}
use Rattle.notation.specs.Members.{TokenMember, LocalMember, SkipMember, ExternalMember}
use Rattle.tokens.specs.Promise.{stream, LiesIn}
use Rattle.parser.specs.Storing.{lent, Stores, flat}
use Rattle.lexer.specs.declared.Token.{Token}
use Rattle.parser.proofs.Onward.{placed_in}
use Rattle.reader.specs.Groups.{groups_of, Gathers}
use Rattle.reader.specs.Places.{place_in, group_at, Fills, sum, lined_up, Blank, Begins}
use Rattle.reader.specs.Blocks.{MemberOf, members_of, kind_of, branches_of, kinds_of, place_of, block_count, Spreads, FirstIs, Roomy}
use Rattle.reader.specs.declared.blocks.Block.{Block}
use Rattle.reader.specs.declared.blocks.Block.TheVariants.{Tokens, LocalTokens, ExternalTokens, Specializer, Skip}
use Rattle.reader.proofs.GroupSizes.{number, nodes-of, bytes_of, block_weighs, kinds_nonzero, kinds-few}
use Rattle.reader.proofs.Gathered.{together}
use Rattle.reader.proofs.BlockGathered.{stores-sizes, stores-again}
use Rattle.reader.proofs.PlaceLaws.{Distinct}
use Rattle.reader.proofs.GroupPlaces.{in_words, in_bytes, nodes-on, lined-at, lined-length, sum-part, sizes-are, lined-are}
use Rattle.reader.proofs.GroupFilled.{groups-written}

-- ------------------------------------------------------------------ the groups of a block

kinds-distinct : (b : Block) → Distinct (kinds_of b)
kinds-distinct Tokens = ((refl, (refl, (refl, tt))), ((refl, (refl, tt)), ((refl, tt), (tt, tt))))
kinds-distinct LocalTokens = ((refl, (refl, tt)), ((refl, tt), (tt, tt)))
kinds-distinct ExternalTokens = ((refl, tt), (tt, tt))
kinds-distinct Specializer = (tt, tt)
kinds-distinct Skip = ((refl, tt), (tt, tt))

-- a member stands in one of them, or has no branches
data Stands (b : Block) (m : MemberOf b) : Type 0 where
  in_group : place_of b m < length (kinds_of b) → Stands b m
  bare : branches_of b m ≡ [] → Stands b m

stands : (b : Block) (m : MemberOf b) → Stands b m
unfolding place_in
stands Tokens (TokenMember.precedence x) = in_group (omega arith)
stands Tokens (TokenMember.conflict x) = in_group (omega arith)
stands Tokens (TokenMember.rule x) = in_group (omega arith)
stands Tokens (TokenMember.literal x) = in_group (omega arith)
stands LocalTokens (LocalMember.precedence x) = in_group (omega arith)
stands LocalTokens (LocalMember.rule x) = in_group (omega arith)
stands LocalTokens (LocalMember.fallback x) = in_group (omega arith)
stands ExternalTokens (ExternalMember.token x) = in_group (omega arith)
stands ExternalTokens (ExternalMember.conflicts ns) = in_group (omega arith)
stands Specializer (ExternalMember.token x) = in_group (omega arith)
stands Specializer (ExternalMember.conflicts ns) = bare refl
stands Skip (SkipMember.top_rule x) = in_group (omega arith)
stands Skip (SkipMember.rule x) = in_group (omega arith)

module _ (b : Block) (g : ℕ) (l : length (kinds_of b) ≤ g) where
  none-one : (m : MemberOf b) (e : Bool) → eqb (place_of b m) g ≡ e → Stands b m → (if e then branches_of b m otherwise []) ≡ []
  none-one m false q s = refl
  none-one m true q (in_group h) = absurd (let z : place_of b m ≡ g = eqb→eq (place_of b m) g (rw q tt) in omega arith)
  none-one m true q (bare h) = h

  none-behind : (ms : List (MemberOf b)) → group_at (place_of b) (branches_of b) g ms ≡ []
  unfolding group_at
  none-behind [] = refl
  none-behind (m ∷ ms) = rw (none-one m (eqb (place_of b m) g) refl (stands b m), none-behind ms)

last : (xs : List Node) → xs ≡ xs ++ flat nodes []
unfolding flat
last xs = sym (append-nil xs)

module _ (b : Block) (ms : List (MemberOf b)) where
  abbrev stored_before : ℕ → List Node
  stored_before i = flat nodes (groups_of (kind_of b) (branches_of b) (take i (kinds_of b)) ms)

  abbrev group_of : ℕ → List Node
  group_of g = flat nodes (group_at (place_of b) (branches_of b) g ms)

  abbrev every : List Node
  every = flat nodes (groups_of (kind_of b) (branches_of b) (kinds_of b) ms)

  first-none : stored_before 0 ≡ []
  unfolding groups_of flat
  first-none = refl

  first_on : (i : ℕ) → i < block_count → stored_before (suc i) ≡ stored_before i ++ group_of i
  first_on i h = go (dec_lt i (length (kinds_of b)))
    where
      go : Dec (i < length (kinds_of b)) → stored_before (suc i) ≡ stored_before i ++ group_of i
      go (yes l) = nodes-on (kind_of b) (branches_of b) (kinds_of b) (kinds-distinct b) (kinds_nonzero b) i l ms
      go (no l) =
          let a : take (suc i) (kinds_of b) ≡ kinds_of b = take_all (suc i) (kinds_of b) (omega arith) in
          let c : take i (kinds_of b) ≡ kinds_of b = take_all i (kinds_of b) (omega arith) in
          let d = none-behind b i (omega arith) ms in
          rw (a, c, d) (last every)

  first-all : stored_before block_count ≡ every
  first-all = let z = kinds-few b in rw (take_all block_count (kinds_of b) (omega arith))

-- ------------------------------------------------------------------ the first pass

zeros : (g : ℕ) → ◌≡◌ {A = ℕ} (get_or (0 ∷ 0 ∷ 0 ∷ 0 ∷ []) g 0) 0
zeros zero = refl
zeros (suc zero) = refl
zeros (suc (suc zero)) = refl
zeros (suc (suc (suc zero))) = refl
zeros (suc (suc (suc (suc g)))) = refl

pub block-blank : Blank block_count (0 ∷ 0 ∷ 0 ∷ 0 ∷ [])
block-blank = record { all = refl; none = zeros }

pub blank-begins : {s : List ℕ} {t : Token} → LiesIn s 0 t → length s ≤ 0x10000 → {ps qs : List ℕ} → Blank block_count ps → Blank block_count qs → Begins block_count 0x28000000 s t ps qs
blank-begins l z a b =
    record {
      lies = l;
      small = z;
      words-all = a.all;
      bytes-all = b.all;
      words-few = λ g. let k = a.none g in omega arith;
      bytes-few = λ g. let k = b.none g in omega arith;
    }

module _ {b : Block} {s : List ℕ} {t : Token} {n x : ℕ} {ws₀ ts₀ : List ℕ} (r : Roomy s t (lent n ws₀ x ts₀)) {ps₀ qs₀ : List ℕ} (z₁ : Blank block_count ps₀) (z₂ : Blank block_count qs₀) {ps qs es fs gs hs : List ℕ} {v : Token} {m y children : ℕ}
    (g : Spreads b s t ps₀ qs₀ ps qs es fs gs hs v m y children) where
  abbrev found : List (MemberOf b)
  found = g.gathers.members

  -- what is taken
  taken-words : m ≡ width * length (every b found)
  taken-words = let a = g.gathers.lays.stores.words-end in let c = block_weighs b nodes-of found in omega arith

  taken-bytes : y ≡ length (texts_of (every b found))
  taken-bytes = let a = g.gathers.lays.stores.texts-end in let c = block_weighs b bytes_of found in omega arith

  taken-few : (n + m ≤ 0x28000000) × (x + y ≤ 0x28000000)
  taken-few =
      let a = g.gathers.lays.stores.words-end in
      let c = g.gathers.lays.stores.texts-end in
      let d = g.gathers.lays.bound in
      let e = g.gathers.lays.space in
      let f = placed_in s v g.gathers.onward.lies in
      let h = placed_in s t r.lies in
      let i = r.room in
      let j = r.space in
      let k = r.small in
      (omega arith, omega arith)

  pub spread_small : (n + m < 2 ^ 64) × (x + y < 2 ^ 64)
  spread_small = let a = taken-few.0 in let c = taken-few.1 in (omega arith, omega arith)

  pub all_words : length ps ≡ block_count
  all_words = g.fills.same_places ∙ z₁.all

  all-bytes : length qs ≡ block_count
  all-bytes = g.fills.same_bytes ∙ z₂.all

  words-room : block_count ≤ length ps
  words-room = let a = all_words in omega arith

  bytes-room : block_count ≤ length qs
  bytes-room = let a = all-bytes in omega arith

  word-sizes : (i : ℕ) → i < block_count → get_or ps i 0 ≡ in_words.size (group_of b found i)
  word-sizes i l = let a = g.fills.words-on i l in let c = z₁.none i in omega arith

  byte-sizes : (i : ℕ) → i < block_count → get_or qs i 0 ≡ in_bytes.size (group_of b found i)
  byte-sizes i l = let a = g.fills.bytes_on i l in let c = z₂.none i in omega arith

  pub first-size : FirstIs b s t (get_or ps 0 0)
  first-size ms us e = let q : found ≡ ms = together g.gathers.gives e in rw (← q) (word-sizes 0 (omega arith))

  words-sum : sum ps ≡ m
  words-sum =
      let a = sizes-are in_words (stored_before b found) (group_of b found) block_count (first-none b found) (first_on b found) ps words-room word-sizes block_count (omega arith) in
      let c = ap sum (take_all block_count ps (let k = all_words in omega arith)) in
      let d = ap in_words.size (first-all b found) in
      let e = taken-words in
      omega arith

  bytes-sum : sum qs ≡ y
  bytes-sum =
      let a = sizes-are in_bytes (stored_before b found) (group_of b found) block_count (first-none b found) (first_on b found) qs bytes-room byte-sizes block_count (omega arith) in
      let c = ap sum (take_all block_count qs (let k = all-bytes in omega arith)) in
      let d = ap in_bytes.size (first-all b found) in
      let e = taken-bytes in
      omega arith

  pub words_small : n + sum ps < 2 ^ 64
  words_small = let a = words-sum in let c = spread_small.0 in omega arith

  pub bytes_small : x + sum qs < 2 ^ 64
  bytes_small = let a = bytes-sum in let c = spread_small.1 in omega arith

  -- nothing is lent: that is enough
  pub spread_none : length ws₀ ≡ 0 → length ts₀ ≡ 0
      → Gathers (members_of b (stream s t)) (groups_of (kind_of b) (branches_of b) (kinds_of b)) s t 1 (lent n ws₀ x ts₀) v (lent (n + m) ws₀ (x + y) ts₀) children
  spread_none a c =
      let h = g.gathers in
      let i = block_weighs b nodes-of found in
      let j = block_weighs b bytes_of found in
      let k = h.lays.bound in
      let l = h.lays.space in
      record {
        members = found;
        gives = h.gives;
        counted = block_weighs b number found ∙ h.counted;
        onward = h.onward;
        lays = record { stores = stores-sizes (stores-again n x h.lays.stores) (sym i) (sym j) a c a c; bound = omega arith; space = omega arith };
      }

  -- ---------------------------------------------------------------- the second pass

  module _ {ps₁ qs₁ : List ℕ} (e₁ : ps₁ ≡ lined_up n ps) (e₂ : qs₁ ≡ lined_up x qs) where
    word-few : (i : ℕ) → Dec (i < block_count) → get_or ps₁ i 0 ≤ 0x28000000
    word-few i (yes l) =
        let k = all_words in
        let a = ap (λ (l : List ℕ). get_or l i 0) e₁ ∙ lined-at n ps i (omega arith) in
        let c = sum-part ps i in
        let d = words-sum in
        let f = taken-few.0 in
        omega arith
    word-few i (no l) = let k = all_words in let c = ap length e₁ ∙ lined-length n ps in let d = get_or-eq_default ps₁ 0 {n = i} (omega arith) in omega arith

    byte_few : (i : ℕ) → Dec (i < block_count) → get_or qs₁ i 0 ≤ 0x28000000
    byte_few i (yes l) =
        let k = all-bytes in
        let a = ap (λ (l : List ℕ). get_or l i 0) e₂ ∙ lined-at x qs i (omega arith) in
        let c = sum-part qs i in
        let d = bytes-sum in
        let f = taken-few.1 in
        omega arith
    byte_few i (no l) = let k = all-bytes in let c = ap length e₂ ∙ lined-length x qs in let d = get_or-eq_default qs₁ 0 {n = i} (omega arith) in omega arith

    pub lined-begins : Begins block_count 0x28000000 s t ps₁ qs₁
    lined-begins =
        record {
          lies = r.lies;
          small = r.small;
          words-all = ap length e₁ ∙ lined-length n ps ∙ all_words;
          bytes-all = ap length e₂ ∙ lined-length x qs ∙ all-bytes;
          words-few = λ i. word-few i (dec_lt i block_count);
          bytes-few = λ i. byte_few i (dec_lt i block_count);
        }

    module _ {ps₂ qs₂ ws ts vs us : List ℕ} {u : Token} {m₂ y₂ c₂ : ℕ} (k : Spreads b s t ps₁ qs₁ ps₂ qs₂ ws ts vs us u m₂ y₂ c₂) where
      pub all_after : length ps₂ ≡ block_count
      all_after = k.fills.same_places ∙ lined-begins.words-all

      -- the size of the first group is put back
      pub first-kept : FirstIs b s t (get_or (set ps₂ 0 (get_or ps 0 0)) 0 0)
      first-kept ms us e = get_or-set_same ps₂ 0 (get_or ps 0 0) 0 (let a = all_after in omega arith) ∙ first-size ms us e

      fills : Fills (place_of b) (branches_of b) block_count found ps₁ qs₁ ps₂ qs₂ ws ts vs us
      fills = let q : k.gathers.members ≡ found = together k.gathers.gives g.gathers.gives in rw q at k.fills

      word-places : (i : ℕ) → i < block_count → get_or ps₁ i 0 ≡ n + in_words.size (stored_before b found i)
      word-places = lined-are in_words (stored_before b found) (group_of b found) block_count (first-none b found) (first_on b found) n ps e₁ words-room word-sizes

      byte-places : (i : ℕ) → i < block_count → get_or qs₁ i 0 ≡ x + in_bytes.size (stored_before b found i)
      byte-places = lined-are in_bytes (stored_before b found) (group_of b found) block_count (first-none b found) (first_on b found) x qs e₂ bytes-room byte-sizes

      spread_stores : Stores (every b found) (lent n ws x ts) (lent (n + m) vs (x + y) us)
      spread_stores =
          let a = taken-words in
          let c = taken-bytes in
          let d = ap in_words.size (first-all b found) in
          let f = ap in_bytes.size (first-all b found) in
          record {
            words-end = omega arith;
            texts-end = omega arith;
            same-words = fills.records.same;
            same-texts = fills.texts.same;
            records = λ h.
                groups-written in_words (stored_before b found) (group_of b found) block_count (first-none b found) (first_on b found) n x ps₁ qs₁ word-places byte-places (omega arith) fills.records
                ∙ rw (first-all b found);
            bytes = λ h.
                groups-written in_bytes (stored_before b found) (group_of b found) block_count (first-none b found) (first_on b found) x x qs₁ qs₁ byte-places byte-places (omega arith) fills.texts
                ∙ rw (first-all b found);
          }

      pub spread_twice : Gathers (members_of b (stream s t)) (groups_of (kind_of b) (branches_of b) (kinds_of b)) s t 1 (lent n ws x ts) v (lent (n + m) vs (x + y) us) children
      spread_twice =
          let h = g.gathers in
          let i = block_weighs b nodes-of found in
          let j = block_weighs b bytes_of found in
          let d = h.lays.bound in
          let l = h.lays.space in
          record {
            members = found;
            gives = h.gives;
            counted = block_weighs b number found ∙ h.counted;
            onward = h.onward;
            lays = record { stores = spread_stores; bound = omega arith; space = omega arith };
          }
