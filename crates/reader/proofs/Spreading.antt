-- A pass over the members of a block: each is stored, as it is read, where its group goes on.
-- Assumes nothing.
use Prim.Native.Nat.{ℕ, ◌+◌, ◌-◌, ◌≤◌, ◌<◌}
use Prim.Native.Char.{code}
use native.Mathlib.Omega.{arith}
use mathlib.Core.Path.{◌≡◌, ap, sym, ◌∙◌}
use mathlib.Core.Bool.{Bool, true, ◌&&◌, not}
use mathlib.Core.List.{List, []}
use lib.Dec.{eqb}
use lib.ListN.{length, get_or, set}
use Rattle.std.specs.Prelude.{Ok}
use Rattle.tree.specs.Records.{Node, texts_of}
use Rattle.notation.specs.Members.{TokenMember, LocalMember, SkipMember, ExternalMember}
use Rattle.tokens.specs.Promise.{stream, LiesIn}
use Rattle.parser.specs.Storing.{lent}
use Rattle.parser.specs.Steps.{Onward, Ready, Opens}
use Rattle.lexer.specs.declared.Token.{Token}
use Rattle.parser.specs.declared.props.Comma.{Comma}
use Rattle.parser.specs.declared.props.Opened.TheVariants as O
use Rattle.parser.proofs.Onward.{placed_in}
use Rattle.parser.proofs.Lists.{listing_start, listing-turn, listing-more}
use Rattle.reader.specs.Places.{place_in, Fills, Begins}
use Rattle.reader.specs.Blocks.{MemberOf, comma_of, kind_of, branches_of, kinds_of, Joins, place_of, block_count, Settles, Spreads}
use Rattle.reader.specs.Ahead.{member_ahead}
use Rattle.reader.specs.declared.blocks.Block.{Block}
use Rattle.reader.specs.declared.blocks.Block.TheVariants.{Tokens, LocalTokens, ExternalTokens, Specializer, Skip}
use Rattle.reader.proofs.GroupSizes.{all-nodes}
use Rattle.reader.proofs.MemberLaws.{some-before}
use Rattle.reader.proofs.Membering.{Membering, membering-start, membering-small, members-closed, member_onward, member_more}
use Rattle.reader.proofs.BlockGathered.{lays-alone, stores-again}
use Rattle.reader.proofs.Filling.{fills-none, fills-more}
use Rattle.reader.proofs.Begun.{begins-on}
use Rattle.reader.proofs.MemberAhead.{member_yields, ahead-some}

-- ------------------------------------------------------------------ a member

-- where a group goes on there is room
pub begins_ready : {s : List ℕ} {t : Token} {ps qs : List ℕ} → Begins block_count 0x30000000 s t ps qs → (p : ℕ) {ws ts : List ℕ} → Ready s t (lent (get_or ps p 0) ws (get_or qs p 0) ts)
begins_ready b p =
    let a = b.words-few p in
    let c = b.bytes-few p in
    let d = b.small in
    record { lies = b.lies; small = omega arith; room = omega arith; space = omega arith }

module _ {b : Block} {free : Bool} {s : List ℕ} {t : Token} {n x : ℕ} {ws ts : List ℕ} {u : Token} {m y : ℕ} {vs us : List ℕ} {count kind : ℕ}
    (j : Joins b free s t (lent n ws x ts) u (lent m vs y us) count kind) where
  pub settled_on : (n ≤ m) × (x ≤ y)
  settled_on = let a = j.lays.stores.words-end in let b = j.lays.stores.texts-end in (omega arith, omega arith)

  abbrev settled-measured : Joins b free s t (lent 0 [] 0 []) u (lent (m - n) [] (y - x) []) count kind
  settled-measured = record { value = j.value; gives = j.gives; onward = j.onward; kinds = j.kinds; counted = j.counted; lays = lays-alone j.lays }

  module _ {p : ℕ} (at : p ≡ place_in (kinds_of b) (member_ahead b free (stream s t))) where
    settled-place : place_of b j.value ≡ p
    settled-place =
        let h = some-before b free in
        let e = (member_yields b free h.members h.is (stream s t)).are j.value _ (j.gives h.members h.is) (ahead-some b free (stream s t)) in
        ap (place_in (kinds_of b)) e ∙ sym at

    pub settled : {ps qs ps₁ qs₁ : List ℕ} → n ≡ get_or ps p 0 → x ≡ get_or qs p 0 → ps₁ ≡ set ps p m → qs₁ ≡ set qs p y → Settles b free s t ps qs ps₁ qs₁ ws ts vs us u (m - n) (y - x) count kind
    settled en ex a d =
        let o = settled_on in
        let c : n + (m - n) ≡ m = omega arith in
        let e : x + (y - x) ≡ y = omega arith in
        record { joins = settled-measured; words-on = rw (settled-place, ← en, c) a; bytes_on = rw (settled-place, ← ex, e) d; stores = rw (settled-place, ← en, ← ex, c, e) j.lays.stores }

-- each member has one of the groups
place-few : (b : Block) (m : MemberOf b) → place_of b m < block_count
unfolding place_in
place-few Tokens (TokenMember.precedence x) = omega arith
place-few Tokens (TokenMember.conflict x) = omega arith
place-few Tokens (TokenMember.rule x) = omega arith
place-few Tokens (TokenMember.literal x) = omega arith
place-few LocalTokens (LocalMember.precedence x) = omega arith
place-few LocalTokens (LocalMember.rule x) = omega arith
place-few LocalTokens (LocalMember.fallback x) = omega arith
place-few ExternalTokens (ExternalMember.token x) = omega arith
place-few ExternalTokens (ExternalMember.conflicts ns) = omega arith
place-few Specializer (ExternalMember.token x) = omega arith
place-few Specializer (ExternalMember.conflicts ns) = omega arith
place-few Skip (SkipMember.top_rule x) = omega arith
place-few Skip (SkipMember.rule x) = omega arith

-- ------------------------------------------------------------------ the pass

-- the members so far are read and stored
pub record Spreading (b : Block) (s : List ℕ) (t₀ : Token) (ps qs ps₁ qs₁ ws ts vs us : List ℕ) (t : Token) (n x count children : ℕ) (free : Bool) : Type 0 where
  pub membering : Membering b s t₀ (lent 0 [] 0 []) t (lent n [] x []) count children free
  pub fills : Fills (place_of b) (branches_of b) block_count membering.listing.items ps qs ps₁ qs₁ ws ts vs us

pub spreading_start : (b : Block) (s : List ℕ) (t : Token) (ps qs ws ts : List ℕ) → LiesIn s 0 t → Spreading b s t ps qs ps qs ws ts ws ts t 0 0 0 0 true
unfolding membering-start listing_start
spreading_start b s t ps qs ws ts l = record { membering = membering-start b s t (lent 0 [] 0 []) l; fills = fills-none (place_of b) (branches_of b) block_count ps qs ws ts }

module _ {b : Block} {s : List ℕ} {t₀ : Token} {ps qs ps₁ qs₁ ws ts vs us : List ℕ} {t : Token} {n x count children : ℕ} {free : Bool}
    (p : Spreading b s t₀ ps qs ps₁ qs₁ ws ts vs us t n x count children free) where
  pub spreading_small : length s ≤ 0x10000 → (count ≤ 0x200000) × (children ≤ 0x400000) × (n ≤ 0x100000) × (x ≤ 0x100000)
  spreading_small h =
      let k = membering-small p.membering (omega arith) in
      let l = p.membering.listing in
      let d = placed_in s t l.onward.lies in
      let a = l.lays.bound in
      let c = l.lays.space in
      let e = l.lays.stores.words-end in
      let f = l.lays.stores.texts-end in
      (k.0, k.1, omega arith, omega arith)

  -- the places stay small
  pub spreading_begins : {u : Token} → Begins block_count 0x28000000 s t₀ ps qs → LiesIn s 0 u → Begins block_count 0x30000000 s u ps₁ qs₁
  spreading_begins g i =
      let l = p.membering.listing in
      let c = ap length (all-nodes (kind_of b) (branches_of b) 0 l.items) in
      let d = ap (λ (l : List Node). length (texts_of l)) (all-nodes (kind_of b) (branches_of b) 0 l.items) in
      let e = l.lays.bound in
      let f = l.lays.space in
      let h = placed_in s t l.onward.lies in
      let k = g.small in
      begins-on (place_of b) (kind_of b) (branches_of b) p.fills (omega arith) (omega arith) g 0x30000000 (omega arith) i

  module _ {k : Comma} (q : k ≡ comma_of b) where
    pub spreading_closed : {u : Token} → Opens s t (code "}") k count (Ok (O.Closed u)) → Spreads b s t₀ ps qs ps₁ qs₁ ws ts vs us u n x children
    unfolding members-closed
    spreading_closed o = record { gathers = members-closed p.membering q o; fills = p.fills }

    module _ {u : Token} (o : Opens s t (code "}") k count (Ok (O.Item u))) {ps₂ qs₂ vs₂ us₂ : List ℕ} {v : Token} {i y more kind : ℕ} (g : Begins block_count 0x28000000 s t₀ ps qs) (j : Settles b free s u ps₁ qs₁ ps₂ qs₂ vs us vs₂ us₂ v i y more kind) where
      -- behind what is taken already
      abbrev behind : Joins b free s u (lent n [] x []) v (lent (n + i) [] (x + y) []) more kind
      behind =
          let d = j.joins in
          record {
            value = d.value;
            gives = d.gives;
            onward = d.onward;
            kinds = d.kinds;
            counted = d.counted;
            lays = record { stores = stores-again n x d.lays.stores; bound = d.lays.bound; space = d.lays.space };
          }

      pub spreading_onward : Onward s t v 1
      spreading_onward = member_onward p.membering q o behind

      spreading_more : Spreading b s t₀ ps qs ps₂ qs₂ ws ts vs₂ us₂ v (n + i) (x + y) (count + 1) (children + more) (free && not (eqb kind 13))
      unfolding member_more listing-turn listing-more
      spreading_more =
          let z = place-few b j.joins.value in
          let a₁ = g.words-all in
          let a₂ = g.bytes-all in
          record {
            membering = member_more p.membering q o behind;
            fills = fills-more (place_of b) (branches_of b) p.fills {m = j.joins.value} z (omega arith) (omega arith) j.stores j.words-on j.bytes_on;
          }

      pub spreading_next : {f : Bool} → f ≡ free && not (eqb kind 13) → Spreading b s t₀ ps qs ps₂ qs₂ ws ts vs₂ us₂ v (n + i) (x + y) (count + 1) (children + more) f
      spreading_next z = rw z spreading_more
