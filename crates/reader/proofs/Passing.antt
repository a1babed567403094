-- A pass over all declarations: each is stored, as it is read, where its group goes on.
-- Assumes nothing.
use Prim.Native.Nat.{ℕ, ◌+◌, ◌≤◌}
use native.Mathlib.Omega.{arith}
use mathlib.Core.Path.{◌≡◌, refl, ap, ◌∙◌}
use mathlib.Core.Bool.{Bool, true, false, ◌||◌}
use mathlib.Core.List.{List, []}
use mathlib.Core.Option.{Option, none, some}
use Rattle.std.specs.Prelude.{None}
use lib.Dec.{eqb}
use lib.ListN.{length, length-append}
use Rattle.notation.proofs.Turns.{separate-nothing}
use Rattle.basics.specs.Basics.{if◌then◌otherwise◌}
use Rattle.lexer.specs.declared.Kind.{Kind}
use Rattle.tree.specs.Records.{Node, nodes, texts_of}
use Rattle.notation.specs.Parser.{read, refused, Parser, and_then, ◌>>=◌, pure, choose, kind, kind_of, is_end, until_step, nothing}
use Rattle.notation.specs.Members.{Member}
use Rattle.notation.specs.Declarations.{parse_declaration}
use Rattle.tokens.specs.Promise.{stream, LiesIn}
use Rattle.parser.specs.Shapes.{IsToken}
use Rattle.parser.specs.Storing.{lent, flat}
use Rattle.parser.specs.Steps.{placed}
use Rattle.lexer.specs.declared.Token.{Token}
use Rattle.lexer.specs.declared.Token.TheVariants.{Of, Eof}
use Rattle.notation.proofs.Turns.{loop-end}
use Rattle.parser.proofs.Onward.{placed_in}
use Rattle.parser.proofs.Lists.{Listing, listing_start, listing-turn, listing-more, listing-refused}
use Rattle.reader.specs.Groups.{chosen, all_of}
use Rattle.reader.specs.Places.{Fills, Begins}
use Rattle.reader.specs.Directives.{member_kind, member_branches, SeenIs}
use Rattle.reader.specs.Whole.{members, stored_kinds, member_place, group_count, Places, NotedIs, records_of, note_of, Passes}
use Rattle.reader.specs.declared.whole.Noted.{Noted}
use Rattle.reader.proofs.BlockGathered.{stores-again}
use Rattle.reader.proofs.Filling.{fills-none, fills-more}
use Rattle.reader.proofs.PlaceLaws.{place-within}
use Rattle.reader.proofs.GroupSizes.{all_snoc, all-nodes}
use Rattle.reader.proofs.Begun.{begins-on}
use Rattle.reader.proofs.WholeLaws.{noted-start, noted_more, counted-more}

records-few : (k : ℕ) → records_of k ≤ 1
records-few k = go (eqb k 1 || eqb k 24)
  where
    go : (b : Bool) → (if b then 0 otherwise 1) ≤ 1
    go true = omega arith
    go false = omega arith

abbrev step : List (Member ℕ) → Parser ℕ (Option (Member ℕ))
step = until_step (kind >>= λ k. pure (is_end k)) nothing parse_declaration

-- ------------------------------------------------------------------ one turn

module _ (s : List ℕ) (before : List (Member ℕ)) where
  end_step : (t : Token) {p : ℕ} → t ≡ Eof p → step before (stream s t) ≡ read none (stream s t)
  unfolding until_step ◌>>=◌ and_then kind kind_of pure choose stream
  end_step t e = rw e

  open_step : (t : Token) → IsToken t → step before (stream s t) ≡ and_then (parse_declaration before (stream s t)) (λ x. pure (some x))
  unfolding until_step ◌>>=◌ and_then kind kind_of pure choose stream
  open_step (Of k a e) i = rw (separate-nothing before (stream s (Of k a e)))
  open_step (Eof p) i = absurd i

pub is-token : {t : Token} {k : Kind} {a e : ℕ} → t ≡ Of k a e → IsToken t
is-token q = rw q tt

-- ------------------------------------------------------------------ the pass

-- the declarations so far are read, noted and stored
pub record Passing (s : List ℕ) (t₀ : Token) (ps qs ps₁ qs₁ ws ts vs us : List ℕ) (t : Token) (n x count : ℕ) (noted : Noted) : Type 0 where
  pub turns : ℕ
  pub listing : Listing step (λ m. flat nodes (chosen member_kind member_branches 0 m)) s t₀ 0 (lent 0 [] 0 []) t (lent n [] x []) turns
  pub counted : length (all_of member_kind member_branches 0 listing.items) ≡ count
  pub is-noted : NotedIs s noted listing.items
  pub few : count + placed s t₀ ≤ placed s t
  pub fills : Fills member_place member_branches group_count listing.items ps qs ps₁ qs₁ ws ts vs us

pub passing_start : (s : List ℕ) (t : Token) (ps qs ws ts : List ℕ) → LiesIn s 0 t
    → Passing s t ps qs ps qs ws ts ws ts t 0 0 0 (record { seen = record { tokens = false; context = false; precedence = false; skip = false }; top = false; delim = false; dialects = None })
unfolding listing_start all_of
passing_start s t ps qs ws ts l =
    record { turns = 0; listing = listing_start _ _ s t 0 (lent 0 [] 0 []) l; counted = refl; is-noted = noted-start s; few = omega arith; fills = fills-none member_place member_branches group_count ps qs ws ts }

module _ {s : List ℕ} {t₀ : Token} {ps qs ps₁ qs₁ ws ts vs us : List ℕ} {t : Token} {n x count : ℕ} {noted : Noted}
    (p : Passing s t₀ ps qs ps₁ qs₁ ws ts vs us t n x count noted) where
  pub passing_done : {q : ℕ} → t ≡ Eof q → Passes s t₀ ps qs ps₁ qs₁ ws ts vs us t n x count noted
  passing_done e =
      let l = p.listing in
      record {
        found = l.items;
        gives = loop-end _ l.goes (end_step s l.items t e);
        onward = l.onward;
        counted = p.counted;
        lays = rw (all-nodes member_kind member_branches 0 l.items) l.lays;
        noted = p.is-noted;
        fills = p.fills;
      }

  -- the places move on, and stay small
  pub passing_begins : Begins group_count 0x1000000 s t₀ ps qs → Begins group_count 0x10000000 s t ps₁ qs₁
  passing_begins b =
      let l = p.listing in
      let c = ap length (all-nodes member_kind member_branches 0 l.items) in
      let d = ap (λ (l : List Node). length (texts_of l)) (all-nodes member_kind member_branches 0 l.items) in
      let e = l.lays.bound in
      let f = l.lays.space in
      let g = placed_in s t l.onward.lies in
      let h = b.small in
      begins-on member_place member_kind member_branches p.fills (omega arith) (omega arith) b 0x10000000 (omega arith) l.onward.lies

  pub passing_small : length s ≤ 0x10000 → (count ≤ 0x10000) × (n ≤ 0x1000000) × (x ≤ 0x1000000)
  passing_small h =
      let f = p.few in
      let l = p.listing in
      let d = placed_in s t l.onward.lies in
      let a = l.lays.bound in
      let b = l.lays.space in
      let c = l.lays.stores.words-end in
      let e = l.lays.stores.texts-end in
      (omega arith, omega arith, omega arith)

  module _ (i : IsToken t) where
    pub passing_refused : {c q : ℕ} → ((before : List (Member ℕ)) → SeenIs noted.seen before → parse_declaration before (stream s t) ≡ refused c q) → members (stream s t₀) ≡ refused c q
    unfolding and_then
    passing_refused h =
        let l = p.listing in
        listing-refused l (open_step s l.items t i ∙ rw (h l.items p.is-noted.seen))

    module _ {ps₂ qs₂ vs₂ us₂ : List ℕ} {u : Token} {m y k : ℕ} {top : Bool} (b : Begins group_count 0x1000000 s t₀ ps qs) (j : Places noted.seen s t ps₁ qs₁ ps₂ qs₂ vs us vs₂ us₂ u m y k top) where
      pub passing_more : {more : ℕ} {next : Noted} → more ≡ records_of k → next ≡ note_of noted t k top → Passing s t₀ ps qs ps₂ qs₂ ws ts vs₂ us₂ u (n + m) (x + y) (count + more) next
      unfolding and_then pure listing-turn listing-more
      passing_more {more} {next} e f =
          let l = p.listing in
          let d = j.declares in
          let o = d.onward.ahead in
          let g = p.few in
          let v = d.value in
          let c : length (member_branches v) ≡ more = counted-more v ∙ rw (d.kinds, ← e) in
          let one : more ≤ 1 = rw e (records-few k) in
          let z = place-within stored_kinds (member_kind v) in
          let a₁ = b.words-all in
          let a₂ = b.bytes-all in
          record {
            turns = p.turns + 1;
            listing = listing-turn l {v = v} (open_step s l.items t i ∙ rw (d.gives l.items p.is-noted.seen)) d.onward (record { stores = stores-again n x d.lays.stores; bound = d.lays.bound; space = d.lays.space });
            counted =
                ap length (all_snoc member_kind member_branches 0 l.items v) ∙ length-append (all_of member_kind member_branches 0 l.items) (member_branches v) ∙ rw (p.counted, c);
            is-noted = rw f (noted_more p.is-noted l.onward.lies i d);
            few = omega arith;
            fills = fills-more member_place member_branches p.fills {m = v} (omega arith) (omega arith) (omega arith) j.stores j.words-on j.bytes_on;
          }
