-- A pass over the members of a block: they are stored as they are read.
-- Assumes nothing.
use Prim.Native.Nat.{ℕ, ◌+◌, ◌≤◌}
use Prim.Native.Char.{code}
use native.Mathlib.Omega.{arith}
use mathlib.Core.Path.{◌≡◌, refl, ap, ◌∙◌}
use mathlib.Core.Bool.{Bool, true, ◌&&◌, not}
use mathlib.Core.List.{List, [], ◌∷◌, ◌++◌}
use lib.Dec.{eqb}
use lib.ListN.{length, length-append}
use Rattle.basics.specs.Basics.{is_empty, picked}
use Rattle.std.specs.Prelude.{Ok, Err}
use Rattle.error.specs.declared.Stop.{Stop}
use Rattle.error.specs.Promise.{cause_number}
use Rattle.tree.specs.Records.{Branch, nodes}
use Rattle.notation.specs.Parser.{refused, and_then, pure, until_step, eat}
use Rattle.notation.specs.Members.{LocalMember, local_fallback}
use Rattle.tokens.specs.Promise.{stream, LiesIn}
use Rattle.parser.specs.Storing.{Lent, flat}
use Rattle.parser.specs.Steps.{placed, Onward, between_by, Opens}
use Rattle.lexer.specs.declared.Token.{Token}
use Rattle.parser.specs.declared.props.Comma.{Comma}
use Rattle.parser.specs.declared.props.Opened.TheVariants as O
use Rattle.notation.proofs.Turns.{loop-end}
use Rattle.parser.proofs.Onward.{placed_in, onward_then, onward-least}
use Rattle.parser.proofs.Ready.{flat-length}
use Rattle.parser.proofs.Lists.{lays-between, Listing, listing_start, listing-turn, listing-more, listing-refused, opens-item, opens-closed, opens-refused}
use Rattle.parser.proofs.Openings.{item-onward, closed-onward}
use Rattle.reader.specs.Groups.{all_of, Gathers}
use Rattle.reader.specs.Blocks.{MemberOf, member_of, members_of, comma_of, kind_of, branches_of, Free, Joins}
use Rattle.reader.specs.declared.blocks.Block.{Block}
use Rattle.reader.specs.declared.blocks.Block.TheVariants.{Tokens, LocalTokens, ExternalTokens, Specializer, Skip}
use Rattle.reader.proofs.GroupSizes.{all_snoc, all-nodes}

-- the members so far are read and stored
pub record Membering (b : Block) (s : List ℕ) (t₀ : Token) (a : Lent) (t : Token) (c : Lent) (count children : ℕ) (free : Bool) : Type 0 where
  pub listing : Listing (until_step (eat "}") (between_by (comma_of b)) (member_of b)) (λ m. flat nodes (branches_of b m)) s t₀ 0 a t c count
  pub counted : length (all_of (kind_of b) (branches_of b) 0 listing.items) ≡ children
  pub still : Free b listing.items free
  pub few : count + placed s t₀ ≤ placed s t

pub free_first : (b : Block) → Free b [] true
unfolding picked
free_first Tokens = tt
free_first LocalTokens = refl
free_first ExternalTokens = tt
free_first Specializer = tt
free_first Skip = tt

-- a fallback, and whatever has its kind elsewhere, ends it
fallback_snoc : (ms : List (LocalMember ℕ)) (m : LocalMember ℕ) → is_empty (picked local_fallback (ms ++ m ∷ [])) ≡ is_empty (picked local_fallback ms) && not (eqb (kind_of LocalTokens m) 13)
unfolding picked
fallback_snoc [] (LocalMember.precedence x) = refl
fallback_snoc [] (LocalMember.rule x) = refl
fallback_snoc [] (LocalMember.fallback x) = refl
fallback_snoc (LocalMember.precedence x ∷ ms) m = fallback_snoc ms m
fallback_snoc (LocalMember.rule x ∷ ms) m = fallback_snoc ms m
fallback_snoc (LocalMember.fallback x ∷ ms) m = refl

pub free_snoc : (b : Block) (ms : List (MemberOf b)) (m : MemberOf b) (free : Bool) {kind : ℕ} → kind_of b m ≡ kind → Free b ms free → Free b (ms ++ m ∷ []) (free && not (eqb kind 13))
free_snoc Tokens ms m free e f = tt
free_snoc LocalTokens ms m free e f = fallback_snoc ms m ∙ rw (f, e)
free_snoc ExternalTokens ms m free e f = tt
free_snoc Specializer ms m free e f = tt
free_snoc Skip ms m free e f = tt

module _ (b : Block) (s : List ℕ) where
  unfoldable pub membering-start : (t : Token) (a : Lent) → LiesIn s 0 t → Membering b s t a t a 0 0 true
  unfolding listing_start all_of
  membering-start t a l = record { listing = listing_start _ _ s t 0 a l; counted = refl; still = free_first b; few = omega arith }

module _ {b : Block} {s : List ℕ} {t₀ : Token} {a : Lent} {t : Token} {c : Lent} {count children : ℕ} {free : Bool}
    (m : Membering b s t₀ a t c count children free) {k : Comma} (q : k ≡ comma_of b) where
  unfoldable pub members-closed : {u : Token} → Opens s t (code "}") k count (Ok (O.Closed u)) → Gathers (members_of b (stream s t₀)) (all_of (kind_of b) (branches_of b) 0) s t₀ 1 a u c children
  members-closed {u} p =
      let l = m.listing in
      let e : Opens s t (code "}") (comma_of b) count (Ok (O.Closed u)) = rw q at p in
      let o = closed-onward "}" e in
      let z = o.ahead in
      record {
        members = l.items;
        gives = loop-end _ l.goes (opens-closed "}" (comma_of b) (member_of b) l.items l.counted e);
        counted = m.counted;
        onward = onward_then l.onward o;
        lays = rw (all-nodes (kind_of b) (branches_of b) 0 l.items) (lays-between 0 l.lays (omega arith) (omega arith) (omega arith));
      }

  pub members-refused : {e : Stop} → Opens s t (code "}") k count (Err e) → members_of b (stream s t₀) ≡ refused (cause_number e.cause) e.place
  members-refused {e} p =
      let o : Opens s t (code "}") (comma_of b) count (Err e) = rw q at p in
      listing-refused m.listing (opens-refused "}" (comma_of b) (member_of b) m.listing.items m.listing.counted o)

  module _ {u : Token} (p : Opens s t (code "}") k count (Ok (O.Item u))) where
    pub opened : Opens s t (code "}") (comma_of b) count (Ok (O.Item u))
    opened = rw q at p

    pub member_refused : {c p : ℕ} → ((before : List (MemberOf b)) → Free b before free → member_of b before (stream s u) ≡ refused c p) → members_of b (stream s t₀) ≡ refused c p
    unfolding and_then
    member_refused h =
        let l = m.listing in
        listing-refused l (opens-item "}" (comma_of b) (member_of b) l.items l.counted opened ∙ rw (h l.items m.still))

    module _ {v : Token} {d : Lent} {more kind : ℕ} (j : Joins b free s u c v d more kind) where
      pub member_onward : Onward s t v 1
      member_onward = let o₁ = item-onward "}" opened in onward-least 1 (onward_then o₁ j.onward) (omega arith)

      unfoldable pub member_more : Membering b s t₀ a v d (count + 1) (children + more) (free && not (eqb kind 13))
      unfolding and_then pure listing-turn listing-more
      member_more =
          let l = m.listing in
          let o₁ = item-onward "}" opened in
          let z = o₁.ahead in
          record {
            listing =
                listing-turn
                l
                (opens-item "}" (comma_of b) (member_of b) l.items l.counted opened ∙ rw (j.gives l.items m.still))
                member_onward
                (lays-between 0 j.lays (omega arith) (omega arith) (omega arith));
            counted = ap length (all_snoc (kind_of b) (branches_of b) 0 l.items j.value) ∙ length-append (all_of (kind_of b) (branches_of b) 0 l.items) (branches_of b j.value) ∙ rw (m.counted, j.counted);
            still = free_snoc b l.items j.value free j.kinds m.still;
            few = let f = m.few in let g = member_onward.ahead in omega arith;
          }

-- numbers that stay small
pub membering-small : {b : Block} {s : List ℕ} {t₀ t : Token} {a c : Lent} {count children : ℕ} {free : Bool} → Membering b s t₀ a t c count children free → length s ≤ 0x200000
    → (count ≤ 0x200000) × (children ≤ 0x400000)
membering-small {b} {s} {t = t} m h =
    let l = m.listing in
    let f = m.few in
    let p = placed_in s t l.onward.lies in
    let d = l.lays.bound in
    let e = ap length (all-nodes (kind_of b) (branches_of b) 0 l.items) in
    let g = flat-length (λ (x : Branch). x) (all_of (kind_of b) (branches_of b) 0 l.items) in
    let i = m.counted in
    (omega arith, omega arith)
