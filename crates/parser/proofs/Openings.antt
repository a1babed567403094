-- What stands between the items of a list, the front of a list's turn, and a list that a mark opens.
-- Assumes nothing.
use Prim.Native.Nat.{ℕ, zero, suc, ◌+◌, ◌≤◌, ◌<◌}
use Prim.Native.Char.{Char, code}
use native.Mathlib.Omega.{arith}
use mathlib.Core.Path.{◌≡◌, refl, sym, ◌∙◌}
use mathlib.Core.List.{List, []}
use mathlib.Core.Option as M
use Rattle.std.specs.Prelude.{Option, Some, None, Result, Ok, Err, unwrap_or}
use Rattle.error.specs.declared.Stop.{Stop}
use Rattle.error.specs.Promise.{cause_number}
use Rattle.tree.specs.Records.{Node}
use Rattle.notation.specs.Parser.{Answer, refused, Parser, and_then, ◌>>=◌, pure, choose, eat, loop, until_step}
use Rattle.tokens.specs.Promise.{stream, LiesIn, Eats, Expects}
use Rattle.parser.specs.Storing.{Lent}
use Rattle.parser.specs.Steps.{Onward, Gives, Finds, FindsNone, Lists, ParsesList, between_by, separator, opening, comma_step, step_by, ArrivesOn, Separates, Opens}
use Rattle.lexer.specs.declared.Token.{Token}
use Rattle.parser.specs.declared.props.Opened.TheVariants as O
use Rattle.parser.specs.declared.props.Comma.{Comma}
use Rattle.parser.specs.declared.props.Comma.TheVariants.{Must, May, No}
use Rattle.parser.proofs.Onward.{onward-here, onward_then, onward-least, eat-onward, expect-onward}
use Rattle.parser.proofs.Lists.{flat-none, lays-none, lays-between, Listing, listing-turn, listing-closed, listing-over, listing-refused, opens-item, opens-closed, opens-refused}

-- ------------------------------------------------------------------ between two items

module _ (s : List ℕ) (t : Token) (l : LiesIn s 0 t) where
  expect-on : (r : Result Token Stop) → Expects s t 0x2C r → ArrivesOn s t 1 r
  expect-on (Ok u) h = expect-onward s "," t (omega arith) l h
  expect-on (Err e) h = tt

  pub between-must : {b : Comma} {r : Result Token Stop} → b ≡ Must → Expects s t 0x2C r → Separates s t (between_by b) (comma_step b) r
  between-must {b} {r} e h = rw e (record { takes = h.expects "," refl; on = expect-on r h })

  -- the token behind the comma, or else the same
  pub between-may : {b : Comma} (o : Option Token) → b ≡ May → Eats s t 0x2C (Ok o) → Separates s t (between_by b) (comma_step b) (Ok (unwrap_or o t))
  unfolding ◌>>=◌ and_then pure
  between-may (Some u) e k = rw e (record { takes = rw (k.eats "," refl); on = onward-least 0 (eat-onward s "," t (omega arith) l k) (omega arith) })
  between-may None e k = rw e (record { takes = rw (k.eats "," refl); on = onward-here s t l })

  pub between-refused : {b : Comma} {d : Stop} → b ≡ May → Eats s t 0x2C (Err d) → Separates s t (between_by b) (comma_step b) (Err d)
  unfolding ◌>>=◌ and_then
  between-refused e k = rw e (record { takes = rw (k.eats "," refl); on = tt })

  pub between_none : {b : Comma} → b ≡ No → Separates s t (between_by b) (comma_step b) (Ok t)
  unfolding pure
  between_none e = rw e (record { takes = refl; on = onward-here s t l })

  -- ------------------------------------------------------------------ before the next item

  pub separator-first : (b : Comma) (count : ℕ) → count ≡ 0 → Separates s t (separator b count) (step_by b count) (Ok t)
  unfolding pure
  separator-first b count e = rw e (record { takes = refl; on = onward-here s t l })

  pub separator-later : (b : Comma) (count : ℕ) {r : Result Token Stop} → 0 < count → Separates s t (between_by b) (comma_step b) r → Separates s t (separator b count) (step_by b count) r
  separator-later b zero h k = absurd (omega arith)
  separator-later b (suc n) h k = k

  -- ------------------------------------------------------------------ the front of a turn

  module _ {c : ℕ} (z : 0 < c) (b : Comma) (count : ℕ) where
    pub opening-closed : {u : Token} → Eats s t c (Ok (Some u)) → Opens s t c b count (Ok (O.Closed u))
    unfolding opening ◌>>=◌ and_then choose pure
    opening-closed {u} k =
        record {
          opens = λ m e. rw (k.eats m e);
          on = λ m e. let i : Eats s t (code m) (Ok (Some u)) = rw e k in eat-onward s m t (rw e z) l i;
        }

    pub opening-refused : {d : Stop} → Eats s t c (Err d) → Opens s t c b count (Err d)
    unfolding opening ◌>>=◌ and_then
    opening-refused k = record { opens = λ m e. rw (k.eats m e); on = λ m e. tt }

    module _ (k : Eats s t c (Ok None)) where
      pub opening-item : {u : Token} → Separates s t (separator b count) (step_by b count) (Ok u) → Opens s t c b count (Ok (O.Item u))
      unfolding opening ◌>>=◌ and_then choose pure
      opening-item g = record { opens = λ m e. rw (k.eats m e, and_then, g.takes); on = λ m e. g.on }

      pub opening_halt : {d : Stop} → Separates s t (separator b count) (step_by b count) (Err d) → Opens s t c b count (Err d)
      unfolding opening ◌>>=◌ and_then choose
      opening_halt g = record { opens = λ m e. rw (k.eats m e, and_then, g.takes); on = λ m e. tt }

-- how far it comes
module _ (m : Char) {s : List ℕ} {t : Token} {b : Comma} {count : ℕ} {u : Token} where
  pub item-onward : Opens s t (code m) b count (Ok (O.Item u)) → Onward s t u (step_by b count)
  item-onward o = o.on m refl

  pub closed-onward : Opens s t (code m) b count (Ok (O.Closed u)) → Onward s t u 1
  closed-onward o = o.on m refl

-- ------------------------------------------------------------------ a turn of a list up to a mark

module _ {A : Type 0} (m : Char) (b : Comma) (item : List A → Parser ℕ A) {g : A → List Node} {s : List ℕ} {t₀ : Token} {k : ℕ} {a : Lent} {t : Token} {c : Lent} {count : ℕ}
    (l : Listing (until_step (eat m) (between_by b) item) g s t₀ k a t c count) where
  abbrev whole : Answer ℕ (List A)
  whole = loop (until_step (eat m) (between_by b) item) (stream s t₀)

  pub list_closed : {u : Token} → Opens s t (code m) b count (Ok (O.Closed u)) → k ≤ 2 → Lists whole g s t₀ 1 a u c count
  list_closed o h = listing-closed l (opens-closed m b item l.items l.counted o) (closed-onward m o) h

  pub list_refused : {e : Stop} → Opens s t (code m) b count (Err e) → whole ≡ refused (cause_number e.cause) e.place
  list_refused o = listing-refused l (opens-refused m b item l.items l.counted o)

  module _ {u : Token} (o : Opens s t (code m) b count (Ok (O.Item u))) {D : Answer ℕ A} (d : D ≡ item l.items (stream s u)) where
    pub item_refused : {n p : ℕ} → D ≡ refused n p → whole ≡ refused n p
    unfolding and_then
    item_refused i = listing-refused l (opens-item m b item l.items l.counted o ∙ rw (sym d ∙ i))

    pub item-more : {v : Token} {f : Lent} → Gives D g s u c v f → Onward s t v 1 × Listing (until_step (eat m) (between_by b) item) g s t₀ k a v f (count + 1)
    unfolding and_then pure
    item-more {v} {f} j =
        let w = item-onward m o in
        let z = w.ahead in
        let on : Onward s t v 1 = onward-least 1 (onward_then w j.onward) (omega arith) in
        (on, listing-turn l (opens-item m b item l.items l.counted o ∙ rw (sym d ∙ j.gives)) on (lays-between 0 j.lays (omega arith) (omega arith) (omega arith)))

-- ------------------------------------------------------------------ a turn of a loop that ends where nothing more is found

module _ {A : Type 0} {step : List A → Parser ℕ (M.Option A)} {g : A → List Node} {s : List ℕ} {t₀ : Token} {a : Lent} {t : Token} {c : Lent} {count : ℕ}
    (l : Listing step g s t₀ 0 a t c count) {D : Answer ℕ (M.Option A)} (d : D ≡ step l.items (stream s t)) where
  pub turn-over : {b : Lent} → FindsNone D s t c b → Lists (loop step (stream s t₀)) g s t₀ 0 a t b count
  turn-over f = rw f.same (listing-over l (rw (← d) f.gives) refl)

  pub turn-refused : {n p : ℕ} → D ≡ refused n p → loop step (stream s t₀) ≡ refused n p
  turn-refused f = listing-refused l (rw (← d) f)

  pub turn_more : {u : Token} {b : Lent} → Finds D g s t c u b → Onward s t u 1 × Listing step g s t₀ 0 a u b (count + 1)
  turn_more f = (f.onward, listing-turn l (rw (← d) f.gives) f.onward f.lays)

-- ------------------------------------------------------------------ a list that a mark opens, or none

module _ {A : Type 0} (m : Char) (p : Parser ℕ (List A)) where
  abbrev pub optional : Parser ℕ (List A)
  optional = eat m >>= λ yes. choose yes p (pure [])

  module _ (g : A → List Node) (s : List ℕ) (t : Token) (l : LiesIn s 0 t) (z : 0 < code m) where
    pub optional-none : (a : Lent) → Eats s t (code m) (Ok None) → Lists (optional (stream s t)) g s t 0 a t a 0
    unfolding ◌>>=◌ and_then choose pure
    optional-none a k =
        record { items = []; gives = rw (k.eats m refl); counted = refl; onward = onward-here s t l; lays = rw (flat-none g) (lays-none t 0 a) }

    pub optional-refused : {e : Stop} → Eats s t (code m) (Err e) → optional (stream s t) ≡ refused (cause_number e.cause) e.place
    unfolding ◌>>=◌ and_then
    optional-refused k = rw (k.eats m refl)

    -- what was read behind the mark
    pub optional_list : {u : Token} (k : Eats s t (code m) (Ok (Some u))) (i : ℕ) (a b : Lent) (f : Result (Token × ℕ) Stop) → ParsesList (p (stream s u)) g s u i a b f
        → ParsesList (optional (stream s t)) g s t 0 a b f
    unfolding ◌>>=◌ and_then choose
    optional_list {u} k i a b (Ok (v, count)) f =
        let o = eat-onward s m t z l k in
        let w = o.ahead in
        record {
          items = f.items;
          gives = rw (k.eats m refl) f.gives;
          counted = f.counted;
          onward = onward-least 0 (onward_then o f.onward) (omega arith);
          lays = lays-between 0 f.lays (omega arith) (omega arith) (omega arith);
        }
    optional_list {u} k i a b (Err e) f = rw (k.eats m refl) f
