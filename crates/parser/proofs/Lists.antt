-- Loops that store what they read, and lists up to the mark that closes them.
-- Assumes nothing.
use Prim.Native.Nat.{ℕ, zero, suc, ◌+◌, ◌-◌, ◌*◌, ◌≤◌, ◌<◌}
use Prim.Native.Char.{Char, code}
use native.Mathlib.Omega.{arith}
use mathlib.Core.Path.{◌≡◌, refl, ap, sym, ◌∙◌}
use mathlib.Core.Bool.{Bool, true, false}
use mathlib.Core.List.{List, [], ◌∷◌, ◌++◌, append_assoc, append-nil}
use mathlib.Core.Option as M
use mathlib.Core.Option.{none, some}
use Rattle.std.specs.Prelude.{Ok, Err}
use lib.ListN.{length, length-append}
use Rattle.error.specs.declared.Stop.{Stop}
use Rattle.error.specs.Promise.{cause_number}
use Rattle.lexer.specs.Tokens.{Tokens}
use Rattle.tree.specs.Records.{Node, texts_of}
use Rattle.tree.proofs.Encoded.{texts-append}
use Rattle.notation.specs.Parser.{Answer, read, refused, Parser, and_then, ◌>>=◌, pure, choose, eat, size, loop, separate, until_step}
use Rattle.tokens.specs.Promise.{stream, LiesIn}
use Rattle.parser.specs.Storing.{Lent, Stores, flat}
use Rattle.parser.specs.Steps.{placed, Onward, Lays, Lists, between_by, separator, opening, Opens}
use Rattle.lexer.specs.declared.Token.{Token}
use Rattle.parser.specs.declared.props.Opened.TheVariants as O
use Rattle.parser.specs.declared.props.Comma.{Comma}
use Rattle.notation.proofs.Turns.{Loop, loop-start, loop-turn, loop-end, loop-refused}
use Rattle.parser.proofs.Onward.{onward-here, onward_then, onward-least}
use Rattle.parser.proofs.Stored.{stores-none, stores-then}

-- ------------------------------------------------------------------ nodes of lists

module _ {A : Type 0} (g : A → List Node) where
  pub flat-none : flat g [] ≡ []
  unfolding flat
  flat-none = refl

  pub flat-more : (x : A) (xs : List A) → flat g (x ∷ xs) ≡ g x ++ flat g xs
  unfolding flat
  flat-more x xs = refl

  pub flat_append : (xs ys : List A) → flat g (xs ++ ys) ≡ flat g xs ++ flat g ys
  unfolding flat
  flat_append [] ys = refl
  flat_append (x ∷ xs) ys = rw (flat_append xs ys) (sym (append_assoc (g x) (flat g xs) (flat g ys)))

  pub flat_snoc : (xs : List A) (x : A) → flat g (xs ++ x ∷ []) ≡ flat g xs ++ g x
  unfolding flat
  flat_snoc xs x = flat_append xs (x ∷ []) ∙ rw append-nil

pub length_snoc : {A : Type 0} (xs : List A) (x : A) → length (xs ++ x ∷ []) ≡ length xs + 1
length_snoc xs x = length-append xs (x ∷ [])

-- ------------------------------------------------------------------ laid out one after another

module _ {s : List ℕ} where
  pub lays-none : (t : Token) (k : ℕ) (a : Lent) → Lays s t t k [] a a
  unfolding texts_of
  lays-none t k a = record { stores = stores-none a; bound = omega arith; space = omega arith }

  pub lays-then : {t u v : Token} {i j : ℕ} {xs ys : List Node} {a b c : Lent} → Lays s t u i xs a b → Lays s u v j ys b c → Lays s t v (i + j) (xs ++ ys) a c
  lays-then {i = i} {j} {xs} {ys} f g =
      let l = length-append xs ys in
      let m = ap length (texts-append xs ys) ∙ length-append (texts_of xs) (texts_of ys) in
      let a = f.bound in
      let b = g.bound in
      let c = f.space in
      let d = g.space in
      record { stores = stores-then f.stores g.stores; bound = omega arith; space = omega arith }

  -- between tokens further out, with less slack where they are
  pub lays-between : {t u v w : Token} {i : ℕ} {xs : List Node} {a b : Lent} (j : ℕ) → Lays s u v i xs a b → placed s t ≤ placed s u → placed s v ≤ placed s w
      → 2 * placed s v + i + 2 * placed s t ≤ 2 * placed s w + j + 2 * placed s u → Lays s t w j xs a b
  lays-between j f p q h = let a = f.bound in let c = f.space in record { stores = f.stores; bound = omega arith; space = omega arith }

-- ------------------------------------------------------------------ loops

-- the items so far are stored, and the loop goes on from the token t
pub record Listing {A : Type 0} (step : List A → Parser ℕ (M.Option A)) (g : A → List Node) (s : List ℕ) (t₀ : Token) (k : ℕ) (a : Lent) (t : Token) (b : Lent) (count : ℕ) : Type 0 where
  pub items : List A
  pub counted : length items ≡ count
  pub goes : Loop step (loop step (stream s t₀)) (1 - count) items (stream s t)
  pub onward : Onward s t₀ t 0
  pub lays : Lays s t₀ t k (flat g items) a b

module _ {A : Type 0} (step : List A → Parser ℕ (M.Option A)) (g : A → List Node) (s : List ℕ) where
  unfoldable pub listing_start : (t : Token) (k : ℕ) (a : Lent) → LiesIn s 0 t → Listing step g s t k a t a 0
  listing_start t k a h =
      record {
        items = [];
        counted = refl;
        goes = loop-start step (stream s t);
        onward = onward-here s t h;
        lays = rw (flat-none g) (lays-none t k a);
      }

module _ {A : Type 0} {step : List A → Parser ℕ (M.Option A)} {g : A → List Node} {s : List ℕ} {t₀ : Token} {k : ℕ} {a : Lent} {t : Token} {b : Lent} {count : ℕ}
    (l : Listing step g s t₀ k a t b count) where
  -- one item more. It may take no token if it is the first, and have slack if it is, or if a token stands before it
  unfoldable pub listing-more : {v : A} {u : Token} {c : Lent} → step l.items (stream s t) ≡ read (some v) (stream s u) → Onward s t u 0
      → size (stream s u) + (1 - (count + 1)) < size (stream s t) + (1 - count)
      → Stores (g v) b c → (count ≡ 0 → length (g v) + 2 * placed s t ≤ 2 * placed s u + k) → (0 < count → length (g v) + 2 * placed s t ≤ 2 * placed s u)
      → length (texts_of (g v)) + 3 * placed s t ≤ 3 * placed s u → Listing step g s t₀ k a u c (count + 1)
  listing-more {v} {u} {c} e o f st first later space =
      let m = ap length (texts-append (flat g l.items) (g v)) ∙ length-append (texts_of (flat g l.items)) (texts_of (g v)) in
      let n = length-append (flat g l.items) (g v) in
      let p = l.lays.bound in
      let q = l.lays.space in
      let w = l.onward.ahead in
      let z = l.counted in
      record {
        items = l.items ++ v ∷ [];
        counted = length_snoc l.items v ∙ rw z;
        goes = loop-turn step l.goes e (1 - (count + 1)) f;
        onward = onward_then l.onward o;
        lays = rw (flat_snoc g l.items v) (record {
          stores = stores-then l.lays.stores st;
          bound = bounded l.items count z p w n first later;
          space = omega arith;
        });
      }
    where
      bounded : (is : List A) (d : ℕ) → length is ≡ d → length (flat g is) + 2 * placed s t₀ ≤ 2 * placed s t + k → placed s t₀ + 0 ≤ placed s t
          → length (flat g is ++ g v) ≡ length (flat g is) + length (g v)
          → (d ≡ 0 → length (g v) + 2 * placed s t ≤ 2 * placed s u + k) → (0 < d → length (g v) + 2 * placed s t ≤ 2 * placed s u)
          → length (flat g is ++ g v) + 2 * placed s t₀ ≤ 2 * placed s u + k
      bounded [] zero z p w n first later = let y = first refl in let x = ap length (flat-none g) in omega arith
      bounded [] (suc d) z p w n first later = absurd (omega arith)
      bounded (i ∷ is) zero z p w n first later = absurd (omega arith)
      bounded (i ∷ is) (suc d) z p w n first later = let y = later (omega arith) in omega arith

  -- one that takes a token, without slack
  unfoldable pub listing-turn : {v : A} {u : Token} {c : Lent} → step l.items (stream s t) ≡ read (some v) (stream s u) → Onward s t u 1 → Lays s t u 0 (g v) b c
      → Listing step g s t₀ k a u c (count + 1)
  unfolding listing-more
  listing-turn e o y =
      let f = o.fewer in
      let p = y.bound in
      listing-more e (onward-least 0 o (omega arith)) (omega arith) y.stores (λ z. omega arith) (λ z. omega arith) y.space

  -- no more, and a mark behind them
  pub listing-closed : {u : Token} → step l.items (stream s t) ≡ read none (stream s u) → Onward s t u 1 → k ≤ 2 → Lists (loop step (stream s t₀)) g s t₀ 1 a u b count
  listing-closed e o h =
      let w = o.ahead in
      record {
        items = l.items;
        gives = loop-end step l.goes e;
        counted = l.counted;
        onward = onward_then l.onward o;
        lays = lays-between 0 l.lays (omega arith) (omega arith) (omega arith);
      }

  -- no more
  unfoldable pub listing-over : step l.items (stream s t) ≡ read none (stream s t) → k ≡ 0 → Lists (loop step (stream s t₀)) g s t₀ 0 a t b count
  listing-over e h =
      record {
        items = l.items;
        gives = loop-end step l.goes e;
        counted = l.counted;
        onward = l.onward;
        lays = rw h at l.lays;
      }

  pub listing-refused : {c p : ℕ} → step l.items (stream s t) ≡ refused c p → loop step (stream s t₀) ≡ refused c p
  listing-refused e = loop-refused step l.goes e

-- ------------------------------------------------------------------ up to a mark

module _ {A : Type 0} (m : Char) (b : Comma) (item : List A → Parser ℕ A) where
  abbrev list_step : List A → Parser ℕ (M.Option A)
  list_step = until_step (eat m) (between_by b) item

  separated : (is : List A) (count : ℕ) → length is ≡ count → (ts : Tokens ℕ) → separate (between_by b) is ts ≡ separator b count ts
  unfolding separate
  separated [] zero e ts = refl
  separated [] (suc n) e ts = absurd (omega arith)
  separated (x ∷ is) zero e ts = absurd (omega arith)
  separated (x ∷ is) (suc n) e ts = refl

  abbrev behind : List A → Bool → Parser ℕ (M.Option A)
  behind is done = choose done (pure none) (item is >>= λ x. pure (some x))

  step-opening : (is : List A) (count : ℕ) → length is ≡ count → (ts : Tokens ℕ) → list_step is ts ≡ and_then (opening m b count ts) (behind is)
  unfolding until_step opening ◌>>=◌ and_then choose pure
  step-opening is count e ts = go (eat m ts)
    where
      after : (a : Answer ℕ (Unit {0})) → and_then a (λ _. item is >>= λ x. pure (some x)) ≡ and_then (and_then a (λ _. pure false)) (behind is)
      after (read x us) = refl
      after (refused c p) = refl

      go : (a : Answer ℕ Bool) → and_then a (λ done. choose done (pure none) (separate (between_by b) is >>= λ _. item is >>= λ x. pure (some x)))
          ≡ and_then (and_then a (λ done. choose done (pure true) (separator b count >>= λ _. pure false))) (behind is)
      go (read true us) = refl
      go (read false us) = rw (separated is count e us) (after (separator b count us))
      go (refused c p) = refl

  module _ {s : List ℕ} {t : Token} {count : ℕ} (is : List A) (n : length is ≡ count) where
    pub opens-item : {u : Token} → Opens s t (code m) b count (Ok (O.Item u)) → list_step is (stream s t) ≡ and_then (item is (stream s u)) (λ x. pure (some x))
    unfolding and_then choose ◌>>=◌
    opens-item o = step-opening is count n (stream s t) ∙ rw (o.opens m refl)

    pub opens-closed : {u : Token} → Opens s t (code m) b count (Ok (O.Closed u)) → list_step is (stream s t) ≡ read none (stream s u)
    unfolding and_then choose pure
    opens-closed o = step-opening is count n (stream s t) ∙ rw (o.opens m refl)

    pub opens-refused : {e : Stop} → Opens s t (code m) b count (Err e) → list_step is (stream s t) ≡ refused (cause_number e.cause) e.place
    unfolding and_then
    opens-refused o = step-opening is count n (stream s t) ∙ rw (o.opens m refl)
