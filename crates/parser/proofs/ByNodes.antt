-- A parser of values as a parser of their nodes: what one reads the other reads, value by value.
-- Assumes nothing.
use Prim.Native.Nat.{ℕ, zero, suc}
use Prim.Native.Char.{Char}
use mathlib.Core.Path.{◌≡◌, refl, ap, sym, ◌∙◌}
use mathlib.Core.Bool.{Bool, true, false}
use mathlib.Core.List.{List, [], ◌∷◌, ◌++◌, map}
use mathlib.Core.Option as M
use mathlib.Core.Option.{none, some}
use Rattle.std.specs.Prelude.{Result, Ok, Err}
use lib.ListN.{length}
use Rattle.error.specs.declared.Stop.{Stop}
use Rattle.lexer.specs.declared.Token.{Token}
use Rattle.lexer.specs.Tokens.{Tokens}
use Rattle.tree.specs.Records.{Node}
use Rattle.notation.specs.Parser.{Answer, read, refused, Parser, and_then, ◌>>=◌, pure, choose, eat, turns, loop, separate, until, until_step, size}
use Rattle.notation.specs.Parser as N
use Rattle.tokens.specs.Promise.{stream}
use Rattle.std.specs.Borrow.{Bor, MutBor}
use native.Mathlib.Omega.{arith}
use Rattle.parser.specs.Storing.{Lent, lent_of, Kept, flat}
use Rattle.parser.specs.declared.store.Store.{Store}
use Rattle.parser.proofs.Onward.{onward-least}
use Rattle.parser.specs.Steps.{Parses, ParsesList}
use Rattle.parser.specs.Lists.{stored, stored_all, as_read, optional}
use Rattle.parser.proofs.Openings as O

module _ {A : Type 0} (g : A → List Node) where
  -- ------------------------------------------------------------------ one value

  pub parses-stored : (p : Parser ℕ A) (s : List ℕ) (t : Token) (a b : Lent) (r : Result Token Stop) → Parses (p (stream s t)) g s t a b r
      → Parses (stored g p (stream s t)) as_read s t a b r
  unfolding stored ◌>>=◌ and_then pure
  parses-stored p s t a b (Ok u) h = record { value = g h.value; gives = rw h.gives; onward = h.onward; lays = h.lays }
  parses-stored p s t a b (Err e) h = rw h

  -- what a call says of p, at a text that is this one
  pub one-stored : (p : Parser ℕ A) (s : List ℕ) (b : Bor (List ℕ)) (t : Token) (m n : MutBor Store) (r : Result Token Stop) → b.now ≡ s → Kept m.now n.now
      → Parses (p (stream b.now t)) g b.now t (lent_of m.now) (lent_of n.now) r → Kept m.now n.now × Parses (stored g p (stream s t)) as_read s t (lent_of m.now) (lent_of n.now) r
  one-stored p s b t m n r e k h = (k, parses-stored p s t (lent_of m.now) (lent_of n.now) r (rw e at h))

  -- ------------------------------------------------------------------ the nodes of each value

  pub flat_map : (xs : List A) → flat as_read (map g xs) ≡ flat g xs
  unfolding flat
  flat_map [] = refl
  flat_map (x ∷ xs) = rw (flat_map xs)

  pub length_map : (xs : List A) → length (map g xs) ≡ length xs
  length_map [] = refl
  length_map (x ∷ xs) = ap suc (length_map xs)

  map_snoc : (xs : List A) (x : A) → map g (xs ++ x ∷ []) ≡ map g xs ++ g x ∷ []
  map_snoc [] x = refl
  map_snoc (y ∷ xs) x = ap (λ (ys : List (List Node)). g y ∷ ys) (map_snoc xs x)

  abbrev pub each : Answer ℕ (List A) → Answer ℕ (List (List Node))
  each x = and_then x (λ xs. pure (map g xs))

  pub list-stored : (p : Parser ℕ (List A)) (s : List ℕ) (t : Token) (i : ℕ) (a b : Lent) (r : Result (Token × ℕ) Stop) → ParsesList (p (stream s t)) g s t i a b r
      → ParsesList (stored_all g p (stream s t)) as_read s t i a b r
  unfolding stored_all ◌>>=◌ and_then pure
  list-stored p s t i a b (Ok (u, count)) l =
      record { items = map g l.items; gives = rw l.gives; counted = length_map l.items ∙ l.counted; onward = l.onward; lays = rw (flat_map l.items) l.lays }
  list-stored p s t i a b (Err e) h = rw h

  pub all-stored : (i : ℕ) (p : Parser ℕ (List A)) (s : List ℕ) (b : Bor (List ℕ)) (t : Token) (m n : MutBor Store) (r : Result (Token × ℕ) Stop) → b.now ≡ s → Kept m.now n.now
      → ParsesList (p (stream b.now t)) g b.now t i (lent_of m.now) (lent_of n.now) r → Kept m.now n.now × ParsesList (stored_all g p (stream s t)) as_read s t 0 (lent_of m.now) (lent_of n.now) r
  all-stored i p s b t m n r e k h = (k, least r (list-stored p s t i (lent_of m.now) (lent_of n.now) r (rw e at h)))
    where
      least : (r : Result (Token × ℕ) Stop) → ParsesList (stored_all g p (stream s t)) as_read s t i (lent_of m.now) (lent_of n.now) r → ParsesList (stored_all g p (stream s t)) as_read s t 0 (lent_of m.now) (lent_of n.now) r
      least (Ok (u, count)) l = record { items = l.items; gives = l.gives; counted = l.counted; onward = onward-least 0 l.onward (omega arith); lays = l.lays }
      least (Err e) l = l

  -- and back
  list-back : (s : List ℕ) (t : Token) (i : ℕ) (a b : Lent) (D : Answer ℕ (List A)) (r : Result (Token × ℕ) Stop) → ParsesList (each D) as_read s t i a b r → ParsesList D g s t i a b r
  unfolding and_then pure
  list-back s t i a b (read xs us) (Ok (u, count)) l =
      let e : map g xs ≡ l.items = (let h = l.gives in cc) in
      record {
        items = xs;
        gives = (let h = l.gives in cc);
        counted = sym (length_map xs) ∙ ap length e ∙ l.counted;
        onward = l.onward;
        lays = rw (← flat_map xs, e) l.lays;
      }
  list-back s t i a b (refused c p) (Ok (u, count)) l = absurd (let h = l.gives in cc)
  list-back s t i a b (read xs us) (Err e) h = absurd (cc)
  list-back s t i a b (refused c p) (Err e) h = cc

  -- ------------------------------------------------------------------ lists up to a mark

  module _ (stop : Parser ℕ Bool) (between : Parser ℕ (Unit {0})) (p : Parser ℕ A) where
    abbrev step : List A → Parser ℕ (M.Option A)
    step = until_step stop between (λ _. p)

    abbrev step-stored : List (List Node) → Parser ℕ (M.Option (List Node))
    step-stored = until_step stop between (λ _. stored g p)

    abbrev found : Answer ℕ (M.Option A) → Answer ℕ (M.Option (List Node))
    found x = and_then x (λ o. pure (M.map g o))

    separated : (before : List A) (ts : Tokens ℕ) → separate between (map g before) ts ≡ separate between before ts
    unfolding separate
    separated [] ts = refl
    separated (x ∷ before) ts = refl

    step-found : (before : List A) (ts : Tokens ℕ) → step-stored (map g before) ts ≡ found (step before ts)
    unfolding until_step ◌>>=◌ and_then choose pure stored
    step-found before ts = go (stop ts)
      where
        last : (x : Answer ℕ A) → and_then (and_then x (λ y. pure (g y))) (λ y. pure (some y)) ≡ found (and_then x (λ y. pure (some y)))
        last (read y us) = refl
        last (refused c q) = refl

        after : (x : Answer ℕ (Unit {0})) → and_then x (λ _. stored g p >>= λ y. pure (some y)) ≡ found (and_then x (λ _. p >>= λ y. pure (some y)))
        after (read y us) = last (p us)
        after (refused c q) = refl

        go : (x : Answer ℕ Bool) → and_then x (λ done. choose done (pure none) (separate between (map g before) >>= λ _. stored g p >>= λ y. pure (some y)))
            ≡ found (and_then x (λ done. choose done (pure none) (separate between before >>= λ _. p >>= λ y. pure (some y))))
        go (read true us) = refl
        go (read false us) = rw (separated before us) (after (separate between before us))
        go (refused c q) = refl

    turns-found : (n : ℕ) (before : List A) (ts : Tokens ℕ) → turns n step-stored (map g before) ts ≡ each (turns n step before ts)
    unfolding turns ◌>>=◌ and_then pure N.refuse_here
    turns-found zero before ts = refl
    turns-found (suc n) before ts = rw (step-found before ts) (go (λ y us. turns-found n (before ++ y ∷ []) us) (step before ts))
      where
        go : ((y : A) (us : Tokens ℕ) → turns n step-stored (map g (before ++ y ∷ [])) us ≡ each (turns n step (before ++ y ∷ []) us))
            → (x : Answer ℕ (M.Option A))
            → and_then (found x) (λ o. elim o [ none ↦ pure (map g before) | some ns ↦ turns n step-stored (map g before ++ ns ∷ []) ])
            ≡ each (and_then x (λ o. elim o [ none ↦ pure before | some y ↦ turns n step (before ++ y ∷ []) ]))
        go h (read none us) = refl
        go h (read (some y) us) = rw (← map_snoc before y) (h y us)
        go h (refused c q) = refl

    until-found : (ts : Tokens ℕ) → until stop between (λ _. stored g p) ts ≡ each (until stop between (λ _. p) ts)
    unfolding loop
    until-found ts = turns-found (suc (suc (size ts))) [] ts

    pub list_back : (s : List ℕ) (t : Token) (i : ℕ) (a b : Lent) (r : Result (Token × ℕ) Stop) → ParsesList (until stop between (λ _. stored g p) (stream s t)) as_read s t i a b r
        → ParsesList (until stop between (λ _. p) (stream s t)) g s t i a b r
    list_back s t i a b r l = list-back s t i a b (until stop between (λ _. p) (stream s t)) r (rw (until-found (stream s t)) at l)

  -- ------------------------------------------------------------------ lists that may be there

  module _ (m : Char) (p : Parser ℕ (List A)) where
    optional-found : (ts : Tokens ℕ) → optional m (stored_all g p) ts ≡ each (O.optional m p ts)
    unfolding optional stored_all ◌>>=◌ and_then choose pure
    optional-found ts = go (eat m ts)
      where
        go : (x : Answer ℕ Bool) → and_then x (λ yes. choose yes (stored_all g p) (pure [])) ≡ each (and_then x (λ yes. choose yes p (pure [])))
        go (read true us) = refl
        go (read false us) = refl
        go (refused c q) = refl

    pub optional_back : (s : List ℕ) (t : Token) (i : ℕ) (a b : Lent) (r : Result (Token × ℕ) Stop) → ParsesList (optional m (stored_all g p) (stream s t)) as_read s t i a b r
        → ParsesList (O.optional m p (stream s t)) g s t i a b r
    optional_back s t i a b r l = list-back s t i a b (O.optional m p (stream s t)) r (rw (optional-found (stream s t)) at l)
