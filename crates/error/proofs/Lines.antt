-- Lines and columns, one byte after another.
-- Assumes nothing.
use mathlib.Core.Path.{◌≡◌, refl, sym, ◌∙◌, ap}
use mathlib.Core.List.{List, [], ◌∷◌, ◌++◌}
use Prim.Native.Nat.{ℕ, suc, ◌+◌, ◌-◌, ◌≤◌, ◌<◌}
use native.Mathlib.Nat.{add-zero}
use native.Mathlib.Numerals.{add-one}
use native.Mathlib.Omega.{arith}
use lib.ListN.{length, get_or, take}
use lib.Seq.{take-suc, take_all, length-take-le}
use Rattle.std.proofs.Common.{min}
use Rattle.std.proofs.lemmas.List.{take_min}
use borrow.Author.Tests.{eq-eqb, ne_eqb}
use Rattle.basics.specs.Basics.{if◌then◌otherwise◌, is}
use Rattle.error.specs.Lines.{line_feeds, line_start, line_at, column_at}

feeds_append : (xs ys : List ℕ) → line_feeds (xs ++ ys) ≡ line_feeds xs + line_feeds ys
unfolding line_feeds
feeds_append [] ys = omega arith
feeds_append (x ∷ xs) ys = let r = feeds_append xs ys in omega arith

start-append : (s p : ℕ) (xs ys : List ℕ) → line_start s p (xs ++ ys) ≡ line_start (line_start s p xs) (p + length xs) ys
unfolding line_start
start-append s p [] ys = rw add-zero
start-append s p (x ∷ xs) ys =
    let e : p + 1 + length xs ≡ p + suc (length xs) = omega arith in
    start-append (if is "\n" x then p + 1 otherwise s) (p + 1) xs ys ∙ ap (λ (q : ℕ). line_start (line_start (if is "\n" x then p + 1 otherwise s) (p + 1) xs) q ys) e

-- what is known of the line and the start of the line before the first i bytes
pub record Lined (text : List ℕ) (i line start : ℕ) : Type 0 where
  pub lines : line ≡ 1 + line_feeds (take i text)
  pub starts : start ≡ line_start 0 0 (take i text)
  pub few : line ≤ i + 1
  pub early : start ≤ i

pub lined-none : (text : List ℕ) → Lined text 0 1 0
unfolding line_feeds line_start
lined-none text = record { lines = refl; starts = refl; few = omega arith; early = omega arith }

module _ (text : List ℕ) (i : ℕ) {line start : ℕ} (h : i < length text) (k : Lined text i line start) where
  feeds_more : line_feeds (take (i + 1) text) ≡ line_feeds (take i text) + line_feeds (get_or text i 0 ∷ [])
  feeds_more = rw (add-one, take-suc text i 0) (feeds_append (take i text) (get_or text i 0 ∷ []))

  start-more : line_start 0 0 (take (i + 1) text) ≡ line_start (line_start 0 0 (take i text)) i (get_or text i 0 ∷ [])
  start-more =
      let e : 0 + length (take i text) ≡ i = omega (arith, length-take-le i text (omega arith)) in
      rw (add-one, take-suc text i 0) (start-append 0 0 (take i text) (get_or text i 0 ∷ []) ∙ rw e)

  pub lined-feed : get_or text i 0 ≡ 0x0A → Lined text (i + 1) (line + 1) (i + 1)
  unfolding line_feeds line_start
  lined-feed b = record {
    lines = let l = k.lines in let f : line_feeds (take (i + 1) text) ≡ line_feeds (take i text) + 1 = feeds_more ∙ rw (eq-eqb (get_or text i 0) 0x0A b) in omega arith;
    starts = sym (start-more ∙ rw (eq-eqb (get_or text i 0) 0x0A b));
    few = let f = k.few in omega arith;
    early = omega arith;
  }

  pub lined-other : (get_or text i 0 ≡ 0x0A → ⊥) → Lined text (i + 1) line start
  unfolding line_feeds line_start
  lined-other b = record {
    lines = let l = k.lines in let f : line_feeds (take (i + 1) text) ≡ line_feeds (take i text) + 0 = feeds_more ∙ rw (ne_eqb (get_or text i 0) 0x0A b) in omega arith;
    starts = k.starts ∙ sym (start-more ∙ rw (ne_eqb (get_or text i 0) 0x0A b));
    few = let f = k.few in omega arith;
    early = let f = k.early in omega arith;
  }

-- at the end of the bytes before the place
pub lined-end : (text : List ℕ) (n place i : ℕ) {line start : ℕ} → Lined (take n text) i line start → n ≡ min place (length text)
    → length (take n text) ≤ i → (line ≡ line_at text place) × (place - start ≡ column_at text place)
unfolding line_at column_at
lined-end text n place i k e w = rw (k.lines, k.starts, all) (refl, refl)
  where
    all : take i (take n text) ≡ take place text
    all = take_all i (take n text) w ∙ rw e (take_min place text)
