-- `bare_length` meets its contract. Assumes nothing.
use Prim.Native.Nat.{ℕ, suc, ◌+◌, ◌≤◌, ◌<◌}
use native.Mathlib.Omega.{arith}
use mathlib.Core.Path.{◌≡◌, refl}
use mathlib.Core.List.{List}
use lib.ListN.{length, drop, get_or}
use borrow.Author.Tests.{eq-eqb, ne_eqb}
use Rattle.std.proofs.Math.Seq.{drop-cons}
use Rattle.std.proofs.Math.ListN.{drop_of_length-le}
use Rattle.front.specs.Differences.{bare_line}
use Rattle.front.proofs.bare_length.Goals as goal

module _ (s : List ℕ) (i : ℕ) (h : i < length s) where
  -- a line feed at a place ends the line, any other byte goes on
  feed-at : get_or s i 0 ≡ 10 → length (bare_line (drop i s)) ≡ 0
  unfolding bare_line
  feed-at e = rw (drop-cons s i 0 h, eq-eqb (get_or s i 0) 10 e) refl

  other-at : (get_or s i 0 ≡ 10 → ⊥) → length (bare_line (drop i s)) ≡ suc (length (bare_line (drop (suc i) s)))
  unfolding bare_line
  other-at e = rw (drop-cons s i 0 h, ne_eqb (get_or s i 0) 10 e) refl

at-end : (s : List ℕ) (i : ℕ) → length s ≤ i → length (bare_line (drop i s)) ≡ 0
unfolding bare_line
at-end s i h = rw (drop_of_length-le s h) refl

pub returns-then-byte-eq10 : goal.returns-then-byte-eq10
returns-then-byte-eq10 c =
    let i = c.loop-byte.invariant in
    let h : c.loop-byte.n < length c.args.line.now = omega (arith, i.at, c.loop-byte-test.true) in
    omega (arith, i.counts, feed-at c.args.line.now c.loop-byte.n h (rw i.at c.if-byte-eq10.true))

pub loop-byte-preserved : goal.loop-byte-preserved
loop-byte-preserved c =
    let i = c.loop-byte.invariant in
    let h : c.loop-byte.n < length c.args.line.now = omega (arith, i.at, c.loop-byte-test.true) in
    let next : c.loop-byte.n + 1 ≡ suc c.loop-byte.n = omega arith in
    record { at = omega (arith, i.at); counts = rw next (omega (arith, i.counts, other-at c.args.line.now c.loop-byte.n h (rw i.at c.if-byte-eq10.false))) }

pub returns : goal.returns
returns c =
    let i = c.loop-byte.invariant in
    omega (arith, i.counts, at-end c.args.line.now c.loop-byte.n (omega (arith, i.at, c.loop-byte-test.false)))
