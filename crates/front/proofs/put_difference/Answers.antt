-- `put_difference` meets its contract. Assumes nothing.
use Prim.Native.Nat.{ℕ, zero, suc, ◌<◌}
use native.Mathlib.Omega.{arith}
use mathlib.Core.Path.{◌≡◌, sym, ◌∙◌}
use mathlib.Core.Bool.{Bool, true, false, not}
use mathlib.Core.List.{List}
use lib.Dec.{eqb}
use lib.Pointwise.{pointwise}
use Rattle.std.specs.Bool.{◌==◌}
use Rattle.std.proofs.Math.Dec.{eqb-suc-zero}
use Rattle.std.proofs.KnownBytes.{Appends-nil}
use Rattle.basics.specs.Basics.{same}
use Rattle.basics.proofs.Tests.{impossible}
use Rattle.front.proofs.Differences.{pointwise-same, left-alone, right_alone, both-empty, lines-equal, lines-differ, behind}
use Rattle.front.proofs.put_difference.Goals as goal

-- what a test of emptiness says
filled : (n : ℕ) → false ≡ (n == 0) → 0 < n
filled zero e = impossible (cc)
filled (suc n) e = omega arith

none : (n : ℕ) → true ≡ (n == 0) → n ≡ 0
none zero e = omega arith
none (suc n) e = let z : (suc n == 0) ≡ false = eqb-suc-zero n in impossible (cc)

-- what a test of two lines says
differ : (a b : List ℕ) → true ≡ not (pointwise eqb a b) → same a b ≡ false
differ a b e = sym (pointwise-same a b) ∙ flipped (pointwise eqb a b) e
  where
    flipped : (c : Bool) → true ≡ not c → c ≡ false
    flipped true h = impossible (cc)
    flipped false h = cc

equal : (a b : List ℕ) → false ≡ not (pointwise eqb a b) → same a b ≡ true
equal a b e = sym (pointwise-same a b) ∙ flipped (pointwise eqb a b) e
  where
    flipped : (c : Bool) → false ≡ not c → c ≡ true
    flipped true h = cc
    flipped false h = impossible (cc)

pub returns-then-is_empty : goal.returns-then-is_empty
returns-then-is_empty g c =
    let i = c.loop-a.invariant in
    let d = i.same ∙ left-alone c.loop-a.a.now c.loop-a.b.now c.line_length-m.result (filled _ c.loop-a-test.ensures) c.line_length-m.ensures (none _ c.if-is_empty.ensures) in
    rw (d, ← i.kept) c.put_marked.ensures

pub returns-then-ne : goal.returns-then-ne
returns-then-ne g c =
    let i = c.loop-a.invariant in
    let d = i.same ∙ lines-differ c.loop-a.a.now c.loop-a.b.now c.line_length-m.result (filled _ c.loop-a-test.ensures) c.line_length-m.ensures
    c.line_length-n.result (filled _ c.if-is_empty.ensures) c.line_length-n.ensures (differ _ _ c.if-ne.ensures) in
    rw (d, ← i.kept) c.put_both.ensures

pub loop-a-preserved : goal.loop-a-preserved
loop-a-preserved g c =
    let i = c.loop-a.invariant in
    let d = i.same ∙ lines-equal c.loop-a.a.now c.loop-a.b.now c.line_length-m.result (filled _ c.loop-a-test.ensures) c.line_length-m.ensures
    c.line_length-n.result (filled _ c.if-is_empty.ensures) c.line_length-n.ensures (equal _ _ c.if-ne.ensures) in
    record { same = rw (behind c.line_length-m.result c.loop-a.a.now, behind c.line_length-n.result c.loop-a.b.now) d; kept = i.kept }

pub returns-then-is_empty-2 : goal.returns-then-is_empty-2
returns-then-is_empty-2 g c =
    let i = c.loop-a.invariant in
    let d = i.same ∙ both-empty c.loop-a.a.now c.loop-a.b.now (none _ c.loop-a-test.ensures) (none _ c.if-is_empty-2.ensures) in
    rw (d, i.kept) (Appends-nil _)

pub returns : goal.returns
returns g c =
    let i = c.loop-a.invariant in
    let d = i.same ∙ right_alone c.loop-a.a.now c.loop-a.b.now c.line_length.result (none _ c.loop-a-test.ensures) (filled _ c.if-is_empty-2.ensures) c.line_length.ensures in
    rw (d, ← i.kept) c.put_marked-2.ensures
