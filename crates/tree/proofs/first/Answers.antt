-- `tree::first` meets its contract. The loop's invariant: what is left to count back gives the same record. Assumes nothing.
use mathlib.Core.Path.{◌≡◌, sym, ◌∙◌}
use Prim.Native.Nat.{◌+◌, ◌-◌}
use native.Mathlib.Omega.{arith}
use Rattle.tree.proofs.Back.{first-none, first-few, first-low, first_step}
use Rattle.tree.proofs.first.Goals as goal

pub returns-then-need-eq0 : goal.returns-then-need-eq0
returns-then-need-eq0 c =
    let e : c.loop-i.i - 1 + 1 ≡ c.loop-i.i = omega arith in
    rw e (sym (first-none c.args.records.now c.loop-i.i) ∙ rw c.if-need-eq0.true at c.loop-i.invariant)

pub returns-then-i-need : goal.returns-then-i-need
returns-then-i-need c = sym (first-few c.args.records.now c.loop-i.i c.loop-i.need (omega arith)) ∙ c.loop-i.invariant

pub loop-i-preserved : goal.loop-i-preserved
loop-i-preserved c = rw c.word.ensures (sym (first_step c.args.records.now c.loop-i.i c.loop-i.need (omega arith) (omega arith)) ∙ c.loop-i.invariant)

pub returns : goal.returns
returns c = omega (arith, first-low c.args.records.now c.loop-i.i c.loop-i.need)
