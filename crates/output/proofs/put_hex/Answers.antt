-- `output::put_hex` meets its contract. The invariant: the digits at the first powers are written. Assumes nothing.
use mathlib.Core.Path.{◌≡◌}
use native.Mathlib.Omega.{arith}
use Rattle.output.proofs.Digits.{first_digits, first-next, first-small, first-all}
use Rattle.output.proofs.Writes.{wrote_none, then}
use Rattle.output.proofs.put_hex.Goals as goal

pub loop-unit-init : goal.loop-unit-init
unfolding first_digits
loop-unit-init c = wrote_none _

pub overflow_add-n : goal.overflow_add-n
overflow_add-n c = omega (arith, c.loop-unit.invariant.counts, first-small c.args.code c.loop-unit.unit-index, c.put_digit-n.ensures.few, c.loop-unit-test.true)

pub loop-unit-preserved : goal.loop-unit-preserved
loop-unit-preserved c = rw (← first-next c.args.code c.loop-unit.unit-index) (then c.loop-unit.invariant c.upto-a.ensures c.put_digit-n.ensures.digit)

pub overflow_add-result : goal.overflow_add-result
overflow_add-result c = omega (arith, c.loop-unit.invariant.counts, first-small c.args.code c.loop-unit.unit-index, c.loop-unit.auto.unit-index-end, c.put.ensures.counts)

pub returns : goal.returns
returns c =
    let e : c.loop-unit.unit-index ≡ 5 = omega (arith, c.loop-unit.auto.unit-index-end, c.loop-unit-test.false) in
    rw (← first-all _, ← c.hex_digit.ensures) (then (rw e at c.loop-unit.invariant) c.upto-end.ensures c.put.ensures)
