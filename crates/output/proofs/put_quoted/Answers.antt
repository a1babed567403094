-- `output::put_quoted` meets its contract. The invariant: the quote and the first bytes of the text are written. Assumes nothing.
use mathlib.Core.List.{[], ◌∷◌}
use native.Mathlib.Omega.{arith}
use lib.ListN.{get_or, take, length-take}
use lib.Seq.{take_all}
use Rattle.spelling.specs.Spelling.{quoted}
use Rattle.spelling.proofs.Bytes.{quoted-small, string-parts}
use Rattle.output.proofs.Writes.{then, quoted-next}
use Rattle.output.proofs.put_quoted.Goals as goal

pub loop-b-init : goal.loop-b-init
unfolding quoted
loop-b-init c = c.put-n.ensures

pub loop-b-preserved : goal.loop-b-preserved
loop-b-preserved c = rw (← quoted-next c.loop-b.b-index c.args.s.now c.loop-b-test.true) (then c.loop-b.invariant c.upto-a.ensures c.put_escaped-n.ensures)

pub overflow_add-n : goal.overflow_add-n
overflow_add-n c = omega (arith, c.loop-b.invariant.counts, quoted-small (take c.loop-b.b-index c.args.s.now), length-take c.loop-b.b-index c.args.s.now, c.put_escaped-n.ensures.counts, quoted-small (get_or c.args.s.now c.loop-b.b-index 0 ∷ []))

pub overflow_add-result : goal.overflow_add-result
overflow_add-result c = omega (arith, c.loop-b.invariant.counts, quoted-small (take c.loop-b.b-index c.args.s.now), length-take c.loop-b.b-index c.args.s.now, c.put.ensures.counts)

pub returns : goal.returns
returns c = rw (← string-parts _) (then (rw (take_all c.loop-b.b-index c.args.s.now c.loop-b-test.false) at c.loop-b.invariant) c.upto-end.ensures c.put.ensures)
