-- `output::put` meets its contract. Assumes nothing.
use mathlib.Core.Path.{refl, ap, ◌∙◌}
use native.Mathlib.Omega.{arith}
use lib.ListN.{length}
use Rattle.output.proofs.Writes.{length-begun, begun-step, wrote_all}
use Rattle.output.proofs.put.Goals as goal

pub loop-i-init : goal.loop-i-init
loop-i-init c = (omega arith, omega arith, refl)

pub bounds-out-i : goal.bounds-out-i
bounds-out-i c = let h = c.loop-i.invariant in omega (arith, h.1, ap length h.2 ∙ length-begun _ _ _ h.0 h.1)

pub loop-i-preserved : goal.loop-i-preserved
loop-i-preserved c = let h = c.loop-i.invariant in (omega arith, h.1, rw h.2 (begun-step _ _ _ h.0 h.1 (omega arith)))

pub returns : goal.returns
returns c = let h = c.loop-i.invariant in wrote_all _ _ _ h.0 h.1 h.2 (omega arith)
