-- `error::line_info` meets its contract. Assumes nothing.
use Rattle.error.proofs.Lines.{lined-none, lined-feed, lined-other, lined-end}
use Rattle.error.proofs.line_info.Goals as goal
use Rattle.error.proofs.line_info.Goals.{then-byte-eq10, else-byte-eq10}

pub loop-at-init : goal.loop-at-init
loop-at-init c = lined-none _

pub loop-at-preserved : goal.loop-at-preserved
loop-at-preserved c = elim c.if-byte-eq10.branch [
  | then-byte-eq10 w ↦ rw (w.line-is, w.start-is) (lined-feed _ _ c.loop-at-test.true c.loop-at.invariant w.if-byte-eq10.true)
  | else-byte-eq10 w ↦ rw (w.line-is, w.start-is) (lined-other _ _ c.loop-at-test.true c.loop-at.invariant w.if-byte-eq10.false)
]

pub returns : goal.returns
returns c = lined-end _ _ _ _ c.loop-at.invariant c.min.ensures c.loop-at-test.false
