-- `store::spread` meets its contract.
-- Assumes nothing.
use native.Mathlib.Omega.{arith}
use Rattle.parser.proofs.Spread.{spread_none, spread_narrow, spread_all, spread_on}
use Rattle.parser.proofs.store.spread.Goals as goal

pub returns-then-records-n : goal.returns-then-records-n
returns-then-records-n c = spread_narrow _ _ _ _ (omega arith)

pub loop-i-init : goal.loop-i-init
loop-i-init c = (omega arith, spread_none _ _ _ _)

pub loop-i-preserved : goal.loop-i-preserved
loop-i-preserved c = (c.loop-i.invariant.0, spread_on _ _ _ _ c.loop-i.invariant.0 _ _ _ c.loop-i.invariant.1 (omega arith) _ c.put_span.ensures)

pub returns : goal.returns
returns c = spread_all _ _ _ _ c.loop-i.invariant.0 _ _ c.loop-i.invariant.1 (omega arith)
