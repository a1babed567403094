-- `store::Store::put_spans` meets its contract.
-- Assumes nothing.
use native.Mathlib.Omega.{arith}
use Rattle.parser.proofs.Spread.{set-few, set-stores}
use Rattle.parser.proofs.store.Store.put_spans.Goals as goal

pub spread-requires : goal.spread-requires
spread-requires c = let f = set-few _ c.in_ok-count.ensures.checks in omega arith

pub overflow_mul-self : goal.overflow_mul-self
overflow_mul-self c = let f = set-few _ c.in_ok-count.ensures.checks in omega arith

pub overflow_add-self : goal.overflow_add-self
overflow_add-self c = let f = set-few _ c.in_ok-count.ensures.checks in omega arith

pub returns-clause-stores : goal.returns-clause-stores
returns-clause-stores c = set-stores _ _ _ _ _ _ _ _ _ c.in_ok-count.ensures.checks c.in_ok-count.ensures.words c.spread.ensures
