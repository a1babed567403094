-- `store::Store::put_value` meets its contract.
-- Assumes nothing.
use native.Mathlib.Omega.{arith}
use Rattle.parser.proofs.Stored.{value-rest}
use Rattle.parser.proofs.store.Store.put_value.Goals as goal

pub returns-clause-value : goal.returns-clause-value
returns-clause-value c h = let e = c.decode_string-2.ensures in rw e.1 (value-rest _ _ _ (omega arith))
