-- `answers::put` meets its contract. Assumes nothing.
use native.Mathlib.Omega.{arith}
use Rattle.answers.proofs.Laid.{laid_in, laid_out}
use Rattle.answers.proofs.put.Goals as goal

pub returns-then-out-ge6 : goal.returns-then-out-ge6
returns-then-out-ge6 c = rw c.copy_from_slice.ensures.after (laid_in _ _ 6 (omega arith) (omega arith))

pub returns-else-out-ge6 : goal.returns-else-out-ge6
returns-else-out-ge6 c = laid_out _ _ (omega arith)
