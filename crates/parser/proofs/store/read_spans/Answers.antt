-- `store::read_spans` meets its contract.
-- Assumes nothing.
use native.Mathlib.Omega.{arith}
use mathlib.Core.Path.{sym}
use Rattle.characters.proofs.Written.{written_not}
use Rattle.parser.proofs.Spread.{read-rest}
use Rattle.parser.proofs.store.read_spans.Goals as goal

pub returns-then-records-n-clause-words : goal.returns-then-records-n-clause-words
returns-then-records-n-clause-words c q = sym (written_not _ _ _ (omega arith))

pub returns-clause-words : goal.returns-clause-words
returns-clause-words c q = rw c.parse_set_ranges-2.ensures.1 (read-rest _ _ _ q (omega arith))
