-- `characters::put` meets its contract. Assumes nothing.
use mathlib.Core.Path.{sym}
use Rattle.characters.proofs.Written.{written_not, written-empty, written-rest}
use native.Mathlib.Omega.{arith}
use Rattle.characters.proofs.put.Goals as goal

pub returns-then-out-at : goal.returns-then-out-at
returns-then-out-at c = (c.encode_utf8.ensures.0, rw (c.encode_utf8.ensures.1, written-empty) (sym (written_not _ _ _ (omega arith))))

pub returns : goal.returns
returns c = (c.encode_utf8-2.ensures.0, rw c.encode_utf8-2.ensures.1 (written-rest _ _ _ c.if-out-at.false))
