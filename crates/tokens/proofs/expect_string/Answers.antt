-- `tokens::expect_string` meets its contract. Assumes nothing.
use Rattle.tokens.proofs.Stream.{takes-string}
use Rattle.tokens.proofs.expect_string.Goals as goal

pub returns : goal.returns
returns c = takes-string _ _ (rw c.string.ensures at c.take.ensures)
