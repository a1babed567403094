-- `tokens::parse_identifier` meets its contract. Assumes nothing.
use Rattle.tokens.proofs.Stream.{identifies}
use Rattle.tokens.proofs.parse_identifier.Goals as goal

pub returns : goal.returns
returns c = identifies _ _ (rw c.name.ensures at c.take.ensures)
