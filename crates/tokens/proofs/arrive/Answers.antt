-- `tokens::arrive` meets its contract. Assumes nothing.
use Rattle.tokens.proofs.Stream.{arrived}
use Rattle.tokens.proofs.arrive.Goals as goal

pub returns : goal.returns
returns c = arrived _ _ _ c.next.ensures
