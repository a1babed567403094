-- `tokens::eat_at` meets its contract. Assumes nothing.
use Rattle.tokens.proofs.Stream.{eat-at}
use Rattle.tokens.proofs.eat_at.Goals as goal

pub returns : goal.returns
returns c = eat-at _ _ (rw c.at.ensures at c.says.ensures) c.eat_if.ensures
