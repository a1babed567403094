-- `tokens::eat_identifier_value` meets its contract. Assumes nothing.
use Rattle.tokens.proofs.Stream.{eat-name}
use Rattle.tokens.proofs.eat_identifier_value.Goals as goal

pub returns : goal.returns
returns c = eat-name _ _ (rw c.name.ensures at c.says.ensures) c.eat_if.ensures
