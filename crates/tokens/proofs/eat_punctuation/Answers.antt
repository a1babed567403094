-- `tokens::eat_punctuation` meets its contract. Assumes nothing.
use Rattle.tokens.proofs.Stream.{eat-mark}
use Rattle.tokens.proofs.eat_punctuation.Goals as goal

pub returns : goal.returns
returns c = eat-mark _ _ c.mark.ensures c.eat_if.ensures
