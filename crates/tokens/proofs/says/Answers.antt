-- `tokens::says` meets its contract. Assumes nothing.
use Rattle.tokens.proofs.Stream.{says-part}
use Rattle.tokens.proofs.says.Goals as goal

pub returns-in-Some : goal.returns-in-Some
returns-in-Some c = says-part _ _ c.requires c.in-Some.is (rw c.of.ensures at c.spells.ensures)
