-- `tokens::next` meets its contract. Assumes nothing.
use Rattle.tokens.proofs.Stream.{next-token, next-end}
use Rattle.tokens.proofs.next.Goals as goal

pub returns-in-Of : goal.returns-in-Of
returns-in-Of c = next-token _ _ c.in-Of.is c.arrive.ensures

pub returns-in-Eof : goal.returns-in-Eof
returns-in-Eof c = next-end _ c.in-Eof.is
