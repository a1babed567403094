-- `lexer::opens_set` meets its contract. Assumes nothing.
use native.Mathlib.Omega.{arith}
use Rattle.std.proofs.lemmas.Bool.Decides.{nat_tests}
use Rattle.characters.proofs.Chars.{first_eq}
use Rattle.lexer.specs.Promise.{opens_set}
use Rattle.lexer.proofs.opens_set.Goals as goal

pub returns-then-matches : goal.returns-then-matches
unfolding opens_set
returns-then-matches c = let e = first_eq _ _ c.peek.ensures (omega arith) c.eq.ensures in grind (arith, nat_tests)
