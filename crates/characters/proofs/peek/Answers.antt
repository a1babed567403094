-- `characters::peek` meets its contract. Assumes nothing.
use Rattle.std.proofs.Common.{rules}
use Rattle.characters.proofs.Chars.{first-decoded}
use Rattle.characters.proofs.peek.Goals as goal

pub returns : goal.returns
returns c = first-decoded _ _ _ _ c.decode.ensures c.map.ensures.cases (λ x y l. search rules)
