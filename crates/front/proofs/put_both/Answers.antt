-- `put_both` meets its contract. Assumes nothing.
use mathlib.Core.Path.{refl}
use Rattle.front.specs.Differences.{both}
use Rattle.front.proofs.Writes.{then-last}
use Rattle.front.proofs.put_both.Goals as goal

pub returns : goal.returns
unfolding both
returns g c = then-last _ _ _ _ _ _ _ refl c.in_ok-put_marked.ensures c.put_marked-2.ensures
