-- `put_refusal` meets its contract. Assumes nothing.
use mathlib.Core.Path.{refl}
use Rattle.front.specs.Respond.{said}
use Rattle.front.proofs.Writes.{then-last}
use Rattle.front.proofs.put_refusal.Goals as goal

pub returns : goal.returns
unfolding said
returns g c = then-last _ _ _ _ _ _ _ refl c.in_ok-put_label.ensures c.write.ensures.bytes
