-- `tree::same_bytes` meets its contract. Assumes nothing.
use Rattle.std.proofs.lemmas.Bool.Decides.{Decides-eqb}
use Rattle.std.proofs.lemmas.Slice.Eq.{slice_eq-Decides}
use Rattle.basics.proofs.Same.{same_by}
use Rattle.tree.proofs.same_bytes.Goals as goal

pub returns : goal.returns
returns c = let d = slice_eq-Decides Decides-eqb _ _ _ c.eq.ensures in same_by _ _ _ d.0 d.1
