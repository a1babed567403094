-- `parts::is_std` meets its contract.
-- Assumes nothing.
use Rattle.basics.specs.Basics.{letters, every}
use Rattle.parser.proofs.HeadRules.{std_spelled, part-spells}
use mathlib.Core.Path.{refl}
use Rattle.parser.proofs.parts.is_std.Goals as goal

pub returns-then-mark : goal.returns-then-mark
unfolding every
returns-then-mark c = std_spelled _ c.args.name c.args.token c.mark.ensures c.if-mark.true (part-spells _ (letters "std") c.requires refl (rw c.of.ensures at c.spells.ensures))
