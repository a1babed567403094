-- `characters::in_white_space` meets its contract. The table is in order: a computed test. Assumes nothing.
use mathlib.Core.Path.{refl}
use Rattle.characters.specs.Classes.{is_whitespace, white_space}
use Rattle.characters.specs.Promise.{flat, ascending}
use Rattle.characters.proofs.in_white_space.Goals as goal

pub in_spans-requires : goal.in_spans-requires
unfolding ascending
in_spans-requires c = tt

pub returns : goal.returns
unfolding is_whitespace flat white_space
returns c = c.in_spans.ensures white_space refl
