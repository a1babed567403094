-- `characters::in_alphabetic` meets its contract. The table is in order: a computed test. Assumes nothing.
use mathlib.Core.Path.{refl}
use Rattle.characters.specs.Alphabetic.{is_alphabetic, spans}
use Rattle.characters.specs.Promise.{flat, ascending}
use Rattle.characters.proofs.in_alphabetic.Goals as goal

pub in_spans-requires : goal.in_spans-requires
unfolding ascending
in_spans-requires c = tt

pub returns : goal.returns
unfolding is_alphabetic flat spans
returns c = c.in_spans.ensures spans refl
