use Prim.Native.Nat.{◌+◌, ◌≤◌}
use Rattle.notation.specs.Parser.{size, until_step, eat}
use Rattle.tokens.specs.Promise.{stream}
use Rattle.parser.specs.Storing.{lent_of, Kept}
use Rattle.parser.specs.Steps.{placed, between_by}
use Rattle.parser.specs.Lists.{Listed, ReadsItems, as_read}
use Rattle.parser.proofs.Lists.{Listing}
use Rattle.parser.proofs.props.until.Given as goal

abbrev pub invariant-loop-item : goal.invariant-loop-item
invariant-loop-item g l =
    record {
      kept : Kept l.initial.store l.store;
      listing : (k : Listed) → ReadsItems l.source l.close (goal.F-post g l.item) k → Listing (until_step (eat k.mark) (between_by l.comma) (λ _. k.item)) as_read l.source l.initial.t 0 (lent_of l.initial.store) l.t (lent_of l.store) l.count;
      few : l.count + placed l.source l.initial.t ≤ placed l.source l.t;
    }

abbrev pub decreases-loop-item : goal.decreases-loop-item
decreases-loop-item g l = size (stream l.source l.t)
