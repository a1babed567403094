use Rattle.notation.specs.Parser.{size}
use Rattle.notation.specs.Expressions.{parse_repeat}
use Rattle.tokens.specs.Promise.{stream}
use Rattle.parser.specs.Storing.{lent_of, Kept}
use Rattle.parser.specs.Shapes.{repeat_nodes}
use Rattle.parser.proofs.Lists.{Listing}
use Rattle.parser.proofs.parts.parse_repeats.Given as goal

abbrev pub invariant-loop-kind : goal.invariant-loop-kind
invariant-loop-kind l =
    record {
      kept : Kept l.initial.store l.store;
      listing : Listing (parse_repeat l.stack) (repeat_nodes l.start) l.source l.initial.t 0 (lent_of l.initial.store) l.t (lent_of l.store) l.count;
    }

abbrev pub decreases-loop-kind : goal.decreases-loop-kind
decreases-loop-kind l = size (stream l.source l.t)
