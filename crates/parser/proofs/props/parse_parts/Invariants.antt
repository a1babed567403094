use Rattle.notation.specs.Parser.{size}
use Rattle.notation.specs.Expressions.{parse_part}
use Rattle.tokens.specs.Promise.{stream}
use Rattle.tree.specs.Stored.{part_branch}
use Rattle.parser.specs.Storing.{lent_of, Kept, nodes_of}
use Rattle.parser.proofs.Lists.{Listing}
use Rattle.parser.proofs.props.parse_parts.Given as goal

abbrev pub invariant-loop-after : goal.invariant-loop-after
invariant-loop-after l =
    record {
      kept : Kept l.initial.store l.store;
      listing : Listing parse_part (nodes_of part_branch) l.source l.initial.t 0 (lent_of l.initial.store) l.t (lent_of l.store) l.count;
    }

abbrev pub decreases-loop-after : goal.decreases-loop-after
decreases-loop-after l = size (stream l.source l.t)
