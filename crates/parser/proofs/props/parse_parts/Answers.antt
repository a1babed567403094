-- `props::parse_parts` meets its contract.
-- Assumes nothing.
use native.Mathlib.Omega.{arith}
use Rattle.tokens.proofs.Stops.{stopped}
use Rattle.tree.specs.Stored.{part_branch}
use Rattle.parser.proofs.Stored.{kept_here, kept_then}
use Rattle.parser.proofs.Ready.{ready_on, listing-small}
use Rattle.parser.proofs.Lists.{listing_start}
use Rattle.parser.proofs.Openings.{turn-over, turn-refused, turn_more}
use Rattle.parser.proofs.PropRules.{part-any}
use Rattle.parser.proofs.props.parse_parts.Goals as goal

pub loop-after-init : goal.loop-after-init
loop-after-init c = record { kept = kept_here _; listing = listing_start _ _ _ _ _ _ c.requires.lies }

pub parse_part-requires : goal.parse_part-requires
parse_part-requires c = let l = c.loop-after.invariant.listing in ready_on c.requires l.onward l.lays

pub returns-in_err-after-clause-parses : goal.returns-in_err-after-clause-parses
returns-in_err-after-clause-parses c = rw (stopped c.from_residual.result c.from_residual.ensures.1) (turn-refused c.loop-after.invariant.listing (part-any _ _) c.in_err-after.ensures.parses)

pub overflow_add-count : goal.overflow_add-count
overflow_add-count c = omega (arith, listing-small part_branch c.loop-after.invariant.listing c.requires.small (omega arith))

pub loop-after-smaller : goal.loop-after-smaller
loop-after-smaller c = omega (arith, (turn_more c.loop-after.invariant.listing (part-any _ _) (rw c.in-Some.is at c.in_ok-after.ensures.parses)).0.fewer)

pub loop-after-preserved : goal.loop-after-preserved
loop-after-preserved c =
    record {
      kept = kept_then c.loop-after.invariant.kept c.parse_part.ensures.kept;
      listing = (turn_more c.loop-after.invariant.listing (part-any _ _) (rw c.in-Some.is at c.in_ok-after.ensures.parses)).1;
    }

pub returns-clause-parses : goal.returns-clause-parses
returns-clause-parses c = turn-over c.loop-after.invariant.listing (part-any _ _) (rw c.in_default.is at c.in_ok-after.ensures.parses)
