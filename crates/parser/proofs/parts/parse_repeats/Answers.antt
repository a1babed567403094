-- `parts::parse_repeats` meets its contract.
-- Assumes nothing.
use Rattle.notation.specs.Limits.{repeats}
use Rattle.parser.proofs.HeadRules.{repeated-some, repeated-none, repeats-over, repeats-small, repeats-full, repeats_halt, repeats-more}
use Rattle.parser.proofs.Lists.{listing_start}
use Rattle.parser.proofs.PartRules.{plain_asks}
use Rattle.parser.proofs.Ready.{ready_on}
use Rattle.parser.proofs.Stored.{kept_here, kept_then}
use Rattle.tokens.proofs.Stops.{stopped}
use mathlib.Core.Path.{◌∙◌}
use native.Mathlib.Omega.{arith}
use Rattle.parser.proofs.parts.parse_repeats.Goals as goal

pub loop-kind-init : goal.loop-kind-init
loop-kind-init c = record { kept = kept_here _; listing = listing_start _ _ _ _ _ _ c.requires.0.lies }

pub returns-clause-parses : goal.returns-clause-parses
returns-clause-parses c = repeats-over c.args.stack c.args.start c.loop-kind.invariant.listing (repeated-none (c.repeat_kind.ensures ∙ rw c.mark.ensures) c.in_default.is)

pub overflow_add-stack : goal.overflow_add-stack
unfolding repeats
overflow_add-stack c = omega (arith, repeats-small c.args.stack c.args.start c.loop-kind.invariant.listing c.requires.0.small, c.requires.2)

pub returns-then-stack-count-eq-REPEATS-clause-parses : goal.returns-then-stack-count-eq-REPEATS-clause-parses
unfolding repeats
returns-then-stack-count-eq-REPEATS-clause-parses c = repeats-full c.args.stack c.args.start c.loop-kind.invariant.listing (repeated-some (c.repeat_kind.ensures ∙ rw c.mark.ensures) c.in-Some.is) c.if-stack-count-eq-REPEATS.true c.start.ensures

pub returns-in_err-t-clause-parses : goal.returns-in_err-t-clause-parses
unfolding repeats
returns-in_err-t-clause-parses c = rw (stopped c.from_residual.result c.from_residual.ensures.1) (repeats_halt c.args.stack c.args.start c.loop-kind.invariant.listing (repeated-some (c.repeat_kind.ensures ∙ rw c.mark.ensures) c.in-Some.is) c.if-stack-count-eq-REPEATS.false c.in_err-t.ensures.0)

pub put_plain-requires : goal.put_plain-requires
put_plain-requires c = let l = c.loop-kind.invariant.listing in plain_asks (ready_on c.requires.0 l.onward l.lays) c.requires.1 (omega arith)

pub overflow_add-count : goal.overflow_add-count
overflow_add-count c = omega (arith, repeats-small c.args.stack c.args.start c.loop-kind.invariant.listing c.requires.0.small)

pub loop-kind-smaller : goal.loop-kind-smaller
unfolding repeats
loop-kind-smaller c =
    omega (arith, (repeats-more c.args.stack c.args.start c.loop-kind.invariant.listing (repeated-some (c.repeat_kind.ensures ∙ rw c.mark.ensures) c.in-Some.is) c.if-stack-count-eq-REPEATS.false c.in_ok-t.ensures c.value.ensures c.put_plain.ensures.stores).0.fewer)

pub loop-kind-preserved : goal.loop-kind-preserved
unfolding repeats
loop-kind-preserved c =
    record {
      kept = kept_then c.loop-kind.invariant.kept c.put_plain.ensures.kept;
      listing = (repeats-more c.args.stack c.args.start c.loop-kind.invariant.listing (repeated-some (c.repeat_kind.ensures ∙ rw c.mark.ensures) c.in-Some.is) c.if-stack-count-eq-REPEATS.false c.in_ok-t.ensures c.value.ensures c.put_plain.ensures.stores).1;
    }
