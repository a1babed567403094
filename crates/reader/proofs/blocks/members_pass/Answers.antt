-- `blocks::members_pass` meets its contract.
-- Assumes nothing.
use native.Mathlib.Omega.{arith}
use mathlib.Core.Path.{refl, ◌∙◌}
use Rattle.tokens.proofs.Stops.{stopped}
use Rattle.parser.proofs.Stored.{kept_here, kept_then}
use Rattle.parser.proofs.Openings.{item-onward}
use Rattle.reader.proofs.KindTests.{is_named_node}
use Rattle.reader.proofs.Membering.{members-refused, member_refused}
use Rattle.reader.proofs.Spreading.{spreading_start, spreading_small, spreading_begins, spreading_closed, spreading_onward, spreading_next}
use Rattle.reader.proofs.blocks.members_pass.Goals as goal

pub loop-after-init : goal.loop-after-init
loop-after-init c = record { kept = kept_here _; spreading = spreading_start _ _ _ _ _ _ _ c.requires.lies }

pub opening-requires : goal.opening-requires
opening-requires c = (c.loop-after.invariant.spreading.membering.listing.onward.lies, omega arith)

pub returns-in_err-after-clause-spreads : goal.returns-in_err-after-clause-spreads
returns-in_err-after-clause-spreads c = rw (stopped c.from_residual.result c.from_residual.ensures.1) (members-refused c.loop-after.invariant.spreading.membering c.comma.ensures c.in_err-after.ensures)

pub returns-in-Closed-clause-spreads : goal.returns-in-Closed-clause-spreads
returns-in-Closed-clause-spreads c = spreading_closed c.loop-after.invariant.spreading c.comma.ensures (rw c.in-Closed.is at c.in_ok-after.ensures)

pub member_placed-requires : goal.member_placed-requires
member_placed-requires c = spreading_begins c.loop-after.invariant.spreading c.requires (item-onward "}" (rw c.in-Item.is at c.in_ok-after.ensures)).lies

pub returns-in_err-joined-in-Item-clause-spreads : goal.returns-in_err-joined-in-Item-clause-spreads
returns-in_err-joined-in-Item-clause-spreads c =
    rw (stopped c.from_residual-in_err-joined-in-Item.result c.from_residual-in_err-joined-in-Item.ensures.1)
    (member_refused c.loop-after.invariant.spreading.membering c.comma.ensures (rw c.in-Item.is at c.in_ok-after.ensures) c.in_err-joined-in-Item.ensures.settles)

pub overflow_add-words : goal.overflow_add-words
overflow_add-words c =
    let k = (spreading_small (spreading_next c.loop-after.invariant.spreading c.comma.ensures (rw c.in-Item.is at c.in_ok-after.ensures) c.requires c.in_ok-joined-in-Item.ensures.settles refl) c.requires.small).2 in
    omega arith

pub overflow_add-bytes : goal.overflow_add-bytes
overflow_add-bytes c =
    let k = (spreading_small (spreading_next c.loop-after.invariant.spreading c.comma.ensures (rw c.in-Item.is at c.in_ok-after.ensures) c.requires c.in_ok-joined-in-Item.ensures.settles refl) c.requires.small).3 in
    omega arith

pub overflow_add-turns : goal.overflow_add-turns
overflow_add-turns c =
    let k = (spreading_small (spreading_next c.loop-after.invariant.spreading c.comma.ensures (rw c.in-Item.is at c.in_ok-after.ensures) c.requires c.in_ok-joined-in-Item.ensures.settles refl) c.requires.small).0 in
    omega arith

pub overflow_add-count : goal.overflow_add-count
overflow_add-count c =
    let k = (spreading_small (spreading_next c.loop-after.invariant.spreading c.comma.ensures (rw c.in-Item.is at c.in_ok-after.ensures) c.requires c.in_ok-joined-in-Item.ensures.settles refl) c.requires.small).1 in
    omega arith

pub loop-after-smaller-then-free : goal.loop-after-smaller-then-free
loop-after-smaller-then-free c = let k = (spreading_onward c.loop-after.invariant.spreading c.comma.ensures (rw c.in-Item.is at c.in_ok-after.ensures) c.requires c.in_ok-joined-in-Item.ensures.settles).fewer in omega arith

pub loop-after-preserved-then-free : goal.loop-after-preserved-then-free
loop-after-preserved-then-free c =
    record {
      kept = kept_then c.loop-after.invariant.kept c.member_placed.ensures.kept;
      spreading = spreading_next c.loop-after.invariant.spreading c.comma.ensures (rw c.in-Item.is at c.in_ok-after.ensures) c.requires c.in_ok-joined-in-Item.ensures.settles (c.ne-free.ensures ∙ rw (c.if-free.true, is_named_node c.in_ok-joined-in-Item.joined.kind));
    }

pub loop-after-smaller : goal.loop-after-smaller
loop-after-smaller c = let k = (spreading_onward c.loop-after.invariant.spreading c.comma.ensures (rw c.in-Item.is at c.in_ok-after.ensures) c.requires c.in_ok-joined-in-Item.ensures.settles).fewer in omega arith

pub loop-after-preserved : goal.loop-after-preserved
loop-after-preserved c =
    record {
      kept = kept_then c.loop-after.invariant.kept c.member_placed.ensures.kept;
      spreading = spreading_next c.loop-after.invariant.spreading c.comma.ensures (rw c.in-Item.is at c.in_ok-after.ensures) c.requires c.in_ok-joined-in-Item.ensures.settles (rw c.if-free.false);
    }
