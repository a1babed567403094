-- `props::until` meets its contract.
-- Assumes nothing.
use native.Mathlib.Omega.{arith}
use mathlib.Core.Path.{refl}
use Prim.Native.Char.{code}
use Rattle.std.specs.Prelude.{Ok}
use Rattle.tokens.proofs.Stops.{stopped}
use Rattle.parser.specs.Steps.{Opens}
use Rattle.parser.specs.Lists.{Listed, ReadsItems}
use Rattle.parser.proofs.props.until.Given as given
use Rattle.parser.specs.declared.props.Opened.TheVariants as O
use Rattle.parser.proofs.Stored.{kept_here, kept_then}
use Rattle.parser.proofs.Ready.{ready_step, ready_on}
use Rattle.parser.proofs.Lists.{listing_start}
use Rattle.parser.proofs.Openings.{item-onward, list_closed, list_refused, item_refused, item-more}
use Rattle.parser.proofs.props.until.Goals as goal

pub loop-item-init : goal.loop-item-init
loop-item-init g c = record { kept = kept_here _; listing = λ k h. listing_start _ _ _ _ _ _ c.requires.ready.lies; few = omega arith }

pub returns-in_err-after-clause-parses : goal.returns-in_err-after-clause-parses
returns-in_err-after-clause-parses g c =
    rw (stopped c.from_residual.result c.from_residual.ensures.1)
    (λ k h. list_refused k.mark c.args.comma (λ _. k.item) (c.loop-item.invariant.listing k h) (rw (← h.is) at c.in_err-after.ensures))

pub returns-in-Closed-clause-parses : goal.returns-in-Closed-clause-parses
returns-in-Closed-clause-parses g c =
    λ k h. list_closed k.mark c.args.comma (λ _. k.item) (c.loop-item.invariant.listing k h) (rw (c.in-Closed.is, ← h.is) at c.in_ok-after.ensures) (omega arith)

pub returns-in_err-t-in-Item-clause-parses : goal.returns-in_err-t-in-Item-clause-parses
returns-in_err-t-in-Item-clause-parses g c = λ k h.
    let l = c.loop-item.invariant.listing k h in
    let o : Opens c.args.source.now c.loop-item.t (code k.mark) c.args.comma c.loop-item.count (Ok (O.Item c.in-Item.next)) = rw (c.in-Item.is, ← h.is) at c.in_ok-after.ensures in
    let i = h.each _ _ _ _ _ refl (ready_step (ready_on c.requires.ready l.onward l.lays) (item-onward k.mark o)) c.item.ensures in
    rw (stopped c.from_residual-in_err-t-in-Item.result c.from_residual-in_err-t-in-Item.ensures.1) (item_refused k.mark c.args.comma (λ _. k.item) l o refl (rw c.in_err-t-in-Item.was at i.1))

pub loop-item-preserved : goal.loop-item-preserved
loop-item-preserved g c =
    let opens = λ (k : Listed) (h : ReadsItems c.args.source.now c.args.close (given.F-post g c.args.item) k).
    let o : Opens c.args.source.now c.loop-item.t (code k.mark) c.args.comma c.loop-item.count (Ok (O.Item c.in-Item.next)) = rw (c.in-Item.is, ← h.is) at c.in_ok-after.ensures in o in
    let reads = λ (k : Listed) (h : ReadsItems c.args.source.now c.args.close (given.F-post g c.args.item) k).
    let l = c.loop-item.invariant.listing k h in
    h.each _ _ _ _ _ refl (ready_step (ready_on c.requires.ready l.onward l.lays) (item-onward k.mark (opens k h))) c.item.ensures in
    let more = λ (k : Listed) (h : ReadsItems c.args.source.now c.args.close (given.F-post g c.args.item) k).
    item-more k.mark c.args.comma (λ _. k.item) (c.loop-item.invariant.listing k h) (opens k h) refl (rw c.in_ok-t-in-Item.was at (reads k h).1) in
    let k = c.requires.reads.0 in
    let h = c.requires.reads.1 in
    let z = (more k h).0.ahead in
    record { kept = kept_then c.loop-item.invariant.kept (reads k h).0; listing = λ k h. (more k h).1; few = omega arith }
