-- `blocks::block` meets its contract.
-- Assumes nothing.
use mathlib.Core.Path.{refl}
use Rattle.declarations.proofs.BlocksLaws.{next-refused, brace-refused, list_halt, list_onward, block_asks, block-given}
use Rattle.parser.proofs.Ready.{ready_step}
use Rattle.parser.proofs.Stored.{kept_then}
use Rattle.tokens.proofs.Stops.{stopped}
use Rattle.declarations.proofs.blocks.block.Goals as goal

pub returns-in_err-keyword-clause-parses : goal.returns-in_err-keyword-clause-parses
returns-in_err-keyword-clause-parses g c = rw (stopped c.from_residual.result c.from_residual.ensures.1) (λ p h. next-refused p c.args.source.now c.args.token c.in_err-keyword.ensures.0)

pub returns-in_err-opened-clause-parses : goal.returns-in_err-opened-clause-parses
returns-in_err-opened-clause-parses g c =
    rw (stopped c.from_residual-in_err-opened.result c.from_residual-in_err-opened.ensures.1) (λ p h. brace-refused p c.args.source.now c.args.token c.in_ok-keyword.ensures c.in_err-opened.ensures)

pub inside-requires : goal.inside-requires
inside-requires g c =
    c.requires.calls _ _ _ refl (ready_step c.requires.ready.0 (list_onward c.requires.reads.0 c.args.source.now c.args.token c.in_ok-keyword.ensures c.in_ok-opened.ensures c.requires.ready.1 c.requires.ready.0.lies))

pub returns-in_err-closed-clause-kept : goal.returns-in_err-closed-clause-kept
returns-in_err-closed-clause-kept g c =
    let o = list_onward c.requires.reads.0 c.args.source.now c.args.token c.in_ok-keyword.ensures c.in_ok-opened.ensures c.requires.ready.1 c.requires.ready.0.lies in
    (c.requires.reads.1 _ _ _ _ _ refl (ready_step c.requires.ready.0 o) c.inside.ensures).0

pub returns-in_err-closed-clause-parses : goal.returns-in_err-closed-clause-parses
returns-in_err-closed-clause-parses g c =
    rw (stopped c.from_residual-in_err-closed.result c.from_residual-in_err-closed.ensures.1)
    (λ p h.
    let o = list_onward p c.args.source.now c.args.token c.in_ok-keyword.ensures c.in_ok-opened.ensures c.requires.ready.1 c.requires.ready.0.lies in
    let i = h _ _ _ _ _ refl (ready_step c.requires.ready.0 o) c.inside.ensures in
    list_halt p c.args.source.now c.args.token c.in_ok-keyword.ensures c.in_ok-opened.ensures (rw c.in_err-closed.was at i.1))

pub put_plain-requires : goal.put_plain-requires
put_plain-requires g c =
    let p = c.requires.reads.0 in
    let o = list_onward p c.args.source.now c.args.token c.in_ok-keyword.ensures c.in_ok-opened.ensures c.requires.ready.1 c.requires.ready.0.lies in
    let i = c.requires.reads.1 _ _ _ _ _ refl (ready_step c.requires.ready.0 o) c.inside.ensures in
    block_asks p c.args.source.now c.args.token c.in_ok-keyword.ensures c.in_ok-opened.ensures c.requires.ready.0 c.requires.ready.1 (rw c.in_ok-closed.was at i.1) (rw c.in_ok-closed.was at i.2) c.start.ensures

pub returns-clause-kept : goal.returns-clause-kept
returns-clause-kept g c =
    let o = list_onward c.requires.reads.0 c.args.source.now c.args.token c.in_ok-keyword.ensures c.in_ok-opened.ensures c.requires.ready.1 c.requires.ready.0.lies in
    kept_then (c.requires.reads.1 _ _ _ _ _ refl (ready_step c.requires.ready.0 o) c.inside.ensures).0 c.put_plain.ensures.kept

pub returns-clause-parses : goal.returns-clause-parses
returns-clause-parses g c = λ p h.
    let o = list_onward p c.args.source.now c.args.token c.in_ok-keyword.ensures c.in_ok-opened.ensures c.requires.ready.1 c.requires.ready.0.lies in
    let i = h _ _ _ _ _ refl (ready_step c.requires.ready.0 o) c.inside.ensures in
    block-given p c.args.source.now c.args.token c.in_ok-keyword.ensures c.in_ok-opened.ensures c.requires.ready.1 c.requires.ready.0.lies _ (rw c.in_ok-closed.was at i.1) c.start.ensures c.put_plain.ensures.stores
