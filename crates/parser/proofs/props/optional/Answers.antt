-- `props::optional` meets its contract.
-- Assumes nothing.
use Prim.Native.Char.{code}
use mathlib.Core.Path.{refl}
use Rattle.std.specs.Prelude.{Some, Ok}
use Rattle.tokens.specs.Promise.{Eats}
use Rattle.tokens.proofs.Stops.{stopped}
use Rattle.parser.specs.Lists.{optional, as_read}
use Rattle.parser.proofs.Ready.{ready_step}
use Rattle.parser.proofs.Onward.{eat-onward}
use Rattle.parser.proofs.Openings.{optional-none, optional-refused, optional_list}
use Rattle.parser.proofs.props.optional.Goals as goal

pub returns-in_err-after-clause-parses : goal.returns-in_err-after-clause-parses
unfolding optional
returns-in_err-after-clause-parses g c =
    rw (stopped c.from_residual.result c.from_residual.ensures.1)
    (λ l h. optional-refused l.mark l.inside as_read c.args.source.now c.args.token c.requires.ready.lies (rw h.is h.some) (rw (← h.is) at c.in_err-after.ensures))

pub inside-requires : goal.inside-requires
inside-requires g c =
    let l = c.requires.reads.0 in
    let h = c.requires.reads.1 in
    let k : Eats c.args.source.now c.args.token (code l.mark) (Ok (Some c.in-Some.after)) = rw (c.in-Some.is, ← h.is) at c.in_ok-after.ensures in
    c.requires.calls _ _ _ refl (ready_step c.requires.ready (eat-onward c.args.source.now l.mark c.args.token (rw h.is h.some) c.requires.ready.lies k))

pub returns-in-Some-clause-kept : goal.returns-in-Some-clause-kept
returns-in-Some-clause-kept g c =
    let l = c.requires.reads.0 in
    let h = c.requires.reads.1 in
    let k : Eats c.args.source.now c.args.token (code l.mark) (Ok (Some c.in-Some.after)) = rw (c.in-Some.is, ← h.is) at c.in_ok-after.ensures in
    (h.all _ _ _ _ _ refl (ready_step c.requires.ready (eat-onward c.args.source.now l.mark c.args.token (rw h.is h.some) c.requires.ready.lies k)) c.inside.ensures).0

pub returns-in-Some-clause-parses : goal.returns-in-Some-clause-parses
unfolding optional
returns-in-Some-clause-parses g c = λ l h.
    let k : Eats c.args.source.now c.args.token (code l.mark) (Ok (Some c.in-Some.after)) = rw (c.in-Some.is, ← h.is) at c.in_ok-after.ensures in
    let i = h.all _ _ _ _ _ refl (ready_step c.requires.ready (eat-onward c.args.source.now l.mark c.args.token (rw h.is h.some) c.requires.ready.lies k)) c.inside.ensures in
    optional_list l.mark l.inside as_read c.args.source.now c.args.token c.requires.ready.lies (rw h.is h.some) k 0 _ _ c.inside.result i.1

pub returns-clause-parses : goal.returns-clause-parses
unfolding optional
returns-clause-parses g c = λ l h.
    optional-none l.mark l.inside as_read c.args.source.now c.args.token c.requires.ready.lies (rw h.is h.some) _ (rw (c.in-None.is, ← h.is) at c.in_ok-after.ensures)
