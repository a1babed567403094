-- `worst_of` meets its contract. Assumes nothing.
use Prim.Native.Nat.{ℕ, ◌+◌}
use mathlib.Core.Path.{sym, ap, ◌∙◌}
use mathlib.Core.List.{map}
use lib.ListN.{drop}
use Rattle.front.specs.Respond.{worst, worst_of}
use Rattle.front.specs.Promise.{status_number}
use Rattle.front.proofs.Responses.{worst-more, worst-end}
use Rattle.front.proofs.worst_of.Goals as goal

pub loop-status-preserved : goal.loop-status-preserved
loop-status-preserved c =
    c.loop-status.invariant ∙ worst-more status_number c.args.statuses.now c.loop-status.status-index _ (status_number c.loop-status.all) c.loop-status-test.true
    ∙ ap (λ (n : ℕ). worst n (worst_of (map status_number (drop (c.loop-status.status-index + 1) c.args.statuses.now)))) (sym c.worst-all.ensures)

pub returns : goal.returns
returns c = sym (c.loop-status.invariant ∙ worst-end status_number c.args.statuses.now c.loop-status.status-index _ c.loop-status-test.false)
