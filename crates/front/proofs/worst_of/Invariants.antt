-- The worst so far, and of the rest.
use Rattle.std.proofs.Common.{◌≡◌, map, drop}
use Rattle.front.specs.Respond.{worst, worst_of}
use Rattle.front.specs.Promise.{status_number}
use Rattle.front.proofs.worst_of.Given as goal

abbrev pub invariant-loop-status : goal.invariant-loop-status
invariant-loop-status l = worst_of (map status_number l.statuses) ≡ worst (status_number l.all) (worst_of (map status_number (drop l.status-index l.statuses)))
