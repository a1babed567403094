-- Each turn shows some bytes more.
use Rattle.std.proofs.Common.{length}
use Rattle.front.proofs.explain.put_shown.Given as goal

abbrev pub decreases-loop-rest : goal.decreases-loop-rest
decreases-loop-rest g l = length l.rest
