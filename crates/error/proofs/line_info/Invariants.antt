use Rattle.error.proofs.Lines.{Lined}
use Rattle.error.proofs.line_info.Given as goal

abbrev pub invariant-loop-at : goal.invariant-loop-at
invariant-loop-at l = Lined l.before l.at l.line l.start
