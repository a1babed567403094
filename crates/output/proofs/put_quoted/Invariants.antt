use mathlib.Core.List.{[], ◌∷◌, ◌++◌}
use lib.ListN.{take}
use Rattle.spelling.specs.Spelling.{quoted}
use Rattle.output.specs.Promise.{Wrote}
use Rattle.output.proofs.put_quoted.Given as goal

abbrev pub invariant-loop-b : goal.invariant-loop-b
invariant-loop-b l = Wrote ((0x22 ∷ []) ++ quoted (take l.b-index l.s)) l.fn.out l.out l.n
