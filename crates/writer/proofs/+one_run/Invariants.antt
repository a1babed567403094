-- What falls in `writer::inside`, `writer::one` and `writer::run`: the end of the run, and then its number of branches.
use Prim.Native.Nat.{◌+◌, ◌*◌}
use Rattle.writer.proofs.+one_run.Given as goal

abbrev pub decreases-inside : goal.decreases-inside
decreases-inside l = l.row.now.i * 1073741824 + 536870911

abbrev pub decreases-one : goal.decreases-one
decreases-one l = l.i * 1073741824 + 536870912

abbrev pub decreases-run : goal.decreases-run
decreases-run l = l.end * 1073741824 + l.count
