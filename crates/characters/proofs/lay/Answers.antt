-- `characters::lay` meets its contract. Assumes nothing.
use Rattle.std.proofs.Common.{◌+◌, ◌≤◌, length}
use mathlib.Core.Path.{◌≡◌, refl, sym}
use native.Mathlib.Omega.{arith}
use Rattle.characters.proofs.Written.{written_in, written_not}
use Rattle.characters.proofs.lay.Goals as goal

pub returns-then-out : goal.returns-then-out
returns-then-out g c =
    let h : 0 + length c.args.bytes ≡ g.row.N = omega arith in
    let i : 0 + length c.args.bytes ≤ length c.args.out.now = omega arith in
    (refl, rw (c.copy_from_slice.ensures.after, written_in _ 0 _ i, h))

pub returns-else-out : goal.returns-else-out
returns-else-out g c = (refl, sym (written_not _ 0 _ (omega arith)))
