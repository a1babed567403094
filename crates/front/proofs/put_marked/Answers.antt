-- `put_marked` meets its contract. Assumes nothing.
use native.Mathlib.Omega.{arith}
use mathlib.Core.Path.{sym}
use Rattle.std.proofs.KnownBytes.{Appends-trans}
use Rattle.std.proofs.Math.Seq.{length-take-le}
use Rattle.front.proofs.Differences.{bare-few, marked-feed, marked-end}
use Rattle.front.proofs.Writes.{then-last}
use Rattle.front.proofs.put_marked.Goals as goal

pub slice_bounds-write_all-end : goal.slice_bounds-write_all-end
slice_bounds-write_all-end g c = sym (length-take-le _ c.args.line.now (omega (arith, c.bare_length-n.ensures, bare-few c.args.line.now)))

pub returns-then-n-line : goal.returns-then-n-line
returns-then-n-line g c =
    then-last _ _ _ _ _ _ _ (marked-feed c.args.mark.now c.args.line.now c.bare_length-n.result c.bare_length-n.ensures c.if-n-line.true)
    (Appends-trans _ _ _ _ _ c.in_ok-write_all.ensures.bytes c.in_ok-write_all-2.ensures.bytes) c.write_all-then-n-line.ensures.bytes

pub returns-else-n-line : goal.returns-else-n-line
returns-else-n-line g c =
    then-last _ _ _ _ _ _ _ (marked-end c.args.mark.now c.args.line.now c.bare_length-n.result c.bare_length-n.ensures c.if-n-line.false)
    (Appends-trans _ _ _ _ _ c.in_ok-write_all.ensures.bytes c.in_ok-write_all-2.ensures.bytes) c.write_all-else-n-line.ensures.bytes
