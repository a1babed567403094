-- `put_label` meets its contract. Assumes nothing.
use Rattle.std.proofs.KnownBytes.{Appends-nil}
use Rattle.front.proofs.Responses.{tested, label-standard, label-file}
use Rattle.front.proofs.Writes.{then-last}
use Rattle.front.proofs.put_label.Goals as goal

pub returns-then-eq : goal.returns-then-eq
returns-then-eq g c = rw (label-standard c.args.name.now (tested c.args.name.now _ (rw c.as_slice.ensures at c.if-eq.ensures))) (Appends-nil _)

pub returns : goal.returns
returns g c =
    then-last _ _ _ _ _ _ _ (label-file c.args.name.now (tested c.args.name.now _ (rw c.as_slice.ensures at c.if-eq.ensures)))
    c.in_ok-write_all.ensures.bytes c.write_all-2.ensures.bytes
