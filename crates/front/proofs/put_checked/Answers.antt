-- `put_checked` meets its contract. Assumes nothing.
use Rattle.front.proofs.Responses.{tested, checked-own, checked-shown, checked-named}
use Rattle.front.proofs.put_checked.Goals as goal

pub returns-then-eq : goal.returns-then-eq
returns-then-eq g c = checked-own c.args.differences (record { name = c.args.name.now; text = c.args.text.now }) c.args.normal.now _ (tested _ _ c.if-eq.ensures)

pub returns-in_ok-put_difference : goal.returns-in_ok-put_difference
returns-in_ok-put_difference g c =
    checked-shown (record { name = c.args.name.now; text = c.args.text.now }) c.args.normal.now (tested _ _ c.if-eq.ensures) _ _ _ c.in_ok-write_all.ensures.bytes c.in_ok-write_all-2.ensures.bytes
    c.args.differences _ c.if-differences.true c.in_ok-put_difference.ensures

pub returns-else-differences : goal.returns-else-differences
returns-else-differences g c =
    checked-named (record { name = c.args.name.now; text = c.args.text.now }) c.args.normal.now (tested _ _ c.if-eq.ensures) _ _ _ c.in_ok-write_all.ensures.bytes c.in_ok-write_all-2.ensures.bytes
    c.args.differences c.if-differences.false
