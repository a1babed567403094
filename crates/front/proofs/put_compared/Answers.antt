-- `put_compared` meets its contract. Assumes nothing.
use Rattle.front.proofs.Responses.{tested, compared-equal, compared-shown, compared-quiet}
use Rattle.front.proofs.put_compared.Goals as goal

pub returns-then-eq : goal.returns-then-eq
returns-then-eq g c s t = compared-equal c.args.quiet s t c.args.left.now c.args.right.now _ (tested _ _ c.if-eq.ensures)

pub returns-in_ok-put_difference : goal.returns-in_ok-put_difference
returns-in_ok-put_difference g c s t = compared-shown c.args.quiet s t c.args.left.now c.args.right.now _ _ (tested _ _ c.if-eq.ensures) c.if-not-quiet.true c.in_ok-put_difference.ensures

pub returns-else-not-quiet : goal.returns-else-not-quiet
returns-else-not-quiet g c s t = compared-quiet c.args.quiet s t c.args.left.now c.args.right.now _ (tested _ _ c.if-eq.ensures) c.if-not-quiet.false
