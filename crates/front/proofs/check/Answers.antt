-- `check` meets its contract. Assumes nothing.
use Rattle.front.proofs.Responses.{check-accepted, check-refused}
use Rattle.front.proofs.check.Goals as goal

pub returns-in-Ok : goal.returns-in-Ok
returns-in-Ok g c = check-accepted c.args.differences (record { name = c.args.name.now; text = c.args.text.now }) _ _ _ c.put_checked.result c.in-Ok.ensures.1 c.put_checked.ensures

pub returns-in_ok-put_refusal-in-Err : goal.returns-in_ok-put_refusal-in-Err
returns-in_ok-put_refusal-in-Err g c = check-refused c.args.differences (record { name = c.args.name.now; text = c.args.text.now }) _ _ _ c.in-Err.ensures c.in_ok-put_refusal-in-Err.ensures
