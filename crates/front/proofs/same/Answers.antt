-- `same` meets its contract. Assumes nothing.
use Rattle.front.proofs.Responses.{same-accepted, same-right-refused, same-left-refused, same-both-refused}
use Rattle.front.proofs.same.Goals as goal

pub returns-in-Ok-settle : goal.returns-in-Ok-settle
returns-in-Ok-settle g c =
    same-accepted c.args.quiet (record { name = c.args.left_name.now; text = c.args.left.now }) (record { name = c.args.right_name.now; text = c.args.right.now }) _ _ _ c.put_compared.result
    c.in-Ok.ensures.1 c.in-Ok-settle.ensures.1 (c.put_compared.ensures (record { name = c.args.left_name.now; text = c.args.left.now }) (record { name = c.args.right_name.now; text = c.args.right.now }))

pub returns-in_ok-put_refusal-in-Err-settle : goal.returns-in_ok-put_refusal-in-Err-settle
returns-in_ok-put_refusal-in-Err-settle g c =
    same-right-refused c.args.quiet (record { name = c.args.left_name.now; text = c.args.left.now }) (record { name = c.args.right_name.now; text = c.args.right.now }) _ _ _
    c.in-Ok.ensures.1 c.in-Err-settle.ensures c.in_ok-put_refusal-in-Err-settle.ensures

pub returns-in_ok-put_refusal-in-Err-2 : goal.returns-in_ok-put_refusal-in-Err-2
returns-in_ok-put_refusal-in-Err-2 g c =
    same-both-refused c.args.quiet (record { name = c.args.left_name.now; text = c.args.left.now }) (record { name = c.args.right_name.now; text = c.args.right.now }) _ _ _ _
    c.in-Err.ensures c.in-Err-settle-2.ensures c.in_ok-put_refusal-in-Err.ensures c.in_ok-put_refusal-in-Err-2.ensures

pub returns-in_default : goal.returns-in_default
returns-in_default g c =
    same-left-refused c.args.quiet (record { name = c.args.left_name.now; text = c.args.left.now }) (record { name = c.args.right_name.now; text = c.args.right.now }) _ _ _
    c.in-Err.ensures c.in_default.ensures.1 c.in_ok-put_refusal-in-Err.ensures
