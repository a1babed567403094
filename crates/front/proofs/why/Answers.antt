-- `why` meets its contract. Assumes nothing.
use Rattle.front.proofs.Responses.{why-accepted, why-refused}
use Rattle.front.proofs.why.Goals as goal

pub returns-in_ok-write_all-in-Ok : goal.returns-in_ok-write_all-in-Ok
returns-in_ok-write_all-in-Ok g c =
    why-accepted (record { name = c.args.name.now; text = c.args.text.now }) _ _ _ c.in-Ok.ensures.1 c.in_ok-put_label-in-Ok.ensures c.in_ok-write_all-in-Ok.ensures.bytes

pub returns-in_ok-put_refusal-in-Err : goal.returns-in_ok-put_refusal-in-Err
returns-in_ok-put_refusal-in-Err g c = why-refused (record { name = c.args.name.now; text = c.args.text.now }) _ _ c.in-Err.ensures c.in_ok-put_refusal-in-Err.ensures
