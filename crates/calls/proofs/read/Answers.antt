-- `read` meets its contract.
-- Assumes nothing.
use Rattle.calls.proofs.ReadLaws.{kept-read, refused-read}
use Rattle.calls.proofs.Demands.{read-answers_as_defined}
use Rattle.calls.proofs.read.Goals as goal

pub returns-in-Ok : goal.returns-in-Ok
returns-in-Ok c =
    let o = kept-read _ _ _ _ _ c.in-Ok.stored (rw c.in-Ok.is at c.parse.ensures.reading) in
    record { outcome = o; answers = read-answers_as_defined _ _ _ _ _ _ o; few = c.parse.ensures.few }

pub returns-in-Err : goal.returns-in-Err
returns-in-Err c =
    let o = refused-read _ _ _ _ _ c.in-Err.stop c.refuse.result (rw c.in-Err.is at c.parse.ensures.reading) c.refuse.ensures in
    record { outcome = o; answers = read-answers_as_defined _ _ _ _ _ _ o; few = c.parse.ensures.few }
