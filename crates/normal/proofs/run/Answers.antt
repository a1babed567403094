-- What was read is printed, which is what all of the input prints.
use Rattle.std.proofs.Common.{◌≡◌, arith, length}
use Rattle.std.proofs.lemmas.Result.{IfOk-weaker}
use Rattle.normal.proofs.Whole.{prints-whole, which-whole, under-context, of-context}
use Rattle.normal.proofs.run.Goals as goal

pub returns-clause-text : goal.returns-clause-text
returns-clause-text g c =
    let room : length c.read_all.new.buf ≡ 65536 = omega (arith, c.read_all.auto.buf) in
    let prints = prints-whole _ _ c.read_all.result c.in_ok-n.n c.read_all.new.buf c.in_ok-n.ensures c.read_all.ensures.within c.read_all.ensures.bytes room _ _ in
    under-context c.print.result c.context-2.result _ _ c.context-2.ensures (IfOk-weaker c.print.result _ _ (λ _. prints) c.print.ensures.text)

pub returns-clause-which : goal.returns-clause-which
returns-clause-which g c =
    let room : length c.read_all.new.buf ≡ 65536 = omega (arith, c.read_all.auto.buf) in
    which-whole _ _ c.read_all.result c.in_ok-n.n c.read_all.new.buf c.in_ok-n.ensures c.read_all.ensures.within c.read_all.ensures.bytes room c.context-2.result
    (of-context c.print.result c.context-2.result _ _ c.context-2.ensures c.print.ensures.which)
