-- `printing::put_refusal` meets its contract. Assumes nothing.
use Rattle.output.proofs.Writes.{then}
use Rattle.error.specs.Promise.{refusal_of}
use Rattle.printing.proofs.Decimals.{line-parts}
use Rattle.printing.proofs.put_refusal.Goals as goal

pub returns : goal.returns
returns c =
    rw (← line-parts (refusal_of c.args.refusal))
    (then (then (then (then (rw c.number.ensures at c.put_numbered-n.ensures.text) c.upto-a.ensures c.put_numbered-n-2.ensures.text) c.upto-b.ensures c.put_numbered-n-3.ensures.text)
    c.upto-c.ensures c.put_numbered-n-4.ensures.text) c.upto-d.ensures c.put.ensures)
