-- `output::put_codes` meets its contract. Assumes nothing.
use borrow.Author.Tests.{eq-eqb, ne_eqb}
use native.Mathlib.Omega.{arith}
use Prim.Native.Nat.{◌+◌}
use Rattle.spelling.specs.Spelling.{span_text}
use Rattle.output.proofs.Digits.{code-small}
use Rattle.output.proofs.Writes.{then}
use Rattle.output.proofs.put_codes.Goals as goal

pub returns-then-first-past : goal.returns-then-first-past
unfolding span_text
returns-then-first-past c = rw (eq-eqb _ _ c.if-first-past.true) c.put_code-n.ensures

pub overflow_add-n : goal.overflow_add-n
overflow_add-n c = omega (arith, c.put_code-n.ensures.counts, code-small c.args.first, c.put-n.ensures.counts)

pub overflow_add-result : goal.overflow_add-result
overflow_add-result c = omega (arith, c.put_code-n.ensures.counts, code-small c.args.first, c.put-n.ensures.counts, c.put_code.ensures.counts, code-small c.saturating_sub.result)

pub returns : goal.returns
unfolding span_text
returns c =
    rw (ne_eqb (c.args.first + 1) c.args.past c.if-first-past.false)
    (then (then c.put_code-n.ensures c.upto-a.ensures c.put-n.ensures) c.upto-b.ensures (rw c.saturating_sub.ensures at c.put_code.ensures))
