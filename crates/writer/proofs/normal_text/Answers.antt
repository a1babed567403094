-- `writer::normal_text` meets its contract. Assumes nothing.
use native.Mathlib.Omega.{arith}
use Rattle.output.proofs.Writes.{then}
use Rattle.writer.proofs.Small.{bounded, closing-small}
use Rattle.writer.proofs.Runs.{run_small, moved}
use Rattle.writer.proofs.Grammars.{some-records, lent, root_run, root_says}
use Rattle.writer.proofs.normal_text.Goals as goal

pub overflow_sub-last : goal.overflow_sub-last
overflow_sub-last c = omega (arith, c.count-last.ensures, some-records c.requires)

pub children-children-requires : goal.children-children-requires
children-children-requires c = omega (arith, c.count-last.ensures, some-records c.requires)

pub of-root-requires : goal.of-root-requires
of-root-requires c = (lent c.requires c.children-children.ensures.sizes, omega (arith, c.count-last.ensures, some-records c.requires))

pub run-n-requires : goal.run-n-requires
run-n-requires c =
    let s = c.requires in
    rw (c.of-root.ensures.records, c.of-root.ensures.texts) (omega (arith, c.count-last.ensures, some-records s), root_run c.count-last.ensures c.children-children.ensures.value s)

pub overflow_add-result : goal.overflow_add-result
overflow_add-result c =
    let s = c.requires in
    let root = root_run c.count-last.ensures c.children-children.ensures.value s in
    let w = moved 0 c.of-root.ensures.records c.of-root.ensures.texts c.of-root.ensures.i c.run-n.ensures in
    omega (arith, c.count-last.ensures, s.few, run_small (lent s c.children-children.ensures.sizes) _ _ root (w root), bounded c.put_closing.ensures (closing-small _ _))

pub returns : goal.returns
returns c = λ s.
    let w = moved 0 c.of-root.ensures.records c.of-root.ensures.texts c.of-root.ensures.i c.run-n.ensures in
    let end = rw (c.of-root.result.values, c.last_class.ensures, c.of-root.ensures.records, c.of-root.ensures.i) at c.put_closing.ensures in
    rw (root_says c.count-last.ensures c.children-children.ensures.value s) (then (w (root_run c.count-last.ensures c.children-children.ensures.value s)) c.upto-a.ensures end)
