-- `writer::inside`, `writer::one` and `writer::run` meet their contracts. Assumes nothing.
use Prim.Native.Nat.{◌/◌}
use mathlib.Core.Path.{◌∙◌}
use native.Mathlib.Omega.{arith}
use Rattle.output.proofs.Writes.{wrote_none, then}
use Rattle.writer.proofs.Small.{bounded, row_small, front-small, back-small}
use Rattle.writer.proofs.Runs.{text-none, only, branch-says, right, mid-first, left, mid-low, halves, run_small, run-few, recount}
use Rattle.writer.proofs.+one_run.Goals as goal

pub inside-run-requires : goal.inside-run-requires
inside-run-requires t c =
    let r = c.args.row.now in
    let kids = recount c.children.ensures.value c.requires in
    (omega (arith, c.decreases, c.children.ensures.value, run-few c.requires, r.lent.few, r.there), (omega (arith, r.there), kids))

pub inside-returns-in-0 : goal.inside-returns-in-0
inside-returns-in-0 t c = λ s. rw (text-none _ _ (recount c.children.ensures.value s) c.in-0.is) (wrote_none _)

pub inside-returns-in_default : goal.inside-returns-in_default
inside-returns-in_default t c = λ s. c.run.ensures (recount c.children.ensures.value s)

pub one-inside-n-requires : goal.one-inside-n-requires
one-inside-n-requires t c =
    rw (c.of-row.ensures.records, c.of-row.ensures.texts, c.of-row.ensures.i) (omega (arith, c.decreases), c.requires.1)

pub one-overflow_add-n : goal.one-overflow_add-n
one-overflow_add-n t c =
    let p = c.args.parent.now in
    let w = rw (c.of-row.ensures.records, c.of-row.ensures.texts, c.of-row.ensures.i) at c.inside-n.ensures in
    omega (arith, p.lent.few, bounded c.put_front-n.ensures (front-small _ _ _), row_small p.lent p.i, row_small c.of-row.result.lent c.of-row.result.i, run_small p.lent _ _ c.requires.1 (w c.requires.1))

pub one-overflow_add-result : goal.one-overflow_add-result
one-overflow_add-result t c =
    let p = c.args.parent.now in
    let w = rw (c.of-row.ensures.records, c.of-row.ensures.texts, c.of-row.ensures.i) at c.inside-n.ensures in
    omega (arith, p.lent.few, bounded c.put_front-n.ensures (front-small _ _ _), row_small p.lent p.i, row_small c.of-row.result.lent c.of-row.result.i, run_small p.lent _ _ c.requires.1 (w c.requires.1), bounded c.put_back.ensures (back-small _ _ _))

pub one-returns : goal.one-returns
one-returns t c = λ s.
    let w = rw (c.of-row.ensures.records, c.of-row.ensures.texts, c.of-row.ensures.i) at c.inside-n.ensures in
    let front = rw (c.of-row.ensures.records, c.of-row.ensures.texts, c.of-row.ensures.i) at c.put_front-n.ensures in
    let back = rw (c.of-row.ensures.records, c.of-row.ensures.texts, c.of-row.ensures.i) at c.put_back.ensures in
    rw (branch-says _ _ _ s) (then (then front c.upto-a.ensures (w s)) c.upto-b.ensures back)

pub run-returns-then-count-eq0 : goal.run-returns-then-count-eq0
run-returns-then-count-eq0 t c = λ s. rw (text-none _ _ s c.if-count-eq0.true) (wrote_none _)

pub run-overflow_sub-end : goal.run-overflow_sub-end
run-overflow_sub-end t c = omega (arith, (only c.requires.1 c.if-count-eq1.true).positive)

pub run-one-requires : goal.run-one-requires
run-one-requires t c =
    let o = only c.requires.1 c.if-count-eq1.true in
    (omega (arith, c.decreases, o.positive), (omega (arith, c.requires.0, o.positive), o.kids))

pub run-returns-then-count-eq1 : goal.run-returns-then-count-eq1
run-returns-then-count-eq1 t c = λ s. rw ((only s c.if-count-eq1.true).says _ _) (c.one.ensures (only s c.if-count-eq1.true).kids)

pub run-run-n-requires : goal.run-run-n-requires
run-run-n-requires t c =
    let s = c.requires.1 in
    let half = c.args.count / 2 in
    let m = mid-first s half (omega arith) in
    let low = mid-low s half (omega arith) (omega arith) in (
      omega (arith, c.decreases, c.args.parent.now.lent.few, c.requires.0, run-few s, c.first-mid.ensures, m, low),
      (omega (arith, c.requires.0, c.first-mid.ensures, m, low), left s half (omega arith) (c.first-mid.ensures ∙ m)),
    )

pub run-class_before-requires : goal.run-class_before-requires
run-class_before-requires t c =
    let s = c.requires.1 in
    let half = c.args.count / 2 in
    omega (arith, c.requires.0, c.first-mid.ensures, mid-first s half (omega arith), mid-low s half (omega arith) (omega arith))

pub run-run-requires : goal.run-run-requires
run-run-requires t c = (omega (arith, c.decreases), (c.requires.0, right c.requires.1 (c.args.count / 2) (omega arith)))

pub run-overflow_add-result : goal.run-overflow_add-result
run-overflow_add-result t c =
    let s = c.requires.1 in
    let half = c.args.count / 2 in
    let m = mid-first s half (omega arith) in
    let lefts = left s half (omega arith) (c.first-mid.ensures ∙ m) in
    let rights = right s half (omega arith) in
    omega (arith, c.args.parent.now.lent.few, c.requires.0, c.first-mid.ensures, m, mid-low s half (omega arith) (omega arith), run_small c.args.parent.now.lent _ _ lefts (c.run-n.ensures lefts), run_small c.args.parent.now.lent _ _ rights (c.run.ensures rights))

pub run-returns : goal.run-returns
run-returns t c =
    let half = c.args.count / 2 in
    λ s. let m = c.first-mid.ensures ∙ mid-first s half (omega arith) in
    rw (halves s half (omega arith) _ _ m (omega arith)) (then (c.run-n.ensures (left s half (omega arith) m)) c.upto-a.ensures (rw c.class_before.ensures at (c.run.ensures (right s half (omega arith)))))
