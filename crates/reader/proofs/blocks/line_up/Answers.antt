-- `blocks::line_up` meets its contract.
-- Assumes nothing.
use native.Mathlib.Omega.{arith}
use Rattle.reader.proofs.PlaceLaws.{lining_small, lining_next, lining_done}
use Rattle.reader.proofs.Extents.{length-words, length-bytes, words-at, bytes-at, words-set, bytes-set}
use Rattle.reader.proofs.blocks.line_up.Goals as goal

pub overflow_add-words : goal.overflow_add-words
overflow_add-words c =
    let t = c.loop-size-test.true in
    let l = length-words c.loop-size.sizes in
    let e = words-at c.loop-size.sizes c.loop-size.size-index in
    let s = c.loop-size.auto.sizes in
    let k = lining_small c.loop-size.invariant.0 (omega arith) c.requires.0 in
    omega arith

pub overflow_add-bytes : goal.overflow_add-bytes
overflow_add-bytes c =
    let t = c.loop-size-test.true in
    let l = length-bytes c.loop-size.sizes in
    let e = bytes-at c.loop-size.sizes c.loop-size.size-index in
    let s = c.loop-size.auto.sizes in
    let k = lining_small c.loop-size.invariant.1 (omega arith) c.requires.1 in
    omega arith

pub loop-size-preserved : goal.loop-size-preserved
loop-size-preserved c =
    let t = c.loop-size-test.true in
    let l = length-words c.loop-size.sizes in
    let m = length-bytes c.loop-size.sizes in
    let s = c.loop-size.auto.sizes in (
      rw (← words-at c.loop-size.sizes c.loop-size.size-index) (lining_next c.loop-size.invariant.0 (omega arith) (words-set c.loop-size.sizes c.loop-size.size-index _)),
      rw (← bytes-at c.loop-size.sizes c.loop-size.size-index) (lining_next c.loop-size.invariant.1 (omega arith) (bytes-set c.loop-size.sizes c.loop-size.size-index _)),
    )

pub returns : goal.returns
returns c =
    let t = c.loop-size-test.false in
    let l = length-words c.loop-size.sizes in
    let m = length-bytes c.loop-size.sizes in
    let s = c.loop-size.auto.sizes in
    (lining_done c.loop-size.invariant.0 (omega arith), lining_done c.loop-size.invariant.1 (omega arith))
