-- `tree::put_words` meets its contract. Assumes nothing.
use mathlib.Core.Path.{◌≡◌, refl, sym}
use native.Mathlib.Omega.{arith}
use Prim.Native.Nat.{◌+◌, ◌<◌}
use lib.ListN.{length}
use Rattle.characters.proofs.Written.{written_not}
use Rattle.tree.proofs.Stores.{stored}
use Rattle.tree.proofs.put_words.Goals.{else-at-records-via-then-at-records+else-records-at-ge-WIDTH, else-at-records-via-else-at-records}
use Rattle.tree.proofs.put_words.Goals as goal

pub returns-then-records-at-ge-WIDTH : goal.returns-then-records-at-ge-WIDTH
returns-then-records-at-ge-WIDTH c =
    let n : length c.args.words ≡ 7 = omega arith in
    (refl, rw c.copy_from_slice.ensures.after (rw n at (stored c.args.records.now c.args.words c.args.at (omega arith) (omega arith))))

pub returns-else-at-records : goal.returns-else-at-records
returns-else-at-records c =
    let n : length c.args.words ≡ 7 = omega arith in
    let l : length c.args.records.now < c.args.at + length c.args.words =
    elim c.else-at-records.branch [
      | else-at-records-via-then-at-records+else-records-at-ge-WIDTH w ↦ omega arith
      | else-at-records-via-else-at-records w ↦ omega arith
    ] in
    (refl, sym (written_not c.args.records.now c.args.at c.args.words l))
