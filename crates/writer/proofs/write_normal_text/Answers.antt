-- `writer::write_normal_text` meets its contract. Assumes nothing.
use Rattle.writer.proofs.Measured.{over-limit, over-output, within_both}
use mathlib.Core.Path.{sym}
use lib.Seq.{length-take-le}
use borrow.Author.Rules.{rules}
use Rattle.writer.proofs.write_normal_text.Goals as goal

pub slice_bounds-normal_text-end-2 : goal.slice_bounds-normal_text-end-2
slice_bounds-normal_text-end-2 c = sym (length-take-le _ c.args.out.now (search rules))

pub normal_text-n-requires : goal.normal_text-n-requires
normal_text-n-requires c = c.requires

pub returns-then-limit-n : goal.returns-then-limit-n
returns-then-limit-n c = λ s. over-limit c.args.out.now (c.normal_text-n.ensures s) c.if-limit-n.true

pub returns-then-room-n : goal.returns-then-room-n
returns-then-room-n c = λ s. over-output c.args.out.now (c.normal_text-n.ensures s) c.if-room-n.true

pub normal_text-requires : goal.normal_text-requires
normal_text-requires c = c.requires

pub returns : goal.returns
returns c = λ s. within_both c.args.out.now (c.normal_text-n.ensures s) c.if-limit-n.false c.if-room-n.false (c.normal_text.ensures s)
