-- `tree::put_text` meets its contract. Assumes nothing.
use mathlib.Core.Path.{refl, ap, sym, ◌∙◌}
use native.Mathlib.Omega.{arith}
use native.Mathlib.Numerals.{add-one}
use lib.ListN.{length}
use lib.Seq.{paste-zero, paste-suc, length-paste}
use Rattle.characters.proofs.Written.{written_not}
use Rattle.tree.proofs.Stores.{pasted}
use Rattle.tree.proofs.put_text.Goals as goal

pub returns-then-texts-at : goal.returns-then-texts-at
returns-then-texts-at c = (refl, sym (written_not c.args.texts.now c.args.at c.args.text.now (omega arith)))

pub returns-then-texts-at-2 : goal.returns-then-texts-at-2
returns-then-texts-at-2 c = (refl, sym (written_not c.args.texts.now c.args.at c.args.text.now (omega arith)))

pub loop-i-init : goal.loop-i-init
loop-i-init c = (omega arith, omega arith, paste-zero c.args.texts.now c.args.at c.args.text.now)

pub bounds-texts-at : goal.bounds-texts-at
bounds-texts-at c = omega (arith, ap length c.loop-i.invariant.2 ∙ length-paste c.args.texts.now c.args.at c.args.text.now c.loop-i.i (omega arith) (omega arith))

pub loop-i-preserved : goal.loop-i-preserved
loop-i-preserved c = (omega arith, c.loop-i.invariant.1, rw (c.loop-i.invariant.2, add-one) (paste-suc c.args.texts.now c.args.at c.args.text.now c.loop-i.i 0 (omega arith) (omega arith)))

pub shape_of-texts : goal.shape_of-texts
shape_of-texts c = ap length c.loop-i.invariant.2 ∙ length-paste c.args.texts.now c.args.at c.args.text.now c.loop-i.i (omega arith) (omega arith)

pub returns : goal.returns
returns c = (refl, c.loop-i.invariant.2 ∙ pasted c.args.texts.now c.args.text.now c.args.at c.loop-i.i (omega arith) (omega arith))
