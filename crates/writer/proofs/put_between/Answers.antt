-- `writer::put_between` meets its contract. Assumes nothing.
use mathlib.Core.Path.{sym, ◌∙◌}
use Rattle.output.proofs.Writes.{then}
use Rattle.writer.proofs.Texts.{between-lists}
use Rattle.writer.proofs.put_between.Goals as goal

pub returns-in_default-2 : goal.returns-in_default-2
returns-in_default-2 c = let d = c.in_default in
    rw (between-lists _ d.not-Grammar d.not-Tokens d.not-LocalTokens d.not-ScopedSkip d.not-Sequence d.not-Set _ _ (sym c.follows.ensures ∙ c.if-follows.false))
    (then (rw c.shuts.ensures at c.put-n.ensures) c.upto-a.ensures (rw c.opens-in_default-2.ensures at c.put-in_default-2.ensures))
