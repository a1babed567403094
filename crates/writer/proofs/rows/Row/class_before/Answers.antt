-- `writer::rows::Row::class_before` meets its contract. Assumes nothing.
use Rattle.writer.proofs.Texts.{class-none}
use Rattle.writer.proofs.rows.Row.class_before.Goals as goal

pub returns-in_err-kind_before : goal.returns-in_err-kind_before
returns-in_err-kind_before c = rw c.from_residual.ensures (class-none c.args.self.now.lent c.args.end c.requires c.in_err-kind_before.ensures)
