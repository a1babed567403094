-- `writer::rows::Row::put_spelled` meets its contract. Assumes nothing.
use Rattle.writer.specs.Promise.{row_at}
use Rattle.writer.specs.Walk.{spelled}
use Rattle.output.proofs.Writes.{wrote_none}
use Rattle.writer.proofs.Texts.{spelled-string, spelled-none, spelled-name}
use Rattle.writer.proofs.rows.Row.put_spelled.Goals as goal

pub returns-in-PartText : goal.returns-in-PartText
returns-in-PartText c = rw (spelled-string (row_at c.args.self.now.tree.records.now c.args.self.now.tree.texts.now c.args.self.now.i) c.args.self.now.kind c.args.self.now.kinds c.in-PartText.is) (rw c.text.ensures at c.put_quoted.ensures)

pub returns-in-Span : goal.returns-in-Span
unfolding spelled
returns-in-Span c = rw (← c.args.self.now.kinds, c.in-Span.is) (rw (c.args.self.now.values, c.word.ensures) at c.put_codes.ensures)

pub returns-in-Context : goal.returns-in-Context
returns-in-Context c = rw (spelled-none (row_at c.args.self.now.tree.records.now c.args.self.now.tree.texts.now c.args.self.now.i) c.args.self.now.kind c.args.self.now.kinds c.in-Context.is) (wrote_none _)

pub returns-in_default : goal.returns-in_default
returns-in_default c = let d = c.in_default in
    rw (spelled-name (row_at c.args.self.now.tree.records.now c.args.self.now.tree.texts.now c.args.self.now.i) c.args.self.now.kind c.args.self.now.kinds d.not-PartText d.not-TokenLiteral d.not-Source d.not-Literal d.not-Span d.not-Context d.not-ExternalTokens d.not-ExternalSpecializer d.not-PropSource d.not-ExternalProp)
    (rw c.text-in_default.ensures at c.put.ensures)
