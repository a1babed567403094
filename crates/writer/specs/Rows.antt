-- The records of the code.
-- Assumes nothing.
use Rattle.tree.specs.Records.{Row}
use Rattle.writer.specs.declared.rows.Row.{Row as DeclaredRow}
use Rattle.writer.specs.Promise.{row_at}

-- a record of the code as one of the definition
abbrev pub row_of : DeclaredRow → Row
row_of r = row_at r.tree.records.now r.tree.texts.now r.i
