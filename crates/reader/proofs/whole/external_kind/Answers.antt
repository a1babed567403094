-- `whole::external_kind` meets its contract.
-- Assumes nothing.
use Rattle.reader.proofs.WordLaws.{external-kind-by}
use Rattle.reader.proofs.whole.external_kind.Goals as goal

pub returns-in-Some-Tokens : goal.returns-in-Some-Tokens
returns-in-Some-Tokens c = rw (external-kind-by, ← c.which_external.ensures, c.in-Some-Tokens.is, c.in-Some-Tokens.field-0-is)

pub returns-in-Some-Prop : goal.returns-in-Some-Prop
returns-in-Some-Prop c = rw (external-kind-by, ← c.which_external.ensures, c.in-Some-Prop.is, c.in-Some-Prop.field-0-is)

pub returns-in-Some-Specializer : goal.returns-in-Some-Specializer
returns-in-Some-Specializer c = rw (external-kind-by, ← c.which_external.ensures, c.in-Some-Specializer.is, c.in-Some-Specializer.field-0-is)

pub returns-in-Some-PropSource : goal.returns-in-Some-PropSource
returns-in-Some-PropSource c = rw (external-kind-by, ← c.which_external.ensures, c.in-Some-PropSource.is, c.in-Some-PropSource.field-0-is)

pub returns-in-None : goal.returns-in-None
returns-in-None c = rw (external-kind-by, ← c.which_external.ensures, c.in-None.is)
