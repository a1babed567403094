-- `whole::kind_ahead` meets its contract.
-- Assumes nothing.
use mathlib.Core.Path.{refl}
use Rattle.reader.proofs.AheadLaws.{ahead-by, plain-none, plain-some}
use Rattle.reader.proofs.WordLaws.{keyword-by}
use Rattle.reader.proofs.whole.kind_ahead.Goals as goal

pub returns-in-Some-Top : goal.returns-in-Some-Top
returns-in-Some-Top c = rw (ahead-by _ c.args.token, keyword-by, ← c.at-at.ensures, ← c.which_directive.ensures, c.in-Some-Top.is, c.in-Some-Top.field-0-is)

pub returns-in-Some-Tokens : goal.returns-in-Some-Tokens
returns-in-Some-Tokens c = rw (ahead-by _ c.args.token, keyword-by, ← c.at-at.ensures, ← c.which_directive.ensures, c.in-Some-Tokens.is, c.in-Some-Tokens.field-0-is)

pub returns-in-Some-Local : goal.returns-in-Some-Local
returns-in-Some-Local c = rw (ahead-by _ c.args.token, keyword-by, ← c.at-at.ensures, ← c.which_directive.ensures, c.in-Some-Local.is, c.in-Some-Local.field-0-is)

pub returns-in-Some-Context : goal.returns-in-Some-Context
returns-in-Some-Context c = rw (ahead-by _ c.args.token, keyword-by, ← c.at-at.ensures, ← c.which_directive.ensures, c.in-Some-Context.is, c.in-Some-Context.field-0-is)

pub returns-in-Some-External : goal.returns-in-Some-External
returns-in-Some-External c = rw (ahead-by _ c.args.token, keyword-by, ← c.at-at.ensures, ← c.which_directive.ensures, c.in-Some-External.is, c.in-Some-External.field-0-is, c.external_ahead.ensures)

pub returns-in-Some-Dialects : goal.returns-in-Some-Dialects
returns-in-Some-Dialects c = rw (ahead-by _ c.args.token, keyword-by, ← c.at-at.ensures, ← c.which_directive.ensures, c.in-Some-Dialects.is, c.in-Some-Dialects.field-0-is)

pub returns-in-Some-Precedence : goal.returns-in-Some-Precedence
returns-in-Some-Precedence c = rw (ahead-by _ c.args.token, keyword-by, ← c.at-at.ensures, ← c.which_directive.ensures, c.in-Some-Precedence.is, c.in-Some-Precedence.field-0-is)

pub returns-in-Some-DetectDelim : goal.returns-in-Some-DetectDelim
returns-in-Some-DetectDelim c = rw (ahead-by _ c.args.token, keyword-by, ← c.at-at.ensures, ← c.which_directive.ensures, c.in-Some-DetectDelim.is, c.in-Some-DetectDelim.field-0-is)

pub returns-in-Some-Skip : goal.returns-in-Some-Skip
returns-in-Some-Skip c = rw (ahead-by _ c.args.token, keyword-by, ← c.at-at.ensures, ← c.which_directive.ensures, c.in-Some-Skip.is, c.in-Some-Skip.field-0-is)

pub returns-then-is_none : goal.returns-then-is_none
returns-then-is_none c = rw (ahead-by _ c.args.token, keyword-by, ← c.at-at.ensures, ← c.which_directive.ensures, c.in-None.is) (plain-none c.args.source.now c.at-at.result refl c.is_none.ensures c.if-is_none.true)

pub returns-else-is_none : goal.returns-else-is_none
returns-else-is_none c = rw (ahead-by _ c.args.token, keyword-by, ← c.at-at.ensures, ← c.which_directive.ensures, c.in-None.is) (plain-some c.args.source.now c.at-at.result refl c.is_none.ensures c.if-is_none.false)
