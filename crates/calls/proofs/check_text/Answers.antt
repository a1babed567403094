-- `check_text` meets its contract.
-- Assumes nothing.
use mathlib.Core.Path.{sym}
use Rattle.tokens.proofs.Stops.{stopped}
use Rattle.grammar.specs.Reading.{longest}
use Rattle.calls.proofs.ReadLaws.{long-stops, ill-stops}
use Rattle.calls.proofs.check_text.Goals as goal

pub returns-then-text-gt-LONGEST : goal.returns-then-text-gt-LONGEST
unfolding longest
returns-then-text-gt-LONGEST c = long-stops _ c.if-text-gt-LONGEST.true

pub returns-in_err-check : goal.returns-in_err-check
unfolding longest
returns-in_err-check c = rw (stopped c.from_residual.result c.from_residual.ensures.1) (ill-stops _ c.if-text-gt-LONGEST.false (sym (c.in_err-check.ensures {u = tt})))

pub returns : goal.returns
unfolding longest
returns c = (c.if-text-gt-LONGEST.false, sym (c.in_ok-check.ensures {u = tt}))
