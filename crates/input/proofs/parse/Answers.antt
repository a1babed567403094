-- `parse` meets its contract.
-- Assumes nothing.
use mathlib.Core.Path.{refl}
use Rattle.tokens.proofs.Stops.{stopped}
use Rattle.reader.proofs.ParseLaws.{stopped-first, first-is}
use Rattle.input.proofs.parse.Goals as goal

pub returns-in_err-first : goal.returns-in_err-first
returns-in_err-first c = rw (stopped c.from_residual.result c.from_residual.ensures.1) (stopped-first _ _ c.in_err-first.ensures, refl, refl)

pub parse-requires : goal.parse-requires
parse-requires c = rw (c.new.ensures.0, c.new.ensures.1) (c.requires, first-is c.in_ok-first.ensures)
