-- `extent` meets its contract.
-- Assumes nothing.
use native.Mathlib.Omega.{arith}
use Rattle.tokens.proofs.Stops.{stopped}
use Rattle.grammar.specs.Reading.{longest}
use Rattle.calls.proofs.ReadLaws.{few-stopped, sized, sized-few}
use Rattle.calls.proofs.extent.Goals as goal

pub measure-requires : goal.measure-requires
unfolding longest
measure-requires c = let l = c.in_ok-check_text.ensures.0 in omega arith

pub returns-in_err-check_text : goal.returns-in_err-check_text
returns-in_err-check_text c =
    record { sizes = rw (stopped c.from_residual.result c.from_residual.ensures.1) c.in_err-check_text.ensures; few = few-stopped _ c.in_err-check_text.ensures }

pub returns : goal.returns
returns c = record { sizes = sized _ c.in_ok-check_text.ensures c.measure.result c.measure.ensures; few = sized-few _ c.in_ok-check_text.ensures c.measure.result c.measure.ensures }
