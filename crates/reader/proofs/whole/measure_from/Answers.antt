-- `whole::measure_from` meets its contract.
-- Assumes nothing.
use Rattle.tokens.proofs.Stops.{stopped}
use Rattle.reader.proofs.ParseLaws.{given}
use Rattle.reader.proofs.whole.measure_from.Goals as goal

pub returns-in_err-measured : goal.returns-in_err-measured
returns-in_err-measured c = rw (stopped c.from_residual.result c.from_residual.ensures.1) c.in_err-measured.ensures

pub returns : goal.returns
returns c = given c.in_ok-measured.ensures
