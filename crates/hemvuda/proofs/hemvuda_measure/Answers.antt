-- `hemvuda_measure` meets its contract.
-- Assumes nothing.
use Rattle.std.specs.Prelude.{Ok, Err}
use Rattle.hemvuda.proofs.Bounds.{measure_keeps}
use Rattle.hemvuda.proofs.hemvuda_measure.Goals as goal

pub returns-in-Ok-clause-accepted : goal.returns-in-Ok-clause-accepted
returns-in-Ok-clause-accepted c = (measure_keeps c.in-Ok.ensures.few (Ok c.in-Ok.extent) c.in-Ok.ensures.outcome c.said.result c.said.ensures).accepted

pub returns-in-Err-clause-causes : goal.returns-in-Err-clause-causes
returns-in-Err-clause-causes c = (measure_keeps c.in-Err.ensures.few (Err c.in-Err.refusal) c.in-Err.ensures.outcome c.refused.result c.refused.ensures).causes
