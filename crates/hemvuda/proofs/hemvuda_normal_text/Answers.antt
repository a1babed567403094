-- `hemvuda_normal_text` meets its contract.
-- Assumes nothing.
use Rattle.std.specs.Prelude.{Ok, Err}
use Rattle.calls.proofs.Refusals.{normal-text-refuses}
use Rattle.hemvuda.proofs.Bounds.{normal_keeps}
use Rattle.hemvuda.proofs.Kept.{refuses, keeps-normal}
use Rattle.hemvuda.proofs.hemvuda_normal_text.Goals as goal

pub returns-in-Ok-clause-accepted : goal.returns-in-Ok-clause-accepted
returns-in-Ok-clause-accepted c = (normal_keeps _ c.in-Ok.ensures.few (Ok c.in-Ok.bytes) c.in-Ok.ensures.outcome c.said.result c.said.ensures).accepted

pub returns-in-Err-clause-room : goal.returns-in-Err-clause-room
returns-in-Err-clause-room c = (normal_keeps _ c.in-Err.ensures.few (Err c.in-Err.refusal) c.in-Err.ensures.outcome c.refused.result c.refused.ensures).room

pub returns-in-Err-clause-causes : goal.returns-in-Err-clause-causes
returns-in-Err-clause-causes c = (normal_keeps _ c.in-Err.ensures.few (Err c.in-Err.refusal) c.in-Err.ensures.outcome c.refused.result c.refused.ensures).causes

pub returns-in-Ok-clause-kept : goal.returns-in-Ok-clause-kept
returns-in-Ok-clause-kept c z = keeps-normal _ _ _ _ _ _ _ c.in-Ok.bytes c.in-Ok.ensures.outcome c.in-Ok.ensures.own c.said.ensures

pub returns-in-Err-clause-kept : goal.returns-in-Err-clause-kept
returns-in-Err-clause-kept c z =
    absurd (refuses c.in-Err.refusal c.refused.ensures (normal-text-refuses _ _ _ _ c.in-Err.refusal _ _ _ c.in-Err.ensures.outcome).0.number.0 z)
