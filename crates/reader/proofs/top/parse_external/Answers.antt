-- `top::parse_external` meets its contract.
-- Assumes nothing.
use Rattle.notation.specs.Declarations.{parse_external_declaration}
use Rattle.reader.proofs.RoomyLaws.{roomy_ready, roomy_step}
use Rattle.reader.proofs.TopLaws.{start-within, past_not, past-onward, external-past}
use Rattle.tokens.proofs.Stops.{stopped}
use Rattle.reader.proofs.top.parse_external.Goals as goal

pub returns-in_err-keyword-clause-declares : goal.returns-in_err-keyword-clause-declares
returns-in_err-keyword-clause-declares c = rw (stopped c.from_residual.result c.from_residual.ensures.1) (λ before q. past_not _ _ (parse_external_declaration _) c.in_err-keyword.ensures.0)

pub parse_external_declaration-requires : goal.parse_external_declaration-requires
parse_external_declaration-requires c = (roomy_step c.requires.0 (past-onward _ _ _ c.in_ok-keyword.ensures c.requires.1 c.requires.0.lies), start-within (roomy_ready c.requires.0) c.start.ensures)

pub returns-clause-declares : goal.returns-clause-declares
returns-clause-declares c = rw (← c.start.ensures) (external-past _ _ _ _ c.in_ok-keyword.ensures c.requires.1 c.requires.0.lies c.start.result _ _ c.parse_external_declaration.result c.parse_external_declaration.ensures.declares)
