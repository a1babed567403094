-- `top::parse_detect_delim` meets its contract.
-- Assumes nothing.
use Rattle.notation.specs.Parser.{pure}
use Rattle.notation.specs.Members.{detect_delim}
use Rattle.reader.proofs.TopLaws.{past_not, detect_declares}
use Rattle.tokens.proofs.Stops.{stopped}
use Rattle.reader.proofs.top.parse_detect_delim.Goals as goal

pub returns-in_err-keyword-clause-declares : goal.returns-in_err-keyword-clause-declares
returns-in_err-keyword-clause-declares c = rw (stopped c.from_residual.result c.from_residual.ensures.1) (λ before q. past_not _ _ (pure detect_delim) c.in_err-keyword.ensures.0)

pub returns-clause-declares : goal.returns-clause-declares
returns-clause-declares c = rw c.of_kind.ensures (detect_declares _ _ _ _ c.in_ok-keyword.ensures c.requires.1 c.requires.0.lies _)
