-- `parse` meets its contract.
-- Assumes nothing.
use native.Mathlib.Omega.{arith}
use mathlib.Core.Path.{refl}
use Rattle.tokens.proofs.Stops.{stopped}
use Rattle.grammar.specs.Reading.{longest}
use Rattle.calls.proofs.ReadLaws.{stops, few-stopped, parsed, parsed-few}
use Rattle.calls.proofs.parse.Goals as goal

pub parse-requires : goal.parse-requires
unfolding longest
parse-requires c = let l = c.in_ok-check_text.ensures.0 in omega arith

pub returns-in_err-check_text : goal.returns-in_err-check_text
returns-in_err-check_text c =
    record {
      reading = rw (stopped c.from_residual.result c.from_residual.ensures.1) (stops _ _ _ c.in_err-check_text.ensures, refl, refl);
      few = few-stopped _ c.in_err-check_text.ensures;
    }

pub returns : goal.returns
returns c =
    record {
      reading = parsed _ c.in_ok-check_text.ensures _ _ _ _ c.parse.result c.parse.ensures;
      few = parsed-few _ c.in_ok-check_text.ensures _ _ _ _ c.parse.result c.parse.ensures;
    }
