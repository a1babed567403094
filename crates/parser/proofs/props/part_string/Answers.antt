-- `props::part_string` meets its contract.
-- Assumes nothing.
use native.Mathlib.Omega.{arith}
use Rattle.tokens.proofs.Stops.{stopped}
use Rattle.parser.proofs.Ready.{put_asks, part-short, string-in}
use Rattle.parser.proofs.PropRules.{string-refused, string-found}
use Rattle.parser.proofs.props.part_string.Goals as goal

pub returns-in_err-after-clause-parses : goal.returns-in_err-after-clause-parses
returns-in_err-after-clause-parses c = rw (stopped c.from_residual.result c.from_residual.ensures.1) (string-refused _ _ c.requires.1 c.in_err-after.ensures.0)

pub put_string-requires : goal.put_string-requires
put_string-requires c = rw c.of.ensures (put_asks c.requires.0 c.requires.0 c.start.ensures (omega arith) (part-short _ (string-in c.requires.0 c.requires.1).part))

pub returns-clause-parses : goal.returns-clause-parses
returns-clause-parses c = string-found _ _ c.requires.0 c.requires.1 c.in_ok-after.ensures c.start.ensures (rw c.of.ensures at c.put_string.ensures.stores) (rw c.of.ensures at c.put_string.ensures.few)
