-- `props::part_value` meets its contract.
-- Assumes nothing.
use native.Mathlib.Omega.{arith}
use Rattle.tokens.proofs.Stops.{stopped}
use Rattle.parser.proofs.Ready.{put_asks, holds-short}
use Rattle.parser.proofs.PropRules.{part-refused, value_found}
use Rattle.parser.proofs.props.part_value.Goals as goal

pub returns-in_err-after-clause-parses : goal.returns-in_err-after-clause-parses
returns-in_err-after-clause-parses c = rw (stopped c.from_residual.result c.from_residual.ensures.1) (part-refused _ _ _ c.requires.1.part c.in_err-after.ensures.0)

pub put_named-requires : goal.put_named-requires
put_named-requires c = put_asks c.requires.0 c.requires.0 c.start.ensures (omega arith) (holds-short c.requires.0 c.requires.1.holds)

pub returns-clause-parses : goal.returns-clause-parses
returns-clause-parses c = value_found _ _ c.requires.0 c.requires.1 c.in_ok-after.ensures c.start.ensures c.put_named.ensures.stores
