-- `parts::parse_any` meets its contract.
-- Assumes nothing.
use Rattle.parser.proofs.PartRules.{any-refused, any-yields}
use Rattle.parser.proofs.Ready.{put-plain_asks}
use Rattle.tokens.proofs.Stops.{stopped}
use native.Mathlib.Omega.{arith}
use Rattle.parser.proofs.parts.parse_any.Goals as goal

pub returns-in_err-after-clause-parses : goal.returns-in_err-after-clause-parses
returns-in_err-after-clause-parses c = rw (stopped c.from_residual.result c.from_residual.ensures.1) (any-refused _ _ c.in_err-after.ensures.0)

pub put_plain-requires : goal.put_plain-requires
put_plain-requires c = put-plain_asks c.requires.0 c.requires.0 c.start-start.ensures (omega arith)

pub returns-clause-parses : goal.returns-clause-parses
returns-clause-parses c = any-yields _ _ c.requires.0 c.requires.1 c.in_ok-after.ensures c.start-start.ensures c.start-start.ensures c.put_plain.ensures.stores
