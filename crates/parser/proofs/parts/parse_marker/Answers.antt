-- `parts::parse_marker` meets its contract.
-- Assumes nothing.
use Rattle.parser.proofs.HeadRules.{marker-refused, marker-name, marker-named, marker-yields}
use Rattle.parser.proofs.Ready.{put_asks, part-short}
use Rattle.tokens.proofs.Stops.{stopped}
use native.Mathlib.Omega.{arith}
use Rattle.parser.proofs.parts.parse_marker.Goals as goal

pub returns-in_err-marked-clause-parses : goal.returns-in_err-marked-clause-parses
returns-in_err-marked-clause-parses c = rw (stopped c.from_residual.result c.from_residual.ensures.1) (marker-refused _ _ _ c.in_err-marked.ensures.0)

pub returns-in_err-name-clause-parses : goal.returns-in_err-name-clause-parses
returns-in_err-name-clause-parses c = rw (stopped c.from_residual-in_err-name.result c.from_residual-in_err-name.ensures.1) (marker-name _ _ _ c.in_ok-marked.ensures.0 c.in_err-name.ensures.takes)

pub put_named-requires : goal.put_named-requires
put_named-requires c = rw c.of.ensures (put_asks c.requires.0 c.requires.0 c.start.ensures (omega arith) (part-short _ (marker-named _ _ c.requires.0 c.requires.1 c.in_ok-marked.ensures c.in_ok-name.ensures).1.part))

pub returns-clause-parses : goal.returns-clause-parses
returns-clause-parses c = marker-yields _ _ c.requires.0 c.requires.1 c.in_ok-marked.ensures c.in_ok-name.ensures _ c.kind.ensures c.start.ensures (rw c.of.ensures at c.put_named.ensures.stores)
