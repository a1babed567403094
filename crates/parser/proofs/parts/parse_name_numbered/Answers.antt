-- `parts::parse_name_numbered` meets its contract.
-- Assumes nothing.
use Rattle.parser.proofs.HeadRules.{name-given}
use Rattle.parser.proofs.Ready.{name-got, put_asks, part-short}
use Rattle.tokens.proofs.Stops.{stopped}
use native.Mathlib.Omega.{arith}
use Rattle.parser.proofs.parts.parse_name_numbered.Goals as goal

pub returns-in_err-name-clause-parses : goal.returns-in_err-name-clause-parses
returns-in_err-name-clause-parses c = rw (stopped c.from_residual.result c.from_residual.ensures.1) c.in_err-name.ensures.takes

pub put_named_numbered-requires : goal.put_named_numbered-requires
put_named_numbered-requires c = rw c.of.ensures (put_asks c.requires c.requires c.start.ensures (omega arith) (part-short _ (name-got _ c.requires.lies c.in_ok-name.ensures).0.part))

pub returns-clause-parses : goal.returns-clause-parses
returns-clause-parses c = name-given _ _ _ c.requires.lies c.in_ok-name.ensures c.start.ensures (rw c.of.ensures at c.put_named_numbered.ensures.stores)
