-- `parts::parse_class` meets its contract.
-- Assumes nothing.
use Rattle.parser.proofs.PartRules.{class-none, class-refused, class-yields, class_absent, class_found, plain_asks}
use Rattle.tokens.proofs.Stops.{stopped}
use native.Mathlib.Omega.{arith}
use Rattle.parser.proofs.parts.parse_class.Goals as goal

pub returns-in_default-clause-parses : goal.returns-in_default-clause-parses
returns-in_default-clause-parses c = rw c.unexpected.ensures.0 (class-none _ _ _ (class_absent (rw c.of.ensures at c.from_name.ensures.text) c.requires.2.bytes c.in_default.is) c.unexpected.ensures.1)

pub returns-in_err-after-clause-parses : goal.returns-in_err-after-clause-parses
returns-in_err-after-clause-parses c = rw (stopped c.from_residual.result c.from_residual.ensures.1) (class-refused _ _ (class_found (rw c.of.ensures at c.from_name.ensures.text) c.requires.2.bytes c.in-Some.is) c.in_err-after.ensures.0)

pub put_plain-requires : goal.put_plain-requires
put_plain-requires c = plain_asks c.requires.0 c.requires.3 (omega arith)

pub returns-clause-parses : goal.returns-clause-parses
returns-clause-parses c = class-yields _ _ c.requires.0 c.requires.1 c.in_ok-after.ensures (class_found (rw c.of.ensures at c.from_name.ensures.text) c.requires.2.bytes c.in-Some.is) c.requires.3 c.value.ensures c.put_plain.ensures.stores
