-- `parts::parse_literal_expression` meets its contract.
-- Assumes nothing.
use Rattle.parser.proofs.PartRules.{literal-refused, empty-yields, literal-yields, value_none, value-some}
use Rattle.parser.proofs.Ready.{put-plain_asks, put_asks, part-short, string-in}
use Rattle.tokens.proofs.Stops.{stopped}
use native.Mathlib.Omega.{arith}
use Rattle.parser.proofs.parts.parse_literal_expression.Goals as goal

pub returns-in_err-after-clause-parses : goal.returns-in_err-after-clause-parses
returns-in_err-after-clause-parses c = rw (stopped c.from_residual.result c.from_residual.ensures.1) (literal-refused _ _ _ _ c.in_err-after.ensures.0)

pub put_plain-requires : goal.put_plain-requires
put_plain-requires c = put-plain_asks c.requires.0 c.requires.0 c.start-start.ensures (omega arith)

pub put_string-requires : goal.put_string-requires
put_string-requires c = rw c.of-2.ensures (put_asks c.requires.0 c.requires.0 c.start-start.ensures (omega arith) (part-short _ (string-in c.requires.0 c.requires.1).part))

pub returns-in_default-clause-parses : goal.returns-in_default-clause-parses
returns-in_default-clause-parses c =
    empty-yields _ _ c.requires.0 c.requires.1 c.in_ok-after.ensures (value_none _ (rw c.in_default.is at rw c.of.ensures at c.set_atom.ensures)) c.start-start.ensures c.start-start.ensures c.put_plain.ensures.stores

pub returns-clause-parses : goal.returns-clause-parses
returns-clause-parses c =
    literal-yields _ _ c.requires.0 c.requires.1 c.in_ok-after.ensures (value-some _ (rw c.in-Some.is at rw c.of.ensures at c.set_atom.ensures)) c.start-start.ensures c.start-start.ensures
    (rw c.of-2.ensures at c.put_string.ensures.stores) (rw c.of-2.ensures at c.put_string.ensures.few)
