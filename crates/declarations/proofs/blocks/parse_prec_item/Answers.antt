-- `blocks::parse_prec_item` meets its contract.
-- Assumes nothing.
use Rattle.declarations.proofs.BlocksLaws.{item-nameless, item_kindless, item-given}
use Rattle.parser.proofs.Ready.{name-got, part-short, put_asks}
use Rattle.tokens.proofs.Stops.{stopped}
use native.Mathlib.Omega.{arith}
use Rattle.declarations.proofs.blocks.parse_prec_item.Goals as goal

pub returns-in_err-name-clause-parses : goal.returns-in_err-name-clause-parses
returns-in_err-name-clause-parses c = rw (stopped c.from_residual.result c.from_residual.ensures.1) (item-nameless _ c.in_err-name.ensures.takes)

pub parse_prec_kind-requires : goal.parse_prec_kind-requires
parse_prec_kind-requires c = (name-got _ c.requires.lies c.in_ok-name.ensures).1.onward.lies

pub returns-in_err-kind-clause-parses : goal.returns-in_err-kind-clause-parses
returns-in_err-kind-clause-parses c = rw (stopped c.from_residual-in_err-kind.result c.from_residual-in_err-kind.ensures.1) (item_kindless _ c.in_ok-name.ensures.takes c.in_err-kind.ensures)

pub put_named-requires : goal.put_named-requires
put_named-requires c = rw c.of.ensures (put_asks c.requires c.requires c.start.ensures (omega arith) (part-short _ (name-got _ c.requires.lies c.in_ok-name.ensures).0.part))

pub returns-clause-parses : goal.returns-clause-parses
returns-clause-parses c = item-given _ _ c.requires.lies c.in_ok-name.ensures c.in_ok-kind.ensures c.start.ensures c.prec_value.ensures (rw c.of.ensures at c.put_named.ensures.stores)
