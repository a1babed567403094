-- `props::prop_named` meets its contract.
-- Assumes nothing.
use native.Mathlib.Omega.{arith}
use Rattle.tokens.proofs.Stops.{stopped}
use Rattle.tree.specs.Stored.{part_branch}
use Rattle.parser.proofs.Ready.{ready_step, ready_on, put_asks, part-short, lists-small}
use Rattle.parser.proofs.PropRules.{prop-held, prop-next, prop_halt, prop-value_halt, prop-given}
use Rattle.parser.proofs.PartRules.{flag_byte}
use Rattle.parser.proofs.props.prop_named.Goals as goal

pub returns-in_err-named-clause-parses : goal.returns-in_err-named-clause-parses
returns-in_err-named-clause-parses c = rw (stopped c.from_residual.result c.from_residual.ensures.1) (prop_halt _ _ c.args.at c.args.name c.requires.1 c.in_err-named.ensures.0)

pub parse_value-requires : goal.parse_value-requires
parse_value-requires c = ready_step c.requires.0 (prop-next _ _ c.args.at c.args.name c.requires.1 c.requires.0 c.in_ok-named.ensures)

pub returns-in_err-after-clause-parses : goal.returns-in_err-after-clause-parses
returns-in_err-after-clause-parses c = rw (stopped c.from_residual-in_err-after.result c.from_residual-in_err-after.ensures.1) (prop-value_halt _ _ c.args.at c.args.name c.requires.1 c.in_ok-named.ensures.0 c.in_err-after.ensures.parses)

pub put_named-requires : goal.put_named-requires
put_named-requires c =
    let l = c.in_ok-after.ensures.parses in
    let on = ready_step c.requires.0 (prop-next _ _ c.args.at c.args.name c.requires.1 c.requires.0 c.in_ok-named.ensures) in
    rw c.of.ensures (put_asks c.requires.0 (ready_on on l.onward l.lays) c.start.ensures (omega (arith, lists-small part_branch l c.requires.0.small)) (part-short _ (prop-held _ _ c.args.at c.args.name c.requires.0 c.requires.1).part))

pub returns-clause-parses : goal.returns-clause-parses
returns-clause-parses c = prop-given _ _ c.args.at c.args.name c.requires.1 c.requires.0 c.in_ok-named.ensures c.in_ok-after.ensures.parses c.start.ensures (flag_byte c.args.at) (rw c.of.ensures at c.put_named.ensures.stores)
