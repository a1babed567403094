-- `rules::parse_named_node` meets its contract.
-- Assumes nothing.
use Rattle.declarations.proofs.RuleReads.{node-name, node-props, node-given}
use Rattle.parser.proofs.Ready.{ready_step, ready_on, name-got, put_asks, part-short, lists-small}
use Rattle.tokens.proofs.Stops.{stopped}
use Rattle.tree.specs.Stored.{prop_branch}
use native.Mathlib.Omega.{arith}
use Rattle.declarations.proofs.rules.parse_named_node.Goals as goal

pub returns-in_err-name-clause-parses : goal.returns-in_err-name-clause-parses
returns-in_err-name-clause-parses c = rw (stopped c.from_residual.result c.from_residual.ensures.1) (node-name _ c.in_err-name.ensures.takes)

pub parse_props-requires : goal.parse_props-requires
parse_props-requires c = ready_step c.requires (name-got _ c.requires.lies c.in_ok-name.ensures).1.onward

pub returns-in_err-after-clause-parses : goal.returns-in_err-after-clause-parses
returns-in_err-after-clause-parses c = rw (stopped c.from_residual-in_err-after.result c.from_residual-in_err-after.ensures.1) (node-props _ c.in_ok-name.ensures.takes c.in_err-after.ensures.parses)

pub put_named-requires : goal.put_named-requires
put_named-requires c =
    let n = name-got _ c.requires.lies c.in_ok-name.ensures in
    let l = c.in_ok-after.ensures.parses in
    rw c.of.ensures (put_asks c.requires (ready_on (ready_step c.requires n.1.onward) l.onward l.lays) c.start.ensures (omega (arith, lists-small prop_branch l c.requires.small)) (part-short _ n.0.part))

pub returns-clause-parses : goal.returns-clause-parses
returns-clause-parses c = node-given _ _ c.requires.lies c.in_ok-name.ensures c.in_ok-after.ensures.parses c.start.ensures (rw c.of.ensures at c.put_named.ensures.stores)
