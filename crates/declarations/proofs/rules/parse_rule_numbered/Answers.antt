-- `rules::parse_rule_numbered` meets its contract.
-- Assumes nothing.
use Rattle.declarations.proofs.RuleReads.{rule-name, rule-head, rule-body, head_small, rule-given}
use Rattle.parser.proofs.Ready.{ready_step, ready_on, name-got, put_asks, part-short}
use Rattle.tokens.proofs.Stops.{stopped}
use native.Mathlib.Omega.{arith}
use Rattle.declarations.proofs.rules.parse_rule_numbered.Goals as goal

pub returns-in_err-name-clause-parses : goal.returns-in_err-name-clause-parses
returns-in_err-name-clause-parses c = rw (stopped c.from_residual.result c.from_residual.ensures.1) (rule-name _ c.in_err-name.ensures.takes)

pub rule_head-requires : goal.rule_head-requires
rule_head-requires c = ready_step c.requires (name-got _ c.requires.lies c.in_ok-name.ensures).1.onward

pub returns-in_err-head-clause-parses : goal.returns-in_err-head-clause-parses
returns-in_err-head-clause-parses c = rw (stopped c.from_residual-in_err-head.result c.from_residual-in_err-head.ensures.1) (rule-head _ c.in_ok-name.ensures.takes c.in_err-head.ensures.parses)

pub braced-requires : goal.braced-requires
braced-requires c =
    let h = c.in_ok-head.ensures.parses in
    ready_on (ready_step c.requires (name-got _ c.requires.lies c.in_ok-name.ensures).1.onward) h.onward h.lays

pub returns-in_err-body-clause-parses : goal.returns-in_err-body-clause-parses
returns-in_err-body-clause-parses c = rw (stopped c.from_residual-in_err-body.result c.from_residual-in_err-body.ensures.1) (rule-body _ c.in_ok-name.ensures.takes c.in_ok-head.ensures.parses.gives c.in_err-body.ensures.parses)

pub overflow_add-head : goal.overflow_add-head
overflow_add-head c = omega (arith, head_small c.in_ok-head.ensures.parses c.requires.small)

pub overflow_add-head-2 : goal.overflow_add-head-2
overflow_add-head-2 c = omega (arith, head_small c.in_ok-head.ensures.parses c.requires.small)

pub put_named_numbered-requires : goal.put_named_numbered-requires
put_named_numbered-requires c =
    let n = name-got _ c.requires.lies c.in_ok-name.ensures in
    let h = c.in_ok-head.ensures.parses in
    let g = c.in_ok-body.ensures.parses in
    rw c.of.ensures (put_asks c.requires (ready_on (ready_on (ready_step c.requires n.1.onward) h.onward h.lays) g.yields.onward g.yields.lays) c.start.ensures (omega (arith, head_small h c.requires.small)) (part-short _ n.0.part))

pub returns-clause-parses : goal.returns-clause-parses
returns-clause-parses c = rule-given _ _ _ c.requires.lies c.in_ok-name.ensures c.in_ok-head.ensures.parses c.in_ok-body.ensures.parses c.start.ensures (rw c.of.ensures at c.put_named_numbered.ensures.stores)
