-- `rules::parse_literal` meets its contract.
-- Assumes nothing.
use Rattle.declarations.proofs.RuleReads.{literal-next, literal-props, literal-on, literal-given}
use Rattle.parser.proofs.Ready.{ready_step, ready_on, string-in, put_asks, part-short, lists-small}
use Rattle.tokens.proofs.Stops.{stopped}
use Rattle.tree.specs.Stored.{prop_branch}
use native.Mathlib.Omega.{arith}
use Rattle.declarations.proofs.rules.parse_literal.Goals as goal

pub returns-in_err-literal-clause-parses : goal.returns-in_err-literal-clause-parses
returns-in_err-literal-clause-parses c = rw (stopped c.from_residual.result c.from_residual.ensures.1) (literal-next _ _ _ c.in_err-literal.ensures.0)

pub parse_props-requires : goal.parse_props-requires
parse_props-requires c = ready_step c.requires.0 (literal-on _ _ c.requires.0 c.requires.1 c.in_ok-literal.ensures)

pub returns-in_err-after-clause-parses : goal.returns-in_err-after-clause-parses
returns-in_err-after-clause-parses c = rw (stopped c.from_residual-in_err-after.result c.from_residual-in_err-after.ensures.1) (literal-props _ _ _ c.in_ok-literal.ensures.0 c.in_err-after.ensures.parses)

pub put_string-requires : goal.put_string-requires
put_string-requires c =
    let l = c.in_ok-after.ensures.parses in
    rw c.of.ensures (put_asks c.requires.0 (ready_on (ready_step c.requires.0 (literal-on _ _ c.requires.0 c.requires.1 c.in_ok-literal.ensures)) l.onward l.lays) c.start.ensures (omega (arith, lists-small prop_branch l c.requires.0.small)) (part-short _ (string-in c.requires.0 c.requires.1).part))

pub returns-clause-parses : goal.returns-clause-parses
returns-clause-parses c = literal-given _ _ c.requires.0 c.requires.1 c.in_ok-literal.ensures c.in_ok-after.ensures.parses c.start.ensures (rw c.of.ensures at c.put_string.ensures.stores) (rw c.of.ensures at c.put_string.ensures.few)
