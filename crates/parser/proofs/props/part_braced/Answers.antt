-- `props::part_braced` meets its contract.
-- Assumes nothing.
use mathlib.Core.Path.{refl}
use native.Mathlib.Omega.{arith}
use Rattle.tokens.proofs.Stops.{stopped}
use Rattle.parser.proofs.Ready.{put_asks, part-short}
use Rattle.parser.proofs.PropRules.{braced_halt, braced-name_halt, braced-unclosed, braced-name, braced-found}
use Rattle.parser.proofs.props.part_braced.Goals as goal

pub returns-in_err-opened-clause-parses : goal.returns-in_err-opened-clause-parses
returns-in_err-opened-clause-parses c = rw (stopped c.from_residual.result c.from_residual.ensures.1) (braced_halt _ _ c.requires.1 c.in_err-opened.ensures.0)

pub returns-in_err-name-clause-parses : goal.returns-in_err-name-clause-parses
returns-in_err-name-clause-parses c = rw (stopped c.from_residual-in_err-name.result c.from_residual-in_err-name.ensures.1) (braced-name_halt _ _ c.requires.1 c.in_ok-opened.ensures.0 c.in_err-name.ensures.takes)

pub returns-in_err-closed-clause-parses : goal.returns-in_err-closed-clause-parses
returns-in_err-closed-clause-parses c = rw (stopped c.from_residual-in_err-closed.result c.from_residual-in_err-closed.ensures.1) (braced-unclosed _ _ c.requires.1 c.in_ok-opened.ensures.0 c.in_ok-name.ensures.takes (c.in_err-closed.ensures.expects "}" refl))

pub put_named-requires : goal.put_named-requires
put_named-requires c = rw c.of.ensures (put_asks c.requires.0 c.requires.0 c.start.ensures (omega arith) (part-short _ (braced-name _ _ c.requires.1 c.requires.0 c.in_ok-opened.ensures c.in_ok-name.ensures).1.part))

pub returns-clause-parses : goal.returns-clause-parses
returns-clause-parses c = braced-found _ _ c.requires.1 c.requires.0 c.in_ok-opened.ensures c.in_ok-name.ensures c.in_ok-closed.ensures c.start.ensures (rw c.of.ensures at c.put_named.ensures.stores)
