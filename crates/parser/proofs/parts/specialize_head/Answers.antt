-- `parts::specialize_head` meets its contract.
-- Assumes nothing.
use Rattle.parser.proofs.HeadRules.{keyword-refused, keyword-props, keyword-angle, keyword-heads}
use Rattle.parser.proofs.Onward.{next-onward}
use Rattle.parser.proofs.Ready.{ready_step}
use Rattle.tokens.proofs.Stops.{stopped}
use mathlib.Core.Path.{refl}
use Rattle.parser.proofs.parts.specialize_head.Goals as goal

pub returns-in_err-keyword-clause-parses : goal.returns-in_err-keyword-clause-parses
returns-in_err-keyword-clause-parses c = rw (stopped c.from_residual.result c.from_residual.ensures.1) (keyword-refused _ c.in_err-keyword.ensures.0)

pub parse_props-requires : goal.parse_props-requires
parse_props-requires c = ready_step c.requires.0 (next-onward _ _ c.requires.1 c.requires.0.lies c.in_ok-keyword.ensures)

pub returns-in_err-propped-clause-parses : goal.returns-in_err-propped-clause-parses
returns-in_err-propped-clause-parses c = rw (stopped c.from_residual-in_err-propped.result c.from_residual-in_err-propped.ensures.1) (keyword-props _ c.in_ok-keyword.ensures.0 c.in_err-propped.ensures.parses)

pub returns-in_err-opened-clause-parses : goal.returns-in_err-opened-clause-parses
returns-in_err-opened-clause-parses c = rw (stopped c.from_residual-in_err-opened.result c.from_residual-in_err-opened.ensures.1) (keyword-angle _ c.in_ok-keyword.ensures.0 c.in_ok-propped.ensures.parses.gives (c.in_err-opened.ensures.expects "<" refl))

pub returns-clause-parses : goal.returns-clause-parses
returns-clause-parses c = keyword-heads _ _ c.requires.0 c.requires.1 c.in_ok-keyword.ensures c.in_ok-propped.ensures.parses c.in_ok-opened.ensures
