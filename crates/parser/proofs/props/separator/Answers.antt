-- `props::separator` meets its contract.
-- Assumes nothing.
use native.Mathlib.Omega.{arith}
use Rattle.parser.proofs.Openings.{separator-first, separator-later}
use Rattle.parser.proofs.props.separator.Goals as goal

pub returns-then-count-eq0 : goal.returns-then-count-eq0
returns-then-count-eq0 c = separator-first _ _ c.requires _ _ c.if-count-eq0.true

pub returns : goal.returns
returns c = separator-later _ _ c.requires _ _ (omega arith) c.between.ensures
