-- `props::parse_prop` meets its contract.
-- Assumes nothing.
use mathlib.Core.Path.{sym, ◌∙◌}
use Rattle.parser.proofs.PropRules.{prop-none}
use Rattle.parser.proofs.props.parse_prop.Goals as goal

pub returns-in_default-name-clause-parses : goal.returns-in_default-name-clause-parses
returns-in_default-name-clause-parses c = rw c.unexpected.ensures.0 (prop-none _ _ (sym c.at.ensures ∙ c.in_default.is) (sym c.name.ensures ∙ c.in_default-name.is) c.unexpected.ensures.1)
