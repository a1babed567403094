-- `props::parse_part` meets its contract.
-- Assumes nothing.
use native.Mathlib.Omega.{arith}
use mathlib.Core.Path.{ap, ◌∙◌}
use Rattle.tokens.specs.Promise.{code_in, name_part}
use Rattle.parser.proofs.Ready.{ready_as}
use Rattle.parser.proofs.PropRules.{part_none, end_by, at-by, set-by, mark-by, name-value, dot_value}
use Rattle.parser.proofs.props.parse_part.Goals as goal

pub part_value-requires : goal.part_value-requires
part_value-requires c = let r = ready_as c.in-Of.is c.requires in (r, rw c.of.ensures (name-value _ _ r.lies (ap name_part c.in-Identifier.is)))

pub part_value-requires-in-46 : goal.part_value-requires-in-46
part_value-requires-in-46 c = let r = ready_as c.in-Of.is c.requires in (r, dot_value _ _ r.lies (ap code_in c.in-Punctuation.is ∙ c.in-46.is))

pub returns-in-Eof-clause-parses : goal.returns-in-Eof-clause-parses
returns-in-Eof-clause-parses c = part_none _ _ (end_by _ _ c.in-Eof.is)

pub returns-in-At-clause-parses : goal.returns-in-At-clause-parses
returns-in-At-clause-parses c = part_none _ _ (at-by _ _ c.in-Of.is c.in-At.is)

pub returns-in-Set-clause-parses : goal.returns-in-Set-clause-parses
returns-in-Set-clause-parses c = part_none _ _ (set-by _ _ c.in-Of.is c.in-Set.is)

pub returns-in_default-clause-parses : goal.returns-in_default-clause-parses
returns-in_default-clause-parses c = part_none _ _ (mark-by _ _ c.in-Of.is c.in-Punctuation.is (λ q. omega arith) (λ q. omega arith))
