-- `parts::std_class` meets its contract.
-- Assumes nothing.
use Rattle.parser.proofs.Onward.{onward_then, next-onward, mark-token, at-token, name-token, start_small}
use Rattle.parser.proofs.PartRules.{std_halt, std_at, std_name, std_none, expresses_behind}
use Rattle.parser.proofs.Ready.{ready_step, at_held, name-held}
use Rattle.tokens.proofs.Stops.{stopped}
use mathlib.Core.Path.{sym, ◌∙◌}
use native.Mathlib.Omega.{arith}
use Rattle.parser.proofs.parts.std_class.Goals as goal

pub returns-in_err-class-clause-parses : goal.returns-in_err-class-clause-parses
returns-in_err-class-clause-parses c = rw (stopped c.from_residual.result c.from_residual.ensures.1) (std_halt _ _ _ c.in_err-class.ensures.0)

pub parse_class-requires : goal.parse_class-requires
parse_class-requires c =
    let d = onward_then c.requires.1 (next-onward _ c.args.token (mark-token c.args.token c.requires.2 (omega arith)) c.requires.1.lies c.in_ok-class.ensures) in
    let part = sym c.at.ensures ∙ c.in-Some.is in
    (ready_step c.requires.0 d, at-token c.in_ok-class.class part, (at_held _ c.in_ok-class.class d.lies part).part, rw c.start.ensures (start_small _ c.args.name c.requires.0.lies))

pub returns-in-Some-clause-parses : goal.returns-in-Some-clause-parses
returns-in-Some-clause-parses c =
    let d = onward_then c.requires.1 (next-onward _ c.args.token (mark-token c.args.token c.requires.2 (omega arith)) c.requires.1.lies c.in_ok-class.ensures) in
    expresses_behind d (std_at _ _ _ c.in_ok-class.class c.in_ok-class.ensures.0 (sym c.at.ensures ∙ c.in-Some.is) ∙ rw c.start.ensures) _ _ c.parse_class.result c.parse_class.ensures.parses

pub returns-in_default-name-clause-parses : goal.returns-in_default-name-clause-parses
returns-in_default-name-clause-parses c = rw c.unexpected.ensures.0 (std_none _ _ _ c.in_ok-class.class c.in_ok-class.ensures.0 (sym c.at.ensures ∙ c.in_default.is) (sym c.name.ensures ∙ c.in_default-name.is) c.unexpected.ensures.1)

pub parse_class-requires-2 : goal.parse_class-requires-2
parse_class-requires-2 c =
    let d = onward_then c.requires.1 (next-onward _ c.args.token (mark-token c.args.token c.requires.2 (omega arith)) c.requires.1.lies c.in_ok-class.ensures) in
    let part = sym c.name.ensures ∙ c.in-Some-name.is in
    (ready_step c.requires.0 d, name-token c.in_ok-class.class part, (name-held _ c.in_ok-class.class d.lies part).part, rw c.start-2.ensures (start_small _ c.args.name c.requires.0.lies))

pub returns-clause-parses : goal.returns-clause-parses
returns-clause-parses c =
    let d = onward_then c.requires.1 (next-onward _ c.args.token (mark-token c.args.token c.requires.2 (omega arith)) c.requires.1.lies c.in_ok-class.ensures) in
    expresses_behind d (std_name _ _ _ c.in_ok-class.class c.in_ok-class.ensures.0 (sym c.at.ensures ∙ c.in_default.is) (sym c.name.ensures ∙ c.in-Some-name.is) ∙ rw c.start-2.ensures) _ _ c.parse_class-2.result c.parse_class-2.ensures.parses
