-- `directives::parse_external_specializer` meets its contract.
-- Assumes nothing.
use native.Mathlib.Omega.{arith}
use mathlib.Core.Path.{◌∙◌}
use Rattle.tokens.proofs.Stops.{stopped}
use Rattle.tree.specs.Stored.{declaration_branch}
use Rattle.notation.specs.Declarations.{parse_external_specializer}
use Rattle.parser.specs.Storing.{nodes_of}
use Rattle.tree.specs.Promise.{specialize_of}
use Rattle.reader.proofs.RoomyLaws.{roomy_ready, roomy_step, roomy_on}
use Rattle.reader.proofs.TopLaws.{past_not, past-at, past-onward, parses_past}
use Rattle.reader.proofs.DirectiveLaws.{specializer_halt, specializer_parsed}
use Rattle.reader.proofs.directives.parse_external_specializer.Goals as goal

pub returns-in_err-word-clause-parses : goal.returns-in_err-word-clause-parses
returns-in_err-word-clause-parses c = rw (stopped c.from_residual.result c.from_residual.ensures.1) (past_not _ _ _ c.in_err-word.ensures.0)

pub braced-requires : goal.braced-requires
braced-requires c = roomy_ready (roomy_step c.requires.0 (past-onward _ _ _ c.in_ok-word.ensures c.requires.1 c.requires.0.lies))

pub returns-in_err-inside-clause-parses : goal.returns-in_err-inside-clause-parses
returns-in_err-inside-clause-parses c = rw (stopped c.from_residual-in_err-inside.result c.from_residual-in_err-inside.ensures.1) (past-at _ _ _ c.in_ok-word.ensures _ ∙ specializer_halt _ _ _ c.in_err-inside.ensures.parses)

pub parse_external_set-requires : goal.parse_external_set-requires
parse_external_set-requires c =
    let g = c.in_ok-inside.ensures.parses in
    (roomy_on (roomy_step c.requires.0 (past-onward _ _ _ c.in_ok-word.ensures c.requires.1 c.requires.0.lies)) g.yields.onward g.yields.lays, c.requires.2, omega arith)

pub returns-clause-parses : goal.returns-clause-parses
returns-clause-parses c =
    parses_past _ _ _ c.in_ok-word.ensures c.requires.1 c.requires.0.lies (parse_external_specializer c.args.start (specialize_of c.args.kind)) (nodes_of declaration_branch) _ _ c.parse_external_set.result
    (specializer_parsed c.args.start (specialize_of c.args.kind) _ _ c.value.ensures c.in_ok-inside.ensures.parses _ c.parse_external_set.result c.parse_external_set.ensures.parses)
