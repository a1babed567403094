-- `top::parse_top` meets its contract.
-- Assumes nothing.
use Rattle.tree.specs.Stored.{declaration_branch, rule_branch}
use Rattle.tree.specs.Syntax.{Declaration}
use Rattle.parser.specs.Storing.{nodes_of}
use Rattle.reader.specs.Directives.{top_at}
use Rattle.reader.proofs.TopLaws.{parses_as, past_not, past-at, past_ready, parses_past, top-nameless, top-named, top-nodes}
use Rattle.tokens.proofs.Stops.{stopped}
use mathlib.Core.Path.{ap, sym, ◌∙◌}
use mathlib.Core.Bool.{not}
use Rattle.std.specs.Option.{is_some}
use Rattle.reader.proofs.top.parse_top.Goals as goal

pub returns-in_err-keyword-clause-parses : goal.returns-in_err-keyword-clause-parses
returns-in_err-keyword-clause-parses c = rw (stopped c.from_residual.result c.from_residual.ensures.1) (past_not _ _ top_at c.in_err-keyword.ensures.0)

pub returns-then-is_none-clause-parses : goal.returns-then-is_none-clause-parses
returns-then-is_none-clause-parses c = past-at _ _ _ c.in_ok-keyword.ensures top_at ∙ top-nameless _ _ (ap is_some (sym c.name.ensures) ∙ c.is_none.ensures ∙ ap not c.if-is_none.true) c.start.ensures

pub parse_rule-requires : goal.parse_rule-requires
parse_rule-requires c = past_ready _ _ _ c.in_ok-keyword.ensures c.requires.1 c.requires.0.lies c.requires.0

pub returns-clause-parses : goal.returns-clause-parses
returns-clause-parses c =
    parses_past _ _ _ c.in_ok-keyword.ensures c.requires.1 c.requires.0.lies top_at (nodes_of declaration_branch) _ _ c.parse_rule.result
    (parses_as Declaration.top_rule (nodes_of (rule_branch 2)) (nodes_of declaration_branch) top-nodes _ _ (top-named _ _ (ap is_some (sym c.name.ensures) ∙ c.is_none.ensures ∙ ap not c.if-is_none.false)) _ _ _ _ c.parse_rule.result c.parse_rule.ensures.parses)
