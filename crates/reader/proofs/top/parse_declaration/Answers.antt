-- `top::parse_declaration` meets its contract.
-- Assumes nothing.
use mathlib.Core.Bool.{false}
use mathlib.Core.Path.{sym, ◌∙◌}
use Rattle.tree.specs.Stored.{rule_branch}
use Rattle.tree.specs.Syntax.{Declaration}
use Rattle.notation.specs.Members.{declaration}
use Rattle.parser.specs.Storing.{nodes_of}
use Rattle.reader.proofs.RoomyLaws.{roomy_ready}
use Rattle.reader.proofs.TopLaws.{rule-plain, declares-by, declares_not, declares_as, declaration-rule, declaration-directive}
use Rattle.tokens.proofs.Stops.{stopped}
use Rattle.reader.proofs.top.parse_declaration.Goals as goal

pub parse_rule-requires : goal.parse_rule-requires
parse_rule-requires c = roomy_ready c.requires

pub returns-in_err-after-clause-declares : goal.returns-in_err-after-clause-declares
returns-in_err-after-clause-declares c =
    rw (stopped c.from_residual.result c.from_residual.ensures.1) (declares_not (λ r. declaration (Declaration.rule r)) _ _ _ (λ before q. declaration-rule _ _ before (sym c.at.ensures ∙ c.in_default.is)) c.in_err-after.ensures.parses)

pub returns-in_default-clause-declares : goal.returns-in_default-clause-declares
returns-in_default-clause-declares c =
    rw c.of_kind.ensures
    (declares-by (λ r. declaration (Declaration.rule r)) _ _ (nodes_of (rule_branch 3)) 3 false _ _ _ _ _ (λ before q. declaration-rule _ _ before (sym c.at.ensures ∙ c.in_default.is)) (λ x us q. rule-plain x) c.in_ok-after.ensures.parses)

pub parse_directive-requires : goal.parse_directive-requires
parse_directive-requires c = (c.requires, sym c.at.ensures ∙ c.in-Some.is)

pub returns-clause-declares : goal.returns-clause-declares
returns-clause-declares c = declares_as _ _ _ _ _ _ _ (λ before q. declaration-directive _ _ before (sym c.at.ensures ∙ c.in-Some.is)) c.parse_directive.result c.parse_directive.ensures.declares
