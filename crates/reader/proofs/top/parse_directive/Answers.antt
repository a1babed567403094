-- `top::parse_directive` meets its contract.
-- Assumes nothing.
use mathlib.Core.Bool.{true, false}
use mathlib.Core.Path.{refl, ◌∙◌}
use Rattle.tree.specs.Stored.{declaration_branch}
use Rattle.tree.specs.Syntax.{Declaration}
use Rattle.notation.specs.Members.{declaration}
use Rattle.parser.specs.Storing.{nodes_of}
use Rattle.declarations.specs.Promise.{precedence_branch}
use Rattle.reader.specs.Directives.{tokens_branch, local_branch}
use Rattle.reader.proofs.TopLaws.{plain-declaration, plain_of, top-kind, declares-by, declares_not, declares_as}
use Rattle.reader.proofs.WordLaws.{worded, directive-is, directive-top, tokens-second, tokens-first, directive_local, precedence-second, precedence-first, directive-other}
use Rattle.tokens.proofs.Stops.{stopped}
use Rattle.reader.proofs.top.parse_directive.Goals as goal

pub returns-in_err-after-in-Some-Top-clause-declares : goal.returns-in_err-after-in-Some-Top-clause-declares
returns-in_err-after-in-Some-Top-clause-declares c = rw (stopped c.from_residual.result c.from_residual.ensures.1) (declares_not declaration _ _ _ (λ before q. directive-top _ _ _ _ before (directive-is c.args.source.now c.args.text c.which_directive.ensures (worded c.in-Some-Top.is c.in-Some-Top.field-0-is) _ before _)) c.in_err-after-in-Some-Top.ensures.parses)

pub returns-in_ok-after-in-Some-Top-clause-declares : goal.returns-in_ok-after-in-Some-Top-clause-declares
returns-in_ok-after-in-Some-Top-clause-declares c = rw c.of_kind.ensures (declares-by declaration _ _ (nodes_of declaration_branch) 2 true _ _ _ _ _ (λ before q. directive-top _ _ _ _ before (directive-is c.args.source.now c.args.text c.which_directive.ensures (worded c.in-Some-Top.is c.in-Some-Top.field-0-is) _ before _)) (plain_of _ (top-kind _)) c.in_ok-after-in-Some-Top.ensures.parses)

pub returns-then-seen-clause-declares : goal.returns-then-seen-clause-declares
returns-then-seen-clause-declares c = λ before q. tokens-second _ _ _ _ before (directive-is c.args.source.now c.args.text c.which_directive.ensures (worded c.in-Some-Tokens.is c.in-Some-Tokens.field-0-is) _ before _) (q.tokens ∙ c.if-seen.true) c.start.ensures

pub returns-in_err-after-in-Some-Tokens-clause-declares : goal.returns-in_err-after-in-Some-Tokens-clause-declares
returns-in_err-after-in-Some-Tokens-clause-declares c = rw (stopped c.from_residual-in_err-after-in-Some-Tokens.result c.from_residual-in_err-after-in-Some-Tokens.ensures.1) (declares_not (λ x. declaration (Declaration.tokens x)) _ _ _ (λ before q. tokens-first _ _ _ _ before (directive-is c.args.source.now c.args.text c.which_directive.ensures (worded c.in-Some-Tokens.is c.in-Some-Tokens.field-0-is) _ before _) (q.tokens ∙ c.if-seen.false)) c.in_err-after-in-Some-Tokens.ensures.parses)

pub returns-in_ok-after-in-Some-Tokens-clause-declares : goal.returns-in_ok-after-in-Some-Tokens-clause-declares
returns-in_ok-after-in-Some-Tokens-clause-declares c = rw c.of_kind-in-Some-Tokens.ensures (declares-by (λ x. declaration (Declaration.tokens x)) _ _ (nodes_of tokens_branch) 8 false _ _ _ _ _ (λ before q. tokens-first _ _ _ _ before (directive-is c.args.source.now c.args.text c.which_directive.ensures (worded c.in-Some-Tokens.is c.in-Some-Tokens.field-0-is) _ before _) (q.tokens ∙ c.if-seen.false)) (λ x us q. plain-declaration (Declaration.tokens x) refl refl) c.in_ok-after-in-Some-Tokens.ensures.parses)

pub returns-in_err-after-in-Some-Local-clause-declares : goal.returns-in_err-after-in-Some-Local-clause-declares
returns-in_err-after-in-Some-Local-clause-declares c = rw (stopped c.from_residual-in_err-after-in-Some-Local.result c.from_residual-in_err-after-in-Some-Local.ensures.1) (declares_not (λ x. declaration (Declaration.local_tokens x)) _ _ _ (λ before q. directive_local _ _ _ _ before (directive-is c.args.source.now c.args.text c.which_directive.ensures (worded c.in-Some-Local.is c.in-Some-Local.field-0-is) _ before _)) c.in_err-after-in-Some-Local.ensures.parses)

pub returns-in_ok-after-in-Some-Local-clause-declares : goal.returns-in_ok-after-in-Some-Local-clause-declares
returns-in_ok-after-in-Some-Local-clause-declares c = rw c.of_kind-in-Some-Local.ensures (declares-by (λ x. declaration (Declaration.local_tokens x)) _ _ (nodes_of local_branch) 12 false _ _ _ _ _ (λ before q. directive_local _ _ _ _ before (directive-is c.args.source.now c.args.text c.which_directive.ensures (worded c.in-Some-Local.is c.in-Some-Local.field-0-is) _ before _)) (λ x us q. plain-declaration (Declaration.local_tokens x) refl refl) c.in_ok-after-in-Some-Local.ensures.parses)

pub returns-in-Some-Context-clause-declares : goal.returns-in-Some-Context-clause-declares
returns-in-Some-Context-clause-declares c = declares_as _ _ _ _ _ _ _ (λ before q. (directive-is c.args.source.now c.args.text c.which_directive.ensures (worded c.in-Some-Context.is c.in-Some-Context.field-0-is) _ before _)) c.parse_context.result c.parse_context.ensures.declares

pub returns-in-Some-External-clause-declares : goal.returns-in-Some-External-clause-declares
returns-in-Some-External-clause-declares c = declares_as _ _ _ _ _ _ _ (λ before q. (directive-is c.args.source.now c.args.text c.which_directive.ensures (worded c.in-Some-External.is c.in-Some-External.field-0-is) _ before _)) c.parse_external.result c.parse_external.ensures.declares

pub returns-in-Some-Dialects-clause-declares : goal.returns-in-Some-Dialects-clause-declares
returns-in-Some-Dialects-clause-declares c = declares_as _ _ _ _ _ _ _ (λ before q. (directive-is c.args.source.now c.args.text c.which_directive.ensures (worded c.in-Some-Dialects.is c.in-Some-Dialects.field-0-is) _ before _)) c.parse_dialects.result c.parse_dialects.ensures.declares

pub returns-then-seen-2-clause-declares : goal.returns-then-seen-2-clause-declares
returns-then-seen-2-clause-declares c = λ before q. precedence-second _ _ _ _ before (directive-is c.args.source.now c.args.text c.which_directive.ensures (worded c.in-Some-Precedence.is c.in-Some-Precedence.field-0-is) _ before _) (q.precedence ∙ c.if-seen-2.true) c.start-then-seen-2.ensures

pub returns-in_err-after-in-Some-Precedence-clause-declares : goal.returns-in_err-after-in-Some-Precedence-clause-declares
returns-in_err-after-in-Some-Precedence-clause-declares c = rw (stopped c.from_residual-in_err-after-in-Some-Precedence.result c.from_residual-in_err-after-in-Some-Precedence.ensures.1) (declares_not (λ x. declaration (Declaration.precedences x)) _ _ _ (λ before q. precedence-first _ _ _ _ before (directive-is c.args.source.now c.args.text c.which_directive.ensures (worded c.in-Some-Precedence.is c.in-Some-Precedence.field-0-is) _ before _) (q.precedence ∙ c.if-seen-2.false)) c.in_err-after-in-Some-Precedence.ensures.parses)

pub returns-in_ok-after-in-Some-Precedence-clause-declares : goal.returns-in_ok-after-in-Some-Precedence-clause-declares
returns-in_ok-after-in-Some-Precedence-clause-declares c = rw c.of_kind-in-Some-Precedence.ensures (declares-by (λ x. declaration (Declaration.precedences x)) _ _ (nodes_of precedence_branch) 20 false _ _ _ _ _ (λ before q. precedence-first _ _ _ _ before (directive-is c.args.source.now c.args.text c.which_directive.ensures (worded c.in-Some-Precedence.is c.in-Some-Precedence.field-0-is) _ before _) (q.precedence ∙ c.if-seen-2.false)) (λ x us q. plain-declaration (Declaration.precedences x) refl refl) c.in_ok-after-in-Some-Precedence.ensures.parses)

pub returns-in-Some-DetectDelim-clause-declares : goal.returns-in-Some-DetectDelim-clause-declares
returns-in-Some-DetectDelim-clause-declares c = declares_as _ _ _ _ _ _ _ (λ before q. (directive-is c.args.source.now c.args.text c.which_directive.ensures (worded c.in-Some-DetectDelim.is c.in-Some-DetectDelim.field-0-is) _ before _)) c.parse_detect_delim.result c.parse_detect_delim.ensures.declares

pub returns-in-Some-Skip-clause-declares : goal.returns-in-Some-Skip-clause-declares
returns-in-Some-Skip-clause-declares c = declares_as _ _ _ _ _ _ _ (λ before q. (directive-is c.args.source.now c.args.text c.which_directive.ensures (worded c.in-Some-Skip.is c.in-Some-Skip.field-0-is) _ before _)) c.parse_skip.result c.parse_skip.ensures.declares

pub returns-in-None-clause-declares : goal.returns-in-None-clause-declares
returns-in-None-clause-declares c = rw c.unexpected.ensures.0 (λ before q. directive-other _ _ _ _ before (directive-is c.args.source.now c.args.text c.which_directive.ensures c.in-None.is _ before _) c.unexpected.ensures.1)
