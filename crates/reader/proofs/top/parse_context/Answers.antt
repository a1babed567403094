-- `top::parse_context` meets its contract.
-- Assumes nothing.
use mathlib.Core.Bool.{false}
use Rattle.std.specs.Prelude.{Ok}
use mathlib.Core.Path.{◌∙◌}
use Rattle.notation.specs.Members.{declaration}
use Rattle.parser.specs.Storing.{nodes_of}
use Rattle.declarations.specs.Sources.{from_source, from_branch}
use Rattle.reader.proofs.TopLaws.{start-within, past_not, past-at, past_ready, parses_past, context_by, context-plain, context-second, context-first, declares-by, declares_not}
use Rattle.tokens.proofs.Stops.{stopped}
use Rattle.reader.proofs.top.parse_context.Goals as goal

pub returns-in_err-keyword-clause-declares : goal.returns-in_err-keyword-clause-declares
returns-in_err-keyword-clause-declares c = rw (stopped c.from_residual.result c.from_residual.ensures.1) (λ before q. past_not _ _ _ c.in_err-keyword.ensures.0)

pub returns-then-seen-clause-declares : goal.returns-then-seen-clause-declares
returns-then-seen-clause-declares c = λ before q. context-second _ _ _ _ c.in_ok-keyword.ensures before q c.if-seen.true c.start-start.ensures

pub parse_from-requires : goal.parse_from-requires
parse_from-requires c = (past_ready _ _ _ c.in_ok-keyword.ensures c.requires.1 c.requires.0.lies c.requires.0, start-within c.requires.0 c.start-start.ensures)

pub returns-in_err-after-clause-declares : goal.returns-in_err-after-clause-declares
returns-in_err-after-clause-declares c =
    rw (stopped c.from_residual-in_err-after.result c.from_residual-in_err-after.ensures.1)
    (declares_not (λ x. declaration (context_by c.start-start.result x)) _ _ _ (λ before q. rw c.start-start.ensures (context-first _ _ _ _ c.in_ok-keyword.ensures before q c.if-seen.false)) (past-at _ _ _ c.in_ok-keyword.ensures from_source ∙ c.in_err-after.ensures.parses))

pub returns-clause-declares : goal.returns-clause-declares
returns-clause-declares c =
    rw c.of_kind.ensures
    (declares-by (λ x. declaration (context_by c.start-start.result x)) _ _ (nodes_of (from_branch 14 c.start-start.result)) 14 false _ _ _ _ _ (λ before q. rw c.start-start.ensures (context-first _ _ _ _ c.in_ok-keyword.ensures before q c.if-seen.false))
    (λ x us q. context-plain c.start-start.result x)
    (parses_past _ _ _ c.in_ok-keyword.ensures c.requires.1 c.requires.0.lies from_source (nodes_of (from_branch 14 c.start-start.result)) _ _ (Ok _) c.in_ok-after.ensures.parses))
