-- `blocks::local_member` meets its contract.
-- Assumes nothing.
use mathlib.Core.Path.{refl, ◌∙◌}
use Rattle.basics.specs.Basics.{every}
use Rattle.tokens.specs.Promise.{stream}
use Rattle.tokens.proofs.Stops.{stopped}
use Rattle.parser.proofs.Onward.{onward-here}
use Rattle.parser.proofs.Ready.{ready_step}
use Rattle.declarations.proofs.BlocksLaws.{word_yes}
use Rattle.tree.specs.Stored.{rule_branch, token_prec_branch, named_node_branch}
use Rattle.notation.specs.Members.{LocalMember}
use Rattle.notation.specs.Declarations.{parse_rule, parse_token_precedence, parse_named_node}
use Rattle.reader.specs.declared.blocks.Block.TheVariants.{LocalTokens}
use Rattle.reader.proofs.MemberLaws.{joined, joined_not, eaten_no, eaten_not, at-says, says-token, local-precedence, local_refused, local-rule, local-fallback, local_later}
use Rattle.reader.proofs.blocks.local_member.Goals as goal

pub parse_token_precedence-requires : goal.parse_token_precedence-requires
unfolding every
parse_token_precedence-requires c = (c.requires, says-token "precedence" _ c.args.token (at-says "precedence" _ c.args.token c.at.ensures c.says.ensures refl ∙ c.if-says.true))

pub returns-in_err-after-clause-joins : goal.returns-in_err-after-clause-joins
unfolding every
returns-in_err-after-clause-joins c =
    rw (stopped c.from_residual.result c.from_residual.ensures.1)
    (joined_not LocalTokens c.args.free (parse_token_precedence (stream _ _)) LocalMember.precedence _ _ (λ before h. local-precedence before _ (at-says "precedence" _ c.args.token c.at.ensures c.says.ensures refl ∙ c.if-says.true)) c.in_err-after.ensures.parses)

pub returns-then-says-clause-joins : goal.returns-then-says-clause-joins
unfolding every
returns-then-says-clause-joins c =
    rw c.one.ensures
    (joined LocalTokens _ (parse_token_precedence (stream _ _)) token_prec_branch LocalMember.precedence 9 _ _ _ _ _ (λ before h. local-precedence before _ (at-says "precedence" _ c.args.token c.at.ensures c.says.ensures refl ∙ c.if-says.true))
    (λ x. refl) (λ x. refl) (onward-here _ c.args.token c.requires.lies) c.in_ok-after.ensures.parses)

pub returns-in_err-fallback-clause-joins : goal.returns-in_err-fallback-clause-joins
unfolding every
returns-in_err-fallback-clause-joins c =
    rw (stopped c.from_residual-in_err-fallback.result c.from_residual-in_err-fallback.ensures.1)
    (λ before h. local_refused before _ (at-says "precedence" _ c.args.token c.at.ensures c.says.ensures refl ∙ c.if-says.false) (eaten_not "else" _ c.args.token refl c.in_err-fallback.ensures))

pub returns-in_err-after-2-clause-joins : goal.returns-in_err-after-2-clause-joins
unfolding every
returns-in_err-after-2-clause-joins c =
    rw (stopped c.from_residual-in_err-after-2.result c.from_residual-in_err-after-2.ensures.1)
    (joined_not LocalTokens c.args.free (parse_rule (stream _ _)) LocalMember.rule _ _
    (λ before h. local-rule before _ (at-says "precedence" _ c.args.token c.at.ensures c.says.ensures refl ∙ c.if-says.false) (eaten_no "else" _ c.args.token refl (rw c.in_default.is at c.in_ok-fallback.ensures))) c.in_err-after-2.ensures.parses)

pub returns-in_default-clause-joins : goal.returns-in_default-clause-joins
unfolding every
returns-in_default-clause-joins c =
    rw c.one-in_default.ensures
    (joined LocalTokens _ (parse_rule (stream _ _)) (rule_branch 3) LocalMember.rule 3 _ _ _ _ _
    (λ before h. local-rule before _ (at-says "precedence" _ c.args.token c.at.ensures c.says.ensures refl ∙ c.if-says.false) (eaten_no "else" _ c.args.token refl (rw c.in_default.is at c.in_ok-fallback.ensures)))
    (λ x. refl) (λ x. refl) (onward-here _ c.args.token c.requires.lies) c.in_ok-after-2.ensures.parses)

pub parse_named_node-requires : goal.parse_named_node-requires
unfolding every
parse_named_node-requires c = ready_step c.requires (word_yes _ "else" c.args.token refl c.requires.lies (rw c.in-Some.is at c.in_ok-fallback.ensures)).1

pub returns-in_err-after-3-clause-joins : goal.returns-in_err-after-3-clause-joins
unfolding every
returns-in_err-after-3-clause-joins c =
    let y = word_yes _ "else" c.args.token refl c.requires.lies (rw c.in-Some.is at c.in_ok-fallback.ensures) in
    rw (stopped c.from_residual-in_err-after-3.result c.from_residual-in_err-after-3.ensures.1)
    (joined_not LocalTokens c.args.free (parse_named_node (stream _ _)) LocalMember.fallback _ _
    (λ before h. local-fallback before _ (at-says "precedence" _ c.args.token c.at.ensures c.says.ensures refl ∙ c.if-says.false) y.0 h c.if-free.true) c.in_err-after-3.ensures.parses)

pub returns-then-free-clause-joins : goal.returns-then-free-clause-joins
unfolding every
returns-then-free-clause-joins c =
    let y = word_yes _ "else" c.args.token refl c.requires.lies (rw c.in-Some.is at c.in_ok-fallback.ensures) in
    rw c.one-then-free.ensures
    (joined LocalTokens _ (parse_named_node (stream _ _)) named_node_branch LocalMember.fallback 13 _ _ _ _ _
    (λ before h. local-fallback before _ (at-says "precedence" _ c.args.token c.at.ensures c.says.ensures refl ∙ c.if-says.false) y.0 h c.if-free.true) (λ x. refl) (λ x. refl) y.1 c.in_ok-after-3.ensures.parses)

pub parse_rule-requires-2 : goal.parse_rule-requires-2
unfolding every
parse_rule-requires-2 c = ready_step c.requires (word_yes _ "else" c.args.token refl c.requires.lies (rw c.in-Some.is at c.in_ok-fallback.ensures)).1

pub returns-in_err-after-4-clause-joins : goal.returns-in_err-after-4-clause-joins
unfolding every
returns-in_err-after-4-clause-joins c =
    let y = word_yes _ "else" c.args.token refl c.requires.lies (rw c.in-Some.is at c.in_ok-fallback.ensures) in
    rw (stopped c.from_residual-in_err-after-4.result c.from_residual-in_err-after-4.ensures.1)
    (joined_not LocalTokens c.args.free (parse_rule (stream _ _)) LocalMember.rule _ _
    (λ before h. local_later before _ (at-says "precedence" _ c.args.token c.at.ensures c.says.ensures refl ∙ c.if-says.false) y.0 h c.if-free.false) c.in_err-after-4.ensures.parses)

pub returns-clause-joins : goal.returns-clause-joins
unfolding every
returns-clause-joins c =
    let y = word_yes _ "else" c.args.token refl c.requires.lies (rw c.in-Some.is at c.in_ok-fallback.ensures) in
    rw c.one-2.ensures
    (joined LocalTokens _ (parse_rule (stream _ _)) (rule_branch 3) LocalMember.rule 3 _ _ _ _ _
    (λ before h. local_later before _ (at-says "precedence" _ c.args.token c.at.ensures c.says.ensures refl ∙ c.if-says.false) y.0 h c.if-free.false) (λ x. refl) (λ x. refl) y.1 c.in_ok-after-4.ensures.parses)
