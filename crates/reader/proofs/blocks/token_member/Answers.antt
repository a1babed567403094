-- `blocks::token_member` meets its contract.
-- Assumes nothing.
use mathlib.Core.Path.{refl, ◌∙◌}
use Rattle.basics.specs.Basics.{every}
use Rattle.tokens.specs.Promise.{stream}
use Rattle.tokens.proofs.Stops.{stopped}
use Rattle.parser.proofs.Onward.{onward-here}
use Rattle.tree.specs.Stored.{rule_branch, token_prec_branch, token_conflict_branch, literal_branch}
use Rattle.notation.specs.Members.{TokenMember}
use Rattle.notation.specs.Declarations.{parse_rule, parse_token_precedence, parse_token_conflict}
use Rattle.reader.specs.declared.blocks.Block.TheVariants.{Tokens}
use Rattle.reader.proofs.MemberLaws.{joined, joined_not, at-says, says-token, token-literal, token-precedence, token-conflict, token-rule}
use Rattle.reader.proofs.blocks.token_member.Goals as goal

pub returns-in_err-after-clause-joins : goal.returns-in_err-after-clause-joins
returns-in_err-after-clause-joins c =
    rw (stopped c.from_residual.result c.from_residual.ensures.1) (joined_not Tokens c.args.free _ TokenMember.literal _ _ (λ before h. token-literal before _ c.args.token c.string.ensures c.in-Some.is) c.in_err-after.ensures.parses)

pub returns-in-Some-clause-joins : goal.returns-in-Some-clause-joins
returns-in-Some-clause-joins c =
    rw c.one.ensures (joined Tokens _ _ literal_branch TokenMember.literal 11 _ _ _ _ _ (λ before h. token-literal before _ c.args.token c.string.ensures c.in-Some.is) (λ x. refl) (λ x. refl) (onward-here _ c.args.token c.requires.lies) c.in_ok-after.ensures.parses)

pub parse_token_precedence-requires : goal.parse_token_precedence-requires
unfolding every
parse_token_precedence-requires c = (c.requires, says-token "precedence" _ c.args.token (at-says "precedence" _ c.args.token c.at.ensures c.says.ensures refl ∙ c.if-says.true))

pub returns-in_err-after-2-clause-joins : goal.returns-in_err-after-2-clause-joins
unfolding every
returns-in_err-after-2-clause-joins c =
    rw (stopped c.from_residual-in_err-after-2.result c.from_residual-in_err-after-2.ensures.1)
    (joined_not Tokens c.args.free (parse_token_precedence (stream _ _)) TokenMember.precedence _ _ (λ before h. token-precedence before _ c.args.token c.string.ensures c.in_default.is (at-says "precedence" _ c.args.token c.at.ensures c.says.ensures refl ∙ c.if-says.true))
    c.in_err-after-2.ensures.parses)

pub returns-then-says-clause-joins : goal.returns-then-says-clause-joins
unfolding every
returns-then-says-clause-joins c =
    rw c.one-then-says.ensures
    (joined Tokens _ (parse_token_precedence (stream _ _)) token_prec_branch TokenMember.precedence 9 _ _ _ _ _ (λ before h. token-precedence before _ c.args.token c.string.ensures c.in_default.is (at-says "precedence" _ c.args.token c.at.ensures c.says.ensures refl ∙ c.if-says.true))
    (λ x. refl) (λ x. refl) (onward-here _ c.args.token c.requires.lies) c.in_ok-after-2.ensures.parses)

pub parse_token_conflict-requires : goal.parse_token_conflict-requires
unfolding every
parse_token_conflict-requires c = (c.requires, says-token "conflict" _ c.args.token (at-says "conflict" _ c.args.token c.at-2.ensures c.says-2.ensures refl ∙ c.if-says-2.true))

pub returns-in_err-after-3-clause-joins : goal.returns-in_err-after-3-clause-joins
unfolding every
returns-in_err-after-3-clause-joins c =
    rw (stopped c.from_residual-in_err-after-3.result c.from_residual-in_err-after-3.ensures.1)
    (joined_not Tokens c.args.free (parse_token_conflict (stream _ _)) TokenMember.conflict _ _
    (λ before h. token-conflict before _ c.args.token c.string.ensures c.in_default.is (at-says "precedence" _ c.args.token c.at.ensures c.says.ensures refl ∙ c.if-says.false) (at-says "conflict" _ c.args.token c.at-2.ensures c.says-2.ensures refl ∙ c.if-says-2.true))
    c.in_err-after-3.ensures.parses)

pub returns-then-says-2-clause-joins : goal.returns-then-says-2-clause-joins
unfolding every
returns-then-says-2-clause-joins c =
    rw c.one-then-says-2.ensures
    (joined Tokens _ (parse_token_conflict (stream _ _)) token_conflict_branch TokenMember.conflict 10 _ _ _ _ _
    (λ before h. token-conflict before _ c.args.token c.string.ensures c.in_default.is (at-says "precedence" _ c.args.token c.at.ensures c.says.ensures refl ∙ c.if-says.false) (at-says "conflict" _ c.args.token c.at-2.ensures c.says-2.ensures refl ∙ c.if-says-2.true))
    (λ x. refl) (λ x. refl) (onward-here _ c.args.token c.requires.lies) c.in_ok-after-3.ensures.parses)

pub returns-in_err-after-4-clause-joins : goal.returns-in_err-after-4-clause-joins
unfolding every
returns-in_err-after-4-clause-joins c =
    rw (stopped c.from_residual-in_err-after-4.result c.from_residual-in_err-after-4.ensures.1)
    (joined_not Tokens c.args.free (parse_rule (stream _ _)) TokenMember.rule _ _
    (λ before h. token-rule before _ c.args.token c.string.ensures c.in_default.is (at-says "precedence" _ c.args.token c.at.ensures c.says.ensures refl ∙ c.if-says.false) (at-says "conflict" _ c.args.token c.at-2.ensures c.says-2.ensures refl ∙ c.if-says-2.false))
    c.in_err-after-4.ensures.parses)

pub returns-clause-joins : goal.returns-clause-joins
unfolding every
returns-clause-joins c =
    rw c.one-2.ensures
    (joined Tokens _ (parse_rule (stream _ _)) (rule_branch 3) TokenMember.rule 3 _ _ _ _ _
    (λ before h. token-rule before _ c.args.token c.string.ensures c.in_default.is (at-says "precedence" _ c.args.token c.at.ensures c.says.ensures refl ∙ c.if-says.false) (at-says "conflict" _ c.args.token c.at-2.ensures c.says-2.ensures refl ∙ c.if-says-2.false))
    (λ x. refl) (λ x. refl) (onward-here _ c.args.token c.requires.lies) c.in_ok-after-4.ensures.parses)
