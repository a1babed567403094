-- `blocks::skip_member` meets its contract.
-- Assumes nothing.
use mathlib.Core.Path.{refl}
use Rattle.basics.specs.Basics.{every}
use Rattle.tokens.specs.Promise.{stream}
use Rattle.tokens.proofs.Stops.{stopped}
use Rattle.parser.proofs.Onward.{onward-here}
use Rattle.parser.proofs.Ready.{ready_step}
use Rattle.declarations.proofs.BlocksLaws.{word_yes}
use Rattle.tree.specs.Stored.{rule_branch}
use Rattle.notation.specs.Members.{SkipMember}
use Rattle.notation.specs.Declarations.{parse_rule}
use Rattle.reader.specs.declared.blocks.Block.TheVariants.{Skip}
use Rattle.reader.proofs.MemberLaws.{joined, joined_not, eaten_no, eaten_not, skip-refused, skip_rule_lem, skip-top}
use Rattle.reader.proofs.blocks.skip_member.Goals as goal

pub returns-in_err-top-clause-joins : goal.returns-in_err-top-clause-joins
unfolding every
returns-in_err-top-clause-joins c = rw (stopped c.from_residual.result c.from_residual.ensures.1) (λ before h. skip-refused before _ (eaten_not "top" _ c.args.token refl c.in_err-top.ensures))

pub returns-in_err-after-clause-joins : goal.returns-in_err-after-clause-joins
unfolding every
returns-in_err-after-clause-joins c =
    rw (stopped c.from_residual-in_err-after.result c.from_residual-in_err-after.ensures.1)
    (joined_not Skip c.args.free (parse_rule (stream _ _)) SkipMember.rule _ _ (λ before h. skip_rule_lem before _ (eaten_no "top" _ c.args.token refl (rw c.in_default.is at c.in_ok-top.ensures))) c.in_err-after.ensures.parses)

pub returns-in_default-clause-joins : goal.returns-in_default-clause-joins
unfolding every
returns-in_default-clause-joins c =
    rw c.one.ensures
    (joined Skip _ (parse_rule (stream _ _)) (rule_branch 3) SkipMember.rule 3 _ _ _ _ _ (λ before h. skip_rule_lem before _ (eaten_no "top" _ c.args.token refl (rw c.in_default.is at c.in_ok-top.ensures)))
    (λ x. refl) (λ x. refl) (onward-here _ c.args.token c.requires.lies) c.in_ok-after.ensures.parses)

pub parse_rule-requires-2 : goal.parse_rule-requires-2
unfolding every
parse_rule-requires-2 c = ready_step c.requires (word_yes _ "top" c.args.token refl c.requires.lies (rw c.in-Some.is at c.in_ok-top.ensures)).1

pub returns-in_err-after-2-clause-joins : goal.returns-in_err-after-2-clause-joins
unfolding every
returns-in_err-after-2-clause-joins c =
    rw (stopped c.from_residual-in_err-after-2.result c.from_residual-in_err-after-2.ensures.1)
    (joined_not Skip c.args.free (parse_rule (stream _ _)) SkipMember.top_rule _ _ (λ before h. skip-top before _ (word_yes _ "top" c.args.token refl c.requires.lies (rw c.in-Some.is at c.in_ok-top.ensures)).0) c.in_err-after-2.ensures.parses)

pub returns-clause-joins : goal.returns-clause-joins
unfolding every
returns-clause-joins c =
    let y = word_yes _ "top" c.args.token refl c.requires.lies (rw c.in-Some.is at c.in_ok-top.ensures) in
    rw c.one-2.ensures
    (joined Skip _ (parse_rule (stream _ _)) (rule_branch 2) SkipMember.top_rule 2 _ _ _ _ _ (λ before h. skip-top before _ y.0) (λ x. refl) (λ x. refl) y.1 c.in_ok-after-2.ensures.parses)
