-- `blocks::external_member` meets its contract.
-- Assumes nothing.
use mathlib.Core.Path.{refl}
use Rattle.basics.specs.Basics.{every}
use Rattle.tokens.specs.Promise.{stream}
use Rattle.tokens.proofs.Stops.{stopped}
use Rattle.parser.proofs.Onward.{onward-here}
use Rattle.parser.proofs.Ready.{ready_step}
use Rattle.declarations.proofs.BlocksLaws.{word_yes}
use Rattle.tree.specs.Stored.{named_node_branch}
use Rattle.notation.specs.Members.{ExternalMember}
use Rattle.notation.specs.Declarations.{parse_named_node}
use Rattle.reader.specs.declared.blocks.Block.TheVariants.{ExternalTokens}
use Rattle.reader.proofs.MemberLaws.{joined, joined_not, eaten_no, eaten_not, external-refused, external-token, external_list, joined-names}
use Rattle.reader.proofs.blocks.external_member.Goals as goal

pub returns-in_err-conflicts-clause-joins : goal.returns-in_err-conflicts-clause-joins
unfolding every
returns-in_err-conflicts-clause-joins c = rw (stopped c.from_residual.result c.from_residual.ensures.1) (λ before h. external-refused before _ (eaten_not "conflict" _ c.args.token refl c.in_err-conflicts.ensures))

pub returns-in_err-after-clause-joins : goal.returns-in_err-after-clause-joins
unfolding every
returns-in_err-after-clause-joins c =
    rw (stopped c.from_residual-in_err-after.result c.from_residual-in_err-after.ensures.1)
    (joined_not ExternalTokens c.args.free (parse_named_node (stream _ _)) ExternalMember.token _ _ (λ before h. external-token before _ (eaten_no "conflict" _ c.args.token refl (rw c.in_default.is at c.in_ok-conflicts.ensures))) c.in_err-after.ensures.parses)

pub returns-in_default-clause-joins : goal.returns-in_default-clause-joins
unfolding every
returns-in_default-clause-joins c =
    rw c.one.ensures
    (joined ExternalTokens _ (parse_named_node (stream _ _)) named_node_branch ExternalMember.token 13 _ _ _ _ _ (λ before h. external-token before _ (eaten_no "conflict" _ c.args.token refl (rw c.in_default.is at c.in_ok-conflicts.ensures)))
    (λ x. refl) (λ x. refl) (onward-here _ c.args.token c.requires.lies) c.in_ok-after.ensures.parses)

pub parse_names-requires : goal.parse_names-requires
unfolding every
parse_names-requires c = ready_step c.requires (word_yes _ "conflict" c.args.token refl c.requires.lies (rw c.in-Some.is at c.in_ok-conflicts.ensures)).1

pub returns-in_err-after-2-clause-joins : goal.returns-in_err-after-2-clause-joins
unfolding every
returns-in_err-after-2-clause-joins c =
    rw (stopped c.from_residual-in_err-after-2.result c.from_residual-in_err-after-2.ensures.1)
    (λ before h. external_list before _ (word_yes _ "conflict" c.args.token refl c.requires.lies (rw c.in-Some.is at c.in_ok-conflicts.ensures)).0 c.in_err-after-2.ensures.parses)

pub returns-clause-joins : goal.returns-clause-joins
unfolding every
returns-clause-joins c =
    let y = word_yes _ "conflict" c.args.token refl c.requires.lies (rw c.in-Some.is at c.in_ok-conflicts.ensures) in
    joined-names y.0 y.1 c.in_ok-after-2.ensures.parses
