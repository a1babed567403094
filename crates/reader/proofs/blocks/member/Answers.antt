-- `blocks::member` meets its contract.
-- Assumes nothing.
use mathlib.Core.Path.{refl}
use Rattle.tree.specs.Stored.{named_node_branch}
use Rattle.notation.specs.Members.{ExternalMember}
use Rattle.notation.specs.Declarations.{parse_named_node}
use Rattle.tokens.specs.Promise.{stream}
use Rattle.tokens.proofs.Stops.{stopped}
use Rattle.parser.proofs.Onward.{onward-here}
use Rattle.reader.specs.declared.blocks.Block.TheVariants.{Specializer}
use Rattle.reader.proofs.MemberLaws.{joined, joined_not, specializer_token}
use Rattle.reader.proofs.blocks.member.Goals as goal

pub returns-in_err-after-in-Specializer-clause-joins : goal.returns-in_err-after-in-Specializer-clause-joins
returns-in_err-after-in-Specializer-clause-joins c =
    rw (c.in-Specializer.is, stopped c.from_residual.result c.from_residual.ensures.1)
    (joined_not Specializer c.args.free (parse_named_node (stream _ _)) ExternalMember.token _ _ (λ before h. specializer_token before _) c.in_err-after-in-Specializer.ensures.parses)

pub returns-in_ok-after-in-Specializer-clause-joins : goal.returns-in_ok-after-in-Specializer-clause-joins
returns-in_ok-after-in-Specializer-clause-joins c =
    rw (c.in-Specializer.is, c.one.ensures)
    (joined Specializer _ (parse_named_node (stream _ _)) named_node_branch ExternalMember.token 13 _ _ _ _ _ (λ before h. specializer_token before _) (λ x. refl) (λ x. refl) (onward-here _ c.args.token c.requires.lies) c.in_ok-after-in-Specializer.ensures.parses)
