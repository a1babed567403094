-- `blocks::parse_block` meets its contract.
-- Assumes nothing.
use mathlib.Core.Path.{refl}
use Rattle.tokens.proofs.Stops.{stopped}
use Rattle.parser.specs.Steps.{between_by}
use Rattle.declarations.proofs.RuleReads.{block_refused}
use Rattle.reader.specs.Blocks.{comma_of, member_of}
use Rattle.reader.proofs.RoomyLaws.{roomy_step}
use Rattle.reader.proofs.BlockGathered.{brace-onward, block-gathered}
use Rattle.reader.proofs.BlockFilled.{block-blank}
use Rattle.reader.proofs.blocks.parse_block.Goals as goal

pub returns-in_err-opened-clause-gathers : goal.returns-in_err-opened-clause-gathers
returns-in_err-opened-clause-gathers c = rw (stopped c.from_residual.result c.from_residual.ensures.1) (block_refused (between_by (comma_of c.args.block)) (member_of c.args.block) _ (c.in_err-opened.ensures.expects "{" refl))

pub parse_members-requires : goal.parse_members-requires
parse_members-requires c = (roomy_step c.requires (brace-onward c.args.block _ _ _ c.requires.lies c.in_ok-opened.ensures), block-blank, block-blank)

pub returns-clause-gathers : goal.returns-clause-gathers
returns-clause-gathers c = block-gathered c.args.block _ _ _ c.requires.lies c.in_ok-opened.ensures _ _ c.parse_members.result c.parse_members.ensures.gathers
