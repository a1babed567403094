-- `directives::parse_scoped` meets its contract.
-- Assumes nothing.
use native.Mathlib.Omega.{arith}
use Rattle.tokens.proofs.Stops.{stopped}
use Rattle.parser.proofs.Onward.{onward-here}
use Rattle.std.specs.Prelude.{Ok}
use Rattle.reader.specs.declared.blocks.Block.TheVariants.{Skip}
use Rattle.reader.proofs.RoomyLaws.{roomy_step}
use Rattle.reader.proofs.Extents.{words-at}
use Rattle.reader.proofs.BlockGathered.{brace-onward, block_halted, block-gathered}
use Rattle.reader.proofs.BlockFilled.{block-blank}
use Rattle.reader.proofs.DirectiveLaws.{gathers-small, over_asks, first-top, scoped_unopened, scoping}
use Rattle.reader.proofs.directives.parse_scoped.Goals as goal

pub returns-in_err-opened-clause-scopes : goal.returns-in_err-opened-clause-scopes
returns-in_err-opened-clause-scopes c = rw (stopped c.from_residual.result c.from_residual.ensures.1) (scoped_unopened _ _ c.in_err-opened.ensures)

pub parse_members-requires : goal.parse_members-requires
parse_members-requires c = (roomy_step c.requires.0 (brace-onward Skip _ _ _ c.requires.0.lies c.in_ok-opened.ensures), block-blank, block-blank)

pub returns-in_err-after-clause-scopes : goal.returns-in_err-after-clause-scopes
returns-in_err-after-clause-scopes c =
    rw (stopped c.from_residual-in_err-after.result c.from_residual-in_err-after.ensures.1) (block_halted Skip _ _ _ c.requires.0.lies c.in_ok-opened.ensures c.in_err-after.ensures.gathers)

pub overflow_add-count : goal.overflow_add-count
overflow_add-count c = let g = gathers-small (block-gathered Skip _ _ _ c.requires.0.lies c.in_ok-opened.ensures _ _ (Ok (_, _)) c.in_ok-after.ensures.gathers) c.requires.0.small in omega arith

pub put_plain-requires : goal.put_plain-requires
put_plain-requires c =
    over_asks c.requires.0 (onward-here _ _ c.requires.0.lies) (block-gathered Skip _ _ _ c.requires.0.lies c.in_ok-opened.ensures _ _ (Ok (_, _)) c.in_ok-after.ensures.gathers) c.requires.1 (omega arith)

pub returns-clause-scopes : goal.returns-clause-scopes
returns-clause-scopes c =
    rw (c.of_kind.ensures, ← words-at c.parse_members.new.groups 0)
    (scoping (first-top _ _ c.in_ok-opened.opened c.in_ok-opened.ensures c.in_ok-after.ensures.first) (block-gathered Skip _ _ _ c.requires.0.lies c.in_ok-opened.ensures _ _ (Ok (_, _)) c.in_ok-after.ensures.gathers) c.put_plain.ensures.stores)
