-- `directives::parse_local_tokens` meets its contract.
-- Assumes nothing.
use native.Mathlib.Omega.{arith}
use Rattle.tokens.proofs.Stops.{stopped}
use Rattle.declarations.proofs.SourceLaws.{word-onward}
use Rattle.reader.proofs.RoomyLaws.{roomy_step}
use Rattle.reader.proofs.DirectiveLaws.{over_asks, tokens-plain, tokens_taken, tokens_passed, tokens_not, local_halt, local_no, local_refused, local_given}
use Rattle.reader.proofs.directives.parse_local_tokens.Goals as goal

pub returns-in_err-word-clause-parses : goal.returns-in_err-word-clause-parses
returns-in_err-word-clause-parses c = rw (stopped c.from_residual.result c.from_residual.ensures.1) (local_halt _ _ _ (tokens_not c.in_err-word.ensures))

pub returns-in_default-clause-parses : goal.returns-in_default-clause-parses
returns-in_default-clause-parses c = rw (c.unexpected.ensures.0, c.unexpected.ensures.1) (local_no _ _ _ (tokens_passed (rw c.in_default.is at c.in_ok-word.ensures)))

pub parse_block-requires : goal.parse_block-requires
parse_block-requires c = roomy_step c.requires.0 (word-onward "tokens" _ _ tokens-plain c.requires.0.lies (rw c.in-Some.is at c.in_ok-word.ensures))

pub returns-in_err-after-clause-parses : goal.returns-in_err-after-clause-parses
returns-in_err-after-clause-parses c =
    rw (stopped c.from_residual-in_err-after.result c.from_residual-in_err-after.ensures.1) (local_refused _ _ _ (tokens_taken (rw c.in-Some.is at c.in_ok-word.ensures)) c.in_err-after.ensures.gathers)

pub put_plain-requires : goal.put_plain-requires
put_plain-requires c = over_asks c.requires.0 (word-onward "tokens" _ _ tokens-plain c.requires.0.lies (rw c.in-Some.is at c.in_ok-word.ensures)) c.in_ok-after.ensures.gathers c.requires.1 (omega arith)

pub returns-clause-parses : goal.returns-clause-parses
returns-clause-parses c =
    local_given _ _ _ (tokens_taken (rw c.in-Some.is at c.in_ok-word.ensures)) (word-onward "tokens" _ _ tokens-plain c.requires.0.lies (rw c.in-Some.is at c.in_ok-word.ensures)) c.in_ok-after.ensures.gathers c.put_plain.ensures.stores
