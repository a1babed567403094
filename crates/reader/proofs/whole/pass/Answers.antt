-- `whole::pass` meets its contract.
-- Assumes nothing.
use native.Mathlib.Omega.{arith}
use Rattle.tokens.proofs.Stops.{stopped}
use Rattle.parser.proofs.Stored.{kept_here, kept_then}
use Rattle.reader.proofs.Passing.{passing_start, passing_done, passing_begins, passing_small, passing_refused, passing_more, is-token}
use Rattle.reader.proofs.whole.pass.Goals as goal

pub loop-t-init : goal.loop-t-init
loop-t-init c = record { kept = kept_here _; passing = passing_start _ _ _ _ _ _ c.requires.lies }

pub declaration_placed-requires : goal.declaration_placed-requires
declaration_placed-requires c = passing_begins c.loop-t.invariant.passing c.requires

pub returns-in_err-declared-clause-passes : goal.returns-in_err-declared-clause-passes
returns-in_err-declared-clause-passes c = rw (stopped c.from_residual.result c.from_residual.ensures.1) (passing_refused c.loop-t.invariant.passing (is-token c.in-Of.is) c.in_err-declared.ensures.places)

pub overflow_add-count : goal.overflow_add-count
overflow_add-count c =
    let k = (passing_small (passing_more c.loop-t.invariant.passing (is-token c.in-Of.is) c.requires c.in_ok-declared.ensures.places c.records_of-count.ensures c.note-noted.ensures) c.requires.small).0 in
    omega arith

pub overflow_add-words : goal.overflow_add-words
overflow_add-words c =
    let k = (passing_small (passing_more c.loop-t.invariant.passing (is-token c.in-Of.is) c.requires c.in_ok-declared.ensures.places c.records_of-count.ensures c.note-noted.ensures) c.requires.small).1 in
    omega arith

pub overflow_add-bytes : goal.overflow_add-bytes
overflow_add-bytes c =
    let k = (passing_small (passing_more c.loop-t.invariant.passing (is-token c.in-Of.is) c.requires c.in_ok-declared.ensures.places c.records_of-count.ensures c.note-noted.ensures) c.requires.small).2 in
    omega arith

pub loop-t-smaller : goal.loop-t-smaller
loop-t-smaller c = let k = c.in_ok-declared.ensures.places.declares.onward.fewer in omega arith

pub loop-t-preserved : goal.loop-t-preserved
loop-t-preserved c =
    record {
      kept = kept_then c.loop-t.invariant.kept c.declaration_placed.ensures.kept;
      passing = passing_more c.loop-t.invariant.passing (is-token c.in-Of.is) c.requires c.in_ok-declared.ensures.places c.records_of-count.ensures c.note-noted.ensures;
    }

pub returns-clause-passes : goal.returns-clause-passes
returns-clause-passes c = passing_done c.loop-t.invariant.passing c.in_default.is
