-- What is printed is what the call wrote, or the line of its refusal.
use Rattle.std.proofs.Common.{ℕ, arith, length-take-le}
use Rattle.normal.proofs.Printed.{written-prints, refused-prints, written-is_text, refused-is_none}
use Rattle.normal.proofs.print.Goals as goal

pub slice_bounds-out-end : goal.slice_bounds-out-end
slice_bounds-out-end g c = let w = (written-prints _ _ _ _ c.in-Ok.n c.in-Ok.ensures.outcome).0 in omega arith

pub slice_bounds-write_all-end : goal.slice_bounds-write_all-end
slice_bounds-write_all-end g c =
    let w = (written-prints _ _ _ _ c.in-Ok.n c.in-Ok.ensures.outcome).0 in
    omega (arith, length-take-le {A = ℕ})

pub returns-in_ok-write_all-in-Ok-clause-text : goal.returns-in_ok-write_all-in-Ok-clause-text
returns-in_ok-write_all-in-Ok-clause-text g c = rw (written-prints _ _ _ _ c.in-Ok.n c.in-Ok.ensures.outcome).1 at c.in_ok-write_all-in-Ok.ensures.bytes

pub returns-in_ok-write_all-in-Ok-clause-which : goal.returns-in_ok-write_all-in-Ok-clause-which
returns-in_ok-write_all-in-Ok-clause-which g c = written-is_text _ _ _ _ c.in-Ok.n c.in-Ok.ensures.outcome

pub returns-in_ok-write-in-Err-clause-text : goal.returns-in_ok-write-in-Err-clause-text
returns-in_ok-write-in-Err-clause-text g c = rw (refused-prints _ _ _ _ c.in-Err.refusal c.in-Err.ensures.outcome) at c.in_ok-write-in-Err.ensures.bytes

pub returns-in_ok-write-in-Err-clause-which : goal.returns-in_ok-write-in-Err-clause-which
returns-in_ok-write-in-Err-clause-which g c = refused-is_none _ _ _ _ c.in-Err.refusal c.in-Err.ensures.outcome
