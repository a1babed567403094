-- `whole::measure_groups` meets its contract.
-- Assumes nothing.
use native.Mathlib.Omega.{arith}
use Rattle.tokens.proofs.Stops.{stopped}
use Rattle.reader.proofs.ParseLaws.{first-begins, stopped-members, stopped-top, measured-names, measured-small, measured-fits, measured}
use Rattle.reader.proofs.whole.measure_groups.Goals as goal

pub pass-requires : goal.pass-requires
pass-requires c = first-begins c.requires.1 c.requires.0 c.requires.2 c.requires.3

pub returns-in_err-end : goal.returns-in_err-end
returns-in_err-end c =
    rw (stopped c.from_residual.result c.from_residual.ensures.1) (stopped-members c.requires.1 c.in_err-end.ensures.passes)

pub returns-then-not-noted : goal.returns-then-not-noted
returns-then-not-noted c =
    let g = c.in_ok-end.ensures.passes in
    stopped-top c.requires.1 _ _ g c.if-not-noted.true c.start.ensures

pub dialects-requires : goal.dialects-requires
dialects-requires c =
    let g = c.in_ok-end.ensures.passes in
    let z = measured-small c.requires.1 _ _ g c.requires.0 in
    (measured-names c.requires.1 _ _ g, c.requires.0, z.0, z.1)

pub overflow_add-result : goal.overflow_add-result
overflow_add-result c =
    let g = c.in_ok-end.ensures.passes in
    let d = c.in_ok-named.ensures.names _ g.noted.named in
    let k = (measured-fits c.requires.1 _ _ g d c.requires.0).1 in
    omega arith

pub overflow_add-result-2 : goal.overflow_add-result-2
overflow_add-result-2 c =
    let g = c.in_ok-end.ensures.passes in
    let d = c.in_ok-named.ensures.names _ g.noted.named in
    let k = (measured-fits c.requires.1 _ _ g d c.requires.0).0 in
    omega arith

pub returns : goal.returns
returns c =
    let g = c.in_ok-end.ensures.passes in
    let d = c.in_ok-named.ensures.names _ g.noted.named in
    measured c.requires.1 _ _ g d c.if-not-noted.false c.requires.2 c.requires.3
