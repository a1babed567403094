-- `whole::store_groups` meets its contract.
-- Assumes nothing.
use native.Mathlib.Omega.{arith}
use Rattle.parser.proofs.PartRules.{flag_byte}
use Rattle.reader.proofs.Extents.{words-at, bytes-at, words-set, bytes-set}
use Rattle.reader.proofs.StoreLaws.{known-names, known-named, words_small, bytes_small, names_at, pass_begins, put_asks, whole-read}
use Rattle.reader.proofs.whole.store_groups.Goals as goal

pub line_up-requires : goal.line_up-requires
line_up-requires c =
    let a = words_small c.requires.0 c.requires.1 c.requires.2 in
    let b = bytes_small c.requires.0 c.requires.1 c.requires.2 in
    (omega arith, omega arith)

pub dialects-requires : goal.dialects-requires
dialects-requires c =
    let b = names_at c.requires.0 c.requires.1 c.requires.2 c.line_up.ensures.0 c.line_up.ensures.1 in
    let w = words-at c.line_up.new.sizes 11 in
    let x = bytes-at c.line_up.new.sizes 11 in
    (known-names c.requires.0 c.requires.1 c.requires.2, c.requires.0, omega (arith, b.0, w), omega (arith, b.1, x))

pub pass-requires : goal.pass-requires
pass-requires c =
    let d = known-named c.requires.0 c.requires.1 c.requires.2 (rw (← words-at c.line_up.new.sizes 11, ← bytes-at c.line_up.new.sizes 11) at c.in_ok-dialects.ensures.names) in
    rw (words-set c.line_up.new.sizes 11 _, bytes-set c.line_up.new.sizes 11 _) (pass_begins c.requires.0 c.requires.1 c.requires.2 c.line_up.ensures.0 c.line_up.ensures.1 d)

pub put_plain-requires : goal.put_plain-requires
put_plain-requires c =
    let d = known-named c.requires.0 c.requires.1 c.requires.2 (rw (← words-at c.line_up.new.sizes 11, ← bytes-at c.line_up.new.sizes 11) at c.in_ok-dialects.ensures.names) in
    let p = put_asks c.requires.0 c.requires.1 c.requires.2 c.line_up.ensures.0 c.line_up.ensures.1 d (rw (words-set c.line_up.new.sizes 11 _, bytes-set c.line_up.new.sizes 11 _) at c.in_ok-pass.ensures.passes) c.start.ensures in
    let w = words-at c.pass.new.places 11 in
    (omega (arith, p.0, w), p.1, p.2)

pub returns-clause-reads : goal.returns-clause-reads
returns-clause-reads c =
    let d = known-named c.requires.0 c.requires.1 c.requires.2 (rw (← words-at c.line_up.new.sizes 11, ← bytes-at c.line_up.new.sizes 11) at c.in_ok-dialects.ensures.names) in
    whole-read c.requires.0 c.requires.1 c.requires.2 c.line_up.ensures.0 c.line_up.ensures.1 d (rw (words-set c.line_up.new.sizes 11 _, bytes-set c.line_up.new.sizes 11 _) at c.in_ok-pass.ensures.passes) c.start.ensures (flag_byte c.args.noted.delim) (rw (← words-at c.pass.new.places 11, ← bytes-at c.pass.new.places 11) at c.put_plain.ensures.stores)
