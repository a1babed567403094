-- `blocks::parse_members` meets its contract.
-- Assumes nothing.
use native.Mathlib.Omega.{arith}
use mathlib.Core.Path.{sym, ◌∙◌}
use Rattle.tokens.proofs.Stops.{stopped}
use Rattle.reader.proofs.Extents.{length-words, words-at, words-set}
use Rattle.reader.proofs.BlockGathered.{lent-nothing}
use Rattle.reader.proofs.BlockFilled.{blank-begins, spread_none, spread_twice, first-size, first-kept, words_small, bytes_small, lined-begins}
use Rattle.reader.proofs.blocks.parse_members.Goals.{then-not-is_measuring+in_ok-members_pass, else-not-is_measuring}
use Rattle.reader.proofs.blocks.parse_members.Goals as goal

pub members_pass-requires : goal.members_pass-requires
members_pass-requires c = blank-begins c.requires.0.lies c.requires.0.small c.requires.1 c.requires.2

pub returns-in_err-measured-clause-gathers : goal.returns-in_err-measured-clause-gathers
returns-in_err-measured-clause-gathers c = rw (stopped c.from_residual.result c.from_residual.ensures.1) c.in_err-measured.ensures.spreads

pub returns-in_err-measured-clause-first : goal.returns-in_err-measured-clause-first
returns-in_err-measured-clause-first c = rw (stopped c.from_residual.result c.from_residual.ensures.1) tt

pub bounds-groups-0 : goal.bounds-groups-0
bounds-groups-0 c = let a = c.requires.1.all in let l = length-words c.args.groups.now in let k = c.members_pass.auto.places in omega arith

pub line_up-requires : goal.line_up-requires
line_up-requires c = (words_small c.requires.0 c.requires.1 c.requires.2 c.in_ok-measured.ensures.spreads, bytes_small c.requires.0 c.requires.1 c.requires.2 c.in_ok-measured.ensures.spreads)

pub members_pass-requires-then-not-is_measuring : goal.members_pass-requires-then-not-is_measuring
members_pass-requires-then-not-is_measuring c = lined-begins c.requires.0 c.requires.1 c.requires.2 c.in_ok-measured.ensures.spreads c.line_up.ensures.0 c.line_up.ensures.1

pub returns-clause-gathers : goal.returns-clause-gathers
returns-clause-gathers c =
    elim c.if-not-is_measuring.branch [
      | then-not-is_measuring+in_ok-members_pass w ↦ rw w.store-is (spread_twice c.requires.0 c.requires.1 c.requires.2 c.in_ok-measured.ensures.spreads w.line_up.ensures.0 w.line_up.ensures.1 w.in_ok-members_pass.ensures.spreads)
      | else-not-is_measuring w ↦
          let n = lent-nothing _ _ (sym c.is_measuring.ensures ∙ w.if-not-is_measuring.false) in
          rw w.store-is (spread_none c.requires.0 c.requires.1 c.requires.2 c.in_ok-measured.ensures.spreads n.0 n.1)
    ]

pub returns-clause-first : goal.returns-clause-first
returns-clause-first c =
    elim c.if-not-is_measuring.branch [
      | then-not-is_measuring+in_ok-members_pass w ↦
          rw (w.groups-is, words-set w.members_pass-then-not-is_measuring.new.places 0 _, ← words-at c.members_pass.new.places 0)
          (first-kept c.requires.0 c.requires.1 c.requires.2 c.in_ok-measured.ensures.spreads w.line_up.ensures.0 w.line_up.ensures.1 w.in_ok-members_pass.ensures.spreads)
      | else-not-is_measuring w ↦ rw w.groups-is (first-size c.requires.0 c.requires.1 c.requires.2 c.in_ok-measured.ensures.spreads)
    ]
