-- `directives::parse_external_set` meets its contract.
-- Assumes nothing.
use native.Mathlib.Omega.{arith}
use Rattle.tokens.proofs.Stops.{stopped}
use Rattle.parser.proofs.HeadRules.{short_asks}
use Rattle.parser.proofs.Ready.{part-short, name-got}
use Rattle.declarations.proofs.SourceLaws.{from-small}
use Rattle.reader.proofs.RoomyLaws.{roomy_ready}
use Rattle.reader.proofs.DirectiveLaws.{gathers-small, set-name, set-source, set-block, set_room, set_asks, set_given}
use Rattle.reader.proofs.directives.parse_external_set.Goals as goal

pub returns-in_err-name-clause-parses : goal.returns-in_err-name-clause-parses
returns-in_err-name-clause-parses c = rw (stopped c.from_residual.result c.from_residual.ensures.1) (set-name _ _ c.in_err-name.ensures.takes)

pub parse_source-requires : goal.parse_source-requires
parse_source-requires c = (name-got _ c.requires.0.lies c.in_ok-name.ensures).1.onward.lies

pub returns-in_err-from-clause-parses : goal.returns-in_err-from-clause-parses
returns-in_err-from-clause-parses c = rw (stopped c.from_residual-in_err-from.result c.from_residual-in_err-from.ensures.1) (set-source _ _ c.in_ok-name.ensures.takes c.in_err-from.ensures)

pub put_string-requires : goal.put_string-requires
put_string-requires c =
    let r = roomy_ready c.requires.0 in
    let w = from-small r in
    rw c.of.ensures (short_asks r.small (part-short _ c.in_ok-from.ensures.part) (omega arith) (omega arith) (let k = w.0 in omega arith) (let k = w.1 in omega arith))

pub parse_block-requires : goal.parse_block-requires
parse_block-requires c = set_room c.requires.0 c.in_ok-name.ensures c.in_ok-from.ensures (rw c.of.ensures at c.put_string.ensures.stores) (rw c.of.ensures at c.put_string.ensures.few)

pub returns-in_err-after-clause-parses : goal.returns-in_err-after-clause-parses
returns-in_err-after-clause-parses c =
    rw (stopped c.from_residual-in_err-after.result c.from_residual-in_err-after.ensures.1) (set-block _ _ c.in_ok-name.ensures.takes c.in_ok-from.ensures.gives c.in_err-after.ensures.gathers)

pub overflow_add-before : goal.overflow_add-before
overflow_add-before c = omega (arith, c.requires.2)

pub overflow_add-before-2 : goal.overflow_add-before-2
overflow_add-before-2 c = let g = gathers-small c.in_ok-after.ensures.gathers c.requires.0.small in omega (arith, c.requires.2)

pub put_named-requires : goal.put_named-requires
put_named-requires c =
    rw c.of-2.ensures
    (set_asks c.requires.0 c.in_ok-name.ensures c.in_ok-from.ensures (rw c.of.ensures at c.put_string.ensures.stores) (rw c.of.ensures at c.put_string.ensures.few) c.args.block c.in_ok-after.ensures.gathers c.requires.1 (omega (arith, c.requires.2)))

pub returns-clause-parses : goal.returns-clause-parses
returns-clause-parses c =
    set_given c.requires.0 c.in_ok-name.ensures c.in_ok-from.ensures (rw c.of.ensures at c.put_string.ensures.stores) (rw c.of.ensures at c.put_string.ensures.few) c.args.block c.in_ok-after.ensures.gathers c.args.before
    (rw c.of-2.ensures at c.put_named.ensures.stores)
