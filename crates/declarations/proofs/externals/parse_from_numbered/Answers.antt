-- `externals::parse_from_numbered` meets its contract.
-- Assumes nothing.
use Rattle.declarations.proofs.SourceLaws.{from-name, from-source, from-given, from-small, source-few, source-next}
use Rattle.parser.proofs.HeadRules.{short_asks}
use Rattle.parser.proofs.Ready.{part-short, name-got}
use Rattle.tokens.proofs.Stops.{stopped}
use native.Mathlib.Omega.{arith}
use Rattle.declarations.proofs.externals.parse_from_numbered.Goals as goal

pub returns-in_err-name-clause-parses : goal.returns-in_err-name-clause-parses
returns-in_err-name-clause-parses c = rw (stopped c.from_residual.result c.from_residual.ensures.1) (from-name _ c.in_err-name.ensures.takes)

pub parse_source-requires : goal.parse_source-requires
parse_source-requires c = (name-got _ c.requires.0.lies c.in_ok-name.ensures).1.onward.lies

pub returns-in_err-from-clause-parses : goal.returns-in_err-from-clause-parses
returns-in_err-from-clause-parses c = rw (stopped c.from_residual-in_err-from.result c.from_residual-in_err-from.ensures.1) (from-source _ c.in_ok-name.ensures.takes c.in_err-from.ensures)

pub put_string-requires : goal.put_string-requires
put_string-requires c =
    let w = from-small c.requires.0 in
    rw c.of.ensures (short_asks c.requires.0.small (part-short _ c.in_ok-from.ensures.part) (omega arith) (omega arith) (let k = w.0 in omega arith) (let k = w.1 in omega arith))

pub put_named_numbered-requires : goal.put_named_numbered-requires
put_named_numbered-requires c =
    let w = source-next c.in_ok-from.ensures.part (rw c.of.ensures at c.put_string.ensures.stores) (rw c.of.ensures at c.put_string.ensures.few) c.requires.0 in
    rw c.of-2.ensures (short_asks c.requires.0.small (part-short _ (name-got _ c.requires.0.lies c.in_ok-name.ensures).0.part) c.requires.1 (omega arith) w.0 w.1)

pub returns-clause-parses : goal.returns-clause-parses
returns-clause-parses c =
    let st = rw c.of.ensures at c.put_string.ensures.stores in
    from-given c.args.kind c.requires.0.lies c.in_ok-name.ensures c.in_ok-from.ensures (source-few c.in_ok-from.ensures.part st (rw c.of.ensures at c.put_string.ensures.few)) st (rw c.of-2.ensures at c.put_named_numbered.ensures.stores)
