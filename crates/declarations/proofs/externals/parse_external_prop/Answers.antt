-- `externals::parse_external_prop` meets its contract.
-- Assumes nothing.
use Rattle.declarations.proofs.PropLaws.{prop-name, prop_as, prop-source, prop-given, name-next, prop-last}
use Rattle.declarations.proofs.SourceLaws.{source-few}
use Rattle.parser.proofs.HeadRules.{short_asks}
use Rattle.parser.proofs.Ready.{part-short, name-got, put_asks}
use Rattle.tokens.proofs.Stops.{stopped}
use native.Mathlib.Omega.{arith}
use Rattle.declarations.proofs.externals.parse_external_prop.Goals as goal

pub returns-in_err-name-clause-parses : goal.returns-in_err-name-clause-parses
returns-in_err-name-clause-parses c = rw (stopped c.from_residual.result c.from_residual.ensures.1) (prop-name _ _ c.in_err-name.ensures.takes)

pub parse_as-requires : goal.parse_as-requires
parse_as-requires c = let d = name-got _ c.requires.0.lies c.in_ok-name.ensures in (d.1.onward.lies, d.0.part)

pub returns-in_err-id-clause-parses : goal.returns-in_err-id-clause-parses
returns-in_err-id-clause-parses c = rw (stopped c.from_residual-in_err-id.result c.from_residual-in_err-id.ensures.1) (prop_as _ _ c.in_ok-name.ensures.takes c.in_err-id.ensures)

pub parse_source-requires : goal.parse_source-requires
parse_source-requires c = c.in_ok-id.ensures.onward.lies

pub returns-in_err-from-clause-parses : goal.returns-in_err-from-clause-parses
returns-in_err-from-clause-parses c = rw (stopped c.from_residual-in_err-from.result c.from_residual-in_err-from.ensures.1) (prop-source _ _ c.in_ok-name.ensures.takes c.in_ok-id.ensures.gives c.in_err-from.ensures)

pub put_named-requires : goal.put_named-requires
put_named-requires c = rw c.of.ensures (put_asks c.requires.0 c.requires.0 c.start.ensures (omega arith) (part-short _ (name-got _ c.requires.0.lies c.in_ok-name.ensures).0.part))

pub put_string-requires : goal.put_string-requires
put_string-requires c =
    let w = name-next c.requires.0 (part-short _ (name-got _ c.requires.0.lies c.in_ok-name.ensures).0.part) (rw c.of.ensures at c.put_named.ensures.stores) in
    rw c.of-2.ensures (short_asks c.requires.0.small (part-short _ c.in_ok-from.ensures.part) (omega arith) (omega arith) (let k = w.0 in omega arith) (let k = w.1 in omega arith))

pub put_named-requires-2 : goal.put_named-requires-2
put_named-requires-2 c =
    let w = prop-last c.requires.0 (part-short _ (name-got _ c.requires.0.lies c.in_ok-name.ensures).0.part) (rw c.of.ensures at c.put_named.ensures.stores)
    c.in_ok-from.ensures.part (rw c.of-2.ensures at c.put_string.ensures.stores) (rw c.of-2.ensures at c.put_string.ensures.few) in
    rw c.of-3.ensures (short_asks c.requires.0.small (part-short _ c.in_ok-id.ensures.part) c.requires.1 (omega arith) w.0 w.1)

pub returns-clause-parses : goal.returns-clause-parses
returns-clause-parses c =
    let st = rw c.of-2.ensures at c.put_string.ensures.stores in
    prop-given c.requires.0.lies c.in_ok-name.ensures c.in_ok-id.ensures c.in_ok-from.ensures c.start.ensures (source-few c.in_ok-from.ensures.part st (rw c.of-2.ensures at c.put_string.ensures.few)) (rw c.of.ensures at c.put_named.ensures.stores) st (rw c.of-3.ensures at c.put_named-2.ensures.stores)
