-- `parts::parse_set_expression` meets its contract.
-- Assumes nothing.
use Rattle.parser.proofs.PartRules.{spans_asks, set_asks, set_taken, set-sound, set-fault, set-refused, set-yields, flag_byte}
use Rattle.parser.specs.Storing.{lent_of}
use Rattle.tokens.proofs.Stops.{stopped}
use mathlib.Core.Path.{sym}
use Rattle.parser.proofs.parts.parse_set_expression.Goals as goal

pub put_spans-requires : goal.put_spans-requires
put_spans-requires c = rw c.of.ensures (spans_asks c.args.inverted c.args.body c.requires.0 c.requires.1 c.start-start.ensures)

pub returns-in-Err-clause-parses : goal.returns-in-Err-clause-parses
returns-in-Err-clause-parses c =
    let k = rw (c.of.ensures, c.in-Err.is) at c.put_spans.ensures.checks in
    set-fault c.args.source.now _ _ c.args.body _ (sym k.cause) c.start-start.ensures

pub returns-in_err-after-clause-parses : goal.returns-in_err-after-clause-parses
returns-in_err-after-clause-parses c =
    let k = rw (c.of.ensures, c.in-Ok.is) at c.put_spans.ensures.checks in
    rw (stopped c.from_residual.result c.from_residual.ensures.1) (set-refused c.args.source.now _ _ c.args.body _ (set-sound c.args.source.now c.args.body k).0 c.in_err-after.ensures.0)

pub put_plain-requires : goal.put_plain-requires
put_plain-requires c =
    let k = rw (c.of.ensures, c.in-Ok.is) at c.put_spans.ensures.stores in
    set_asks c.args.inverted c.args.body c.requires.0 c.requires.1 (lent_of c.put_spans.new.self) k.0 (set_taken _ _ k) c.start-start.ensures

pub returns-clause-parses : goal.returns-clause-parses
returns-clause-parses c =
    let k = rw (c.of.ensures, c.in-Ok.is) at c.put_spans.ensures.checks in
    let st = rw (c.of.ensures, c.in-Ok.is) at c.put_spans.ensures.stores in
    set-yields _ _ c.args.inverted c.args.body c.requires.0 c.requires.1 c.in_ok-after.ensures (set-sound c.args.source.now c.args.body k) st.0 st.2
    c.start-start.ensures c.start-start.ensures c.start-start.ensures (flag_byte c.args.inverted) c.put_plain.ensures.stores
