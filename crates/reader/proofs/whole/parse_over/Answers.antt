-- `whole::parse_over` meets its contract.
-- Assumes nothing.
use mathlib.Core.Path.{refl}
use Rattle.tokens.proofs.Stops.{stopped}
use Rattle.reader.specs.Whole.{by-text}
use Rattle.reader.proofs.ParseLaws.{stopped-words, stopped-bytes, all_known}
use Rattle.reader.proofs.whole.parse_over.Goals as goal

pub returns-in_err-noted-clause-reads : goal.returns-in_err-noted-clause-reads
returns-in_err-noted-clause-reads c = rw (stopped c.from_residual.result c.from_residual.ensures.1) (by-text c.in_err-noted.ensures, refl, refl)

pub returns-then-store-size-clause-reads : goal.returns-then-store-size-clause-reads
returns-then-store-size-clause-reads c = (stopped-words c.in_ok-noted.ensures c.if-store-size.true, refl, refl)

pub returns-then-store-size-2-clause-reads : goal.returns-then-store-size-2-clause-reads
returns-then-store-size-2-clause-reads c = (stopped-bytes c.in_ok-noted.ensures c.if-store-size.false c.if-store-size-2.true, refl, refl)

pub store_groups-requires : goal.store_groups-requires
store_groups-requires c = (c.requires.0, c.requires.1.lies, all_known c.in_ok-noted.ensures c.if-store-size.false c.if-store-size-2.false)
