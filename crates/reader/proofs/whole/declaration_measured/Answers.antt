-- `whole::declaration_measured` meets its contract.
-- Assumes nothing.
use native.Mathlib.Omega.{arith}
use mathlib.Core.Path.{refl, sym, ◌∙◌}
use Rattle.reader.proofs.BlockGathered.{lent-nothing}
use Rattle.reader.proofs.Extents.{length-words, words-at, bytes-at, words-set, bytes-set}
use Rattle.reader.proofs.Placing.{place-in, begins_roomy, begins-first, measured, placed-small, placed-none, placed-some}
use Rattle.reader.proofs.whole.declaration_measured.Goals as goal

pub parse_declaration-requires : goal.parse_declaration-requires
parse_declaration-requires c = begins-first c.requires c.measuring-measuring.ensures

pub offset_bounds-places-p : goal.offset_bounds-places-p
offset_bounds-places-p c = let k = place-in _ c.place-p.ensures in let a = c.requires.words-all in let l = length-words c.args.places.now in omega arith

pub bounds-places-p : goal.bounds-places-p
bounds-places-p c = let k = place-in _ c.place-p.ensures in let a = c.requires.words-all in let l = length-words c.args.places.now in omega arith

pub bounds-places-p-2 : goal.bounds-places-p-2
bounds-places-p-2 c = let k = place-in _ c.place-p.ensures in let a = c.requires.words-all in let l = length-words c.args.places.now in omega arith

pub offset_bounds-places-p-2 : goal.offset_bounds-places-p-2
offset_bounds-places-p-2 c = let k = place-in _ c.place-p.ensures in let a = c.requires.words-all in let l = length-words c.args.places.now in omega arith

pub bounds-places-p-3 : goal.bounds-places-p-3
bounds-places-p-3 c = let k = place-in _ c.place-p.ensures in let a = c.requires.words-all in let l = length-words c.args.places.now in omega arith

pub overflow_add-places : goal.overflow_add-places
overflow_add-places c = let k = (placed-small (measured c.measuring-measuring.ensures c.in_ok-declared.ensures.declares) c.requires c.place-p.result).0 in let w = words-at c.args.places.now c.place-p.result in omega arith

pub overflow_add-places-2 : goal.overflow_add-places-2
overflow_add-places-2 c = let k = (placed-small (measured c.measuring-measuring.ensures c.in_ok-declared.ensures.declares) c.requires c.place-p.result).1 in let w = bytes-at c.args.places.now c.place-p.result in omega arith

pub parse_declaration-requires-then-not-is_measuring : goal.parse_declaration-requires-then-not-is_measuring
parse_declaration-requires-then-not-is_measuring c = rw (← words-at c.args.places.now c.place-p.result, ← bytes-at c.args.places.now c.place-p.result) (begins_roomy c.requires _)

pub returns-in_ok-parse_declaration-clause-places : goal.returns-in_ok-parse_declaration-clause-places
returns-in_ok-parse_declaration-clause-places c =
    placed-some (measured c.measuring-measuring.ensures c.in_ok-declared.ensures.declares) c.place-p.ensures (rw (← words-at c.args.places.now c.place-p.result, ← bytes-at c.args.places.now c.place-p.result) at c.in_ok-parse_declaration.ensures.declares)
    (words-set c.args.places.now c.place-p.result _ ∙ rw (← words-at c.args.places.now c.place-p.result)) (bytes-set c.args.places.now c.place-p.result _ ∙ rw (← bytes-at c.args.places.now c.place-p.result)) refl refl

pub returns-else-not-is_measuring-clause-places : goal.returns-else-not-is_measuring-clause-places
returns-else-not-is_measuring-clause-places c =
    let n = lent-nothing _ _ (sym c.is_measuring.ensures ∙ c.if-not-is_measuring.false) in
    placed-none (measured c.measuring-measuring.ensures c.in_ok-declared.ensures.declares) c.place-p.ensures n.0 n.1 refl refl (words-set c.args.places.now c.place-p.result _ ∙ rw (← words-at c.args.places.now c.place-p.result)) (bytes-set c.args.places.now c.place-p.result _ ∙ rw (← bytes-at c.args.places.now c.place-p.result))
