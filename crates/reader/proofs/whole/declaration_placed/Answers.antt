-- `whole::declaration_placed` meets its contract.
-- Assumes nothing.
use native.Mathlib.Omega.{arith}
use mathlib.Core.Path.{sym}
use Rattle.reader.proofs.Extents.{length-words, words-at, bytes-at, words-set, bytes-set}
use Rattle.reader.proofs.Placing.{place-in, begins_roomy, once_on, placed_once}
use Rattle.reader.proofs.whole.declaration_placed.Goals as goal

pub offset_bounds-places-p : goal.offset_bounds-places-p
offset_bounds-places-p c = let k = place-in _ c.place-p.ensures in let a = c.requires.words-all in let l = length-words c.args.places.now in omega arith

pub bounds-places-p : goal.bounds-places-p
bounds-places-p c = let k = place-in _ c.place-p.ensures in let a = c.requires.words-all in let l = length-words c.args.places.now in omega arith

pub bounds-places-p-2 : goal.bounds-places-p-2
bounds-places-p-2 c = let k = place-in _ c.place-p.ensures in let a = c.requires.words-all in let l = length-words c.args.places.now in omega arith

pub offset_bounds-places-p-2 : goal.offset_bounds-places-p-2
offset_bounds-places-p-2 c = let k = place-in _ c.place-p.ensures in let a = c.requires.words-all in let l = length-words c.args.places.now in omega arith

pub bounds-places-p-3 : goal.bounds-places-p-3
bounds-places-p-3 c = let k = place-in _ c.place-p.ensures in let a = c.requires.words-all in let l = length-words c.args.places.now in omega arith

pub parse_declaration-requires : goal.parse_declaration-requires
parse_declaration-requires c = rw (← words-at c.args.places.now c.place-p.result, ← bytes-at c.args.places.now c.place-p.result) (begins_roomy c.requires _)

pub overflow_sub-result : goal.overflow_sub-result
overflow_sub-result c = let o = once_on c.in_ok-declared.ensures.declares in omega arith

pub overflow_sub-result-2 : goal.overflow_sub-result-2
overflow_sub-result-2 c = let o = once_on c.in_ok-declared.ensures.declares in omega arith

pub returns-clause-places : goal.returns-clause-places
returns-clause-places c =
    placed_once c.in_ok-declared.ensures.declares c.in-Some.ahead (rw c.in-Some.is at c.kind_ahead.ensures) c.place-p.ensures (sym (words-at c.args.places.now c.place-p.result)) (sym (bytes-at c.args.places.now c.place-p.result)) (words-set c.args.places.now c.place-p.result _) (bytes-set c.args.places.now c.place-p.result _)
