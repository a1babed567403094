-- `blocks::member_placed` meets its contract.
-- Assumes nothing.
use mathlib.Core.Path.{sym}
use native.Mathlib.Omega.{arith}
use Rattle.tokens.proofs.Stops.{stopped}
use Rattle.reader.proofs.MemberAhead.{group_in}
use Rattle.reader.proofs.Spreading.{begins_ready, settled_on, settled}
use Rattle.reader.proofs.Extents.{length-words, words-at, bytes-at, words-set, bytes-set}
use Rattle.reader.proofs.blocks.member_placed.Goals as goal

pub offset_bounds-places-p : goal.offset_bounds-places-p
offset_bounds-places-p c = let k = group_in c.args.block c.args.free _ c.args.token c.group_ahead-p.ensures in let a = c.requires.words-all in let l = length-words c.args.places.now in omega arith

pub bounds-places-p : goal.bounds-places-p
bounds-places-p c = let k = group_in c.args.block c.args.free _ c.args.token c.group_ahead-p.ensures in let a = c.requires.words-all in let l = length-words c.args.places.now in omega arith

pub bounds-places-p-2 : goal.bounds-places-p-2
bounds-places-p-2 c = let k = group_in c.args.block c.args.free _ c.args.token c.group_ahead-p.ensures in let a = c.requires.words-all in let l = length-words c.args.places.now in omega arith

pub offset_bounds-places-p-2 : goal.offset_bounds-places-p-2
offset_bounds-places-p-2 c = let k = group_in c.args.block c.args.free _ c.args.token c.group_ahead-p.ensures in let a = c.requires.words-all in let l = length-words c.args.places.now in omega arith

pub bounds-places-p-3 : goal.bounds-places-p-3
bounds-places-p-3 c = let k = group_in c.args.block c.args.free _ c.args.token c.group_ahead-p.ensures in let a = c.requires.words-all in let l = length-words c.args.places.now in omega arith

pub member-requires : goal.member-requires
member-requires c = rw (← words-at c.args.places.now c.group_ahead-p.result, ← bytes-at c.args.places.now c.group_ahead-p.result) (begins_ready c.requires _)

pub returns-in_err-joined-clause-settles : goal.returns-in_err-joined-clause-settles
returns-in_err-joined-clause-settles c = rw (stopped c.from_residual.result c.from_residual.ensures.1) c.in_err-joined.ensures.joins

pub overflow_sub-result : goal.overflow_sub-result
overflow_sub-result c = let o = settled_on c.in_ok-joined.ensures.joins in omega arith

pub overflow_sub-result-2 : goal.overflow_sub-result-2
overflow_sub-result-2 c = let o = settled_on c.in_ok-joined.ensures.joins in omega arith

pub returns-clause-settles : goal.returns-clause-settles
returns-clause-settles c =
    settled c.in_ok-joined.ensures.joins c.group_ahead-p.ensures (sym (words-at c.args.places.now c.group_ahead-p.result)) (sym (bytes-at c.args.places.now c.group_ahead-p.result)) (words-set c.args.places.now c.group_ahead-p.result _)
    (bytes-set c.args.places.now c.group_ahead-p.result _)
