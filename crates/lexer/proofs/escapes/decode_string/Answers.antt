-- `lexer::escapes::decode_string` meets its contract. Assumes nothing.
use native.Mathlib.Omega.{arith}
use Rattle.lexer.proofs.Escaped.{value-end, value_on, decoded, step}
use Rattle.lexer.proofs.escapes.decode_string.Goals as goal

pub overflow_add-n : goal.overflow_add-n
overflow_add-n c = let v = value_on _ _ _ _ c.set_atom.ensures c.in-Some.is in
    let s = step _ _ _ _ _ c.loop-c.invariant _ _ _ _ v c.put-n.ensures in
    let i = s.few in
    let j = s.inside in
    omega arith

pub loop-c-smaller : goal.loop-c-smaller
loop-c-smaller c = let v = value_on _ _ _ _ c.set_atom.ensures c.in-Some.is in
    let i = v.inside in
    let j = v.past in
    omega arith

pub loop-c-preserved : goal.loop-c-preserved
loop-c-preserved c = step _ _ _ _ _ c.loop-c.invariant _ _ _ _ (value_on _ _ _ _ c.set_atom.ensures c.in-Some.is) c.put-n.ensures

pub returns : goal.returns
returns c = decoded _ _ _ _ _ c.loop-c.invariant (value-end _ _ _ c.set_atom.ensures c.in_default.is)
