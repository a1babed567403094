-- `lexer::escapes::decode_braced` meets its contract. Assumes nothing.
use native.Mathlib.Omega.{arith}
use mathlib.Core.Path.{sym, ◌∙◌}
use Rattle.characters.proofs.Chars.{eq_yes, eq_no, ne_yes, ne_no}
use Rattle.lexer.proofs.Escaped.{braced_not, braced-next, braced-empty, braced-on}
use Rattle.lexer.proofs.escapes.decode_braced.Goals as goal
use Rattle.lexer.proofs.escapes.decode_braced.Goals.{then-ne-via-then-ne, then-ne-via-else-ne+then-eq}

pub returns-then-ne : goal.returns-then-ne
returns-then-ne c = elim c.then-ne.branch [
  | then-ne-via-then-ne w ↦ sym (braced_not _ _ (ne_yes _ _ c.peek.ensures (omega arith) c.ne.ensures w.if-ne.true))
  | then-ne-via-else-ne+then-eq w ↦
      sym (braced-empty _ _ (ne_no _ _ c.peek.ensures (omega arith) c.ne.ensures w.if-ne.false) (eq_yes _ _ w.peek-else-ne.ensures (omega arith) w.eq.ensures w.if-eq.true))
]

pub overflow_add-from : goal.overflow_add-from
overflow_add-from c = let i = (braced-next _ _ (ne_no _ _ c.peek.ensures (omega arith) c.ne.ensures c.if-ne.false)).inside in omega arith

pub overflow_add-from-2 : goal.overflow_add-from-2
overflow_add-from-2 c = let i = (braced-next _ _ (ne_no _ _ c.peek.ensures (omega arith) c.ne.ensures c.if-ne.false)).inside in omega arith

pub returns : goal.returns
returns c = c.decode_hex_scalar.ensures
    ∙ sym (braced-on _ _ (ne_no _ _ c.peek.ensures (omega arith) c.ne.ensures c.if-ne.false) (eq_no _ _ c.peek-else-ne.ensures (omega arith) c.eq.ensures c.if-eq.false))
