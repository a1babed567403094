-- `lexer::escapes::decode_hex_scalar` meets its contract. Assumes nothing.
use native.Mathlib.Omega.{arith}
use mathlib.Core.Path.{sym, ◌∙◌}
use Rattle.characters.proofs.Chars.{first_is, first_none}
use Rattle.lexer.proofs.Escaped.{chars-end, digit_at_lem, until-end, until_not, until-out, until-step, until-big}
use Rattle.lexer.proofs.escapes.decode_hex_scalar.Goals as goal

pub returns-then-c-eq125 : goal.returns-then-c-eq125
returns-then-c-eq125 c = c.then_some.ensures ∙ sym (until-end _ _ _ _ (first_is _ _ (sym c.in_ok-c.was ∙ c.peek.ensures)) c.if-c-eq125.true _ c.is_scalar.ensures) ∙ c.loop-at.invariant.1

pub returns-in_err-d : goal.returns-in_err-d
returns-in_err-d c = rw c.from_residual-in_err-d.ensures (sym (until_not _ _ _ _ (first_is _ _ (sym c.in_ok-c.was ∙ c.peek.ensures)) c.if-c-eq125.false (sym c.in_err-d.was ∙ c.hex_digit.ensures)) ∙ c.loop-at.invariant.1)

pub overflow_add-v : goal.overflow_add-v
overflow_add-v c = let z = (digit_at_lem _ _ _ _ (first_is _ _ (sym c.in_ok-c.was ∙ c.peek.ensures)) (sym c.in_ok-d.was ∙ c.hex_digit.ensures)).small in omega (arith, c.loop-at.invariant.0)

pub returns-then-v-ge1114112 : goal.returns-then-v-ge1114112
returns-then-v-ge1114112 c = sym (until-step _ _ _ _ _ (digit_at_lem _ _ _ _ (first_is _ _ (sym c.in_ok-c.was ∙ c.peek.ensures)) (sym c.in_ok-d.was ∙ c.hex_digit.ensures)) ∙ until-big _ _ _ c.if-v-ge1114112.true)
    ∙ c.loop-at.invariant.1

pub loop-at-preserved : goal.loop-at-preserved
loop-at-preserved c = (
  omega arith,
  sym (until-step _ _ _ _ _ (digit_at_lem _ _ _ _ (first_is _ _ (sym c.in_ok-c.was ∙ c.peek.ensures)) (sym c.in_ok-d.was ∙ c.hex_digit.ensures))) ∙ c.loop-at.invariant.1,
)

pub returns : goal.returns
returns c = sym (until-out _ _ _ (chars-end _ _ c.loop-at-test.false)) ∙ c.loop-at.invariant.1

pub returns-in_err-c : goal.returns-in_err-c
returns-in_err-c c = c.from_residual.ensures ∙ sym (until-out _ _ _ (first_none _ _ (sym c.in_err-c.was ∙ c.peek.ensures))) ∙ c.loop-at.invariant.1
