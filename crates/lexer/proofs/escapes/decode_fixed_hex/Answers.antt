-- `lexer::escapes::decode_fixed_hex` meets its contract. Assumes nothing.
use Prim.Native.Nat.{◌+◌, ◌-◌}
use native.Mathlib.Omega.{arith}
use mathlib.Core.Path.{◌≡◌, sym, ◌∙◌}
use Rattle.characters.proofs.Chars.{first_is, first_none}
use Rattle.lexer.proofs.Escaped.{digit_at_lem, greater, fixed-step, fixed_not, fixed-out, fixed-end}
use Rattle.lexer.proofs.escapes.decode_fixed_hex.Goals as goal

pub returns-in_err-d : goal.returns-in_err-d
returns-in_err-d c =
    c.from_residual-in_err-d.ensures ∙ sym (fixed_not _ _ (c.args.k - c.loop-i.i) _ _ (omega arith) (first_is _ _ (sym c.in_ok-c.was ∙ c.peek.ensures)) (sym c.in_err-d.was ∙ c.hex_digit.ensures))
    ∙ c.loop-i.invariant.2

pub returns-in_err-c : goal.returns-in_err-c
returns-in_err-c c =
    c.from_residual.ensures ∙ sym (fixed-out _ _ (c.args.k - c.loop-i.i) _ (omega arith) (first_none _ _ (sym c.in_err-c.was ∙ c.peek.ensures))) ∙ c.loop-i.invariant.2

pub overflow_mul-v : goal.overflow_mul-v
overflow_mul-v c =
    let z = (digit_at_lem _ _ _ _ (first_is _ _ (sym c.in_ok-c.was ∙ c.peek.ensures)) (sym c.in_ok-d.was ∙ c.hex_digit.ensures)).small in
    let q = greater (c.args.k - c.loop-i.i) _ _ (omega arith) (omega arith) c.loop-i.invariant.1 z in
    omega arith

pub overflow_add-v : goal.overflow_add-v
overflow_add-v c =
    let z = (digit_at_lem _ _ _ _ (first_is _ _ (sym c.in_ok-c.was ∙ c.peek.ensures)) (sym c.in_ok-d.was ∙ c.hex_digit.ensures)).small in
    let q = greater (c.args.k - c.loop-i.i) _ _ (omega arith) (omega arith) c.loop-i.invariant.1 z in
    omega arith

pub loop-i-preserved : goal.loop-i-preserved
loop-i-preserved c =
    let g = digit_at_lem _ _ _ _ (first_is _ _ (sym c.in_ok-c.was ∙ c.peek.ensures)) (sym c.in_ok-d.was ∙ c.hex_digit.ensures) in
    let n = g.next.inside in
    let q = greater (c.args.k - c.loop-i.i) _ _ (omega arith) (omega arith) c.loop-i.invariant.1 g.small in
    let e : c.args.k - (c.loop-i.i + 1) ≡ c.args.k - c.loop-i.i - 1 = omega arith in
    let f : c.args.from + (c.loop-i.i + 1) ≡ c.args.from + c.loop-i.i + 1 = omega arith in
    rw (e, f) (omega arith, q.0, sym (fixed-step _ _ _ _ _ _ (omega arith) g) ∙ c.loop-i.invariant.2)

pub returns : goal.returns
returns c =
    let e : c.args.k - c.loop-i.i ≡ 0 = omega arith in
    let f : c.loop-i.i ≡ c.args.k = omega arith in
    let h = rw (e, f) at c.loop-i.invariant.2 in
    c.then_some.ensures ∙ sym (fixed-end _ _ _ _ c.is_scalar.ensures) ∙ h
