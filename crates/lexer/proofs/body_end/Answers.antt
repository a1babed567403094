-- `lexer::body_end` meets its contract. Assumes nothing.
use native.Mathlib.Omega.{arith}
use mathlib.Core.Path.{sym, ◌∙◌}
use mathlib.Core.Bool.{true, false}
use Rattle.lexer.proofs.Tokens.{end-ill, end-found, end_on, end-escape, end-escaped, end_stop}
use Rattle.characters.proofs.Laws.{scalar_fits}
use Rattle.lexer.proofs.body_end.Goals as goal

pub returns-in_err-c : goal.returns-in_err-c
returns-in_err-c g c = λ p k. c.from_residual.ensures ∙ sym (end-ill p _ _ _ false (sym c.decode.ensures ∙ c.in_err-c.was)) ∙ c.loop-stops.invariant.1 p k

pub overflow_add-result : goal.overflow_add-result
overflow_add-result g c = let f = scalar_fits _ _ (sym c.decode.ensures ∙ c.in_ok-c.was) in omega arith

pub returns-then-c-mark : goal.returns-then-c-mark
returns-then-c-mark g c = λ p k. let d = sym c.decode.ensures ∙ c.in_ok-c.was in
    sym (end-found p _ _ _ d c.if-c-mark.true) ∙ c.loop-stops.invariant.1 p k

pub overflow_add-cursor : goal.overflow_add-cursor
overflow_add-cursor g c = let f = scalar_fits _ _ (sym c.decode.ensures ∙ c.in_ok-c.was) in omega arith

pub returns-in_err-d : goal.returns-in_err-d
returns-in_err-d g c = λ p k. let d = sym c.decode.ensures ∙ c.in_ok-c.was in
    c.from_residual-in_err-d.ensures
    ∙ sym (end-escape p _ _ _ d c.if-c-mark.false c.if-c-eq92.true ∙ end-ill p _ _ _ true (sym c.decode-then-c-eq92.ensures ∙ c.in_err-d.was))
    ∙ c.loop-stops.invariant.1 p k

pub returns-then-stops : goal.returns-then-stops
returns-then-stops g c = λ p k. let d = sym c.decode.ensures ∙ c.in_ok-c.was in
    let d₂ = sym c.decode-then-c-eq92.ensures ∙ c.in_ok-d.was in
    sym (end-escape p _ _ _ d c.if-c-mark.false c.if-c-eq92.true ∙ end_stop p _ _ _ d₂ (sym (k _ _ c.stops.ensures) ∙ c.if-stops.true))
    ∙ c.loop-stops.invariant.1 p k

pub overflow_add-cursor-then-c-eq92 : goal.overflow_add-cursor-then-c-eq92
overflow_add-cursor-then-c-eq92 g c = let d = sym c.decode.ensures ∙ c.in_ok-c.was in
    let d₂ = sym c.decode-then-c-eq92.ensures ∙ c.in_ok-d.was in
    let f = scalar_fits _ _ d in
    let g = scalar_fits _ _ d₂ in
    omega arith

pub loop-stops-smaller-then-c-eq92 : goal.loop-stops-smaller-then-c-eq92
loop-stops-smaller-then-c-eq92 g c = let d = sym c.decode.ensures ∙ c.in_ok-c.was in
    let d₂ = sym c.decode-then-c-eq92.ensures ∙ c.in_ok-d.was in
    let f = scalar_fits _ _ d in
    let g = scalar_fits _ _ d₂ in
    omega arith

pub loop-stops-preserved-then-c-eq92 : goal.loop-stops-preserved-then-c-eq92
loop-stops-preserved-then-c-eq92 g c = let d = sym c.decode.ensures ∙ c.in_ok-c.was in
    let d₂ = sym c.decode-then-c-eq92.ensures ∙ c.in_ok-d.was in (
      c.loop-stops.invariant.0,
      λ p k. sym (end-escape p _ _ _ d c.if-c-mark.false c.if-c-eq92.true ∙ end-escaped p _ _ _ d₂ (sym (k _ _ c.stops.ensures) ∙ c.if-stops.false))
          ∙ c.loop-stops.invariant.1 p k,
    )

pub loop-stops-smaller : goal.loop-stops-smaller
loop-stops-smaller g c = let f = scalar_fits _ _ (sym c.decode.ensures ∙ c.in_ok-c.was) in omega arith

pub loop-stops-preserved : goal.loop-stops-preserved
loop-stops-preserved g c = let d = sym c.decode.ensures ∙ c.in_ok-c.was in (
  c.loop-stops.invariant.0,
  λ p k. sym (end_on p _ _ _ d c.if-c-mark.false c.if-c-eq92.false) ∙ c.loop-stops.invariant.1 p k,
)
