-- `lexer::skip_trivia` meets its contract. Assumes nothing.
use native.Mathlib.Omega.{arith}
use mathlib.Core.Path.{sym, ◌∙◌, ap}
use Rattle.lexer.proofs.Tokens.{not_terminator, space-on, line-start, block_start, block-other, block_star, block_shut, shut_inside, block-end, settled-other, settled_slash, settled-ill}
use borrow.Author.Tests.{eqb-false}
use Rattle.characters.proofs.Runs.{run-ill, run_on, run_off}
use Rattle.lexer.specs.Promise.{tokens_at}
use Rattle.characters.proofs.Laws.{scalar_fits, ascii-at}
use Rattle.characters.proofs.Chars.{next-head, eq_yes, eq_no, ne_yes, ne_no}
use Rattle.lexer.proofs.skip_trivia.Goals as goal

pub returns-in_default : goal.returns-in_default
returns-in_default c = (
  omega (arith, c.space.invariant.0, c.trivia.invariant.0),
  sym c.space.invariant.1,
  settled-ill _ _ (sym c.decode.ensures ∙ c.in_default.is),
)

pub overflow_add-cursor : goal.overflow_add-cursor
overflow_add-cursor c = let d = sym c.decode.ensures ∙ c.in-Some.is in
    let f = scalar_fits _ _ d in
    omega arith

pub space-smaller : goal.space-smaller
space-smaller c = let d = sym c.decode.ensures ∙ c.in-Some.is in
    let f = scalar_fits _ _ d in
    omega arith

pub space-preserved : goal.space-preserved
space-preserved c = let d = sym c.decode.ensures ∙ c.in-Some.is in
    let f = scalar_fits _ _ d in (
      omega (arith, c.space.invariant.0),
      sym (space-on _ _ d (sym c.is_ecmascript_whitespace.ensures ∙ c.if-not-is_ecmascript_whitespace.false)) ∙ c.space.invariant.1,
    )

pub returns-then-ne : goal.returns-then-ne
returns-then-ne c = let d = sym c.decode.ensures ∙ c.in-Some.is in (
  omega (arith, c.space.invariant.0, c.trivia.invariant.0),
  sym c.space.invariant.1,
  settled-other _ _ d (sym c.is_ecmascript_whitespace.ensures ∙ c.if-not-is_ecmascript_whitespace.true) (ne_yes _ _ c.peek.ensures (omega arith) c.ne.ensures c.if-ne.true),
)

pub overflow_add-cursor-in-trivia : goal.overflow_add-cursor-in-trivia
overflow_add-cursor-in-trivia c = let f = (next-head _ _ 0x2F (omega arith) (omega arith) (ne_no _ _ c.peek.ensures (omega arith) c.ne.ensures c.if-ne.false)).inside in omega arith

pub overflow_add-cursor-then-eq : goal.overflow_add-cursor-then-eq
overflow_add-cursor-then-eq c = let f = (next-head _ _ 0x2F (omega arith) (omega arith) (eq_yes _ _ c.peek-d.ensures (omega arith) c.eq.ensures c.if-eq.true)).inside in omega arith

pub line-init : goal.line-init
line-init c = let f = (next-head _ _ 0x2F (omega arith) (omega arith) (eq_yes _ _ c.peek-d.ensures (omega arith) c.eq.ensures c.if-eq.true)).inside in (
  omega (arith, c.space.invariant.0),
  omega arith,
  sym (line-start _ _ (next-head _ _ 0x2F (omega arith) (omega arith) (ne_no _ _ c.peek.ensures (omega arith) c.ne.ensures c.if-ne.false)) (next-head _ _ 0x2F (omega arith) (omega arith) (eq_yes _ _ c.peek-d.ensures (omega arith) c.eq.ensures c.if-eq.true))) ∙ c.space.invariant.1,
)

pub trivia-preserved-in_default-decode : goal.trivia-preserved-in_default-decode
trivia-preserved-in_default-decode c = (
  omega (arith, c.line.invariant.0, c.space.invariant.0, c.trivia.invariant.0),
  ap (tokens_at _) (sym (run-ill not_terminator _ _ (sym c.decode-in-line.ensures ∙ c.in_default-decode.is))) ∙ c.line.invariant.2,
)

pub trivia-preserved-then-is_line_terminator : goal.trivia-preserved-then-is_line_terminator
trivia-preserved-then-is_line_terminator c = let d₂ = sym c.decode-in-line.ensures ∙ c.in-Some-decode.is in (
  omega (arith, c.line.invariant.0, c.space.invariant.0, c.trivia.invariant.0),
  ap (tokens_at _) (sym (run_off not_terminator _ _ d₂ (rw (sym c.is_line_terminator.ensures ∙ c.if-is_line_terminator.true)))) ∙ c.line.invariant.2,
)

pub overflow_add-cursor-in-line : goal.overflow_add-cursor-in-line
overflow_add-cursor-in-line c = let d₂ = sym c.decode-in-line.ensures ∙ c.in-Some-decode.is in
    let f = scalar_fits _ _ d₂ in
    omega arith

pub line-smaller : goal.line-smaller
line-smaller c = let d₂ = sym c.decode-in-line.ensures ∙ c.in-Some-decode.is in
    let f = scalar_fits _ _ d₂ in
    omega arith

pub line-preserved : goal.line-preserved
line-preserved c = let d₂ = sym c.decode-in-line.ensures ∙ c.in-Some-decode.is in
    let f = scalar_fits _ _ d₂ in (
      omega (arith, c.line.invariant.0),
      omega arith,
      ap (tokens_at _) (sym (run_on not_terminator _ _ d₂ (rw (sym c.is_line_terminator.ensures ∙ c.if-is_line_terminator.false)))) ∙ c.line.invariant.2,
    )

pub returns-then-ne-2 : goal.returns-then-ne-2
returns-then-ne-2 c = let d = sym c.decode.ensures ∙ c.in-Some.is in (
  omega (arith, c.space.invariant.0, c.trivia.invariant.0),
  sym c.space.invariant.1,
  settled_slash _ _ d (sym c.is_ecmascript_whitespace.ensures ∙ c.if-not-is_ecmascript_whitespace.true) (ne_no _ _ c.peek.ensures (omega arith) c.ne.ensures c.if-ne.false) (eq_no _ _ c.peek-d.ensures (omega arith) c.eq.ensures c.if-eq.false) (ne_yes _ _ c.peek-d.ensures (omega arith) c.ne-in-trivia.ensures c.if-ne-2.true),
)

pub overflow_add-cursor-in-trivia-2 : goal.overflow_add-cursor-in-trivia-2
overflow_add-cursor-in-trivia-2 c = let f = (next-head _ _ 0x2A (omega arith) (omega arith) (ne_no _ _ c.peek-d.ensures (omega arith) c.ne-in-trivia.ensures c.if-ne-2.false)).inside in
    omega arith

pub block-init : goal.block-init
block-init c = let f = (next-head _ _ 0x2A (omega arith) (omega arith) (ne_no _ _ c.peek-d.ensures (omega arith) c.ne-in-trivia.ensures c.if-ne-2.false)).inside in (
  omega (arith, c.space.invariant.0),
  omega arith,
  sym (block_start _ _ (next-head _ _ 0x2F (omega arith) (omega arith) (ne_no _ _ c.peek.ensures (omega arith) c.ne.ensures c.if-ne.false)) (next-head _ _ 0x2A (omega arith) (omega arith) (ne_no _ _ c.peek-d.ensures (omega arith) c.ne-in-trivia.ensures c.if-ne-2.false))) ∙ c.space.invariant.1,
)

pub returns-in_default-decode-2 : goal.returns-in_default-decode-2
returns-in_default-decode-2 c = sym c.block.invariant.2 ∙ block-end _ _ _ (sym c.decode-in-block.ensures ∙ c.in_default-decode-2.is)

pub overflow_add-cursor-in-block : goal.overflow_add-cursor-in-block
overflow_add-cursor-in-block c = let f = scalar_fits _ _ (sym c.decode-in-block.ensures ∙ c.in-Some-decode-2.is) in omega arith

pub overflow_add-cursor-then-eq-2 : goal.overflow_add-cursor-then-eq-2
overflow_add-cursor-then-eq-2 c = let f = shut_inside _ _ (eq_yes _ _ c.peek-then-e-eq42.ensures (omega arith) c.eq-then-e-eq42.ensures c.if-eq-2.true) in omega arith

pub trivia-preserved : goal.trivia-preserved
trivia-preserved c = let d₃ = sym c.decode-in-block.ensures ∙ c.in-Some-decode-2.is in
    let f = scalar_fits _ _ d₃ in
    let g = shut_inside _ _ (eq_yes _ _ c.peek-then-e-eq42.ensures (omega arith) c.eq-then-e-eq42.ensures c.if-eq-2.true) in (
      omega (arith, c.block.invariant.0, c.space.invariant.0, c.trivia.invariant.0),
      sym (block_shut _ _ _ d₃ c.if-e-eq42.true (eq_yes _ _ c.peek-then-e-eq42.ensures (omega arith) c.eq-then-e-eq42.ensures c.if-eq-2.true)) ∙ c.block.invariant.2,
    )

pub block-smaller-else-eq-2 : goal.block-smaller-else-eq-2
block-smaller-else-eq-2 c = let d₃ = sym c.decode-in-block.ensures ∙ c.in-Some-decode-2.is in
    let f = scalar_fits _ _ d₃ in
    omega arith

pub block-preserved-else-eq-2 : goal.block-preserved-else-eq-2
block-preserved-else-eq-2 c = let d₃ = sym c.decode-in-block.ensures ∙ c.in-Some-decode-2.is in
    let f = scalar_fits _ _ d₃ in (
      omega (arith, c.block.invariant.0),
      omega arith,
      sym (block_star _ _ _ d₃ (eq_no _ _ c.peek-then-e-eq42.ensures (omega arith) c.eq-then-e-eq42.ensures c.if-eq-2.false)) ∙ c.block.invariant.2,
    )

pub block-smaller : goal.block-smaller
block-smaller c = let d₃ = sym c.decode-in-block.ensures ∙ c.in-Some-decode-2.is in
    let f = scalar_fits _ _ d₃ in
    omega arith

pub block-preserved-then-is_passed : goal.block-preserved-then-is_passed
block-preserved-then-is_passed c = let p = c.is_passed.ensures c.if-is_passed.true in (
  omega (arith, c.block.invariant.0),
  omega arith,
  sym (block-other _ _ _ (ascii-at _ _ p.0 p.1) (eqb-false _ _ p.2)) ∙ c.block.invariant.2,
)

pub block-preserved : goal.block-preserved
block-preserved c = let d₃ = sym c.decode-in-block.ensures ∙ c.in-Some-decode-2.is in
    let f = scalar_fits _ _ d₃ in (
      omega (arith, c.block.invariant.0),
      omega arith,
      sym (block-other _ _ _ d₃ c.if-e-eq42.false) ∙ c.block.invariant.2,
    )
