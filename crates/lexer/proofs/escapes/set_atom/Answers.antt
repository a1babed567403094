-- `lexer::escapes::set_atom` meets its contract. Assumes nothing.
use native.Mathlib.Omega.{arith}
use mathlib.Core.Path.{sym, ◌∙◌}
use Rattle.lexer.proofs.Escaped.{atom-none, atom-plain, atom-lone, atom-escape}
use Rattle.characters.proofs.Laws.{scalar_fits}
use Rattle.lexer.proofs.escapes.set_atom.Goals as goal

pub returns-in_err-c : goal.returns-in_err-c
returns-in_err-c c = rw c.from_residual.ensures (atom-none _ _ (sym c.decode.ensures ∙ c.in_err-c.was))

pub overflow_add-next : goal.overflow_add-next
overflow_add-next c = let f = scalar_fits _ _ (sym c.decode.ensures ∙ c.in_ok-c.was) in omega arith

pub returns-then-c-ne92 : goal.returns-then-c-ne92
returns-then-c-ne92 c = atom-plain _ _ (sym c.decode.ensures ∙ c.in_ok-c.was) c.if-c-ne92.true

pub returns-in_err-e : goal.returns-in_err-e
returns-in_err-e c = let d = sym c.decode.ensures ∙ c.in_ok-c.was in
    rw c.from_residual-in_err-e.ensures (atom-lone _ _ d c.if-c-ne92.false (sym c.decode-2.ensures ∙ c.in_err-e.was))

pub overflow_add-next-2 : goal.overflow_add-next-2
overflow_add-next-2 c = let g = scalar_fits _ _ (sym c.decode-2.ensures ∙ c.in_ok-e.was) in omega arith

pub returns : goal.returns
returns c = let d = sym c.decode.ensures ∙ c.in_ok-c.was in
    let d₂ = sym c.decode-2.ensures ∙ c.in_ok-e.was in
    atom-escape _ _ d c.if-c-ne92.false _ _ _ _ d₂ c.decode_escape-code.ensures
