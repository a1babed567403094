-- `characters::scan_word` meets its contract. Assumes nothing.
use mathlib.Core.Path.{sym, ◌∙◌}
use Rattle.characters.proofs.Laws.{scalar_fits}
use Rattle.characters.proofs.Runs.{run_on, run_off, run-ill}
use native.Mathlib.Omega.{arith}
use Rattle.characters.proofs.scan_word.Goals as goal

pub returns-in_default : goal.returns-in_default
returns-in_default c = sym (run-ill _ _ _ (sym c.decode.ensures ∙ c.in_default.is)) ∙ c.loop-c.invariant

pub returns-then-not-is_word : goal.returns-then-not-is_word
returns-then-not-is_word c = sym (run_off _ _ _ (sym c.decode.ensures ∙ c.in-Some.is) (sym c.is_word.ensures ∙ c.if-not-is_word.true)) ∙ c.loop-c.invariant

pub overflow_add-at : goal.overflow_add-at
overflow_add-at c = let f = scalar_fits _ _ (sym c.decode.ensures ∙ c.in-Some.is) in omega arith

pub loop-c-smaller : goal.loop-c-smaller
loop-c-smaller c = let f = scalar_fits _ _ (sym c.decode.ensures ∙ c.in-Some.is) in omega arith

pub loop-c-preserved : goal.loop-c-preserved
loop-c-preserved c = sym (run_on _ _ _ (sym c.decode.ensures ∙ c.in-Some.is) (sym c.is_word.ensures ∙ c.if-not-is_word.false)) ∙ c.loop-c.invariant
