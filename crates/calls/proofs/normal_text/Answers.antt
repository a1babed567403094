-- `normal_text` meets its contract.
-- Assumes nothing.
use Rattle.calls.proofs.NormalLaws.{kept, kept-inside, kept-part, kept-stored, normal-refused, normal-kept}
use Prim.Native.Nat.{ℕ}
use mathlib.Core.List.{List}
use Rattle.std.specs.Prelude.{Result}
use Rattle.error.specs.declared.Refusal.{Refusal}
use Rattle.tokens.proofs.Stops.{stopped}
use Rattle.calls.specs.Promise.{NormalTo}
use Rattle.calls.specs.Demands.{Writes, OwnAgain}
use Rattle.calls.proofs.Demands.{normal-text-answers_as_defined, own-again}
use Rattle.calls.proofs.normal_text.Goals as goal

-- the call's contract, from what it comes to
module _ (s ws ts out : List ℕ) (r : Result ℕ Refusal) (vs us new : List ℕ) where
  demands : NormalTo s ws ts out r vs us new → Writes s ws ts out r vs us new × OwnAgain s ws ts out r new
  demands a = (normal-text-answers_as_defined s ws ts out r vs us new a, own-again s ws ts out r vs us new a)

pub returns-in_err-stored : goal.returns-in_err-stored
returns-in_err-stored c =
    let e = stopped c.from_residual.result c.from_residual.ensures.1 in
    let o = normal-refused _ _ _ _ _ c.args.output.now c.in_err-stored.field-0.0 c.in_err-stored.ensures.outcome in
    let d = demands _ _ _ _ _ _ _ _ o in
    record { outcome = rw e o; writes = rw e d.0; own = rw e d.1; few = c.in_err-stored.ensures.few }

pub slice_bounds-tree-end : goal.slice_bounds-tree-end
slice_bounds-tree-end c = kept-inside (kept _ _ _ _ _ c.in_ok-stored.stored c.in_ok-stored.ensures.outcome)

pub slice_bounds-tree-end-2 : goal.slice_bounds-tree-end-2
slice_bounds-tree-end-2 c = kept-part (kept _ _ _ _ _ c.in_ok-stored.stored c.in_ok-stored.ensures.outcome)

pub write-requires : goal.write-requires
write-requires c = kept-stored (kept _ _ _ _ _ c.in_ok-stored.stored c.in_ok-stored.ensures.outcome) c.in_ok-stored.ensures.few

pub returns : goal.returns
returns c =
    let o = normal-kept (kept _ _ _ _ _ c.in_ok-stored.stored c.in_ok-stored.ensures.outcome) c.in_ok-stored.ensures.few _ _ c.write.result c.write.ensures in
    let d = demands _ _ _ _ _ _ _ _ o in
    record { outcome = o; writes = d.0; own = d.1; few = c.in_ok-stored.ensures.few }
