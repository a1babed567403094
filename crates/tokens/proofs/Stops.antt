-- The refusal that `?` hands on.
-- Assumes nothing.
use mathlib.Core.Path.{◌≡◌, ap}
use Rattle.std.specs.Prelude.{Result, Ok, Err, IsErrAnd}

-- is the one that was handed to it
pub stopped : {T E : Type 0} {e : E} (r : Result T E) → IsErrAnd r (λ y. y ≡ e) → r ≡ Err e
stopped (Ok x) h = absurd h
stopped (Err y) h = ap (λ z. Err z) h
