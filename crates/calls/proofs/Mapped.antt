-- What holds of a result whose error is replaced, from what held of it before.
-- Assumes nothing.
use mathlib.Core.Path.{◌≡◌, sym, subst}
use Rattle.std.specs.Prelude.{Result, Ok, Err}
use Rattle.std.specs.Result.{MatchResult, IsErrAnd}

pub with_other_error : {X E F : Type 0} {Q : E → F → Type 0} (P : Result X E → Type 0) (G : Result X F → Type 0) (o : Result X E) (r : Result X F)
    → MatchResult o (λ x. r ≡ Ok x) (λ e. IsErrAnd r (Q e)) → ((x : X) → P (Ok x) → G (Ok x)) → ((e : E) (f : F) → Q e f → P (Err e) → G (Err f)) → P o → G r
with_other_error P G (Ok x) r m g h p = subst G (sym m) (g x p)
with_other_error P G (Err e) (Err f) m g h p = h e f m p
with_other_error P G (Err e) (Ok x) m g h p = absurd m
