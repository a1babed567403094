-- Writes one after another, of which the last may fail.
-- Assumes nothing.
use Rattle.std.proofs.Common.{◌≡◌, ℕ, List, ◌++◌, Option, Result, Ok, Err, OnOk}
use Rattle.std.specs.Io.KnownBytes.{Appends}
use Rattle.std.proofs.KnownBytes.{Appends-trans}

module _ {T E : Type 0} (r : Result T E) (a b c : Option (List ℕ)) where
  pub then-last : (bs cs all : List ℕ) → all ≡ bs ++ cs → Appends a b bs → OnOk r (Appends b c cs) → OnOk r (Appends a c all)
  then-last bs cs all e p q = by r q
    where
      by : (s : Result T E) → OnOk s (Appends b c cs) → OnOk s (Appends a c all)
      by (Ok x) h = rw e (Appends-trans a b c bs cs p h)
      by (Err x) h = tt
