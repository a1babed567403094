-- A text measured over no bytes, and then written.
-- Assumes nothing.
use mathlib.Core.Path.{◌≡◌, ◌∙◌, ap}
use mathlib.Core.Bool.{true, false, or-true}
use mathlib.Core.List.{List, ◌++◌}
use Prim.Native.Nat.{ℕ, ◌≤◌, ◌<◌}
use native.Mathlib.Omega.{arith}
use lib.Dec.{ltb}
use lib.ListN.{length, take}
use borrow.Author.Tests.{lt-ltb, le-ltb}
use Rattle.output.specs.Promise.{Wrote}
use Rattle.basics.proofs.Lists.{front-none}
use Rattle.std.proofs.Common.{Ok, Err}
use Rattle.writer.specs.Promise.{too_long, WroteWithin}

module _ {t ys : List ℕ} {n : ℕ} (xs : List ℕ) (w : Wrote t (take 0 xs) ys n) where
  -- what was measured over is as it was
  untouched : ys ++ xs ≡ xs
  untouched = front-none ys xs w.same

  pub over-limit : {limit : ℕ} → limit < n → WroteWithin limit t xs (ys ++ xs) (Err (record {}))
  over-limit {limit} h =
      let c = w.counts in
      let e : too_long limit t xs ≡ true = rw (lt-ltb limit (length t) (omega arith)) in
      record { answer = rw e; output = rw e untouched }

  pub over-output : {limit : ℕ} → length xs < n → WroteWithin limit t xs (ys ++ xs) (Err (record {}))
  over-output {limit} h =
      let c = w.counts in
      let e : too_long limit t xs ≡ true = rw (lt-ltb (length xs) (length t) (omega arith)) (or-true (ltb limit (length t))) in
      record { answer = rw e; output = rw e untouched }

  pub within_both : {zs : List ℕ} {m limit : ℕ} → n ≤ limit → n ≤ length xs → Wrote t (ys ++ xs) zs m → WroteWithin limit t xs zs (Ok m)
  within_both {limit = limit} h k v =
      let c = w.counts in
      let d = v.counts in
      let l = ap length untouched in
      let e : too_long limit t xs ≡ false = rw (le-ltb limit (length t) (omega arith), le-ltb (length xs) (length t) (omega arith)) in
      record { answer = rw (e, d); output = rw e (v.holds (omega arith) ∙ rw (d, untouched)) }
