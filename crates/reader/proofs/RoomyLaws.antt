-- From one place to the next where half of the room is left.
-- Assumes nothing.
use Prim.Native.Nat.{ℕ}
use native.Mathlib.Omega.{arith}
use mathlib.Core.List.{List}
use Rattle.tree.specs.Records.{Node}
use Rattle.parser.specs.Storing.{Lent}
use Rattle.parser.specs.Steps.{Onward, Lays, Ready}
use Rattle.lexer.specs.declared.Token.{Token}
use Rattle.reader.specs.Blocks.{Roomy}

module _ {s : List ℕ} {t : Token} {l : Lent} (r : Roomy s t l) where
  pub roomy_ready : Ready s t l
  roomy_ready = let a = r.room in let b = r.space in let c = r.small in record { lies = r.lies; small = omega arith; room = omega arith; space = omega arith }

  pub roomy_step : {u : Token} {i : ℕ} → Onward s t u i → Roomy s u l
  roomy_step o =
      let a = r.room in
      let b = r.space in
      let c = o.ahead in
      record { lies = o.lies; small = r.small; room = omega arith; space = omega arith }

  pub roomy_on : {u : Token} {i : ℕ} {m : Lent} {xs : List Node} → Onward s t u i → Lays s t u 0 xs l m → Roomy s u m
  roomy_on o y =
      let a = r.room in
      let b = r.space in
      let c = y.bound in
      let d = y.space in
      let e = y.stores.words-end in
      let f = y.stores.texts-end in
      record { lies = o.lies; small = r.small; room = omega arith; space = omega arith }
