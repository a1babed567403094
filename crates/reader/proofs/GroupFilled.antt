-- Groups that were filled in at places one after another are written from a place on.
-- Assumes nothing.
use Prim.Native.Nat.{ℕ, zero, suc, ◌+◌, ◌-◌, ◌≤◌, ◌<◌}
use native.Mathlib.Omega.{arith}
use native.Mathlib.Decide.{dec_lt}
use mathlib.Core.Path.{◌≡◌, refl, ap, sym, ◌∙◌}
use mathlib.Core.List.{List, [], ◌++◌}
use lib.ListN.{length, get_or}
use lib.Seq.{ext_get_or}
use Rattle.characters.specs.Promise.{written}
use Rattle.characters.proofs.Written.{length-written}
use Rattle.tree.specs.Records.{Node, texts_of}
use Rattle.reader.specs.Places.{Holds, HoldsAll, Filled}
use Rattle.reader.proofs.Filling.{Put, written-holds, written-before, written_behind}
use Rattle.reader.proofs.GroupPlaces.{Coding, size_none, front_less, group_held, front-more}

-- the first groups together, and each of them, from a place in the list and one in the bytes on
module _ (c : Coding) (first group : ℕ → List Node) (count : ℕ) (none : first 0 ≡ []) (on : (i : ℕ) → i < count → first (suc i) ≡ first i ++ group i) (at from : ℕ) (ps qs : List ℕ)
    (places : (g : ℕ) → g < count → get_or ps g 0 ≡ at + c.size (first g)) (froms : (g : ℕ) → g < count → get_or qs g 0 ≡ from + length (texts_of (first g))) where
  -- a whole that holds them all holds each
  each-held : {whole : List ℕ} → Holds whole at (c.code from (first count)) → HoldsAll whole count ps (λ g. c.code (get_or qs g 0) (group g))
  each-held {whole} h g l =
      let e : suc g + (count - suc g) ≡ count = omega arith in
      let f = front_less c first group count none on at from whole (count - suc g) (suc g) (omega arith) (rw e h) in
      rw (places g l, froms g l) (group_held c first group count none on at from whole g l f)

  -- and back
  fronts : {whole : List ℕ} → at ≤ length whole → HoldsAll whole count ps (λ g. c.code (get_or qs g 0) (group g)) → (i : ℕ) → i ≤ count → Holds whole at (c.code from (first i))
  fronts {whole} w all zero h =
      let s = c.sized from (first 0) in
      let n = ap c.size none ∙ size_none c in
      record { within = omega arith; is = λ i q. absurd (omega arith) }
  fronts {whole} w all (suc i) h =
      let a : Holds whole (at + c.size (first i)) (c.code (from + length (texts_of (first i))) (group i)) = rw (places i (omega arith), froms i (omega arith)) at (all i (omega arith)) in
      front-more c first group count none on at from whole i (omega arith) (fronts w all i (omega arith)) a

  pub groups-written : {ws vs : List ℕ} → at + c.size (first count) ≤ length ws → Filled count ps (λ g. c.code (get_or qs g 0) (group g)) ws vs → vs ≡ written ws at (c.code from (first count))
  groups-written {ws} {vs} fit f = ext_get_or 0 vs whole same_end (λ j q. go j (dec_lt j at) (dec_lt j (at + length (c.code from (first count)))))
    where
      whole : List ℕ
      whole = written ws at (c.code from (first count))

      same_whole : length whole ≡ length ws
      same_whole = length-written ws at (c.code from (first count))

      put : Put ws whole at (c.code from (first count))
      put = record { same = same_whole; put = λ h. refl }

      fits : at + length (c.code from (first count)) ≤ length ws
      fits = let s = c.sized from (first count) in omega arith

      held : Holds whole at (c.code from (first count))
      held = written-holds put fits

      same_end : length vs ≡ length whole
      same_end = let a = f.same in let b = same_whole in omega arith

      ended : Holds vs at (c.code from (first count))
      ended = let a = f.same in fronts (omega arith) (f.filled whole same_whole (each-held held)) count (omega arith)

      go : (j : ℕ) → Dec (j < at) → Dec (j < at + length (c.code from (first count))) → get_or vs j 0 ≡ get_or whole j 0
      go j (yes a) b = f.kept whole same_whole (each-held held) j (sym (written-before put fits j a))
      go j (no a) (yes b) =
          let e : j ≡ at + (j - at) = omega arith in
          ap (λ (n : ℕ). get_or vs n 0) e ∙ ended.is (j - at) (omega arith) ∙ sym (held.is (j - at) (omega arith)) ∙ ap (λ (n : ℕ). get_or whole n 0) (sym e)
      go j (no a) (no b) = f.kept whole same_whole (each-held held) j (sym (written_behind put fits j (omega arith)))
