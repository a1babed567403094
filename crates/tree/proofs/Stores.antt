-- Records and texts stored where they fit.
-- Assumes nothing.
use Prim.Native.Nat.{ℕ, ◌+◌, ◌-◌, ◌≤◌}
use native.Mathlib.Omega.{arith}
use mathlib.Core.Path.{◌≡◌, sym}
use mathlib.Core.List.{List, append_assoc}
use lib.ListN.{length, take, drop}
use lib.Seq.{paste, take_all}
use borrow.Rule.Slice.PartMut.{put_mid, Post-is}
use Rattle.characters.specs.Promise.{written}
use Rattle.characters.proofs.Written.{written_in}

-- what is copied over a part of the whole
pub stored : (l bs : List ℕ) (at : ℕ) → at ≤ length l → length bs ≤ length l - at → put_mid at (at + length bs - at) l bs ≡ written l at bs
stored l bs at h i = rw (Post-is at (at + length bs) l (omega arith), ← append_assoc (take at l) bs (drop (at + length bs) l)) (sym (written_in l at bs (omega arith)))

-- byte after byte, all of them
pub pasted : (l s : List ℕ) (at n : ℕ) → n ≡ length s → at + length s ≤ length l → paste l at s n ≡ written l at s
pasted l s at n e h = rw (written_in l at s h, e, take_all (length s) s (omega arith))
