-- What a read into the rest of a buffer leaves.
-- Assumes nothing.
use Rattle.std.proofs.Common.{◌≡◌, ℕ, ◌+◌, ◌-◌, ◌≤◌, List, ◌++◌, Option, length, take, refl, sym, subst, drop_at, arith, length-take-le}
use lib.Seq.{take-add, take-append-le}
use borrow.Rule.Slice.PartMut.{put_mid, post_of}
use Rattle.std.proofs.lemmas.Slice.{take-put_mid_below}
use Rattle.std.specs.Io.KnownBytes.{Consumes}
use Rattle.std.proofs.KnownBytes.{Consumes-trans}

-- the bytes that came first, and then those that came now
front : (n m : ℕ) (buf part : List ℕ) → n ≤ length buf → m ≤ length part → take (n + m) (put_mid n (length buf - n) buf part) ≡ take n buf ++ take m part
front n m buf part within fits =
    let rest = part ++ post_of n (length buf - n) buf in
    rw (take-add n m (take n buf ++ rest), take-put_mid_below n (length buf - n) buf part n (omega arith) within, drop_at (take n buf) rest n (length-take-le n buf within), take-append-le m part (post_of n (length buf - n) buf) fits) refl

pub taken-more : (n m : ℕ) (buf part : List ℕ) → n ≤ length buf → m ≤ length part → (a b c : Option (List ℕ)) → Consumes a b (take n buf) → Consumes b c (take m part)
    → Consumes a c (take (n + m) (put_mid n (length buf - n) buf part))
taken-more n m buf part within fits a b c before now = subst (Consumes a c) (sym (front n m buf part within fits)) (Consumes-trans a b c (take n buf) (take m part) before now)
