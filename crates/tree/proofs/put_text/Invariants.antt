-- The first i bytes are copied.
use Prim.Native.Nat.{◌+◌, ◌≤◌}
use mathlib.Core.Path.{◌≡◌}
use lib.ListN.{length}
use lib.Seq.{paste}
use Rattle.tree.proofs.put_text.Given as goal

abbrev pub invariant-loop-i : goal.invariant-loop-i
invariant-loop-i l = (l.i ≤ length l.text) × (l.at + length l.text ≤ length l.initial.texts) × (l.texts ≡ paste l.initial.texts l.at l.text l.i)
