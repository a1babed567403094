use Prim.Native.Nat.{◌-◌, ◌≤◌}
use lib.ListN.{length}
use Rattle.tree.proofs.Trees.{Grown, grown_of}
use Rattle.tree.proofs.Tree.is_tree.Given as goal

abbrev pub invariant-loop-i : goal.invariant-loop-i
invariant-loop-i l = record {
  room : l.at ≤ length l.self.texts.now;
  grown : Grown l.self.records.now l.self.texts.now (l.n - l.i) l.i l.depth l.at (grown_of l.self.records.now l.self.texts.now l.n);
}
