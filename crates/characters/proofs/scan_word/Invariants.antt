use Prim.Native.Nat.{◌-◌}
use mathlib.Core.Path.{◌≡◌}
use lib.ListN.{length}
use Rattle.characters.specs.Classes.{is_word}
use Rattle.characters.specs.Promise.{run_end}
use Rattle.characters.proofs.scan_word.Given as goal

abbrev pub invariant-loop-c : goal.invariant-loop-c
invariant-loop-c l = run_end is_word l.text l.at ≡ run_end is_word l.text l.from

abbrev pub decreases-loop-c : goal.decreases-loop-c
decreases-loop-c l = length l.text - l.at
