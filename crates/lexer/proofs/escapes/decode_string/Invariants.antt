use Prim.Native.Nat.{◌-◌}
use lib.ListN.{length}
use Rattle.lexer.proofs.Escaped.{Decoding}
use Rattle.lexer.proofs.escapes.decode_string.Given as goal

abbrev pub invariant-loop-c : goal.invariant-loop-c
invariant-loop-c l = Decoding l.body l.initial.out l.out l.cursor l.n

abbrev pub decreases-loop-c : goal.decreases-loop-c
decreases-loop-c l = length l.body - l.cursor
