use mathlib.Core.Path.{◌≡◌}
use Prim.Native.Nat.{◌<◌}
use Rattle.lexer.specs.Promise.{until_at}
use Rattle.lexer.proofs.escapes.decode_hex_scalar.Given as goal

abbrev pub invariant-loop-at : goal.invariant-loop-at
invariant-loop-at l = (l.v < 0x110000) × (until_at l.v l.body l.at ≡ until_at 0 l.body l.from)
