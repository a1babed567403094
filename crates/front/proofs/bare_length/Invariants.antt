-- So many bytes were no line feed, and the rest is counted on.
use Rattle.std.proofs.Common.{◌≡◌, ◌+◌, length, drop}
use Rattle.front.specs.Differences.{bare_line}
use Rattle.front.proofs.bare_length.Given as goal

abbrev pub invariant-loop-byte : goal.invariant-loop-byte
invariant-loop-byte l = record { at : l.n ≡ l.byte-index; counts : length (bare_line l.line) ≡ l.n + length (bare_line (drop l.n l.line)) }
