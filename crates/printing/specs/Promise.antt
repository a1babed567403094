-- What the functions' contracts say beside the definitions.
-- Assumes nothing.
use Rattle.std.specs.Prelude.{ℕ, suc, ◌<◌, ◌^◌, List, [], length, take, Option, Result, IfOk}
use Rattle.std.specs.Io.KnownBytes.{Consumes, IsAtEnd}
use Rattle.output.specs.Promise.{Wrote}
use Rattle.grammar.specs.Program.{decimal_from}

-- what reading to the end takes of the bytes that an input has left, where those are known: as many as came, fewer than there is room for
-- only at the end
abbrev pub Fills : {E : Type 0} → (old new : Option (List ℕ)) → Result ℕ E → (buf : List ℕ) → Type 0
Fills old new r buf = IfOk r (λ n. Consumes old new (take n buf) × (n < length buf → IsAtEnd new))

-- the digits of v are written, however many are allowed
abbrev pub WroteDigits : (v : ℕ) → (old new : List ℕ) → (n : ℕ) → Type 0
WroteDigits v old new n = (k : ℕ) → v < 10 ^ suc k → Wrote (decimal_from (suc k) v []) old new n
