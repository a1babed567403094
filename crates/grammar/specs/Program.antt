-- What the program `normal` prints for a text.
-- Assumes nothing.
use Rattle.std.specs.Prelude.{ℕ, zero, suc, ◌+◌, ◌/◌, ◌%◌, true, false, List, ◌∷◌, ◌++◌, ltb, take, replicate}
use Prim.Native.Char.{code}
use Rattle.basics.specs.Basics.{letters}
use Rattle.error.specs.Lines.{Refusal}
use Rattle.grammar.specs.Calls.{NormalAnswer, written, refused, NormalOutcome, normal}

-- n in decimal, and then the rest; at most so many digits
unfoldable pub decimal_from : (digits n : ℕ) → List ℕ → List ℕ
decimal_from zero n rest = rest
decimal_from (suc k) n rest = elim (ltb n 10) [ true ↦ (code "0" + n) ∷ rest | false ↦ decimal_from k (n / 10) ((code "0" + n % 10) ∷ rest) ]

-- n in decimal, and then the rest. A number of the code has at most 20 digits
abbrev pub decimal : ℕ → List ℕ → List ℕ
decimal n rest = decimal_from 20 n rest

-- `refused N at P line L column C` and a line feed
unfoldable pub refusal_line : Refusal → List ℕ
unfolding decimal_from
refusal_line r =
    letters "refused " ++ decimal r.cause (letters " at " ++ decimal r.place (letters " line " ++ decimal r.line
    (letters " column " ++ decimal r.column (letters "\n"))))

-- the normal text, which stands at the front of the output, or the line of the refusal
abbrev pub printed_by : NormalAnswer → (output : List ℕ) → List ℕ
printed_by (written n) output = take n output
printed_by (refused r) output = refusal_line r

-- it lends 14,000 record words, 32,768 text bytes and 65,535 output bytes
abbrev pub outcome : (text : List ℕ) → NormalOutcome
outcome text = normal text (replicate 14000 0) (replicate 32768 0) (replicate 65535 0)

-- what it prints
unfoldable pub printed : List ℕ → List ℕ
unfolding normal refusal_line
printed text = printed_by (outcome text).answer (outcome text).output
