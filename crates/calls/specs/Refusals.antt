-- "One numbered refusal with its place": which numbers a call gives, where a refusal stands, and that all lent memory is as it was. Statements
-- only; their proofs are in `proofs/Refusals.antt`.
-- Assumes nothing.
use Rattle.std.specs.Prelude.{ℕ, ◌≤◌, ◌≡◌, List, Err, length}
use Rattle.error.specs.Causes.{too_long, overlapping_span, texts_full, output_full, not_a_tree}
use Rattle.error.specs.Lines.{line_at, column_at}
use Rattle.error.specs.Promise.{cause_number}
use Rattle.error.specs.declared.Refusal.{Refusal}
use Rattle.calls.specs.Promise.{MeasureTo, ReadTo, NormalTo, CompareTo}

-- the number is one of the table's up to the last that the call gives, the place the text's length at most, and line and column are its
pub record Refuses (last : ℕ) (s : List ℕ) (f : Refusal) : Type 0 where
  pub number : (too_long ≤ cause_number f.cause) × (cause_number f.cause ≤ last)
  pub place : f.place ≤ length s
  pub line : f.line ≡ line_at s f.place
  pub column : f.column ≡ column_at s f.place

-- `measure` refuses by 1 to 21.
abbrev pub MeasureRefuses : Type 0
MeasureRefuses = (s : List ℕ) (f : Refusal) → MeasureTo s (Err f) → Refuses overlapping_span s f

-- `read` refuses by 1 to 23, and records and texts are as they were.
abbrev pub ReadRefuses : Type 0
ReadRefuses = (s ws ts : List ℕ) (f : Refusal) (vs us : List ℕ) → ReadTo s ws ts (Err f) vs us → Refuses texts_full s f × (vs ≡ ws) × (us ≡ ts)

-- `normal_text` refuses by 1 to 24, and the output is as it was.
abbrev pub NormalTextRefuses : Type 0
NormalTextRefuses =
    (s ws ts out : List ℕ) (f : Refusal) (vs us new : List ℕ) → NormalTo s ws ts out (Err f) vs us new → Refuses output_full s f × (new ≡ out)

-- `structurally_eq` refuses by 25, at place 0, which is line 1 and column 0.
abbrev pub StructurallyEqRefuses : Type 0
StructurallyEqRefuses =
    (ls lts rs rts : List ℕ) (f : Refusal) → CompareTo ls lts rs rts (Err f)
    → (cause_number f.cause ≡ not_a_tree) × (f.place ≡ 0) × (f.line ≡ 1) × (f.column ≡ 0)
