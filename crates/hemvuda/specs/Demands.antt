-- What is demanded of the calls holds of the exported ones: where an answer is no refusal, the promise of the call below holds with the
-- numbers that are answered, and so does whatever `calls/specs/Demands.antt` says of all that keeps that promise.
-- Assumes nothing.
use Rattle.std.specs.Prelude.{ℕ, List, Ok}
use Rattle.calls.specs.Promise.{ReadTo, NormalTo}
use Rattle.calls.specs.Demands.{OwnAgain}
use Rattle.hemvuda.specs.declared.Answer.{Answer}

-- `read` has stored a tree of so many words and bytes
abbrev pub KeepsRead : (text records texts : List ℕ) → Answer → (records_after texts_after : List ℕ) → Type 0
KeepsRead s rs ts a rs₁ ts₁ = ReadTo s rs ts (Ok (record { words = a.first; bytes = a.second })) rs₁ ts₁

-- `normal_text` has written so many bytes, and they are read back
abbrev pub KeepsNormal : (text records texts output : List ℕ) → Answer → (records_after texts_after output_after : List ℕ) → Type 0
KeepsNormal s rs ts out a rs₁ ts₁ out₁ = NormalTo s rs ts out (Ok a.first) rs₁ ts₁ out₁ × OwnAgain s rs ts out (Ok a.first) out₁
