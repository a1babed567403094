-- The answers of the calls as the struct that a C caller gets, and what the exported calls come to.
-- Assumes nothing.
use Rattle.std.specs.Prelude.{ℕ, ◌≡◌, List}
use Rattle.error.specs.Lines.{Refusal}
use Rattle.tree.specs.Stored.{flag}
use Rattle.grammar.specs.Calls.{ReadAnswer, stored, read, measure, NormalAnswer, written, normal, CompareAnswer, compared, compare}
use Rattle.hemvuda.specs.declared.Answer.{Answer}

-- ------------------------------------------------------------------ answers

-- a refusal: its cause, place, line and column, and nothing said
abbrev pub refusal_answer : Refusal → Answer
refusal_answer r = record { cause = r.cause; place = r.place; line = r.line; column = r.column; first = 0; second = 0; third = 0 }

-- no refusal, and what is said
abbrev pub said_answer : (first second : ℕ) → Answer
said_answer n m = record { cause = 0; place = 0; line = 0; column = 0; first = n; second = m; third = 0 }

-- how many words and bytes the tree takes
abbrev pub read_answer_of : ReadAnswer → Answer
read_answer_of (stored words bytes) = said_answer words bytes
read_answer_of (ReadAnswer.refused r) = refusal_answer r

-- how many bytes the normal text has
abbrev pub normal_answer_of : NormalAnswer → Answer
normal_answer_of (written bytes) = said_answer bytes 0
normal_answer_of (NormalAnswer.refused r) = refusal_answer r

-- 1 for equal
abbrev pub compare_answer_of : CompareAnswer → Answer
compare_answer_of (compared equal) = said_answer (flag equal) 0
compare_answer_of (CompareAnswer.refused r) = refusal_answer r

-- ------------------------------------------------------------------ what the calls come to

-- what a text comes to where it is asked how much its tree takes
abbrev pub MeasuresTo : (text : List ℕ) → Answer → Type 0
MeasuresTo s a = a ≡ read_answer_of (measure s)

-- what a text comes to where its tree is asked for
abbrev pub ReadsTo : (text records texts : List ℕ) → Answer → (records_after texts_after : List ℕ) → Type 0
ReadsTo s rs ts a rs₁ ts₁ = (a ≡ read_answer_of (read s rs ts).answer) × (rs₁ ≡ (read s rs ts).records) × (ts₁ ≡ (read s rs ts).texts)

-- what a text comes to where its normal text is asked for
abbrev pub WritesTo : (text records texts output : List ℕ) → Answer → (records_after texts_after output_after : List ℕ) → Type 0
WritesTo s rs ts out a rs₁ ts₁ out₁ =
    (a ≡ normal_answer_of (normal s rs ts out).answer) × (rs₁ ≡ (normal s rs ts out).records) × (ts₁ ≡ (normal s rs ts out).texts)
    × (out₁ ≡ (normal s rs ts out).output)

-- what two trees come to
abbrev pub ComparesTo : (left_records left_texts right_records right_texts : List ℕ) → Answer → Type 0
ComparesTo ls lts rs rts a = a ≡ compare_answer_of (compare ls lts rs rts)
