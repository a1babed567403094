-- What the values of the code stand for, and what the calls promise.
-- Assumes nothing.
use Rattle.std.specs.Prelude.{ℕ, ◌≤◌, ◌≡◌, Bool, List, Result, Ok, Err, length}
use Rattle.error.specs.Promise.{cause_number, refusal_of}
use Rattle.error.specs.declared.Refusal.{Refusal}
use Rattle.error.specs.declared.Stop.{Stop}
use Rattle.reader.specs.declared.blocks.Extent.{Extent}
use Rattle.characters.specs.Utf8.{check}
use Rattle.grammar.specs.Calls as Calls
use Rattle.basics.specs.Basics.{over}
use Rattle.grammar.specs.Reading.{tree, stopped, reading, longest}
use Rattle.grammar.specs.Calls.{room_for, ReadOutcome, read, measure, words_enough, bytes_enough, NormalOutcome, write_by, normal, compare}
use Rattle.tree.specs.Syntax.{GrammarDeclaration}
use Rattle.tree.specs.Stored.{grammar_words, grammar_texts}
use Rattle.writer.specs.Promise.{Stored}

-- ------------------------------------------------------------------ answers of the code as those of the definitions

-- the answer of `read`
abbrev pub read_answer : Result Extent Refusal → Calls.ReadAnswer
read_answer (Ok r) = Calls.ReadAnswer.stored r.words r.bytes
read_answer (Err f) = Calls.ReadAnswer.refused (refusal_of f)

-- the answer of `normal_text`
abbrev pub normal_answer : Result ℕ Refusal → Calls.NormalAnswer
normal_answer (Ok n) = Calls.NormalAnswer.written n
normal_answer (Err f) = Calls.NormalAnswer.refused (refusal_of f)

-- the answer of `structurally_eq`
abbrev pub compare_answer : Result Bool Refusal → Calls.CompareAnswer
compare_answer (Ok b) = Calls.CompareAnswer.compared b
compare_answer (Err f) = Calls.CompareAnswer.refused (refusal_of f)

-- ------------------------------------------------------------------ what a call comes to

-- its answer, and what records and texts hold once it has returned
abbrev pub read_outcome : Result Extent Refusal → (records texts : List ℕ) → ReadOutcome
read_outcome r ws ts = record { answer = read_answer r; records = ws; texts = ts }

-- its answer, and what records, texts and output hold once it has returned
abbrev pub normal_outcome : Result ℕ Refusal → (records texts output : List ℕ) → NormalOutcome
normal_outcome r ws ts out = record { answer = normal_answer r; records = ws; texts = ts; output = out }

-- ------------------------------------------------------------------ what stops a reading, before its line is known

-- a text is no longer than it may be and UTF-8, or that stops its reading
abbrev pub CheckedTo : (text : List ℕ) → Result (Unit {0}) Stop → Type 0
CheckedTo s (Ok checked) = (length s ≤ longest) × (check s ≡ Ok tt)
CheckedTo s (Err e) = reading s ≡ stopped (cause_number e.cause) e.place

-- how much the tree of a text takes
pub record Sized (s : List ℕ) (r : Extent) : Type 0 where
  pub grammar : GrammarDeclaration ℕ
  pub is : reading s ≡ tree grammar
  pub words : r.words ≡ length (grammar_words grammar)
  pub bytes : r.bytes ≡ length (grammar_texts grammar)

-- or the text stops its reading
abbrev pub SizedTo : (text : List ℕ) → Result Extent Stop → Type 0
SizedTo s (Ok r) = Sized s r
SizedTo s (Err e) = reading s ≡ stopped (cause_number e.cause) e.place

-- the tree of a text is stored, and there was room for it
pub record Kept (s ws ts vs us : List ℕ) (r : Extent) : Type 0 where
  pub grammar : GrammarDeclaration ℕ
  pub is : room_for (length ws) (length ts) (reading s) ≡ tree grammar
  pub words : r.words ≡ length (grammar_words grammar)
  pub bytes : r.bytes ≡ length (grammar_texts grammar)
  pub records : vs ≡ over (grammar_words grammar) ws
  pub texts : us ≡ over (grammar_texts grammar) ts

-- or the reading stops, by the text or for want of room, and all is left as it was
abbrev pub ReadingTo : (text records texts : List ℕ) → Result Extent Stop → (records_after texts_after : List ℕ) → Type 0
ReadingTo s ws ts (Ok r) vs us = Kept s ws ts vs us r
ReadingTo s ws ts (Err e) vs us = (room_for (length ws) (length ts) (reading s) ≡ stopped (cause_number e.cause) e.place) × (vs ≡ ws) × (us ≡ ts)

-- ------------------------------------------------------------------ what the calls promise: just what the definitions say

-- `read` on a text, with records and texts lent
abbrev pub ReadTo : (text records texts : List ℕ) → Result Extent Refusal → (records_after texts_after : List ℕ) → Type 0
ReadTo s ws ts r vs us = read_outcome r vs us ≡ read s ws ts

-- `measure` on a text
abbrev pub MeasureTo : (text : List ℕ) → Result Extent Refusal → Type 0
MeasureTo s r = read_answer r ≡ measure s

-- `normal_text` on a text, with records, texts and output lent
abbrev pub NormalTo : (text records texts output : List ℕ) → Result ℕ Refusal → (records_after texts_after output_after : List ℕ) → Type 0
NormalTo s ws ts out r vs us new = normal_outcome r vs us new ≡ normal s ws ts out

-- what is written of a tree that is stored, whatever was lent to store it in
abbrev pub WriteTo : (text records texts output : List ℕ) → Result ℕ Refusal → (output_after : List ℕ) → Type 0
WriteTo s ws ts out r new =
    (k : Stored ws ts) (lent_words lent_texts : List ℕ)
    → normal_outcome r (over (grammar_words k.grammar) lent_words) (over (grammar_texts k.grammar) lent_texts) new ≡ write_by s lent_words lent_texts out k.grammar

-- `structurally_eq` on two trees
abbrev pub CompareTo : (left_records left_texts right_records right_texts : List ℕ) → Result Bool Refusal → Type 0
CompareTo ls lts rs rts r = compare_answer r ≡ compare ls lts rs rts

-- The tree of a text takes no more than so much: four records for each byte and the grammar's own, and six bytes for each. With that lent,
-- want of room stops no reading (`RoomIsEnough`, Demands.antt).
abbrev pub Few : (text : List ℕ) → Type 0
Few s = (g : GrammarDeclaration ℕ) → reading s ≡ tree g → (length (grammar_words g) ≤ words_enough (length s)) × (length (grammar_texts g) ≤ bytes_enough (length s))
