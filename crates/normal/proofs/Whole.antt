-- What is printed of an input of which no more than 65,536 bytes are read.
-- Assumes nothing.
use Rattle.std.proofs.Common.{◌≡◌, ℕ, Bool, false, ◌≤◌, ◌<◌, List, [], ◌++◌, Option, None, Some, Result, Ok, Err, IfSome, IfOk, OnOk, MatchResult, arith, length, take, replicate, refl, sym, ap, ◌∙◌, append-nil, length-append, length-take-le}
use Rattle.std.proofs.lemmas.Bool.{cases_lt}
use Rattle.std.proofs.Math.Logic.{inl, inr}
use Rattle.std.specs.Io.KnownBytes.{Consumes, IsAtEnd, Appends}
use Rattle.error.specs.Causes.{too_long}
use Rattle.error.specs.Lines.{Refusal, line_feeds, line_start, line_at, column_at, refusal_at}
use Rattle.grammar.specs.Reading.{longest}
use Rattle.grammar.specs.Calls.{NormalAnswer, NormalOutcome, room_for, normal_by, normal}
use Rattle.grammar.specs.Program.{refusal_line, printed_by, printed}
use Rattle.calls.proofs.ReadLaws.{reading_long}
use Rattle.printing.specs.Promise.{Fills}
use Rattle.normal.specs.Answer.{is_text, prints_text}

-- ------------------------------------------------------------------ a text that is too long

-- its refusal, which says nothing of the text
abbrev too_long_refusal : Refusal
too_long_refusal = record { cause = too_long; place = 0; line = 1; column = 0 }

at_start : (s : List ℕ) → refusal_at s too_long 0 ≡ too_long_refusal
unfolding line_feeds line_start line_at column_at refusal_at
at_start s = refl

normal-long : (s records texts output : List ℕ) → longest < length s
    → normal s records texts output ≡ record { answer = NormalAnswer.refused too_long_refusal; records = records; texts = texts; output = output }
unfolding room_for normal_by normal
normal-long s records texts output h = rw (reading_long s h, at_start s)

prints-long : (s : List ℕ) → longest < length s → printed s ≡ refusal_line too_long_refusal
unfolding printed
prints-long s h = ap (λ (o : NormalOutcome). printed_by o.answer o.output) (normal-long s (replicate 14000 0) (replicate 32768 0) (replicate 65535 0) h)

-- what follows its first 65,536 bytes does not count
prints-front : (s more : List ℕ) → 65536 ≤ length s → printed (s ++ more) ≡ printed s
unfolding longest
prints-front s more h =
    let long : longest < length (s ++ more) = omega (arith, length-append s more) in
    prints-long (s ++ more) long ∙ sym (prints-long s (omega arith))

-- nor for which of the two is printed
no_text-long : (s : List ℕ) → longest < length s → prints_text s ≡ false
unfolding prints_text
no_text-long s h = ap (λ (o : NormalOutcome). is_text o.answer) (normal-long s (replicate 14000 0) (replicate 32768 0) (replicate 65535 0) h)

which-front : (s more : List ℕ) → 65536 ≤ length s → prints_text (s ++ more) ≡ prints_text s
unfolding longest
which-front s more h =
    let long : longest < length (s ++ more) = omega (arith, length-append s more) in
    no_text-long (s ++ more) long ∙ sym (no_text-long s (omega arith))

-- ------------------------------------------------------------------ an input

-- what was read of it prints as all of it
reads-whole : (left buf : List ℕ) (n : ℕ) → length buf ≡ 65536 → n ≤ length buf → (n < length buf → left ≡ []) → printed (take n buf ++ left) ≡ printed (take n buf)
reads-whole left buf n l h e = elim (cases_lt n (length buf)) [
  | inl k ↦ rw (e k, append-nil)
  | inr k ↦ let f : length (take n buf) ≡ n = length-take-le n buf h in prints-front (take n buf) left (omega arith)
]

-- what was read is printed, so all of the input is
pub prints-whole : {E : Type 0} (old new : Option (List ℕ)) (r : Result ℕ E) (n : ℕ) (buf : List ℕ) → r ≡ Ok n → IfOk r (λ m. m ≤ length buf) → Fills old new r buf → length buf ≡ 65536
    → (before after : Option (List ℕ)) → Appends before after (printed (take n buf)) → IfSome old (λ text. Appends before after (printed text))
prints-whole None new r n buf e h f l before after a = tt
prints-whole (Some xs) None r n buf e h f l before after a = absurd (rw e at f).0
prints-whole (Some xs) (Some ys) r n buf e h f l before after a =
    let g : Consumes (Some xs) (Some ys) (take n buf) × (n < length buf → IsAtEnd (Some ys)) = rw e at f in
    let k : n ≤ length buf = rw e at h in
    rw (g.0, reads-whole ys buf n l k g.1) a

-- and which of the two it is
which_reads : (left buf : List ℕ) (n : ℕ) → length buf ≡ 65536 → n ≤ length buf → (n < length buf → left ≡ []) → prints_text (take n buf ++ left) ≡ prints_text (take n buf)
which_reads left buf n l h e = elim (cases_lt n (length buf)) [
  | inl k ↦ rw (e k, append-nil)
  | inr k ↦ let f : length (take n buf) ≡ n = length-take-le n buf h in which-front (take n buf) left (omega arith)
]

pub which-whole : {E F : Type 0} (old new : Option (List ℕ)) (r : Result ℕ E) (n : ℕ) (buf : List ℕ) → r ≡ Ok n → IfOk r (λ m. m ≤ length buf) → Fills old new r buf → length buf ≡ 65536
    → (q : Result Bool F) → IfOk q (λ b. b ≡ prints_text (take n buf)) → IfSome old (λ text. IfOk q (λ b. b ≡ prints_text text))
which-whole None new r n buf e h f l q a = tt
which-whole (Some xs) None r n buf e h f l q a = absurd (rw e at f).0
which-whole (Some xs) (Some ys) r n buf e h f l q a =
    let g : Consumes (Some xs) (Some ys) (take n buf) × (n < length buf → IsAtEnd (Some ys)) = rw e at f in
    let k : n ≤ length buf = rw e at h in
    rw (g.0, which_reads ys buf n l k g.1) a

pub of-context : {T E F : Type 0} (s : Result T E) (t : Result T F) (P : T → Type 0) (Q : F → Type 0) → MatchResult t (λ x. s ≡ Ok x) Q → IfOk s P → IfOk t P
of-context s (Ok x) P Q h p = rw h at p
of-context s (Err e) P Q h p = tt

-- what a result promises, the same result under a context does
pub under-context : {T E F : Type 0} (s : Result T E) (t : Result T F) (P : Type 0) (Q : F → Type 0) → MatchResult t (λ x. s ≡ Ok x) Q → OnOk s P → OnOk t P
under-context s (Ok x) P Q h p = rw h at p
under-context s (Err e) P Q h p = tt
