-- What the call `normal_text` answers where enough is lent: the outcome.
-- Assumes nothing.
use Prim.Native.Nat.{ℕ, ◌+◌, ◌*◌, ◌≤◌}
use native.Mathlib.Omega.{arith}
use mathlib.Core.Path.{◌≡◌, refl, ap, sym, ◌∙◌}
use mathlib.Core.Bool.{Bool, true, false, ◌||◌}
use mathlib.Core.List.{List}
use lib.Dec.{ltb}
use lib.ListN.{length, drop, length-append}
use lib.Seq.{take-append_seam}
use borrow.Author.Tests.{le-ltb, ltb-true, ltb-false}
use Rattle.basics.specs.Basics.{if◌then◌otherwise◌, over}
use Rattle.basics.proofs.Tests.{impossible}
use Rattle.error.specs.Causes.{records_full, texts_full, output_full}
use Rattle.error.specs.Lines.{Refusal, line_feeds, line_start, line_at, column_at, refusal_at}
use Rattle.error.specs.declared.Refusal as declared
use Rattle.tree.specs.Syntax.{GrammarDeclaration}
use Rattle.tree.specs.Stored.{grammar_words, grammar_texts}
use Rattle.spelling.specs.NormalText.{normal_text}
use Rattle.grammar.specs.Reading.{Reading, tree, stopped, reading, longest}
use Rattle.grammar.specs.Calls.{NormalAnswer, written, NormalOutcome, room_for, write_by, normal_by, normal}
use Rattle.laws.proofs.Accepted.{not_tree}
use Rattle.calls.specs.Promise.{Few, normal_outcome, NormalTo}
use Rattle.calls.proofs.ReadLaws.{reading_long}
use Rattle.std.specs.Prelude.{Result, Ok, Err}
use Rattle.front.specs.Outcomes.{accepted, refused, outcome_by, outcome}
use Rattle.front.specs.Promise.{IsOutcome}
use Rattle.front.specs.Laws.{answer_of, EnoughIsLent}

-- ------------------------------------------------------------------ the call, seen through its parts

room_of : (words bytes : ℕ) (g : GrammarDeclaration ℕ)
    → room_for words bytes (tree g)
    ≡ (if ltb words (length (grammar_words g)) then stopped records_full 0 otherwise if ltb bytes (length (grammar_texts g)) then stopped texts_full 0 otherwise tree g)
unfolding room_for grammar_words grammar_texts
room_of words bytes g = refl

normal-of : (s ws ts out : List ℕ) → normal s ws ts out ≡ normal_by s ws ts out (room_for (length ws) (length ts) (reading s))
unfolding normal reading room_for normal_by
normal-of s ws ts out = refl

-- ------------------------------------------------------------------ the tests of room pass

-- a text that has a tree is not too long
short : (s : List ℕ) {g : GrammarDeclaration ℕ} → reading s ≡ tree g → length s ≤ longest
short s {g} e = by_length (ltb longest (length s)) refl
  where
    by_length : (b : Bool) → ltb longest (length s) ≡ b → length s ≤ longest
    by_length true q = not_tree (sym (reading_long s (ltb-true longest (length s) q)) ∙ e)
    by_length false q = ltb-false longest (length s) q

module _ (s ws ts out : List ℕ) (few : Few s) (words : 28 * 65535 + 7 ≤ length ws) (bytes : 6 * 65535 ≤ length ts) (room : longest ≤ length out) where
  roomy : (r : Reading) → reading s ≡ r → room_for (length ws) (length ts) r ≡ r
  unfolding room_for longest
  roomy (stopped n p) e = refl
  roomy (tree g) e =
      let f = few g e in
      let l : length s ≤ 65535 = short s e in
      rw (room_of (length ws) (length ts) g, le-ltb (length ws) (length (grammar_words g)) (omega (arith, f.0)), le-ltb (length ts) (length (grammar_texts g)) (omega (arith, f.1))) refl

  by-outcome : normal s ws ts out ≡ normal_by s ws ts out (reading s)
  by-outcome = normal-of s ws ts out ∙ ap (normal_by s ws ts out) (roomy (reading s) refl)

  -- ------------------------------------------------------------------ what is written of a tree

  module _ (g : GrammarDeclaration ℕ) where
    abbrev t : List ℕ
    t = normal_text g

    abbrev full : NormalOutcome
    full = record { answer = NormalAnswer.refused (refusal_at s output_full 0); records = over (grammar_words g) ws; texts = over (grammar_texts g) ts; output = out }

    abbrev done : NormalOutcome
    done = record { answer = written (length t); records = over (grammar_words g) ws; texts = over (grammar_texts g) ts; output = over t out }

    by-tree : normal_by s ws ts out (tree g) ≡ (if ltb longest (length t) || ltb (length out) (length t) then full otherwise done)
    unfolding line_feeds line_start line_at column_at refusal_at normal_by write_by grammar_words grammar_texts normal_text longest
    by-tree = refl

    -- what is not over the limit is not over the output
    by-limit : (b : Bool) → ltb longest (length t) ≡ b → normal_by s ws ts out (tree g) ≡ (if b then full otherwise done)
    by-limit true e = by-tree ∙ rw e refl
    by-limit false e =
        let l : length t ≤ longest = ltb-false longest (length t) e in
        let k : ltb (length out) (length t) ≡ false = le-ltb (length out) (length t) (omega (arith, l, room)) in
        by-tree ∙ rw (e, k) refl

    of-tree : (b : Bool) → ltb longest (length t) ≡ b → outcome_by s (tree g) ≡ (if b then refused (refusal_at s output_full 0) otherwise accepted t)
    unfolding line_feeds line_start line_at column_at refusal_at outcome_by normal_text longest
    of-tree b e = rw (← e) refl

  -- ------------------------------------------------------------------ an answer is the outcome

  wrong-written : {A : Type 0} {n : ℕ} {r : Refusal} → written n ≡ NormalAnswer.refused r → A
  wrong-written e = impossible (cc)

  same-refusal : {r q : Refusal} → NormalAnswer.refused r ≡ NormalAnswer.refused q → r ≡ q
  same-refusal e = cc

  same-size : {m n : ℕ} → written m ≡ written n → m ≡ n
  same-size e = cc

  module _ (vs us new : List ℕ) where
    is-refused : (r : Result ℕ declared.Refusal) (q : Refusal) → (normal_outcome r vs us new).answer ≡ NormalAnswer.refused q → IsOutcome (refused q) r new
    is-refused (Ok n) q e = wrong-written e
    is-refused (Err f) q e = ap refused (sym (same-refusal e))

    is-accepted : (r : Result ℕ declared.Refusal) (t : List ℕ) → length t ≤ length out → (normal_outcome r vs us new).answer ≡ written (length t) → new ≡ over t out → IsOutcome (accepted t) r new
    is-accepted (Ok n) t h e q =
        let k : n ≡ length t = same-size e in
        let l = ap length q ∙ length-append t (drop (length t) out) in
        (omega arith, rw (k, q) (ap accepted (sym (take-append_seam t (drop (length t) out)))))
    is-accepted (Err f) t h e q = wrong-written (sym e)

    by-bool : (r : Result ℕ declared.Refusal) (g : GrammarDeclaration ℕ) (b : Bool) → ltb longest (length (normal_text g)) ≡ b
        → normal_outcome r vs us new ≡ (if b then full g otherwise done g) → IsOutcome (if b then refused (refusal_at s output_full 0) otherwise accepted (normal_text g)) r new
    by-bool r g true e h = is-refused r (refusal_at s output_full 0) (ap (λ (o : NormalOutcome). o.answer) h)
    by-bool r g false e h =
        let l = ltb-false longest (length (normal_text g)) e in
        is-accepted r (normal_text g) (omega (arith, l, room)) (ap (λ (o : NormalOutcome). o.answer) h) (ap (λ (o : NormalOutcome). o.output) h)

    by-reading : (r : Result ℕ declared.Refusal) (a : Reading) → normal_outcome r vs us new ≡ normal_by s ws ts out a → IsOutcome (outcome_by s a) r new
    unfolding line_feeds line_start line_at column_at refusal_at normal_by outcome_by
    by-reading r (stopped n p) h = is-refused r (refusal_at s n p) (ap (λ (o : NormalOutcome). o.answer) h)
    by-reading r (tree g) h =
        let b = ltb longest (length (normal_text g)) in
        rw (of-tree g b refl) (by-bool r g b refl (h ∙ by-limit g b refl))

    pub settled : (r : Result ℕ declared.Refusal) → NormalTo s ws ts out r vs us new → IsOutcome (outcome s) r new
    unfolding outcome
    settled r h = by-reading r (reading s) (h ∙ by-outcome)

  -- ------------------------------------------------------------------ so the definition answers it

  answers-tree : (g : GrammarDeclaration ℕ) (b : Bool) → ltb longest (length (normal_text g)) ≡ b → (if b then full g otherwise done g).answer ≡ answer_of (if b then refused (refusal_at s output_full 0) otherwise accepted (normal_text g))
  answers-tree g true e = refl
  answers-tree g false e = refl

  answers : (a : Reading) → (normal_by s ws ts out a).answer ≡ answer_of (outcome_by s a)
  unfolding line_feeds line_start line_at column_at refusal_at normal_by outcome_by
  answers (stopped n p) = refl
  answers (tree g) =
      let b = ltb longest (length (normal_text g)) in
      ap (λ (o : NormalOutcome). o.answer) (by-limit g b refl) ∙ answers-tree g b refl ∙ ap answer_of (sym (of-tree g b refl))

  enough : (normal s ws ts out).answer ≡ answer_of (outcome s)
  unfolding outcome
  enough = ap (λ (o : NormalOutcome). o.answer) by-outcome ∙ answers (reading s)

pub enough-is-lent : EnoughIsLent
enough-is-lent s ws ts out few words bytes room = enough s ws ts out few words bytes room
