-- Demand 3 for the call `normal`: what it wrote, it writes again.
-- Assumes nothing.
use Prim.Native.Nat.{ℕ}
use mathlib.Core.Path.{◌≡◌, refl, ap, sym, ◌∙◌}
use mathlib.Core.Bool.{Bool, true, false, ◌||◌}
use mathlib.Core.List.{List}
use lib.Dec.{ltb}
use lib.ListN.{length, take, drop, replicate}
use lib.Seq.{take-append_seam}
use borrow.Author.Tests.{ltb-false}
use Rattle.basics.specs.Basics.{if◌then◌otherwise◌, over}
use Rattle.basics.proofs.Tests.{impossible, both_false}
use Rattle.error.specs.Causes.{records_full, texts_full, output_full}
use Rattle.error.specs.Lines.{Refusal, line_feeds, line_start, line_at, column_at, refusal_at}
use Rattle.tree.specs.Syntax.{GrammarDeclaration}
use Rattle.tree.specs.Stored.{grammar_words, grammar_texts}
use Rattle.spelling.specs.NormalText.{normal_text}
use Rattle.grammar.specs.Reading.{Reading, tree, stopped, reading, longest}
use Rattle.grammar.specs.Calls.{room_for, NormalAnswer, written, NormalOutcome, write_by, normal_by, normal}
use Rattle.grammar.specs.Program.{outcome, printed}
use Rattle.laws.specs.Demand3.{Accepted, NormalOfItsOutput, PrintedIsItsOwn}
use Rattle.laws.proofs.Demand3.{normal-texts-are-accepted, agreeing_trees_take-the-same-room}

-- ------------------------------------------------------------------ the call, seen through its parts

room_of : (words bytes : ℕ) (g : GrammarDeclaration ℕ)
    → room_for words bytes (tree g)
    ≡ (if ltb words (length (grammar_words g)) then stopped records_full 0 otherwise if ltb bytes (length (grammar_texts g)) then stopped texts_full 0 otherwise tree g)
unfolding room_for grammar_words grammar_texts
room_of words bytes g = refl

module _ (records texts output : List ℕ) where
  -- there is no room for the text
  abbrev pub no_output : List ℕ → Bool
  no_output t = ltb longest (length t) || ltb (length output) (length t)

  normal-of : (text : List ℕ) → normal text records texts output ≡ normal_by text records texts output (room_for (length records) (length texts) (reading text))
  unfolding normal reading room_for normal_by
  normal-of text = refl

  abbrev pub done : GrammarDeclaration ℕ → NormalOutcome
  done g = record { answer = written (length (normal_text g)); records = over (grammar_words g) records; texts = over (grammar_texts g) texts; output = over (normal_text g) output }

  write_of : (text : List ℕ) (g : GrammarDeclaration ℕ)
      → write_by text records texts output g
      ≡ (if no_output (normal_text g)
      then record { answer = NormalAnswer.refused (refusal_at text output_full 0); records = over (grammar_words g) records; texts = over (grammar_texts g) texts; output = output }
      otherwise done g)
  unfolding line_feeds line_start line_at column_at refusal_at write_by grammar_words grammar_texts normal_text longest
  write_of text g = refl

  -- all three tests pass
  pub record Room (g : GrammarDeclaration ℕ) : Type 0 where
    pub words : ltb (length records) (length (grammar_words g)) ≡ false
    pub bytes : ltb (length texts) (length (grammar_texts g)) ≡ false
    pub room : no_output (normal_text g) ≡ false

  by-tree : (text : List ℕ) (g : GrammarDeclaration ℕ) → normal_by text records texts output (tree g) ≡ write_by text records texts output g
  unfolding line_feeds line_start line_at column_at refusal_at normal_by write_by
  by-tree text g = refl

  pub wrote : (text : List ℕ) (g : GrammarDeclaration ℕ) → reading text ≡ tree g → Room g → normal text records texts output ≡ done g
  wrote text g e h = rw (normal-of text, e, room_of (length records) (length texts) g, h.words, h.bytes, by-tree text g, write_of text g, h.room)

  -- ------------------------------------------------------------------ it writes only then

  room-stopped : (words bytes n p : ℕ) → room_for words bytes (stopped n p) ≡ stopped n p
  unfolding room_for
  room-stopped words bytes n p = refl

  by-stopped : (text : List ℕ) (n p : ℕ) → (normal_by text records texts output (stopped n p)).answer ≡ NormalAnswer.refused (refusal_at text n p)
  unfolding line_feeds line_start line_at column_at refusal_at normal_by
  by-stopped text n p = refl

  not_written : {A : Type 0} {n : ℕ} (r : Refusal) → NormalAnswer.refused r ≡ written n → A
  not_written r e = impossible (cc)

  pub record Wrote (text : List ℕ) (n : ℕ) : Type 0 where
    pub grammar : GrammarDeclaration ℕ
    pub reads : reading text ≡ tree grammar
    pub room : Room grammar
    pub size : length (normal_text grammar) ≡ n

  same_size : {m n : ℕ} → written m ≡ written n → m ≡ n
  same_size e = cc

  pub wrote-only : (text : List ℕ) (n : ℕ) → (normal text records texts output).answer ≡ written n → Wrote text n
  wrote-only text n e = by-reading (reading text) refl (sym (ap (λ o. o.answer) (normal-of text)) ∙ e)
    where
      by-room : (g : GrammarDeclaration ℕ) → reading text ≡ tree g → ltb (length records) (length (grammar_words g)) ≡ false → ltb (length texts) (length (grammar_texts g)) ≡ false
          → (c : Bool) → no_output (normal_text g) ≡ c
          → (if c then record { answer = NormalAnswer.refused (refusal_at text output_full 0); records = over (grammar_words g) records; texts = over (grammar_texts g) texts; output = output }
          otherwise done g).answer ≡ written n
          → Wrote text n
      by-room g q a b true h w = not_written _ w
      by-room g q a b false h w = record { grammar = g; reads = q; room = record { words = a; bytes = b; room = h }; size = same_size w }

      by_bytes : (g : GrammarDeclaration ℕ) → reading text ≡ tree g → ltb (length records) (length (grammar_words g)) ≡ false
          → (c : Bool) → ltb (length texts) (length (grammar_texts g)) ≡ c
          → (normal_by text records texts output (if c then stopped texts_full 0 otherwise tree g)).answer ≡ written n → Wrote text n
      by_bytes g q a true h w = not_written _ (sym (by-stopped text texts_full 0) ∙ w)
      by_bytes g q a false h w = by-room g q a h (no_output (normal_text g)) refl (sym (ap (λ o. o.answer) (by-tree text g ∙ write_of text g)) ∙ w)

      by-words : (g : GrammarDeclaration ℕ) → reading text ≡ tree g → (c : Bool) → ltb (length records) (length (grammar_words g)) ≡ c
          → (normal_by text records texts output (if c then stopped records_full 0 otherwise if ltb (length texts) (length (grammar_texts g)) then stopped texts_full 0 otherwise tree g)).answer ≡ written n
          → Wrote text n
      by-words g q true h w = not_written _ (sym (by-stopped text records_full 0) ∙ w)
      by-words g q false h w = by_bytes g q h (ltb (length texts) (length (grammar_texts g))) refl w

      by-reading : (r : Reading) → reading text ≡ r → (normal_by text records texts output (room_for (length records) (length texts) (reading text))).answer ≡ written n → Wrote text n
      by-reading (stopped m p) q w = not_written _ (sym (by-stopped text m p) ∙ rw (q, room-stopped (length records) (length texts) m p) at w)
      by-reading (tree g) q w = by-words g q (ltb (length records) (length (grammar_words g))) refl (rw (q, room_of (length records) (length texts) g) at w)

-- ------------------------------------------------------------------ and so again

module _ (text records texts output : List ℕ) (g : GrammarDeclaration ℕ) (reads : reading text ≡ tree g) (room : Room records texts output g) where
  first : normal text records texts output ≡ done records texts output g
  first = wrote records texts output text g reads room

  kept : take (length (normal_text g)) (normal text records texts output).output ≡ normal_text g
  kept = rw first (take-append_seam (normal_text g) (drop (length (normal_text g)) output))

  accepted : Accepted g
  accepted =
      normal-texts-are-accepted text g reads
      (ltb-false longest (length (normal_text g)) (both_false (ltb longest (length (normal_text g))) (ltb (length output) (length (normal_text g))) room.room).0)

  again-room : (a : Accepted g) → Room records texts output a.again
  again-room a =
      let sizes = agreeing_trees_take-the-same-room g a.again a.agrees in
      record { words = rw sizes.0 at room.words; bytes = rw sizes.1 at room.bytes; room = rw (← a.itself) at room.room }

  second : (a : Accepted g) → normal (normal_text g) records texts output ≡ done records texts output a.again
  second a = wrote records texts output (normal_text g) a.again a.accepted (again-room a)

  again : (a : Accepted g)
      → ((normal (normal_text g) records texts output).answer ≡ written (length (normal_text g))) × ((normal (normal_text g) records texts output).output ≡ (normal text records texts output).output)
  again a = (rw (second a, a.itself), rw (second a, a.itself, first))

pub normal-of_its_output : NormalOfItsOutput
normal-of_its_output text records texts output n e = go (wrote-only records texts output text n e)
  where
    go : Wrote records texts output text n
        → ((normal (take n (normal text records texts output).output) records texts output).answer ≡ written n)
        × ((normal (take n (normal text records texts output).output) records texts output).output ≡ (normal text records texts output).output)
    go w = rw (← w.size, kept text records texts output w.grammar w.reads w.room) (again text records texts output w.grammar w.reads w.room (accepted text records texts output w.grammar w.reads w.room))

-- ------------------------------------------------------------------ and so the program prints it again

-- what is printed where the call writes n bytes
printed-of : (text : List ℕ) (n : ℕ) → (outcome text).answer ≡ written n → printed text ≡ take n (outcome text).output
unfolding printed
printed-of text n e = rw (printed, e)

pub printed-is_its_own : PrintedIsItsOwn
printed-is_its_own text n e =
    let k = normal-of_its_output text (replicate 14000 0) (replicate 32768 0) (replicate 65535 0) n e in
    let p = printed-of text n e in
    rw p (printed-of (take n (outcome text).output) n k.0 ∙ ap (λ (l : List ℕ). take n l) k.1)
