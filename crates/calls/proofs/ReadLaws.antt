-- What the call `read` comes to, on each of its ways.
-- Assumes nothing.
use Prim.Native.Nat.{ℕ, ◌≤◌, ◌<◌}
use mathlib.Core.Path.{◌≡◌, refl, sym, ◌∙◌}
use mathlib.Core.List.{List}
use lib.ListN.{length}
use borrow.Author.Tests.{lt-ltb, le-ltb}
use Rattle.error.specs.Causes.{too_long, not_utf8}
use Rattle.error.specs.Lines.{refusal_at}
use Rattle.error.specs.Promise.{cause_number, refusal_of}
use Rattle.error.specs.declared.Refusal.{Refusal}
use Rattle.error.specs.declared.Stop.{Stop}
use Rattle.error.specs.declared.Cause.TheVariants.{TooLong, NotUtf8}
use Rattle.std.specs.Prelude.{Result, Ok, Err}
use Rattle.characters.specs.Utf8.{check, codes}
use Rattle.lexer.specs.Tokens.{Tokens, tokens}
use Rattle.lexer.specs.Promise.{tokens_at}
use Rattle.tree.specs.Syntax.{GrammarDeclaration}
use Rattle.tree.specs.Stored.{grammar_words, grammar_texts}
use Rattle.notation.specs.Parser as Parser
use Rattle.notation.specs.Declarations.{parse_grammar}
use Rattle.reader.specs.Whole.{Given, Measures, Read, Stopped, by-text, by-words, by_bytes, Reads}
use Rattle.reader.specs.declared.blocks.Extent.{Extent}
use Rattle.grammar.specs.Reading.{tree, stopped, reading, longest}
use Rattle.grammar.specs.Calls.{room_for, read, measure}
use Rattle.laws.proofs.Accepted.{not_tree}
use Rattle.calls.specs.Promise.{CheckedTo, Sized, SizedTo, Kept, ReadingTo, MeasureTo, ReadTo, Few}

-- ------------------------------------------------------------------ the reading of a text

same_tree : {g h : GrammarDeclaration ℕ} → tree g ≡ tree h → g ≡ h
same_tree e = cc

-- too long; not UTF-8
pub reading_long : (s : List ℕ) → longest < length s → reading s ≡ stopped too_long 0
unfolding reading
reading_long s h = rw (reading, lt-ltb longest (length s) h)

pub reading-ill : (s : List ℕ) {p : ℕ} → length s ≤ longest → check s ≡ Err (record { at = p }) → reading s ≡ stopped not_utf8 p
unfolding reading
reading-ill s h e = rw (reading, le-ltb longest (length s) h, e)

-- the tokens from the start on are those of the text
tokens-all : (s : List ℕ) → tokens (codes s) ≡ tokens_at s 0
unfolding tokens tokens_at
tokens-all s = refl

module _ (s : List ℕ) (h : length s ≤ longest) (e : check s ≡ Ok tt) where
  reading-tree : {g : GrammarDeclaration ℕ} {us : Tokens ℕ} → parse_grammar (tokens_at s 0) ≡ Parser.read g us → reading s ≡ tree g
  unfolding reading
  reading-tree q = rw (reading, le-ltb longest (length s) h, e, tokens-all s, q)

  reading-stopped : {n p : ℕ} → parse_grammar (tokens_at s 0) ≡ Parser.refused n p → reading s ≡ stopped n p
  unfolding reading
  reading-stopped q = rw (reading, le-ltb longest (length s) h, e, tokens-all s, q)

-- ------------------------------------------------------------------ a text that is checked

module _ (s : List ℕ) where
  pub long-stops : longest < length s → CheckedTo s (Err (record { cause = TooLong; place = 0 }))
  long-stops h = reading_long s h

  pub ill-stops : {p : ℕ} → length s ≤ longest → check s ≡ Err (record { at = p }) → CheckedTo s (Err (record { cause = NotUtf8; place = p }))
  ill-stops h e = reading-ill s h e

  -- what stops its reading stops it whatever is lent
  pub stops : {n p : ℕ} (ws ts : List ℕ) → reading s ≡ stopped n p → room_for (length ws) (length ts) (reading s) ≡ stopped n p
  unfolding room_for
  stops ws ts e = rw (e, room_for)

  -- and it has no tree that could take too much
  pub few-stopped : {n p : ℕ} → reading s ≡ stopped n p → Few s
  few-stopped q g e = not_tree (sym q ∙ e)

  module _ (checked : CheckedTo s (Ok tt)) where
    reads-tree : {g : GrammarDeclaration ℕ} {us : Tokens ℕ} → parse_grammar (tokens_at s 0) ≡ Parser.read g us → reading s ≡ tree g
    reads-tree q = reading-tree s checked.0 checked.1 q

    reads_stopped : {n p : ℕ} → parse_grammar (tokens_at s 0) ≡ Parser.refused n p → reading s ≡ stopped n p
    reads_stopped q = reading-stopped s checked.0 checked.1 q

    -- the tree that the parser gives takes no more than is enough
    few-given : {words bytes : ℕ} → Given s words bytes → Few s
    few-given k g e =
        let q : k.tree ≡ g = same_tree (sym (reads-tree k.gives) ∙ e) in
        (rw (← q, ← k.words_are) k.few, rw (← q, ← k.bytes-are) k.short)

    -- ---------------------------------------------------------------- what is measured

    pub sized : (r : Result Extent Stop) → Measures s r → SizedTo s r
    sized (Ok r) k = record { grammar = k.tree; is = reads-tree k.gives; words = k.words_are; bytes = k.bytes-are }
    sized (Err d) q = reads_stopped q

    pub sized-few : (r : Result Extent Stop) → Measures s r → Few s
    sized-few (Ok r) k = few-given k
    sized-few (Err d) q = few-stopped (reads_stopped q)

    -- ---------------------------------------------------------------- what is stored, or stops it

    module _ (ws ts vs us : List ℕ) where
      stored : (r : Extent) → Read s ws ts vs us r.words r.bytes → Kept s ws ts vs us r
      unfolding room_for
      stored r k =
          let g = k.given.tree in
          let a : length (grammar_words g) ≤ length ws = rw (← k.given.words_are) k.words_fit in
          let b : length (grammar_texts g) ≤ length ts = rw (← k.given.bytes-are) k.bytes_fit in
          record {
            grammar = g;
            is = rw (reads-tree k.given.gives, room_for, le-ltb (length ws) (length (grammar_words g)) a, le-ltb (length ts) (length (grammar_texts g)) b);
            words = k.given.words_are;
            bytes = k.given.bytes-are;
            records = k.records;
            texts = k.texts;
          }

      stopped_so : {n p : ℕ} → Stopped s ws ts n p → room_for (length ws) (length ts) (reading s) ≡ stopped n p
      unfolding room_for
      stopped_so (by-text q) = stops ws ts (reads_stopped q)
      stopped_so (by-words k) =
          let g = k.given.tree in
          let a : length ws < length (grammar_words g) = rw (← k.given.words_are) k.lacks in
          rw (reads-tree k.given.gives, room_for, lt-ltb (length ws) (length (grammar_words g)) a, k.cause-is, k.place_is)
      stopped_so (by_bytes k) =
          let g = k.given.tree in
          let a : length (grammar_words g) ≤ length ws = rw (← k.given.words_are) k.fits in
          let b : length ts < length (grammar_texts g) = rw (← k.given.bytes-are) k.lacks in
          rw (reads-tree k.given.gives, room_for, le-ltb (length ws) (length (grammar_words g)) a, lt-ltb (length ts) (length (grammar_texts g)) b, k.cause-is, k.place_is)

      pub parsed : (r : Result Extent Stop) → Reads s ws ts vs us r → ReadingTo s ws ts r vs us
      parsed (Ok r) k = stored r k
      parsed (Err d) k = (stopped_so k.0, k.1, k.2)

      few-so : {n p : ℕ} → Stopped s ws ts n p → Few s
      few-so (by-text q) = few-stopped (reads_stopped q)
      few-so (by-words k) = few-given k.given
      few-so (by_bytes k) = few-given k.given

      pub parsed-few : (r : Result Extent Stop) → Reads s ws ts vs us r → Few s
      parsed-few (Ok r) k = few-given k.given
      parsed-few (Err d) k = few-so k.0

-- ------------------------------------------------------------------ what `measure` comes to

module _ (s : List ℕ) where
  pub sized-measure : (r : Extent) → Sized s r → MeasureTo s (Ok r)
  unfolding measure
  sized-measure r k = rw (measure, k.is, k.words, k.bytes)

  pub refused-measure : (e : Stop) (f : Refusal) → SizedTo s (Err e) → refusal_of f ≡ refusal_at s (cause_number e.cause) e.place → MeasureTo s (Err f)
  unfolding measure
  refused-measure e f k i = rw (measure, k, i)

-- ------------------------------------------------------------------ what `read` comes to

module _ (s ws ts vs us : List ℕ) where
  pub kept-read : (r : Extent) → Kept s ws ts vs us r → ReadTo s ws ts (Ok r) vs us
  unfolding read
  kept-read r k = rw (read, k.is, k.words, k.bytes, k.records, k.texts)

  pub refused-read : (e : Stop) (f : Refusal) → ReadingTo s ws ts (Err e) vs us → refusal_of f ≡ refusal_at s (cause_number e.cause) e.place → ReadTo s ws ts (Err f) vs us
  unfolding read
  refused-read e f k i = rw (k.1, k.2, read, k.0, i)
