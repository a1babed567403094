-- The lexer's answers as words.
-- Assumes nothing.
use Rattle.std.specs.Prelude.{ℕ, ◌≡◌, Result, Ok, Err, List, [], ◌∷◌}
use Rattle.answers.specs.Words.{laid, bit}
use Rattle.characters.specs.Spans.{Span}
use Rattle.error.specs.Promise.{cause_number}
use Rattle.error.specs.declared.Cause.{Cause}
use Rattle.error.specs.declared.Cause.TheVariants.{ReversedSpan}
use Rattle.error.specs.declared.Stop.{Stop}
use Rattle.lexer.specs.Promise.{Reads, Checks}
use Rattle.lexer.specs.declared.Kind.{Kind}
use Rattle.lexer.specs.declared.Kind.TheVariants.{String, At, Set, Punctuation, Identifier}
use Rattle.lexer.specs.declared.Token.{Token}
use Rattle.lexer.specs.declared.Token.TheVariants.{Of, Eof}

-- the words of a token: the number of its kind, start, end, its part's start and end, and its quote, mark, or whether a set is inverted
abbrev pub token_words : Kind → (start end : ℕ) → List ℕ
token_words (String q p) start end = 1 ∷ start ∷ end ∷ p.from ∷ p.to ∷ q ∷ []
token_words (At p) start end = 2 ∷ start ∷ end ∷ p.from ∷ p.to ∷ 0 ∷ []
token_words (Set i p) start end = 3 ∷ start ∷ end ∷ p.from ∷ p.to ∷ bit i ∷ []
token_words (Punctuation c) start end = 4 ∷ start ∷ end ∷ 0 ∷ 0 ∷ c ∷ []
token_words (Identifier p) start end = 5 ∷ start ∷ end ∷ p.from ∷ p.to ∷ 0 ∷ []

-- the words of an answer
abbrev pub answer_words : Result Token Stop → List ℕ
answer_words (Ok (Of k start end)) = token_words k start end
answer_words (Ok (Eof at)) = 6 ∷ at ∷ 0 ∷ 0 ∷ 0 ∷ 0 ∷ []
answer_words (Err stop) = 7 ∷ stop.place ∷ cause_number stop.cause ∷ 0 ∷ 0 ∷ 0 ∷ []

-- the words of what the lexer answers
pub record Answers (s : List ℕ) (from : ℕ) (out after : List ℕ) : Type 0 where
  pub lexed : Result Token Stop
  pub reads : Reads s from lexed
  pub words : after ≡ laid (answer_words lexed) out

-- the number of an answer: how many spans there are, or one of two numbers that no set reaches
abbrev pub ranges_number : Result ℕ Cause → ℕ
ranges_number (Ok n) = n
ranges_number (Err ReversedSpan) = 0xFFFFFFFFFFFFFFFE
ranges_number (Err _) = 0xFFFFFFFFFFFFFFFF

-- the number of what a set answers
pub record RangesSay (ss : List Span) (r : ℕ) : Type 0 where
  pub ranges : Result ℕ Cause
  pub checks : Checks ss ranges
  pub says : r ≡ ranges_number ranges
