-- Spans of codes.
-- Assumes nothing.
use Rattle.std.specs.Prelude.{ℕ, Bool, false, ◌&&◌, ◌||◌, List, [], ◌∷◌, leb, ltb}

-- the codes from first up to past, which is one past the last of them
pub record Span : Type 0 where
  pub first : ℕ
  pub past : ℕ

infix 68 ◌upto◌
-- a span by its first code and one past its last
abbrev pub ◌upto◌ : ℕ → ℕ → Span
a upto b = record { first = a; past = b }

-- x lies in the span
abbrev pub in_span : Span → ℕ → Bool
in_span s x = leb s.first x && ltb x s.past

-- x lies in one of the spans
unfoldable pub in_spans : List Span → ℕ → Bool
in_spans [] x = false
in_spans (s ∷ ss) x = in_span s x || in_spans ss x
