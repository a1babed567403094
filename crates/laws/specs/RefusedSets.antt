-- Which sets are refused, said of the spans of the body.
-- Assumes nothing.
use Rattle.std.specs.Prelude.{ℕ, ◌≤◌, ◌≡◌, true, List, ◌∷◌}
use Rattle.std.proofs.Math.Logic.{◌⊎◌}
use Rattle.std.proofs.Math.Option.{some}
use Rattle.characters.specs.Spans.{Span, in_span}
use Rattle.lexer.specs.Sets.{fault}

-- some span is reversed: it ends where it begins, or before
pub data SomeReversed : List Span → Type 0 where
  here : {s : Span} {ss : List Span} → s.past ≤ s.first → SomeReversed (s ∷ ss)
  there : {s : Span} {ss : List Span} → SomeReversed ss → SomeReversed (s ∷ ss)

-- some span has the code x
pub data SomeHas (x : ℕ) : List Span → Type 0 where
  here : {s : Span} {ss : List Span} → in_span s x ≡ true → SomeHas x (s ∷ ss)
  there : {s : Span} {ss : List Span} → SomeHas x ss → SomeHas x (s ∷ ss)

-- two share a code
pub data TwoShare : List Span → Type 0 where
  first : {s : Span} {ss : List Span} (x : ℕ) → in_span s x ≡ true → SomeHas x ss → TwoShare (s ∷ ss)
  later : {s : Span} {ss : List Span} → TwoShare ss → TwoShare (s ∷ ss)

-- "A set body is refused exactly if some span is reversed or two share a code."
abbrev pub SetsAreRefusedExactly : Type 0
SetsAreRefusedExactly =
    (ss : List Span) → ((n : ℕ) × (fault ss ≡ some n) → SomeReversed ss ⊎ TwoShare ss) × (SomeReversed ss ⊎ TwoShare ss → (n : ℕ) × (fault ss ≡ some n))
