-- A set is refused exactly if some span is reversed or two share a code, by the law of the lexer.
-- Assumes nothing.
use Prim.Native.Nat.{ℕ}
use mathlib.Core.List.{List}
use mathlib.Core.Logic.{◌⊎◌, inl, inr}
use Rattle.characters.specs.Spans.{Span}
use Rattle.lexer.proofs.Faults as Lexer
use Rattle.laws.specs.RefusedSets.{SomeReversed, SomeHas, TwoShare, first, later, SetsAreRefusedExactly}

reversed : {ss : List Span} → Lexer.SomeReversed ss → SomeReversed ss
reversed (Lexer.reversed-here l) = SomeReversed.here l
reversed (Lexer.reversed-there r) = SomeReversed.there (reversed r)

reversed-back : {ss : List Span} → SomeReversed ss → Lexer.SomeReversed ss
reversed-back (SomeReversed.here l) = Lexer.reversed-here l
reversed-back (SomeReversed.there r) = Lexer.reversed-there (reversed-back r)

has : {x : ℕ} {ss : List Span} → Lexer.SomeHas x ss → SomeHas x ss
has (Lexer.has_here e) = SomeHas.here e
has (Lexer.has_there h) = SomeHas.there (has h)

has-back : {x : ℕ} {ss : List Span} → SomeHas x ss → Lexer.SomeHas x ss
has-back (SomeHas.here e) = Lexer.has_here e
has-back (SomeHas.there h) = Lexer.has_there (has-back h)

share : {ss : List Span} → Lexer.TwoShare ss → TwoShare ss
share (Lexer.share-here x e h) = first x e (has h)
share (Lexer.share-there t) = later (share t)

share-back : {ss : List Span} → TwoShare ss → Lexer.TwoShare ss
share-back (first x e h) = Lexer.share-here x e (has-back h)
share-back (later t) = Lexer.share-there (share-back t)

either : {ss : List Span} → Lexer.SomeReversed ss ⊎ Lexer.TwoShare ss → SomeReversed ss ⊎ TwoShare ss
either (inl r) = inl (reversed r)
either (inr t) = inr (share t)

either-back : {ss : List Span} → SomeReversed ss ⊎ TwoShare ss → Lexer.SomeReversed ss ⊎ Lexer.TwoShare ss
either-back (inl r) = inl (reversed-back r)
either-back (inr t) = inr (share-back t)

pub sets-are-refused_exactly : SetsAreRefusedExactly
sets-are-refused_exactly ss = let l = Lexer.refused_exactly ss in (λ r. either (l.0 r), λ x. l.1 (either-back x))
