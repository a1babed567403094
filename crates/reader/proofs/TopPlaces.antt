-- The groups of the file by their places.
-- Assumes nothing.
use mathlib.Core.Path.{◌≡◌, refl}
use Rattle.tree.specs.Promise.{kind_number}
use Rattle.tree.specs.declared.NodeKind.{NodeKind}
use Rattle.tree.specs.declared.NodeKind.TheVariants as K
use Rattle.reader.specs.Places.{place_in}
use Rattle.reader.specs.Whole.{stored_kinds}
use Rattle.reader.proofs.PlaceLaws.{Distinct}

pub stored-distinct : Distinct stored_kinds
stored-distinct = (
  (refl, (refl, (refl, (refl, (refl, (refl, (refl, (refl, (refl, (refl, (refl, tt))))))))))),
  (
    (refl, (refl, (refl, (refl, (refl, (refl, (refl, (refl, (refl, (refl, tt)))))))))),
    (
      (refl, (refl, (refl, (refl, (refl, (refl, (refl, (refl, (refl, tt))))))))),
      (
        (refl, (refl, (refl, (refl, (refl, (refl, (refl, (refl, tt)))))))),
        (
          (refl, (refl, (refl, (refl, (refl, (refl, (refl, tt))))))),
          (
            (refl, (refl, (refl, (refl, (refl, (refl, tt)))))),
            (
              (refl, (refl, (refl, (refl, (refl, tt))))),
              (
                (refl, (refl, (refl, (refl, tt)))),
                (
                  (refl, (refl, (refl, tt))),
                  ((refl, (refl, tt)), ((refl, tt), (tt, tt))),
                ),
              ),
            ),
          ),
        ),
      ),
    ),
  ),
)

-- a kind of no group stands behind them all
pub place-last : (n : NodeKind) → (n ≡ K.TopRule → ⊥) → (n ≡ K.Rule → ⊥) → (n ≡ K.Tokens → ⊥) → (n ≡ K.LocalTokens → ⊥) → (n ≡ K.Context → ⊥) → (n ≡ K.ExternalTokens → ⊥) → (n ≡ K.ExternalSpecializer → ⊥) → (n ≡ K.PropSource → ⊥) → (n ≡ K.Precedences → ⊥) → (n ≡ K.MainSkip → ⊥) → (n ≡ K.ScopedSkip → ⊥) → (n ≡ K.ExternalProp → ⊥) → 12 ≡ place_in stored_kinds (kind_number n)
unfolding place_in
place-last K.Grammar a b c d e f g h i j k l = refl
place-last K.TopRule a b c d e f g h i j k l = absurd (a refl)
place-last K.Rule a b c d e f g h i j k l = absurd (b refl)
place-last K.Param a b c d e f g h i j k l = refl
place-last K.Prop a b c d e f g h i j k l = refl
place-last K.PartText a b c d e f g h i j k l = refl
place-last K.PartName a b c d e f g h i j k l = refl
place-last K.Tokens a b c d e f g h i j k l = absurd (c refl)
place-last K.TokenPrecedence a b c d e f g h i j k l = refl
place-last K.TokenConflict a b c d e f g h i j k l = refl
place-last K.TokenLiteral a b c d e f g h i j k l = refl
place-last K.LocalTokens a b c d e f g h i j k l = absurd (d refl)
place-last K.NamedNode a b c d e f g h i j k l = refl
place-last K.Context a b c d e f g h i j k l = absurd (e refl)
place-last K.Source a b c d e f g h i j k l = refl
place-last K.ExternalTokens a b c d e f g h i j k l = absurd (f refl)
place-last K.ConflictName a b c d e f g h i j k l = refl
place-last K.ExternalSpecializer a b c d e f g h i j k l = absurd (g refl)
place-last K.PropSource a b c d e f g h i j k l = absurd (h refl)
place-last K.Precedences a b c d e f g h i j k l = absurd (i refl)
place-last K.PrecedenceItem a b c d e f g h i j k l = refl
place-last K.MainSkip a b c d e f g h i j k l = absurd (j refl)
place-last K.ScopedSkip a b c d e f g h i j k l = absurd (k refl)
place-last K.Dialect a b c d e f g h i j k l = refl
place-last K.ExternalProp a b c d e f g h i j k l = absurd (l refl)
place-last K.ExternalName a b c d e f g h i j k l = refl
place-last K.Name a b c d e f g h i j k l = refl
place-last K.Specialize a b c d e f g h i j k l = refl
place-last K.InlineRule a b c d e f g h i j k l = refl
place-last K.Choice a b c d e f g h i j k l = refl
place-last K.Sequence a b c d e f g h i j k l = refl
place-last K.Repeat a b c d e f g h i j k l = refl
place-last K.Literal a b c d e f g h i j k l = refl
place-last K.Set a b c d e f g h i j k l = refl
place-last K.Span a b c d e f g h i j k l = refl
place-last K.Any a b c d e f g h i j k l = refl
place-last K.Class a b c d e f g h i j k l = refl
place-last K.AmbiguityMarker a b c d e f g h i j k l = refl
place-last K.PrecedenceMarker a b c d e f g h i j k l = refl
