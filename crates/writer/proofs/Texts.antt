-- What a record's own text is, what stands between lists, and what stands before a source string, by the kind in the code.
-- Assumes nothing.
use Prim.Native.Nat.{ℕ, zero, suc, ◌≤◌}
use native.Mathlib.Omega.{arith}
use mathlib.Core.Path.{◌≡◌, refl}
use mathlib.Core.Bool.{false}
use mathlib.Core.List.{List, [], ◌∷◌, ◌++◌}
use mathlib.Core.Logic.{◌⊎◌, inl, inr}
use lib.Dec.{eqb}
use Rattle.basics.specs.Basics.{among}
use Rattle.basics.proofs.Tests.{clash}
use Rattle.lexer.specs.Tokens.{Kind}
use Rattle.spelling.specs.Spelling.{quoted, spell}
use Rattle.tree.specs.Records.{Row}
use Rattle.tree.specs.OneTree.{is_kind}
use Rattle.tree.specs.Promise.{count_of, kind_number, kind_before}
use Rattle.tree.specs.declared.NodeKind.{NodeKind}
use Rattle.writer.specs.Promise.{Lent}
use Rattle.writer.specs.Walk.{class, opens, shuts, separator, between, spelled}

pub source-none : (k : NodeKind) → (k ≡ NodeKind.Source → ⊥) → eqb (kind_number k) 15 ≡ false
source-none k h = grind arith

-- no kind stands before the first record
pub class-none : {ws ts : List ℕ} → Lent ws ts → (e : ℕ) → e ≤ count_of ws → is_kind (kind_before ws e) ≡ false → 0 ≡ class (kind_before ws e)
unfolding kind_before class
class-none l zero h f = refl
class-none {ws} l (suc i) h f = clash (is_kind (kind_before ws (suc i))) (l.kinds i (omega arith)) f

module _ (r : Row) (k : NodeKind) (e : kind_number k ≡ r.kind) where
  pub spelled-string : (k ≡ NodeKind.PartText) ⊎ ((k ≡ NodeKind.TokenLiteral) ⊎ ((k ≡ NodeKind.Source) ⊎ (k ≡ NodeKind.Literal))) → spelled r ≡ spell (Kind.string (quoted r.text))
  unfolding spelled
  spelled-string (inl h) = rw (← e, h)
  spelled-string (inr (inl h)) = rw (← e, h)
  spelled-string (inr (inr (inl h))) = rw (← e, h)
  spelled-string (inr (inr (inr h))) = rw (← e, h)

  pub spelled-none : (k ≡ NodeKind.Context) ⊎ ((k ≡ NodeKind.ExternalTokens) ⊎ ((k ≡ NodeKind.ExternalSpecializer) ⊎ ((k ≡ NodeKind.PropSource) ⊎ (k ≡ NodeKind.ExternalProp)))) → spelled r ≡ []
  unfolding spelled
  spelled-none (inl h) = rw (← e, h)
  spelled-none (inr (inl h)) = rw (← e, h)
  spelled-none (inr (inr (inl h))) = rw (← e, h)
  spelled-none (inr (inr (inr (inl h)))) = rw (← e, h)
  spelled-none (inr (inr (inr (inr h)))) = rw (← e, h)

  module _ (a : k ≡ NodeKind.PartText → ⊥) (b : k ≡ NodeKind.TokenLiteral → ⊥) (c : k ≡ NodeKind.Source → ⊥) (d : k ≡ NodeKind.Literal → ⊥) (s : k ≡ NodeKind.Span → ⊥)
      (p : k ≡ NodeKind.Context → ⊥) (q : k ≡ NodeKind.ExternalTokens → ⊥) (t : k ≡ NodeKind.ExternalSpecializer → ⊥) (u : k ≡ NodeKind.PropSource → ⊥) (v : k ≡ NodeKind.ExternalProp → ⊥) where
    no-string : among (6 ∷ 11 ∷ 15 ∷ 36 ∷ []) (kind_number k) ≡ false
    no-string = grind arith

    no-span : eqb (kind_number k) 38 ≡ false
    no-span = grind arith

    no_source : among (14 ∷ 16 ∷ 18 ∷ 19 ∷ 25 ∷ []) (kind_number k) ≡ false
    no_source = grind arith

    pub spelled-name : spelled r ≡ r.text
    unfolding spelled
    spelled-name = rw (← e, no-string, no-span, no_source)

module _ (k : NodeKind) (g : k ≡ NodeKind.Grammar → ⊥) (t : k ≡ NodeKind.Tokens → ⊥) (l : k ≡ NodeKind.LocalTokens → ⊥)
    (s : k ≡ NodeKind.ScopedSkip → ⊥) (q : k ≡ NodeKind.Sequence → ⊥) (e : k ≡ NodeKind.Set → ⊥) where
  no-lines : eqb (kind_number k) 1 ≡ false
  no-lines = grind arith

  no-opener : among (8 ∷ 12 ∷ 23 ∷ 34 ∷ 37 ∷ []) (kind_number k) ≡ false
  no-opener = grind arith

  -- one list ends and another begins
  pub between-lists : (a c : ℕ) → eqb a c ≡ false → between (kind_number k) a c ≡ shuts a ++ opens (kind_number k) c
  unfolding between separator
  between-lists a c h = rw (no-lines, no-opener, h)
