-- What the call `structurally_eq` comes to.
-- Assumes nothing.
use Prim.Native.Nat.{ℕ}
use mathlib.Core.Path.{◌≡◌, refl}
use mathlib.Core.Bool.{Bool}
use mathlib.Core.List.{List, []}
use mathlib.Core.Option.{Option, none, some}
use Rattle.error.specs.Causes.{not_a_tree}
use Rattle.error.specs.Lines.{line_at, column_at, line_feeds, line_start, refusal_at}
use Rattle.error.specs.Promise.{refusal_of}
use Rattle.error.specs.declared.Refusal as declared
use Rattle.tree.specs.Records.{Branch}
use Rattle.tree.specs.OneTree.{is_expression, build}
use Rattle.std.specs.Prelude.{Result, Ok, Err}
use Rattle.tree.specs.Promise.{comparison}
use Rattle.tree.specs.declared.NotATree.{NotATree}
use Rattle.grammar.specs.Calls as Calls
use Rattle.grammar.specs.Calls.{compare_by, compare}
use Rattle.calls.specs.Promise.{CompareTo}

-- place 0 is line 1 and column 0 of any text
pub refused-first : (s : List ℕ) (c : ℕ) → refusal_at s c 0 ≡ refusal_at [] c 0
unfolding refusal_at line_at column_at line_feeds line_start
refused-first s c = refl

-- an answer of the tree's comparison as one of the call's
abbrev answer_of : Result Bool NotATree → Calls.CompareAnswer
answer_of (Ok e) = Calls.CompareAnswer.compared e
answer_of (Err d) = Calls.CompareAnswer.refused (refusal_at [] not_a_tree 0)

compared_as : (a b : Option Branch) → answer_of (comparison a b) ≡ compare_by a b
compared_as (some a) (some b) = refl
compared_as (some a) none = refl
compared_as none b = refl

module _ (ls lts rs rts : List ℕ) where
  is : {r : Result Bool NotATree} → r ≡ comparison (build is_expression ls lts) (build is_expression rs rts) → answer_of r ≡ compare ls lts rs rts
  unfolding compare
  is e = rw e (compared_as (build is_expression ls lts) (build is_expression rs rts))

  pub compared : {b : Bool} → Ok b ≡ comparison (build is_expression ls lts) (build is_expression rs rts) → CompareTo ls lts rs rts (Ok b)
  compared e = is e

  pub compared_not : {d : NotATree} → Err d ≡ comparison (build is_expression ls lts) (build is_expression rs rts) → (f : declared.Refusal) → refusal_of f ≡ refusal_at lts not_a_tree 0
      → CompareTo ls lts rs rts (Err f)
  compared_not e f i = rw (i, refused-first lts not_a_tree) (is e)
