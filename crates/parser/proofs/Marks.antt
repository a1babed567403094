-- Marks of repeats and of markers, and the items of a sequence.
-- Assumes nothing.
use Prim.Native.Nat.{ℕ, ◌+◌, ◌≤◌}
use native.Mathlib.Omega.{arith}
use mathlib.Core.Path.{◌≡◌, sym, ◌∙◌}
use mathlib.Core.List.{List, [], ◌∷◌}
use mathlib.Core.Option as M
use mathlib.Core.Option.{none, some}
use Rattle.std.specs.Prelude.{Option, Some, None}
use lib.ListN.{length, length-append}
use Rattle.tree.specs.declared.ConflictMarkerKind.{ConflictMarkerKind as Declared}
use Rattle.tree.specs.Promise.{marker_of}
use Rattle.tree.specs.Stored.{expression_branch, marker_branch}
use Rattle.tree.specs.Syntax.{ConflictMarkerKind}
use Rattle.notation.specs.Parser.{Answer}
use Rattle.notation.specs.Expressions.{Item, marker, expression, marker_mark}
use Rattle.tokens.specs.Promise.{mark_of}
use Rattle.parser.specs.Storing.{Lent, flat}
use Rattle.parser.specs.Shapes.{IsToken, marked_of, item_nodes, YieldsItems}
use Rattle.lexer.specs.declared.Token.{Token}
use Rattle.lexer.specs.declared.Token.TheVariants.{Of, Eof}
use Rattle.parser.specs.declared.parts.Shape.{Shape}
use Rattle.parser.proofs.Onward.{placed_in}
use Rattle.tree.proofs.Back.{nodes-some}

module _ {o : M.Option ConflictMarkerKind} where
  pub marked-some : {r : Option Declared} {k : Declared} → marked_of r ≡ o → r ≡ Some k → o ≡ some (marker_of k)
  marked-some h e = sym h ∙ rw e

  pub marked-none : {r : Option Declared} → marked_of r ≡ o → r ≡ None → o ≡ none
  marked-none h e = sym h ∙ rw e

pub marker-token : (t : Token) {m : ConflictMarkerKind} → marker_mark (mark_of t) ≡ some m → IsToken t
marker-token (Of k start end) h = tt
marker-token (Eof p) h = absurd (let z : ◌≡◌ {A = ℕ} 0 1 = cc in omega arith)

-- each item has a node
item-some : (i : Item ℕ) → 1 ≤ length (item_nodes i)
item-some (marker m) = nodes-some (marker_branch m)
item-some (expression e) = nodes-some (expression_branch e)

pub items-few : (l : List (Item ℕ)) → length l ≤ length (flat item_nodes l)
unfolding flat
items-few [] = omega arith
items-few (i ∷ l) = let a = item-some i in let b = items-few l in let c = length-append (item_nodes i) (flat item_nodes l) in omega arith

pub items-small : {D : Answer ℕ (List (Item ℕ))} {s : List ℕ} {t u : Token} {a b : Lent} {m e p : ℕ} {shape : Shape} → YieldsItems D s t a u b m e p shape → length s ≤ 0x200000 → m + e ≤ 0x1000000
items-small {s = s} {u = u} y h =
    let a = items-few y.lists.items in
    let b = y.lists.lays.bound in
    let c = y.lists.counted in
    let d = placed_in s u y.lists.onward.lies in
    omega arith
