-- `tree::Tree::structurally_eq` meets its contract. The loop's invariant: the records that are left are the same just where all are.
-- Assumes nothing.
use Prim.Native.Nat.{◌+◌, ◌-◌}
use mathlib.Core.Bool.{Bool}
use mathlib.Core.Path.{ap, sym, ◌∙◌}
use native.Mathlib.Omega.{arith}
use Rattle.std.proofs.Common.{Ok}
use Rattle.tree.specs.OneTree.{is_expression}
use Rattle.tree.proofs.Equal.{from_yes, from_no, from-none, tree_of, inside, unequal, by-records}
use Rattle.tree.proofs.Tree.structurally_eq.Goals as goal

pub returns-then-self-other : goal.returns-then-self-other
returns-then-self-other c = unequal (tree_of is_expression _ _ (sym c.if-not-is_tree.false ∙ c.is_tree.ensures)) (tree_of is_expression _ _ (sym c.if-not-is_tree-2.false ∙ c.is_tree-2.ensures)) c.if-self-other.true

pub same_record-requires-clause-left : goal.same_record-requires-clause-left
same_record-requires-clause-left c = inside _ (tree_of is_expression _ _ (sym c.if-not-is_tree.false ∙ c.is_tree.ensures)) (omega (arith, c.count-i-end.ensures))

pub same_record-requires-clause-right : goal.same_record-requires-clause-right
same_record-requires-clause-right c = inside _ (tree_of is_expression _ _ (sym c.if-not-is_tree-2.false ∙ c.is_tree-2.ensures)) (omega (arith, c.count-i-end.ensures, c.if-self-other.false))

pub returns-then-not-same_record : goal.returns-then-not-same_record
returns-then-not-same_record c = sym (by-records (tree_of is_expression _ _ (sym c.if-not-is_tree.false ∙ c.is_tree.ensures)) (tree_of is_expression _ _ (sym c.if-not-is_tree-2.false ∙ c.is_tree-2.ensures)) c.count-i-end.result c.count-i-end.ensures c.if-self-other.false
    ∙ ap (λ (b : Bool). Ok b) (sym c.loop-i.invariant ∙ from_no _ _ _ _ c.loop-i.i (c.count-i-end.result - c.loop-i.i) (c.count-i-end.result - (c.loop-i.i + 1)) (omega arith) (sym c.same_record.ensures ∙ c.if-not-same_record.true)))

pub loop-i-preserved : goal.loop-i-preserved
loop-i-preserved c =
    sym (from_yes _ _ _ _ c.loop-i.i (c.count-i-end.result - c.loop-i.i) (c.count-i-end.result - (c.loop-i.i + 1)) (omega arith) (sym c.same_record.ensures ∙ c.if-not-same_record.false)) ∙ c.loop-i.invariant

pub returns : goal.returns
returns c = sym (by-records (tree_of is_expression _ _ (sym c.if-not-is_tree.false ∙ c.is_tree.ensures)) (tree_of is_expression _ _ (sym c.if-not-is_tree-2.false ∙ c.is_tree-2.ensures)) c.count-i-end.result c.count-i-end.ensures c.if-self-other.false
    ∙ ap (λ (b : Bool). Ok b) (sym c.loop-i.invariant ∙ from-none _ _ _ _ c.loop-i.i (c.count-i-end.result - c.loop-i.i) (omega arith)))
