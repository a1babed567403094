-- `tree::Tree::is_tree` meets its contract. The loop's invariant: the branches of the records so far stand in the words, `depth` of them, and
-- the records that are left give the tree from there. Assumes nothing.
use Prim.Native.Nat.{◌+◌, ◌-◌}
use mathlib.Core.Bool.{and-false}
use mathlib.Core.Path.{ap, sym, ◌∙◌}
use native.Mathlib.Omega.{arith}
use borrow.Author.Tests.{ne_eqb}
use lib.ListN.{length}
use Rattle.tree.specs.Records.{Record}
use Rattle.tree.specs.OneTree.{record_fits}
use Rattle.tree.specs.Promise.{is_some, root_of, kinds_back}
use Rattle.tree.proofs.KindRules.{not_root}
use Rattle.tree.proofs.Trees.{grown-first, grown-few, build_broken, no-tree, too_few, misfit, kindless, grow, record_inside, ended}
use Rattle.tree.proofs.Tree.is_tree.Goals as goal

pub returns-then-n-self : goal.returns-then-n-self
returns-then-n-self c = sym (ap is_some (build_broken _ _ _ (λ e. c.if-n-self.true (rw c.count-n.ensures e))))

pub loop-i-init : goal.loop-i-init
loop-i-init c = record { room = omega arith; grown = grown-first _ _ _ _ (omega arith) }

pub returns-in_default : goal.returns-in_default
returns-in_default c = no-tree _ _ _ c.count-n.result (sym c.if-n-self.false)
    (kindless _ _ _ _ (c.count-n.result - c.loop-i.i) (c.count-n.result - c.loop-i.i - 1) (omega arith) c.loop-i.invariant.grown (rw c.in_default.is at c.read.ensures))

pub returns-then-depth-children : goal.returns-then-depth-children
returns-then-depth-children c =
    let k = ap (λ (r : Record). r.children) c.in-Some.ensures in
    no-tree _ _ _ c.count-n.result (sym c.if-n-self.false)
    (too_few _ _ _ _ (c.count-n.result - c.loop-i.i) (c.count-n.result - c.loop-i.i - 1) (omega arith) c.loop-i.invariant.grown (rw k at c.if-depth-children.true))

pub returns-then-not-fits : goal.returns-then-not-fits
returns-then-not-fits c =
    let f = ap (λ (r : Record). record_fits (length c.args.self.texts.now) c.loop-i.at r (kinds_back c.args.self.records.now c.loop-i.i r.children)) c.in-Some.ensures in
    no-tree _ _ _ c.count-n.result (sym c.if-n-self.false)
    (misfit _ _ _ _ (c.count-n.result - c.loop-i.i) (c.count-n.result - c.loop-i.i - 1) (omega arith) c.loop-i.invariant.grown (sym f ∙ sym c.fits.ensures ∙ c.if-not-fits.true))

pub overflow_add-depth : goal.overflow_add-depth
overflow_add-depth c = omega (arith, grown-few c.loop-i.invariant.grown, c.count-n.ensures)

pub loop-i-preserved : goal.loop-i-preserved
loop-i-preserved c =
    let k = ap (λ (r : Record). r.children) c.in-Some.ensures in
    let s = ap (λ (r : Record). r.size) c.in-Some.ensures in
    let f = ap (λ (r : Record). record_fits (length c.args.self.texts.now) c.loop-i.at r (kinds_back c.args.self.records.now c.loop-i.i r.children)) c.in-Some.ensures in
    let y = sym f ∙ sym c.fits.ensures ∙ c.if-not-fits.false in
    record {
      room = rw s (record_inside _ _ _ _ y c.loop-i.invariant.room).1;
      grown = rw (k, s) (grow _ _ _ _ (c.count-n.result - c.loop-i.i) (c.count-n.result - (c.loop-i.i + 1)) (omega arith) c.loop-i.invariant.grown (rw k at c.if-depth-children.false) y c.loop-i.invariant.room);
    }

pub returns-in_default-kind_before : goal.returns-in_default-kind_before
returns-in_default-kind_before c =
    rw (not_root c.args.root _ (rw c.in_default-kind_before.is at c.kind_before.ensures), and-false)
    at (ended (root_of c.args.root) _ _ c.count-n.result (sym c.if-n-self.false) (c.count-n.result - c.loop-i.i) (omega arith) (omega arith) c.loop-i.invariant.grown)

pub returns-then-depth-eq1 : goal.returns-then-depth-eq1
returns-then-depth-eq1 c =
    c.admits.ensures ∙ ap (root_of c.args.root) c.in-Some-kind_before.ensures
    ∙ rw c.if-depth-eq1.true at (ended (root_of c.args.root) _ _ c.count-n.result (sym c.if-n-self.false) (c.count-n.result - c.loop-i.i) (omega arith) (omega arith) c.loop-i.invariant.grown)

pub returns-else-depth-eq1 : goal.returns-else-depth-eq1
returns-else-depth-eq1 c =
    let e = ne_eqb _ _ c.if-depth-eq1.false in
    rw e (rw e at (ended (root_of c.args.root) _ _ c.count-n.result (sym c.if-n-self.false) (c.count-n.result - c.loop-i.i) (omega arith) (omega arith) c.loop-i.invariant.grown))
