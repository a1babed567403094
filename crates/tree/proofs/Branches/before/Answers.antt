-- `tree::Branches::before` meets its contract. Assumes nothing.
use mathlib.Core.Path.{sym}
use native.Mathlib.Omega.{arith}
use Rattle.tree.proofs.Back.{first-low}
use Rattle.tree.proofs.Matching.{rest}
use Rattle.tree.proofs.Branches.before.Goals.{then-left-eq0, else-left-eq0}
use Rattle.tree.proofs.Branches.before.Goals as goal

pub invariant_of-result : goal.invariant_of-result
invariant_of-result c = record {
  inside =
      elim c.if-left-eq0.branch [
        | then-left-eq0 w ↦ omega (arith, w.end-is, c.args.self.inside)
        | else-left-eq0 w ↦ omega (arith, w.end-is, w.first-end.ensures, first-low c.args.self.records.now c.args.self.end 1, c.args.self.inside)
      ];
}

pub returns-clause-kinds : goal.returns-clause-kinds
returns-clause-kinds c =
    sym (rest c.args.self.records.now c.if-left-eq0.end c.args.self.end c.args.self.left c.requires (λ h.
    elim c.if-left-eq0.branch [
      | then-left-eq0 w ↦ absurd (omega arith)
      | else-left-eq0 w ↦ omega (arith, w.end-is, w.first-end.ensures)
    ]))
