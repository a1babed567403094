-- `tree::Branches::end_in` meets its contract. Assumes nothing.
use mathlib.Core.Path.{◌≡◌, refl, ap, ◌∙◌}
use Rattle.basics.specs.Basics.{among}
use Rattle.tree.specs.OneTree.{begins}
use Rattle.tree.specs.Promise.{kinds_of, kinds_back}
use Rattle.tree.proofs.KindRules.{not_in}
use Rattle.tree.proofs.Matching.{none_begin, some_begin, none_begins}
use Rattle.tree.proofs.Branches.end_in.Goals as goal

pub returns-in-Some : goal.returns-in-Some
returns-in-Some c =
    let e : c.contains.result ≡ begins (kinds_of c.args.kinds) (kinds_back c.args.self.records.now c.args.self.end c.args.self.left) =
    c.contains.ensures ∙ ap (among (kinds_of c.args.kinds)) c.in-Some.ensures ∙ some_begin _ _ _ _ c.if-self-ne0.true in
    cc

pub returns-in_default : goal.returns-in_default
returns-in_default c =
    let e : c.contains.result ≡ begins (kinds_of c.args.kinds) (kinds_back c.args.self.records.now c.args.self.end c.args.self.left) =
    c.contains.ensures ∙ ap (among (kinds_of c.args.kinds)) c.in-Some.ensures ∙ some_begin _ _ _ _ c.if-self-ne0.true in
    cc

pub returns-in_default-2 : goal.returns-in_default-2
returns-in_default-2 c = none_begins _ _ _ _ (not_in c.args.kinds _ (rw c.in_default.is at c.kind_before.ensures))

pub returns-else-self-ne0 : goal.returns-else-self-ne0
returns-else-self-ne0 c = rw c.if-self-ne0.false (none_begin _ _ _ 0 refl)
