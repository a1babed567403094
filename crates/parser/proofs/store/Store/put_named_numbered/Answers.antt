-- `store::Store::put_named_numbered` meets its contract.
-- Assumes nothing.
use mathlib.Core.Path.{ap, ◌∙◌}
use lib.ListN.{length}
use Rattle.characters.proofs.Written.{length-written}
use Rattle.parser.proofs.Stored.{stores_one}
use Rattle.parser.proofs.store.Store.put_named_numbered.Goals as goal

pub returns-clause-stores : goal.returns-clause-stores
returns-clause-stores c =
    let put = c.put_record.ensures.taken in
    let text = put.2 ∙ c.put_text-size.ensures.1 in
    stores_one _ c.put_text-size.ensures.0 put.0 put.1 c.put_record.ensures.words (ap length text ∙ length-written _ _ _) (λ h. text)
