-- `store::Store::put_string_numbered` meets its contract.
-- Assumes nothing.
use mathlib.Core.Path.{ap, ◌∙◌}
use lib.ListN.{length}
use Rattle.parser.proofs.Stored.{stores_one}
use Rattle.parser.proofs.store.Store.put_string_numbered.Goals as goal

pub returns-clause-stores : goal.returns-clause-stores
returns-clause-stores c =
    let kept = c.put_value-size.ensures.taken in
    let put = c.put_record.ensures.taken in
    rw (kept.0, kept.1, kept.2) at (stores_one _ c.put_value-size.ensures.size.0 put.0 put.1 c.put_record.ensures.words (ap length put.2 ∙ c.put_value-size.ensures.len)
    (λ h. rw kept.1 (put.2 ∙ c.put_value-size.ensures.value (rw kept.1 at h))))
