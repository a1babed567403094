-- `store::Store::put_plain_numbered` meets its contract.
-- Assumes nothing.
use Prim.Native.Nat.{◌+◌}
use mathlib.Core.Path.{refl, ap}
use Rattle.parser.proofs.Stored.{stores-plain}
use Rattle.parser.proofs.store.Store.put_plain_numbered.Goals as goal

pub returns-clause-stores : goal.returns-clause-stores
returns-clause-stores c = stores-plain (ap (λ k. c.args.self.now.n + k) c.put_words.ensures.0) refl c.put_words.ensures.1 refl
