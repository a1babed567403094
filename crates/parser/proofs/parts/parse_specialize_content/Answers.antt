-- `parts::parse_specialize_content` meets its contract.
-- Assumes nothing.
use Rattle.parser.proofs.HeadRules.{content-part, content-stored, short_asks, content_refused}
use Rattle.parser.proofs.Ready.{part-short}
use Rattle.parser.proofs.Stored.{kept_here}
use native.Mathlib.Omega.{arith}
use Rattle.parser.proofs.parts.parse_specialize_content.Goals as goal

pub put_string-requires : goal.put_string-requires
put_string-requires c = rw c.of.ensures (short_asks c.requires.small (part-short _ (content-part c.requires c.in-Literal.is)) c.requires.starts (omega arith) c.requires.room c.requires.space)

pub returns-in_default : goal.returns-in_default
returns-in_default c = record { kept = kept_here _; stores = content_refused _ _ _ _ c.in_default.not-Literal }

pub returns-clause-stores : goal.returns-clause-stores
returns-clause-stores c = content-stored c.requires c.in-Literal.is (rw c.of.ensures at c.put_string.ensures.stores) (rw c.of.ensures at c.put_string.ensures.few)
