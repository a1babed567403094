-- `parts::put_inline` meets its contract.
-- Assumes nothing.
use Rattle.parser.proofs.HeadRules.{inline-part, short_asks}
use Rattle.parser.proofs.Ready.{part-short}
use Rattle.parser.proofs.parts.put_inline.Goals as goal

pub put_named-requires : goal.put_named-requires
put_named-requires c = rw c.of.ensures (short_asks c.requires.small (part-short _ (inline-part c.requires.part c.in-Some.is)) c.requires.starts c.requires.few c.requires.room c.requires.space)
