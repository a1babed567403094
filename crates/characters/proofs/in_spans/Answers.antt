-- `characters::in_spans` meets its contract. Assumes nothing.
use mathlib.Core.Path.{sym}
use Rattle.characters.proofs.Tables.{in-spans}
use Rattle.characters.proofs.in_spans.Goals as goal

pub returns : goal.returns
returns c = λ ss e. sym (in-spans ss c.args.code c.count_upto.result (rw e c.count_upto.ensures))
