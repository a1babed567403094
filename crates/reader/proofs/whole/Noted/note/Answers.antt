-- `whole::Noted::note` meets its contract.
-- Assumes nothing.
use Rattle.reader.proofs.WholeLaws.{noted-other}
use Rattle.reader.proofs.whole.Noted.note.Goals as goal

pub returns-in_default : goal.returns-in_default
returns-in_default c =
    noted-other c.args.self c.args.token c.args.top c.args.kind c.in_default.not-Grammar c.in_default.not-Tokens c.in_default.not-Context c.in_default.not-Precedences c.in_default.not-MainSkip
    c.in_default.not-Dialect
