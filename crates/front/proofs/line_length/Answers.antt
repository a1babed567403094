-- `line_length` meets its contract. Assumes nothing.
use Rattle.front.proofs.Differences.{first-line, last-line}
use Rattle.front.proofs.line_length.Goals as goal

pub returns-then-n-text : goal.returns-then-n-text
returns-then-n-text c = first-line _ _ c.bare_length-n.ensures c.if-n-text.true

pub returns-else-n-text : goal.returns-else-n-text
returns-else-n-text c = last-line _ _ c.bare_length-n.ensures c.if-n-text.false
