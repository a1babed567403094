-- `error::refuse` meets its contract. Assumes nothing.
use Rattle.error.specs.Lines.{refusal_at}
use Rattle.error.proofs.refuse.Goals as goal

pub returns : goal.returns
unfolding refusal_at
returns c = rw (c.line_info-line.ensures.0, c.line_info-line.ensures.1)
