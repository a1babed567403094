-- `settle` meets its contract. Assumes nothing.
use Rattle.grammar.specs.Reading.{longest}
use Rattle.front.proofs.Outcomes.{settled}
use Rattle.front.proofs.settle.Goals as goal

pub returns : goal.returns
unfolding longest
returns c = settled c.args.text.now _ _ _ c.normal_text.ensures.few c.requires.words c.requires.bytes c.requires.room _ _ _ c.normal_text.result c.normal_text.ensures.outcome
