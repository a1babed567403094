-- `words::which_external` meets its contract.
-- Assumes nothing.
use mathlib.Core.Path.{refl}
use Rattle.basics.specs.Basics.{every}
use Rattle.reader.specs.Words.{external_of}
use Rattle.reader.proofs.TopLaws.{says-word}
use Rattle.reader.proofs.words.which_external.Goals as goal

pub returns-then-says : goal.returns-then-says
unfolding every external_of
returns-then-says c = rw (external_of, says-word "tokens" refl c.says.ensures refl c.if-says.true)

pub returns-then-says-2 : goal.returns-then-says-2
unfolding every external_of
returns-then-says-2 c = rw (external_of, says-word "tokens" refl c.says.ensures refl c.if-says.false, says-word "prop" refl c.says-2.ensures refl c.if-says-2.true)

pub returns-then-says-3 : goal.returns-then-says-3
unfolding every external_of
returns-then-says-3 c = rw (external_of, says-word "tokens" refl c.says.ensures refl c.if-says.false, says-word "prop" refl c.says-2.ensures refl c.if-says-2.false, says-word "extend" refl c.says-3.ensures refl c.if-says-3.true)

pub returns-then-says-4 : goal.returns-then-says-4
unfolding every external_of
returns-then-says-4 c = rw (external_of, says-word "tokens" refl c.says.ensures refl c.if-says.false, says-word "prop" refl c.says-2.ensures refl c.if-says-2.false, says-word "extend" refl c.says-3.ensures refl c.if-says-3.false, says-word "specialize" refl c.says-4.ensures refl c.if-says-4.true)

pub returns-then-says-5 : goal.returns-then-says-5
unfolding every external_of
returns-then-says-5 c = rw (external_of, says-word "tokens" refl c.says.ensures refl c.if-says.false, says-word "prop" refl c.says-2.ensures refl c.if-says-2.false, says-word "extend" refl c.says-3.ensures refl c.if-says-3.false, says-word "specialize" refl c.says-4.ensures refl c.if-says-4.false, says-word "propSource" refl c.says-5.ensures refl c.if-says-5.true)

pub returns : goal.returns
unfolding every external_of
returns c = rw (external_of, says-word "tokens" refl c.says.ensures refl c.if-says.false, says-word "prop" refl c.says-2.ensures refl c.if-says-2.false, says-word "extend" refl c.says-3.ensures refl c.if-says-3.false, says-word "specialize" refl c.says-4.ensures refl c.if-says-4.false, says-word "propSource" refl c.says-5.ensures refl c.if-says-5.false)
