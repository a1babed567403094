-- `words::which_directive` meets its contract.
-- Assumes nothing.
use mathlib.Core.Path.{refl}
use Rattle.basics.specs.Basics.{every}
use Rattle.reader.specs.Words.{directive_of}
use Rattle.reader.proofs.TopLaws.{says-word}
use Rattle.reader.proofs.words.which_directive.Goals as goal

pub returns-then-says : goal.returns-then-says
unfolding every directive_of
returns-then-says c = rw (directive_of, says-word "top" refl c.says.ensures refl c.if-says.true)

pub returns-then-says-2 : goal.returns-then-says-2
unfolding every directive_of
returns-then-says-2 c = rw (directive_of, says-word "top" refl c.says.ensures refl c.if-says.false, says-word "tokens" refl c.says-2.ensures refl c.if-says-2.true)

pub returns-then-says-3 : goal.returns-then-says-3
unfolding every directive_of
returns-then-says-3 c = rw (directive_of, says-word "top" refl c.says.ensures refl c.if-says.false, says-word "tokens" refl c.says-2.ensures refl c.if-says-2.false, says-word "local" refl c.says-3.ensures refl c.if-says-3.true)

pub returns-then-says-4 : goal.returns-then-says-4
unfolding every directive_of
returns-then-says-4 c = rw (directive_of, says-word "top" refl c.says.ensures refl c.if-says.false, says-word "tokens" refl c.says-2.ensures refl c.if-says-2.false, says-word "local" refl c.says-3.ensures refl c.if-says-3.false, says-word "context" refl c.says-4.ensures refl c.if-says-4.true)

pub returns-then-says-5 : goal.returns-then-says-5
unfolding every directive_of
returns-then-says-5 c = rw (directive_of, says-word "top" refl c.says.ensures refl c.if-says.false, says-word "tokens" refl c.says-2.ensures refl c.if-says-2.false, says-word "local" refl c.says-3.ensures refl c.if-says-3.false, says-word "context" refl c.says-4.ensures refl c.if-says-4.false, says-word "external" refl c.says-5.ensures refl c.if-says-5.true)

pub returns-then-says-6 : goal.returns-then-says-6
unfolding every directive_of
returns-then-says-6 c = rw (directive_of, says-word "top" refl c.says.ensures refl c.if-says.false, says-word "tokens" refl c.says-2.ensures refl c.if-says-2.false, says-word "local" refl c.says-3.ensures refl c.if-says-3.false, says-word "context" refl c.says-4.ensures refl c.if-says-4.false, says-word "external" refl c.says-5.ensures refl c.if-says-5.false, says-word "dialects" refl c.says-6.ensures refl c.if-says-6.true)

pub returns-then-says-7 : goal.returns-then-says-7
unfolding every directive_of
returns-then-says-7 c = rw (directive_of, says-word "top" refl c.says.ensures refl c.if-says.false, says-word "tokens" refl c.says-2.ensures refl c.if-says-2.false, says-word "local" refl c.says-3.ensures refl c.if-says-3.false, says-word "context" refl c.says-4.ensures refl c.if-says-4.false, says-word "external" refl c.says-5.ensures refl c.if-says-5.false, says-word "dialects" refl c.says-6.ensures refl c.if-says-6.false, says-word "precedence" refl c.says-7.ensures refl c.if-says-7.true)

pub returns-then-says-8 : goal.returns-then-says-8
unfolding every directive_of
returns-then-says-8 c = rw (directive_of, says-word "top" refl c.says.ensures refl c.if-says.false, says-word "tokens" refl c.says-2.ensures refl c.if-says-2.false, says-word "local" refl c.says-3.ensures refl c.if-says-3.false, says-word "context" refl c.says-4.ensures refl c.if-says-4.false, says-word "external" refl c.says-5.ensures refl c.if-says-5.false, says-word "dialects" refl c.says-6.ensures refl c.if-says-6.false, says-word "precedence" refl c.says-7.ensures refl c.if-says-7.false, says-word "detectDelim" refl c.says-8.ensures refl c.if-says-8.true)

pub returns-then-says-9 : goal.returns-then-says-9
unfolding every directive_of
returns-then-says-9 c = rw (directive_of, says-word "top" refl c.says.ensures refl c.if-says.false, says-word "tokens" refl c.says-2.ensures refl c.if-says-2.false, says-word "local" refl c.says-3.ensures refl c.if-says-3.false, says-word "context" refl c.says-4.ensures refl c.if-says-4.false, says-word "external" refl c.says-5.ensures refl c.if-says-5.false, says-word "dialects" refl c.says-6.ensures refl c.if-says-6.false, says-word "precedence" refl c.says-7.ensures refl c.if-says-7.false, says-word "detectDelim" refl c.says-8.ensures refl c.if-says-8.false, says-word "skip" refl c.says-9.ensures refl c.if-says-9.true)

pub returns : goal.returns
unfolding every directive_of
returns c = rw (directive_of, says-word "top" refl c.says.ensures refl c.if-says.false, says-word "tokens" refl c.says-2.ensures refl c.if-says-2.false, says-word "local" refl c.says-3.ensures refl c.if-says-3.false, says-word "context" refl c.says-4.ensures refl c.if-says-4.false, says-word "external" refl c.says-5.ensures refl c.if-says-5.false, says-word "dialects" refl c.says-6.ensures refl c.if-says-6.false, says-word "precedence" refl c.says-7.ensures refl c.if-says-7.false, says-word "detectDelim" refl c.says-8.ensures refl c.if-says-8.false, says-word "skip" refl c.says-9.ensures refl c.if-says-9.false)
