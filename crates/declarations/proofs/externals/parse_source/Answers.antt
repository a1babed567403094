-- `externals::parse_source` meets its contract.
-- Assumes nothing.
use Rattle.declarations.proofs.SourceLaws.{word-onward, source-refused, source_no, source-taken, from-plain}
use Rattle.tokens.proofs.Stops.{stopped}
use Rattle.tokens.proofs.Stream.{name-whole}
use mathlib.Core.Path.{refl}
use Rattle.declarations.proofs.externals.parse_source.Goals as goal

pub eat_identifier_value-requires : goal.eat_identifier_value-requires
eat_identifier_value-requires c = name-whole _ c.args.token 0 c.requires

pub returns-in_err-from : goal.returns-in_err-from
returns-in_err-from c = rw (stopped c.from_residual.result c.from_residual.ensures.1) (source-refused _ _ (c.in_err-from.ensures.eats "from" refl from-plain))

pub returns-in_default : goal.returns-in_default
returns-in_default c = rw (c.unexpected.ensures.0, c.unexpected.ensures.1) (source_no _ _ ((rw c.in_default.is at c.in_ok-from.ensures).eats "from" refl from-plain))

pub returns : goal.returns
returns c =
    let k = rw c.in-Some.is at c.in_ok-from.ensures in
    source-taken _ _ (k.eats "from" refl from-plain) (word-onward "from" _ _ from-plain c.requires k) c.expect_string.result c.expect_string.ensures
