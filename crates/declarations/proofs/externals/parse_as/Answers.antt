-- `externals::parse_as` meets its contract.
-- Assumes nothing.
use Rattle.declarations.proofs.PropLaws.{as_plain, as_refused, as_same, as_taken}
use Rattle.declarations.proofs.SourceLaws.{word-onward}
use Rattle.tokens.proofs.Stops.{stopped}
use Rattle.tokens.proofs.Stream.{name-whole}
use mathlib.Core.Path.{refl}
use Rattle.declarations.proofs.externals.parse_as.Goals as goal

pub eat_identifier_value-requires : goal.eat_identifier_value-requires
eat_identifier_value-requires c = name-whole _ c.args.token 0 c.requires.0

pub returns-in_err-renamed : goal.returns-in_err-renamed
returns-in_err-renamed c = rw (stopped c.from_residual.result c.from_residual.ensures.1) (as_refused _ _ c.args.name (c.in_err-renamed.ensures.eats "as" refl as_plain))

pub returns-in-None : goal.returns-in-None
returns-in-None c = as_same _ _ _ c.requires.1 c.requires.0 ((rw c.in-None.is at c.in_ok-renamed.ensures).eats "as" refl as_plain)

pub returns-in-Some : goal.returns-in-Some
returns-in-Some c =
    let k = rw c.in-Some.is at c.in_ok-renamed.ensures in
    as_taken _ _ _ c.requires.1 (k.eats "as" refl as_plain) (word-onward "as" _ _ as_plain c.requires.0 k) c.parse_identifier.result c.parse_identifier.ensures
