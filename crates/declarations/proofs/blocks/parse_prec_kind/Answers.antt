-- `blocks::parse_prec_kind` meets its contract.
-- Assumes nothing.
use Rattle.basics.specs.Basics.{every}
use Rattle.declarations.proofs.BlocksLaws.{word_yes, left_not, left_yes, right_not, right_yes, cut_not, cut_yes, kind-none, prec_got}
use Rattle.parser.proofs.Onward.{onward-here}
use Rattle.tokens.proofs.Stops.{stopped}
use Rattle.tokens.proofs.Stream.{at-whole}
use mathlib.Core.Path.{refl}
use Rattle.declarations.proofs.blocks.parse_prec_kind.Goals as goal

pub eat_at-requires : goal.eat_at-requires
eat_at-requires c = at-whole _ c.args.token 0 c.requires

pub eat_at-requires-2 : goal.eat_at-requires-2
eat_at-requires-2 c = at-whole _ c.args.token 0 c.requires

pub eat_at-requires-3 : goal.eat_at-requires-3
eat_at-requires-3 c = at-whole _ c.args.token 0 c.requires

pub returns-in_err-after : goal.returns-in_err-after
unfolding every
returns-in_err-after c = rw (stopped c.from_residual.result c.from_residual.ensures.1) (left_not _ (c.in_err-after.ensures.eats "left" refl refl))

pub returns-in-Some : goal.returns-in-Some
unfolding every
returns-in-Some c = let y = word_yes _ "left" c.args.token refl c.requires (rw c.in-Some.is at c.in_ok-after.ensures) in prec_got (left_yes _ y.0) y.1

pub returns-in_err-after-2 : goal.returns-in_err-after-2
unfolding every
returns-in_err-after-2 c = rw (stopped c.from_residual-in_err-after-2.result c.from_residual-in_err-after-2.ensures.1) (right_not _ ((rw c.in_default.is at c.in_ok-after.ensures).eats "left" refl refl) (c.in_err-after-2.ensures.eats "right" refl refl))

pub returns-in-Some-2 : goal.returns-in-Some-2
unfolding every
returns-in-Some-2 c = let y = word_yes _ "right" c.args.token refl c.requires (rw c.in-Some-2.is at c.in_ok-after-2.ensures) in prec_got (right_yes _ ((rw c.in_default.is at c.in_ok-after.ensures).eats "left" refl refl) y.0) y.1

pub returns-in_err-after-3 : goal.returns-in_err-after-3
unfolding every
returns-in_err-after-3 c = rw (stopped c.from_residual-in_err-after-3.result c.from_residual-in_err-after-3.ensures.1) (cut_not _ ((rw c.in_default.is at c.in_ok-after.ensures).eats "left" refl refl) ((rw c.in_default-2.is at c.in_ok-after-2.ensures).eats "right" refl refl) (c.in_err-after-3.ensures.eats "cut" refl refl))

pub returns-in-Some-3 : goal.returns-in-Some-3
unfolding every
returns-in-Some-3 c = let y = word_yes _ "cut" c.args.token refl c.requires (rw c.in-Some-3.is at c.in_ok-after-3.ensures) in prec_got (cut_yes _ ((rw c.in_default.is at c.in_ok-after.ensures).eats "left" refl refl) ((rw c.in_default-2.is at c.in_ok-after-2.ensures).eats "right" refl refl) y.0) y.1

pub returns : goal.returns
unfolding every
returns c = prec_got (kind-none _ ((rw c.in_default.is at c.in_ok-after.ensures).eats "left" refl refl) ((rw c.in_default-2.is at c.in_ok-after-2.ensures).eats "right" refl refl) ((rw c.in_default-3.is at c.in_ok-after-3.ensures).eats "cut" refl refl)) (onward-here _ c.args.token c.requires)
