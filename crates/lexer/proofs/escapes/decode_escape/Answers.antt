-- `lexer::escapes::decode_escape` meets its contract. Assumes nothing.
use native.Mathlib.Omega.{arith}
use mathlib.Core.Path.{refl, sym, ◌∙◌}
use Rattle.characters.specs.Places.{past}
use Rattle.std.proofs.lemmas.Bool.Decides.{nat_tests}
use Rattle.lexer.proofs.Escaped.{takes_as, digits-or, unicode_code, unicode_else, escape-u, escape-x, escape-other}
use Rattle.lexer.proofs.escapes.decode_escape.Goals as goal

pub returns-in-Some : goal.returns-in-Some
returns-in-Some c = let h = c.in-117.is in takes_as _ _ _ _ _ (escape-u _ _ (grind (arith, nat_tests))) (unicode_code _ _ _ _ (sym c.in-Some.is ∙ c.decode_braced.ensures))

pub returns-in-None : goal.returns-in-None
returns-in-None c = let h = c.in-117.is in
    takes_as _ _ _ _ _ (escape-u _ _ (grind (arith, nat_tests)))
    (unicode_else _ _ _ _ (sym c.in-None.is ∙ c.decode_braced.ensures) (rw c.unwrap_or.ensures (digits-or _ _ _ _ _ c.decode_fixed_hex.ensures)))

pub returns-in-120 : goal.returns-in-120
returns-in-120 c = let h = c.in-120.is in
    takes_as _ _ _ _ _ (escape-x _ _ (grind (arith, nat_tests)) (grind (arith, nat_tests)))
    (rw c.unwrap_or-in-120.ensures (digits-or _ _ _ _ _ c.decode_fixed_hex-in-120.ensures))

pub returns-in_default : goal.returns-in_default
unfolding past
returns-in_default c = let h = c.in_default.in_default-own.rest in takes_as _ _ _ _ _ (escape-other _ _ h.0.1 h.1) (record { char = c.control_code.ensures; ends = refl })
