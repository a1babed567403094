-- `characters::is_ecmascript_whitespace` meets its contract. Assumes nothing.
use mathlib.Core.Path.{sym}
use mathlib.Core.Bool.{◌&&◌, true, and-true, and-false, or-true, or-false}
use borrow.Author.Tests.{ne_eqb}
use Rattle.characters.specs.Classes.{is_whitespace, is_ecmascript_whitespace}
use Rattle.characters.proofs.is_ecmascript_whitespace.Goals as goal

pub returns-in-133 : goal.returns-in-133
unfolding is_ecmascript_whitespace
returns-in-133 c = rw (c.in-133.is, and-false)

pub returns-in-65279 : goal.returns-in-65279
unfolding is_ecmascript_whitespace
returns-in-65279 c = rw c.in-65279.is (sym (or-true (is_whitespace 0xFEFF && true)))

pub returns-in_default : goal.returns-in_default
unfolding is_ecmascript_whitespace
returns-in_default c = let h = c.in_default.in_default-own.rest in simp (ne_eqb _ _ h.0.1, ne_eqb _ _ h.1, and-true, or-false, c.is_whitespace.ensures)
