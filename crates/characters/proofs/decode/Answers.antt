-- `characters::decode` meets its contract. Assumes nothing.
use mathlib.Core.Path.{sym, ◌∙◌}
use Prim.Native.Nat.{◌<◌}
use lib.ListN.{drop_of_length-le, length}
use borrow.Author.Tests.{ltb-true, ltb-false}
use Rattle.std.proofs.lemmas.Grind.{get_or_default_zero}
use Rattle.characters.specs.Utf8.{first_char}
use Rattle.characters.specs.Places.{decode_at}
use Rattle.characters.proofs.Chars.{decoded, decoded-none}
use Rattle.characters.proofs.Laws.{ascii-by}
use Rattle.characters.proofs.decode.Goals as goal

pub returns-in_err-a : goal.returns-in_err-a
unfolding decode_at first_char
returns-in_err-a c = rw c.from_residual.ensures (simp (drop_of_length-le c.args.text.now (ltb-false _ _ (sym c.in_err-a.ensures.lookup.0))))

pub returns-then-a-lt128 : goal.returns-then-a-lt128
returns-then-a-lt128 c =
    let l : c.args.at < length c.args.text.now = ltb-true _ _ (sym c.in_ok-a.ensures.lookup.0) in
    ascii-by _ _ _ l (c.in_ok-a.ensures.lookup.1 ∙ get_or_default_zero _ _ _ l) c.if-a-lt128.true

pub returns-in_err-c : goal.returns-in_err-c
returns-in_err-c c = c.from_residual-in_err-c.ensures ∙ decoded-none _ _ c.in_err-c.ensures

pub returns : goal.returns
returns c = rw c.width.ensures (decoded _ _ c.in_ok-c.ensures)
