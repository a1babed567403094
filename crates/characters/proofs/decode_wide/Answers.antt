-- `characters::decode_wide` meets its contract. Assumes nothing.
use Rattle.std.specs.Prelude.{◌≡◌}
use mathlib.Core.Path.{refl, sym, ◌∙◌}
use Rattle.std.proofs.Common.{rules}
use Rattle.characters.specs.Places.{decode_at}
use Rattle.characters.proofs.Chars.{first-decoded}
use Rattle.characters.proofs.Laws.{bytes-at}
use Rattle.characters.proofs.decode_wide.Goals as goal

pub returns : goal.returns
returns c =
    let d : c.of_bytes.result ≡ decode_at c.args.text.now c.args.at =
    c.of_bytes.ensures ∙ rw (c.byte_at-a.ensures, c.byte_at-b.ensures, c.byte_at-c.ensures, c.byte_at-d.ensures) (sym (bytes-at _ _ c.requires _ refl)) in
    first-decoded _ _ _ _ d c.map.ensures.cases (λ x y l. search rules)
