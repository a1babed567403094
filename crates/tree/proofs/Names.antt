-- The classes of characters named by bytes, and by characters.
-- Assumes nothing.
use Prim.Native.Nat.{ℕ}
use mathlib.Core.Path.{◌≡◌, refl}
use mathlib.Core.List.{List}
use Rattle.basics.specs.Basics.{letters, every}
use Rattle.characters.specs.Utf8.{encode_all, codes}
use Rattle.characters.proofs.Spelled.{spells-codes}
use Rattle.tree.specs.CharClasses.{from_name}

-- a text that is the bytes of its characters names the same class by the one as by the other
pub names_codes : (bs : List ℕ) → encode_all (codes bs) ≡ bs → from_name bs ≡ from_name (codes bs)
unfolding every
names_codes bs e =
    rw (spells-codes (letters "asciiLetter") bs refl e, spells-codes (letters "asciiLowercase") bs refl e, spells-codes (letters "asciiUppercase") bs refl e, spells-codes (letters "digit") bs refl e, spells-codes (letters "whitespace") bs refl e, spells-codes (letters "eof") bs refl e)
