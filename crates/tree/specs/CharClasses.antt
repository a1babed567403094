-- The classes of characters: their names, their values, and the codes in each.
-- Assumes nothing.
use Rattle.std.specs.Prelude.{ℕ, List, [], ◌∷◌, ◌≡◌, refl}
use Rattle.std.proofs.Math.Option.{Option, none, some}
use Rattle.basics.specs.Basics.{if◌then◌otherwise◌, spells}
use Rattle.characters.specs.Spans.{Span, ◌upto◌}
use Rattle.characters.specs.Classes.{white_space}
use Rattle.tree.specs.Syntax.{CharClass, ascii_letter, ascii_lowercase, ascii_uppercase, digit, whitespace, eof}

-- `CharClass::from_name`
abbrev pub from_name : List ℕ → Option CharClass
from_name t =
    if spells "asciiLetter" t then some ascii_letter
    otherwise if spells "asciiLowercase" t then some ascii_lowercase
    otherwise if spells "asciiUppercase" t then some ascii_uppercase
    otherwise if spells "digit" t then some digit
    otherwise if spells "whitespace" t then some whitespace
    otherwise if spells "eof" t then some eof
    otherwise none

-- the value of a class's record
abbrev pub class_value : CharClass → ℕ
class_value ascii_letter = 0
class_value ascii_lowercase = 1
class_value ascii_uppercase = 2
class_value digit = 3
class_value whitespace = 4
class_value eof = 5

-- `CharClass::ranges`
unfoldable pub ranges : CharClass → List Span
ranges ascii_letter = 65 upto 91 ∷ 97 upto 123 ∷ []
ranges ascii_lowercase = 97 upto 123 ∷ []
ranges ascii_uppercase = 65 upto 91 ∷ []
ranges digit = 48 upto 58 ∷ []
ranges whitespace =
    9 upto 14 ∷ 32 upto 33 ∷ 133 upto 134 ∷ 160 upto 161 ∷ 5760 upto 5761 ∷ 8192 upto 8203 ∷ 8232 upto 8234 ∷ 8239 upto 8240
    ∷ 8287 upto 8288 ∷ 12288 upto 12289 ∷ []
ranges eof = []

-- the class whitespace is Unicode's White_Space
pub whitespace-is_white_space : ranges whitespace ≡ white_space
unfolding ranges white_space
whitespace-is_white_space = refl
