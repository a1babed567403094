-- What a backslash stands for, in a string and in a set alike, and the characters of such a body.
-- Assumes nothing.
use Rattle.std.specs.Prelude.{ℕ, zero, suc, ◌+◌, ◌-◌, ◌*◌, Bool, true, false, ◌&&◌, not, List, [], ◌∷◌, map, drop}
use Rattle.std.proofs.Math.Option.{Option, none, some}
use Rattle.basics.specs.Basics.{if◌then◌otherwise◌, letters, is, among, head, within}
use Rattle.characters.specs.Utf8.{is_scalar}

-- the value of a hexadecimal digit
unfoldable pub hex_digit : ℕ → Option ℕ
hex_digit c =
    if within 0x30 0x39 c then some (c - 0x30)
    otherwise if within 0x41 0x46 c then some (c - 0x37)
    otherwise if within 0x61 0x66 c then some (c - 0x57)
    otherwise none

-- an escape's character, and how many of the characters after its letter it takes
pub record Escape : Type 0 where
  pub char : ℕ
  pub taken : ℕ

-- one character more taken
abbrev pub further : Option Escape → Option Escape
further none = none
further (some e) = some (record { char = e.char; taken = suc e.taken })

-- the value of digits, where it is a character's code
unfoldable pub scalar : (value taken : ℕ) → Option Escape
scalar v n = if is_scalar v then some (record { char = v; taken = n }) otherwise none

-- exactly k digits; v is the value of those before: `decode_fixed_hex`
unfoldable pub fixed : (k v : ℕ) → List ℕ → Option Escape
fixed zero v cs = scalar v 0
fixed (suc k) v [] = none
fixed (suc k) v (c ∷ cs) = elim (hex_digit c) [ none ↦ none | some d ↦ further (fixed k (v * 16 + d) cs) ]

-- digits up to a `}`; v is the value of those before
unfoldable pub until_brace : (v : ℕ) → List ℕ → Option Escape
until_brace v [] = none
until_brace v (c ∷ cs) =
    elim (is "}" c) [
      | true ↦ scalar v 1
      | false ↦ elim (hex_digit c) [ none ↦ none | some d ↦ further (until_brace (v * 16 + d) cs) ]
    ]

-- `{`, one digit at least, `}`: `decode_hex_scalar` in its braces
unfoldable pub braced : List ℕ → Option Escape
braced cs = if is "{" (head cs) && not (is "}" (head (drop 1 cs))) then further (until_brace 0 (drop 1 cs)) otherwise none

-- the one, or else the other
abbrev pub or_else : Option Escape → Option Escape → Option Escape
or_else none b = b
or_else (some a) b = some a

-- an escape, or else the letter itself
abbrev pub or_letter : ℕ → Option Escape → Escape
or_letter e none = record { char = e; taken = 0 }
or_letter e (some a) = a

-- a letter that stands for a control character, or for itself
unfoldable pub control : ℕ → ℕ
control e =
    if is "n" e then 0x0A otherwise if is "t" e then 0x09 otherwise if is "b" e then 0x08 otherwise if is "r" e then 0x0D otherwise if is "f" e then 0x0C
    otherwise if is "0" e then 0x00 otherwise e

-- the letter e after a backslash, and cs after it
unfoldable pub escape : ℕ → List ℕ → Escape
escape e cs =
    if among (letters "uU") e then or_letter e (or_else (braced cs) (fixed 4 0 cs))
    otherwise if among (letters "xX") e then or_letter e (fixed 2 0 cs)
    otherwise record { char = control e; taken = 0 }

-- a character of a body, and whether it was escaped
pub record Atom : Type 0 where
  pub char : ℕ
  pub escaped : Bool

-- after a backslash; `rest k` is what comes after the backslash, of whose characters k are taken. A backslash at the end is nothing
abbrev pub escaped_by : List ℕ → (ℕ → List Atom) → List Atom
escaped_by [] rest = []
escaped_by (e ∷ cs) rest = record { char = (escape e cs).char; escaped = true } ∷ rest (suc (escape e cs).taken)

-- the atoms of a body, of which the first k characters belong to the atom before
unfoldable pub atoms_from : List ℕ → (k : ℕ) → List Atom
atoms_from [] k = []
atoms_from (c ∷ cs) (suc k) = atoms_from cs k
atoms_from (c ∷ cs) zero =
    elim (is "\\" c) [ true ↦ escaped_by cs (λ k. atoms_from cs k) | false ↦ record { char = c; escaped = false } ∷ atoms_from cs 0 ]

-- the atoms of a body: `set_atoms`
abbrev pub atoms : List ℕ → List Atom
atoms cs = atoms_from cs 0

-- a string's value: `decode_string`
unfoldable pub decode_string : List ℕ → List ℕ
decode_string cs = map (λ a. a.char) (atoms cs)
