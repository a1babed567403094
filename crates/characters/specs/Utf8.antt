-- UTF-8 by Unicode's table 3-7, Well-Formed UTF-8 Byte Sequences, and table 3-6, the bits of a code. Numbers as the tables have them.
-- Assumes nothing.
use Rattle.std.specs.Prelude.{Option, Some, None, Result, Ok, Err, Bool, ◌&&◌, ◌||◌, List, [], ◌∷◌, ◌++◌, ℕ, zero, suc, ◌+◌, ◌-◌, ◌*◌, ◌/◌, ◌%◌, leb, ltb, eqb, length, get_or}
use Rattle.basics.specs.Basics.{if◌then◌otherwise◌, within}
use Rattle.characters.specs.declared.IllFormed.{IllFormed}

-- an ill-formed sequence by its place
abbrev pub ill_at : ℕ → IllFormed
ill_at p = record { at = p }

-- the first two columns of a row of table 3-7: a first byte from alo to ahi, a second from blo to bhi
unfoldable pub row : (alo ahi blo bhi a b : ℕ) → Bool
row alo ahi blo bhi a b = within alo ahi a && within blo bhi b

-- how many bytes the row takes that the first two bytes lie in; 0 where they lie in none
unfoldable pub lead_len : (a b : ℕ) → ℕ
lead_len a b =
    if within 0x00 0x7F a then 1
    otherwise if row 0xC2 0xDF 0x80 0xBF a b then 2
    otherwise if row 0xE0 0xE0 0xA0 0xBF a b then 3
    otherwise if row 0xE1 0xEC 0x80 0xBF a b then 3
    otherwise if row 0xED 0xED 0x80 0x9F a b then 3
    otherwise if row 0xEE 0xEF 0x80 0xBF a b then 3
    otherwise if row 0xF0 0xF0 0x90 0xBF a b then 4
    otherwise if row 0xF1 0xF3 0x80 0xBF a b then 4
    otherwise if row 0xF4 0xF4 0x80 0x8F a b then 4
    otherwise 0

-- the character of n bytes, which begin a, b, c, d: its third and fourth column of table 3-7, its code by table 3-6
unfoldable pub char_of : (n a b c d : ℕ) → Option (ℕ × ℕ)
char_of n a b c d =
    if eqb n 1 then Some (a, 1)
    otherwise if eqb n 2 then Some (a % 32 * 64 + b % 64, 2)
    otherwise if eqb n 3 && within 0x80 0xBF c then Some (a % 16 * 4096 + b % 64 * 64 + c % 64, 3)
    otherwise if eqb n 4 && (within 0x80 0xBF c && within 0x80 0xBF d) then Some (a % 8 * 262144 + b % 64 * 4096 + c % 64 * 64 + d % 64, 4)
    otherwise None

-- the first character of a text. Past the end get_or gives 0, which is no trailing byte
unfoldable pub first_char : List ℕ → Option (ℕ × ℕ)
first_char [] = None
first_char (a ∷ l) = char_of (lead_len a (get_or l 0 0)) a (get_or l 0 0) (get_or l 1 0) (get_or l 2 0)

-- by the code and the length of a character; or the other where there is none
unfoldable pub on_char {ℓ} : {A : Type ℓ} → Option (ℕ × ℕ) → (ℕ → ℕ → A) → A → A
on_char (Some (c, n)) f y = f c n
on_char None f y = y

-- the first place where no character stands. Taken are how many bytes of the character in hand are still to pass, the place, and
-- the rest of the text
unfoldable pub check_from : (left place : ℕ) → List ℕ → Result (Unit {0}) IllFormed
check_from j at [] = Ok tt
check_from (suc j) at (x ∷ xs) = check_from j (at + 1) xs
check_from zero at (x ∷ xs) = on_char (first_char (x ∷ xs)) (λ _ n. check_from (n - 1) (at + 1) xs) (Err (ill_at at))

-- a text is UTF-8, or its first ill-formed sequence starts at a place
unfoldable pub check : List ℕ → Result (Unit {0}) IllFormed
check text = check_from 0 0 text

-- the characters of a text up to its end, or to its first ill-formed sequence; of the bytes the first j belong to the character before
unfoldable pub codes_from : (left : ℕ) → List ℕ → List ℕ
codes_from j [] = []
codes_from (suc j) (x ∷ xs) = codes_from j xs
codes_from zero (x ∷ xs) = on_char (first_char (x ∷ xs)) (λ c n. c ∷ codes_from (n - 1) xs) []

-- the characters of a text up to its end, or to its first ill-formed sequence
abbrev pub codes : List ℕ → List ℕ
codes text = codes_from 0 text

-- the codes that UTF-8 writes: all up to 0x10FFFF but the surrogates
unfoldable pub is_scalar : ℕ → Bool
is_scalar c = ltb c 0xD800 || (leb 0xE000 c && ltb c 0x110000)

-- the bytes of a code, by table 3-6
unfoldable pub encode : ℕ → List ℕ
encode c =
    if ltb c 0x80 then c ∷ []
    otherwise if ltb c 0x800 then (0xC0 + c / 64) ∷ (0x80 + c % 64) ∷ []
    otherwise if ltb c 0x10000 then (0xE0 + c / 4096) ∷ (0x80 + c / 64 % 64) ∷ (0x80 + c % 64) ∷ []
    otherwise (0xF0 + c / 262144) ∷ (0x80 + c / 4096 % 64) ∷ (0x80 + c / 64 % 64) ∷ (0x80 + c % 64) ∷ []

-- the bytes of a text
unfoldable pub encode_all : List ℕ → List ℕ
encode_all [] = []
encode_all (c ∷ cs) = encode c ++ encode_all cs

-- how many bytes a code takes
abbrev pub width : ℕ → ℕ
width c = length (encode c)
