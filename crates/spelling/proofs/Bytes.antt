-- The bytes of tokens. Escaping the bytes of a text is escaping its characters: a byte of 0x80 or more is neither a quote nor a backslash.
-- Assumes nothing.
use mathlib.Core.Path.{◌≡◌, refl, sym, ◌∙◌, ap}
use mathlib.Core.Bool.{Bool, true, false, ◌||◌}
use mathlib.Core.List.{List, [], ◌∷◌, ◌++◌, append_assoc}
use Prim.Native.Nat.{ℕ, ◌*◌, ◌≤◌}
use native.Mathlib.Omega.{arith}
use lib.ListN.{length}
use borrow.Author.Tests.{ne_eqb}
use Rattle.basics.specs.Basics.{is}
use Rattle.basics.proofs.Tests.{cases}
use Rattle.characters.specs.Utf8.{encode, encode_all}
use Rattle.characters.specs.Spans.{Span}
use Rattle.characters.proofs.Encode.{encode_1, by_size}
use Rattle.lexer.specs.Tokens.{Kind}
use Rattle.spelling.specs.Spelling.{quoted, spans_text, opening, spell}
use Rattle.spelling.proofs.Back.{quoted_yes, quoted_no, by-special, Ascii, no_ascii, more-ascii, spans-ascii}

-- ------------------------------------------------------------------ a string's text, part by part

pub quoted-append : (a b : List ℕ) → quoted (a ++ b) ≡ quoted a ++ quoted b
unfolding quoted
quoted-append [] b = refl
quoted-append (c ∷ a) b =
    cases (is "\"" c || is "\\" c)
    (λ e. rw (quoted_yes c (a ++ b) e, quoted_yes c a e, quoted-append a b))
    (λ e. rw (quoted_no c (a ++ b) e, quoted_no c a e, quoted-append a b))

pub quoted-small : (t : List ℕ) → length (quoted t) ≤ length t * 2
unfolding quoted
quoted-small [] = omega arith
quoted-small (c ∷ t) =
    cases (is "\"" c || is "\\" c)
    (λ e. rw (quoted_yes c t e) (omega (arith, quoted-small t)))
    (λ e. rw (quoted_no c t e) (omega (arith, quoted-small t)))

-- ------------------------------------------------------------------ bytes and characters

pub encode-append : (a b : List ℕ) → encode_all (a ++ b) ≡ encode_all a ++ encode_all b
unfolding encode_all
encode-append [] b = refl
encode-append (c ∷ a) b = rw (encode-append a b) (sym (append_assoc (encode c) (encode_all a) (encode_all b)))

-- a byte of a longer character stands for itself
high : {b : ℕ} {bs : List ℕ} → 0x80 ≤ b → quoted bs ≡ bs → quoted (b ∷ bs) ≡ b ∷ bs
high {b} {bs} h e = quoted_no b bs (rw (ne_eqb b 0x22 (λ q. omega arith), ne_eqb b 0x5C (λ q. omega arith))) ∙ ap (λ (l : List ℕ). b ∷ l) e

-- and so do all bytes of a character that no backslash goes before
plain : (c : ℕ) → (is "\"" c || is "\\" c) ≡ false → quoted (encode c) ≡ encode c
unfolding quoted
plain c e =
    by_size c (λ (l : List ℕ). quoted l ≡ l) (λ h. quoted_no c [] e)
    (λ h g. high (omega arith) (high (omega arith) refl))
    (λ h g. high (omega arith) (high (omega arith) (high (omega arith) refl)))
    (λ h. high (omega arith) (high (omega arith) (high (omega arith) (high (omega arith) refl))))

pub quoted-bytes : (cs : List ℕ) → encode_all (quoted cs) ≡ quoted (encode_all cs)
unfolding quoted encode encode_all
quoted-bytes [] = refl
quoted-bytes (c ∷ cs) =
    cases (is "\"" c || is "\\" c)
    (λ e. rw (quoted_yes c cs e) (by-special (λ (x : ℕ). encode_all (0x5C ∷ x ∷ quoted cs) ≡ quoted (encode x ++ encode_all cs)) c e (rw (quoted-bytes cs)) (rw (quoted-bytes cs))))
    (λ e. rw (quoted_no c cs e, quoted-bytes cs, quoted-append (encode c) (encode_all cs), plain c e))

-- the bytes of a string token, by those of the string
pub string_bytes : (cs : List ℕ) → encode_all (spell (Kind.string (quoted cs))) ≡ spell (Kind.string (quoted (encode_all cs)))
unfolding spell encode encode_all
string_bytes cs = ap (λ (l : List ℕ). 0x22 ∷ l) (encode-append (quoted cs) (0x22 ∷ []) ∙ ap (λ (l : List ℕ). l ++ (0x22 ∷ [])) (quoted-bytes cs))

-- the parts of a string token
pub string-parts : (t : List ℕ) → ((0x22 ∷ []) ++ t) ++ (0x22 ∷ []) ≡ spell (Kind.string t)
unfolding spell
string-parts t = refl

-- ------------------------------------------------------------------ sets

-- a text of ASCII characters is its bytes
pub ascii-bytes : {cs : List ℕ} → Ascii cs → encode_all cs ≡ cs
unfolding encode_all
ascii-bytes no_ascii = refl
ascii-bytes (more-ascii c {cs} h a) = rw (encode_1 c h, ascii-bytes a)

-- and so is a set token
pub set-bytes : (inverted : Bool) (ss : List Span) → encode_all (spell (Kind.set inverted (spans_text ss))) ≡ spell (Kind.set inverted (spans_text ss))
unfolding spell encode encode_all
set-bytes inverted ss = rw (encode-append (opening inverted ++ spans_text ss) (0x5D ∷ []), encode-append (opening inverted) (spans_text ss), ascii-bytes (spans-ascii ss)) (bracket inverted)
  where
    bracket : (i : Bool) → (encode_all (opening i) ++ spans_text ss) ++ (0x5D ∷ []) ≡ (opening i ++ spans_text ss) ++ (0x5D ∷ [])
    bracket false = refl
    bracket true = refl
