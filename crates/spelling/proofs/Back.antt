-- What a normal text has between quotes and brackets is read back: a string's characters, a set's spans.
-- Assumes nothing.
use mathlib.Core.Path.{◌≡◌, refl, sym, ◌∙◌, ap, subst}
use mathlib.Core.Bool.{true, false, ◌&&◌, ◌||◌, not, and-false}
use mathlib.Core.List.{List, [], ◌∷◌, ◌++◌, map, append_assoc}
use mathlib.Core.Option.{Option, some}
use Prim.Native.Nat.{ℕ, zero, suc, ◌+◌, ◌-◌, ◌*◌, ◌/◌, ◌%◌, ◌≤◌, ◌<◌}
use native.Mathlib.Omega.{arith}
use native.Mathlib.Decide.{dec_lt}
use lib.Dec.{eqb}
use lib.ListN.{drop}
use lib.Seq.{drop-drop}
use borrow.Author.Tests.{lt-ltb, le-ltb, ne_eqb, eqb-true}
use Rattle.basics.specs.Basics.{is, letters, head}
use Rattle.basics.proofs.Tests.{cases, both_false, within_yes, within_hi}
use Rattle.characters.specs.Utf8.{is_scalar}
use Rattle.characters.specs.Spans.{Span, ◌upto◌}
use Rattle.characters.specs.Classes.{is_line_terminator}
use Rattle.characters.proofs.Encode.{scalar-top}
use Rattle.lexer.specs.Tokens.{never}
use Rattle.lexer.specs.Escapes.{Escape, further, scalar, until_brace, braced, control, escape, Atom, atoms_from, atoms, decode_string}
use Rattle.lexer.specs.Escapes as E
use Rattle.lexer.specs.Sets.{range_end, written, spans}
use Rattle.lexer.proofs.Escaped.{until-on, until_end, atoms-skip, atoms-plain, atoms-escaped}
use Rattle.lexer.proofs.Spans.{written_one, written_range, other_none}
use Rattle.lexer.proofs.Back.{Body, b-none, b-plain, b-escaped}
use Rattle.spelling.specs.Spelling.{quoted, hex_digit, hex_from, code_text, span_text, spans_text}

-- ------------------------------------------------------------------ strings

pub quoted_yes : (c : ℕ) (cs : List ℕ) → (is "\"" c || is "\\" c) ≡ true → quoted (c ∷ cs) ≡ 0x5C ∷ c ∷ quoted cs
unfolding quoted
quoted_yes c cs e = rw (e, quoted)

pub quoted_no : (c : ℕ) (cs : List ℕ) → (is "\"" c || is "\\" c) ≡ false → quoted (c ∷ cs) ≡ c ∷ quoted cs
unfolding quoted
quoted_no c cs e = rw (e, quoted)

-- of the two characters that a backslash stands before
pub by-special {ℓ} : (P : ℕ → Type ℓ) (c : ℕ) → (is "\"" c || is "\\" c) ≡ true → P 0x22 → P 0x5C → P c
by-special P c e p q =
    cases (is "\"" c) (λ f. subst P (sym (eqb-true c 0x22 f)) p) (λ f. subst P (sym (eqb-true c 0x5C (rw f at e))) q)

-- they stand for themselves
itself : (c : ℕ) (cs : List ℕ) → (is "\"" c || is "\\" c) ≡ true → escape c cs ≡ record { char = c; taken = 0 }
unfolding escape control
itself c cs e = by-special (λ (x : ℕ). escape x cs ≡ record { char = x; taken = 0 }) c e refl refl

atoms-next : (c : ℕ) (cs : List ℕ) (k : ℕ) → atoms_from (c ∷ cs) (suc k) ≡ atoms_from cs k
unfolding atoms_from
atoms-next c cs k = refl

atoms-quoted : (c : ℕ) (cs : List ℕ) → (is "\"" c || is "\\" c) ≡ true → atoms (0x5C ∷ c ∷ cs) ≡ record { char = c; escaped = true } ∷ atoms cs
atoms-quoted c cs e = atoms-escaped 0x5C (c ∷ cs) refl ∙ rw (itself c cs e, atoms-next c cs 0)

abbrev chars : List Atom → List ℕ
chars = map (λ (a : Atom). a.char)

-- a string's text stands for the string
pub decode_back : (cs : List ℕ) → decode_string (quoted cs) ≡ cs
unfolding quoted atoms_from decode_string
decode_back [] = refl
decode_back (c ∷ cs) =
    cases (is "\"" c || is "\\" c)
    (λ e. rw (quoted_yes c cs e) (ap chars (atoms-quoted c (quoted cs) e) ∙ ap (λ (l : List ℕ). c ∷ l) (decode_back cs)))
    (λ e. rw (quoted_no c cs e) (ap chars (atoms-plain c (quoted cs) (both_false (is "\"" c) (is "\\" c) e).1) ∙ ap (λ (l : List ℕ). c ∷ l) (decode_back cs)))

-- and ends where it should
pub quoted-body : (cs : List ℕ) → Body is_line_terminator 0x22 (quoted cs)
unfolding quoted is_line_terminator
quoted-body [] = b-none
quoted-body (c ∷ cs) =
    cases (is "\"" c || is "\\" c)
    (λ e. rw (quoted_yes c cs e) (b-escaped (by-special (λ (x : ℕ). is_line_terminator x ≡ false) c e refl refl) (quoted-body cs)))
    (λ e. let p = both_false (is "\"" c) (is "\\" c) e in rw (quoted_no c cs e) (b-plain p.0 p.1 (quoted-body cs)))

-- ------------------------------------------------------------------ hexadecimal

pub digit_low : (d : ℕ) → d < 10 → hex_digit d ≡ 0x30 + d
digit_low d l = rw (lt-ltb d 10 l)

pub digit-high : (d : ℕ) → 10 ≤ d → hex_digit d ≡ 0x41 + (d - 10)
digit-high d l = rw (le-ltb d 10 l)

-- a digit is read as its value, and is no brace, no bracket and no backslash
record Digit (d : ℕ) : Type 0 where
  value : E.hex_digit (hex_digit d) ≡ some d
  low : hex_digit d < 0x5B

digit : (d : ℕ) → d < 16 → Digit d
unfolding E.hex_digit
digit d h =
    elim (dec_lt d 10) [
      | yes l ↦ record {
        value = rw (digit_low d l, within_yes 0x30 0x39 (0x30 + d) (omega arith) (omega arith)) (ap some (omega arith));
        low = rw (digit_low d l) (omega arith);
      }
      | no l ↦ record {
        value = rw (
          digit-high d (omega arith),
          within_hi 0x30 0x39 (0x41 + (d - 10)) (omega arith),
          within_yes 0x41 0x46 (0x41 + (d - 10)) (omega arith) (omega arith),
        ) (ap some (omega arith));
        low = rw (digit-high d (omega arith)) (omega arith);
      }
    ]

pub hex-low : (k n : ℕ) (rest : List ℕ) → n < 16 → hex_from (suc k) n rest ≡ hex_digit n ∷ rest
unfolding hex_from
hex-low k n rest h = rw (lt-ltb n 16 h, hex_from)

pub hex-high : (k n : ℕ) (rest : List ℕ) → 16 ≤ n → hex_from (suc k) n rest ≡ hex_from k (n / 16) (hex_digit (n % 16) ∷ rest)
unfolding hex_from
hex-high k n rest h = rw (le-ltb n 16 h, hex_from)

-- what comes after the digits can be put there later
pub hex-append : (k n : ℕ) (x y : List ℕ) → hex_from k n x ++ y ≡ hex_from k n (x ++ y)
unfolding hex_from
hex-append zero n x y = refl
hex-append (suc k) n x y =
    elim (dec_lt n 16) [
      | yes l ↦ rw (hex-low k n x l, hex-low k n (x ++ y) l)
      | no l ↦ rw (hex-high k n x (omega arith), hex-high k n (x ++ y) (omega arith)) (hex-append k (n / 16) (hex_digit (n % 16) ∷ x) y)
    ]

-- so many characters more
abbrev further_by : ℕ → Option Escape → Option Escape
further_by zero o = o
further_by (suc n) o = further (further_by n o)

further-out : (n : ℕ) (o : Option Escape) → further_by n (further o) ≡ further (further_by n o)
further-out zero o = refl
further-out (suc n) o = ap further (further-out n o)

further-some : (m c j : ℕ) → further_by m (some (record { char = c; taken = j })) ≡ some (record { char = c; taken = m + j })
further-some zero c j = let e : 0 + j ≡ j = omega arith in rw e
further-some (suc m) c j = let e : suc m + j ≡ suc (m + j) = omega arith in ap further (further-some m c j) ∙ rw e

abbrev limit : ℕ → ℕ
limit zero = 1
limit (suc k) = 16 * limit k

-- the digits of a number are read as that number
record Hex (k n : ℕ) (rest : List ℕ) : Type 0 where
  digits : ℕ
  value : until_brace 0 (hex_from k n rest) ≡ further_by digits (until_brace n rest)
  gone : drop digits (hex_from k n rest) ≡ rest
  first : eqb (head (hex_from k n rest)) 0x7D ≡ false

one-digit : (v d : ℕ) (rest : List ℕ) → d < 16 → until_brace v (hex_digit d ∷ rest) ≡ further (until_brace (v * 16 + d) rest)
one-digit v d rest h =
    let g = digit d h in
    let l = g.low in
    until-on (hex_digit d) rest v d (ne_eqb (hex_digit d) 0x7D (λ q. omega arith)) g.value

hex-one : (k n : ℕ) (rest : List ℕ) → n < 16 → Hex (suc k) n rest
hex-one k n rest h =
    let e : 0 * 16 + n ≡ n = omega arith in
    let l = (digit n h).low in
    record {
      digits = 1;
      value = rw (hex-low k n rest h) (one-digit 0 n rest h ∙ ap (λ (v : ℕ). further (until_brace v rest)) e);
      gone = rw (hex-low k n rest h);
      first = rw (hex-low k n rest h) (ne_eqb (hex_digit n) 0x7D (λ q. omega arith));
    }

hex-back : (k n : ℕ) (rest : List ℕ) → n < limit (suc k) → Hex (suc k) n rest
hex-back zero n rest h = hex-one zero n rest (omega arith)
hex-back (suc k) n rest h =
    elim (dec_lt n 16) [
      | yes l ↦ hex-one (suc k) n rest l
      | no l ↦ (let g : 16 ≤ n = omega arith in more g (hex-back k (n / 16) (hex_digit (n % 16) ∷ rest) (omega arith)))
    ]
  where
    more : 16 ≤ n → Hex (suc k) (n / 16) (hex_digit (n % 16) ∷ rest) → Hex (suc (suc k)) n rest
    more g r =
        let e : n / 16 * 16 + n % 16 ≡ n = omega arith in
        let q : r.digits + 1 ≡ suc r.digits = omega arith in
        let s = hex-high (suc k) n rest g in
        record {
          digits = suc r.digits;
          value = rw s (r.value ∙ ap (further_by r.digits) (one-digit (n / 16) (n % 16) rest (omega arith) ∙ ap (λ (v : ℕ). further (until_brace v rest)) e)
              ∙ further-out r.digits (until_brace n rest));
          gone = rw s (ap (λ (m : ℕ). drop m (hex_from (suc k) (n / 16) (hex_digit (n % 16) ∷ rest))) (sym q)
              ∙ sym (drop-drop 1 r.digits (hex_from (suc k) (n / 16) (hex_digit (n % 16) ∷ rest))) ∙ ap (drop 1) r.gone);
          first = rw s r.first;
        }

-- ------------------------------------------------------------------ sets

code-append : (c : ℕ) (rest : List ℕ) → code_text c ++ rest ≡ 0x5C ∷ 0x75 ∷ 0x7B ∷ hex_from 6 c (0x7D ∷ rest)
unfolding code_text
code-append c rest = ap (λ (l : List ℕ). 0x5C ∷ 0x75 ∷ 0x7B ∷ l) (hex-append 6 c (0x7D ∷ []) rest)

module _ (c : ℕ) (s : is_scalar c ≡ true) (rest : List ℕ) where
  hex : Hex 6 c (0x7D ∷ rest)
  hex = let t = scalar-top c s in hex-back 5 c (0x7D ∷ rest) (omega arith)

  taken : ℕ
  taken = suc (hex.digits + 1)

  escape-back : escape 0x75 (0x7B ∷ hex_from 6 c (0x7D ∷ rest)) ≡ record { char = c; taken = taken }
  unfolding escape braced scalar taken
  escape-back = rw (hex.first, hex.value, until_end 0x7D rest c refl, s, further-some hex.digits c 1)

  drop-back : drop (suc taken) (0x75 ∷ 0x7B ∷ hex_from 6 c (0x7D ∷ rest)) ≡ rest
  unfolding taken
  drop-back = sym (drop-drop 1 hex.digits (hex_from 6 c (0x7D ∷ rest))) ∙ ap (drop 1) hex.gone

  -- a code that is written so is one atom, escaped
  pub code-back : atoms (code_text c ++ rest) ≡ record { char = c; escaped = true } ∷ atoms rest
  code-back =
      rw (code-append c rest) (atoms-escaped 0x5C (0x75 ∷ 0x7B ∷ hex_from 6 c (0x7D ∷ rest)) refl
      ∙ rw escape-back (ap (λ (l : List Atom). record { char = c; escaped = true } ∷ l)
      (atoms-skip (0x75 ∷ 0x7B ∷ hex_from 6 c (0x7D ∷ rest)) (suc taken) ∙ ap atoms drop-back)))

-- spans that have codes, and whose ends are characters
pub data Spelled : List Span → Type 0 where
  no_spans : Spelled []
  one_span : {s : Span} {ss : List Span} → s.first < s.past → is_scalar s.first ≡ true → is_scalar (s.past - 1) ≡ true → Spelled ss → Spelled (s ∷ ss)

-- atoms that begin with no dash
data NoDash : List Atom → Type 0 where
  none_first : NoDash []
  escaped-first : {c : ℕ} {l : List Atom} → NoDash (record { char = c; escaped = true } ∷ l)

abbrev coded : ℕ → Atom
coded c = record { char = c; escaped = true }

single : (c : ℕ) {l : List Atom} → NoDash l → written (coded c ∷ l) 0 ≡ c upto (c + 1) ∷ written l 0
unfolding range_end
single c {l} none_first = written_one (coded c) [] refl
single c (escaped-first {c = d} {l}) = written_one (coded c) (coded d ∷ l) (other_none (coded c) (coded d) l (and-false (is "-" d)))

coded-dash : (c : ℕ) → (is "-" c && not true) ≡ false
coded-dash c = and-false (is "-" c)

-- the atoms of a span, by its text
span-one : (s : Span) (rest : List ℕ) → is_scalar s.first ≡ true → eqb (s.first + 1) s.past ≡ true → atoms (span_text s ++ rest) ≡ coded s.first ∷ atoms rest
unfolding span_text
span-one s rest a e = rw e (code-back s.first a rest)

span-two : (s : Span) (rest : List ℕ) → is_scalar s.first ≡ true → is_scalar (s.past - 1) ≡ true → eqb (s.first + 1) s.past ≡ false
    → atoms (span_text s ++ rest) ≡ coded s.first ∷ record { char = 0x2D; escaped = false } ∷ coded (s.past - 1) ∷ atoms rest
unfolding span_text
span-two s rest a b e =
    rw (e, append_assoc (code_text s.first ++ letters "-") (code_text (s.past - 1)) rest, append_assoc (code_text s.first) (letters "-") (code_text (s.past - 1) ++ rest))
    (code-back s.first a (0x2D ∷ code_text (s.past - 1) ++ rest)
    ∙ ap (λ (l : List Atom). coded s.first ∷ l) (atoms-plain 0x2D (code_text (s.past - 1) ++ rest) refl ∙ ap (λ (l : List Atom). record { char = 0x2D; escaped = false } ∷ l) (code-back (s.past - 1) b rest)))

spelled-dash : {ss : List Span} → Spelled ss → NoDash (atoms (spans_text ss))
unfolding spans_text atoms_from
spelled-dash no_spans = none_first
spelled-dash (one_span {s} {ss} f a b q) =
    cases (eqb (s.first + 1) s.past) (λ e. rw (span-one s (spans_text ss) a e) escaped-first) (λ e. rw (span-two s (spans_text ss) a b e) escaped-first)

-- spans that are written out are read as they are
pub spans-back : {ss : List Span} → Spelled ss → spans (spans_text ss) ≡ ss
unfolding spans_text atoms_from written
spans-back no_spans = refl
spans-back (one_span {s} {ss} f a b q) =
    cases (eqb (s.first + 1) s.past)
    (λ e. ap (λ (l : List Atom). written l 0) (span-one s (spans_text ss) a e) ∙ single s.first (spelled-dash q)
    ∙ rw (eqb-true (s.first + 1) s.past e) (ap (λ (l : List Span). s ∷ l) (spans-back q)))
    (λ e. let n : s.past - 1 + 1 ≡ s.past = omega arith in
    ap (λ (l : List Atom). written l 0) (span-two s (spans_text ss) a b e)
    ∙ written_range (coded s.first) (record { char = 0x2D; escaped = false }) (coded (s.past - 1)) (atoms (spans_text ss)) (coded-dash s.first) refl
    ∙ rw n (ap (λ (l : List Span). s ∷ l) (spans-back q)))

-- ------------------------------------------------------------------ the body of a written set ends where it should

digit-body : (d : ℕ) → d < 16 → {cs : List ℕ} → Body never 0x5D cs → Body never 0x5D (hex_digit d ∷ cs)
digit-body d h b = let l = (digit d h).low in b-plain (ne_eqb (hex_digit d) 0x5D (λ q. omega arith)) (ne_eqb (hex_digit d) 0x5C (λ q. omega arith)) b

hex-body : (k n : ℕ) {rest : List ℕ} → Body never 0x5D rest → Body never 0x5D (hex_from k n rest)
unfolding hex_from
hex-body zero n b = b
hex-body (suc k) n {rest} b =
    elim (dec_lt n 16) [
      | yes l ↦ rw (hex-low k n rest l) (digit-body n l b)
      | no l ↦ (let g : 16 ≤ n = omega arith in rw (hex-high k n rest g) (hex-body k (n / 16) (digit-body (n % 16) (omega arith) b)))
    ]

code_body : (c : ℕ) {rest : List ℕ} → Body never 0x5D rest → Body never 0x5D (code_text c ++ rest)
code_body c {rest} b = rw (code-append c rest) (b-escaped refl (b-plain refl refl (hex-body 6 c (b-plain refl refl b))))

span-body : (s : Span) {rest : List ℕ} → Body never 0x5D rest → Body never 0x5D (span_text s ++ rest)
unfolding span_text
span-body s {rest} b =
    cases (eqb (s.first + 1) s.past) (λ e. rw e (code_body s.first b))
    (λ e. rw (e, append_assoc (code_text s.first ++ letters "-") (code_text (s.past - 1)) rest, append_assoc (code_text s.first) (letters "-") (code_text (s.past - 1) ++ rest))
    (code_body s.first (b-plain refl refl (code_body (s.past - 1) b))))

pub spans-body : (ss : List Span) → Body never 0x5D (spans_text ss)
unfolding spans_text
spans-body [] = b-none
spans-body (s ∷ ss) = span-body s (spans-body ss)

-- ------------------------------------------------------------------ and all of it is ASCII

-- codes below 0x80
pub data Ascii : List ℕ → Type 0 where
  no_ascii : Ascii []
  more-ascii : (c : ℕ) {cs : List ℕ} → c < 0x80 → Ascii cs → Ascii (c ∷ cs)

hex-ascii : (k n : ℕ) {rest : List ℕ} → Ascii rest → Ascii (hex_from k n rest)
unfolding hex_from
hex-ascii zero n b = b
hex-ascii (suc k) n {rest} b =
    elim (dec_lt n 16) [
      | yes l ↦ (let d = (digit n l).low in rw (hex-low k n rest l) (more-ascii (hex_digit n) (omega arith) b))
      | no l ↦ (let g : 16 ≤ n = omega arith in let d = (digit (n % 16) (omega arith)).low in rw (hex-high k n rest g) (hex-ascii k (n / 16) (more-ascii (hex_digit (n % 16)) (omega arith) b)))
    ]

code-ascii : (c : ℕ) {rest : List ℕ} → Ascii rest → Ascii (code_text c ++ rest)
code-ascii c {rest} b = rw (code-append c rest) (more-ascii 0x5C (omega arith) (more-ascii 0x75 (omega arith) (more-ascii 0x7B (omega arith) (hex-ascii 6 c (more-ascii 0x7D (omega arith) b)))))

span-ascii : (s : Span) {rest : List ℕ} → Ascii rest → Ascii (span_text s ++ rest)
unfolding span_text
span-ascii s {rest} b =
    cases (eqb (s.first + 1) s.past) (λ e. rw e (code-ascii s.first b))
    (λ e. rw (e, append_assoc (code_text s.first ++ letters "-") (code_text (s.past - 1)) rest, append_assoc (code_text s.first) (letters "-") (code_text (s.past - 1) ++ rest))
    (code-ascii s.first (more-ascii 0x2D (omega arith) (code-ascii (s.past - 1) b))))

pub spans-ascii : (ss : List Span) → Ascii (spans_text ss)
unfolding spans_text
spans-ascii [] = no_ascii
spans-ascii (s ∷ ss) = span-ascii s (spans-ascii ss)
