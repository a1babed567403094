-- The tokens of a text are fine: their texts are words, or of codes that UTF-8 writes.
-- Assumes nothing.
use Prim.Native.Nat.{ℕ, zero, suc, ◌+◌, ◌-◌}
use native.Mathlib.Omega.{arith}
use mathlib.Core.Path.{◌≡◌, refl}
use mathlib.Core.Bool.{Bool, true, false, ◌&&◌}
use mathlib.Core.List.{List, [], ◌∷◌, map}
use mathlib.Core.Option.{Option, none, some}
use lib.ListN.{take, drop}
use Rattle.basics.specs.Basics.{if◌then◌otherwise◌, letters, is, among, head}
use Rattle.std.specs.Prelude.{Some, None}
use Rattle.std.specs.Prelude as P
use Rattle.characters.specs.Classes.{is_ecmascript_whitespace, is_line_terminator, is_punctuation, is_word}
use Rattle.characters.specs.Places.{run}
use Rattle.characters.specs.Utf8.{first_char, on_char, codes_from, codes, is_scalar, width}
use Rattle.characters.proofs.Chars.{Scalars, none_left, one_more}
use Rattle.characters.proofs.Heads.{stands}
use Rattle.lexer.specs.Tokens.{Kind, comment, body, never, Piece, blank, token, bad, comment_of, string_of, set_of, at_of, solid, piece, Tokens, lay, tokens_from, tokens}
use Rattle.lexer.specs.Escapes.{escape, Atom, escaped_by, atoms_from, decode_string}
use Rattle.lexer.proofs.Back.{Words, no_more}
use Rattle.lexer.proofs.Back as B
use Rattle.lexer.proofs.Escaped.{escape-short}
use Rattle.laws.proofs.Lists.{not_empty}
use Rattle.laws.proofs.SpansFine.{ScalarAtoms, no_atoms, more-atoms, read_back}
use Rattle.laws.proofs.Fine.{FineKind, fine-name, fine-at, fine-string, fine-set, fine-mark, Fine, fine-token, fine-eof, fine-bad}

-- ------------------------------------------------------------------ codes of bytes

pub codes-scalars : (j : ℕ) (bs : List ℕ) → Scalars (codes_from j bs)
unfolding codes_from on_char
codes-scalars j [] = none_left
codes-scalars (suc j) (b ∷ bs) = codes-scalars j bs
codes-scalars zero (b ∷ bs) = go (first_char (b ∷ bs)) refl (λ j. codes-scalars j bs)
  where
    go : (c : P.Option (ℕ × ℕ)) → first_char (b ∷ bs) ≡ c → ((j : ℕ) → Scalars (codes_from j bs)) → Scalars (on_char c (λ c n. c ∷ codes_from (n - 1) bs) [])
    go (Some (c, n)) e h = one_more (stands (b ∷ bs) e).scalar (h (n - 1))
    go None e h = none_left

take-scalars : (n : ℕ) {cs : List ℕ} → Scalars cs → Scalars (take n cs)
take-scalars zero s = none_left
take-scalars (suc n) none_left = none_left
take-scalars (suc n) (one_more s t) = one_more s (take-scalars n t)

drop-scalars : (n : ℕ) {cs : List ℕ} → Scalars cs → Scalars (drop n cs)
drop-scalars zero s = s
drop-scalars (suc n) none_left = none_left
drop-scalars (suc n) (one_more s t) = drop-scalars n t

run-words : (cs : List ℕ) → Words (take (run is_word cs) cs)
unfolding run
run-words [] = no_more
run-words (c ∷ cs) = go (is_word c) refl (run-words cs)
  where
    go : (b : Bool) → is_word c ≡ b → Words (take (run is_word cs) cs) → Words (take (elim b [ true ↦ suc (run is_word cs) | false ↦ 0 ]) (c ∷ cs))
    go true e w = B.one_more e w
    go false e w = no_more

-- ------------------------------------------------------------------ escapes

atoms-scalar : (k : ℕ) {cs : List ℕ} → Scalars cs → ScalarAtoms (atoms_from cs k)
unfolding atoms_from
atoms-scalar k none_left = no_atoms
atoms-scalar (suc k) (one_more s t) = atoms-scalar k t
atoms-scalar zero (one_more {c} {cs} s t) = go (is "\\" c) cs t (λ k. atoms-scalar k t)
  where
    go : (b : Bool) (cs : List ℕ) → Scalars cs → ((k : ℕ) → ScalarAtoms (atoms_from cs k))
        → ScalarAtoms (elim b [ true ↦ escaped_by cs (λ k. atoms_from cs k) | false ↦ record { char = c; escaped = false } ∷ atoms_from cs 0 ])
    go true [] t h = no_atoms
    go true (e ∷ es) (one_more s' t') h = more-atoms (escape-short e es s').scalar (h (suc (escape e es).taken))
    go false cs t h = more-atoms s (h 0)

map_scalars : {l : List Atom} → ScalarAtoms l → Scalars (map (λ a. a.char) l)
map_scalars no_atoms = none_left
map_scalars (more-atoms s t) = one_more s (map_scalars t)

decode_scalars : {cs : List ℕ} → Scalars cs → Scalars (decode_string cs)
unfolding decode_string
decode_scalars s = map_scalars (atoms-scalar 0 s)

-- ------------------------------------------------------------------ what a text begins with

data FinePiece : Piece → Type 0 where
  fine-blank : {n : ℕ} → FinePiece (blank n)
  fine-piece : {k : Kind} {n : ℕ} → FineKind k → FinePiece (token k n)
  fine_badness : {n : ℕ} → FinePiece (bad n)

comment-fine : (o : Option ℕ) → FinePiece (comment_of o)
comment-fine none = fine_badness
comment-fine (some n) = fine-blank

string-fine : {cs : List ℕ} → Scalars cs → (o : Option ℕ) → FinePiece (string_of cs o)
string-fine s none = fine_badness
string-fine s (some n) = fine-piece (fine-string (decode_scalars (take-scalars n s)))

set-fine-piece : (i : Bool) {cs : List ℕ} → Scalars cs → (o : Option ℕ) → FinePiece (set_of i cs o)
set-fine-piece i s none = fine_badness
set-fine-piece i s (some n) = fine-piece (fine-set (read_back (atoms-scalar 0 (take-scalars n s))))

empty-run : (n : ℕ) → run is_word [] ≡ suc n → ⊥
unfolding run
empty-run n e = omega arith

-- a run of word characters that is not empty
at-fine : {cs : List ℕ} → Scalars cs → (n : ℕ) → run is_word cs ≡ n → FinePiece (at_of cs n)
at-fine s zero e = fine_badness
at-fine {cs} s (suc n) e = fine-piece (fine-at (record { some = some-taken cs n e; words = rw e at (run-words cs); scalars = take-scalars (suc n) s }))
  where
    some-taken : (cs : List ℕ) (n : ℕ) → run is_word cs ≡ suc n → take (suc n) cs ≡ [] → ⊥
    some-taken [] n e q = empty-run n e
    some-taken (c ∷ cs) n e q = not_empty q

name-fine : (c : ℕ) → is_scalar c ≡ true → is_word c ≡ true → {cs : List ℕ} → Scalars cs → FineKind (Kind.name (c ∷ take (run is_word cs) cs))
name-fine c s w {cs} t = fine-name (record { some = not_empty; words = B.one_more w (run-words cs); scalars = one_more s (take-scalars (run is_word cs) t) })

if_fine : (b : Bool) {p q : Piece} → (b ≡ true → FinePiece p) → (b ≡ false → FinePiece q) → FinePiece (if b then p otherwise q)
if_fine true h k = h refl
if_fine false h k = k refl

solid-fine : (c : ℕ) → is_scalar c ≡ true → {cs : List ℕ} → Scalars cs → FinePiece (solid c cs)
unfolding solid
solid-fine c s {cs} t =
    if_fine (among (letters "\"'") c) (λ e. string-fine t (body is_line_terminator c false cs))
    (λ e. if_fine (is "@" c) (λ e. at-fine t (run is_word cs) refl)
    (λ e. if_fine (among (letters "$!") c && is "[" (head cs)) (λ e. set-fine-piece (is "!" c) (drop-scalars 1 t) (body never 0x5D false (drop 1 cs)))
    (λ e. if_fine (is_punctuation c) (λ e. fine-piece fine-mark)
    (λ e. if_fine (is_word c) (λ w. fine-piece (name-fine c s w t)) (λ e. fine_badness)))))

piece-fine : (c : ℕ) → is_scalar c ≡ true → {cs : List ℕ} → Scalars cs → FinePiece (piece c cs)
unfolding piece
piece-fine c s {cs} t =
    if_fine (is_ecmascript_whitespace c) (λ e. fine-blank)
    (λ e. if_fine (is "/" c && is "/" (head cs)) (λ e. fine-blank)
    (λ e. if_fine (is "/" c && is "*" (head cs)) (λ e. comment-fine (comment (drop 1 cs))) (λ e. solid-fine c s t)))

lay-fine : (q : Piece) → FinePiece q → (p : ℕ) {rest : ℕ → Tokens ℕ} → ((k : ℕ) → Fine (rest k)) → Fine (lay q p rest)
lay-fine (blank n) f p h = h (n - 1)
lay-fine (token k n) (fine-piece f) p h = fine-token f (h (n - 1))
lay-fine (bad n) f p h = fine-bad

tokens-from-fine : {cs : List ℕ} → Scalars cs → (k p : ℕ) → Fine (tokens_from cs k p)
unfolding tokens_from
tokens-from-fine none_left k p = fine-eof
tokens-from-fine (one_more {c} s t) (suc k) p = tokens-from-fine t k (p + width c)
tokens-from-fine (one_more {c} {cs} s t) zero p = lay-fine (piece c cs) (piece-fine c s t) p (λ k. tokens-from-fine t k (p + width c))

-- the tokens of bytes
pub tokens-fine : (bs : List ℕ) → Fine (tokens (codes bs))
unfolding tokens
tokens-fine bs = tokens-from-fine (codes-scalars 0 bs) 0 0
