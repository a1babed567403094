-- What stops the reading of a text is one of 1 to 21. The statement is in `specs/Causes.antt`.
-- Assumes nothing.
use Prim.Native.Nat.{ℕ, zero, suc, ◌+◌, ◌-◌}
use mathlib.Core.Path.{◌≡◌, refl}
use mathlib.Core.Bool.{Bool, true, false, ◌&&◌}
use mathlib.Core.List.{List, [], ◌∷◌}
use mathlib.Core.Option.{Option, none, some}
use lib.Dec.{leb, ltb}
use lib.ListN.{length, drop}
use borrow.Author.Tests.{leb-true}
use Rattle.basics.specs.Basics.{if◌then◌otherwise◌, letters, is, among, head}
use Rattle.basics.proofs.Tests.{both_true}
use Rattle.std.specs.Prelude.{Result, Ok, Err}
use Rattle.characters.specs.Classes.{is_ecmascript_whitespace, is_line_terminator, is_punctuation, is_word}
use Rattle.characters.specs.Places.{run}
use Rattle.characters.specs.Utf8.{check, codes, width}
use Rattle.characters.specs.declared.IllFormed.{IllFormed}
use Rattle.error.specs.Causes.{too_long, overlapping_span}
use Rattle.lexer.specs.Tokens.{Kind, comment, body, never, Piece, blank, token, bad, comment_of, string_of, set_of, at_of, solid, piece, Tokens, lay, tokens_from, tokens}
use Rattle.tree.specs.Syntax.{GrammarDeclaration}
use Rattle.notation.specs.Parser.{Answer, read, refused}
use Rattle.notation.specs.Declarations.{parse}
use Rattle.grammar.specs.Reading.{Reading, tree, stopped, reading, answered, read_checked, longest}
use Rattle.laws.specs.Causes.{StoppedByItself}
use Rattle.laws.proofs.Accepted.{reading-of}
use Rattle.laws.proofs.AlikeDeclarations.{grammar-parse}
use Rattle.laws.proofs.Stops.{by_itself, Sound, sound-token, sound-eof, sound-bad, After}
use Rattle.laws.proofs.StopsDeclarations.{parse-stops}

-- ------------------------------------------------------------------ what a text begins with

-- where there is no token, it is by such a cause
data SoundPiece : Piece → Type 0 where
  sound-blank : {n : ℕ} → SoundPiece (blank n)
  sound-piece : {k : Kind} {n : ℕ} → SoundPiece (token k n)
  sound_badness : {n : ℕ} → by_itself n ≡ true → SoundPiece (bad n)

comment-sound : (o : Option ℕ) → SoundPiece (comment_of o)
comment-sound none = sound_badness refl
comment-sound (some n) = sound-blank

string-sound : (cs : List ℕ) (o : Option ℕ) → SoundPiece (string_of cs o)
string-sound cs none = sound_badness refl
string-sound cs (some n) = sound-piece

set-sound : (i : Bool) (cs : List ℕ) (o : Option ℕ) → SoundPiece (set_of i cs o)
set-sound i cs none = sound_badness refl
set-sound i cs (some n) = sound-piece

at_sound : (cs : List ℕ) (n : ℕ) → SoundPiece (at_of cs n)
at_sound cs zero = sound_badness refl
at_sound cs (suc n) = sound-piece

if_sound : (b : Bool) {p q : Piece} → SoundPiece p → SoundPiece q → SoundPiece (if b then p otherwise q)
if_sound true h k = h
if_sound false h k = k

solid-sound : (c : ℕ) (cs : List ℕ) → SoundPiece (solid c cs)
unfolding solid
solid-sound c cs =
    if_sound (among (letters "\"'") c) (string-sound cs (body is_line_terminator c false cs))
    (if_sound (is "@" c) (at_sound cs (run is_word cs))
    (if_sound (among (letters "$!") c && is "[" (head cs)) (set-sound (is "!" c) (drop 1 cs) (body never 0x5D false (drop 1 cs)))
    (if_sound (is_punctuation c) sound-piece (if_sound (is_word c) sound-piece (sound_badness refl)))))

piece-sound : (c : ℕ) (cs : List ℕ) → SoundPiece (piece c cs)
unfolding piece
piece-sound c cs =
    if_sound (is_ecmascript_whitespace c) sound-blank
    (if_sound (is "/" c && is "/" (head cs)) sound-blank
    (if_sound (is "/" c && is "*" (head cs)) (comment-sound (comment (drop 1 cs))) (solid-sound c cs)))

lay-sound : (q : Piece) → SoundPiece q → (p : ℕ) {rest : ℕ → Tokens ℕ} → ((k : ℕ) → Sound (rest k)) → Sound (lay q p rest)
lay-sound (blank n) h p k = k (n - 1)
lay-sound (token t n) h p k = sound-token (k (n - 1))
lay-sound (bad n) (sound_badness h) p k = sound-bad h

tokens-from-sound : (cs : List ℕ) (k p : ℕ) → Sound (tokens_from cs k p)
unfolding tokens_from
tokens-from-sound [] k p = sound-eof
tokens-from-sound (c ∷ cs) (suc k) p = tokens-from-sound cs k (p + width c)
tokens-from-sound (c ∷ cs) zero p = lay-sound (piece c cs) (piece-sound c cs) p (λ k. tokens-from-sound cs k (p + width c))

tokens-sound : (cs : List ℕ) → Sound (tokens cs)
unfolding tokens
tokens-sound cs = tokens-from-sound cs 0 0

-- ------------------------------------------------------------------ the whole of reading

-- if a reading is stopped, it is by such a cause
abbrev SoundReading : Reading → Type 0
SoundReading (tree g) = Unit {0}
SoundReading (stopped n p) = by_itself n ≡ true

answered-sound : (a : Answer ℕ (GrammarDeclaration ℕ)) → After a → SoundReading (answered a)
answered-sound (read g ts) h = tt
answered-sound (refused n p) h = h

checked-sound : (text : List ℕ) (c : Result (Unit {0}) IllFormed) → SoundReading (read_checked text c)
checked-sound text (Ok checked) =
    rw (grammar-parse (tokens (codes text))) (answered-sound (parse (tokens (codes text))) (parse-stops.holds (tokens (codes text)) (tokens-sound (codes text))))
checked-sound text (Err d) = refl

reading-sound : (text : List ℕ) → SoundReading (reading text)
reading-sound text = rw (reading-of text) (go (ltb longest (length text)))
  where
    go : (b : Bool) → SoundReading (elim b [ true ↦ stopped too_long 0 | false ↦ read_checked text (check text) ])
    go true = refl
    go false = checked-sound text (check text)

pub stopped-by_itself : StoppedByItself
stopped-by_itself text n p e =
    let h = rw e at (reading-sound text) in
    let both = both_true (leb too_long n) (leb n overlapping_span) h in
    (leb-true too_long n both.0, leb-true n overlapping_span both.1)
