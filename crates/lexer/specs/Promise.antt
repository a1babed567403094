-- What the lexer's answers say of a text of bytes.
-- Assumes nothing.
use Rattle.std.specs.Prelude.{Some, None, Result, Ok, Err, ℕ, zero, suc, ◌+◌, ◌-◌, ◌*◌, ◌≤◌, ◌<◌, ◌≡◌, Bool, true, false, ◌&&◌, List, [], ◌∷◌, ◌++◌, leb, ltb, length, get_or, take, drop}
use Rattle.std.specs.Prelude as Std
use Rattle.std.proofs.Math.Option.{Option, none, some}
use Rattle.basics.specs.Basics.{if◌then◌otherwise◌, letters, is, among, every}
use Rattle.error.specs.Promise.{cause_number}
use Rattle.error.specs.declared.Cause.{Cause}
use Rattle.error.specs.declared.Stop.{Stop}
use Rattle.characters.specs.Utf8.{codes, encode_all, width, is_scalar}
use Rattle.characters.specs.Places.{chars_at, peek_at, cut, past}
use Rattle.characters.specs.Spans.{Span, ◌upto◌}
use Rattle.lexer.specs.Tokens.{Tokens, Piece, body, piece, solid, lay, tokens_from}
use Rattle.lexer.specs.Tokens as T
use Rattle.lexer.specs.Escapes.{Escape, fixed, until_brace, braced, atoms}
use Rattle.lexer.specs.Escapes as E
use Rattle.lexer.specs.Sets.{written, overlaps_one, reversed, fault_from, fault, insert, sorted}
use Rattle.lexer.specs.declared.Part.{Part}
use Rattle.lexer.specs.declared.Kind.{Kind}
use Rattle.lexer.specs.declared.Kind.TheVariants.{String, At, Set, Punctuation, Identifier}
use Rattle.lexer.specs.declared.Token.{Token}
use Rattle.lexer.specs.declared.Token.TheVariants.{Of, Eof}
use Rattle.lexer.specs.declared.escapes.Taken.{Taken}
use Rattle.lexer.specs.declared.escapes.Atom.{Atom}
use Rattle.lexer.specs.declared.sets.Span as Read
use Rattle.lexer.specs.declared.sets.Filled.{Filled}
use Rattle.lexer.specs.declared.sets.Filled.TheVariants.{Full, All}

-- ------------------------------------------------------------------ tokens

-- the tokens from a place on
unfoldable pub tokens_at : List ℕ → ℕ → Tokens ℕ
tokens_at s at = tokens_from (chars_at s at) 0 at

-- the characters of a part of the text
abbrev pub part_of : List ℕ → Part → List ℕ
part_of s p = codes (cut s p.from p.to)

-- the kind of a token whose text stands in the source
abbrev pub kind_of : List ℕ → Kind → T.Kind
kind_of s (String q p) = T.string (part_of s p)
kind_of s (At p) = T.at (part_of s p)
kind_of s (Set i p) = T.set i (part_of s p)
kind_of s (Punctuation c) = T.mark c
kind_of s (Identifier p) = T.name (part_of s p)

-- the tokens from a place on are this one and those from its end on, or end, or are refused
abbrev pub answer : List ℕ → Result Token Stop → Tokens ℕ
answer s (Ok (Of k start end)) = T.token (kind_of s k) start (tokens_at s end)
answer s (Ok (Eof at)) = T.eof at
answer s (Err stop) = T.bad (cause_number stop.cause) stop.place

-- a part lies within the text, and its bytes are those of its characters
pub record IsPart (s : List ℕ) (p : Part) : Type 0 where
  pub forth : p.from ≤ p.to
  pub inside : p.to ≤ length s
  pub bytes : encode_all (part_of s p) ≡ cut s p.from p.to

-- the part of a token that starts at a place; a string's quote is the character that stands there
abbrev pub Parted : List ℕ → ℕ → Kind → Type 0
Parted s start (String q p) = (peek_at s start ≡ q) × IsPart s p
Parted s start (At p) = IsPart s p
Parted s start (Set i p) = IsPart s p
Parted s start (Punctuation c) = Unit {0}
Parted s start (Identifier p) = IsPart s p

-- it lies between the token's start and end
abbrev pub Inside : (start end : ℕ) → Kind → Type 0
Inside start end (String q p) = (start ≤ p.from) × (p.to ≤ end)
Inside start end (At p) = (start ≤ p.from) × (p.to ≤ end)
Inside start end (Set i p) = (start ≤ p.from) × (p.to ≤ end)
Inside start end (Punctuation c) = Unit {0}
Inside start end (Identifier p) = (start ≤ p.from) × (p.to ≤ end)

-- a token lies in the text, from a place on, and its part in it
abbrev pub Placed : List ℕ → ℕ → Result Token Stop → Type 0
Placed s from (Ok (Of k start end)) = (from ≤ start) × (start < end) × (end ≤ length s) × Parted s start k × Inside start end k
Placed s from (Ok (Eof at)) = Unit {0}
Placed s from (Err stop) = Unit {0}

-- what the answer from a place on says
pub record Reads (s : List ℕ) (from : ℕ) (r : Result Token Stop) : Type 0 where
  pub tokens : tokens_at s from ≡ answer s r
  pub placed : Placed s from r

-- ------------------------------------------------------------------ the ways to a token

-- no white space and no comment comes next
abbrev pub Settled : List ℕ → Type 0
Settled [] = Unit {0}
Settled (c ∷ cs) = piece c cs ≡ solid c cs

-- what skipping trivia from a place on answers: the place of a token with the same tokens, or a comment that is not closed
abbrev pub Skipped : List ℕ → ℕ → Result ℕ Stop → Type 0
Skipped s from (Ok at) = (from ≤ at) × (tokens_at s from ≡ tokens_at s at) × Settled (chars_at s at)
Skipped s from (Err stop) = tokens_at s from ≡ T.bad (cause_number stop.cause) stop.place

-- a set begins with c, with the character at a place after it
unfoldable pub opens_set : List ℕ → ℕ → ℕ → Bool
opens_set s c next = among (letters "$!") c && is "[" (peek_at s next)

-- the places before and after the character that k others stand before
abbrev pub found_at : ℕ → List ℕ → Option ℕ → Std.Option (ℕ × ℕ)
found_at at cs none = None
found_at at cs (some k) = Some (past at k cs, past at (suc k) cs)

-- where a body ends that begins, or goes on, at a place
abbrev pub end_of : (ℕ → Bool) → ℕ → List ℕ → ℕ → Bool → Std.Option (ℕ × ℕ)
end_of stops q s at escaped = found_at at (chars_at s at) (body stops q escaped (chars_at s at))

-- the answer for a piece at a place whose first character has n bytes
pub record Lexes (s : List ℕ) (at n : ℕ) (p : Piece) (r : Result Token Stop) : Type 0 where
  pub tokens : lay p at (λ k. tokens_from (chars_at s (at + n)) k (at + n)) ≡ answer s r
  pub placed : Placed s at r

-- ------------------------------------------------------------------ escapes

-- a digit's value as the code has it
abbrev pub digit_of : Option ℕ → Std.Option ℕ
digit_of none = None
digit_of (some d) = Some d

-- an escape in characters from a place on, by its end
abbrev pub hex_at : ℕ → List ℕ → Option Escape → Std.Option Taken
hex_at at cs none = None
hex_at at cs (some e) = Some (record { code = e.char; end = past at e.taken cs })

-- the escape in braces at a place
unfoldable pub braced_at : List ℕ → ℕ → Std.Option Taken
braced_at s at = hex_at at (chars_at s at) (braced (chars_at s at))

-- the digits up to a `}` at a place, after those of value v
unfoldable pub until_at : ℕ → List ℕ → ℕ → Std.Option Taken
until_at v s at = hex_at at (chars_at s at) (until_brace v (chars_at s at))

-- k digits at a place, after those of value v
unfoldable pub fixed_at : ℕ → ℕ → List ℕ → ℕ → Std.Option Taken
fixed_at k v s at = hex_at at (chars_at s at) (fixed k v (chars_at s at))

-- the code and the end of an escape
pub record Takes (s : List ℕ) (at : ℕ) (e : Escape) (t : Taken) : Type 0 where
  pub char : t.code ≡ e.char
  pub ends : t.end ≡ past at e.taken (chars_at s at)

-- the atoms from a place on
unfoldable pub atoms_at : List ℕ → ℕ → List E.Atom
atoms_at s at = atoms (chars_at s at)

-- they are this one and those from its end on, or none
abbrev pub atom_answer : List ℕ → Std.Option Atom → List E.Atom
atom_answer s (Some a) = record { char = a.code; escaped = a.escaped } ∷ atoms_at s a.end
atom_answer s None = []

-- an atom is a character, and takes no fewer bytes than that
abbrev pub AtomPlaced : List ℕ → ℕ → Std.Option Atom → Type 0
AtomPlaced s at (Some a) = (at + width a.code ≤ a.end) × (a.end ≤ length s) × (is_scalar a.code ≡ true)
AtomPlaced s at None = Unit {0}

-- what the answer for one atom says
pub record ReadsAtom (s : List ℕ) (at : ℕ) (r : Std.Option Atom) : Type 0 where
  pub atoms : atoms_at s at ≡ atom_answer s r
  pub placed : AtomPlaced s at r

-- ------------------------------------------------------------------ sets

-- the spans from a place on
unfoldable pub spans_at : List ℕ → ℕ → List Span
spans_at s at = written (atoms_at s at) 0

-- they are this one and those from its end on, or none
abbrev pub range_answer : List ℕ → Std.Option (Read.Span × ℕ) → List Span
range_answer s (Some (span, end)) = span.first upto span.past ∷ spans_at s end
range_answer s None = []

-- a span takes a byte at least, and lies in the text
abbrev pub RangePlaced : List ℕ → ℕ → Std.Option (Read.Span × ℕ) → Type 0
RangePlaced s at (Some (span, end)) = (at < end) × (end ≤ length s)
RangePlaced s at None = Unit {0}

-- what the answer for one span says
pub record ReadsRange (s : List ℕ) (at : ℕ) (r : Std.Option (Read.Span × ℕ)) : Type 0 where
  pub spans : spans_at s at ≡ range_answer s r
  pub placed : RangePlaced s at r

-- the words of spans, two of each
unfoldable pub words_of : List Span → List ℕ
words_of [] = []
words_of (s ∷ ss) = s.first ∷ s.past ∷ words_of ss

-- the first n spans that stand so in words
unfoldable pub spans_in : ℕ → List ℕ → List Span
spans_in zero ws = []
spans_in (suc n) ws = get_or ws 0 0 upto get_or ws 1 0 ∷ spans_in n (drop 2 ws)

-- ascending from a code on, and none shares a code with another
pub data Ascending : ℕ → List Span → Type 0 where
  a-none : {lo : ℕ} → Ascending lo []
  a-more : {lo : ℕ} {s : Span} {ss : List Span} → lo ≤ s.first → s.first < s.past → Ascending s.past ss → Ascending lo (s ∷ ss)

-- n ascending spans stand in words
pub record Held (ws : List ℕ) (n : ℕ) : Type 0 where
  pub fits : 2 * n ≤ length ws
  pub order : Ascending 0 (spans_in n ws)

-- k of n ascending spans begin at x or before
pub record Before (ws : List ℕ) (n x k : ℕ) : Type 0 where
  pub few : k ≤ n
  pub below : (i : ℕ) → i < k → get_or ws (2 * i) 0 ≤ x
  pub above : (i : ℕ) → k ≤ i → i < n → x < get_or ws (2 * i) 0

-- a span put among n others, unless it shares a code with one of them
pub record Pushed (ws : List ℕ) (n : ℕ) (s : Span) (after : List ℕ) (met : Bool) : Type 0 where
  pub meets : met ≡ overlaps_one s (spans_in n ws)
  pub kept : met ≡ true → after ≡ ws
  pub words : met ≡ false → after ≡ words_of (insert s (spans_in n ws)) ++ drop (2 * n + 2) ws
  pub held : met ≡ false → Held after (n + 1)

-- spans from a place on put into words, up to the end, to the first that is reversed or met, or while there is room
abbrev pub Fills : List ℕ → ℕ → List ℕ → Result Filled Cause → Type 0
Fills s from ws (Ok (Full n end)) =
    (from < end) × (from + n ≤ end) × (end ≤ length s) × Held ws n × (length (spans_at s from) ≡ n + length (spans_at s end))
    × (fault (spans_at s from) ≡ fault_from (spans_in n ws) (spans_at s end))
Fills s from ws (Ok (All n)) =
    (from + n ≤ length s) × (length (spans_at s from) ≡ n) × (fault (spans_at s from) ≡ none) × (2 * n ≤ length ws)
    × (spans_in n ws ≡ sorted (spans_at s from))
Fills s from ws (Err c) = fault (spans_at s from) ≡ some (cause_number c)

-- one of the spans up to the first reversed one shares a code with one of those before
unfoldable pub later : (before : List Span) → List Span → Bool
later before [] = false
later before (s ∷ ss) = if reversed s then false otherwise if overlaps_one s before then true otherwise later before ss

-- what stops a set, by the answer for it
abbrev pub stops : Result ℕ Cause → Option ℕ
stops (Ok n) = none
stops (Err c) = some (cause_number c)

-- a set that nothing stops is answered with the number of its spans
abbrev pub Counted : List Span → Result ℕ Cause → Type 0
Counted ss (Ok n) = n ≡ length ss
Counted ss (Err c) = Unit {0}

-- what the answer for a whole set says
pub record Checks (ss : List Span) (r : Result ℕ Cause) : Type 0 where
  pub cause : stops r ≡ fault ss
  pub count : Counted ss r

-- the spans in ascending order laid over the words lent for them: where nothing stops the set, and they fit
abbrev pub stored_by : Option ℕ → List Span → List ℕ → List ℕ
stored_by none ss out = if leb (2 * length ss) (length out) then words_of (sorted ss) ++ drop (2 * length ss) out otherwise out
stored_by (some c) ss out = out

-- the same, by what stops the set
unfoldable pub stored : List Span → List ℕ → List ℕ
stored ss out = stored_by (fault ss) ss out

-- the first n spans of a body, up to a place, stand in a block, and there are more
abbrev pub FirstBlock : (s block : List ℕ) → (n end : ℕ) → Type 0
FirstBlock s block n end = Fills s 0 block (Ok (Full n end))

-- the first m words laid over others, where they fit
unfoldable pub copied : ℕ → List ℕ → List ℕ → List ℕ
copied m ws out = if leb m (length out) then take m ws ++ drop m out otherwise out

-- a set whose spans fit one block is done with; of any other nothing is stored
abbrev pub Parses : (s out after block : List ℕ) → Result Filled Cause → Type 0
Parses s out after block (Ok (Full n end)) = (after ≡ out) × FirstBlock s block n end
Parses s out after block (Ok (All n)) = Checks (spans_at s 0) (Ok n) × (after ≡ stored (spans_at s 0) out)
Parses s out after block (Err c) = Checks (spans_at s 0) (Err c) × (after ≡ stored (spans_at s 0) out)

-- ------------------------------------------------------------------ words

-- all ASCII
abbrev pub is_plain : List ℕ → Bool
is_plain w = every (λ c. ltb c 0x80) w
