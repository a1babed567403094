-- How far a function of the parser comes, and what it stores of what it reads.
-- Assumes nothing.
use Rattle.std.specs.Prelude.{ℕ, zero, suc, ◌+◌, ◌*◌, ◌≤◌, ◌<◌, ◌≡◌, Bool, true, false, List, [], length, Option, Some, None, Result, Ok, Err}
use Prim.Native.Char.{Char, code}
use Rattle.std.proofs.Math.Option as M
use Rattle.std.proofs.Math.Option.{none, some}
use Rattle.error.specs.Promise.{cause_number}
use Rattle.characters.specs.Utf8.{codes, encode_all}
use Rattle.tree.specs.Records.{Node, texts_of}
use Rattle.tree.specs.Syntax.{Prop, PropPart}
use Rattle.notation.specs.Expressions.{part_by, parse_part, parse_prop}
use Rattle.notation.specs.Parser.{Answer, read, refused, Parser, ◌>>=◌, ◌>>◌, pure, choose, next, kind_of, eat, loop, until, comma, comma_or_not, nothing, size}
use Rattle.tokens.specs.Promise.{stream, start_in, end_in, name_of, at_of, arrival, LiesIn}
use Rattle.parser.specs.Storing.{Lent, Stores, flat}
use Rattle.error.specs.declared.Stop.{Stop}
use Rattle.lexer.specs.declared.Part.{Part}
use Rattle.lexer.specs.declared.Token.{Token}
use Rattle.lexer.specs.declared.Token.TheVariants.{Of, Eof}
use Rattle.parser.specs.declared.props.Opened.{Opened}
use Rattle.parser.specs.declared.props.Opened.TheVariants as O
use Rattle.parser.specs.declared.props.Comma.{Comma}
use Rattle.parser.specs.declared.props.Comma.TheVariants.{Must, May, No}

-- where a token stands; the end stands behind all bytes
abbrev pub placed : List ℕ → Token → ℕ
placed s (Of k start end) = start
placed s (Eof p) = length s

-- a text is no longer than the token that holds it; the end, which has no bytes, holds none
pub record Holds (t : Token) (text : List ℕ) : Type 0 where
  pub some_bytes : start_in t < end_in t
  pub within : start_in t + length text ≤ end_in t

-- from the token t to the token u: it lies in the text, at least `step` bytes further on, and at least `step` fewer tokens are left
pub record Onward (s : List ℕ) (t u : Token) (step : ℕ) : Type 0 where
  pub lies : LiesIn s 0 u
  pub ahead : placed s t + step ≤ placed s u
  pub fewer : size (stream s u) + step ≤ size (stream s t)

-- Nodes that were read between t and u are stored. There are at most two for each byte, and `slack` more; their texts have at most three
-- bytes for each byte
pub record Lays (s : List ℕ) (t u : Token) (slack : ℕ) (xs : List Node) (a b : Lent) : Type 0 where
  pub stores : Stores xs a b
  pub bound : length xs + 2 * placed s t ≤ 2 * placed s u + slack
  pub space : length (texts_of xs) + 3 * placed s t ≤ 3 * placed s u

-- where a function that stores may begin: what is taken stays small to the end of the text
pub record Ready (s : List ℕ) (t : Token) (a : Lent) : Type 0 where
  pub lies : LiesIn s 0 t
  pub small : length s ≤ 0x200000
  pub room : a.n + 14 * length s ≤ 0x40000000 + 14 * placed s t
  pub space : a.x + 3 * length s ≤ 0x40000000 + 3 * placed s t

-- ------------------------------------------------------------------ one thing

-- from the token t on the definition answers D, a value whose nodes are stored
pub record Gives {A : Type 0} (D : Answer ℕ A) (g : A → List Node) (s : List ℕ) (t : Token) (a : Lent) (u : Token) (b : Lent) : Type 0 where
  pub value : A
  pub gives : D ≡ read value (stream s u)
  pub onward : Onward s t u 1
  pub lays : Lays s t u 0 (g value) a b

-- what an answer says of D: it is a value whose nodes are stored, or it is this refusal
abbrev pub Parses : {A : Type 0} → Answer ℕ A → (A → List Node) → List ℕ → Token → (a b : Lent) → Result Token Stop → Type 0
Parses D g s t a b (Ok u) = Gives D g s t a u b
Parses D g s t a b (Err e) = D ≡ refused (cause_number e.cause) e.place

-- D finds one more value, whose nodes are stored
pub record Finds {A : Type 0} (D : Answer ℕ (M.Option A)) (g : A → List Node) (s : List ℕ) (t : Token) (a : Lent) (u : Token) (b : Lent) : Type 0 where
  pub value : A
  pub gives : D ≡ read (some value) (stream s u)
  pub onward : Onward s t u 1
  pub lays : Lays s t u 0 (g value) a b

-- D finds nothing more: no token is taken, and the lent words and bytes are as they were
pub record FindsNone {A : Type 0} (D : Answer ℕ (M.Option A)) (s : List ℕ) (t : Token) (a b : Lent) : Type 0 where
  pub gives : D ≡ read none (stream s t)
  pub same : b ≡ a

-- what a turn's answer says of D: it finds one more value, whose nodes are stored, or nothing more, or it is this refusal
abbrev pub ParsesTurn : {A : Type 0} → Answer ℕ (M.Option A) → (A → List Node) → List ℕ → Token → (a b : Lent) → Result (Option Token) Stop → Type 0
ParsesTurn D g s t a b (Ok (Some u)) = Finds D g s t a u b
ParsesTurn D g s t a b (Ok None) = FindsNone D s t a b
ParsesTurn D g s t a b (Err e) = D ≡ refused (cause_number e.cause) e.place

-- ------------------------------------------------------------------ lists

-- D is a list of so many, whose nodes are stored
pub record Lists {A : Type 0} (D : Answer ℕ (List A)) (g : A → List Node) (s : List ℕ) (t : Token) (step : ℕ) (a : Lent) (u : Token) (b : Lent) (count : ℕ) : Type 0 where
  pub items : List A
  pub gives : D ≡ read items (stream s u)
  pub counted : length items ≡ count
  pub onward : Onward s t u step
  pub lays : Lays s t u 0 (flat g items) a b

-- what an answer says of D: it is a list of so many, whose nodes are stored, or it is this refusal
abbrev pub ParsesList : {A : Type 0} → Answer ℕ (List A) → (A → List Node) → List ℕ → Token → (step : ℕ) → (a b : Lent) → Result (Token × ℕ) Stop → Type 0
ParsesList D g s t step a b (Ok (u, count)) = Lists D g s t step a u b count
ParsesList D g s t step a b (Err e) = D ≡ refused (cause_number e.cause) e.place

-- what stands between two items: a comma that must be there, one that may, or nothing
abbrev pub between_by : Comma → Parser ℕ (Unit {0})
between_by Must = comma
between_by May = comma_or_not
between_by No = nothing

-- what stands before the next item, after so many: before the first nothing
abbrev pub separator : Comma → (count : ℕ) → Parser ℕ (Unit {0})
separator b zero = pure tt
separator b (suc n) = between_by b

-- the front of a list's turn: whether the list is closed, and if it is not, what stands before its next item
unfoldable pub opening : (close : Char) → Comma → (count : ℕ) → Parser ℕ Bool
opening m b count = do
  done ← eat m
  choose done (pure true) (separator b count >> pure false)

-- an answer as the definition gives it: whether the list is closed, and the tokens that are left, or a refusal
abbrev pub opened : List ℕ → Result Opened Stop → Answer ℕ Bool
opened s (Ok (O.Item u)) = read false (stream s u)
opened s (Ok (O.Closed u)) = read true (stream s u)
opened s (Err e) = refused (cause_number e.cause) e.place

-- how many bytes and tokens are taken at least between two items: one for a comma that must be there
abbrev pub comma_step : Comma → ℕ
comma_step Must = 1
comma_step May = 0
comma_step No = 0

-- how many bytes and tokens are taken at least before the next item, after so many: none before the first
abbrev pub step_by : Comma → (count : ℕ) → ℕ
step_by b zero = 0
step_by b (suc n) = comma_step b

-- the token that is arrived at lies at least `step` further on; of a refusal nothing is said
abbrev pub ArrivesOn : List ℕ → Token → (step : ℕ) → Result Token Stop → Type 0
ArrivesOn s t step (Ok u) = Onward s t u step
ArrivesOn s t step (Err e) = Unit {0}

-- what stands between two items, and before the next, is taken
pub record Separates (s : List ℕ) (t : Token) (between : Parser ℕ (Unit {0})) (step : ℕ) (r : Result Token Stop) : Type 0 where
  pub takes : between (stream s t) ≡ arrival s r
  pub on : ArrivesOn s t step r

-- how far on the next token lies at least: a step for the closing mark or a comma that must be there; of a refusal nothing is said
abbrev pub OpensOn : List ℕ → Token → Comma → ℕ → Result Opened Stop → Type 0
OpensOn s t b count (Ok (O.Item u)) = Onward s t u (step_by b count)
OpensOn s t b count (Ok (O.Closed u)) = Onward s t u 1
OpensOn s t b count (Err e) = Unit {0}

-- the front of a list's turn, whose closing mark has the code `close`, gives this answer, and comes as far on as `OpensOn` says
pub record Opens (s : List ℕ) (t : Token) (close : ℕ) (b : Comma) (count : ℕ) (r : Result Opened Stop) : Type 0 where
  pub opens : (m : Char) → code m ≡ close → opening m b count (stream s t) ≡ opened s r
  pub on : (m : Char) → code m ≡ close → OpensOn s t b count r

-- ------------------------------------------------------------------ props

-- the token is a part with these bytes for its text: a name or a dot
pub record PartValue (s : List ℕ) (t : Token) (text : List ℕ) : Type 0 where
  pub part : part_by (start_in t) (kind_of (stream s t)) ≡ (next >> pure (some (PropPart.value (start_in t) (codes text))))
  pub bytes : encode_all (codes text) ≡ text
  pub holds : Holds t text

-- the name of a prop is a part of the token, after an `@` or not
abbrev pub PropName : List ℕ → Token → (at : Bool) → Part → Type 0
PropName s t false a = (at_of t ≡ None) × (name_of t ≡ Some a)
PropName s t true a = at_of t ≡ Some a

-- the value of a prop, after its name; no parts where no `=` follows
unfoldable pub parse_value : Parser ℕ (List (PropPart ℕ))
parse_value = eat "=" >>= λ equals. choose equals (loop parse_part) (pure [])

-- props up to their `]`, after their `[`
abbrev pub props_list : Parser ℕ (List (Prop ℕ))
props_list = until (eat "]") comma (λ _. parse_prop)
