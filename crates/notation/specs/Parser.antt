-- Parsers: what each takes from the front of the tokens, or the refusal. One token is read ahead: the current token is never `bad`,
-- since to advance onto a bad one is to be refused at once.
-- Assumes nothing.
use Rattle.std.specs.Prelude.{ℕ, zero, suc, Bool, true, false, ◌||◌, List, [], ◌∷◌, ◌++◌}
use Prim.Native.Char.{Char}
use Prim.Native.String.{String}
use Rattle.std.proofs.Math.Option.{Option, none, some}
use Rattle.basics.specs.Basics.{letters, is, among, spells}
use Rattle.error.specs.Causes.{unexpected_token}
use Rattle.lexer.specs.Tokens.{Kind, Tokens, token, eof, bad}
use Rattle.lexer.specs.Escapes.{decode_string}
use Rattle.tree.specs.Syntax.{Identifier}

-- a result and the tokens that are left, or cause and place
pub data Answer (S A : Type 0) : Type 0 where
  read : A → Tokens S → Answer S A
  refused : ℕ → S → Answer S A

-- what is read from the tokens that are left
abbrev pub Parser : Type 0 → Type 0 → Type 0
Parser S A = Tokens S → Answer S A

module _ {S : Type 0} where
  infixl 20 ◌>>=◌
  infixl 20 ◌>>◌
  -- a result is handed on with the tokens left; a refusal stays
  unfoldable pub and_then : {A B : Type 0} → Answer S A → (A → Parser S B) → Answer S B
  and_then (read a ts) f = f a ts
  and_then (refused n p) f = refused n p

  -- one parser, and then another that is told what the first gave
  unfoldable pub ◌>>=◌ : {A B : Type 0} → Parser S A → (A → Parser S B) → Parser S B
  ◌>>=◌ m f ts = and_then (m ts) f

  -- one parser, and then another
  abbrev pub ◌>>◌ : {A B : Type 0} → Parser S A → Parser S B → Parser S B
  m >> n = m >>= λ _. n

  -- a result, and no token taken
  unfoldable pub pure : {A : Type 0} → A → Parser S A
  pure a ts = read a ts

  -- a refusal at a place
  unfoldable pub refuse : {A : Type 0} → ℕ → S → Parser S A
  refuse n p ts = refused n p

  -- the one or the other parser, by a test
  unfoldable pub choose : {A : Type 0} → Bool → Parser S A → Parser S A → Parser S A
  choose true m n = m
  choose false m n = n

  -- ------------------------------------------------------------------ the current token

  -- the start of the current token, or the place of the end
  unfoldable pub start_of : Tokens S → S
  start_of (token k p ts) = p
  start_of (eof p) = p
  start_of (bad n p) = p

  -- the start of the current token
  unfoldable pub here : Parser S S
  here ts = read (start_of ts) ts

  -- a refusal at the current token
  unfoldable pub refuse_here : {A : Type 0} → ℕ → Parser S A
  refuse_here n ts = refused n (start_of ts)

  -- a refusal of the current token
  abbrev pub unexpected : {A : Type 0} → Parser S A
  unexpected = refuse_here unexpected_token

  -- the kind of the current token, if it is not the end
  unfoldable pub kind_of : Tokens S → Option Kind
  kind_of (token k p ts) = some k
  kind_of (eof p) = none
  kind_of (bad n p) = none

  -- the kind of the current token
  unfoldable pub kind : Parser S (Option Kind)
  kind ts = read (kind_of ts) ts

  -- a token is arrived at
  unfoldable pub arrive : Parser S (Unit {0})
  arrive (token k p ts) = read tt (token k p ts)
  arrive (eof p) = read tt (eof p)
  arrive (bad n p) = refused n p

  -- to the next token; at the end, the end: `next`
  unfoldable pub next : Parser S (Unit {0})
  next (token k p ts) = arrive ts
  next (eof p) = read tt (eof p)
  next (bad n p) = refused n p

-- the code of a mark, or 0
abbrev pub mark_in : Option Kind → ℕ
mark_in (some (Kind.mark c)) = c
mark_in (some (Kind.string t)) = 0
mark_in (some (Kind.at t)) = 0
mark_in (some (Kind.set i t)) = 0
mark_in (some (Kind.name t)) = 0
mark_in none = 0

-- the text of a name
abbrev pub name_in : Option Kind → Option (List ℕ)
name_in (some (Kind.name t)) = some t
name_in (some (Kind.mark c)) = none
name_in (some (Kind.string t)) = none
name_in (some (Kind.at t)) = none
name_in (some (Kind.set i t)) = none
name_in none = none

-- the word after an `@`
abbrev pub at_in : Option Kind → Option (List ℕ)
at_in (some (Kind.at t)) = some t
at_in (some (Kind.mark c)) = none
at_in (some (Kind.string t)) = none
at_in (some (Kind.set i t)) = none
at_in (some (Kind.name t)) = none
at_in none = none

-- the value of a string
abbrev pub string_in : Option Kind → Option (List ℕ)
string_in (some (Kind.string t)) = some (decode_string t)
string_in (some (Kind.mark c)) = none
string_in (some (Kind.at t)) = none
string_in (some (Kind.set i t)) = none
string_in (some (Kind.name t)) = none
string_in none = none

-- there is no token left
abbrev pub is_end : Option Kind → Bool
is_end (some k) = false
is_end none = true

-- the current token is this mark
abbrev pub is_mark : Char → Option Kind → Bool
is_mark c k = is c (mark_in k)

-- there is a text, and it is the quoted one
abbrev pub says : String → Option (List ℕ) → Bool
says s none = false
says s (some t) = spells s t

-- what ends a sequence
abbrev pub ends_sequence : Option Kind → Bool
ends_sequence k = is_end k || among (letters "})|{,>") (mark_in k)

module _ {S : Type 0} where
  -- ------------------------------------------------------------------ taking tokens

  -- the token is taken if the test says so
  unfoldable pub eat_if : Bool → Parser S Bool
  eat_if true = next >> pure true
  eat_if false = pure false

  -- this mark is taken, if it comes next: `eat_punctuation`
  unfoldable pub eat : Char → Parser S Bool
  eat c = kind >>= λ k. eat_if (is_mark c k)

  -- this name is taken, if it comes next: `eat_identifier_value`
  unfoldable pub eat_name : String → Parser S Bool
  eat_name s = kind >>= λ k. eat_if (says s (name_in k))

  -- this word after an `@` is taken, if it comes next: `eat_at`
  unfoldable pub eat_at : String → Parser S Bool
  eat_at s = kind >>= λ k. eat_if (says s (at_in k))

  -- refused, unless it was there
  unfoldable pub must : Bool → Parser S (Unit {0})
  must true = pure tt
  must false = unexpected

  -- this mark, which must come next: `expect_punctuation`
  unfoldable pub expect : Char → Parser S (Unit {0})
  expect c = eat c >>= must

  -- this name, which must come next: `expect_identifier_value`
  unfoldable pub expect_name : String → Parser S (Unit {0})
  expect_name s = eat_name s >>= must

  -- takes the token that holds the text
  unfoldable pub taken : Option (List ℕ) → Parser S (List ℕ)
  taken none = unexpected
  taken (some t) = next >> pure t

  -- a string, which must come next: `expect_string`
  unfoldable pub expect_string : Parser S (List ℕ)
  expect_string = kind >>= λ k. taken (string_in k)

  -- a name, with its start: `parse_identifier`
  unfoldable pub parse_identifier : Parser S (Identifier S)
  parse_identifier = do
    p ← here
    k ← kind
    t ← taken (name_in k)
    pure (record { start = p; name = t })

  -- ------------------------------------------------------------------ loops

  -- how many tokens are left
  unfoldable pub size : Tokens S → ℕ
  size (token k p ts) = suc (size ts)
  size (eof p) = zero
  size (bad n p) = zero

  module _ {A : Type 0} where
    -- The one loop: as long as `step` finds one. It is told those before. Each turn takes a token but, in a list of arguments, the first,
    -- so the tokens left and two are turns enough.
    unfoldable pub turns : ℕ → (List A → Parser S (Option A)) → List A → Parser S (List A)
    turns zero step before = unexpected
    turns (suc n) step before = do
      x ← step before
      elim x [ none ↦ pure before | some a ↦ turns n step (before ++ a ∷ []) ]

    -- the loop with turns enough
    unfoldable pub loop : (List A → Parser S (Option A)) → Parser S (List A)
    loop step ts = turns (suc (suc (size ts))) step [] ts

    -- what stands between items stands before each but the first
    unfoldable pub separate : Parser S (Unit {0}) → List A → Parser S (Unit {0})
    separate between [] = pure tt
    separate between (x ∷ xs) = between

    -- a turn of `until`, below: none where `stop` says so, else what stands between and an item
    unfoldable pub until_step : Parser S Bool → Parser S (Unit {0}) → (List A → Parser S A) → List A → Parser S (Option A)
    until_step stop between item before = do
      done ← stop
      choose done (pure none) (do
        separate between before
        x ← item before
        pure (some x))

    -- items until `stop` says so, with `between` between them. An item is told those before it
    abbrev pub until : Parser S Bool → Parser S (Unit {0}) → (List A → Parser S A) → Parser S (List A)
    until stop between item = loop (until_step stop between item)

  -- what stands between items: a comma that must be there
  abbrev pub comma : Parser S (Unit {0})
  comma = expect ","

  -- a comma that may be there
  abbrev pub comma_or_not : Parser S (Unit {0})
  comma_or_not = eat "," >> pure tt

  -- nothing
  abbrev pub nothing : Parser S (Unit {0})
  nothing = pure tt
