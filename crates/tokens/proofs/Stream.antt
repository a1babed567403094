-- One step along the tokens of a text.
-- Assumes nothing.
use Prim.Native.Nat.{ℕ}
use lib.Dec.{eqb}
use Rattle.basics.specs.Basics.{same}
use Rattle.characters.specs.Places.{cut}
use Rattle.error.specs.declared.Cause.TheVariants.{UnexpectedToken}
use Rattle.error.specs.declared.Stop.{Stop}
use Rattle.error.specs.Promise.{cause_number}
use Rattle.lexer.proofs.Spelled.{spells-codes}
use mathlib.Core.Path.{◌≡◌, refl, ap, sym}
use mathlib.Core.Bool.{Bool, true, false}
use mathlib.Core.List.{List}
use mathlib.Core.Option as M
use Rattle.std.specs.Prelude.{Option, Some, None, Result, Ok, Err}
use Rattle.lexer.specs.declared.Kind.{Kind}
use Rattle.lexer.specs.declared.Kind.TheVariants.{String, At, Set, Punctuation, Identifier}
use Rattle.lexer.specs.declared.Part.{Part}
use Rattle.lexer.specs.declared.Token.{Token}
use Rattle.lexer.specs.declared.Token.TheVariants.{Of, Eof}
use Rattle.lexer.specs.Promise.{tokens_at, Reads}
use Rattle.lexer.specs.Escapes.{decode_string}
use Rattle.tree.specs.Syntax.{Identifier as Name}
use Rattle.notation.specs.Parser.{and_then, ◌>>=◌, pure, refused, start_of, kind_of, kind, mark_in, name_in, at_in, string_in, here, refuse_here, taken, parse_identifier, expect_string, arrive, next, eat_if, eat, eat_name, eat_at, must, expect}
use Rattle.tokens.specs.Promise.{stream, start_in, end_in, mark_of, arrival, LiesIn, Lies, EatsIf, Eats, EatsName, EatsAt, Expects, name_of, at_of, string_of, text_in, Whole, Says, taken_by, mapped, Takes, Identifies, TakesString}
use Rattle.tokens.proofs.Ends.{eof-inside}

-- what the lexer's answer is for the parser
module _ (s : List ℕ) (from : ℕ) where
  pub arrived : (r : Result Token Stop) → Reads s from r → (arrive (tokens_at s from) ≡ arrival s r) × Lies s from r
  unfolding arrive stream
  arrived (Ok (Of k start end)) h = (ap arrive h.tokens, h.placed)
  arrived (Ok (Eof p)) h = (ap arrive h.tokens, λ i. eof-inside s from h.tokens i)
  arrived (Err e) h = (ap arrive h.tokens, tt)

-- ------------------------------------------------------------------ the current token

module _ (s : List ℕ) where
  pub start-of : (t : Token) → start_of (stream s t) ≡ start_in t
  unfolding start_of stream
  start-of (Of k start end) = refl
  start-of (Eof p) = refl

  pub mark-of : (t : Token) → mark_in (kind_of (stream s t)) ≡ mark_of t
  unfolding kind_of stream
  mark-of (Of (String q a) start end) = refl
  mark-of (Of (At a) start end) = refl
  mark-of (Of (Set i a) start end) = refl
  mark-of (Of (Punctuation c) start end) = refl
  mark-of (Of (Identifier a) start end) = refl
  mark-of (Eof p) = refl

  -- after a token comes what the lexer gives from its end on
  pub next-token : {t : Token} {k : Kind} {start end : ℕ} (r : Result Token Stop) → t ≡ Of k start end → (arrive (tokens_at s end) ≡ arrival s r) × Lies s end r
      → (next (stream s t) ≡ arrival s r) × Lies s (end_in t) r
  unfolding next stream
  next-token r e h = rw e h

  pub next-end : {t : Token} {p : ℕ} → t ≡ Eof p → (next (stream s t) ≡ arrival s (Ok t)) × LiesIn s (end_in t) t
  unfolding next stream
  next-end e = rw e (refl, λ h. h)

  -- ------------------------------------------------------------------ names

  pub name-of : (t : Token) → name_in (kind_of (stream s t)) ≡ text_in s (name_of t)
  unfolding kind_of stream
  name-of (Of (String q a) start end) = refl
  name-of (Of (At a) start end) = refl
  name-of (Of (Set i a) start end) = refl
  name-of (Of (Punctuation c) start end) = refl
  name-of (Of (Identifier a) start end) = refl
  name-of (Eof p) = refl

  pub at-of : (t : Token) → at_in (kind_of (stream s t)) ≡ text_in s (at_of t)
  unfolding kind_of stream
  at-of (Of (String q a) start end) = refl
  at-of (Of (At a) start end) = refl
  at-of (Of (Set i a) start end) = refl
  at-of (Of (Punctuation c) start end) = refl
  at-of (Of (Identifier a) start end) = refl
  at-of (Eof p) = refl

  -- the parts of a token are whole
  pub name-whole : (t : Token) (from : ℕ) → LiesIn s from t → Whole s (name_of t)
  name-whole (Of (String q a) start end) from h = tt
  name-whole (Of (At a) start end) from h = tt
  name-whole (Of (Set i a) start end) from h = tt
  name-whole (Of (Punctuation c) start end) from h = tt
  name-whole (Of (Identifier a) start end) from h = h.3
  name-whole (Eof p) from h = tt

  pub at-whole : (t : Token) (from : ℕ) → LiesIn s from t → Whole s (at_of t)
  at-whole (Of (String q a) start end) from h = tt
  at-whole (Of (At a) start end) from h = h.3
  at-whole (Of (Set i a) start end) from h = tt
  at-whole (Of (Punctuation c) start end) from h = tt
  at-whole (Of (Identifier a) start end) from h = tt
  at-whole (Eof p) from h = tt

  pub says-part : (word : List ℕ) {part : Option Part} {a : Part} {r : Bool} → Whole s part → part ≡ Some a → r ≡ same word (cut s a.from a.to) → Says s part word r
  says-part word {part} {a} {r} h q t =
      let k : Whole s (Some a) = rw q at h in
      record { said = λ w l p. rw (q, l, t) (sym (spells-codes word (cut s a.from a.to) p k.bytes)) }

  -- ------------------------------------------------------------------ taking a token

  module _ (t : Token) where
    pub eat_no : {b : Bool} → b ≡ false → EatsIf s t b (Ok None)
    unfolding eat_if pure
    eat_no {b} e = record { eats = rw e; lies = tt }

    module _ {b : Bool} (e : b ≡ true) where
      pub eat_yes : {u : Token} → (next (stream s t) ≡ arrival s (Ok u)) × LiesIn s (end_in t) u → EatsIf s t b (Ok (Some u))
      unfolding eat_if ◌>>=◌ and_then pure
      eat_yes {u} k = record { eats = rw (e, eat_if, k.0); lies = k.1 }

      pub eat-refused : {d : Stop} → next (stream s t) ≡ refused (cause_number d.cause) d.place → EatsIf s t b (Err d)
      unfolding eat_if ◌>>=◌ and_then
      eat-refused {d} k = record { eats = rw (e, eat_if, k); lies = tt }

    pub eat-mark : {c n : ℕ} {r : Result (Option Token) Stop} → n ≡ mark_of t → EatsIf s t (eqb n c) r → Eats s t c r
    unfolding eat ◌>>=◌ and_then kind
    eat-mark e h = record { eats = λ m q. rw (mark-of t, q, ← e) h.eats; lies = h.lies }

    pub eat-name : {word : List ℕ} {b : Bool} {r : Result (Option Token) Stop} → Says s (name_of t) word b → EatsIf s t b r → EatsName s t word r
    unfolding eat_name ◌>>=◌ and_then kind
    eat-name e h = record { eats = λ w q p. rw (name-of t, e.said w q p) h.eats; lies = h.lies }

    pub eat-at : {word : List ℕ} {b : Bool} {r : Result (Option Token) Stop} → Says s (at_of t) word b → EatsIf s t b r → EatsAt s t word r
    unfolding eat_at ◌>>=◌ and_then kind
    eat-at e h = record { eats = λ w q p. rw (at-of t, e.said w q p) h.eats; lies = h.lies }

  module _ (t : Token) (c : ℕ) where
    pub expect_yes : {u : Token} → Eats s t c (Ok (Some u)) → Expects s t c (Ok u)
    unfolding expect ◌>>=◌ and_then must pure
    expect_yes k = record { expects = λ m f. rw (k.eats m f); lies = k.lies }

    pub expect_no : {d : Stop} → Eats s t c (Ok None) → (d.cause ≡ UnexpectedToken) × (d.place ≡ start_in t) → Expects s t c (Err d)
    unfolding expect ◌>>=◌ and_then must refuse_here
    expect_no k q = record { expects = λ m f. rw (k.eats m f, must, start-of t, q.0, q.1); lies = tt }

    pub expect-refused : {d : Stop} → Eats s t c (Err d) → Expects s t c (Err d)
    unfolding expect ◌>>=◌ and_then
    expect-refused k = record { expects = λ m f. rw (k.eats m f); lies = tt }

  -- ------------------------------------------------------------------ taking what a token holds

  pub string-of : (t : Token) → string_in (kind_of (stream s t)) ≡ mapped decode_string (text_in s (string_of t))
  unfolding kind_of stream
  string-of (Of (String q a) start end) = refl
  string-of (Of (At a) start end) = refl
  string-of (Of (Set i a) start end) = refl
  string-of (Of (Punctuation c) start end) = refl
  string-of (Of (Identifier a) start end) = refl
  string-of (Eof p) = refl

  module _ (t : Token) where
    pub take-nothing : {part : Option Part} {d : Stop} → part ≡ None → (d.cause ≡ UnexpectedToken) × (d.place ≡ start_in t) → Takes s t part (Err d)
    unfolding taken refuse_here
    take-nothing e q = record { takes = λ f. rw (e, taken, start-of t, q.0, q.1); lies = tt }

    module _ {part : Option Part} {a : Part} (i : part ≡ Some a) where
      pub take-got : {u : Token} → (next (stream s t) ≡ arrival s (Ok u)) × LiesIn s (end_in t) u → Takes s t part (Ok (a, u))
      unfolding taken ◌>>=◌ and_then pure
      take-got k = record { takes = λ f. rw (i, taken, k.0); lies = (k.1, i) }

      pub take-refused : {d : Stop} → next (stream s t) ≡ refused (cause_number d.cause) d.place → Takes s t part (Err d)
      unfolding taken ◌>>=◌ and_then
      take-refused k = record { takes = λ f. rw (i, taken, k); lies = tt }

    same_text : (o : M.Option (List ℕ)) → mapped (λ n. n) o ≡ o
    same_text M.none = refl
    same_text (M.some n) = refl

    abbrev name_at : List ℕ → Name ℕ
    name_at n = record { start = start_in t; name = n }

    named : (r : Result (Part × Token) Stop) → and_then (taken_by (λ n. n) s r) (λ n. pure (name_at n)) ≡ taken_by name_at s r
    unfolding and_then pure
    named (Ok (a, u)) = refl
    named (Err d) = refl

    pub identifies : {r : Result (Part × Token) Stop} → Takes s t (name_of t) r → Identifies s t r
    unfolding parse_identifier ◌>>=◌ here kind and_then
    identifies {r} h =
        record { takes = rw (start-of t, name-of t, ← same_text (text_in s (name_of t)), h.takes (λ n. n)) (named r); lies = h.lies }

    pub takes-string : {r : Result (Part × Token) Stop} → Takes s t (string_of t) r → TakesString s t r
    unfolding expect_string ◌>>=◌ kind and_then
    takes-string h = record { takes = rw (string-of t) (h.takes decode_string); lies = h.lies }
