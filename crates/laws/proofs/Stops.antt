-- By which causes a parser refuses: the record `Stops`, and one law for each combinator.
-- Assumes nothing.
use Prim.Native.Nat.{ℕ, zero, suc}
use Prim.Native.Char.{Char}
use Prim.Native.String.{String}
use mathlib.Core.Path.{◌≡◌, refl}
use mathlib.Core.Bool.{Bool, true, false, ◌&&◌}
use mathlib.Core.List.{List, [], ◌∷◌, ◌++◌}
use mathlib.Core.Option.{Option, none, some}
use lib.Dec.{leb}
use Rattle.basics.specs.Basics.{if◌then◌otherwise◌}
use Rattle.error.specs.Causes.{too_long, overlapping_span}
use Rattle.lexer.specs.Tokens.{Kind, Tokens, token, eof, bad}
use Rattle.notation.specs.Parser.{Answer, read, refused, Parser, and_then, ◌>>=◌, pure, refuse, choose, here, refuse_here, kind, arrive, next, name_in, at_in, string_in, is_mark, says, eat_if, eat, eat_name, eat_at, must, expect, expect_name, taken, expect_string, parse_identifier, size, turns, loop, separate, until_step, until, comma, comma_or_not, nothing}

-- a cause from 1 to 21
abbrev pub by_itself : ℕ → Bool
by_itself n = leb too_long n && leb n overlapping_span

module _ {S : Type 0} where
  -- what ends the tokens, if no end of the text, is such a cause
  pub data Sound : Tokens S → Type 0 where
    sound-token : {k : Kind} {p : S} {ts : Tokens S} → Sound ts → Sound (token k p ts)
    sound-eof : {p : S} → Sound (eof p)
    sound-bad : {n : ℕ} {p : S} → by_itself n ≡ true → Sound (bad n p)

  -- such tokens are left, or such a cause is the answer
  abbrev pub After : {A : Type 0} → Answer S A → Type 0
  After (read a ts) = Sound ts
  After (refused n p) = by_itself n ≡ true

  -- at such tokens p answers so
  pub record Stops {A : Type 0} (p : Parser S A) : Type 0 where
    pub holds : (ts : Tokens S) → Sound ts → After (p ts)

  then-stops : {A B : Type 0} (r : Answer S A) (f : A → Parser S B) → After r → ((a : A) → Stops (f a)) → After (and_then r f)
  unfolding and_then
  then-stops (read a ts) f h k = (k a).holds ts h
  then-stops (refused n p) f h k = h

  pub bind_stops : {A B : Type 0} {p : Parser S A} (f : A → Parser S B) → Stops p → ((a : A) → Stops (f a)) → Stops (p >>= f)
  unfolding ◌>>=◌
  bind_stops {p = p} f h k = record { holds = λ ts s. then-stops (p ts) f (h.holds ts s) k }

  pub pure-stops : {A : Type 0} (a : A) → Stops (pure a)
  unfolding pure
  pure-stops a = record { holds = λ ts s. s }

  pub refuse-stops : {A : Type 0} (n : ℕ) (p : S) → by_itself n ≡ true → Stops {A = A} (refuse n p)
  unfolding refuse
  refuse-stops n p h = record { holds = λ ts s. h }

  pub refuse_here-stops : {A : Type 0} (n : ℕ) → by_itself n ≡ true → Stops {A = A} (refuse_here n)
  unfolding refuse_here
  refuse_here-stops n h = record { holds = λ ts s. h }

  pub choose-stops : {A : Type 0} (b : Bool) {p q : Parser S A} → Stops p → Stops q → Stops (choose b p q)
  unfolding choose
  choose-stops true h k = h
  choose-stops false h k = k

  pub if_stops : {A : Type 0} (b : Bool) {p q : Parser S A} → Stops p → Stops q → Stops (if b then p otherwise q)
  if_stops true h k = h
  if_stops false h k = k

  -- ------------------------------------------------------------------ the current token

  pub here-stops : Stops here
  unfolding here
  here-stops = record { holds = λ ts s. s }

  pub kind-stops : Stops kind
  unfolding kind
  kind-stops = record { holds = λ ts s. s }

  arrived : (ts : Tokens S) → Sound ts → After (arrive ts)
  unfolding arrive
  arrived (token k p ts) s = s
  arrived (eof p) s = s
  arrived (bad n p) (sound-bad h) = h

  pub arrive-stops : Stops arrive
  arrive-stops = record { holds = arrived }

  nexted : (ts : Tokens S) → Sound ts → After (next ts)
  unfolding next
  nexted (token k p ts) (sound-token s) = arrived ts s
  nexted (eof p) s = s
  nexted (bad n p) (sound-bad h) = h

  pub next-stops : Stops next
  next-stops = record { holds = nexted }

  -- ------------------------------------------------------------------ taking tokens

  eat_if-stops : (b : Bool) → Stops (eat_if b)
  unfolding eat_if
  eat_if-stops true = bind_stops _ next-stops λ u. pure-stops true
  eat_if-stops false = pure-stops false

  pub eat-stops : (c : Char) → Stops (eat c)
  unfolding eat
  eat-stops c = bind_stops _ kind-stops λ k. eat_if-stops (is_mark c k)

  pub eat_name-stops : (s : String) → Stops (eat_name s)
  unfolding eat_name
  eat_name-stops s = bind_stops _ kind-stops λ k. eat_if-stops (says s (name_in k))

  pub eat_at-stops : (s : String) → Stops (eat_at s)
  unfolding eat_at
  eat_at-stops s = bind_stops _ kind-stops λ k. eat_if-stops (says s (at_in k))

  must-stops : (b : Bool) → Stops (must b)
  unfolding must
  must-stops true = pure-stops tt
  must-stops false = refuse_here-stops _ refl

  pub expect-stops : (c : Char) → Stops (expect c)
  unfolding expect
  expect-stops c = bind_stops _ (eat-stops c) must-stops

  pub expect_name-stops : (s : String) → Stops (expect_name s)
  unfolding expect_name
  expect_name-stops s = bind_stops _ (eat_name-stops s) must-stops

  taken-stops : (o : Option (List ℕ)) → Stops (taken o)
  unfolding taken
  taken-stops none = refuse_here-stops _ refl
  taken-stops (some t) = bind_stops _ next-stops λ u. pure-stops t

  pub expect_string-stops : Stops expect_string
  unfolding expect_string
  expect_string-stops = bind_stops _ kind-stops λ k. taken-stops (string_in k)

  pub parse_identifier-stops : Stops parse_identifier
  unfolding parse_identifier
  parse_identifier-stops = bind_stops _ here-stops λ p. bind_stops _ kind-stops λ k. bind_stops _ (taken-stops (name_in k)) λ t. pure-stops _

  pub comma-stops : Stops comma
  comma-stops = expect-stops ","

  pub comma-or-not : Stops comma_or_not
  comma-or-not = bind_stops _ (eat-stops ",") λ b. pure-stops tt

  pub nothing-stops : Stops nothing
  nothing-stops = pure-stops tt

  -- ------------------------------------------------------------------ loops

  module _ {A : Type 0} (step : List A → Parser S (Option A)) (step-stops : (before : List A) → Stops (step before)) where
    turns-stops : (n : ℕ) (before : List A) → Stops (turns n step before)
    unfolding turns
    turns-stops zero before = refuse_here-stops _ refl
    turns-stops (suc n) before = bind_stops _ (step-stops before) (go λ a. turns-stops n (before ++ a ∷ []))
      where
        go : ((a : A) → Stops (turns n step (before ++ a ∷ [])))
            → (x : Option A) → Stops {A = List A} (elim x [ none ↦ pure before | some a ↦ turns n step (before ++ a ∷ []) ])
        go h none = pure-stops before
        go h (some a) = h a

    pub loop-stops : Stops (loop step)
    unfolding loop
    loop-stops = record { holds = λ ts s. (turns-stops (suc (suc (size ts))) []).holds ts s }

  separate-stops : {A : Type 0} {between : Parser S (Unit {0})} → Stops between → (before : List A) → Stops (separate between before)
  unfolding separate
  separate-stops h [] = pure-stops tt
  separate-stops h (x ∷ xs) = h

  until_step-stops : {A : Type 0} {stop : Parser S Bool} {between : Parser S (Unit {0})} (item : List A → Parser S A) → Stops stop → Stops between
      → ((before : List A) → Stops (item before)) → (before : List A) → Stops (until_step stop between item before)
  unfolding until_step
  until_step-stops item h k i before =
      bind_stops _ h λ b. choose-stops b (pure-stops none)
      (bind_stops _ (separate-stops k before) λ u. bind_stops _ (i before) λ x. pure-stops (some x))

  -- items with something between them, up to where `stop` says so
  pub until-stops : {A : Type 0} {stop : Parser S Bool} {between : Parser S (Unit {0})} (item : List A → Parser S A) → Stops stop → Stops between
      → ((before : List A) → Stops (item before)) → Stops (until stop between item)
  until-stops item h k i = loop-stops _ (until_step-stops item h k i)
