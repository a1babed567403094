-- A parser does not look at starts: it commutes with replacing them. The record `Alike`, and one law for each combinator.
-- Assumes nothing.
use Prim.Native.Nat.{ℕ, zero, suc}
use Prim.Native.Char.{Char}
use Prim.Native.String.{String}
use mathlib.Core.Path.{◌≡◌, refl, ap}
use mathlib.Core.Bool.{Bool, true, false}
use mathlib.Core.List.{List, [], ◌∷◌, ◌++◌, map, map-append}
use mathlib.Core.Option.{Option, none, some}
use Rattle.lexer.specs.Tokens.{Tokens, token, eof, bad}
use Rattle.notation.specs.Parser.{Answer, read, refused, Parser, and_then, ◌>>=◌, pure, refuse, choose, start_of, here, refuse_here, kind_of, kind, arrive, next, eat_if, eat, eat_name, eat_at, must, expect, expect_name, taken, expect_string, parse_identifier, size, turns, loop, separate, until_step, until, comma_or_not}
use Rattle.laws.proofs.Starts.{on_tokens, on_answer, on_identifier}
use Rattle.laws.proofs.Lists.{on_option}

-- q gives on the tokens with other starts what p gives, with those starts
pub record Alike {S T A B : Type 0} (f : S → T) (g : A → B) (p : Parser S A) (q : Parser T B) : Type 0 where
  pub on : (ts : Tokens S) → q (on_tokens f ts) ≡ on_answer f g (p ts)

abbrev pub same : {A : Type 0} → A → A
same a = a

-- the current token, and how many are left, with other starts
module _ {S T : Type 0} (f : S → T) where
  start-on : (ts : Tokens S) → start_of (on_tokens f ts) ≡ f (start_of ts)
  unfolding start_of on_tokens
  start-on (token k p ts) = refl
  start-on (eof p) = refl
  start-on (bad n p) = refl

  kind-on : (ts : Tokens S) → kind_of (on_tokens f ts) ≡ kind_of ts
  unfolding kind_of on_tokens
  kind-on (token k p ts) = refl
  kind-on (eof p) = refl
  kind-on (bad n p) = refl

  pub size-on : (ts : Tokens S) → size (on_tokens f ts) ≡ size ts
  unfolding size on_tokens
  size-on (token k p ts) = ap suc (size-on ts)
  size-on (eof p) = refl
  size-on (bad n p) = refl

module _ {S T : Type 0} {f : S → T} where
  then_alike : {A B C D : Type 0} (g : A → B) (h : C → D) (r : Answer S A) (k : A → Parser S C) (l : B → Parser T D)
      → ((a : A) → Alike f h (k a) (l (g a))) → and_then (on_answer f g r) l ≡ on_answer f h (and_then r k)
  unfolding on_answer and_then
  then_alike g h (read a ts) k l e = (e a).on ts
  then_alike g h (refused n p) k l e = refl

  pub bind_alike : {A B C D : Type 0} {g : A → B} {h : C → D} {p : Parser S A} {q : Parser T B} {k : A → Parser S C} (l : B → Parser T D)
      → Alike f g p q → ((a : A) → Alike f h (k a) (l (g a))) → Alike f h (p >>= k) (q >>= l)
  unfolding ◌>>=◌
  bind_alike {g = g} {h} {p} {q} {k} l a e = record { on = λ ts. rw (a.on ts) (then_alike g h (p ts) k l e) }

  pub pure_alike : {A B : Type 0} {g : A → B} (a : A) {b : B} → b ≡ g a → Alike f g (pure a) (pure b)
  unfolding on_answer pure
  pure_alike a e = record { on = λ ts. ap (λ c. read c (on_tokens f ts)) e }

  pub refuse_alike : {A B : Type 0} {g : A → B} (n : ℕ) (p : S) → Alike f g (refuse n p) (refuse n (f p))
  unfolding on_answer refuse
  refuse_alike n p = record { on = λ ts. refl }

  pub choose_alike : {A B : Type 0} {g : A → B} (b : Bool) {p p' : Parser S A} {q q' : Parser T B} → Alike f g p q → Alike f g p' q'
      → Alike f g (choose b p p') (choose b q q')
  unfolding choose
  choose_alike true h k = h
  choose_alike false h k = k

  -- ------------------------------------------------------------------ the current token

  pub here_alike : Alike f f here here
  unfolding on_answer here
  here_alike = record { on = λ ts. ap (λ p. read p (on_tokens f ts)) (start-on f ts) }

  pub kind_alike : Alike f same kind kind
  unfolding on_answer kind
  kind_alike = record { on = λ ts. ap (λ k. read k (on_tokens f ts)) (kind-on f ts) }

  pub refuse_here_alike : {A B : Type 0} {g : A → B} (n : ℕ) → Alike {A = A} f g (refuse_here n) (refuse_here n)
  unfolding on_answer refuse_here
  refuse_here_alike n = record { on = λ ts. ap (refused n) (start-on f ts) }

  pub arrive_alike : Alike f same arrive arrive
  unfolding arrive on_tokens on_answer
  arrive_alike = record { on = λ ts. go ts }
    where
      go : (ts : Tokens S) → arrive (on_tokens f ts) ≡ on_answer f same (arrive ts)
      go (token k p ts) = refl
      go (eof p) = refl
      go (bad n p) = refl

  pub next_alike : Alike f same next next
  unfolding next on_tokens on_answer
  next_alike = record { on = λ ts. go ts }
    where
      go : (ts : Tokens S) → next (on_tokens f ts) ≡ on_answer f same (next ts)
      go (token k p ts) = arrive_alike.on ts
      go (eof p) = refl
      go (bad n p) = refl

  -- ------------------------------------------------------------------ taking tokens

  eat_if_alike : (b : Bool) → Alike f same (eat_if b) (eat_if b)
  unfolding eat_if
  eat_if_alike true = bind_alike _ next_alike λ u. pure_alike _ refl
  eat_if_alike false = pure_alike _ refl

  pub eat_alike : (c : Char) → Alike f same (eat c) (eat c)
  unfolding eat
  eat_alike c = bind_alike _ kind_alike λ k. eat_if_alike _

  pub eat_name_alike : (s : String) → Alike f same (eat_name s) (eat_name s)
  unfolding eat_name
  eat_name_alike s = bind_alike _ kind_alike λ k. eat_if_alike _

  pub eat_at_alike : (s : String) → Alike f same (eat_at s) (eat_at s)
  unfolding eat_at
  eat_at_alike s = bind_alike _ kind_alike λ k. eat_if_alike _

  must_alike : (b : Bool) → Alike f same (must b) (must b)
  unfolding must
  must_alike true = pure_alike _ refl
  must_alike false = refuse_here_alike _

  pub expect_alike : (c : Char) → Alike f same (expect c) (expect c)
  unfolding expect
  expect_alike c = bind_alike _ (eat_alike c) λ b. must_alike b

  pub expect_name_alike : (s : String) → Alike f same (expect_name s) (expect_name s)
  unfolding expect_name
  expect_name_alike s = bind_alike _ (eat_name_alike s) λ b. must_alike b

  taken_alike : (t : Option (List ℕ)) → Alike f same (taken t) (taken t)
  unfolding taken
  taken_alike none = refuse_here_alike _
  taken_alike (some t) = bind_alike _ next_alike λ u. pure_alike _ refl

  pub expect_string_alike : Alike f same expect_string expect_string
  unfolding expect_string
  expect_string_alike = bind_alike _ kind_alike λ k. taken_alike _

  pub parse_identifier_alike : Alike f (on_identifier f) parse_identifier parse_identifier
  unfolding parse_identifier
  parse_identifier_alike = bind_alike _ here_alike λ p. bind_alike _ kind_alike λ k. bind_alike _ (taken_alike _) λ t. pure_alike _ refl

  -- ------------------------------------------------------------------ loops

  module _ {A B : Type 0} (g : A → B) where
    turns_alike : (n : ℕ) {step : List A → Parser S (Option A)} (step' : List B → Parser T (Option B))
        → ((before : List A) → Alike f (on_option g) (step before) (step' (map g before)))
        → (before : List A) → Alike f (map g) (turns n step before) (turns n step' (map g before))
    unfolding turns
    turns_alike zero step' e before = refuse_here_alike _
    turns_alike (suc n) {step} step' e before = bind_alike _ (e before) (go (λ a. turns_alike n step' e (before ++ a ∷ [])))
      where
        go : ((a : A) → Alike f (map g) (turns n step (before ++ a ∷ [])) (turns n step' (map g (before ++ a ∷ []))))
            → (x : Option A)
            → Alike f (map g) (elim x [ none ↦ pure before | some a ↦ turns n step (before ++ a ∷ []) ])
            (elim (on_option g x) [ none ↦ pure (map g before) | some b ↦ turns n step' (map g before ++ b ∷ []) ])
        go h none = pure_alike _ refl
        go h (some a) = rw (← map-append g before (a ∷ [])) (h a)

    pub loop_alike : {step : List A → Parser S (Option A)} (step' : List B → Parser T (Option B))
        → ((before : List A) → Alike f (on_option g) (step before) (step' (map g before))) → Alike f (map g) (loop step) (loop step')
    unfolding loop
    loop_alike step' e = record { on = λ ts. rw (size-on f ts) ((turns_alike (suc (suc (size ts))) step' e []).on ts) }

    separate_alike : {m : Parser S (Unit {0})} {m' : Parser T (Unit {0})} → Alike f same m m' → (before : List A) → Alike f same (separate m before) (separate m' (map g before))
    unfolding separate
    separate_alike a [] = pure_alike _ refl
    separate_alike a (x ∷ xs) = a

    pub until_alike : {stop : Parser S Bool} {stop' : Parser T Bool} {between : Parser S (Unit {0})} {between' : Parser T (Unit {0})}
        {item : List A → Parser S A} (item' : List B → Parser T B)
        → Alike f same stop stop' → Alike f same between between' → ((before : List A) → Alike f g (item before) (item' (map g before)))
        → Alike f (map g) (until stop between item) (until stop' between' item')
    unfolding until_step
    until_alike item' s b i = loop_alike _ λ before. bind_alike _ s λ done. choose_alike done (pure_alike _ refl) (bind_alike _ (separate_alike b before) λ u. bind_alike _ (i before) λ x. pure_alike _ refl)

  pub comma_or_not_alike : Alike f same comma_or_not comma_or_not
  comma_or_not_alike = bind_alike _ (eat_alike ",") λ b. pure_alike _ refl
