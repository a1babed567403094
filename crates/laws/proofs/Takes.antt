-- How many tokens a parser takes at least, by its answer: the record `Takes`, one law for each combinator, and the law of the loop.
-- Assumes nothing.
use Prim.Native.Nat.{ℕ, zero, suc, ◌+◌, ◌-◌, ◌≤◌}
use Prim.Native.Char.{Char}
use Prim.Native.String.{String}
use native.Mathlib.Omega.{arith}
use mathlib.Core.Path.{◌≡◌, refl, sym, ◌∙◌}
use mathlib.Core.Bool.{Bool, true, false}
use mathlib.Core.List.{List, [], ◌∷◌, ◌++◌}
use mathlib.Core.Option.{Option, none, some}
use Rattle.basics.specs.Basics.{if◌then◌otherwise◌, is}
use Rattle.basics.proofs.Tests.{impossible, clash}
use Rattle.lexer.specs.Tokens.{Kind, Tokens, token, eof, bad}
use Rattle.notation.specs.Parser.{Answer, read, refused, Parser, and_then, ◌>>=◌, pure, refuse, choose, start_of, here, refuse_here, kind_of, kind, arrive, next, name_in, at_in, string_in, is_end, is_mark, says, eat_if, eat, eat_name, eat_at, must, expect, expect_name, taken, expect_string, parse_identifier, size, turns, loop, separate, until_step, until, comma, comma_or_not, nothing}
use Rattle.laws.specs.Bound.{turns_or, Enough}

module _ {S : Type 0} where
  -- at least k of the n tokens are gone; a refusal satisfies anything
  abbrev pub Gone : {A : Type 0} → (A → ℕ) → ℕ → Answer S A → Type 0
  Gone k n (read a us) = size us + k a ≤ n
  Gone k n (refused m p) = Unit {0}

  -- if p answers a at ts, it takes at least k a tokens
  pub record Takes {A : Type 0} (p : Parser S A) (ts : Tokens S) (k : A → ℕ) : Type 0 where
    pub holds : Gone k (size ts) (p ts)

  pub weaken : {A : Type 0} {p : Parser S A} {ts : Tokens S} {j k : A → ℕ} → Takes p ts j → ((a : A) → k a ≤ j a) → Takes p ts k
  weaken {A = A} {p} {ts} {j} {k} h g = record { holds = go (p ts) h.holds }
    where
      go : (r : Answer S A) → Gone j (size ts) r → Gone k (size ts) r
      go (read a us) i = let l = g a in omega arith
      go (refused n p) i = tt

  then-takes : {A B : Type 0} (j : A → ℕ) (k : B → ℕ) (n : ℕ) (r : Answer S A) (f : A → Parser S B)
      → Gone j n r → ((a : A) (us : Tokens S) → Takes (f a) us (λ b. k b - j a)) → Gone k n (and_then r f)
  unfolding and_then
  then-takes {B = B} j k n (read a us) f h g = go (f a us) (g a us).holds
    where
      go : (q : Answer S B) → Gone (λ b. k b - j a) (size us) q → Gone k n q
      go (read b vs) i = omega arith
      go (refused m p) i = tt
  then-takes j k n (refused m p) f h g = tt

  -- what is to be taken in all, less what the first took, is left to the second
  pub bind_takes : {A B : Type 0} {j : A → ℕ} {k : B → ℕ} {p : Parser S A} {ts : Tokens S} (f : A → Parser S B)
      → Takes p ts j → ((a : A) (us : Tokens S) → Takes (f a) us (λ b. k b - j a)) → Takes (p >>= f) ts k
  unfolding ◌>>=◌
  bind_takes {j = j} {k} {p} {ts} f h g = record { holds = then-takes j k (size ts) (p ts) f h.holds g }

  pub pure-takes : {A : Type 0} (a : A) (ts : Tokens S) {k : A → ℕ} → k a ≡ 0 → Takes (pure a) ts k
  unfolding pure
  pure-takes a ts h = record { holds = omega arith }

  pub refuse-takes : {A : Type 0} (n : ℕ) (p : S) (ts : Tokens S) {k : A → ℕ} → Takes (refuse n p) ts k
  unfolding refuse
  refuse-takes n p ts = record { holds = tt }

  pub refuse_here-takes : {A : Type 0} (n : ℕ) (ts : Tokens S) {k : A → ℕ} → Takes (refuse_here n) ts k
  unfolding refuse_here
  refuse_here-takes n ts = record { holds = tt }

  pub choose-takes : {A : Type 0} (b : Bool) {p q : Parser S A} {ts : Tokens S} {k : A → ℕ} → Takes p ts k → Takes q ts k → Takes (choose b p q) ts k
  unfolding choose
  choose-takes true h g = h
  choose-takes false h g = g

  pub if_takes : {A : Type 0} (b : Bool) {p q : Parser S A} {ts : Tokens S} {k : A → ℕ} → Takes p ts k → Takes q ts k → Takes (if b then p otherwise q) ts k
  if_takes true h g = h
  if_takes false h g = g

  -- what takes anything takes nothing at least
  pub any : {A : Type 0} {p : Parser S A} {ts : Tokens S} {j : A → ℕ} → Takes p ts j → Takes p ts (λ a. 0)
  any h = weaken h λ a. omega arith

  -- ------------------------------------------------------------------ the current token

  pub here-takes : {B : Type 0} {k : B → ℕ} (f : S → Parser S B) (ts : Tokens S) → Takes (f (start_of ts)) ts k → Takes (here >>= f) ts k
  unfolding here ◌>>=◌ and_then
  here-takes f ts h = record { holds = h.holds }

  pub kind-takes : {B : Type 0} {k : B → ℕ} (f : Option Kind → Parser S B) (ts : Tokens S) → Takes (f (kind_of ts)) ts k → Takes (kind >>= f) ts k
  unfolding kind ◌>>=◌ and_then
  kind-takes f ts h = record { holds = h.holds }

  arrived : (ts : Tokens S) → Gone (λ u. 0) (size ts) (arrive ts)
  unfolding arrive
  arrived (token k p ts) = omega arith
  arrived (eof p) = omega arith
  arrived (bad n p) = tt

  -- a token is there
  abbrev pub There : Tokens S → Type 0
  There ts = is_end (kind_of ts) ≡ false

  one_less : (n : ℕ) (r : Answer S (Unit {0})) → Gone (λ u. 0) n r → Gone (λ u. 1) (suc n) r
  one_less n (read u us) h = omega arith
  one_less n (refused m p) h = tt

  nexted : (ts : Tokens S) → There ts → Gone (λ u. 1) (size ts) (next ts)
  unfolding next size kind_of
  nexted (token k p ts) h = one_less (size ts) (arrive ts) (arrived ts)
  nexted (eof p) h = clash true refl h
  nexted (bad n p) h = tt

  -- a token, if one is there; at the end nothing is taken
  pub next-takes : (ts : Tokens S) → There ts → Takes next ts (λ u. 1)
  next-takes ts h = record { holds = nexted ts h }

  next-gone : (ts : Tokens S) → Gone (λ u. 0) (size ts) (next ts)
  unfolding next size
  next-gone (token k p ts) = go (arrive ts) (arrived ts)
    where
      go : (r : Answer S (Unit {0})) → Gone (λ u. 0) (size ts) r → Gone (λ u. 0) (suc (size ts)) r
      go (read u us) h = omega arith
      go (refused m p) h = tt
  next-gone (eof p) = omega arith
  next-gone (bad n p) = tt

  pub next-any : (ts : Tokens S) → Takes next ts (λ u. 0)
  next-any ts = record { holds = next-gone ts }

-- a kind that holds something is not the end
pub mark-there : (c : Char) → is c 0 ≡ false → (k : Option Kind) → is_mark c k ≡ true → is_end k ≡ false
mark-there c n (some k) h = refl
mark-there c n none h = clash (is c 0) h n

no_text : {B : Type 0} {t : List ℕ} → ◌≡◌ {A = Option (List ℕ)} none (some t) → B
no_text e = impossible (cc)

pub name-there : (k : Option Kind) (t : List ℕ) → name_in k ≡ some t → is_end k ≡ false
name-there (some k) t h = refl
name-there none t h = no_text h

pub at_there : (k : Option Kind) (t : List ℕ) → at_in k ≡ some t → is_end k ≡ false
at_there (some k) t h = refl
at_there none t h = no_text h

pub string-there : (k : Option Kind) (t : List ℕ) → string_in k ≡ some t → is_end k ≡ false
string-there (some k) t h = refl
string-there none t h = no_text h

says-name-there : (s : String) (k : Option Kind) → says s (name_in k) ≡ true → is_end k ≡ false
says-name-there s (some k) h = refl
says-name-there s none h = clash true refl (sym h)

says-at-there : (s : String) (k : Option Kind) → says s (at_in k) ≡ true → is_end k ≡ false
says-at-there s (some k) h = refl
says-at-there s none h = clash true refl (sym h)

-- one if so
abbrev pub one_if : Bool → ℕ
one_if true = 1
one_if false = 0

-- what a turn takes that finds something
abbrev pub one_found : {A : Type 0} → Option A → ℕ
one_found none = 0
one_found (some a) = 1

-- the same, but for the first turn, which need not take any
abbrev pub one_after : {A : Type 0} → List A → Option A → ℕ
one_after before none = 0
one_after [] (some a) = 0
one_after (x ∷ xs) (some a) = 1

-- how many turns beyond the tokens left there must be
abbrev spare : {A : Type 0} → List A → ℕ
spare [] = 2
spare (x ∷ xs) = 1

spare-after : {A : Type 0} (before : List A) (a : A) (u n m : ℕ) → u + one_after before (some a) ≤ n → n + spare before ≤ suc m → u + spare (before ++ a ∷ []) ≤ m
spare-after [] a u n m h g = omega arith
spare-after (x ∷ xs) a u n m h g = omega arith

some-turns : {A : Type 0} (before : List A) (n : ℕ) → n + spare before ≤ 0 → ⊥
some-turns [] n h = omega arith
some-turns (x ∷ xs) n h = omega arith

module _ {S : Type 0} where
  -- ------------------------------------------------------------------ taking tokens

  eat_if-takes : (b : Bool) (ts : Tokens S) → (b ≡ true → There ts) → Takes (eat_if b) ts one_if
  unfolding eat_if
  eat_if-takes true ts h = bind_takes _ (next-takes ts (h refl)) λ u us. pure-takes true us refl
  eat_if-takes false ts h = pure-takes false ts refl

  -- one token if the answer is yes. Where no token is, the mark is taken for 0: the character must not be that
  pub eat-takes : (c : Char) → is c 0 ≡ false → (ts : Tokens S) → Takes (eat c) ts one_if
  unfolding eat
  eat-takes c n ts = kind-takes _ ts (eat_if-takes (is_mark c (kind_of ts)) ts (mark-there c n (kind_of ts)))

  pub eat_name-takes : (s : String) (ts : Tokens S) → Takes (eat_name s) ts one_if
  unfolding eat_name
  eat_name-takes s ts = kind-takes _ ts (eat_if-takes (says s (name_in (kind_of ts))) ts (says-name-there s (kind_of ts)))

  pub eat_at-takes : (s : String) (ts : Tokens S) → Takes (eat_at s) ts one_if
  unfolding eat_at
  eat_at-takes s ts = kind-takes _ ts (eat_if-takes (says s (at_in (kind_of ts))) ts (says-at-there s (kind_of ts)))

  must-takes : (b : Bool) (ts : Tokens S) → Takes (must b) ts (λ u. 1 - one_if b)
  unfolding must
  must-takes true ts = pure-takes tt ts refl
  must-takes false ts = refuse_here-takes _ ts

  pub expect-takes : (c : Char) → is c 0 ≡ false → (ts : Tokens S) → Takes (expect c) ts (λ u. 1)
  unfolding expect
  expect-takes c n ts = bind_takes _ (eat-takes c n ts) must-takes

  pub expect_name-takes : (s : String) (ts : Tokens S) → Takes (expect_name s) ts (λ u. 1)
  unfolding expect_name
  expect_name-takes s ts = bind_takes _ (eat_name-takes s ts) must-takes

  taken-takes : (o : Option (List ℕ)) (ts : Tokens S) → ((t : List ℕ) → o ≡ some t → There ts) → Takes (taken o) ts (λ t. 1)
  unfolding taken
  taken-takes none ts h = refuse_here-takes _ ts
  taken-takes (some t) ts h = bind_takes _ (next-takes ts (h t refl)) λ u us. pure-takes t us refl

  pub expect_string-takes : (ts : Tokens S) → Takes expect_string ts (λ t. 1)
  unfolding expect_string
  expect_string-takes ts = kind-takes _ ts (taken-takes (string_in (kind_of ts)) ts (string-there (kind_of ts)))

  pub parse_identifier-takes : (ts : Tokens S) → Takes parse_identifier ts (λ n. 1)
  unfolding parse_identifier
  parse_identifier-takes ts =
      here-takes _ ts (kind-takes _ ts (bind_takes _ (taken-takes (name_in (kind_of ts)) ts (name-there (kind_of ts))) λ t us. pure-takes _ us refl))

  pub comma-takes : (ts : Tokens S) → Takes comma ts (λ u. 1)
  comma-takes ts = expect-takes "," refl ts

  pub comma-or-not : (ts : Tokens S) → Takes comma_or_not ts (λ u. 0)
  comma-or-not ts = bind_takes _ (any (eat-takes "," refl ts)) λ b us. pure-takes tt us refl

  pub nothing-takes : (ts : Tokens S) → Takes nothing ts (λ u. 0)
  nothing-takes ts = pure-takes tt ts refl

  -- ------------------------------------------------------------------ loops

  pub found : {A : Type 0} (before : List A) {p : Parser S (Option A)} {ts : Tokens S} → Takes p ts one_found → Takes p ts (one_after before)
  found {A = A} before h = weaken h (go before)
    where
      go : (before : List A) (x : Option A) → one_after before x ≤ one_found x
      go before none = omega arith
      go [] (some a) = omega arith
      go (y ∷ ys) (some a) = omega arith

  module _ {A : Type 0} (step : List A → Parser S (Option A)) (step-takes : (before : List A) (ts : Tokens S) → Takes (step before) ts (one_after before)) where
    turns-takes : (n : ℕ) (before : List A) (ts : Tokens S) → Takes (turns n step before) ts (λ xs. 0)
    unfolding turns
    turns-takes zero before ts = refuse_here-takes _ ts
    turns-takes (suc n) before ts = bind_takes _ (any (step-takes before ts)) (go λ a us. turns-takes n (before ++ a ∷ []) us)
      where
        go : ((a : A) (us : Tokens S) → Takes (turns n step (before ++ a ∷ [])) us (λ xs. 0))
            → (x : Option A) (us : Tokens S) → Takes {A = List A} (elim x [ none ↦ pure before | some a ↦ turns n step (before ++ a ∷ []) ]) us (λ xs. 0)
        go h none us = pure-takes before us refl
        go h (some a) us = h a us

    pub loop-takes : (ts : Tokens S) → Takes (loop step) ts (λ xs. 0)
    unfolding loop
    loop-takes ts = record { holds = (turns-takes (suc (suc (size ts))) [] ts).holds }

    then_same : (f g : Option A → Parser S (List A)) (before : List A) (t m n : ℕ) → t + spare before ≤ suc m → t + spare before ≤ suc n
        → ((us : Tokens S) → f none us ≡ g none us)
        → ((a : A) (us : Tokens S) → size us + spare (before ++ a ∷ []) ≤ m → size us + spare (before ++ a ∷ []) ≤ n → f (some a) us ≡ g (some a) us)
        → (r : Answer S (Option A)) → Gone (one_after before) t r → and_then r f ≡ and_then r g
    unfolding and_then
    then_same f g before t m n h i e k (read none us) l = e us
    then_same f g before t m n h i e k (read (some a) us) l = k a us (spare-after before a (size us) t m l h) (spare-after before a (size us) t n l i)
    then_same f g before t m n h i e k (refused c p) l = refl

    -- with turns enough, neither their number matters nor what would happen without any
    same-turns : (out : List A → Parser S (List A)) (m n : ℕ) (before : List A) (ts : Tokens S) → size ts + spare before ≤ m → size ts + spare before ≤ n
        → turns_or out m step before ts ≡ turns n step before ts
    unfolding turns turns_or ◌>>=◌
    same-turns out zero n before ts h g = absurd (some-turns before (size ts) h)
    same-turns out (suc m) zero before ts h g = absurd (some-turns before (size ts) g)
    same-turns out (suc m) (suc n) before ts h g =
        then_same _ _ before (size ts) m n h g (λ us. refl) (λ a us. same-turns out m n (before ++ a ∷ []) us) (step before ts) (step-takes before ts).holds

    pub loop-enough : Enough step
    unfolding loop
    loop-enough =
        record {
          more = λ ts n h. sym (same-turns pure n n [] ts (omega arith) (omega arith)) ∙ same-turns pure n (suc (suc (size ts))) [] ts (omega arith) (omega arith);
          unmet = λ out ts n h. same-turns out n (suc (suc (size ts))) [] ts (omega arith) (omega arith);
        }

  separate-any : {A : Type 0} (between : Parser S (Unit {0})) → ((ts : Tokens S) → Takes between ts (λ u. 0)) → (before : List A) (ts : Tokens S)
      → Takes (separate between before) ts (λ u. 0)
  unfolding separate
  separate-any between h [] ts = pure-takes tt ts refl
  separate-any between h (x ∷ xs) ts = h ts

  module _ {A : Type 0} {stop : Parser S Bool} {between : Parser S (Unit {0})} (item : List A → Parser S A) (stop-takes : (ts : Tokens S) → Takes stop ts (λ b. 0)) where
    -- items with something between them; an item may be of no tokens
    module _ (between-takes : (ts : Tokens S) → Takes between ts (λ u. 1)) (item-takes : (before : List A) (ts : Tokens S) → Takes (item before) ts (λ x. 0)) where
      spaced-step : (before : List A) (ts : Tokens S) → Takes (until_step stop between item before) ts (one_after before)
      unfolding until_step separate
      spaced-step [] ts =
          bind_takes _ (stop-takes ts) λ b us. choose-takes b (pure-takes none us refl)
          (bind_takes _ (pure-takes tt us {k = λ u. 0} refl) λ u vs. bind_takes _ (item-takes [] vs) λ x ws. pure-takes (some x) ws refl)
      spaced-step (y ∷ ys) ts =
          bind_takes _ (stop-takes ts) λ b us. choose-takes b (pure-takes none us refl)
          (bind_takes _ (between-takes us) λ u vs. bind_takes _ (item-takes (y ∷ ys) vs) λ x ws. pure-takes (some x) ws refl)

      pub spaced-takes : (ts : Tokens S) → Takes (until stop between item) ts (λ xs. 0)
      spaced-takes ts = loop-takes _ spaced-step ts

      pub spaced-enough : Enough (until_step stop between item)
      spaced-enough = loop-enough _ spaced-step

    -- items of one token at least
    module _ (between-takes : (ts : Tokens S) → Takes between ts (λ u. 0)) (item-takes : (before : List A) (ts : Tokens S) → Takes (item before) ts (λ x. 1)) where
      items-step : (before : List A) (ts : Tokens S) → Takes (until_step stop between item before) ts (one_after before)
      unfolding until_step
      items-step before ts =
          found before (bind_takes _ (stop-takes ts) λ b us. choose-takes b (pure-takes none us refl)
          (bind_takes _ (separate-any between between-takes before us) λ u vs. bind_takes _ (item-takes before vs) λ x ws. pure-takes (some x) ws refl))

      pub items-takes : (ts : Tokens S) → Takes (until stop between item) ts (λ xs. 0)
      items-takes ts = loop-takes _ items-step ts

      pub items-enough : Enough (until_step stop between item)
      items-enough = loop-enough _ items-step
