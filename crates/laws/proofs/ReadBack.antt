-- What a parser gives on written tokens: the record `Reads`, and one law for each combinator and each kind of list.
-- Assumes nothing.
use Prim.Native.Nat.{ℕ, zero, suc, ◌+◌, ◌<◌}
use Prim.Native.Char.{Char, code}
use Prim.Native.String.{String}
use native.Mathlib.Omega.{arith}
use mathlib.Core.Path.{◌≡◌, refl, ap, ◌∙◌}
use mathlib.Core.Bool.{Bool, true, false}
use mathlib.Core.List.{List, [], ◌∷◌, ◌++◌, append-nil}
use mathlib.Core.Option.{Option, none, some}
use lib.ListN.{length}
use lib.Seq.{append_snoc}
use Rattle.basics.specs.Basics.{first_element}
use Rattle.lexer.specs.Tokens.{Kind, Tokens, token, eof}
use Rattle.lexer.specs.Escapes.{decode_string}
use Rattle.tree.specs.Syntax.{Identifier}
use Rattle.notation.specs.Parser.{read, Parser, and_then, ◌>>=◌, pure, choose, here, kind_of, kind, arrive, next, name_in, at_in, is_mark, says, eat_if, eat, eat_name, eat_at, must, expect, expect_name, taken, expect_string, parse_identifier, size, turns, loop, separate, until_step, until, comma, comma_or_not, nothing}
use Rattle.spelling.specs.NormalText.{each, each_after, commas}
use Rattle.laws.proofs.Fine.{U}
use Rattle.laws.proofs.Every.{Every, every-none, every_more}

-- tokens of these kinds, and the end
unfoldable pub laid : List Kind → Tokens U
laid [] = eof tt
laid (k ∷ ks) = token k tt (laid ks)

-- p gives a on the tokens ks, and leaves ls
pub record Reads {A : Type 0} (p : Parser U A) (ks : List Kind) (a : A) (ls : List Kind) : Type 0 where
  pub gives : p (laid ks) ≡ read a (laid ls)

pub bind_reads : {A B : Type 0} {p : Parser U A} {ks ls ms : List Kind} {a : A} {b : B} (f : A → Parser U B) → Reads p ks a ls → Reads (f a) ls b ms → Reads (p >>= f) ks b ms
unfolding ◌>>=◌ and_then
bind_reads f h k = record { gives = rw (h.gives, and_then) k.gives }

pub pure-reads : {A : Type 0} (a : A) (ks : List Kind) → Reads (pure a) ks a ks
unfolding pure
pure-reads a ks = record { gives = refl }

pub choose-true : {A : Type 0} {b : Bool} {p : Parser U A} (q : Parser U A) {ks ls : List Kind} {a : A} → b ≡ true → Reads p ks a ls → Reads (choose b p q) ks a ls
unfolding choose
choose-true q e h = rw (e, choose) h

pub choose-false : {A : Type 0} {b : Bool} (p : Parser U A) {q : Parser U A} {ks ls : List Kind} {a : A} → b ≡ false → Reads q ks a ls → Reads (choose b p q) ks a ls
unfolding choose
choose-false p e h = rw (e, choose) h

-- ------------------------------------------------------------------ the current token

pub kind-laid : (ks : List Kind) → kind_of (laid ks) ≡ first_element ks
unfolding kind_of laid
kind-laid [] = refl
kind-laid (k ∷ ks) = refl

arrive-laid : (ks : List Kind) → arrive (laid ks) ≡ read tt (laid ks)
unfolding arrive laid
arrive-laid [] = refl
arrive-laid (k ∷ ks) = refl

size-laid : (ks : List Kind) → size (laid ks) ≡ length ks
unfolding size laid
size-laid [] = refl
size-laid (k ∷ ks) = ap suc (size-laid ks)

pub here_reads : (ks : List Kind) → Reads here ks tt ks
unfolding here
here_reads ks = record { gives = refl }

pub kind-reads : (ks : List Kind) {k : Option Kind} → first_element ks ≡ k → Reads kind ks k ks
unfolding kind
kind-reads ks e = record { gives = ap (λ k. read k (laid ks)) (kind-laid ks ∙ e) }

pub arrive-reads : (ks : List Kind) → Reads arrive ks tt ks
arrive-reads ks = record { gives = arrive-laid ks }

pub next-reads : (k : Kind) (ks : List Kind) → Reads next (k ∷ ks) tt ks
unfolding next laid
next-reads k ks = record { gives = arrive-laid ks }

-- ------------------------------------------------------------------ taking tokens

eat_if_yes : (b : Bool) → b ≡ true → (k : Kind) (ks : List Kind) → Reads (eat_if b) (k ∷ ks) true ks
unfolding eat_if
eat_if_yes b e k ks = rw (e, eat_if) (bind_reads _ (next-reads k ks) (pure-reads true ks))

eat_if_no : (b : Bool) → b ≡ false → (ks : List Kind) → Reads (eat_if b) ks false ks
unfolding eat_if
eat_if_no b e ks = rw (e, eat_if) (pure-reads false ks)

pub eat_yes : (c : Char) (k : Kind) (ks : List Kind) → is_mark c (some k) ≡ true → Reads (eat c) (k ∷ ks) true ks
unfolding eat
eat_yes c k ks e = bind_reads _ (kind-reads (k ∷ ks) refl) (eat_if_yes _ e k ks)

pub eat_no : (c : Char) (ks : List Kind) → is_mark c (first_element ks) ≡ false → Reads (eat c) ks false ks
unfolding eat
eat_no c ks e = bind_reads _ (kind-reads ks refl) (eat_if_no _ e ks)

pub eat_name_yes : (s : String) (k : Kind) (ks : List Kind) → says s (name_in (some k)) ≡ true → Reads (eat_name s) (k ∷ ks) true ks
unfolding eat_name
eat_name_yes s k ks e = bind_reads _ (kind-reads (k ∷ ks) refl) (eat_if_yes _ e k ks)

pub eat_at_yes : (s : String) (k : Kind) (ks : List Kind) → says s (at_in (some k)) ≡ true → Reads (eat_at s) (k ∷ ks) true ks
unfolding eat_at
eat_at_yes s k ks e = bind_reads _ (kind-reads (k ∷ ks) refl) (eat_if_yes _ e k ks)

pub eat_at_no : (s : String) (ks : List Kind) → says s (at_in (first_element ks)) ≡ false → Reads (eat_at s) ks false ks
unfolding eat_at
eat_at_no s ks e = bind_reads _ (kind-reads ks refl) (eat_if_no _ e ks)

must_yes : (ks : List Kind) → Reads (must true) ks tt ks
unfolding must
must_yes ks = pure-reads tt ks

pub expect-reads : (c : Char) (k : Kind) (ks : List Kind) → is_mark c (some k) ≡ true → Reads (expect c) (k ∷ ks) tt ks
unfolding expect
expect-reads c k ks e = bind_reads _ (eat_yes c k ks e) (must_yes ks)

pub expect_name-reads : (s : String) (k : Kind) (ks : List Kind) → says s (name_in (some k)) ≡ true → Reads (expect_name s) (k ∷ ks) tt ks
unfolding expect_name
expect_name-reads s k ks e = bind_reads _ (eat_name_yes s k ks e) (must_yes ks)

pub expect_string-reads : (t : List ℕ) (ks : List Kind) → Reads expect_string (Kind.string t ∷ ks) (decode_string t) ks
unfolding expect_string taken
expect_string-reads t ks = bind_reads _ (kind-reads (Kind.string t ∷ ks) refl) (bind_reads _ (next-reads _ ks) (pure-reads _ ks))

pub parse_identifier-reads : (n : Identifier U) (ks : List Kind) → Reads parse_identifier (Kind.name n.name ∷ ks) n ks
unfolding parse_identifier taken
parse_identifier-reads n ks = bind_reads _ (here_reads _) (bind_reads _ (kind-reads (Kind.name n.name ∷ ks) refl) (bind_reads _ (bind_reads _ (next-reads _ ks) (pure-reads _ ks)) (pure-reads _ ks)))

-- ------------------------------------------------------------------ loops

module _ {A : Type 0} (step : List A → Parser U (Option A)) (rest : List Kind) where
  -- from ks on, after those before, the loop finds the items, each turn with fewer tokens; d turns more are left than tokens
  pub data Back : (d : ℕ) → (before : List A) → (ks : List Kind) → List A → Type 0 where
    over : {d : ℕ} {before : List A} {ks : List Kind} → Reads (step before) ks none rest → Back d before ks []
    turn : {d : ℕ} {before : List A} {ks : List Kind} {x : A} {xs : List A} (e : ℕ) (ls : List Kind) → Reads (step before) ks (some x) ls
        → length ls + e < length ks + d → Back e (before ++ x ∷ []) ls xs → Back d before ks (x ∷ xs)

  turns-back : (n d : ℕ) (before : List A) (ks : List Kind) (xs : List A) → length ks + d < n → Back d before ks xs → Reads (turns n step before) ks (before ++ xs) rest
  unfolding turns
  turns-back zero d before ks xs h b = absurd (omega arith)
  turns-back (suc n) d before ks [] h (over r) = rw (append-nil before) (bind_reads _ r (pure-reads before rest))
  turns-back (suc n) d before ks (x ∷ xs) h (turn e ls r less b) = rw (← append_snoc before x xs) (bind_reads _ r (turns-back n e (before ++ x ∷ []) ls xs (omega arith) b))

  pub loop-reads : (ks : List Kind) (xs : List A) → Back 1 [] ks xs → Reads (loop step) ks xs rest
  unfolding loop
  loop-reads ks xs b = let s = size-laid ks in record { gives = (turns-back (suc (suc (size (laid ks)))) 1 [] ks xs (omega arith) b).gives }

-- ------------------------------------------------------------------ lists up to a closing mark

-- what may stand after an item: a comma or the closing mark; or, with nothing between, another item
module _ {A : Type 0} (close : Char) (closes : is_mark close (some (Kind.mark (code close))) ≡ true) (G : A → Type 0) (write : A → List Kind → List Kind) (item : List A → Parser U A)
    (begins : (x : A) → G x → (ks : List Kind) → is_mark close (first_element (write x ks)) ≡ false)
    (longer : (x : A) (ks : List Kind) → length ks < length (write x ks)) where
  close-step : (between : Parser U (Unit {0})) (before : List A) (ks : List Kind) → Reads (until_step (eat close) between item before) (Kind.mark (code close) ∷ ks) none ks
  unfolding until_step
  close-step between before ks = bind_reads _ (eat_yes close _ ks closes) (choose-true _ refl (pure-reads none ks))

  -- nothing between
  module _ (After : List Kind → Type 0) (after-close : (ks : List Kind) → After (Kind.mark (code close) ∷ ks)) (after-item : (x : A) → G x → (ks : List Kind) → After (write x ks))
      (reads : (before : List A) (x : A) → G x → (ks : List Kind) → After ks → Reads (item before) (write x ks) x ks) where
    after-each : (xs : List A) → Every G xs → (ks : List Kind) → After (each write xs (Kind.mark (code close) ∷ ks))
    unfolding each
    after-each [] every-none ks = after-close ks
    after-each (x ∷ xs) (every_more g q) ks = after-item x g _

    each_back : (xs : List A) → Every G xs → (before : List A) (ks : List Kind) → Back (until_step (eat close) nothing item) ks 1 before (each write xs (Kind.mark (code close) ∷ ks)) xs
    unfolding each until_step separate
    each_back [] every-none before ks = over (close-step nothing before ks)
    each_back (x ∷ xs) (every_more g q) before ks =
        let ls = each write xs (Kind.mark (code close) ∷ ks) in
        let l = longer x ls in
        let less : length ls + 1 < length (write x ls) + 1 = omega arith in
        turn 1 ls (bind_reads _ (eat_no close _ (begins x g _)) (choose-false _ refl (bind_reads _ (apart before _) (bind_reads _ (reads before x g _ (after-each xs q ks)) (pure-reads (some x) _))))) less
        (each_back xs q (before ++ x ∷ []) ks)
      where
        apart : (before : List A) (ks : List Kind) → Reads (separate nothing before) ks tt ks
        apart [] ks = pure-reads tt ks
        apart (y ∷ ys) ks = pure-reads tt ks

    pub each-reads : (xs : List A) → Every G xs → (ks : List Kind) → Reads (until (eat close) nothing item) (each write xs (Kind.mark (code close) ∷ ks)) xs ks
    each-reads xs q ks = loop-reads _ ks _ xs (each_back xs q [] ks)

  -- commas between
  pub data Between : List Kind → Type 0 where
    at-comma : {ks : List Kind} → Between (Kind.mark (code ",") ∷ ks)
    at-close : {ks : List Kind} → Between (Kind.mark (code close) ∷ ks)

  module _ (between : Parser U (Unit {0})) (between-reads : (ks : List Kind) → Reads between (Kind.mark (code ",") ∷ ks) tt ks) (apart : is_mark close (some (Kind.mark (code ","))) ≡ false)
      (reads : (before : List A) (x : A) → G x → (ks : List Kind) → Between ks → Reads (item before) (write x ks) x ks) where
    between-after : (xs : List A) (ks : List Kind) → Between (each_after write xs (Kind.mark (code close) ∷ ks))
    unfolding each_after
    between-after [] ks = at-close
    between-after (x ∷ xs) ks = at-comma

    after-back : (xs : List A) → Every G xs → (y : A) (before : List A) (ks : List Kind)
        → Back (until_step (eat close) between item) ks 1 (y ∷ before) (each_after write xs (Kind.mark (code close) ∷ ks)) xs
    unfolding each_after until_step separate
    after-back [] every-none y before ks = over (close-step between (y ∷ before) ks)
    after-back (x ∷ xs) (every_more g q) y before ks =
        let ls = each_after write xs (Kind.mark (code close) ∷ ks) in
        let l = longer x ls in
        let less : length ls + 1 < length (Kind.mark (code ",") ∷ write x ls) + 1 = omega arith in
        turn 1 ls (bind_reads _ (eat_no close _ apart) (choose-false _ refl (bind_reads _ (between-reads _) (bind_reads _ (reads (y ∷ before) x g _ (between-after xs ks)) (pure-reads (some x) _))))) less
        (after-back xs q y (before ++ x ∷ []) ks)

    pub commas-reads : (xs : List A) → Every G xs → (ks : List Kind) → Reads (until (eat close) between item) (commas write xs (Kind.mark (code close) ∷ ks)) xs ks
    unfolding until_step separate
    commas-reads [] every-none ks = loop-reads _ ks _ [] (over (close-step between [] ks))
    commas-reads (x ∷ xs) (every_more g q) ks =
        let ls = each_after write xs (Kind.mark (code close) ∷ ks) in
        let l = longer x ls in
        let less : length ls + 1 < length (write x ls) + 1 = omega arith in
        loop-reads _ ks _ (x ∷ xs) (turn 1 ls (bind_reads _ (eat_no close _ (begins x g _)) (choose-false _ refl (bind_reads _ (pure-reads tt _) (bind_reads _ (reads [] x g _ (between-after xs ks)) (pure-reads (some x) _))))) less
        (after-back xs q x [] ks))

pub comma-reads : (ks : List Kind) → Reads comma (Kind.mark (code ",") ∷ ks) tt ks
comma-reads ks = expect-reads "," _ ks refl

pub comma_or_not-reads : (ks : List Kind) → Reads comma_or_not (Kind.mark (code ",") ∷ ks) tt ks
comma_or_not-reads ks = bind_reads _ (eat_yes "," _ ks refl) (pure-reads tt ks)
