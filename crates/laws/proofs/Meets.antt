-- What a parser's result satisfies, if it gives one: the record `Meets`, and one law for each combinator. Tokens without starts.
-- Assumes nothing.
use Prim.Native.Nat.{ℕ, zero, suc}
use Prim.Native.Char.{Char}
use Prim.Native.String.{String}
use mathlib.Core.Path.{◌≡◌, refl, ap, sym, ◌∙◌}
use mathlib.Core.Bool.{Bool, true, false}
use mathlib.Core.List.{List, [], ◌∷◌, ◌++◌}
use mathlib.Core.Option.{Option, none, some}
use Rattle.basics.specs.Basics.{if◌then◌otherwise◌}
use Rattle.basics.proofs.Tests.{clash}
use Rattle.lexer.specs.Tokens.{Kind, Tokens, token, eof, bad}
use Rattle.notation.specs.Parser.{Answer, read, refused, Parser, and_then, ◌>>=◌, pure, refuse, choose, here, refuse_here, kind_of, kind, arrive, next, name_in, at_in, string_in, is_mark, says, eat_if, eat, eat_name, eat_at, must, expect, expect_name, taken, expect_string, parse_identifier, size, turns, loop, separate, until_step, until, comma_or_not, nothing}
use Rattle.characters.proofs.Chars.{Scalars}
use Rattle.laws.proofs.Fine.{U, Word, FineKind, fine-name, fine-at, fine-string, fine-set, fine-mark, Fine, fine-token}
use Rattle.laws.proofs.Readable.{GoodName}
use Rattle.laws.proofs.Every.{Every, every-none, every_one}

abbrev pub After : {A : Type 0} → (A → Tokens U → Type 0) → Answer U A → Type 0
After Q (read a ts) = Fine ts × Q a ts
After Q (refused n p) = Unit {0}

-- Q holds of what p gives at ts, if it gives anything; and fine tokens stay fine
pub record Meets {A : Type 0} (p : Parser U A) (ts : Tokens U) (Q : A → Tokens U → Type 0) : Type 0 where
  pub holds : Fine ts → After Q (p ts)

then-meets : {A B : Type 0} (Q : A → Tokens U → Type 0) (W : B → Tokens U → Type 0) (r : Answer U A) (f : A → Parser U B)
    → After Q r → ((a : A) (ts : Tokens U) → Q a ts → Meets (f a) ts W) → After W (and_then r f)
unfolding and_then
then-meets Q W (read a ts) f h k = (k a ts h.1).holds h.0
then-meets Q W (refused n p) f h k = tt

pub bind_meets : {A B : Type 0} {Q : A → Tokens U → Type 0} {W : B → Tokens U → Type 0} {p : Parser U A} {ts : Tokens U} (f : A → Parser U B)
    → Meets p ts Q → ((a : A) (us : Tokens U) → Q a us → Meets (f a) us W) → Meets (p >>= f) ts W
unfolding ◌>>=◌
bind_meets {Q = Q} {W} {p} {ts} f h k = record { holds = λ o. then-meets Q W (p ts) f (h.holds o) k }

pub pure-meets : {A : Type 0} (a : A) (ts : Tokens U) {Q : A → Tokens U → Type 0} → Q a ts → Meets (pure a) ts Q
unfolding pure
pure-meets a ts h = record { holds = λ o. (o, h) }

pub refuse-meets : {A : Type 0} (n : ℕ) (p : U) (ts : Tokens U) {Q : A → Tokens U → Type 0} → Meets (refuse n p) ts Q
unfolding refuse
refuse-meets n p ts = record { holds = λ o. tt }

pub refuse_here-meets : {A : Type 0} (n : ℕ) (ts : Tokens U) {Q : A → Tokens U → Type 0} → Meets (refuse_here n) ts Q
unfolding refuse_here
refuse_here-meets n ts = record { holds = λ o. tt }

pub choose-meets : {A : Type 0} (b : Bool) {p q : Parser U A} {ts : Tokens U} {Q : A → Tokens U → Type 0}
    → (b ≡ true → Meets p ts Q) → (b ≡ false → Meets q ts Q) → Meets (choose b p q) ts Q
unfolding choose
choose-meets true h k = h refl
choose-meets false h k = k refl

pub if_meets : {A : Type 0} (b : Bool) {p q : Parser U A} {ts : Tokens U} {Q : A → Tokens U → Type 0}
    → (b ≡ true → Meets p ts Q) → (b ≡ false → Meets q ts Q) → Meets (if b then p otherwise q) ts Q
if_meets true h k = h refl
if_meets false h k = k refl

pub weaken : {A : Type 0} {p : Parser U A} {ts : Tokens U} {Q W : A → Tokens U → Type 0}
    → Meets p ts Q → ((a : A) (us : Tokens U) → Q a us → W a us) → Meets p ts W
weaken {A = A} {p} {ts} {Q} {W} h k = record { holds = λ o. go (p ts) (h.holds o) }
  where
    go : (r : Answer U A) → After Q r → After W r
    go (read a us) g = (g.0, k a us g.1)
    go (refused n p) g = tt

-- ------------------------------------------------------------------ the current token

pub here-meets : (ts : Tokens U) → Meets here ts (λ p us. us ≡ ts)
unfolding here
here-meets ts = record { holds = λ o. (o, refl) }

-- the kind is that of the token, and its texts are fine
pub data FineOption : Option Kind → Type 0 where
  fine-none : FineOption none
  fine-some : {k : Kind} → FineKind k → FineOption (some k)

kind-fine : (ts : Tokens U) → Fine ts → FineOption (kind_of ts)
unfolding kind_of
kind-fine (token k p ts) (fine-token f o) = fine-some f
kind-fine (eof p) o = fine-none
kind-fine (bad n p) o = fine-none

pub kind_meets : (ts : Tokens U) → Meets kind ts (λ k us. (k ≡ kind_of ts) × (us ≡ ts) × FineOption k)
unfolding kind
kind_meets ts = record { holds = λ o. (o, (refl, refl, kind-fine ts o)) }

arrived : (ts : Tokens U) → Fine ts → After (λ u us. Unit {0}) (arrive ts)
unfolding arrive
arrived (token k p ts) o = (o, tt)
arrived (eof p) o = (o, tt)
arrived (bad n p) o = tt

pub arrive-meets : (ts : Tokens U) → Meets arrive ts (λ u us. Unit {0})
arrive-meets ts = record { holds = arrived ts }

nexted : (ts : Tokens U) → Fine ts → After (λ u us. Unit {0}) (next ts)
unfolding next
nexted (token k p ts) (fine-token f o) = arrived ts o
nexted (eof p) o = (o, tt)
nexted (bad n p) o = tt

pub next-meets : (ts : Tokens U) → Meets next ts (λ u us. Unit {0})
next-meets ts = record { holds = nexted ts }

-- ------------------------------------------------------------------ taking tokens

eat_if-meets : (b : Bool) (ts : Tokens U) → Meets (eat_if b) ts (λ c us. (c ≡ b) × (b ≡ false → us ≡ ts))
unfolding eat_if
eat_if-meets true ts = bind_meets _ (next-meets ts) λ u us h. pure-meets true us (refl, λ e. clash true refl e)
eat_if-meets false ts = pure-meets false ts (refl, λ e. refl)

-- whether the token was taken, and what was there if it was not
pub eat-meets : (c : Char) (ts : Tokens U) → Meets (eat c) ts (λ b us. (is_mark c (kind_of ts) ≡ b) × (b ≡ false → us ≡ ts))
unfolding eat
eat-meets c ts =
    bind_meets _ (kind_meets ts) λ k us h.
    weaken (eat_if-meets (is_mark c k) us) λ b vs g. (ap (is_mark c) (sym h.0) ∙ sym g.0, λ e. g.1 (sym g.0 ∙ e) ∙ h.1)

pub eat_name-meets : (s : String) (ts : Tokens U) → Meets (eat_name s) ts (λ b us. Unit {0})
unfolding eat_name
eat_name-meets s ts = bind_meets _ (kind_meets ts) λ k us h. weaken (eat_if-meets (says s (name_in k)) us) λ b vs g. tt

pub eat_at-meets : (s : String) (ts : Tokens U) → Meets (eat_at s) ts (λ b us. Unit {0})
unfolding eat_at
eat_at-meets s ts = bind_meets _ (kind_meets ts) λ k us h. weaken (eat_if-meets (says s (at_in k)) us) λ b vs g. tt

must-meets : (b : Bool) (ts : Tokens U) → Meets (must b) ts (λ u us. b ≡ true)
unfolding must
must-meets true ts = pure-meets tt ts refl
must-meets false ts = refuse_here-meets _ ts

pub expect_meets : (c : Char) (ts : Tokens U) → Meets (expect c) ts (λ u us. is_mark c (kind_of ts) ≡ true)
unfolding expect
expect_meets c ts = bind_meets _ (eat-meets c ts) λ b us h. weaken (must-meets b us) λ u vs g. h.0 ∙ g

pub expect_name-meets : (s : String) (ts : Tokens U) → Meets (expect_name s) ts (λ u us. Unit {0})
unfolding expect_name
expect_name-meets s ts = bind_meets _ (eat_name-meets s ts) λ b us h. weaken (must-meets b us) λ u vs g. tt

-- a text that is there, of which G holds
pub data Given (G : List ℕ → Type 0) : Option (List ℕ) → Type 0 where
  given-none : Given G none
  given-some : {t : List ℕ} → G t → Given G (some t)

taken-meets : (G : List ℕ → Type 0) (o : Option (List ℕ)) → Given G o → (ts : Tokens U) → Meets (taken o) ts (λ t us. G t)
unfolding taken
taken-meets G none g ts = refuse_here-meets _ ts
taken-meets G (some t) (given-some g) ts = bind_meets _ (next-meets ts) λ u us h. pure-meets t us g

pub name-given : {k : Option Kind} → FineOption k → Given Word (name_in k)
name-given fine-none = given-none
name-given (fine-some (fine-name w)) = given-some w
name-given (fine-some (fine-at w)) = given-none
name-given (fine-some (fine-string s)) = given-none
name-given (fine-some (fine-set s)) = given-none
name-given (fine-some fine-mark) = given-none

pub at-given : {k : Option Kind} → FineOption k → Given Word (at_in k)
at-given fine-none = given-none
at-given (fine-some (fine-name w)) = given-none
at-given (fine-some (fine-at w)) = given-some w
at-given (fine-some (fine-string s)) = given-none
at-given (fine-some (fine-set s)) = given-none
at-given (fine-some fine-mark) = given-none

pub string-given : {k : Option Kind} → FineOption k → Given Scalars (string_in k)
string-given fine-none = given-none
string-given (fine-some (fine-name w)) = given-none
string-given (fine-some (fine-at w)) = given-none
string-given (fine-some (fine-string s)) = given-some s
string-given (fine-some (fine-set s)) = given-none
string-given (fine-some fine-mark) = given-none

pub expect_string-meets : (ts : Tokens U) → Meets expect_string ts (λ t us. Scalars t)
unfolding expect_string
expect_string-meets ts = bind_meets _ (kind_meets ts) λ k us h. taken-meets Scalars (string_in k) (string-given h.2) us

pub parse_identifier-meets : (ts : Tokens U) → Meets parse_identifier ts (λ n us. GoodName n)
unfolding parse_identifier
parse_identifier-meets ts =
    bind_meets _ (here-meets ts) λ p us h.
    bind_meets _ (kind_meets us) λ k vs g.
    bind_meets _ (taken-meets Word (name_in k) (name-given g.2) vs) λ t ws w.
    pure-meets _ ws (record { word = w })

-- ------------------------------------------------------------------ loops

-- where a loop's step leads: to the end, or to one more item
abbrev pub Leads : {A : Type 0} → (List A → Tokens U → Type 0) → (List A → Tokens U → Type 0) → List A → Option A → Tokens U → Type 0
Leads I Q before none us = Q before us
Leads I Q before (some a) us = I (before ++ a ∷ []) us

module _ {A : Type 0} (I Q : List A → Tokens U → Type 0) (step : List A → Parser U (Option A))
    (step-meets : (before : List A) (ts : Tokens U) → I before ts → Meets (step before) ts (Leads I Q before)) where
  turns-meets : (n : ℕ) (before : List A) (ts : Tokens U) → I before ts → Meets (turns n step before) ts Q
  unfolding turns
  turns-meets zero before ts i = refuse_here-meets _ ts
  turns-meets (suc n) before ts i = bind_meets _ (step-meets before ts i) (go (λ a us j. turns-meets n (before ++ a ∷ []) us j))
    where
      go : ((a : A) (us : Tokens U) → I (before ++ a ∷ []) us → Meets (turns n step (before ++ a ∷ [])) us Q)
          → (x : Option A) (us : Tokens U) → Leads I Q before x us → Meets (elim x [ none ↦ pure before | some a ↦ turns n step (before ++ a ∷ []) ]) us Q
      go h none us q = pure-meets before us q
      go h (some a) us i = h a us i

  pub loop-meets : (ts : Tokens U) → I [] ts → Meets (loop step) ts Q
  unfolding loop
  loop-meets ts i = record { holds = λ o. (turns-meets (suc (suc (size ts))) [] ts i).holds o }

separate-meets : {A : Type 0} (between : Parser U (Unit {0})) → ((ts : Tokens U) → Meets between ts (λ u us. Unit {0}))
    → (before : List A) (ts : Tokens U) → Meets (separate between before) ts (λ u us. Unit {0})
unfolding separate
separate-meets between h [] ts = pure-meets tt ts tt
separate-meets between h (x ∷ xs) ts = h ts

-- items of which G holds, whatever came before
module _ {A : Type 0} (G : A → Type 0) {stop : Parser U Bool} {between : Parser U (Unit {0})} (item : List A → Parser U A)
    (stop-meets : (ts : Tokens U) → Meets stop ts (λ b us. Unit {0}))
    (between_Meets : (ts : Tokens U) → Meets between ts (λ u us. Unit {0}))
    (item-meets : (before : List A) (ts : Tokens U) → Meets (item before) ts (λ x us. G x)) where
  pub until-meets : (ts : Tokens U) → Meets (until stop between item) ts (λ xs us. Every G xs)
  unfolding until_step
  until-meets ts =
      loop-meets (λ xs us. Every G xs) (λ xs us. Every G xs) _
      (λ before us i. bind_meets _ (stop-meets us) λ b vs h. choose-meets b (λ t. pure-meets none vs i)
      (λ f. bind_meets _ (separate-meets between between_Meets before vs) λ u ws g. bind_meets _ (item-meets before ws) λ x xs g. pure-meets (some x) xs (every_one i g)))
      ts every-none

pub eat-any : (c : Char) (ts : Tokens U) → Meets (eat c) ts (λ b us. Unit {0})
eat-any c ts = weaken (eat-meets c ts) λ b us h. tt

pub expect-any : (c : Char) (ts : Tokens U) → Meets (expect c) ts (λ u us. Unit {0})
expect-any c ts = weaken (expect_meets c ts) λ u us h. tt

pub comma-or-not : (ts : Tokens U) → Meets comma_or_not ts (λ u us. Unit {0})
comma-or-not ts = bind_meets _ (eat-any "," ts) λ b us h. pure-meets tt us tt

pub nothing-meets : (ts : Tokens U) → Meets nothing ts (λ u us. Unit {0})
nothing-meets ts = pure-meets tt ts tt
