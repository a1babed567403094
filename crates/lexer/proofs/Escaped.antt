-- How the definitions of specs/Escapes go on at a place of a text.
-- Assumes nothing.
use mathlib.Core.Path.{◌≡◌, refl, sym, ◌∙◌, ap, subst}
use mathlib.Core.Bool.{Bool, true, false, ◌&&◌, not}
use mathlib.Core.List.{List, [], ◌∷◌, map}
use mathlib.Core.Logic.{◌⊎◌, inl, inr, ⊎_elim}
use mathlib.Core.Option.{Option, none, some}
use Prim.Native.Nat.{ℕ, zero, suc, ◌+◌, ◌-◌, ◌*◌, ◌/◌, ◌≤◌, ◌<◌}
use native.Mathlib.Omega.{arith}
use lib.Dec.{eqb}
use lib.ListN.{length, drop, length-append, drop_of_length-le}
use borrow.Author.Tests.{le-ltb, le-leb, eq-eqb, ne_eqb}
use Rattle.std.proofs.Common.{Some, None}
use Rattle.std.specs.Option.{unwrap_or}
use Rattle.std.specs.Bool.{then_some}
use Rattle.std.proofs.Common as Std
use Rattle.lexer.specs.declared.escapes.Taken.{Taken}
use Rattle.lexer.specs.declared.escapes.Atom.{Atom}
use Rattle.basics.specs.Basics.{if◌then◌otherwise◌, is, among, letters, head}
use Rattle.characters.specs.Places.{decode_at, past, chars_at, peek_at}
use Rattle.characters.specs.Utf8.{codes, codes_from, encode_all, width, encode, is_scalar}
use Rattle.characters.specs.Promise.{Next, written, written_all, scalar_bytes}
use Rattle.characters.proofs.Encode.{scalar-low, width_some, IsScalar, width_small, ascii-wide}
use Rattle.characters.proofs.Written.{bytes-some, length-written}
use Rattle.characters.proofs.Laws.{scalar_fits}
use Rattle.basics.proofs.Tests.{within-true, impossible}
use Rattle.characters.proofs.Chars.{codes-on, codes_off, stands_at, run_at, peek_on, next-head}
use Rattle.lexer.specs.Escapes.{hex_digit, Escape, further, scalar, fixed, until_brace, braced, or_else, or_letter, control, escape, escaped_by, atoms_from, atoms, decode_string}
use Rattle.lexer.specs.Promise.{digit_of, hex_at, braced_at, until_at, fixed_at, Takes, atoms_at, atom_answer, AtomPlaced, ReadsAtom}
use Rattle.lexer.specs.Escapes as E

abbrev taken : ℕ → ℕ → Taken
taken v end = record { code = v; end = end }

abbrev atom : ℕ → Bool → ℕ → Atom
atom c x end = record { code = c; escaped = x; end = end }

if_cases {ℓ κ} : {A : Type ℓ} (P : A → Type κ) (b : Bool) {x y : A} → (b ≡ true → P x) → (b ≡ false → P y) → P (if b then x otherwise y)
if_cases P true f g = f refl
if_cases P false f g = g refl

-- a digit is a character of one byte
pub record Digits (c d : ℕ) : Type 0 where
  pub low : 1 ≤ c
  pub high : c < 0x80
  pub small : d ≤ 15
  pub other : (c ≡ 0x7D → ⊥)

abbrev Good : ℕ → Option ℕ → Type 0
Good c none = Unit {0}
Good c (some d) = Digits c d

good : (c : ℕ) → Good c (hex_digit c)
unfolding hex_digit
good c =
    if_cases (Good c) _ (λ e. let h = within-true 0x30 0x39 c e in record { low = omega arith; high = omega arith; small = omega arith; other = λ q. omega arith })
    (λ _. if_cases (Good c) _ (λ e. let h = within-true 0x41 0x46 c e in record { low = omega arith; high = omega arith; small = omega arith; other = λ q. omega arith })
    (λ _. if_cases (Good c) _ (λ e. let h = within-true 0x61 0x66 c e in record { low = omega arith; high = omega arith; small = omega arith; other = λ q. omega arith })
    (λ _. tt)))

digit-some : (c d : ℕ) → Some d ≡ digit_of (hex_digit c) → hex_digit c ≡ some d
digit-some c d = by (hex_digit c)
  where
    by : (o : Option ℕ) → Some d ≡ digit_of o → o ≡ some d
    by none e = cc
    by (some x) e = cc

pub digit-none : (c : ℕ) → None ≡ digit_of (hex_digit c) → hex_digit c ≡ none
digit-none c = by (hex_digit c)
  where
    by : (o : Option ℕ) → None ≡ digit_of o → o ≡ none
    by none e = refl
    by (some x) e = cc

pub record Digit-at (s : List ℕ) (at c d : ℕ) : Type 0 where
  pub digit : hex_digit c ≡ some d
  pub small : d ≤ 15
  pub next : Next s at c
  pub high : c < 0x80
  pub other : c ≡ 0x7D → ⊥

pub digit_at_lem : (s : List ℕ) (at c d : ℕ) → c ≡ peek_at s at → Some d ≡ digit_of (hex_digit c) → Digit-at s at c d
digit_at_lem s at c d p e =
    let h = digit-some c d e in
    let g = subst (Good c) h (good c) in
    record { digit = h; small = g.small; next = next-head s at c g.low g.high (sym p); high = g.high; other = g.other }

hex-further : (at c : ℕ) (cs : List ℕ) (o : Option Escape) → hex_at at (c ∷ cs) (further o) ≡ hex_at (at + width c) cs o
unfolding past
hex-further at c cs none = refl
hex-further at c cs (some e) = refl

-- each definition at a first character
module _ (c : ℕ) (cs : List ℕ) where
  fixed_on : (k v d : ℕ) → hex_digit c ≡ some d → fixed (suc k) v (c ∷ cs) ≡ further (fixed k (v * 16 + d) cs)
  unfolding fixed
  fixed_on k v d e = rw (e, fixed)

  fixed_off : (k v : ℕ) → hex_digit c ≡ none → fixed (suc k) v (c ∷ cs) ≡ none
  unfolding fixed
  fixed_off k v e = rw (e, fixed)

  pub until-on : (v d : ℕ) → eqb c 0x7D ≡ false → hex_digit c ≡ some d → until_brace v (c ∷ cs) ≡ further (until_brace (v * 16 + d) cs)
  unfolding until_brace
  until-on v d w e = rw (w, e, until_brace)

  until_off : (v : ℕ) → eqb c 0x7D ≡ false → hex_digit c ≡ none → until_brace v (c ∷ cs) ≡ none
  unfolding until_brace
  until_off v w e = rw (w, e, until_brace)

  pub until_end : (v : ℕ) → eqb c 0x7D ≡ true → until_brace v (c ∷ cs) ≡ scalar v 1
  unfolding until_brace
  until_end v w = rw (w, until_brace)

-- a number that is too large stays so
big-scalar : (v n : ℕ) → 0x110000 ≤ v → scalar v n ≡ none
unfolding scalar is_scalar
big-scalar v n h = simp (le-ltb v 0xD800 (omega arith), le-leb 0xE000 v (omega arith), le-ltb v 0x110000 h)

big : (cs : List ℕ) (v : ℕ) → 0x110000 ≤ v → until_brace v cs ≡ none
unfolding until_brace
big [] v h = refl
big (c ∷ cs) v h = by (λ w g. big cs w g) (eqb c 0x7D) refl (hex_digit c) refl
  where
    by : ((w : ℕ) → 0x110000 ≤ w → until_brace w cs ≡ none) → (b : Bool) → eqb c 0x7D ≡ b → (o : Option ℕ) → hex_digit c ≡ o → until_brace v (c ∷ cs) ≡ none
    by r true e o f = until_end c cs v e ∙ big-scalar v 1 h
    by r false e none f = until_off c cs v e f
    by r false e (some d) f = until-on c cs v d e f ∙ ap further (r (v * 16 + d) (omega arith))

-- digits at a place of a text
one : (l : ℕ) → suc l - 1 ≡ l
one l = omega arith

module _ (s : List ℕ) (at : ℕ) where
  fixed-next : (l v : ℕ) {c d : ℕ} → Digit-at s at c d → fixed_at (suc l) v s at ≡ fixed_at l (v * 16 + d) s (at + 1)
  unfolding fixed_at
  fixed-next l v {c} {d} h =
      rw (h.next.chars, fixed_on c (chars_at s (at + 1)) l v d h.digit)
      (hex-further at c (chars_at s (at + 1)) (fixed l (v * 16 + d) (chars_at s (at + 1)))
      ∙ ap (λ (w : ℕ). hex_at (at + w) (chars_at s (at + 1)) (fixed l (v * 16 + d) (chars_at s (at + 1)))) (ascii-wide c h.high))

  pub fixed-step : (l v c d : ℕ) → 0 < l → Digit-at s at c d → fixed_at l v s at ≡ fixed_at (l - 1) (v * 16 + d) s (at + 1)
  fixed-step zero v c d h g = absurd (omega arith)
  fixed-step (suc l) v c d h g = rw (one l) (fixed-next l v g)

  pub fixed_not : (l v c : ℕ) → 0 < l → c ≡ peek_at s at → None ≡ digit_of (hex_digit c) → fixed_at l v s at ≡ None
  unfolding fixed_at fixed
  fixed_not zero v c h p e = absurd (omega arith)
  fixed_not (suc l) v c h p e = by (decode_at s at) refl
    where
      by : (ch : Std.Option (ℕ × ℕ)) → decode_at s at ≡ ch → fixed_at (suc l) v s at ≡ None
      by None d = rw (codes_off s at d)
      by (Some (x, n)) d = rw (codes-on s at d, fixed_off x (chars_at s (at + n)) l v (subst (λ (z : ℕ). hex_digit z ≡ none) (p ∙ peek_on s at d) (digit-none c e)))

  pub fixed-end : (v : ℕ) (ok : Bool) → ok ≡ is_scalar v → fixed_at 0 v s at ≡ then_some ok (taken v at)
  unfolding fixed_at fixed scalar past
  fixed-end v true w = rw (← w)
  fixed-end v false w = rw (← w)

  pub until-step : (v c d : ℕ) → Digit-at s at c d → until_at v s at ≡ until_at (v * 16 + d) s (at + 1)
  unfolding until_at
  until-step v c d h =
      rw (h.next.chars, until-on c (chars_at s (at + 1)) v d (ne_eqb c 0x7D h.other) h.digit)
      (hex-further at c (chars_at s (at + 1)) (until_brace (v * 16 + d) (chars_at s (at + 1)))
      ∙ ap (λ (w : ℕ). hex_at (at + w) (chars_at s (at + 1)) (until_brace (v * 16 + d) (chars_at s (at + 1)))) (ascii-wide c h.high))

  pub until-big : (v : ℕ) → 0x110000 ≤ v → until_at v s at ≡ None
  unfolding until_at
  until-big v h = rw (big (chars_at s at) v h)

  -- where no character stands there are no digits and no brace
  pub until-out : (v : ℕ) → chars_at s at ≡ [] → until_at v s at ≡ None
  unfolding until_at until_brace
  until-out v h = rw h

  pub fixed-out : (k v : ℕ) → 1 ≤ k → chars_at s at ≡ [] → fixed_at k v s at ≡ None
  unfolding fixed_at fixed
  fixed-out zero v l h = absurd (omega arith)
  fixed-out (suc k) v l h = rw h

  pub chars-end : length s ≤ at → chars_at s at ≡ []
  unfolding codes_from
  chars-end h = rw (drop_of_length-le s h)

  pub until_not : (v c : ℕ) → c ≡ peek_at s at → (c ≡ 0x7D → ⊥) → None ≡ digit_of (hex_digit c) → until_at v s at ≡ None
  unfolding until_at until_brace
  until_not v c p o e = by (decode_at s at) refl
    where
      by : (ch : Std.Option (ℕ × ℕ)) → decode_at s at ≡ ch → until_at v s at ≡ None
      by None d = rw (codes_off s at d)
      by (Some (x, n)) d =
          let q : c ≡ x = p ∙ peek_on s at d in
          rw (codes-on s at d, until_off x (chars_at s (at + n)) v (ne_eqb x 0x7D (λ z. o (q ∙ z))) (subst (λ (z : ℕ). hex_digit z ≡ none) q (digit-none c e)))

  brace : (c : ℕ) → c ≡ peek_at s at → c ≡ 0x7D → Next s at 0x7D
  brace c p e = next-head s at 0x7D (omega arith) (omega arith) (sym p ∙ e)

  pub until-end : (v c : ℕ) → c ≡ peek_at s at → c ≡ 0x7D → (ok : Bool) → ok ≡ is_scalar v → until_at v s at ≡ then_some ok (taken v (at + 1))
  unfolding until_at scalar past
  until-end v c p e true w =
      rw ((brace c p e).chars, until_end 0x7D (chars_at s (at + 1)) v refl, ← w) (ap (λ (k : ℕ). Some (taken v (at + k))) (ascii-wide 0x7D (omega arith)))
  until-end v c p e false w = rw ((brace c p e).chars, until_end 0x7D (chars_at s (at + 1)) v refl, ← w)

-- the greatest number before l more digits of four
abbrev pub greatest : ℕ → ℕ
greatest zero = 0xFFFF
greatest (suc l) = greatest l / 16

pub greater : (l v d : ℕ) → 0 < l → l ≤ 4 → v ≤ greatest l → d ≤ 15 → (v * 16 + d ≤ greatest (l - 1)) × (v * 16 + d ≤ 0xFFFF)
greater zero v d h h' g f = absurd (omega arith)
greater (suc zero) v d h h' g f = (omega arith, omega arith)
greater (suc (suc zero)) v d h h' g f = (omega arith, omega arith)
greater (suc (suc (suc zero))) v d h h' g f = (omega arith, omega arith)
greater (suc (suc (suc (suc zero)))) v d h h' g f = (omega arith, omega arith)
greater (suc (suc (suc (suc (suc l))))) v d h h' g f = absurd (omega arith)

-- a number in braces
module _ (s : List ℕ) (at : ℕ) where
  pub braced_not : (peek_at s at ≡ 0x7B → ⊥) → braced_at s at ≡ None
  unfolding braced_at braced peek_at
  braced_not h = rw (ne_eqb (head (chars_at s at)) 0x7B h)

  pub braced-next : peek_at s at ≡ 0x7B → Next s at 0x7B
  braced-next h = next-head s at 0x7B (omega arith) (omega arith) h

  pub braced-empty : peek_at s at ≡ 0x7B → peek_at s (at + 1) ≡ 0x7D → braced_at s at ≡ None
  unfolding braced_at braced peek_at
  braced-empty h g = rw ((braced-next h).chars, g)

  pub braced-on : peek_at s at ≡ 0x7B → (peek_at s (at + 1) ≡ 0x7D → ⊥) → braced_at s at ≡ until_at 0 s (at + 1)
  unfolding braced_at until_at braced peek_at
  braced-on h g =
      rw ((braced-next h).chars, ne_eqb (head (chars_at s (at + 1))) 0x7D g)
      (hex-further at 0x7B (chars_at s (at + 1)) (until_brace 0 (chars_at s (at + 1)))
      ∙ ap (λ (w : ℕ). hex_at (at + w) (chars_at s (at + 1)) (until_brace 0 (chars_at s (at + 1)))) (ascii-wide 0x7B (omega arith)))

-- the number, or the letter
module _ (s : List ℕ) (at : ℕ) where
  not_hex : (cs : List ℕ) (o : Option Escape) → None ≡ hex_at at cs o → o ≡ none
  not_hex cs none h = refl
  not_hex cs (some e) h = cc

  takes-code : (e : ℕ) (t : Taken) (o : Option Escape) → Some t ≡ hex_at at (chars_at s at) o → Takes s at (or_letter e o) t
  takes-code e t none h = impossible (cc)
  takes-code e t (some x) h =
      let q : t ≡ taken x.char (past at x.taken (chars_at s at)) = cc in
      record { char = ap (λ (u : Taken). u.code) q; ends = ap (λ (u : Taken). u.end) q }

  digits-letter : (e k : ℕ) → None ≡ fixed_at k 0 s at → Takes s at (or_letter e (fixed k 0 (chars_at s at))) (taken e at)
  unfolding fixed_at past
  digits-letter e k h = rw (not_hex (chars_at s at) (fixed k 0 (chars_at s at)) h) (record { char = refl; ends = refl })

  pub digits-or : (e k : ℕ) (o : Std.Option Taken) → o ≡ fixed_at k 0 s at → Takes s at (or_letter e (fixed k 0 (chars_at s at))) (unwrap_or o (taken e at))
  unfolding fixed_at
  digits-or e k None h = digits-letter e k h
  digits-or e k (Some t) h = takes-code e t (fixed k 0 (chars_at s at)) h

  or_code : (e : ℕ) (t : Taken) (o b : Option Escape) → Some t ≡ hex_at at (chars_at s at) o → Takes s at (or_letter e (or_else o b)) t
  or_code e t none b h = impossible (cc)
  or_code e t (some x) b h = takes-code e t (some x) h

  pub unicode_code : (e : ℕ) (t : Taken) → Some t ≡ braced_at s at → Takes s at (or_letter e (or_else (braced (chars_at s at)) (fixed 4 0 (chars_at s at)))) t
  unfolding braced_at
  unicode_code e t h = or_code e t (braced (chars_at s at)) (fixed 4 0 (chars_at s at)) h

  pub unicode_else : (e : ℕ) (t : Taken) → None ≡ braced_at s at → Takes s at (or_letter e (fixed 4 0 (chars_at s at))) t
      → Takes s at (or_letter e (or_else (braced (chars_at s at)) (fixed 4 0 (chars_at s at)))) t
  unfolding braced_at
  unicode_else e t h k = rw (not_hex (chars_at s at) (braced (chars_at s at)) h) k

-- an escape by its letter
module _ (e : ℕ) (cs : List ℕ) where
  pub escape-u : among (letters "uU") e ≡ true → escape e cs ≡ or_letter e (or_else (braced cs) (fixed 4 0 cs))
  unfolding escape
  escape-u w = rw w

  pub escape-x : among (letters "uU") e ≡ false → among (letters "xX") e ≡ true → escape e cs ≡ or_letter e (fixed 2 0 cs)
  unfolding escape
  escape-x w v = rw (w, v)

  pub escape-other : ((e ≡ 0x55) ⊎ (e ≡ 0x75) → ⊥) → ((e ≡ 0x58) ⊎ (e ≡ 0x78) → ⊥) → escape e cs ≡ record { char = control e; taken = 0 }
  unfolding escape
  escape-other u x = rw (ne_eqb e 0x75 (λ q. u (inr q)), ne_eqb e 0x55 (λ q. u (inl q)), ne_eqb e 0x78 (λ q. x (inr q)), ne_eqb e 0x58 (λ q. x (inl q)))

pub takes_as : (s : List ℕ) (at : ℕ) (x y : Escape) (v : Taken) → x ≡ y → Takes s at y v → Takes s at x v
takes_as s at x y v e t = rw e t

-- an escape stands for a character, and takes m characters at least, which are there
record Sized (m : ℕ) (cs : List ℕ) (x : Escape) : Type 0 where
  pub scalar : IsScalar x.char
  pub least : m ≤ x.taken
  pub most : x.taken ≤ length cs

abbrev Fine : ℕ → List ℕ → Option Escape → Type 0
Fine m cs none = Unit {0}
Fine m cs (some x) = Sized m cs x

scalar-fine : (v n m : ℕ) (cs : List ℕ) → m ≤ n → n ≤ length cs → Fine m cs (scalar v n)
unfolding scalar
scalar-fine v n m cs h g = if_cases (Fine m cs) (is_scalar v) (λ e. record { scalar = e; least = h; most = g }) (λ _. tt)

further-fine : (m c : ℕ) (cs : List ℕ) (o : Option Escape) → Fine m cs o → Fine (suc m) (c ∷ cs) (further o)
further-fine m c cs none h = tt
further-fine m c cs (some x) h = let l = h.least in let k = h.most in record { scalar = h.scalar; least = omega arith; most = omega arith }

weaker : (m : ℕ) (cs : List ℕ) (o : Option Escape) → Fine (suc m) cs o → Fine m cs o
weaker m cs none h = tt
weaker m cs (some x) h = let l = h.least in record { scalar = h.scalar; least = omega arith; most = h.most }

fixed-fine : (k v : ℕ) (cs : List ℕ) → Fine k cs (fixed k v cs)
unfolding fixed
fixed-fine zero v cs = scalar-fine v 0 0 cs (omega arith) (omega arith)
fixed-fine (suc k) v [] = tt
fixed-fine (suc k) v (c ∷ cs) = by (λ w. fixed-fine k w cs) (hex_digit c) refl
  where
    by : ((w : ℕ) → Fine k cs (fixed k w cs)) → (o : Option ℕ) → hex_digit c ≡ o → Fine (suc k) (c ∷ cs) (fixed (suc k) v (c ∷ cs))
    by r none e = rw (fixed_off c cs k v e) tt
    by r (some d) e = rw (fixed_on c cs k v d e) (further-fine k c cs (fixed k (v * 16 + d) cs) (r (v * 16 + d)))

until-fine : (cs : List ℕ) (v : ℕ) → Fine 1 cs (until_brace v cs)
unfolding until_brace
until-fine [] v = tt
until-fine (c ∷ cs) v = by (λ w. until-fine cs w) (eqb c 0x7D) refl (hex_digit c) refl
  where
    by : ((w : ℕ) → Fine 1 cs (until_brace w cs)) → (b : Bool) → eqb c 0x7D ≡ b → (o : Option ℕ) → hex_digit c ≡ o → Fine 1 (c ∷ cs) (until_brace v (c ∷ cs))
    by r true e o f = rw (until_end c cs v e) (scalar-fine v 1 1 (c ∷ cs) (omega arith) (omega arith))
    by r false e none f = rw (until_off c cs v e f) tt
    by r false e (some d) f =
        rw (until-on c cs v d e f)
        (weaker 1 (c ∷ cs) (further (until_brace (v * 16 + d) cs)) (further-fine 1 c cs (until_brace (v * 16 + d) cs) (r (v * 16 + d))))

braced-fine : (cs : List ℕ) → Fine 2 cs (braced cs)
unfolding braced
braced-fine [] = tt
braced-fine (c ∷ cs) = by (is "{" c && not (is "}" (head cs)))
  where
    by : (b : Bool) → Fine 2 (c ∷ cs) (if b then further (until_brace 0 cs) otherwise none)
    by true = further-fine 1 c cs (until_brace 0 cs) (until-fine cs 0)
    by false = tt

-- what a letter and the characters after it stand for: no more bytes than they have themselves
pub record Short (e : ℕ) (cs : List ℕ) (x : Escape) : Type 0 where
  pub scalar : IsScalar x.char
  pub size : (width x.char ≤ width e) ⊎ ((2 ≤ x.taken) × (x.taken ≤ length cs))

itself-short : (e : ℕ) (cs : List ℕ) → IsScalar e → Short e cs (record { char = e; taken = 0 })
itself-short e cs h = record { scalar = h; size = inl (omega arith) }

letter_short : (e m : ℕ) (cs : List ℕ) (o : Option Escape) → 2 ≤ m → IsScalar e → Fine m cs o → Short e cs (or_letter e o)
letter_short e m cs none g h f = itself-short e cs h
letter_short e m cs (some x) g h f = let l = f.least in record { scalar = f.scalar; size = inr (omega arith, f.most) }

or_short : (e : ℕ) (cs : List ℕ) (o b : Option Escape) → IsScalar e → Fine 2 cs o → Fine 4 cs b → Short e cs (or_letter e (or_else o b))
or_short e cs none b h f g = letter_short e 4 cs b (omega arith) h g
or_short e cs (some x) b h f g = letter_short e 2 cs (some x) (omega arith) h f

-- a control character has one byte
control-short : (e : ℕ) (cs : List ℕ) → IsScalar e → Short e cs (record { char = control e; taken = 0 })
unfolding control
control-short e cs h =
    let P : ℕ → Type 0 = λ c. Short e cs (record { char = c; taken = 0 }) in
    let w = width_some e in
    let small : (c : ℕ) → c < 0x80 → P c =
    λ c l. let k = ascii-wide c l in record { scalar = scalar-low c (omega arith); size = inl (omega arith) } in
    if_cases P (is "n" e) (λ _. small 0x0A (omega arith))
    (λ _. if_cases P (is "t" e) (λ _. small 0x09 (omega arith))
    (λ _. if_cases P (is "b" e) (λ _. small 0x08 (omega arith))
    (λ _. if_cases P (is "r" e) (λ _. small 0x0D (omega arith))
    (λ _. if_cases P (is "f" e) (λ _. small 0x0C (omega arith))
    (λ _. if_cases P (is "0" e) (λ _. small 0x00 (omega arith))
    (λ _. itself-short e cs h))))))

pub escape-short : (e : ℕ) (cs : List ℕ) → IsScalar e → Short e cs (escape e cs)
unfolding escape
escape-short e cs h =
    if_cases (Short e cs) (among (letters "uU") e) (λ _. or_short e cs (braced cs) (fixed 4 0 cs) h (braced-fine cs) (fixed-fine 4 0 cs))
    (λ _. if_cases (Short e cs) (among (letters "xX") e) (λ _. letter_short e 2 cs (fixed 2 0 cs) (omega arith) h (fixed-fine 2 0 cs))
    (λ _. control-short e cs h))

-- k characters have k bytes at least
past-least : (p k : ℕ) (cs : List ℕ) → k ≤ length cs → p + k ≤ past p k cs
unfolding past
past-least p zero cs h = omega arith
past-least p (suc k) [] h = absurd (omega arith)
past-least p (suc k) (c ∷ cs) h = let w = width_some c in let r = past-least (p + width c) k cs (omega arith) in omega arith

short-fits : (p : ℕ) {e : ℕ} {cs : List ℕ} {x : Escape} → Short e cs x → p ≤ past p x.taken cs → width x.char ≤ 1 + width e + (past p x.taken cs - p)
short-fits p {e} {cs} {x} h g =
    ⊎_elim (λ l. omega arith)
    (λ l. let w = width_small x.char in let v = width_some e in let r = past-least p x.taken cs l.1 in omega (arith, l.0)) h.size

-- atoms
pub atoms-skip : (cs : List ℕ) (k : ℕ) → atoms_from cs k ≡ atoms_from (drop k cs) 0
unfolding atoms_from
atoms-skip [] zero = refl
atoms-skip [] (suc k) = refl
atoms-skip (c ∷ cs) zero = refl
atoms-skip (c ∷ cs) (suc k) = atoms-skip cs k

module _ (c : ℕ) (cs : List ℕ) where
  pub atoms-plain : eqb c 0x5C ≡ false → atoms_from (c ∷ cs) 0 ≡ record { char = c; escaped = false } ∷ atoms_from cs 0
  unfolding atoms_from
  atoms-plain w = rw (w, atoms_from)

  pub atoms-escaped : eqb c 0x5C ≡ true → atoms_from (c ∷ cs) 0 ≡ escaped_by cs (λ k. atoms_from cs k)
  unfolding atoms_from
  atoms-escaped w = rw (w, atoms_from)

atoms-run : (s : List ℕ) (at k : ℕ) → at ≤ length s → atoms_from (chars_at s at) k ≡ atoms_at s (past at k (chars_at s at))
unfolding atoms_at
atoms-run s at k h = atoms-skip (chars_at s at) k ∙ rw (run_at s at k h).rest

escaped_as : (l : List ℕ) (e : ℕ) (cs : List ℕ) (v : ℕ) → l ≡ e ∷ cs → v ≡ (escape e cs).char → (r : List E.Atom) → atoms_from l (suc (escape e cs).taken) ≡ r
    → escaped_by l (λ k. atoms_from l k) ≡ record { char = v; escaped = true } ∷ r
escaped_as l e cs v h q r y =
    rw q (subst (λ (m : List ℕ). escaped_by m (λ k. atoms_from l k) ≡ record { char = (escape e cs).char; escaped = true } ∷ r) (sym h)
    (ap (λ (z : List E.Atom). record { char = (escape e cs).char; escaped = true } ∷ z) y))

module _ (s : List ℕ) (at : ℕ) where
  pub atom-none : decode_at s at ≡ None → ReadsAtom s at None
  unfolding atoms_at atoms_from
  atom-none e = record { atoms = rw (codes_off s at e); placed = tt }

  module _ {c n : ℕ} (d : decode_at s at ≡ Some (c, n)) where
    pub atom-plain : (c ≡ 0x5C → ⊥) → ReadsAtom s at (Some (atom c false (at + n)))
    unfolding atoms_at
    atom-plain h =
        let f = scalar_fits s at d in
        let w = (stands_at s at d).wide in
        record { atoms = rw (codes-on s at d) (atoms-plain c (chars_at s (at + n)) (ne_eqb c 0x5C h)); placed = (omega arith, omega arith, (stands_at s at d).scalar) }

    module _ (h : c ≡ 0x5C) where
      pub atom-lone : decode_at s (at + n) ≡ None → ReadsAtom s at None
      unfolding atoms_at
      atom-lone i =
          record { atoms = rw (codes-on s at d) (atoms-escaped c (chars_at s (at + n)) (eq-eqb c 0x5C h) ∙ rw (codes_off s (at + n) i)); placed = tt }

      pub atom-escape : (e m v end : ℕ) → decode_at s (at + n) ≡ Some (e, m) → Takes s (at + n + m) (escape e (chars_at s (at + n + m))) (taken v end) → ReadsAtom s at (Some (atom v true end))
      unfolding atoms_at past
      atom-escape e m v end i t =
          let f = scalar_fits s at d in
          let g = scalar_fits s (at + n) i in
          let x = escape e (chars_at s (at + n + m)) in
          let r = run_at s (at + n + m) x.taken g.1 in
          let r₁ = r.forth in
          let r₂ = r.inside in
          let w : past (at + n) (suc x.taken) (chars_at s (at + n)) ≡ past (at + n + m) x.taken (chars_at s (at + n + m)) = rw (codes-on s (at + n) i, (stands_at s (at + n) i).wide) in
          let q = t.ends in
          let z = escape-short e (chars_at s (at + n + m)) (stands_at s (at + n) i).scalar in
          let k = short-fits (at + n + m) z r₁ in
          let j = (stands_at s (at + n) i).wide in
          let u = ap width t.char in
          let y : atoms_from (chars_at s (at + n)) (suc x.taken) ≡ atoms_from (chars_at s end) 0 =
          atoms-run s (at + n) (suc x.taken) f.1 ∙ rw (w, ← t.ends) in
          record {
            atoms = rw (codes-on s at d) (atoms-escaped c (chars_at s (at + n)) (eq-eqb c 0x5C h)
                ∙ escaped_as (chars_at s (at + n)) e (chars_at s (at + n + m)) v (codes-on s (at + n) i) t.char (atoms_from (chars_at s end) 0) y);
            placed = (omega arith, omega arith, rw t.char z.scalar);
          }

-- the value of a string's text from a place on
unfoldable pub value_at : List ℕ → ℕ → List ℕ
value_at s at = map (λ a. a.char) (atoms_at s at)

module _ (s : List ℕ) (at : ℕ) where
  pub value-end : (r : Std.Option Atom) → ReadsAtom s at r → r ≡ None → value_at s at ≡ []
  unfolding value_at
  value-end r h e = ap (map (λ a. a.char)) (h.atoms ∙ ap (atom_answer s) e)

  pub record Value (c end : ℕ) : Type 0 where
    pub past : at < end
    pub forth : at + width c ≤ end
    pub inside : end ≤ length s
    pub scalar : IsScalar c
    pub value : value_at s at ≡ c ∷ value_at s end

  pub value_on : (r : Std.Option Atom) (a : Atom) → ReadsAtom s at r → r ≡ Some a → Value a.code a.end
  unfolding value_at
  value_on r a h e =
      let p = subst (AtomPlaced s at) e h.placed in
      let w = width_some a.code in
      record { past = (let l = p.0 in omega arith); forth = p.0; inside = p.1; scalar = p.2; value = ap (map (λ a. a.char)) (h.atoms ∙ ap (atom_answer s) e) }

-- n bytes of a string's value are written, up to place `at` of its text
pub record Decoding (body out₀ out : List ℕ) (at n : ℕ) : Type 0 where
  pub inside : at ≤ length body
  pub few : n ≤ at
  pub same : length out ≡ length out₀
  pub size : n + length (encode_all (value_at body at)) ≡ length (encode_all (value_at body 0))
  pub bytes : written_all out n (value_at body at) ≡ written_all out₀ 0 (value_at body 0)

all_one : (out : List ℕ) (at c : ℕ) (cs : List ℕ) → written_all out at (c ∷ cs) ≡ written_all (written out at (encode c)) (at + width c) cs
unfolding written_all
all_one out at c cs = refl

size-one : (c : ℕ) (cs : List ℕ) → length (encode_all (c ∷ cs)) ≡ width c + length (encode_all cs)
unfolding encode_all
size-one c cs = length-append (encode c) (encode_all cs)

module _ (body out₀ out : List ℕ) (at n : ℕ) (d : Decoding body out₀ out at n) where
  pub decoded : value_at body at ≡ []
      → (n ≡ length (encode_all (decode_string (codes body)))) × (out ≡ written_all out₀ 0 (decode_string (codes body))) × (n ≤ length body)
  unfolding value_at atoms_at written_all decode_string encode_all
  decoded e = (let k = rw e at d.size in omega arith, rw e at d.bytes, let i = d.inside in let f = d.few in omega arith)

  pub step : (out' : List ℕ) (c end r : ℕ) → Value body at c end → (r ≡ length (scalar_bytes c)) × (out' ≡ written out n (scalar_bytes c))
      → Decoding body out₀ out' end (n + r)
  step out' c end r v h =
      let f = v.forth in
      let b = bytes-some c v.scalar in
      let k : r ≡ width c = h.0 ∙ ap length b in
      let o : out' ≡ written out n (encode c) = h.1 ∙ ap (written out n) b in
      let g = d.few in
      let s = rw v.value at d.size in
      let l = size-one c (value_at body end) in
      record {
        inside = v.inside;
        few = omega arith;
        same = ap length o ∙ length-written out n (encode c) ∙ d.same;
        size = omega arith;
        bytes = rw (k, o) (sym (all_one out n c (value_at body end)) ∙ (rw v.value at d.bytes));
      }

-- the next atom
module _ (s : List ℕ) (at : ℕ) where
  pub atoms_off : (r : Std.Option Atom) → ReadsAtom s at r → r ≡ None → atoms_at s at ≡ []
  atoms_off r h e = h.atoms ∙ ap (atom_answer s) e

  pub atoms-on : (r : Std.Option Atom) (a : Atom) → ReadsAtom s at r → r ≡ Some a → atoms_at s at ≡ record { char = a.code; escaped = a.escaped } ∷ atoms_at s a.end
  atoms-on r a h e = h.atoms ∙ ap (atom_answer s) e
