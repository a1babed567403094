-- How far the functions on tokens come.
-- Assumes nothing.
use Prim.Native.Nat.{ℕ, ◌+◌, ◌≤◌, ◌<◌}
use Prim.Native.Char.{Char, code}
use native.Mathlib.Omega.{arith}
use mathlib.Core.Path.{◌≡◌, refl, ap, ◌∙◌}
use mathlib.Core.Bool.{Bool, true, false}
use mathlib.Core.List.{List}
use mathlib.Core.Option as M
use mathlib.Core.Option.{none, some}
use Rattle.std.specs.Prelude.{Some, Ok}
use Rattle.lexer.specs.declared.Part.{Part}
use lib.Dec.{eqb}
use lib.ListN.{length}
use borrow.Author.Tests.{eqb-true}
use Rattle.lexer.specs.Tokens as T
use Rattle.lexer.specs.Tokens.{Tokens}
use Rattle.lexer.specs.Promise.{tokens_at}
use Rattle.tree.specs.Syntax.{Identifier}
use Rattle.notation.specs.Parser.{Answer, read, refused, and_then, ◌>>=◌, pure, kind, here, refuse_here, arrive, next, eat_if, eat, must, expect, taken, parse_identifier, expect_string, size}
use Rattle.lexer.specs.declared.Token.{Token}
use Rattle.lexer.specs.declared.Token.TheVariants.{Of, Eof}
use Rattle.tokens.specs.Promise.{stream, start_in, end_in, text_in, mark_of, name_of, at_of, string_of, LiesIn, Eats, Expects, Identifies, TakesString}
use Rattle.parser.specs.Steps.{placed, Onward}
use Rattle.parser.specs.Shapes.{IsToken}
use Rattle.tokens.proofs.Stream.{start-of, mark-of, name-of, string-of}

must-read : (a : Answer ℕ Bool) (us : Tokens ℕ) → and_then a must ≡ read tt us → a ≡ read true us
unfolding and_then must pure refuse_here
must-read (read true vs) us e = let z : vs ≡ us = cc in rw z
must-read (read false vs) us e = absurd (let z : ◌≡◌ {A = ℕ} 0 1 = cc in omega arith)
must-read (refused n p) us e = absurd (let z : ◌≡◌ {A = ℕ} 0 1 = cc in omega arith)

pub mark-token : (t : Token) {c : ℕ} → mark_of t ≡ c → 0 < c → IsToken t
mark-token (Of k start end) e h = tt
mark-token (Eof p) e h = absurd (omega arith)

pub name-token : (t : Token) {a : Part} → name_of t ≡ Some a → IsToken t
name-token (Of k start end) q = tt
name-token (Eof p) q = absurd (let z : ◌≡◌ {A = ℕ} 0 1 = cc in omega arith)

pub at-token : (t : Token) {a : Part} → at_of t ≡ Some a → IsToken t
at-token (Of k start end) q = tt
at-token (Eof p) q = absurd (let z : ◌≡◌ {A = ℕ} 0 1 = cc in omega arith)

pub string-token : (t : Token) {a : Part} → string_of t ≡ Some a → IsToken t
string-token (Of k start end) q = tt
string-token (Eof p) q = absurd (let z : ◌≡◌ {A = ℕ} 0 1 = cc in omega arith)

arrived : (ts us : Tokens ℕ) → arrive ts ≡ read tt us → ts ≡ us
unfolding arrive
arrived (T.token k p ts) us e = cc
arrived (T.eof p) us e = cc
arrived (T.bad n p) us e = absurd (let z : ◌≡◌ {A = ℕ} 0 1 = cc in omega arith)

passed : {A : Type 0} (v : A) (a : Answer ℕ (Unit {0})) {w : A} {us : Tokens ℕ} → and_then a (λ _. pure v) ≡ read w us → a ≡ read tt us
unfolding and_then pure
passed v (read x vs) {w} {us} q = let z : vs ≡ us = cc in rw z
passed v (refused n p) {w} {us} q = absurd (let z : ◌≡◌ {A = ℕ} 0 1 = cc in omega arith)

-- what an eaten token says
pub if_true : (b : Bool) (ts us : Tokens ℕ) → eat_if b ts ≡ read true us → (b ≡ true) × (next ts ≡ read tt us)
unfolding eat_if ◌>>=◌ pure
if_true true ts us e = (refl, passed true (next ts) e)
if_true false ts us e = absurd (let z : ◌≡◌ {A = ℕ} 0 1 = cc in omega arith)

taken_next : (o : M.Option (List ℕ)) (ts us : Tokens ℕ) (v : List ℕ) → taken o ts ≡ read v us → next ts ≡ read tt us
unfolding taken ◌>>=◌ refuse_here
taken_next none ts us v e = absurd (let z : ◌≡◌ {A = ℕ} 0 1 = cc in omega arith)
taken_next (some t) ts us v e = passed t (next ts) e

module _ (s : List ℕ) where
  pub lies-from : (t : Token) (from : ℕ) → LiesIn s from t → from ≤ length s → LiesIn s 0 t
  lies-from (Of k start end) from h i = (omega arith, h.1, h.2, h.3, h.4)
  lies-from (Eof p) from h i = λ z. h i

  pub placed_in : (t : Token) → LiesIn s 0 t → placed s t ≤ length s
  placed_in (Of k start end) h = let a = h.1 in let b = h.2 in omega arith
  placed_in (Eof p) h = omega arith

  pub placed-from : (t : Token) (from : ℕ) → LiesIn s from t → from ≤ length s → from ≤ placed s t
  placed-from (Of k start end) from h i = h.0
  placed-from (Eof p) from h i = i

  pub start-in : (t : Token) → IsToken t → start_in t ≡ placed s t
  start-in (Of k start end) h = refl
  start-in (Eof p) h = absurd h

  pub start_small : (t : Token) → LiesIn s 0 t → start_in t ≤ length s
  start_small (Of k start end) h = let a = h.1 in let b = h.2 in omega arith
  start_small (Eof p) h = h (omega arith)

  pub end-in : (t : Token) → IsToken t → LiesIn s 0 t → (placed s t < end_in t) × (end_in t ≤ length s)
  end-in (Of k start end) i h = (h.1, h.2)
  end-in (Eof p) i h = absurd i

  fewer-next : (t : Token) → IsToken t → (us : Tokens ℕ) → next (stream s t) ≡ read tt us → size us + 1 ≤ size (stream s t)
  unfolding next stream size
  fewer-next (Of k start end) i us e = let q : tokens_at s end ≡ us = arrived (tokens_at s end) us e in let z : size (tokens_at s end) ≡ size us = ap size q in omega arith
  fewer-next (Eof p) i us e = absurd i

  -- ------------------------------------------------------------------ steps

  pub onward-here : (t : Token) → LiesIn s 0 t → Onward s t t 0
  onward-here t h = record { lies = h; ahead = omega arith; fewer = omega arith }

  onward-of : (t u : Token) → IsToken t → LiesIn s 0 t → next (stream s t) ≡ read tt (stream s u) → LiesIn s (end_in t) u → Onward s t u 1
  onward-of t u i l e h =
      let w = end-in t i l in
      let f = placed-from u (end_in t) h w.1 in
      record { lies = lies-from u (end_in t) h w.1; ahead = (let g = w.0 in omega arith); fewer = fewer-next t i (stream s u) e }

  pub next-onward : (t : Token) {u : Token} → IsToken t → LiesIn s 0 t → (next (stream s t) ≡ read tt (stream s u)) × LiesIn s (end_in t) u → Onward s t u 1
  next-onward t i l k = onward-of t _ i l k.0 k.1

  -- ------------------------------------------------------------------ marks

  eat-true : (m : Char) (t : Token) (us : Tokens ℕ) → eat m (stream s t) ≡ read true us → (mark_of t ≡ code m) × (next (stream s t) ≡ read tt us)
  unfolding eat ◌>>=◌ and_then kind
  eat-true m t us e = let h = if_true (eqb (mark_of t) (code m)) (stream s t) us (rw (mark-of s t) at e) in (eqb-true (mark_of t) (code m) h.0, h.1)

  pub eat-onward : (m : Char) (t : Token) {u : Token} → 0 < code m → LiesIn s 0 t → Eats s t (code m) (Ok (Some u)) → Onward s t u 1
  eat-onward m t {u} z l k =
      let q = eat-true m t (stream s u) (k.eats m refl) in
      onward-of t u (mark-token t q.0 z) l q.1 k.lies

  expect-eat : (m : Char) (ts us : Tokens ℕ) → expect m ts ≡ read tt us → eat m ts ≡ read true us
  unfolding expect ◌>>=◌
  expect-eat m ts us e = go (eat m ts) e
    where
      go : (a : Answer ℕ Bool) → and_then a must ≡ read tt us → a ≡ read true us
      go a e = must-read a us e

  pub expect-onward : (m : Char) (t : Token) {u : Token} → 0 < code m → LiesIn s 0 t → Expects s t (code m) (Ok u) → Onward s t u 1
  expect-onward m t {u} z l k =
      let q = eat-true m t (stream s u) (expect-eat m (stream s t) (stream s u) (k.expects m refl)) in
      onward-of t u (mark-token t q.0 z) l q.1 k.lies

  -- ------------------------------------------------------------------ names and strings

  named-next : (t : Token) (o : M.Option (List ℕ)) (us : Tokens ℕ) (v : Identifier ℕ) → and_then (taken o (stream s t)) (λ n. pure (record { start = start_in t; name = n })) ≡ read v us
      → next (stream s t) ≡ read tt us
  unfolding and_then pure
  named-next t o us v e = go (taken o (stream s t)) refl e
    where
      go : (a : Answer ℕ (List ℕ)) → taken o (stream s t) ≡ a → and_then a (λ n. pure (record { start = start_in t; name = n })) ≡ read v us → next (stream s t) ≡ read tt us
      go (read w vs) p q = let z : vs ≡ us = cc in taken_next o (stream s t) us w (p ∙ rw z)
      go (refused n p) i q = absurd (let z : ◌≡◌ {A = ℕ} 0 1 = cc in omega arith)

  pub name-onward : (t : Token) {u : Token} {a : Part} → LiesIn s 0 t → Identifies s t (Ok (a, u)) → Onward s t u 1 × (name_of t ≡ Some a)
  unfolding parse_identifier ◌>>=◌ here kind and_then
  name-onward t {u} l k =
      let n = rw (start-of s t, name-of s t) at k.takes in
      (onward-of t u (name-token t k.lies.1) l (named-next t (text_in s (name_of t)) (stream s u) _ n) k.lies.0, k.lies.1)

  pub string-onward : (t : Token) {u : Token} {a : Part} → LiesIn s 0 t → TakesString s t (Ok (a, u)) → Onward s t u 1 × (string_of t ≡ Some a)
  unfolding expect_string ◌>>=◌ kind and_then
  string-onward t {u} l k =
      let n = rw (string-of s t) at k.takes in
      (onward-of t u (string-token t k.lies.1) l (taken_next _ (stream s t) (stream s u) _ n) k.lies.0, k.lies.1)

module _ {s : List ℕ} where
  pub onward_then : {t u v : Token} {i j : ℕ} → Onward s t u i → Onward s u v j → Onward s t v (i + j)
  onward_then f g = let a = f.ahead in let b = g.ahead in let c = f.fewer in let d = g.fewer in record { lies = g.lies; ahead = omega arith; fewer = omega arith }

  pub onward-least : {t u : Token} {i : ℕ} (j : ℕ) → Onward s t u i → j ≤ i → Onward s t u j
  onward-least j f h = let a = f.ahead in let c = f.fewer in record { lies = f.lies; ahead = omega arith; fewer = omega arith }
