-- A text is stopped at a place within it or at its end: tokens stand there, and a parser, which does not look at starts, refuses at the start
-- of one of them. For were it to refuse elsewhere, it would refuse elsewhere still where all starts are cut to the text's length.
-- Assumes nothing.
use Prim.Native.Nat.{ℕ, zero, suc, ◌+◌, ◌-◌, ◌≤◌}
use native.Mathlib.Omega.{arith}
use mathlib.Core.Path.{◌≡◌, refl, sym, ◌∙◌, ap}
use mathlib.Core.Bool.{Bool, true, false}
use mathlib.Core.List.{List, [], ◌∷◌}
use lib.Dec.{leb, ltb}
use lib.ListN.{length, length-append}
use borrow.Author.Tests.{le-leb, leb-true}
use Rattle.basics.specs.Basics.{if◌then◌otherwise◌}
use Rattle.basics.proofs.Tests.{cases}
use Rattle.std.proofs.lemmas.List.{take_all}
use Rattle.std.specs.Prelude.{Result, Ok, Err, Option, Some, None}
use Rattle.characters.specs.Utf8.{first_char, on_char, ill_at, check_from, check, codes, encode, encode_all, width}
use Rattle.characters.specs.declared.IllFormed.{IllFormed}
use Rattle.characters.proofs.Chars.{prefix}
use Rattle.error.specs.Causes.{too_long}
use Rattle.lexer.specs.Tokens.{Kind, Piece, blank, piece, Tokens, token, eof, bad, lay, tokens_from, tokens}
use Rattle.lexer.specs.Tokens as Lexed
use Rattle.tree.specs.Syntax.{GrammarDeclaration}
use Rattle.notation.specs.Parser.{Answer, read, refused}
use Rattle.notation.specs.Declarations.{parse_grammar}
use Rattle.grammar.specs.Reading.{Reading, tree, stopped, reading, answered, read_checked, longest}
use Rattle.laws.proofs.Starts.{on_tokens, on_answer, on_grammar}
use Rattle.laws.specs.Places.{StoppedWithin}
use Rattle.laws.proofs.Accepted.{reading-of}
use Rattle.laws.proofs.AlikeDeclarations.{parse_grammar_alike}

-- ------------------------------------------------------------------ places cut to a length

module _ (n : ℕ) where
  unfoldable clamp : ℕ → ℕ
  clamp p = if leb p n then p otherwise n

  clamp-same : (p : ℕ) → p ≤ n → clamp p ≡ p
  unfolding clamp
  clamp-same p h = rw (le-leb p n h)

  clamp-within : (p : ℕ) → clamp p ≤ n
  unfolding clamp
  clamp-within p = cases (leb p n) (λ t. let h = leb-true p n t in rw t h) (λ t. rw t (omega arith))

  -- all tokens stand within it
  data Within : Tokens ℕ → Type 0 where
    within-token : {k : Kind} {p : ℕ} {ts : Tokens ℕ} → p ≤ n → Within ts → Within (token k p ts)
    within-eof : {p : ℕ} → p ≤ n → Within (eof p)
    within-bad : {c p : ℕ} → p ≤ n → Within (bad c p)

  tokens-same : {ts : Tokens ℕ} → Within ts → on_tokens clamp ts ≡ ts
  unfolding on_tokens
  tokens-same (within-token {k} {p} {ts} h w) = rw (clamp-same p h, tokens-same w)
  tokens-same (within-eof {p} h) = rw (clamp-same p h)
  tokens-same (within-bad {c} {p} h) = rw (clamp-same p h)

  same_place : {A : Type 0} {c d p q : ℕ} → ◌≡◌ {A = Answer ℕ A} (refused c p) (refused d q) → p ≡ q
  same_place e = cc

  -- so a parser that does not look at starts refuses within it
  refused-within : {ts : Tokens ℕ} → Within ts → {c p : ℕ} → parse_grammar ts ≡ refused c p → p ≤ n
  unfolding on_answer
  refused-within {ts} w {c} {p} e =
      let a = (parse_grammar_alike clamp).on ts in
      let b : parse_grammar ts ≡ on_answer clamp (on_grammar clamp) (refused c p) = ap parse_grammar (sym (tokens-same w)) ∙ a ∙ ap (on_answer clamp (on_grammar clamp)) e in
      let q : p ≡ clamp p = same_place (sym e ∙ b) in
      let h = clamp-within p in
      omega arith

  -- ---------------------------------------------------------------- the tokens of a text of that length

  lay-within : (q : Piece) (p : ℕ) {rest : ℕ → Tokens ℕ} → p ≤ n → ((k : ℕ) → Within (rest k)) → Within (lay q p rest)
  lay-within (blank m) p h k = k (m - 1)
  lay-within (Lexed.Piece.token t m) p h k = within-token h (k (m - 1))
  lay-within (Lexed.Piece.bad c) p h k = within-bad h

  tokens-from-within : (cs : List ℕ) (k p : ℕ) → p + length (encode_all cs) ≤ n → Within (tokens_from cs k p)
  unfolding tokens_from encode_all
  tokens-from-within [] k p h = within-eof (omega arith)
  tokens-from-within (c ∷ cs) (suc k) p h = let l = length-append (encode c) (encode_all cs) in tokens-from-within cs k (p + width c) (omega arith)
  tokens-from-within (c ∷ cs) zero p h =
      let l = length-append (encode c) (encode_all cs) in lay-within (piece c cs) p (omega arith) (λ k. tokens-from-within cs k (p + width c) (omega arith))

-- the characters of a text take no more bytes than it has
codes-within : (s : List ℕ) → length (encode_all (codes s)) ≤ length s
codes-within s =
    let r = prefix (length (codes s)) 0 s in
    let i = r.inside in
    let e : length (encode_all (codes s)) ≡ r.n = ap (λ (l : List ℕ). length (encode_all l)) (sym (take_all (length (codes s)) (codes s) (omega arith))) ∙ r.size in
    omega arith

tokens-within : (s : List ℕ) → Within (length s) (tokens (codes s))
unfolding tokens
tokens-within s = let h = codes-within s in tokens-from-within (length s) (codes s) 0 0 (omega arith)

-- ------------------------------------------------------------------ a text that is not UTF-8

-- the byte check stops within it
abbrev CheckedWithin : ℕ → Result (Unit {0}) IllFormed → Type 0
CheckedWithin n (Ok checked) = Unit {0}
CheckedWithin n (Err e) = e.at ≤ n

check-from-within : (n j at : ℕ) (l : List ℕ) → at + length l ≤ n → CheckedWithin n (check_from j at l)
unfolding check_from on_char
check-from-within n j at [] h = tt
check-from-within n (suc j) at (x ∷ xs) h = check-from-within n j (at + 1) xs (omega arith)
check-from-within n zero at (x ∷ xs) h = by_char (first_char (x ∷ xs)) (λ j. check-from-within n j (at + 1) xs (omega arith))
  where
    by_char : (o : Option (ℕ × ℕ)) → ((j : ℕ) → CheckedWithin n (check_from j (at + 1) xs))
        → CheckedWithin n (on_char o (λ _ m. check_from (m - 1) (at + 1) xs) (Err (ill_at at)))
    by_char None k = omega arith
    by_char (Some (c, m)) k = k (m - 1)

check-within : (s : List ℕ) → CheckedWithin (length s) (check s)
unfolding check
check-within s = check-from-within (length s) 0 0 s (omega arith)

-- ------------------------------------------------------------------ the whole of reading

abbrev ReadWithin : ℕ → Reading → Type 0
ReadWithin n (tree g) = Unit {0}
ReadWithin n (stopped c p) = p ≤ n

answered-within : (s : List ℕ) (a : Answer ℕ (GrammarDeclaration ℕ)) → parse_grammar (tokens (codes s)) ≡ a → ReadWithin (length s) (answered a)
answered-within s (read g ts) e = tt
answered-within s (refused c p) e = refused-within (length s) (tokens-within s) e

checked-within : (s : List ℕ) (c : Result (Unit {0}) IllFormed) → CheckedWithin (length s) c → ReadWithin (length s) (read_checked s c)
checked-within s (Ok checked) h = answered-within s (parse_grammar (tokens (codes s))) refl
checked-within s (Err e) h = h

reading-within : (s : List ℕ) → ReadWithin (length s) (reading s)
reading-within s = rw (reading-of s) (go (ltb longest (length s)))
  where
    go : (b : Bool) → ReadWithin (length s) (elim b [ true ↦ stopped too_long 0 | false ↦ read_checked s (check s) ])
    go true = omega arith
    go false = checked-within s (check s) (check-within s)

pub stopped-within : StoppedWithin
stopped-within s c p e = rw e at (reading-within s)
