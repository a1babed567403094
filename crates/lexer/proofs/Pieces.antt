-- The answers for the pieces of a text.
-- Assumes nothing.
use mathlib.Core.Path.{◌≡◌, refl, sym, ◌∙◌, ap, ap₂}
use mathlib.Core.Bool.{Bool, true, false}
use mathlib.Core.List.{List, ◌∷◌, []}
use mathlib.Core.Logic.{◌⊎◌, inl, inr}
use mathlib.Core.Option.{Option, none, some}
use Prim.Native.Nat.{ℕ, zero, suc, ◌+◌, ◌-◌, ◌≤◌, ◌<◌}
use native.Mathlib.Omega.{arith}
use native.Mathlib.Decide.{dec_lt}
use lib.ListN.{length, take, drop}
use borrow.Author.Tests.{ne_eqb, eqb-true}
use Rattle.std.proofs.Common.{Some, None, Result, Ok, Err}
use Rattle.std.proofs.Common as Std
use Rattle.error.specs.declared.Cause.{Cause}
use Rattle.error.specs.declared.Cause.TheVariants.{UnexpectedCharacter, UnterminatedString, AtWithoutName, UnterminatedSet}
use Rattle.error.specs.declared.Stop.{Stop}
use Rattle.lexer.specs.declared.Part.{Part}
use Rattle.lexer.specs.declared.Kind.{Kind}
use Rattle.lexer.specs.declared.Kind.TheVariants.{String, Set, Punctuation, Identifier}
use Rattle.lexer.specs.declared.Kind.TheVariants as K
use Rattle.lexer.specs.declared.Token.{Token}
use Rattle.lexer.specs.declared.Token.TheVariants.{Of, Eof}
use Rattle.characters.specs.Places.{decode_at, past, chars_at, peek_at, run}
use Rattle.characters.specs.Utf8.{width}
use Rattle.characters.specs.Promise.{Next, run_end}
use Rattle.characters.proofs.Laws.{scalar_fits}
use Rattle.characters.proofs.Chars.{codes-on, codes_off, stands_at, Run, run_at, next-head}
use Rattle.characters.proofs.Encode.{ascii-wide}
use Rattle.basics.specs.Basics.{is, among, letters}
use Rattle.basics.proofs.Tests.{both_true, impossible}
use Rattle.characters.specs.Classes.{is_line_terminator, is_punctuation, is_word}
use Rattle.lexer.specs.Tokens.{body, never, Piece, string_of, set_of, at_of, solid, Tokens, tokens_from}
use Rattle.lexer.specs.Promise.{opens_set, tokens_at, found_at, end_of, Settled, IsPart, Lexes, Reads}
use Rattle.lexer.proofs.Tokens.{tokens-at, tokens-next, tokens-piece}
use Rattle.characters.proofs.Runs.{run_no, run_on}
use Rattle.lexer.specs.Tokens as T
use Rattle.error.specs.Causes.{unexpected_character}

abbrev part : ℕ → ℕ → Part
part a e = record { from = a; to = e }

abbrev token : Kind → ℕ → ℕ → Result Token Stop
token k start end = Ok (Of k start end)

abbrev stopped : Cause → ℕ → Result Token Stop
stopped c at = Err (record { cause = c; place = at })

data Got (at : ℕ) (cs : List ℕ) : Option ℕ → ℕ → ℕ → Type 0 where
  got : (k : ℕ) → Got at cs (some k) (past at k cs) (past at (suc k) cs)

got_of : (at : ℕ) (cs : List ℕ) (o : Option ℕ) (e end : ℕ) → Some (e, end) ≡ found_at at cs o → Got at cs o e end
got_of at cs none e end h = impossible (cc)
got_of at cs (some k) e end h =
    let w : ◌≡◌ {A = ℕ × ℕ} (e, end) (past at k cs, past at (suc k) cs) = cc in
    let p : e ≡ past at k cs = ap (λ (x : ℕ × ℕ). x.0) w in
    let q : end ≡ past at (suc k) cs = ap (λ (x : ℕ × ℕ). x.1) w in
    rw (p, q) (got k)

not_got : (at : ℕ) (cs : List ℕ) (o : Option ℕ) → None ≡ found_at at cs o → o ≡ none
not_got at cs none h = refl
not_got at cs (some k) h = cc

part_of : {s : List ℕ} {a k e : ℕ} → Run s a k e → IsPart s (part a e)
part_of r = record { forth = r.forth; inside = r.inside; bytes = r.bytes }

-- one character more is no less
past-step : (at k : ℕ) (cs : List ℕ) → past at k cs ≤ past at (suc k) cs
unfolding past
past-step at zero [] = omega arith
past-step at zero (c ∷ cs) = omega arith
past-step at (suc k) [] = omega arith
past-step at (suc k) (c ∷ cs) = past-step (at + width c) k cs

pub next_peek : (s : List ℕ) (at c : ℕ) → Next s at c → peek_at s at ≡ c
unfolding peek_at
next_peek s at c n = rw n.chars

module _ (s : List ℕ) (at : ℕ) (i : at + 1 ≤ length s) where
  string_lexes : (q : ℕ) {o : Option ℕ} {e end : ℕ} → peek_at s at ≡ q → Got (at + 1) (chars_at s (at + 1)) o e end
      → Lexes s at 1 (string_of (chars_at s (at + 1)) o) (token (String q (part (at + 1) e)) at end)
  string_lexes q p (got k) =
      let r = run_at s (at + 1) k i in
      let t = run_at s (at + 1) (suc k) i in
      let l : 1 + k + 1 - 1 ≡ suc k = omega arith in
      let f = t.forth in
      record {
        tokens = ap₂ (λ (w : List ℕ) (m : Tokens ℕ). T.token (T.string w) at m) (sym r.part) (rw l (tokens-at s (at + 1) (suc k) i));
        placed = (omega arith, omega arith, t.inside, (p, part_of r), (omega arith, past-step (at + 1) k (chars_at s (at + 1))));
      }

  string_open : {o : Option ℕ} → o ≡ none → Lexes s at 1 (string_of (chars_at s (at + 1)) o) (stopped UnterminatedString at)
  string_open h = rw h (record { tokens = refl; placed = tt })

  set_lexes : (x : Bool) {o : Option ℕ} {e end : ℕ} → Next s (at + 1) 0x5B → Got (at + 2) (chars_at s (at + 2)) o e end
      → Lexes s at 1 (set_of x (drop 1 (chars_at s (at + 1))) o) (token (Set x (part (at + 2) e)) at end)
  set_lexes x n (got k) =
      let g : at + 1 + 1 ≡ at + 2 = omega arith in
      let j = n.inside in
      let j' : at + 2 ≤ length s = omega arith in
      let r = run_at s (at + 2) k j' in
      let t = run_at s (at + 2) (suc k) j' in
      let q : 2 + k + 1 - 1 ≡ suc (suc k) = omega arith in
      let f = t.forth in
      let z = rw g at (tokens-next s (at + 1) (suc k) 0x5B n (omega arith)) in
      record {
        tokens = ap₂ (λ (w : List ℕ) (m : Tokens ℕ). T.token (T.set x w) at m)
            (rw (n.chars, g) (sym r.part)) (rw q (z ∙ tokens-at s (at + 2) (suc k) j'));
        placed = (omega arith, omega arith, t.inside, part_of r, (omega arith, past-step (at + 2) k (chars_at s (at + 2))));
      }

  pub string-done : (q e end : ℕ) → peek_at s at ≡ q → Some (e, end) ≡ end_of is_line_terminator q s (at + 1) false
      → Lexes s at 1 (string_of (chars_at s (at + 1)) (body is_line_terminator q false (chars_at s (at + 1)))) (token (String q (part (at + 1) e)) at end)
  string-done q e end p h = string_lexes q p (got_of (at + 1) (chars_at s (at + 1)) (body is_line_terminator q false (chars_at s (at + 1))) e end h)

  set_open : (x : Bool) {o : Option ℕ} → o ≡ none → Lexes s at 1 (set_of x (drop 1 (chars_at s (at + 1))) o) (stopped UnterminatedSet at)
  set_open x h = rw h (record { tokens = refl; placed = tt })

  set_body : Next s (at + 1) 0x5B → body never 0x5D false (drop 1 (chars_at s (at + 1))) ≡ body never 0x5D false (chars_at s (at + 2))
  set_body n = let g : at + 1 + 1 ≡ at + 2 = omega arith in rw (n.chars, g)

  pub set-done : (x : Bool) (e end : ℕ) → Next s (at + 1) 0x5B → Some (e, end) ≡ end_of never 0x5D s (at + 2) false
      → Lexes s at 1 (set_of x (drop 1 (chars_at s (at + 1))) (body never 0x5D false (drop 1 (chars_at s (at + 1))))) (token (Set x (part (at + 2) e)) at end)
  set-done x e end n h = rw (set_body n) (set_lexes x n (got_of (at + 2) (chars_at s (at + 2)) (body never 0x5D false (chars_at s (at + 2))) e end h))

  at-of : (k : ℕ) → 1 ≤ k → Lexes s at 1 (at_of (chars_at s (at + 1)) k) (token (K.At (part (at + 1) (past (at + 1) k (chars_at s (at + 1))))) at (past (at + 1) k (chars_at s (at + 1))))
  at-of zero h = absurd (omega arith)
  at-of (suc k) h =
      let r = run_at s (at + 1) (suc k) i in
      let q : 1 + suc k - 1 ≡ suc k = omega arith in
      let f = r.forth in
      record {
        tokens = ap₂ (λ (w : List ℕ) (m : Tokens ℕ). T.token (T.at w) at m) (sym r.part) (rw q (tokens-at s (at + 1) (suc k) i));
        placed = (omega arith, omega arith, r.inside, part_of r, (omega arith, omega arith));
      }

-- a run ends where it begins only if it is empty
module _ (p : ℕ → Bool) (s : List ℕ) (at : ℕ) where
  run-forth : at ≤ length s → at ≤ run_end p s at
  unfolding run_end
  run-forth i = (run_at s at (run p (chars_at s at)) i).forth

run-one : (p : ℕ → Bool) (s : List ℕ) (at : ℕ) {c n : ℕ} → decode_at s at ≡ Some (c, n) → (b : Bool) → p c ≡ b → run_end p s at ≡ at → run p (chars_at s at) ≡ 0
run-one p s at {c} {n} e true w h =
    let f = scalar_fits s at e in
    let r = run-forth p s (at + n) f.1 in
    let g : at ≡ run_end p s (at + n) = sym h ∙ run_on p s at e w in absurd (omega arith)
run-one p s at {c} {n} e false w h = rw (codes-on s at e) (run_no p c (chars_at s (at + n)) w)

run_by : (p : ℕ → Bool) (s : List ℕ) (at : ℕ) (ch : Std.Option (ℕ × ℕ)) → decode_at s at ≡ ch → run_end p s at ≡ at → run p (chars_at s at) ≡ 0
unfolding run
run_by p s at None e h = rw (codes_off s at e)
run_by p s at (Some (c, n)) e h = run-one p s at e (p c) refl h

run-some : (p : ℕ → Bool) (s : List ℕ) (at : ℕ) → (run_end p s at ≡ at → ⊥) → 1 ≤ run p (chars_at s at)
unfolding run_end past
run-some p s at h = by (run p (chars_at s at)) refl
  where
    by : (k : ℕ) → run p (chars_at s at) ≡ k → 1 ≤ k
    by zero e = absurd (h (rw e))
    by (suc k) e = omega arith

module _ (s : List ℕ) (at : ℕ) (i : at + 1 ≤ length s) where
  pub at_bare : run_end is_word s (at + 1) ≡ at + 1 → Lexes s at 1 (at_of (chars_at s (at + 1)) (run is_word (chars_at s (at + 1)))) (stopped AtWithoutName at)
  at_bare h = rw (run_by is_word s (at + 1) (decode_at s (at + 1)) refl h) (record { tokens = refl; placed = tt })

  pub at_lexes : (end : ℕ) → end ≡ run_end is_word s (at + 1) → (end ≡ at + 1 → ⊥)
      → Lexes s at 1 (at_of (chars_at s (at + 1)) (run is_word (chars_at s (at + 1)))) (token (K.At (part (at + 1) end)) at end)
  unfolding run_end
  at_lexes end e h = rw e (at-of s at i (run is_word (chars_at s (at + 1))) (run-some is_word s (at + 1) (λ q. h (e ∙ q))))

-- a token that is a word, or a mark
module _ (s : List ℕ) (at : ℕ) {c n : ℕ} (d : decode_at s at ≡ Some (c, n)) where
  pub word_lexes : (end : ℕ) → end ≡ run_end is_word s (at + n)
      → Lexes s at n (T.token (T.name (c ∷ take (run is_word (chars_at s (at + n))) (chars_at s (at + n)))) (1 + run is_word (chars_at s (at + n)))) (token (Identifier (part at end)) at end)
  unfolding run_end past
  word_lexes end e =
      let f = scalar_fits s at d in
      let k = run is_word (chars_at s (at + n)) in
      let w : past at (suc k) (chars_at s at) ≡ past (at + n) k (chars_at s (at + n)) = rw (codes-on s at d, (stands_at s at d).wide) in
      let r = rw w at (run_at s at (suc k) (omega arith)) in
      let t = (run_at s (at + n) k f.1).forth in
      let q : 1 + k - 1 ≡ k = omega arith in
      rw e (record {
        tokens = ap₂ (λ (l : List ℕ) (m : Tokens ℕ). T.token (T.name l) at m) (rw (codes-on s at d) at (sym r.part)) (rw q (tokens-at s (at + n) k f.1));
        placed = (omega arith, omega arith, r.inside, part_of r, (omega arith, omega arith));
      })

  pub mark_lexes : Lexes s at n (T.token (T.mark c) 1) (token (Punctuation c) at (at + n))
  unfolding tokens_at
  mark_lexes = let f = scalar_fits s at d in record { tokens = refl; placed = (omega arith, omega arith, f.1, tt, tt) }

  pub nothing_lexes : Lexes s at n (T.bad unexpected_character) (stopped UnexpectedCharacter at)
  nothing_lexes = record { tokens = refl; placed = tt }

  -- the token at a settled place
  pub reads : {p : Piece} {r : Result Token Stop} → Settled (chars_at s at) → solid c (chars_at s (at + n)) ≡ p → Lexes s at n p r → Reads s at r
  reads t e h =
      record { tokens = tokens-piece s at d ∙ rw (rw (codes-on s at d) at t, e) h.tokens; placed = h.placed }

  pub at_one : (x : ℕ) → x < 0x80 → c ≡ x → n ≡ 1
  at_one x h e = (stands_at s at d).wide ∙ ap width e ∙ ascii-wide x h

  pub reads_1 : {p : Piece} {r : Result Token Stop} (x : ℕ) → x < 0x80 → c ≡ x → Settled (chars_at s at) → solid x (chars_at s (at + 1)) ≡ p → Lexes s at 1 p r → Reads s at r
  reads_1 {p} {r} x h q t e l =
      let k = at_one x h q in reads {p = p} t (rw (q, k) e) (rw k l)

-- a token's first character
module _ (s : List ℕ) (c p : ℕ) where
  module _ (h : (c ≡ 0x22) ⊎ (c ≡ 0x27) → ⊥) (h₃ : c ≡ 0x40 → ⊥) where
    pub solid-set : opens_set s c p ≡ true → solid c (chars_at s p) ≡ set_of (is "!" c) (drop 1 (chars_at s p)) (body never 0x5D false (drop 1 (chars_at s p)))
    unfolding solid opens_set peek_at
    solid-set e = rw (ne_eqb c 0x22 (λ q. h (inl q)), ne_eqb c 0x27 (λ q. h (inr q)), ne_eqb c 0x40 h₃, e)

    module _ (h₄ : opens_set s c p ≡ false) where
      pub solid-mark : is_punctuation c ≡ true → solid c (chars_at s p) ≡ T.token (T.mark c) 1
      unfolding solid opens_set peek_at
      solid-mark e = rw (ne_eqb c 0x22 (λ q. h (inl q)), ne_eqb c 0x27 (λ q. h (inr q)), ne_eqb c 0x40 h₃, h₄, e)

      pub solid-word : is_punctuation c ≡ false → is_word c ≡ true
          → solid c (chars_at s p) ≡ T.token (T.name (c ∷ take (run is_word (chars_at s p)) (chars_at s p))) (1 + run is_word (chars_at s p))
      unfolding solid opens_set peek_at
      solid-word e w = rw (ne_eqb c 0x22 (λ q. h (inl q)), ne_eqb c 0x27 (λ q. h (inr q)), ne_eqb c 0x40 h₃, h₄, e, w)

      pub solid-none : is_punctuation c ≡ false → is_word c ≡ false → solid c (chars_at s p) ≡ T.bad unexpected_character
      unfolding solid opens_set peek_at
      solid-none e w = rw (ne_eqb c 0x22 (λ q. h (inl q)), ne_eqb c 0x27 (λ q. h (inr q)), ne_eqb c 0x40 h₃, h₄, e, w)

pub solid_quote : (q : ℕ) (cs : List ℕ) → among (letters "\"'") q ≡ true → solid q cs ≡ string_of cs (body is_line_terminator q false cs)
unfolding solid
solid_quote q cs e = rw e

pub solid-at : (cs : List ℕ) → solid 0x40 cs ≡ at_of cs (run is_word cs)
unfolding solid
solid-at cs = refl

pub set-ascii : (s : List ℕ) (c next : ℕ) → opens_set s c next ≡ true → c < 0x80
unfolding opens_set
set-ascii s c next e = elim (dec_lt c 0x80) [ yes l ↦ l | no l ↦ out l ]
  where
    out : (c < 0x80 → ⊥) → c < 0x80
    out l =
        let e₁ = ne_eqb c 0x24 (λ q. l (omega arith)) in
        let e₂ = ne_eqb c 0x21 (λ q. l (omega arith)) in
        let z = simp (e₁, e₂) at e in
        impossible (cc)

pub peek_set : (s : List ℕ) (c next : ℕ) → opens_set s c next ≡ true → Next s next 0x5B
unfolding opens_set
peek_set s c next e = next-head s next 0x5B (omega arith) (omega arith) (eqb-true (peek_at s next) 0x5B (both_true (among (letters "$!") c) (is "[" (peek_at s next)) e).1)

-- the end of a text
pub reads_end : (s : List ℕ) (at : ℕ) → decode_at s at ≡ None → Reads s at (Ok (Eof at))
unfolding tokens_at tokens_from
reads_end s at e = record { tokens = rw (codes_off s at e); placed = tt }
