-- How the definitions of specs/Tokens go on at a place of a text.
-- Assumes nothing.
use mathlib.Core.Path.{◌≡◌, refl, sym, ◌∙◌, ap, subst}
use mathlib.Core.Bool.{Bool, true, false, ◌&&◌, not, and-false}
use mathlib.Core.List.{List, [], ◌∷◌}
use mathlib.Core.Option.{Option, none, some}
use Prim.Native.Nat.{ℕ, zero, suc, ◌+◌, ◌-◌, ◌≤◌, ◌<◌}
use native.Mathlib.Omega.{arith}
use lib.Dec.{eqb}
use lib.ListN.{length, drop}
use borrow.Author.Tests.{eq-eqb, ne_eqb}
use Rattle.std.proofs.Common.{Some, None}
use Rattle.characters.specs.Places.{decode_at, past, chars_at, peek_at, run}
use Rattle.characters.specs.Utf8.{width}
use Rattle.characters.specs.Promise.{Next, run_end}
use Rattle.characters.proofs.Chars.{codes-on, codes_off, stands_at, run_at, next_of, peek_on, next-head}
use Rattle.characters.proofs.Encode.{ascii-wide}
use Rattle.error.specs.Causes.{unexpected_character}
use Rattle.basics.specs.Basics.{is, head}
use Rattle.characters.specs.Classes.{is_whitespace, white_space, is_ecmascript_whitespace, is_line_terminator}
use Rattle.characters.specs.Spans.{in_spans}
use Rattle.lexer.specs.Tokens.{more, comment, body, comment_of, piece, Tokens, lay, tokens_from}
use Rattle.lexer.specs.Promise.{tokens_at, found_at, end_of, Settled}
use Rattle.lexer.specs.Tokens as T

-- each definition at a first character
module _ (c : ℕ) (cs : List ℕ) where
  pub comment_yes : is "*" c ≡ true → is "/" (head cs) ≡ true → comment (c ∷ cs) ≡ some 0
  unfolding comment
  comment_yes w v = rw (w, v, comment)

  pub comment_no : (is "*" c && is "/" (head cs)) ≡ false → comment (c ∷ cs) ≡ more (comment cs)
  unfolding comment
  comment_no w = rw (w, comment)

  module _ (stop : ℕ → Bool) (q : ℕ) where
    pub body_end : eqb c q ≡ true → body stop q false (c ∷ cs) ≡ some 0
    unfolding body
    body_end w = rw (w, body)

    pub body-on : (x : Bool) → eqb c q ≡ false → is "\\" c ≡ x → body stop q false (c ∷ cs) ≡ more (body stop q x cs)
    unfolding body
    body-on x w v = rw (w, v, body)

    pub escaped-end : stop c ≡ true → body stop q true (c ∷ cs) ≡ none
    unfolding body
    escaped-end w = rw (w, body)

    pub escaped-on : stop c ≡ false → body stop q true (c ∷ cs) ≡ more (body stop q false cs)
    unfolding body
    escaped-on w = rw (w, body)

-- the tokens after k characters
pub tokens-skip : (cs : List ℕ) (k p : ℕ) → tokens_from cs k p ≡ tokens_from (drop k cs) 0 (past p k cs)
unfolding tokens_from past
tokens-skip [] zero p = refl
tokens-skip [] (suc k) p = refl
tokens-skip (c ∷ cs) zero p = refl
tokens-skip (c ∷ cs) (suc k) p = tokens-skip cs k (p + width c)

pub tokens-at : (s : List ℕ) (at k : ℕ) → at ≤ length s → tokens_from (chars_at s at) k at ≡ tokens_at s (past at k (chars_at s at))
unfolding tokens_at
tokens-at s at k h = tokens-skip (chars_at s at) k at ∙ rw (run_at s at k h).rest

tokens-one : (c : ℕ) (cs : List ℕ) (k p : ℕ) → tokens_from (c ∷ cs) (suc k) p ≡ tokens_from cs k (p + width c)
unfolding tokens_from
tokens-one c cs k p = refl

pub tokens-next : (s : List ℕ) (at k c : ℕ) → Next s at c → c < 0x80 → tokens_from (chars_at s at) (suc k) at ≡ tokens_from (chars_at s (at + 1)) k (at + 1)
tokens-next s at k c n h = rw n.chars (tokens-one c (chars_at s (at + 1)) k at ∙ ap (λ (w : ℕ). tokens_from (chars_at s (at + 1)) k (at + w)) (ascii-wide c h))

-- a text that begins with a character, by its piece
pub tokens-piece : (s : List ℕ) (at : ℕ) {c n : ℕ} → decode_at s at ≡ Some (c, n)
    → tokens_at s at ≡ lay (piece c (chars_at s (at + n))) at (λ k. tokens_from (chars_at s (at + n)) k (at + n))
unfolding tokens_at tokens_from
tokens-piece s at e = rw (codes-on s at e, (stands_at s at e).wide)

piece-next : (s : List ℕ) (at c : ℕ) → Next s at c → c < 0x80
    → tokens_at s at ≡ lay (piece c (chars_at s (at + 1))) at (λ k. tokens_from (chars_at s (at + 1)) k (at + 1))
unfolding tokens_at tokens_from
piece-next s at c n h = rw (n.chars, ascii-wide c h)

abbrev pub not_terminator : ℕ → Bool
not_terminator d = not (is_line_terminator d)

-- the tokens after a comment that started at a place, of which k characters are left before its end
abbrev pub close_at : List ℕ → ℕ → ℕ → List ℕ → Option ℕ → Tokens ℕ
close_at s start at cs none = T.bad unexpected_character start
close_at s start at cs (some k) = tokens_at s (past at (suc (suc k)) cs)

abbrev pub closed : List ℕ → ℕ → ℕ → Tokens ℕ
closed s start at = close_at s start at (chars_at s at) (comment (chars_at s at))

close_more : (s : List ℕ) (start at c : ℕ) (cs : List ℕ) (o : Option ℕ) → close_at s start at (c ∷ cs) (more o) ≡ close_at s start (at + width c) cs o
unfolding past
close_more s start at c cs none = refl
close_more s start at c cs (some k) = refl

module _ (s : List ℕ) (at : ℕ) where
  pub space-on : {c n : ℕ} → decode_at s at ≡ Some (c, n) → is_ecmascript_whitespace c ≡ true → tokens_at s at ≡ tokens_at s (at + n)
  unfolding piece tokens_at
  space-on e w = tokens-piece s at e ∙ rw w

  slash_slash : piece 0x2F (0x2F ∷ chars_at s (at + 1 + 1)) ≡ T.blank (2 + run not_terminator (chars_at s (at + 1 + 1)))
  unfolding piece is_ecmascript_whitespace is_whitespace white_space in_spans
  slash_slash = refl

  slash_star : piece 0x2F (0x2A ∷ chars_at s (at + 1 + 1)) ≡ comment_of (comment (chars_at s (at + 1 + 1)))
  unfolding piece is_ecmascript_whitespace is_whitespace white_space in_spans
  slash_star = refl

  pub line-start : Next s at 0x2F → Next s (at + 1) 0x2F → tokens_at s at ≡ tokens_at s (run_end not_terminator s (at + 2))
  unfolding run_end
  line-start m n =
      let k = run not_terminator (chars_at s (at + 1 + 1)) in
      let e : 2 + k - 1 ≡ suc k = omega arith in
      let f : at + 1 + 1 ≡ at + 2 = omega arith in
      let i = n.inside in
      piece-next s at 0x2F m (omega arith) ∙ rw (n.chars, slash_slash, e, ← n.chars)
      (tokens-next s (at + 1) k 0x2F n (omega arith) ∙ tokens-at s (at + 1 + 1) k (omega arith) ∙ rw f)

  pub block_start : Next s at 0x2F → Next s (at + 1) 0x2A → tokens_at s at ≡ closed s at (at + 2)
  block_start m n =
      let f : at + 1 + 1 ≡ at + 2 = omega arith in
      piece-next s at 0x2F m (omega arith) ∙ rw (n.chars, slash_star, ← n.chars)
      (go (comment (chars_at s (at + 1 + 1))) ∙ ap (λ (p : ℕ). closed s at p) f)
    where
      go : (o : Option ℕ) → lay (comment_of o) at (λ k. tokens_from (chars_at s (at + 1)) k (at + 1)) ≡ close_at s at (at + 1 + 1) (chars_at s (at + 1 + 1)) o
      go none = refl
      go (some k) =
          let e : 2 + k + 2 - 1 ≡ suc (suc (suc k)) = omega arith in
          let i = n.inside in
          rw e (tokens-next s (at + 1) (suc (suc k)) 0x2A n (omega arith) ∙ tokens-at s (at + 1 + 1) (suc (suc k)) (omega arith))

  pub block_on : (start : ℕ) {c n : ℕ} → decode_at s at ≡ Some (c, n) → (is "*" c && is "/" (head (chars_at s (at + n)))) ≡ false
      → closed s start at ≡ closed s start (at + n)
  block_on start {c} {n} e w =
      rw (codes-on s at e, comment_no c (chars_at s (at + n)) w) (close_more s start at c (chars_at s (at + n)) (comment (chars_at s (at + n)))
      ∙ ap (λ (w : ℕ). close_at s start (at + w) (chars_at s (at + n)) (comment (chars_at s (at + n)))) (sym (stands_at s at e).wide))

  pub block-end : (start : ℕ) → decode_at s at ≡ None → closed s start at ≡ T.bad unexpected_character start
  unfolding comment
  block-end start e = rw (codes_off s at e)

  pub block-close : (start : ℕ) → Next s at 0x2A → Next s (at + 1) 0x2F → closed s start at ≡ tokens_at s (at + 1 + 1)
  unfolding past
  block-close start m n =
      rw (m.chars, n.chars, comment_yes 0x2A (0x2F ∷ chars_at s (at + 1 + 1)) refl refl, ascii-wide 0x2A (omega arith), ascii-wide 0x2F (omega arith))

  pub block-other : (start : ℕ) {c n : ℕ} → decode_at s at ≡ Some (c, n) → (c ≡ 0x2A → ⊥) → closed s start at ≡ closed s start (at + n)
  block-other start e w = block_on start e (rw (ne_eqb _ 0x2A w))

  pub block_star : (start : ℕ) {c n : ℕ} → decode_at s at ≡ Some (c, n) → (peek_at s (at + n) ≡ 0x2F → ⊥) → closed s start at ≡ closed s start (at + n)
  unfolding peek_at
  block_star start {c} e w = block_on start e (rw (ne_eqb _ 0x2F w) (and-false (is "*" c)))

  pub shut_inside : peek_at s at ≡ 0x2F → at + 1 ≤ length s
  shut_inside v = (next-head s at 0x2F (omega arith) (omega arith) v).inside

  pub block_shut : (start : ℕ) {c n : ℕ} → decode_at s at ≡ Some (c, n) → c ≡ 0x2A → peek_at s (at + n) ≡ 0x2F → closed s start at ≡ tokens_at s (at + n + 1)
  block_shut start {c} {n} e w v =
      let k : n ≡ 1 = (stands_at s at e).wide ∙ ap width w ∙ ascii-wide 0x2A (omega arith) in
      let m = subst (Next s at) w (next_of s at e (omega arith)) in
      rw k (block-close start m (next-head s (at + 1) 0x2F (omega arith) (omega arith) (rw k at v)))

  settled : {c n : ℕ} → decode_at s at ≡ Some (c, n) → is_ecmascript_whitespace c ≡ false → (is "/" c && is "/" (head (chars_at s (at + n)))) ≡ false
      → (is "/" c && is "*" (head (chars_at s (at + n)))) ≡ false → Settled (chars_at s at)
  unfolding piece
  settled e w u v = rw (codes-on s at e) (rw (w, u, v))

  pub settled-other : {c n : ℕ} → decode_at s at ≡ Some (c, n) → is_ecmascript_whitespace c ≡ false → (peek_at s at ≡ 0x2F → ⊥) → Settled (chars_at s at)
  settled-other {c} e w u = let f = ne_eqb c 0x2F (λ q. u (peek_on s at e ∙ q)) in settled e w (rw f) (rw f)

  pub settled_slash : {c n : ℕ} → decode_at s at ≡ Some (c, n) → is_ecmascript_whitespace c ≡ false → peek_at s at ≡ 0x2F
      → (peek_at s (at + 1) ≡ 0x2F → ⊥) → (peek_at s (at + 1) ≡ 0x2A → ⊥) → Settled (chars_at s at)
  unfolding peek_at
  settled_slash {c} {n} e w h u v =
      let q : c ≡ 0x2F = sym (peek_on s at e) ∙ h in
      let k : n ≡ 1 = (stands_at s at e).wide ∙ ap width q ∙ ascii-wide 0x2F (omega arith) in
      settled e w (rw (k, ne_eqb _ 0x2F u) (and-false (is "/" c))) (rw (k, ne_eqb _ 0x2A v) (and-false (is "/" c)))

  pub settled-ill : decode_at s at ≡ None → Settled (chars_at s at)
  settled-ill e = rw (codes_off s at e) tt

-- the end of a string or a set
found-more : (at c : ℕ) (cs : List ℕ) (o : Option ℕ) → found_at at (c ∷ cs) (more o) ≡ found_at (at + width c) cs o
unfolding past
found-more at c cs none = refl
found-more at c cs (some k) = refl

module _ (stop : ℕ → Bool) (q : ℕ) (s : List ℕ) (at : ℕ) where
  pub end-ill : (x : Bool) → decode_at s at ≡ None → end_of stop q s at x ≡ None
  unfolding body
  end-ill true e = rw (codes_off s at e)
  end-ill false e = rw (codes_off s at e)

  pub end-found : {c n : ℕ} → decode_at s at ≡ Some (c, n) → c ≡ q → end_of stop q s at false ≡ Some (at, at + n)
  unfolding past
  end-found {c} {n} e w = rw (codes-on s at e, body_end c (chars_at s (at + n)) stop q (eq-eqb c q w), (stands_at s at e).wide)

  end_step : (x y : Bool) {c n : ℕ} → decode_at s at ≡ Some (c, n) → body stop q x (c ∷ chars_at s (at + n)) ≡ more (body stop q y (chars_at s (at + n)))
      → end_of stop q s at x ≡ end_of stop q s (at + n) y
  end_step x y {c} {n} e w =
      rw (codes-on s at e, w) (found-more at c (chars_at s (at + n)) (body stop q y (chars_at s (at + n)))
      ∙ ap (λ (m : ℕ). found_at (at + m) (chars_at s (at + n)) (body stop q y (chars_at s (at + n)))) (sym (stands_at s at e).wide))

  pub end_on : {c n : ℕ} → decode_at s at ≡ Some (c, n) → (c ≡ q → ⊥) → (c ≡ 0x5C → ⊥) → end_of stop q s at false ≡ end_of stop q s (at + n) false
  end_on {c} {n} e w v = end_step false false e (body-on c (chars_at s (at + n)) stop q false (ne_eqb c q w) (ne_eqb c 0x5C v))

  pub end-escape : {c n : ℕ} → decode_at s at ≡ Some (c, n) → (c ≡ q → ⊥) → c ≡ 0x5C → end_of stop q s at false ≡ end_of stop q s (at + n) true
  end-escape {c} {n} e w v = end_step false true e (body-on c (chars_at s (at + n)) stop q true (ne_eqb c q w) (eq-eqb c 0x5C v))

  pub end-escaped : {c n : ℕ} → decode_at s at ≡ Some (c, n) → stop c ≡ false → end_of stop q s at true ≡ end_of stop q s (at + n) false
  end-escaped {c} {n} e w = end_step true false e (escaped-on c (chars_at s (at + n)) stop q w)

  pub end_stop : {c n : ℕ} → decode_at s at ≡ Some (c, n) → stop c ≡ true → end_of stop q s at true ≡ None
  end_stop {c} {n} e w = rw (codes-on s at e, escaped-end c (chars_at s (at + n)) stop q w)
