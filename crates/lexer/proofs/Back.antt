-- A token that is written out, with white space after it, is read back.
-- Assumes nothing.
use mathlib.Core.Path.{◌≡◌, refl, sym, ◌∙◌, ap, subst}
use mathlib.Core.Bool.{Bool, true, false, ◌&&◌, not, and-false}
use mathlib.Core.List.{List, [], ◌∷◌, ◌++◌, append_assoc}
use mathlib.Core.Option.{some}
use Prim.Native.Nat.{ℕ, zero, suc, ◌+◌, ◌-◌, ◌≤◌, ◌<◌}
use native.Mathlib.Omega.{arith}
use native.Mathlib.Decide.{dec_lt}
use lib.Dec.{eqb, leb, ltb}
use lib.ListN.{length, take, length-append}
use lib.Seq.{take-append_seam, drop-append_seam}
use borrow.Author.Tests.{eq-eqb, ne_eqb, eqb-true, not-true, leb-true, ltb-true}
use Rattle.basics.specs.Basics.{letters, is, among, every}
use Rattle.basics.proofs.Tests.{cases, both_true, impossible}
use Rattle.characters.specs.Utf8.{width}
use Rattle.characters.specs.Places.{past, run}
use Rattle.characters.specs.Spans.{Span, in_span, in_spans}
use Rattle.characters.specs.Alphabetic.{is_alphabetic, spans}
use Rattle.characters.specs.Classes.{white_space, is_whitespace, is_ecmascript_whitespace, is_line_terminator, is_punctuation, is_word}
use Rattle.characters.proofs.Runs.{run_yes, run_no}
use Rattle.lexer.specs.Tokens.{Kind, string, at, set, name, mark, more, body, never, string_of, set_of, at_of, solid, piece, Tokens, tokens_from}
use Rattle.lexer.specs.Tokens as T
use Rattle.lexer.proofs.Tokens.{body_end, body-on, escaped-on, tokens-skip}

-- ------------------------------------------------------------------ a word character is nothing else

-- no code of a list is a word character
no_word : List ℕ → Bool
no_word [] = true
no_word (c ∷ cs) = not (is_word c) && no_word cs

codes_up : ℕ → ℕ → List ℕ
codes_up a zero = []
codes_up a (suc n) = a ∷ codes_up (suc a) n

-- nor one of spans
no_words_in : List Span → Bool
no_words_in [] = true
no_words_in (s ∷ ss) = no_word (codes_up s.first (s.past - s.first)) && no_words_in ss

differ : (f : ℕ → Bool) {x y : ℕ} → f x ≡ true → f y ≡ false → x ≡ y → ⊥
differ f {x} {y} e g q = let z = sym (subst (λ (n : ℕ). f n ≡ true) q e) ∙ g in impossible (cc)

module _ (c : ℕ) (w : is_word c ≡ true) where
  word_not : (x : ℕ) → is_word x ≡ false → eqb c x ≡ false
  word_not x e = ne_eqb c x (differ is_word w e)

  not_among : (l : List ℕ) → no_word l ≡ true → among l c ≡ false
  unfolding no_word
  not_among [] h = refl
  not_among (x ∷ l) h = let p = both_true (not (is_word x)) (no_word l) h in rw (word_not x (not-true (is_word x) p.0), not_among l p.1)

  among_up : (n a : ℕ) → a ≤ c → c < a + n → among (codes_up a n) c ≡ true
  unfolding codes_up
  among_up zero a h g = absurd (omega arith)
  among_up (suc n) a h g =
      cases (eqb c a) (λ e. rw e) (λ e. rw e (among_up n (suc a) (lower e) (omega arith)))
    where
      lower : eqb c a ≡ false → suc a ≤ c
      lower e = elim (dec_lt a c) [ yes l ↦ l | no l ↦ (let q = sym (eq-eqb c a (omega arith)) ∙ e in impossible (cc)) ]

  not_span : (s : Span) → no_word (codes_up s.first (s.past - s.first)) ≡ true → in_span s c ≡ false
  not_span s h =
      cases (in_span s c)
      (λ e. let p = both_true (leb s.first c) (ltb c s.past) e in
      let l = leb-true s.first c p.0 in
      let m = ltb-true c s.past p.1 in
      let a = among_up (s.past - s.first) s.first l (omega arith) in
      let b = not_among (codes_up s.first (s.past - s.first)) h in
      impossible (cc))
      (λ e. e)

  not_spans : (ss : List Span) → no_words_in ss ≡ true → in_spans ss c ≡ false
  unfolding no_words_in in_spans
  not_spans [] h = refl
  not_spans (s ∷ ss) h =
      let p = both_true (no_word (codes_up s.first (s.past - s.first))) (no_words_in ss) h in rw (not_span s p.0, not_spans ss p.1)

-- white space and punctuation have no word characters
space-words : no_words_in white_space ≡ true
unfolding no_words_in no_word codes_up white_space is_word is_alphabetic in_spans spans
space-words = refl

quote_words : no_word (letters "\"'") ≡ true
unfolding no_word is_word is_alphabetic in_spans spans
quote_words = refl

opening-words : no_word (letters "$!") ≡ true
unfolding no_word is_word is_alphabetic in_spans spans
opening-words = refl

mark-words : no_word (letters "[]()!~+*?{}<>.,|:$=") ≡ true
unfolding no_word is_word is_alphabetic in_spans spans
mark-words = refl

slash_word : is_word 0x2F ≡ false
unfolding is_word is_alphabetic in_spans spans
slash_word = refl

at-word : is_word 0x40 ≡ false
unfolding is_word is_alphabetic in_spans spans
at-word = refl

order-word : is_word 0xFEFF ≡ false
unfolding is_word is_alphabetic in_spans spans
order-word = refl

module _ (c : ℕ) (w : is_word c ≡ true) where
  word-space : is_ecmascript_whitespace c ≡ false
  unfolding is_ecmascript_whitespace is_whitespace
  word-space = rw (not_spans c w white_space space-words, word_not c w 0xFEFF order-word)

  word-mark : is_punctuation c ≡ false
  unfolding is_punctuation
  word-mark = not_among c w (letters "[]()!~+*?{}<>.,|:$=") mark-words

  -- so it begins a name
  word_piece : (cs : List ℕ) → piece c cs ≡ T.token (name (c ∷ take (run is_word cs) cs)) (1 + run is_word cs)
  unfolding piece solid
  word_piece cs =
      rw (
        word-space,
        word_not c w 0x2F slash_word,
        not_among c w (letters "\"'") quote_words,
        word_not c w 0x40 at-word,
        not_among c w (letters "$!") opening-words,
        word-mark,
        w,
      )

-- white space is no word character
pub space-word : (d : ℕ) → is_ecmascript_whitespace d ≡ true → is_word d ≡ false
space-word d h =
    cases (is_word d) (λ e. let q = sym h ∙ word-space d e in impossible (cc)) (λ e. e)

-- ------------------------------------------------------------------ what a token is written as

-- a text of word characters
pub data Words : List ℕ → Type 0 where
  no_more : Words []
  one_more : {c : ℕ} {cs : List ℕ} → is_word c ≡ true → Words cs → Words (c ∷ cs)

-- a text in which no end mark q stands, but after a backslash, and none that stops the body after one
pub data Body (stops : ℕ → Bool) (q : ℕ) : List ℕ → Type 0 where
  b-none : Body stops q []
  b-plain : {c : ℕ} {cs : List ℕ} → eqb c q ≡ false → eqb c 0x5C ≡ false → Body stops q cs → Body stops q (c ∷ cs)
  b-escaped : {c : ℕ} {cs : List ℕ} → stops c ≡ false → Body stops q cs → Body stops q (0x5C ∷ c ∷ cs)

-- a kind of token, by its text
pub data Written : Kind → List ℕ → Type 0 where
  a-name : {c : ℕ} {cs : List ℕ} → is_word c ≡ true → Words cs → Written (name (c ∷ cs)) (c ∷ cs)
  an_at : {c : ℕ} {cs : List ℕ} → is_word c ≡ true → Words cs → Written (at (c ∷ cs)) (0x40 ∷ c ∷ cs)
  a-string : {t : List ℕ} → Body is_line_terminator 0x22 t → Written (string t) (0x22 ∷ t ++ 0x22 ∷ [])
  a-set : {t : List ℕ} → Body never 0x5D t → Written (set false t) (0x24 ∷ 0x5B ∷ t ++ 0x5D ∷ [])
  a_not_set : {t : List ℕ} → Body never 0x5D t → Written (set true t) (0x21 ∷ 0x5B ∷ t ++ 0x5D ∷ [])
  a-mark : {c : ℕ} → is_punctuation c ≡ true → Written (mark c) (c ∷ [])

run-words : {ws : List ℕ} → Words ws → (d : ℕ) (rest : List ℕ) → is_word d ≡ false → run is_word (ws ++ d ∷ rest) ≡ length ws
run-words no_more d rest h = run_no is_word d rest h
run-words (one_more {c = c} {cs = cs} w ws) d rest h = run_yes is_word c (cs ++ d ∷ rest) w ∙ ap suc (run-words ws d rest h)

body_back : (stops : ℕ → Bool) (q : ℕ) {t : List ℕ} → eqb 0x5C q ≡ false → Body stops q t → (rest : List ℕ)
    → body stops q false (t ++ q ∷ rest) ≡ some (length t)
body_back stops q o b-none rest = body_end q rest stops q (eq-eqb q q refl)
body_back stops q o (b-plain {c = c} {cs = cs} e f b) rest = body-on c (cs ++ q ∷ rest) stops q false e f ∙ ap more (body_back stops q o b rest)
body_back stops q o (b-escaped {c = c} {cs = cs} s b) rest =
    body-on 0x5C (c ∷ cs ++ q ∷ rest) stops q true o refl ∙ ap more (escaped-on c (cs ++ q ∷ rest) stops q s ∙ ap more (body_back stops q o b rest))

-- ------------------------------------------------------------------ what such a text begins with

at_piece : (x : List ℕ) → piece 0x40 x ≡ at_of x (run is_word x)
unfolding piece solid is_ecmascript_whitespace is_whitespace white_space in_spans
at_piece x = refl

string-piece : (x : List ℕ) → piece 0x22 x ≡ string_of x (body is_line_terminator 0x22 false x)
unfolding piece solid is_ecmascript_whitespace is_whitespace white_space in_spans
string-piece x = refl

set-piece : (x : List ℕ) → piece 0x24 (0x5B ∷ x) ≡ set_of false x (body never 0x5D false x)
unfolding piece solid is_ecmascript_whitespace is_whitespace white_space in_spans
set-piece x = refl

not_set-piece : (x : List ℕ) → piece 0x21 (0x5B ∷ x) ≡ set_of true x (body never 0x5D false x)
unfolding piece solid is_ecmascript_whitespace is_whitespace white_space in_spans
not_set-piece x = refl

-- punctuation begins no comment, no string and no keyword
plain : ℕ → Bool
plain c = not (is_ecmascript_whitespace c) && (not (is "/" c) && (not (among (letters "\"'") c) && not (is "@" c)))

all_plain : every plain (letters "[]()!~+*?{}<>.,|:$=") ≡ true
unfolding plain every is_ecmascript_whitespace is_whitespace white_space in_spans
all_plain = refl

plain-among : (l : List ℕ) (c : ℕ) → every plain l ≡ true → among l c ≡ true → plain c ≡ true
unfolding every
plain-among [] c h e = cc
plain-among (x ∷ l) c h e =
    let p = both_true (plain x) (every plain l) h in
    cases (eqb c x) (λ q. subst (λ (z : ℕ). plain z ≡ true) (sym (eqb-true c x q)) p.0) (λ q. plain-among l c p.1 (rw q at e))

mark-piece : (c d : ℕ) (rest : List ℕ) → is_punctuation c ≡ true → eqb d 0x5B ≡ false → piece c (d ∷ rest) ≡ T.token (mark c) 1
unfolding piece solid plain is_punctuation
mark-piece c d rest e f =
    let p₁ = both_true (not (is_ecmascript_whitespace c)) _ (plain-among (letters "[]()!~+*?{}<>.,|:$=") c all_plain e) in
    let p₂ = both_true (not (is "/" c)) _ p₁.1 in
    let p₃ = both_true (not (among (letters "\"'") c)) _ p₂.1 in
    rw (
      not-true (is_ecmascript_whitespace c) p₁.0,
      not-true (is "/" c) p₂.0,
      not-true (among (letters "\"'") c) p₃.0,
      not-true (is "@" c) p₃.1,
      f,
      and-false (among (letters "$!") c),
      e,
    )

open_space : is_ecmascript_whitespace 0x5B ≡ false
unfolding is_ecmascript_whitespace is_whitespace white_space in_spans
open_space = refl

-- ------------------------------------------------------------------ read back

token-at : (k : Kind) (c : ℕ) (x : List ℕ) (n p : ℕ) → piece c x ≡ T.token k (1 + n) → tokens_from (c ∷ x) 0 p ≡ T.token k p (tokens_from x n (p + width c))
unfolding tokens_from
token-at k c x n p e = let q : 1 + n - 1 ≡ n = omega arith in rw (e, q)

pub space-at : (d : ℕ) (rest : List ℕ) (p : ℕ) → is_ecmascript_whitespace d ≡ true → tokens_from (d ∷ rest) 0 p ≡ tokens_from rest 0 (p + width d)
unfolding tokens_from piece
space-at d rest p h = rw h

-- white space d follows
module _ (d : ℕ) (rest : List ℕ) (h : is_ecmascript_whitespace d ≡ true) where
  set_back : (x : Bool) (t : List ℕ) → Body never 0x5D t
      → set_of x ((t ++ 0x5D ∷ []) ++ d ∷ rest) (body never 0x5D false ((t ++ 0x5D ∷ []) ++ d ∷ rest)) ≡ T.token (set x t) (1 + suc (length (t ++ 0x5D ∷ [])))
  set_back x t b =
      let q : 2 + length t + 1 ≡ 1 + suc (length (t ++ 0x5D ∷ [])) = rw (length-append t (0x5D ∷ [])) (omega arith) in
      rw (append_assoc t (0x5D ∷ []) (d ∷ rest), body_back never 0x5D refl b (d ∷ rest), take-append_seam t (0x5D ∷ d ∷ rest), q)

  piece_back : {k : Kind} {c : ℕ} {cs : List ℕ} → Written k (c ∷ cs) → piece c (cs ++ d ∷ rest) ≡ T.token k (1 + length cs)
  piece_back (a-name {c = c} {cs = cs} w ws) =
      word_piece c w (cs ++ d ∷ rest) ∙ rw (run-words ws d rest (space-word d h), take-append_seam cs (d ∷ rest))
  piece_back (an_at {c = c} {cs = cs} w ws) =
      at_piece (c ∷ cs ++ d ∷ rest) ∙ rw (run-words (one_more w ws) d rest (space-word d h), take-append_seam cs (d ∷ rest))
  piece_back (a-string {t = t} b) =
      let q : 1 + length t + 1 ≡ 1 + length (t ++ 0x22 ∷ []) = rw (length-append t (0x22 ∷ [])) (omega arith) in
      string-piece ((t ++ 0x22 ∷ []) ++ d ∷ rest)
      ∙ rw (append_assoc t (0x22 ∷ []) (d ∷ rest), body_back is_line_terminator 0x22 refl b (d ∷ rest), take-append_seam t (0x22 ∷ d ∷ rest), q)
  piece_back (a-set {t = t} b) = set-piece ((t ++ 0x5D ∷ []) ++ d ∷ rest) ∙ set_back false t b
  piece_back (a_not_set {t = t} b) = not_set-piece ((t ++ 0x5D ∷ []) ++ d ∷ rest) ∙ set_back true t b
  piece_back (a-mark {c = c} m) = mark-piece c d rest m (ne_eqb d 0x5B (differ is_ecmascript_whitespace h open_space))

  -- the token, and then what comes after the white space
  pub read_back : (k : Kind) (c : ℕ) (cs : List ℕ) (p : ℕ) → Written k (c ∷ cs)
      → tokens_from (c ∷ cs ++ d ∷ rest) 0 p ≡ T.token k p (tokens_from rest 0 (past (p + width c) (length cs) (cs ++ d ∷ rest) + width d))
  read_back k c cs p w =
      token-at k c (cs ++ d ∷ rest) (length cs) p (piece_back w)
      ∙ ap (T.token k p) (tokens-skip (cs ++ d ∷ rest) (length cs) (p + width c) ∙ rw (drop-append_seam cs (d ∷ rest)) (space-at d rest _ h))

-- a text of tokens, each with white space after it
pub data Laid : List Kind → List ℕ → Type 0 where
  laid_none : Laid [] []
  laid_more : {k : Kind} {c : ℕ} {cs : List ℕ} (d : ℕ) {ks : List Kind} {l : List ℕ}
      → Written k (c ∷ cs) → is_ecmascript_whitespace d ≡ true → Laid ks l → Laid (k ∷ ks) (c ∷ cs ++ d ∷ l)

-- tokens of these kinds, and then the end
pub data Reads : List Kind → Tokens ℕ → Type 0 where
  reads_none : {p : ℕ} → Reads [] (T.eof p)
  reads_more : {k : Kind} {p : ℕ} {ks : List Kind} {t : Tokens ℕ} → Reads ks t → Reads (k ∷ ks) (T.token k p t)

pub lex_back : {ks : List Kind} {l : List ℕ} → Laid ks l → (p : ℕ) → Reads ks (tokens_from l 0 p)
unfolding tokens_from
lex_back laid_none p = reads_none
lex_back (laid_more {k = k} {c = c} {cs = cs} d {ks = ks} {l = l} w h t) p = rw (read_back d l h k c cs p w) (reads_more (lex_back t _))
