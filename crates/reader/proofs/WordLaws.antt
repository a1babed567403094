-- What is read, and of which kind it is, by the word that it begins with.
-- Assumes nothing.
use Prim.Native.Nat.{ℕ}
use native.Mathlib.Omega.{arith}
use mathlib.Core.Path.{◌≡◌, refl, ◌∙◌}
use mathlib.Core.Bool.{Bool, true, false}
use mathlib.Core.List.{List}
use mathlib.Core.Option as M
use mathlib.Core.Option.{none, some}
use Rattle.std.specs.Prelude.{Option, Some, None}
use Rattle.basics.specs.Basics.{if◌then◌otherwise◌, spells}
use Rattle.error.specs.Causes.{unexpected_token, second_tokens, second_precedence}
use Rattle.lexer.specs.Tokens.{Tokens}
use Rattle.lexer.specs.Promise.{part_of}
use Rattle.lexer.specs.declared.Token.{Token}
use Rattle.lexer.specs.declared.Token.TheVariants.{Of, Eof}
use Rattle.lexer.specs.declared.Part.{Part}
use Rattle.tree.specs.Syntax.{LocalTokenDeclaration, Declaration}
use Rattle.tree.specs.Promise.{specialize_of}
use Rattle.notation.specs.Parser.{Answer, read, refused, Parser, ◌>>=◌, ◌>>◌, and_then, pure, choose, kind, refuse_here, unexpected, says, next, expect_name}
use Rattle.notation.specs.Members.{Member, declaration, detect_delim}
use Rattle.notation.specs.Declarations.{seen, declares, parse_tokens, parse_local_tokens, parse_context_declaration, parse_external_tokens, parse_external_specializer, parse_external_prop_source, parse_external_declaration, external_by, parse_precedence, parse_skip_declaration, parse_directive}
use Rattle.tokens.specs.Promise.{stream, start_in, name_of, text_in}
use Rattle.tokens.proofs.Stream.{start-of, name-of}
use Rattle.parser.specs.Shapes.{IsToken}
use Rattle.reader.specs.Directives.{past, top_at, local_at, prop_at, dialects_at}
use Rattle.reader.proofs.TopLaws.{past-then}
use Rattle.reader.specs.Ahead.{external_kind, plain_kind, keyword_kind}
use Rattle.reader.specs.Words.{directive_of, external_of}
use Rattle.reader.specs.declared.words.Directive.{Directive}
use Rattle.reader.specs.declared.words.Directive.TheVariants as D
use Rattle.reader.specs.declared.words.External.{External}
use Rattle.reader.specs.declared.words.External.TheVariants as E

-- a test chooses alike on both sides
chosen : {A B C : Type 0} (f : A → C) (g : B → C) (b : Bool) {x u : A} {y v : B} → f x ≡ g y → f u ≡ g v → f (if b then x otherwise u) ≡ g (if b then y otherwise v)
chosen f g true h k = h
chosen f g false h k = k

-- ------------------------------------------------------------------ directives

-- what is read of a directive that starts at p
abbrev pub by_directive : (start : ℕ) → List (Member ℕ) → Option Directive → Parser ℕ (Member ℕ)
by_directive p before (Some D.Top) = past (declares top_at)
by_directive p before (Some D.Tokens) = choose (seen 8 before) (refuse_here second_tokens) (parse_tokens >>= λ x. pure (declaration (Declaration.tokens x)))
by_directive p before (Some D.Local) = past (expect_name "tokens" >> (parse_local_tokens p >>= λ x. pure (declaration (Declaration.local_tokens x))))
by_directive p before (Some D.Context) = past (declares (parse_context_declaration p before))
by_directive p before (Some D.External) = past (parse_external_declaration p)
by_directive p before (Some D.Dialects) = past dialects_at
by_directive p before (Some D.Precedence) = choose (seen 20 before) (refuse_here second_precedence) (parse_precedence >>= λ x. pure (declaration (Declaration.precedences x)))
by_directive p before (Some D.DetectDelim) = past (pure detect_delim)
by_directive p before (Some D.Skip) = past (declares (parse_skip_declaration p before))
by_directive p before None = unexpected

directive-by : (p : ℕ) (before : List (Member ℕ)) (x : List ℕ) (ts : Tokens ℕ) → parse_directive p before x ts ≡ by_directive p before (directive_of (some x)) ts
unfolding parse_directive directive_of
directive-by p before x ts =
    let a : Parser ℕ (Member ℕ) → _ = λ m. m ts in
    let b : Option Directive → _ = λ d. by_directive p before d ts in
    chosen a b (spells "top" x) refl
    (chosen a b (spells "tokens" x) refl
    (chosen a b (spells "local" x) refl
    (chosen a b (spells "context" x) refl
    (chosen a b (spells "external" x) refl
    (chosen a b (spells "dialects" x) refl
    (chosen a b (spells "precedence" x) refl
    (chosen a b (spells "detectDelim" x) refl
    (chosen a b (spells "skip" x) refl refl))))))))

-- a match takes an answer apart
pub worded : {W : Type 0} {r : Option W} {w v : W} → r ≡ Some w → w ≡ v → r ≡ Some v
worded e f = e ∙ rw f

pub directive-is : (s : List ℕ) (a : Part) {r d : Option Directive} → r ≡ directive_of (text_in s (Some a)) → r ≡ d → (p : ℕ) (before : List (Member ℕ)) (ts : Tokens ℕ)
    → parse_directive p before (part_of s a) ts ≡ by_directive p before d ts
directive-is s a e f p before ts = directive-by p before (part_of s a) ts ∙ rw (← e, f)

-- `@local tokens`
local_then : (p : ℕ) (ts : Tokens ℕ) {B : Type 0} (f : LocalTokenDeclaration ℕ → Parser ℕ B) → past (expect_name "tokens" >> (parse_local_tokens p >>= f)) ts ≡ and_then (past (local_at p) ts) f
unfolding ◌>>=◌ and_then
local_then p ts {B} f = go (next ts)
  where
    behind : (a : Answer ℕ (Unit {0})) → and_then a (λ _. parse_local_tokens p >>= f) ≡ and_then (and_then a (λ _. parse_local_tokens p)) f
    behind (read x us) = refl
    behind (refused c q) = refl

    go : (a : Answer ℕ (Unit {0})) → and_then a (λ _. expect_name "tokens" >> (parse_local_tokens p >>= f)) ≡ and_then (and_then a (λ _. local_at p)) f
    go (read x us) = behind (expect_name "tokens" us)
    go (refused c q) = refl

module _ (p : ℕ) (x : List ℕ) (s : List ℕ) (t : Token) (before : List (Member ℕ)) where
  abbrev directive : Answer ℕ (Member ℕ)
  directive = parse_directive p before x (stream s t)

  -- what is read is that of a word
  abbrev By : Option Directive → Type 0
  By d = directive ≡ by_directive p before d (stream s t)

  pub directive-top : By (Some D.Top) → directive ≡ and_then (past top_at (stream s t)) (λ d. pure (declaration d))
  directive-top e = e ∙ past-then top_at (stream s t) _

  pub tokens-second : By (Some D.Tokens) → seen 8 before ≡ true → {q : ℕ} → q ≡ start_in t → directive ≡ refused second_tokens q
  unfolding choose refuse_here
  tokens-second e f q = e ∙ rw (f, choose, refuse_here, start-of s t, q)

  pub tokens-first : By (Some D.Tokens) → seen 8 before ≡ false → directive ≡ and_then (parse_tokens (stream s t)) (λ d. pure (declaration (Declaration.tokens d)))
  unfolding choose ◌>>=◌
  tokens-first e f = e ∙ rw (f, choose)

  pub directive_local : By (Some D.Local) → directive ≡ and_then (past (local_at p) (stream s t)) (λ d. pure (declaration (Declaration.local_tokens d)))
  directive_local e = e ∙ local_then p (stream s t) _

  pub precedence-second : By (Some D.Precedence) → seen 20 before ≡ true → {q : ℕ} → q ≡ start_in t → directive ≡ refused second_precedence q
  unfolding choose refuse_here
  precedence-second e f q = e ∙ rw (f, choose, refuse_here, start-of s t, q)

  pub precedence-first : By (Some D.Precedence) → seen 20 before ≡ false → directive ≡ and_then (parse_precedence (stream s t)) (λ y. pure (declaration (Declaration.precedences y)))
  unfolding choose ◌>>=◌
  precedence-first e f = e ∙ rw (f, choose)

  pub directive-other : By None → {q : ℕ} → q ≡ start_in t → directive ≡ refused unexpected_token q
  unfolding refuse_here
  directive-other e q = e ∙ rw (refuse_here, start-of s t, q)

-- its kind; `external` is what is known after that word, `plain` what is known without a word
abbrev pub directive_kind : (external plain : ℕ) → Option Directive → ℕ
directive_kind e n (Some D.Top) = 2
directive_kind e n (Some D.Tokens) = 8
directive_kind e n (Some D.Local) = 12
directive_kind e n (Some D.Context) = 14
directive_kind e n (Some D.External) = e
directive_kind e n (Some D.Dialects) = 24
directive_kind e n (Some D.Precedence) = 20
directive_kind e n (Some D.DetectDelim) = 1
directive_kind e n (Some D.Skip) = 0
directive_kind e n None = n

pub keyword-by : (e : ℕ) (t : M.Option (List ℕ)) → keyword_kind e t ≡ directive_kind e (plain_kind t) (directive_of t)
unfolding keyword_kind directive_of
keyword-by e none = refl
keyword-by e (some x) =
    let a : ℕ → ℕ = λ n. n in
    let b : Option Directive → ℕ = directive_kind e 0 in
    chosen a b (spells "top" x) refl
    (chosen a b (spells "tokens" x) refl
    (chosen a b (spells "local" x) refl
    (chosen a b (spells "context" x) refl
    (chosen a b (spells "external" x) refl
    (chosen a b (spells "dialects" x) refl
    (chosen a b (spells "precedence" x) refl
    (chosen a b (spells "detectDelim" x) refl (skip (spells "skip" x)))))))))
  where
    skip : (b : Bool) → 0 ≡ directive_kind e 0 (if b then Some D.Skip otherwise None)
    skip true = refl
    skip false = refl

-- ------------------------------------------------------------------ `@external`

-- what is read after `@external`, of a declaration that starts at p
abbrev pub by_external : (start : ℕ) → Option External → Parser ℕ (Member ℕ)
by_external p (Some E.Tokens) = past (declares (parse_external_tokens p))
by_external p (Some E.Prop) = past (prop_at p)
by_external p (Some (E.Specializer k)) = past (declares (parse_external_specializer p (specialize_of k)))
by_external p (Some E.PropSource) = past (declares (parse_external_prop_source p))
by_external p None = unexpected

external-by : (p : ℕ) (t : M.Option (List ℕ)) (ts : Tokens ℕ) → external_by p t ts ≡ by_external p (external_of t) ts
unfolding external_by external_of
external-by p t ts =
    let a : Parser ℕ (Member ℕ) → _ = λ m. m ts in
    let b : Option External → _ = λ d. by_external p d ts in
    chosen a b (says "tokens" t) refl
    (chosen a b (says "prop" t) refl
    (chosen a b (says "extend" t) refl
    (chosen a b (says "specialize" t) refl
    (chosen a b (says "propSource" t) refl refl))))

module _ (s : List ℕ) (t : Token) {q : Option Part} {r d : Option External} (n : q ≡ name_of t) (e : r ≡ external_of (text_in s q)) (f : r ≡ d) where
  pub external-is : (p : ℕ) → parse_external_declaration p (stream s t) ≡ by_external p d (stream s t)
  unfolding parse_external_declaration ◌>>=◌ and_then kind
  external-is p =
      let z : external_by p (text_in s (name_of t)) (stream s t) ≡ by_external p d (stream s t) = external-by p (text_in s (name_of t)) (stream s t) ∙ rw (← n, ← e, f) in
      rw (name-of s t) z

  pub external-other : d ≡ None → {c : ℕ} → c ≡ start_in t → (p : ℕ) → parse_external_declaration p (stream s t) ≡ refused unexpected_token c
  unfolding refuse_here
  external-other g q p = external-is p ∙ rw (g, refuse_here, start-of s t, q)

-- a word stands in a token
pub external-token : (s : List ℕ) (t : Token) {q : Option Part} {r : Option External} {w : External} → q ≡ name_of t → r ≡ external_of (text_in s q) → r ≡ Some w → IsToken t
unfolding external_of
external-token s (Of k start end) n e f = tt
external-token s (Eof p) {r = r} {w = w} n e f =
    absurd (let a : Some w ≡ None = rw (← f, e, n) in let z : ◌≡◌ {A = ℕ} 0 1 = cc in omega arith)

-- the kind
abbrev pub external_word_kind : Option External → ℕ
external_word_kind (Some E.Tokens) = 16
external_word_kind (Some E.Prop) = 25
external_word_kind (Some (E.Specializer k)) = 18
external_word_kind (Some E.PropSource) = 19
external_word_kind None = 0

pub external-kind-by : (t : M.Option (List ℕ)) → external_kind t ≡ external_word_kind (external_of t)
unfolding external_kind external_of
external-kind-by t =
    let a : ℕ → ℕ = λ n. n in
    let b : Option External → ℕ = external_word_kind in
    chosen a b (says "tokens" t) refl
    (chosen a b (says "prop" t) refl
    (chosen a b (says "extend" t) refl
    (chosen a b (says "specialize" t) refl
    (chosen a b (says "propSource" t) refl refl))))
