-- The normal text of a good grammar, read: the tokens that were written.
-- Assumes nothing.
use Prim.Native.Nat.{ℕ, ◌<◌}
use native.Mathlib.Omega.{arith}
use mathlib.Core.Path.{◌≡◌, refl, ap}
use mathlib.Core.Bool.{Bool, true, false}
use mathlib.Core.List.{List, [], ◌∷◌, ◌++◌, map, append_assoc, map-append, map-map}
use Rattle.basics.specs.Basics.{first_element}
use Rattle.basics.proofs.Tests.{clash}
use Rattle.characters.specs.Classes.{white_space, is_whitespace, is_ecmascript_whitespace}
use Rattle.characters.specs.Spans.{in_spans}
use Rattle.characters.proofs.Encode.{scalar-low}
use Rattle.characters.proofs.Chars.{Scalars, none_left, one_more}
use Rattle.lexer.specs.Tokens.{Kind, Tokens, tokens}
use Rattle.lexer.specs.Tokens as T
use Rattle.lexer.proofs.Back.{Written, a-name, an_at, a-string, a-set, a_not_set, a-mark, Laid, laid_none, laid_more, reads_none, reads_more, lex_back}
use Rattle.lexer.proofs.Back as B
use Rattle.tree.specs.Syntax.{Identifier, GrammarDeclaration}
use Rattle.notation.specs.Members.{Member, declaration, external_prop}
use Rattle.notation.specs.Parser.{is_end}
use Rattle.spelling.specs.Spelling.{spell, spaced}
use Rattle.spelling.specs.NormalText.{each, declaration_tokens, dialects_lines, external_prop_tokens, detect_lines, lines, lines_text}
use Rattle.spelling.proofs.Lines.{lines_of}
use Rattle.laws.proofs.Starts.{on_tokens}
use Rattle.laws.proofs.Fine.{U}
use Rattle.laws.proofs.Good.{GoodGrammar}
use Rattle.laws.proofs.ReadBack.{laid}
use Rattle.laws.proofs.ReadBackGrammar.{member_tokens, member_adds, member_begins, members, dialect_members, detect_members}
use Rattle.laws.proofs.Lexable.{Lexable}
use Rattle.laws.proofs.LexableDeclarations.{Line, members-lines}
use Rattle.laws.proofs.Every.{Every, every-none, every_more}

-- ------------------------------------------------------------------ tokens and the space after each

-- a text that is read as tokens of these kinds, and that UTF-8 writes
record Text (ks : List Kind) (t : List ℕ) : Type 0 where
  pub laid : Laid ks t
  pub scalars : Scalars t

one-laid : {k : Kind} {t : List ℕ} → Written k t → (d : ℕ) → is_ecmascript_whitespace d ≡ true → {ks : List Kind} {l : List ℕ} → Laid ks l → Laid (k ∷ ks) (t ++ d ∷ l)
one-laid (a-name c w) d h q = laid_more d (a-name c w) h q
one-laid (an_at c w) d h q = laid_more d (an_at c w) h q
one-laid (a-string b) d h q = laid_more d (a-string b) h q
one-laid (a-set b) d h q = laid_more d (a-set b) h q
one-laid (a_not_set b) d h q = laid_more d (a_not_set b) h q
one-laid (a-mark c) d h q = laid_more d (a-mark c) h q

scalars-append : {a b : List ℕ} → Scalars a → Scalars b → Scalars (a ++ b)
scalars-append none_left t = t
scalars-append (one_more h s) t = one_more h (scalars-append s t)

one-text : (k : Kind) → Lexable k → (d : ℕ) → is_ecmascript_whitespace d ≡ true → d < 0x80 → {ks : List Kind} {l : List ℕ} → Text ks l → Text (k ∷ ks) (spell k ++ d ∷ l)
one-text k x d h a q =
    record { laid = one-laid x.written d h q.laid; scalars = scalars-append x.scalars (one_more (scalar-low d (omega arith)) q.scalars) }

space : is_ecmascript_whitespace 0x20 ≡ true
unfolding in_spans white_space is_whitespace is_ecmascript_whitespace
space = refl

feed : is_ecmascript_whitespace 0x0A ≡ true
unfolding in_spans white_space is_whitespace is_ecmascript_whitespace
feed = refl

-- a line that is not empty
line-text : (k : Kind) (l : List Kind) → Every Lexable (k ∷ l) → {ks : List Kind} {t : List ℕ} → Text ks t → Text (k ∷ l ++ ks) (spaced (k ∷ l) ++ 0x0A ∷ t)
unfolding spaced
line-text k [] (every_more x every-none) q = one-text k x 0x0A feed (omega arith) q
line-text k (j ∷ l) (every_more x xs) {ks} {t} q =
    rw (append_assoc (spell k) (0x20 ∷ spaced (j ∷ l)) (0x0A ∷ t)) (one-text k x 0x20 space (omega arith) (line-text j l xs q))

-- ------------------------------------------------------------------ the lines of a grammar

abbrev pub line : Member U → List Kind
line m = member_tokens m []

members-text : {ms : List (Member U)} → Every Line ms → Text (each member_tokens ms []) (lines_text (map line ms))
unfolding each lines_text
members-text every-none = record { laid = laid_none; scalars = none_left }
members-text (every_more {x = m} {xs = ms} g q) = rw ((member_adds m).on [] (each member_tokens ms [])) (go (line m) (member_begins m []).0 (g.keeps.on every-none) (members-text q))
  where
    go : (l : List Kind) → is_end (first_element l) ≡ false → Every Lexable l → Text (each member_tokens ms []) (lines_text (map line ms)) → Text (l ++ each member_tokens ms []) (spaced l ++ 0x0A ∷ lines_text (map line ms))
    go [] e x t = clash _ refl e
    go (k ∷ l) e x t = line-text k l x t

dialects-lines : (ns : List (Identifier U)) → map line (dialect_members ns) ≡ dialects_lines ns
dialects-lines [] = refl
dialects-lines (n ∷ ns) = refl

detect-lines : (b : Bool) → map line (detect_members b) ≡ detect_lines b
detect-lines false = refl
detect-lines true = refl

lines-members : (g : GrammarDeclaration U) → lines g ≡ map line (members g)
lines-members g =
    let ds = g.declarations in let ns = g.dialects in let xs = g.external_props in let b = g.auto_delimiters in
    rw (
      lines_of g,
      append_assoc (map (λ d. declaration_tokens d []) ds ++ dialects_lines ns) (map (λ x. external_prop_tokens x []) xs) (detect_lines b),
      append_assoc (map (λ d. declaration_tokens d []) ds) (dialects_lines ns) (map (λ x. external_prop_tokens x []) xs ++ detect_lines b),
      map-append line (map declaration ds) (dialect_members ns ++ (map external_prop xs ++ detect_members b)),
      map-append line (dialect_members ns) (map external_prop xs ++ detect_members b),
      map-append line (map external_prop xs) (detect_members b),
      map-map line declaration ds,
      map-map line external_prop xs,
      dialects-lines ns,
      detect-lines b,
    )

-- ------------------------------------------------------------------ read back

reads-laid : {ks : List Kind} {ts : Tokens ℕ} → B.Reads ks ts → on_tokens (λ _. tt) ts ≡ laid ks
unfolding on_tokens laid
reads-laid reads_none = refl
reads-laid (reads_more {k = k} q) = ap (λ ts. T.token k tt ts) (reads-laid q)

module _ (g : GrammarDeclaration U) (h : GoodGrammar g) where
  text_of : Text (each member_tokens (members g) []) (lines_text (lines g))
  text_of = rw (lines-members g) (members-text (members-lines g h))

  pub text-scalars : Scalars (lines_text (lines g))
  text-scalars = text_of.scalars

  pub text-tokens : on_tokens (λ _. tt) (tokens (lines_text (lines g))) ≡ laid (each member_tokens (members g) [])
  unfolding tokens
  text-tokens = reads-laid (lex_back text_of.laid 0)
