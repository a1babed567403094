-- What the texts in tokens and trees are made of: words, and codes that UTF-8 writes.
-- Assumes nothing.
use Prim.Native.Nat.{ℕ}
use mathlib.Core.Path.{◌≡◌}
use mathlib.Core.Bool.{Bool}
use mathlib.Core.List.{List, []}
use mathlib.Core.Option.{none}
use Rattle.characters.specs.Spans.{Span}
use Rattle.characters.proofs.Chars.{Scalars}
use Rattle.lexer.specs.Tokens.{Kind, Tokens, token, eof, bad}
use Rattle.lexer.specs.Escapes.{decode_string}
use Rattle.lexer.specs.Sets.{spans, fault, sorted}
use Rattle.lexer.proofs.Back.{Words}
use Rattle.spelling.proofs.Back.{Spelled}

-- without starts
abbrev pub U : Type 0
U = Unit {0}

-- a name: one character at least, all of them characters of names, and codes that UTF-8 writes
pub record Word (t : List ℕ) : Type 0 where
  pub some : (t ≡ [] → ⊥)
  pub words : Words t
  pub scalars : Scalars t

-- spans that, written out, are read as they are
pub record ReadBack (ss : List Span) : Type 0 where
  pub sound : fault ss ≡ none
  pub ordered : sorted ss ≡ ss
  pub spelled : Spelled ss

-- a token's texts are such
pub data FineKind : Kind → Type 0 where
  fine-name : {t : List ℕ} → Word t → FineKind (Kind.name t)
  fine-at : {t : List ℕ} → Word t → FineKind (Kind.at t)
  fine-string : {t : List ℕ} → Scalars (decode_string t) → FineKind (Kind.string t)
  fine-set : {i : Bool} {t : List ℕ} → (fault (spans t) ≡ none → ReadBack (sorted (spans t))) → FineKind (Kind.set i t)
  fine-mark : {c : ℕ} → FineKind (Kind.mark c)

pub data Fine {S : Type 0} : Tokens S → Type 0 where
  fine-token : {k : Kind} {p : S} {ts : Tokens S} → FineKind k → Fine ts → Fine (token k p ts)
  fine-eof : {p : S} → Fine (eof p)
  fine-bad : {n : ℕ} {p : S} → Fine (bad n p)
