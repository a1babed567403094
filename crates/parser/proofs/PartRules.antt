-- Expressions of one token: what their definitions give, their nodes and their shapes.
-- Assumes nothing.
use Prim.Native.Nat.{ℕ, ◌+◌, ◌*◌, ◌≤◌, ◌<◌, ◌^◌}
use native.Mathlib.Omega.{arith}
use mathlib.Core.Path.{◌≡◌, refl, ap, sym, ◌∙◌}
use mathlib.Core.Bool.{Bool, true, false}
use mathlib.Core.List.{List, [], ◌∷◌, ◌++◌, map}
use mathlib.Core.Option as M
use mathlib.Core.Option.{none, some}
use Rattle.std.specs.Prelude.{Option, Some, None, Result, Ok, Err}
use Rattle.tree.specs.declared.CharClass.{CharClass as Declared}
use Rattle.tree.specs.Promise.{class_of, class_in}
use lib.ListN.{length, length-append}
use mir.Val.{bool_byte}
use Rattle.error.specs.Causes.{unexpected_token}
use Rattle.error.specs.declared.Stop.{Stop}
use Rattle.characters.specs.Spans.{Span}
use Rattle.characters.specs.Utf8.{codes, encode_all}
use Rattle.characters.specs.Places.{cut}
use Rattle.lexer.specs.Tokens.{Tokens}
use Rattle.lexer.specs.Escapes.{decode_string}
use Rattle.lexer.specs.Sets.{spans, fault, sorted}
use Rattle.lexer.specs.Promise.{IsPart, ReadsAtom, atoms_at, Checks, part_of}
use Rattle.lexer.specs.declared.Part.{Part}
use Rattle.lexer.specs.declared.Kind.TheVariants as K
use Rattle.lexer.specs.declared.escapes.Atom.{Atom}
use Rattle.tree.specs.CharClasses.{from_name, class_value}
use Rattle.tree.specs.Records.{Node, nodes}
use Rattle.tree.specs.Stored.{flag, span_branch, expression_branch}
use Rattle.tree.specs.Syntax.{Expression, CharClass}
use Rattle.notation.specs.Parser.{Answer, read, refused, and_then, ◌>>=◌, ◌>>◌, pure, refuse, start_of, refuse_here, kind, next}
use Rattle.notation.specs.Expressions.{class_by, std_class_by, set_by, parse_set_expression, literal_of, reference_of, stacked, is_empty_arm}
use Rattle.tokens.specs.Promise.{stream, start_in, end_in, name_of, at_of, string_of, text_in, LiesIn}
use Rattle.parser.specs.Storing.{Lent, Stores, StoresSet, node, flat, nodes_of}
use Rattle.parser.specs.Steps.{placed, Holds, Onward, Lays, Ready}
use Rattle.parser.specs.Shapes.{IsToken, IsSet, Shown, Yields, Expresses, class_part, std_class, parse_any, parse_literal, parse_set}
use Rattle.lexer.specs.declared.Token.{Token}
use Rattle.lexer.specs.declared.Token.TheVariants.{Of, Eof}
use Rattle.parser.specs.declared.parts.Shape.{Shape}
use Rattle.parser.specs.declared.parts.Expressed.{Expressed}
use Rattle.parser.specs.declared.parts.Shape.TheVariants.{Literal, Other}
use Rattle.tokens.proofs.Stream.{start-of, name-of, at-of}
use Rattle.parser.proofs.Stored.{stores-then}
use Rattle.parser.proofs.Onward.{placed_in, start_small, onward-here}
use Rattle.parser.proofs.Spread.{length-sorted, length-flat, texts-spans}
use Rattle.parser.proofs.Ready.{Held, Got, held, part-short, cut-length, got-less, next-got, one-text, string-in, stored-text, lays-leaf, nodes-leaf, nodes-over}
use Rattle.parser.proofs.Shown.{shown-empty, shown-any, yields_within, yields-least}

-- ------------------------------------------------------------------ what storing a node asks

-- of a node without a text that starts anywhere in the source
pub plain_asks : {s : List ℕ} {v : Token} {l : Lent} {p c : ℕ} → Ready s v l → p ≤ length s → c ≤ 0x1000000 → (l.n + 7 < 2 ^ 64) × (p < 2 ^ 32) × (c < 2 ^ 32)
plain_asks {s} {v} b e h =
    let j = placed_in s v b.lies in
    let k = b.small in
    let o = b.room in
    (omega arith, omega arith, omega arith)

-- ------------------------------------------------------------------ the nodes of expressions of one token

module _ (p : ℕ) where
  pub nodes-empty : nodes (expression_branch (Expression.empty p)) ≡ node 34 p [] 1 0 0 ∷ []
  unfolding expression_branch encode_all
  nodes-empty = nodes-leaf _

  pub nodes-literal : (t : List ℕ) → nodes (expression_branch (Expression.literal p t)) ≡ node 36 p (encode_all t) 0 0 0 ∷ []
  unfolding expression_branch
  nodes-literal t = nodes-leaf _

  pub nodes-any : nodes (expression_branch (Expression.any p)) ≡ node 39 p [] 0 0 0 ∷ []
  unfolding expression_branch encode_all
  nodes-any = nodes-leaf _

  pub nodes-class : (k : CharClass) → nodes (expression_branch (Expression.class p k)) ≡ node 40 p [] (class_value k) 0 0 ∷ []
  unfolding expression_branch encode_all
  nodes-class k = nodes-leaf _

  -- the spans of a set stand before it
  pub nodes-set : (i : Bool) (ss : List Span) → nodes (expression_branch (Expression.set p i ss)) ≡ flat (nodes_of (span_branch p)) ss ++ node 37 p [] (flag i) 0 (length ss) ∷ []
  unfolding expression_branch encode_all
  nodes-set i ss = nodes-over (span_branch p) _ ss

-- ------------------------------------------------------------------ their starts and shapes

module _ (s : List ℕ) (t u : Token) (p : ℕ) (h : p ≤ length s) where
  pub shown-class : (k : CharClass) → Shown s t u (Expression.class p k) p Other
  unfolding stacked is_empty_arm reference_of
  shown-class k = record { starts = refl; small = h; stacks = refl; low = omega arith; blank = refl; refers = refl }

  pub shown-set : (i : Bool) (ss : List Span) → Shown s t u (Expression.set p i ss) p Other
  unfolding stacked is_empty_arm reference_of
  shown-set i ss = record { starts = refl; small = h; stacks = refl; low = omega arith; blank = refl; refers = refl }

  pub shown-literal : {a : Part} → IsPart s a → a.to + placed s t ≤ a.from + placed s u → Shown s t u (Expression.literal p (decode_string (part_of s a))) p (Literal a)
  unfolding stacked is_empty_arm
  shown-literal w b = record { starts = refl; small = h; stacks = refl; low = omega arith; blank = refl; refers = record { is = refl; part = w; between = b } }

-- ------------------------------------------------------------------ the token is taken

module _ {A : Type 0} (v : A) (ts : Tokens ℕ) where
  token-refused : {c p : ℕ} → next ts ≡ refused c p → (next >> pure v) ts ≡ refused c p
  unfolding ◌>>=◌ and_then
  token-refused e = rw e

  token-read : {us : Tokens ℕ} → next ts ≡ read tt us → (next >> pure v) ts ≡ read v us
  unfolding ◌>>=◌ and_then pure
  token-read e = rw e

-- it has no text
holds-nothing : (s : List ℕ) (t : Token) → IsToken t → LiesIn s 0 t → Holds t []
holds-nothing s (Of k start end) i l = let h = l.1 in record { some_bytes = h; within = omega arith }
holds-nothing s (Eof p) i l = absurd i

pub token-got : (s : List ℕ) (t : Token) {u : Token} → IsToken t → LiesIn s 0 t → (next (stream s t) ≡ read tt (stream s u)) × LiesIn s (end_in t) u → Got s t [] u
token-got s t i l h = next-got s l (holds-nothing s t i l) h

-- an expression of one node
module _ {s : List ℕ} {t u : Token} where
  leaf-yields : {D : Answer ℕ (Expression ℕ)} {v : Expression ℕ} {y : Node} {a b : Lent} {p : ℕ} {shape : Shape} → D ≡ read v (stream s u) → nodes (expression_branch v) ≡ y ∷ []
      → Got s t y.row.text u → Stores (y ∷ []) a b → Shown s t u v p shape → Yields D s t 1 0 a u b p shape
  leaf-yields {v = v} d n g f w = record { tree = v; gives = d; onward = g.onward; lays = rw n (lays-leaf f g.onward g.past); shown = w }

-- ------------------------------------------------------------------ `_`

module _ (p : ℕ) (ts : Tokens ℕ) where
  pub any-refused : {c q : ℕ} → next ts ≡ refused c q → parse_any p ts ≡ refused c q
  unfolding parse_any
  any-refused e = token-refused (Expression.any p) ts e

  pub any-read : {us : Tokens ℕ} → next ts ≡ read tt us → parse_any p ts ≡ read (Expression.any p) us
  unfolding parse_any
  any-read e = token-read (Expression.any p) ts e

module _ (s : List ℕ) (t : Token) {l : Lent} (f : Ready s t l) (i : IsToken t) {u : Token} (h : (next (stream s t) ≡ read tt (stream s u)) × LiesIn s (end_in t) u) where
  pub any-yields : {p o : ℕ} {a b : Lent} → p ≡ start_in t → o ≡ start_in t → Stores (node 39 p [] 0 0 0 ∷ []) a b → Yields (parse_any (start_in t) (stream s t)) s t 1 0 a u b o Other
  any-yields b d st = rw d (leaf-yields (any-read _ _ h.0) (nodes-any _) (token-got s t i f.lies h) (rw b at st) (shown-any s t u _ (start_small s t f.lies)))

-- ------------------------------------------------------------------ classes

-- the class that a name in bytes stands for, if it stands for one
module _ {b : List ℕ} {r : Option Declared} (h : encode_all (codes b) ≡ b → class_in r ≡ from_name (codes b)) (e : encode_all (codes b) ≡ b) where
  pub class_absent : r ≡ None → from_name (codes b) ≡ none
  class_absent q = sym (h e) ∙ rw q

  pub class_found : {k : Declared} → r ≡ Some k → from_name (codes b) ≡ some (class_of k)
  class_found q = sym (h e) ∙ rw q

module _ (p : ℕ) {o : M.Option CharClass} (ts : Tokens ℕ) where
  pub class_missing : o ≡ none → class_by p o ts ≡ refused unexpected_token (start_of ts)
  unfolding class_by refuse_here
  class_missing e = rw e

  module _ {k : CharClass} (e : o ≡ some k) where
    pub class-refused : {c q : ℕ} → next ts ≡ refused c q → class_by p o ts ≡ refused c q
    unfolding class_by
    class-refused f = rw e (token-refused (Expression.class p k) ts f)

    pub class-read : {us : Tokens ℕ} → next ts ≡ read tt us → class_by p o ts ≡ read (Expression.class p k) us
    unfolding class_by
    class-read f = rw e (token-read (Expression.class p k) ts f)

module _ (s : List ℕ) (t : Token) where
  pub class-none : (p : ℕ) {q : ℕ} {o : M.Option CharClass} → o ≡ none → q ≡ start_in t → class_by p o (stream s t) ≡ refused unexpected_token q
  class-none p e h = class_missing p (stream s t) e ∙ rw (start-of s t, h)

module _ (s : List ℕ) (t : Token) {l : Lent} (f : Ready s t l) (i : IsToken t) {u : Token} (h : (next (stream s t) ≡ read tt (stream s u)) × LiesIn s (end_in t) u) where
  pub class-yields : {p v : ℕ} {o : M.Option CharClass} {k : CharClass} {a b : Lent} → o ≡ some k → p ≤ length s → v ≡ class_value k → Stores (node 40 p [] v 0 0 ∷ []) a b
      → Yields (class_by p o (stream s t)) s t 1 0 a u b p Other
  class-yields e d b st = leaf-yields (class-read _ _ e h.0) (nodes-class _ _) (token-got s t i f.lies h) (rw b at st) (shown-class s t u _ d _)

-- after `std` and its dot
module _ (s : List ℕ) (p : ℕ) (t : Token) where
  pub std_halt : {c q : ℕ} → next (stream s t) ≡ refused c q → std_class p (stream s t) ≡ refused c q
  unfolding std_class ◌>>=◌ and_then
  std_halt e = rw e

  module _ (u : Token) (e : next (stream s t) ≡ read tt (stream s u)) where
    std_is : std_class p (stream s t) ≡ std_class_by p (text_in s (at_of u)) (text_in s (name_of u)) (stream s u)
    unfolding std_class ◌>>=◌ and_then kind
    std_is = rw (e, and_then, at-of s u, name-of s u)

    pub std_at : {a : Part} → at_of u ≡ Some a → std_class p (stream s t) ≡ class_part s p a (stream s u)
    unfolding std_class_by
    std_at f = std_is ∙ rw f

    module _ (f : at_of u ≡ None) where
      pub std_name : {a : Part} → name_of u ≡ Some a → std_class p (stream s t) ≡ class_part s p a (stream s u)
      unfolding std_class_by
      std_name g = std_is ∙ rw (f, g)

      pub std_none : {q : ℕ} → name_of u ≡ None → q ≡ start_in u → std_class p (stream s t) ≡ refused unexpected_token q
      unfolding std_class_by refuse_here
      std_none g h = std_is ∙ rw (f, g, std_class_by, start-of s u, h)

-- what is expressed behind other tokens
pub expresses_behind : {s : List ℕ} {t v : Token} {i : ℕ} {D B : Answer ℕ (Expression ℕ)} → Onward s t v i → D ≡ B → (a b : Lent) (r : Result Expressed Stop) → Expresses B s v 1 0 a b r
    → Expresses D s t 1 0 a b r
expresses_behind {s} o e a b (Ok r) h = yields-least 1 (yields_within h o (onward-here s r.token h.onward.lies) (e ∙ h.gives) (omega arith)) (omega arith)
expresses_behind o e a b (Err d) h = e ∙ h

-- ------------------------------------------------------------------ literals

-- a string's value is empty or not, by its first atom
pub value_none : (b : List ℕ) → ReadsAtom b 0 None → decode_string (codes b) ≡ []
unfolding decode_string atoms_at
value_none b k = ap (map (λ a. a.char)) k.atoms

pub value-some : (b : List ℕ) {a : Atom} → ReadsAtom b 0 (Some a) → decode_string (codes b) ≡ [] → ⊥
unfolding decode_string atoms_at
value-some b k z =
    let l = ap length (sym z ∙ ap (map (λ a. a.char)) k.atoms) in
    omega arith

literal-some : (p : ℕ) (t : List ℕ) → (t ≡ [] → ⊥) → literal_of p t ≡ Expression.literal p t
unfolding literal_of
literal-some p [] h = absurd (h refl)
literal-some p (c ∷ cs) h = refl

module _ (s : List ℕ) (p : ℕ) (a : Part) (ts : Tokens ℕ) where
  pub literal-refused : {c q : ℕ} → next ts ≡ refused c q → parse_literal s p a ts ≡ refused c q
  unfolding parse_literal
  literal-refused f = token-refused (literal_of p (decode_string (part_of s a))) ts f

  module _ {us : Tokens ℕ} (f : next ts ≡ read tt us) where
    pub literal-none : decode_string (part_of s a) ≡ [] → parse_literal s p a ts ≡ read (Expression.empty p) us
    unfolding parse_literal literal_of
    literal-none h = token-read (literal_of p (decode_string (part_of s a))) ts f ∙ rw h

    pub literal-read : (decode_string (part_of s a) ≡ [] → ⊥) → parse_literal s p a ts ≡ read (Expression.literal p (decode_string (part_of s a))) us
    unfolding parse_literal
    literal-read h = token-read (literal_of p (decode_string (part_of s a))) ts f ∙ rw (literal-some p (decode_string (part_of s a)) h)

module _ (s : List ℕ) (t : Token) {l : Lent} {a : Part} (f : Ready s t l) (i : string_of t ≡ Some a) {u : Token} (h : (next (stream s t) ≡ read tt (stream s u)) × LiesIn s (end_in t) u) where
  literal-got : Got s t (cut s a.from a.to) u
  literal-got = next-got s f.lies (string-in f i).holds h

  pub empty-yields : {p o : ℕ} {b c : Lent} → decode_string (part_of s a) ≡ [] → p ≡ start_in t → o ≡ start_in t → Stores (node 34 p [] 1 0 0 ∷ []) b c
      → Yields (parse_literal s (start_in t) a (stream s t)) s t 1 0 b u c o Other
  empty-yields z b d st =
      rw d (leaf-yields (literal-none s _ a _ h.0 z) (nodes-empty _) (got-less [] literal-got (omega arith)) (rw b at st) (shown-empty s t u _ (start_small s t f.lies)))

  pub literal-yields : {p o : ℕ} {b c : Lent} → (decode_string (part_of s a) ≡ [] → ⊥) → p ≡ start_in t → o ≡ start_in t
      → Stores (node 36 p (encode_all (decode_string (codes (cut s a.from a.to)))) 0 0 0 ∷ []) b c → c.x ≤ b.x + length (cut s a.from a.to)
      → Yields (parse_literal s (start_in t) a (stream s t)) s t 1 0 b u c o (Literal a)
  literal-yields z b d st few =
      let g = literal-got in
      let k = (string-in f i).part in
      let w = cut-length s k in
      let v = g.past in
      let j = k.forth in
      rw d (leaf-yields (literal-read s _ a _ h.0 z) (nodes-literal _ _) (got-less _ g (stored-text st few)) (rw b at st)
      (shown-literal s t u _ (start_small s t f.lies) k (omega arith)))

-- ------------------------------------------------------------------ sets

pub flag_byte : (b : Bool) → bool_byte b ≡ flag b
flag_byte true = refl
flag_byte false = refl

pub set-token : (t : Token) (i : Bool) (a : Part) → IsSet t i a → IsToken t
set-token (Of k start end) i a h = tt
set-token (Eof p) i a h = absurd h

pub set-held : (s : List ℕ) (t : Token) (i : Bool) (a : Part) → LiesIn s 0 t → IsSet t i a → Held s t a
set-held s (Of k start end) i a l h =
    let m : LiesIn s 0 (Of (K.Set i a) start end) = rw h at l in
    rw h (held s (K.Set i a) refl m.1 m.3 m.4)
set-held s (Eof p) i a l h = absurd h

-- what storing its spans and its node asks
module _ {s : List ℕ} {t : Token} (i : Bool) (a : Part) {l : Lent} (f : Ready s t l) (k : IsSet t i a) where
  pub set_in : Held s t a
  set_in = set-held s t i a f.lies k

  pub spans_asks : {p : ℕ} → p ≡ start_in t → (l.n + 7 * length (cut s a.from a.to) < 2 ^ 64) × (p < 2 ^ 32)
  spans_asks b =
      let w = (part-short s set_in.part).short in
      let l = start_small s t f.lies in
      let j = placed_in s t f.lies in
      let m = f.small in
      let o = f.room in
      (omega arith, omega arith)

  pub set_asks : {p m : ℕ} (c : Lent) → m ≤ length (cut s a.from a.to) → c.n ≡ l.n + 7 * m → p ≡ start_in t → (c.n + 7 < 2 ^ 64) × (p < 2 ^ 32) × (m < 2 ^ 32)
  set_asks c h n b =
      let w = (part-short s set_in.part).short in
      let l = start_small s t f.lies in
      let j = placed_in s t f.lies in
      let m = f.small in
      let o = f.room in
      (omega arith, omega arith, omega arith)

-- how many words its spans take
pub set_taken : (b : List ℕ) (p : ℕ) {m : ℕ} {a c : Lent} → StoresSet b p a c (Ok m) → c.n ≡ a.n + 7 * m
set_taken b p f = let e = f.2.words-end in let l = length-flat p (sorted (spans (codes b))) in let n = f.1 in omega arith

-- how many spans it has
pub set-sound : (s : List ℕ) (a : Part) {m : ℕ} → Checks (spans (part_of s a)) (Ok m) → (fault (spans (part_of s a)) ≡ none) × (length (sorted (spans (part_of s a))) ≡ m)
set-sound s a k = (sym k.cause, length-sorted (spans (part_of s a)) ∙ sym k.count)

module _ (s : List ℕ) (p : ℕ) (i : Bool) (a : Part) (ts : Tokens ℕ) where
  pub set-fault : {c q : ℕ} → fault (spans (part_of s a)) ≡ some c → q ≡ p → parse_set s p i a ts ≡ refused c q
  unfolding parse_set_expression set_by refuse
  set-fault f h = rw (f, h)

  module _ (f : fault (spans (part_of s a)) ≡ none) where
    pub set-refused : {c q : ℕ} → next ts ≡ refused c q → parse_set s p i a ts ≡ refused c q
    unfolding parse_set_expression set_by
    set-refused g = rw f (token-refused (Expression.set p i (sorted (spans (part_of s a)))) ts g)

    pub set-read : {us : Tokens ℕ} → next ts ≡ read tt us → parse_set s p i a ts ≡ read (Expression.set p i (sorted (spans (part_of s a)))) us
    unfolding parse_set_expression set_by
    set-read g = rw f (token-read (Expression.set p i (sorted (spans (part_of s a)))) ts g)

abbrev set_spans : List ℕ → Part → List Span
set_spans s a = sorted (spans (part_of s a))

module _ (s : List ℕ) (t : Token) (i : Bool) (a : Part) {l : Lent} (f : Ready s t l) (k : IsSet t i a) {u : Token} (h : (next (stream s t) ≡ read tt (stream s u)) × LiesIn s (end_in t) u) where
  -- no more spans than bytes, and a node more
  set-lays : {p m v : ℕ} {b c d : Lent} → m ≤ length (cut s a.from a.to) → length (set_spans s a) ≡ m → Stores (flat (nodes_of (span_branch p)) (set_spans s a)) b c → Stores (node 37 p [] v 0 m ∷ []) c d
      → Lays s t u 0 (flat (nodes_of (span_branch p)) (set_spans s a) ++ node 37 p [] v 0 m ∷ []) b d
  set-lays {p} {m} {v} {b = b} o q st su =
      let g = next-got s f.lies (set-held s t i a f.lies k).holds h in
      let w = g.past in
      let y = g.onward.ahead in
      let r = stores-then st su in
      let n = length-flat p (set_spans s a) in
      let j = ap length (texts-spans p (set_spans s a)) in
      let o₁ = one-text (node 37 p [] v 0 m) in
      let d = length-append (flat (nodes_of (span_branch p)) (set_spans s a)) (node 37 p [] v 0 m ∷ []) in
      let c = st.words-end in
      let z = r.texts-end in
      let z₁ = st.texts-end in
      let z₂ = su.texts-end in
      record { stores = r; bound = omega arith; space = omega arith }

  pub set-yields : {p o b m v : ℕ} {c d e : Lent} → (fault (spans (part_of s a)) ≡ none) × (length (set_spans s a) ≡ m) → m ≤ length (cut s a.from a.to)
      → Stores (flat (nodes_of (span_branch p)) (set_spans s a)) c d → p ≡ start_in t → o ≡ start_in t → b ≡ start_in t → v ≡ flag i → Stores (node 37 o [] v 0 m ∷ []) d e
      → Yields (parse_set s (start_in t) i a (stream s t)) s t 1 0 c u e b Other
  set-yields z n st d₁ d₂ d₃ y su =
      rw d₃ (record {
        tree = Expression.set (start_in t) i (set_spans s a);
        gives = set-read s _ i a _ z.0 h.0;
        onward = (token-got s t (set-token t i a k) f.lies h).onward;
        lays = rw (nodes-set (start_in t) i (set_spans s a), z.1) (set-lays n z.1 (rw d₁ at st) (rw (d₂, y) at su));
        shown = shown-set s t u (start_in t) (start_small s t f.lies) i (set_spans s a);
      })
