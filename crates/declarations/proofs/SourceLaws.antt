-- A name and its source: what is read and what is stored.
-- Assumes nothing.
use Prim.Native.Nat.{ℕ, ◌+◌, ◌≤◌}
use Prim.Native.String.{String as Quoted}
use native.Mathlib.Omega.{arith}
use mathlib.Core.Path.{◌≡◌, refl, ◌∙◌}
use mathlib.Core.Bool.{true, false}
use mathlib.Core.List.{List, [], ◌∷◌, ◌++◌}
use lib.ListN.{length, length-append}
use Rattle.basics.specs.Basics.{letters, every}
use Rattle.error.specs.Causes.{unexpected_token}
use Rattle.std.specs.Prelude.{Some, Result, Ok, Err}
use Rattle.error.specs.declared.Stop.{Stop}
use Rattle.lexer.specs.declared.Part.{Part}
use Rattle.lexer.specs.declared.Token.{Token}
use Rattle.lexer.specs.declared.Token.TheVariants.{Of, Eof}
use Rattle.characters.specs.Utf8.{encode_all}
use Rattle.characters.specs.Places.{cut}
use Rattle.lexer.specs.Tokens.{Tokens}
use Rattle.lexer.specs.Promise.{part_of, is_plain, IsPart}
use Rattle.lexer.specs.Escapes.{decode_string}
use Rattle.tree.specs.Syntax.{Identifier}
use Rattle.tree.specs.Records.{nodes, count, texts_of}
use Rattle.notation.specs.Parser.{read, refused, and_then, ◌>>=◌, pure, kind_of, kind, name_in, says, refuse_here, next, eat_if, eat_name, must, expect_name, expect_string, parse_identifier}
use Rattle.notation.specs.Declarations.{parse_source}
use Rattle.tokens.specs.Promise.{stream, start_in, LiesIn, EatsName, Identifies, TakesString}
use Rattle.parser.specs.Storing.{Lent, Stores, node, nodes_of}
use Rattle.parser.specs.Steps.{Onward, Ready, Gives}
use Rattle.parser.specs.Shapes.{IsToken}
use Rattle.lexer.specs.declared.Token.{Token}
use Rattle.lexer.specs.declared.Token.TheVariants.{Of, Eof}
use Rattle.tokens.proofs.Stream.{start-of}
use Rattle.parser.proofs.Onward.{if_true, next-onward, onward_then, onward-least, placed_in}
use Rattle.parser.proofs.Ready.{part-short, cut-length, stored-text, name-got, string-got}
use Rattle.parser.proofs.Stored.{stores-then}
use Rattle.declarations.specs.Sources.{GotSource, TakesSource, IdSource, from_source, from_branch}

-- ------------------------------------------------------------------ a word

module _ (w : Quoted) (s : List ℕ) where
  word-token : (t : Token) (us : Tokens ℕ) → eat_name w (stream s t) ≡ read true us → IsToken t
  unfolding eat_name eat_if kind kind_of stream ◌>>=◌ and_then pure
  word-token (Of k start end) us e = tt
  word-token (Eof p) us e = absurd (let z : ◌≡◌ {A = ℕ} 0 1 = cc in omega arith)

  word_next : (t : Token) (us : Tokens ℕ) → eat_name w (stream s t) ≡ read true us → next (stream s t) ≡ read tt us
  unfolding eat_name kind ◌>>=◌ and_then
  word_next t us e = (if_true (says w (name_in (kind_of (stream s t)))) (stream s t) us e).1

module _ (w : Quoted) (s : List ℕ) (t : Token) {u : Token} where
  pub word-onward : is_plain (letters w) ≡ true → LiesIn s 0 t → EatsName s t (letters w) (Ok (Some u)) → Onward s t u 1
  word-onward plain l k =
      let q = k.eats w refl plain in
      next-onward s t (word-token w s t (stream s u) q) l (word_next w s t (stream s u) q, k.lies)

-- ------------------------------------------------------------------ a source

module _ (s : List ℕ) (t : Token) where
  pub source-refused : {c p : ℕ} → eat_name "from" (stream s t) ≡ refused c p → parse_source (stream s t) ≡ refused c p
  unfolding parse_source expect_name ◌>>=◌ and_then
  source-refused e = rw (parse_source, expect_name, e)

  pub source_no : eat_name "from" (stream s t) ≡ read false (stream s t) → parse_source (stream s t) ≡ refused unexpected_token (start_in t)
  unfolding parse_source expect_name must refuse_here ◌>>=◌ and_then
  source_no e = rw (parse_source, expect_name, e, must, start-of s t)

  source-string : {us : Tokens ℕ} → eat_name "from" (stream s t) ≡ read true us → parse_source (stream s t) ≡ expect_string us
  unfolding parse_source expect_name must pure ◌>>=◌ and_then
  source-string e = rw (parse_source, expect_name, e, must)

  pub source-taken : {u : Token} → eat_name "from" (stream s t) ≡ read true (stream s u) → Onward s t u 1 → (r : Result (Part × Token) Stop) → TakesString s u r → TakesSource s t r
  source-taken e o (Ok (a, v)) h =
      let m = string-got s o.lies h in
      let l = cut-length s m.0.part in
      let w = m.1.past in
      let x = o.ahead in
      let i = m.0.part.forth in
      record {
        gives = source-string e ∙ h.takes;
        part = m.0.part;
        onward = onward_then o m.1.onward;
        between = omega arith;
      }
  source-taken e o (Err d) h = source-string e ∙ h.takes

-- ------------------------------------------------------------------ a name and its source

module _ (ts : Tokens ℕ) where
  pub from-name : {c p : ℕ} → parse_identifier ts ≡ refused c p → from_source ts ≡ refused c p
  unfolding from_source ◌>>=◌ and_then
  from-name e = rw (from_source, e)

  pub from-source : {n : Identifier ℕ} {us : Tokens ℕ} {c p : ℕ} → parse_identifier ts ≡ read n us → parse_source us ≡ refused c p → from_source ts ≡ refused c p
  unfolding from_source ◌>>=◌ and_then
  from-source e f = rw (from_source, e, and_then, f)

  from-read : {n : Identifier ℕ} {us vs : Tokens ℕ} {x : List ℕ} → parse_identifier ts ≡ read n us → parse_source us ≡ read x vs → from_source ts ≡ read (record { id = n.name; source = x }) vs
  unfolding from_source ◌>>=◌ and_then pure
  from-read e f = rw (from_source, e, and_then, f)

nodes-from : (k p : ℕ) (x : IdSource) → nodes (from_branch k p x) ≡ node 15 0 (encode_all x.source) 0 0 0 ∷ node k p (encode_all x.id) 0 0 1 ∷ []
unfolding nodes count
nodes-from k p x = refl

pair_text : (x y : List ℕ) (k p : ℕ) → length (texts_of (node 15 0 x 0 0 0 ∷ node k p y 0 0 1 ∷ [])) ≡ length x + length y
unfolding texts_of
pair_text x y k p = let l = length-append x (y ++ []) in let m = length-append y [] in omega arith

-- what is stored of it
module _ {s : List ℕ} {t u v : Token} {a b : Part} {start : ℕ} (k : ℕ) (l : LiesIn s 0 t) (i : Identifies s t (Ok (a, u))) (g : GotSource s u b v) where
  pub from-given : {m o c : Lent} → length (encode_all (decode_string (part_of s b))) + b.from ≤ b.to
      → Stores (node 15 0 (encode_all (decode_string (part_of s b))) 0 0 0 ∷ []) m o → Stores (node k start (cut s a.from a.to) 0 0 1 ∷ []) o c
      → Gives (from_source (stream s t)) (nodes_of (from_branch k start)) s t m v c
  from-given few y z =
      let d = name-got s l i in
      let bytes = d.0.part.bytes in
      let cl = cut-length s d.0.part in
      let past = d.1.past in
      let ahead = d.1.onward.ahead in
      let bt = g.between in
      let on = g.onward.ahead in
      let n = nodes-from k start (record { id = part_of s a; source = decode_string (part_of s b) }) in
      let two = pair_text (encode_all (decode_string (part_of s b))) (cut s a.from a.to) k start in
      record {
        value = record { id = part_of s a; source = decode_string (part_of s b) };
        gives = from-read (stream s t) i.takes g.gives;
        onward = onward-least 1 (onward_then d.1.onward g.onward) (omega arith);
        lays = rw (n, bytes) (record { stores = stores-then y z; bound = omega arith; space = omega arith });
      }

pub from-small : {s : List ℕ} {t : Token} {a : Lent} → Ready s t a → (a.n ≤ 0x42000000) × (a.x ≤ 0x42000000)
from-small {s} {t} r = let a = r.room in let b = r.space in let c = placed_in s t r.lies in let d = r.small in (omega arith, omega arith)

-- behind the source's node
module _ {s : List ℕ} {b : Part} {a c : Lent} {t : List ℕ} (p : IsPart s b) (st : Stores (node 15 0 t 0 0 0 ∷ []) a c) (h : c.x ≤ a.x + length (cut s b.from b.to)) where
  pub source-few : length t + b.from ≤ b.to
  source-few = let l = cut-length s p in let k = stored-text st h in let i = p.forth in omega arith

  pub source-next : {u : Token} → Ready s u a → (c.n ≤ 0x50000000) × (c.x ≤ 0x50000000)
  source-next r =
      let w = from-small r in
      let a = w.0 in
      let d = w.1 in
      let e = st.words-end in
      let l = (part-short s p).short in
      let f = r.small in
      (omega arith, omega arith)

pub from-plain : is_plain (letters "from") ≡ true
unfolding every
from-plain = refl
