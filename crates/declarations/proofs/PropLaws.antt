-- External props: what is read and what is stored.
-- Assumes nothing.
use Prim.Native.Nat.{ℕ, ◌+◌, ◌≤◌}
use native.Mathlib.Omega.{arith}
use mathlib.Core.Path.{◌≡◌, refl, ◌∙◌}
use mathlib.Core.Bool.{Bool, true, false}
use mathlib.Core.List.{List, [], ◌∷◌, ◌++◌}
use lib.ListN.{length, length-append}
use Rattle.basics.specs.Basics.{letters, every}
use Rattle.std.specs.Prelude.{Result, Ok, Err}
use Rattle.error.specs.declared.Stop.{Stop}
use Rattle.lexer.specs.declared.Part.{Part}
use Rattle.characters.specs.Utf8.{encode_all}
use Rattle.characters.specs.Places.{cut}
use Rattle.lexer.specs.Tokens.{Tokens}
use Rattle.lexer.specs.Promise.{part_of, is_plain, IsPart}
use Rattle.lexer.specs.Escapes.{decode_string}
use Rattle.tree.specs.Syntax.{Identifier, ExternalPropDeclaration}
use Rattle.tree.specs.Records.{nodes, count, texts_of}
use Rattle.tree.specs.Stored.{external_prop_branch}
use Rattle.notation.specs.Parser.{Answer, read, refused, and_then, ◌>>=◌, pure, choose, eat_name, parse_identifier}
use Rattle.notation.specs.Declarations.{parse_source, parse_external_prop}
use Rattle.tokens.specs.Promise.{stream, start_in, LiesIn, Identifies}
use Rattle.parser.specs.Storing.{Lent, Stores, node, nodes_of}
use Rattle.parser.specs.Steps.{Onward, Ready, Gives}
use Rattle.lexer.specs.declared.Token.{Token}
use Rattle.parser.proofs.Onward.{onward-here, onward_then, onward-least}
use Rattle.parser.proofs.Ready.{Short, part-short, cut-length, name-got}
use Rattle.parser.proofs.Stored.{stores-then}
use Rattle.declarations.specs.Sources.{GotSource, as_name, GotId, TakesId}
use Rattle.declarations.proofs.SourceLaws.{from-small}

pub as_plain : is_plain (letters "as") ≡ true
unfolding every
as_plain = refl

-- ------------------------------------------------------------------ the name

module _ (s : List ℕ) (t : Token) (a : Part) where
  pub as_refused : {c p : ℕ} → eat_name "as" (stream s t) ≡ refused c p → as_name (part_of s a) (stream s t) ≡ refused c p
  unfolding as_name ◌>>=◌ and_then
  as_refused h = rw (as_name, h)

  pub as_same : IsPart s a → LiesIn s 0 t → eat_name "as" (stream s t) ≡ read false (stream s t) → GotId s t a a t
  unfolding as_name choose pure ◌>>=◌ and_then
  as_same p l h = record { gives = rw (as_name, h); onward = onward-here s t l; part = p; room = omega arith }

  as_other : {us : Tokens ℕ} → eat_name "as" (stream s t) ≡ read true us → as_name (part_of s a) (stream s t) ≡ and_then (parse_identifier us) (λ i. pure i.name)
  unfolding as_name choose ◌>>=◌ and_then
  as_other h = rw (as_name, h)

  pub as_taken : IsPart s a → {u : Token} → eat_name "as" (stream s t) ≡ read true (stream s u) → Onward s t u 1 → (r : Result (Part × Token) Stop) → Identifies s u r → TakesId s t a r
  unfolding and_then pure
  as_taken q h o (Ok (b, v)) i =
      let m = name-got s o.lies i in
      let l = cut-length s m.0.part in
      let w = m.1.past in
      let x = o.ahead in
      let y = m.0.part.forth in
      let z = q.forth in
      record {
        gives = as_other h ∙ rw i.takes;
        onward = onward-least 0 (onward_then o m.1.onward) (omega arith);
        part = m.0.part;
        room = omega arith;
      }
  as_taken q h o (Err d) i = as_other h ∙ rw i.takes

-- ------------------------------------------------------------------ the whole

module _ (start : ℕ) (ts : Tokens ℕ) where
  abbrev prop_of : Identifier ℕ → List ℕ → List ℕ → ExternalPropDeclaration ℕ
  prop_of x n src = record { start = start; id = n; external_id = x; source = src }

  prop-is : parse_external_prop start ts ≡ and_then (parse_identifier ts) (λ x us. and_then (as_name x.name us) (λ n vs. and_then (parse_source vs) (λ src ws. read (prop_of x n src) ws)))
  unfolding parse_external_prop as_name ◌>>=◌ and_then choose pure
  prop-is = first (parse_identifier ts)
    where
      renamed : (x : Identifier ℕ) (y : Answer ℕ (Identifier ℕ)) → and_then y (λ n vs. and_then (parse_source vs) (λ src ws. read (prop_of x n.name src) ws))
          ≡ and_then (and_then y (λ i us. read i.name us)) (λ n vs. and_then (parse_source vs) (λ src ws. read (prop_of x n src) ws))
      renamed x (read n vs) = refl
      renamed x (refused c p) = refl

      word : (x : Identifier ℕ) (y : Answer ℕ Bool)
          → and_then y (λ b us. and_then (choose b parse_identifier (λ vs. read x vs) us) (λ n vs. and_then (parse_source vs) (λ src ws. read (prop_of x n.name src) ws)))
          ≡ and_then (and_then y (λ b. choose b (λ us. and_then (parse_identifier us) (λ i vs. read i.name vs)) (λ us. read x.name us))) (λ n vs. and_then (parse_source vs) (λ src ws. read (prop_of x n src) ws))
      word x (read true us) = renamed x (parse_identifier us)
      word x (read false us) = refl
      word x (refused c p) = refl

      first : (y : Answer ℕ (Identifier ℕ))
          → and_then y (λ x us. and_then (eat_name "as" us) (λ b us. and_then (choose b parse_identifier (λ vs. read x vs) us) (λ n vs. and_then (parse_source vs) (λ src ws. read (prop_of x n.name src) ws))))
          ≡ and_then y (λ x us. and_then (and_then (eat_name "as" us) (λ b. choose b (λ us. and_then (parse_identifier us) (λ i vs. read i.name vs)) (λ us. read x.name us))) (λ n vs. and_then (parse_source vs) (λ src ws. read (prop_of x n src) ws)))
      first (read x us) = word x (eat_name "as" us)
      first (refused c p) = refl

  pub prop-name : {c p : ℕ} → parse_identifier ts ≡ refused c p → parse_external_prop start ts ≡ refused c p
  unfolding and_then
  prop-name e = prop-is ∙ rw e

  module _ {x : Identifier ℕ} {us : Tokens ℕ} (e : parse_identifier ts ≡ read x us) where
    pub prop_as : {c p : ℕ} → as_name x.name us ≡ refused c p → parse_external_prop start ts ≡ refused c p
    unfolding and_then
    prop_as f = prop-is ∙ rw (e, and_then, f)

    module _ {n : List ℕ} {vs : Tokens ℕ} (f : as_name x.name us ≡ read n vs) where
      pub prop-source : {c p : ℕ} → parse_source vs ≡ refused c p → parse_external_prop start ts ≡ refused c p
      unfolding and_then
      prop-source g = prop-is ∙ rw (e, and_then, f, g)

      prop-read : {src : List ℕ} {ws : Tokens ℕ} → parse_source vs ≡ read src ws → parse_external_prop start ts ≡ read (prop_of x n src) ws
      unfolding and_then
      prop-read g = prop-is ∙ rw (e, and_then, f, g)

nodes-prop : (x : ExternalPropDeclaration ℕ) → nodes (external_prop_branch x)
    ≡ node 26 x.external_id.start (encode_all x.external_id.name) 0 0 0 ∷ node 15 0 (encode_all x.source) 0 0 0 ∷ node 25 x.start (encode_all x.id) 0 0 2 ∷ []
unfolding nodes count
nodes-prop x = refl

three-texts : (x y z : List ℕ) (p q : ℕ) → length (texts_of (node 26 p x 0 0 0 ∷ node 15 0 y 0 0 0 ∷ node 25 q z 0 0 2 ∷ [])) ≡ length x + length y + length z
unfolding texts_of
three-texts x y z p q = let l = length-append x (y ++ (z ++ [])) in let m = length-append y (z ++ []) in let n = length-append z [] in omega arith

module _ {s : List ℕ} {t u v w : Token} {a b c : Part} {start p : ℕ} (l : LiesIn s 0 t) (i : Identifies s t (Ok (a, u))) (h : GotId s u a b v) (k : GotSource s v c w) where
  pub prop-given : {m o d z : Lent} → p ≡ start_in t → length (encode_all (decode_string (part_of s c))) + c.from ≤ c.to → Stores (node 26 p (cut s a.from a.to) 0 0 0 ∷ []) m o
      → Stores (node 15 0 (encode_all (decode_string (part_of s c))) 0 0 0 ∷ []) o d → Stores (node 25 start (cut s b.from b.to) 0 0 2 ∷ []) d z
      → Gives (parse_external_prop start (stream s t)) (nodes_of external_prop_branch) s t m w z
  prop-given st few x y z =
      let d = name-got s l i in
      let bytes = d.0.part.bytes in
      let other = h.part.bytes in
      let cl = cut-length s d.0.part in
      let cm = cut-length s h.part in
      let past = d.1.past in
      let ahead = d.1.onward.ahead in
      let ho = h.onward.ahead in
      let hr = h.room in
      let hf = h.part.forth in
      let kf = d.0.part.forth in
      let bt = k.between in
      let on = k.onward.ahead in
      let n = nodes-prop (record { start = start; id = part_of s b; external_id = record { start = start_in t; name = part_of s a }; source = decode_string (part_of s c) }) in
      let three = three-texts (cut s a.from a.to) (encode_all (decode_string (part_of s c))) (cut s b.from b.to) (start_in t) start in
      record {
        value = record { start = start; id = part_of s b; external_id = record { start = start_in t; name = part_of s a }; source = decode_string (part_of s c) };
        gives = prop-read start (stream s t) i.takes h.gives k.gives;
        onward = onward-least 1 (onward_then (onward_then d.1.onward h.onward) k.onward) (omega arith);
        lays = rw (n, bytes, other) (record { stores = stores-then (stores-then (rw st at x) y) z; bound = omega arith; space = omega arith });
      }

single-text : (k p : ℕ) (x : List ℕ) → length (texts_of (node k p x 0 0 0 ∷ [])) ≡ length x
unfolding texts_of
single-text k p x = let l = length-append x [] in omega arith

-- behind the external name's node
pub name-next : {s : List ℕ} {t : Token} {a b : Lent} {k p : ℕ} {text : List ℕ} → Ready s t a → Short s text → Stores (node k p text 0 0 0 ∷ []) a b → (b.n ≤ 0x43000000) × (b.x ≤ 0x43000000)
name-next {k = k} {p} {text} r h st =
    let w = from-small r in
    let a = w.0 in
    let b = w.1 in
    let c = h.short in
    let d = r.small in
    let e = st.words-end in
    let f = st.texts-end in
    let l = single-text k p text in
    (omega arith, omega arith)

-- and the source's
pub prop-last : {s : List ℕ} {t : Token} {a b c : Lent} {k p : ℕ} {q : Part} {text v : List ℕ} → Ready s t a → Short s text → Stores (node k p text 0 0 0 ∷ []) a b
    → IsPart s q → Stores (node 15 0 v 0 0 0 ∷ []) b c → c.x ≤ b.x + length (cut s q.from q.to) → (c.n ≤ 0x50000000) × (c.x ≤ 0x50000000)
prop-last {s} r h st q su i =
    let w = name-next r h st in
    let a = w.0 in
    let c = w.1 in
    let d = r.small in
    let e = su.words-end in
    let g = (part-short s q).short in
    (omega arith, omega arith)
