-- Props: what the parts of their definition give, and what it then gives.
-- Assumes nothing.
use Prim.Native.Nat.{ℕ, ◌+◌, ◌≤◌}
use native.Mathlib.Omega.{arith}
use mathlib.Core.Path.{◌≡◌, refl, ap, sym, ◌∙◌}
use mathlib.Core.Bool.{Bool, true, false}
use mathlib.Core.List.{List, [], ◌∷◌}
use mathlib.Core.Option as M
use mathlib.Core.Option.{none, some}
use Rattle.std.specs.Prelude.{Some, None, Ok}
use Rattle.lexer.specs.declared.Part.{Part}
use lib.ListN.{length}
use borrow.Author.Tests.{ne_eqb}
use Rattle.error.specs.Causes.{unexpected_token}
use Rattle.characters.specs.Utf8.{codes, encode_all}
use Rattle.characters.specs.Places.{cut}
use Rattle.characters.proofs.Encode.{scalar-low, encode_1}
use Rattle.characters.proofs.Chars.{none_left, one_more, codes_all}
use Rattle.lexer.specs.declared.Kind.{Kind}
use Rattle.lexer.specs.declared.Kind.TheVariants.{String, Set, Punctuation, Identifier}
use Rattle.lexer.specs.declared.Kind.TheVariants as K
use Rattle.lexer.specs.Tokens.{Tokens}
use Rattle.lexer.specs.Escapes.{decode_string}
use Rattle.tree.specs.Syntax.{Identifier as Name, PropPart, Prop}
use Rattle.tree.specs.Records.{Node, nodes}
use Rattle.tree.specs.Stored.{flag, part_branch, prop_branch, named}
use Rattle.notation.specs.Parser.{Answer, read, refused, Parser, and_then, ◌>>=◌, ◌>>◌, pure, choose, here, kind, kind_of, refuse_here, next, eat, expect, parse_identifier, loop}
use Rattle.notation.specs.Expressions.{part_by, parse_part, prop_named, prop_by, parse_prop}
use Rattle.lexer.specs.Promise.{part_of}
use Rattle.tokens.specs.Promise.{stream, start_in, end_in, mark_of, name_of, at_of, string_of, LiesIn, Identifies, Expects}
use Rattle.parser.specs.Storing.{Lent, Stores, node, nodes_of}
use Rattle.parser.specs.Steps.{Onward, Ready, Gives, Finds, FindsNone, Lists, PartValue, PropName, parse_value}
use Rattle.lexer.specs.declared.Token.{Token}
use Rattle.lexer.specs.declared.Token.TheVariants.{Of, Eof}
use Rattle.tokens.proofs.Stream.{start-of, name-of, at-of}
use Rattle.parser.proofs.Onward.{onward_then, onward-least, mark-token, next-onward, expect-onward}
use Rattle.parser.proofs.Ready.{Held, Got, name-held, name_in_lem, at_in_lem, string-held, next-got, got-less, stored-text, lays-leaf, lays_parent, nodes-leaf, nodes-over, no_part, name-got}

-- ------------------------------------------------------------------ a part

pub part-any : (is : List (PropPart ℕ)) (ts : Tokens ℕ) → parse_part [] ts ≡ parse_part is ts
unfolding parse_part
part-any is ts = refl

module _ (s : List ℕ) (t : Token) where
  part-turn : parse_part [] (stream s t) ≡ part_by (start_in t) (kind_of (stream s t)) (stream s t)
  unfolding parse_part ◌>>=◌ and_then here kind
  part-turn = rw (start-of s t)

  -- of one token
  module _ (v : PropPart ℕ) (e : part_by (start_in t) (kind_of (stream s t)) ≡ (next >> pure (some v))) where
    pub part-refused : {c p : ℕ} → next (stream s t) ≡ refused c p → parse_part [] (stream s t) ≡ refused c p
    unfolding ◌>>=◌ and_then
    part-refused k = part-turn ∙ rw (e, k)

    pub part-found : {u : Token} {y : Node} {a b : Lent} → next (stream s t) ≡ read tt (stream s u) → nodes (part_branch v) ≡ y ∷ [] → Got s t y.row.text u → Stores (y ∷ []) a b
        → Finds (parse_part [] (stream s t)) (nodes_of part_branch) s t a u b
    unfolding ◌>>=◌ and_then pure
    part-found k n g f = record { value = v; gives = part-turn ∙ rw (e, k); onward = g.onward; lays = rw n (lays-leaf f g.onward g.past) }

  -- none
  pub part_none : {a : Lent} → part_by (start_in t) (kind_of (stream s t)) ≡ pure none → FindsNone (parse_part [] (stream s t)) s t a a
  unfolding pure
  part_none e = record { gives = part-turn ∙ rw e; same = refl }

  pub end_by : {p : ℕ} → t ≡ Eof p → part_by (start_in t) (kind_of (stream s t)) ≡ pure none
  unfolding part_by kind_of stream
  end_by e = rw e

  module _ {k : Kind} {start end : ℕ} (e : t ≡ Of k start end) where
    pub at-by : {a : Part} → k ≡ K.At a → part_by (start_in t) (kind_of (stream s t)) ≡ pure none
    unfolding part_by kind_of stream
    at-by q = rw (e, q)

    pub set-by : {i : Bool} {a : Part} → k ≡ Set i a → part_by (start_in t) (kind_of (stream s t)) ≡ pure none
    unfolding part_by kind_of stream
    set-by q = rw (e, q)

    pub mark-by : {c : ℕ} → k ≡ Punctuation c → (c ≡ 0x2E → ⊥) → (c ≡ 0x7B → ⊥) → part_by (start_in t) (kind_of (stream s t)) ≡ pure none
    unfolding part_by kind_of stream
    mark-by {c} q f g = rw (e, q, ne_eqb c 0x2E f, ne_eqb c 0x7B g)

-- a name or a dot
module _ (s : List ℕ) where
  name_by : {a : Part} (t : Token) → name_of t ≡ Some a → part_by (start_in t) (kind_of (stream s t)) ≡ (next >> pure (some (PropPart.value (start_in t) (part_of s a))))
  unfolding part_by kind_of stream
  name_by {a} (Of (Identifier b) start end) q = let y : b ≡ a = cc in rw y
  name_by (Of (K.At b) start end) q = absurd (no_part q)
  name_by (Of (String c b) start end) q = absurd (no_part q)
  name_by (Of (Set i b) start end) q = absurd (no_part q)
  name_by (Of (Punctuation c) start end) q = absurd (no_part q)
  name_by (Eof p) q = absurd (no_part q)

  pub name-value : {a : Part} (t : Token) → LiesIn s 0 t → name_of t ≡ Some a → PartValue s t (cut s a.from a.to)
  name-value t l q = let h = name-held s t l q in record { part = name_by t q; bytes = h.part.bytes; holds = h.holds }

  -- the bytes of a dot are those of its character
  dot_bytes : encode_all (0x2E ∷ []) ≡ 0x2E ∷ []
  unfolding encode_all
  dot_bytes = rw (encode_1 0x2E (omega arith))

  dot_codes : codes (0x2E ∷ []) ≡ 0x2E ∷ []
  dot_codes = ap codes (sym dot_bytes) ∙ codes_all (one_more (scalar-low 0x2E (omega arith)) none_left)

  pub dot_value : (t : Token) → LiesIn s 0 t → mark_of t ≡ 0x2E → PartValue s t (0x2E ∷ [])
  unfolding part_by kind_of stream
  dot_value (Of (Punctuation c) start end) l q = record { part = rw (q, dot_codes); bytes = rw (dot_codes, dot_bytes); holds = record { some_bytes = l.1; within = (let z = l.1 in omega arith) } }
  dot_value (Of (String c b) start end) l q = absurd (omega arith)
  dot_value (Of (K.At b) start end) l q = absurd (omega arith)
  dot_value (Of (Identifier b) start end) l q = absurd (omega arith)
  dot_value (Of (Set i b) start end) l q = absurd (omega arith)
  dot_value (Eof p) l q = absurd (omega arith)

pub value_found : (s : List ℕ) (t : Token) {l : Lent} {p : ℕ} {text : List ℕ} {u : Token} {a b : Lent} → Ready s t l → PartValue s t text
    → (next (stream s t) ≡ read tt (stream s u)) × LiesIn s (end_in t) u → p ≡ start_in t → Stores (node 6 p text 0 0 0 ∷ []) a b
    → Finds (parse_part [] (stream s t)) (nodes_of part_branch) s t a u b
value_found s t {text = text} f v h e st =
    part-found s t _ v.part h.0 (nodes-leaf _ ∙ rw v.bytes) (next-got s f.lies v.holds h) (rw e at st)

-- a string
module _ (s : List ℕ) {a : Part} where
  string-by : (t : Token) → string_of t ≡ Some a → part_by (start_in t) (kind_of (stream s t)) ≡ (next >> pure (some (PropPart.value (start_in t) (decode_string (part_of s a)))))
  unfolding part_by kind_of stream
  string-by (Of (String c b) start end) q = let y : b ≡ a = cc in rw y
  string-by (Of (K.At b) start end) q = absurd (no_part q)
  string-by (Of (Identifier b) start end) q = absurd (no_part q)
  string-by (Of (Set i b) start end) q = absurd (no_part q)
  string-by (Of (Punctuation c) start end) q = absurd (no_part q)
  string-by (Eof p) q = absurd (no_part q)

  pub string-refused : (t : Token) {c p : ℕ} → string_of t ≡ Some a → next (stream s t) ≡ refused c p → parse_part [] (stream s t) ≡ refused c p
  string-refused t i h = part-refused s t _ (string-by t i) h

  pub string-found : (t : Token) {l k m : Lent} {p : ℕ} {u : Token} → Ready s t l → string_of t ≡ Some a
      → (next (stream s t) ≡ read tt (stream s u)) × LiesIn s (end_in t) u → p ≡ start_in t
      → Stores (node 6 p (encode_all (decode_string (codes (cut s a.from a.to)))) 0 0 0 ∷ []) k m → m.x ≤ k.x + length (cut s a.from a.to)
      → Finds (parse_part [] (stream s t)) (nodes_of part_branch) s t k u m
  string-found t f i h o st few =
      part-found s t _ (string-by t i) h.0 (nodes-leaf _) (got-less _ (next-got s f.lies (string-held s t f.lies i).holds h) (stored-text st few)) (rw o at st)

-- `{name}`
module _ (s : List ℕ) where
  abbrev braced : ℕ → Parser ℕ (M.Option (PropPart ℕ))
  braced p = next >>= λ _. parse_identifier >>= λ n. expect "}" >>= λ _. pure (some (PropPart.name p n.name))

  braced-by : (t : Token) → mark_of t ≡ 0x7B → part_by (start_in t) (kind_of (stream s t)) ≡ braced (start_in t)
  unfolding part_by kind_of stream
  braced-by (Of (Punctuation c) start end) q = rw q
  braced-by (Of (String c b) start end) q = absurd (omega arith)
  braced-by (Of (K.At b) start end) q = absurd (omega arith)
  braced-by (Of (Identifier b) start end) q = absurd (omega arith)
  braced-by (Of (Set i b) start end) q = absurd (omega arith)
  braced-by (Eof p) q = absurd (omega arith)

  module _ (t : Token) (e : mark_of t ≡ 0x7B) where
    pub braced_halt : {c p : ℕ} → next (stream s t) ≡ refused c p → parse_part [] (stream s t) ≡ refused c p
    unfolding ◌>>=◌ and_then
    braced_halt f = part-turn s t ∙ rw (braced-by t e, f)

    module _ {us : Tokens ℕ} (f : next (stream s t) ≡ read tt us) where
      pub braced-name_halt : {c p : ℕ} → parse_identifier us ≡ refused c p → parse_part [] (stream s t) ≡ refused c p
      unfolding ◌>>=◌ and_then
      braced-name_halt g = part-turn s t ∙ rw (braced-by t e, f, and_then, g)

      module _ {n : Name ℕ} {vs : Tokens ℕ} (g : parse_identifier us ≡ read n vs) where
        pub braced-unclosed : {c p : ℕ} → expect "}" vs ≡ refused c p → parse_part [] (stream s t) ≡ refused c p
        unfolding ◌>>=◌ and_then
        braced-unclosed h = part-turn s t ∙ rw (braced-by t e, f, and_then, g, h)

        braced-read : {ws : Tokens ℕ} → expect "}" vs ≡ read tt ws → parse_part [] (stream s t) ≡ read (some (PropPart.name (start_in t) n.name)) ws
        unfolding ◌>>=◌ and_then pure
        braced-read h = part-turn s t ∙ rw (braced-by t e, f, and_then, g, h)

  module _ (t : Token) {l : Lent} {a : Part} {u v : Token} (c : mark_of t ≡ 0x7B) (y : Ready s t l) (h : (next (stream s t) ≡ read tt (stream s u)) × LiesIn s (end_in t) u)
      (i : Identifies s u (Ok (a, v))) where
    -- the brace, and the name behind it
    pub braced-name : Onward s t u 1 × Held s u a × Got s u (cut s a.from a.to) v
    braced-name =
        let d = next-onward s t (mark-token t c (omega arith)) y.lies h in
        let m = name-got s d.lies i in
        (d, m.0, m.1)

    pub braced-found : {p : ℕ} {w : Token} {k m : Lent} → Expects s v 0x7D (Ok w) → p ≡ start_in t → Stores (node 7 p (cut s a.from a.to) 0 0 0 ∷ []) k m
        → Finds (parse_part [] (stream s t)) (nodes_of part_branch) s t k w m
    braced-found {w = w} o b st =
        let d = braced-name.0 in
        let m = braced-name.2 in
        let x = expect-onward s "}" v (omega arith) m.onward.lies o in
        let d₁ = d.ahead in
        let m₁ = m.past in
        let x₁ = x.ahead in
        let on : Onward s t w 1 = onward-least 1 (onward_then d (onward_then m.onward x)) (omega arith) in
        record {
          value = PropPart.name (start_in t) (part_of s a);
          gives = braced-read t c h.0 i.takes (o.expects "}" refl);
          onward = on;
          lays = rw (nodes-leaf (named 7 (start_in t) (part_of s a)), braced-name.1.part.bytes, ← b) (lays-leaf st on (omega arith));
        }

-- ------------------------------------------------------------------ a prop

-- with the value that follows its name
abbrev prop_of : (start : ℕ) → Bool → List ℕ → List (PropPart ℕ) → Prop ℕ
prop_of p b n parts = record { start = p; at = b; name = n; value = parts }

abbrev value_by : Bool → Parser ℕ (List (PropPart ℕ))
value_by equals = choose equals (loop parse_part) (pure [])

module _ (s : List ℕ) (t : Token) where
  named_by : (b : Bool) (n : List ℕ) → prop_named b n (stream s t) ≡ and_then (next (stream s t)) (λ _. parse_value >>= λ parts. pure (prop_of (start_in t) b n parts))
  unfolding prop_named parse_value ◌>>=◌ and_then here
  named_by b n = rw (start-of s t) (go (next (stream s t)))
    where
      end : List (PropPart ℕ) → Parser ℕ (Prop ℕ)
      end parts = pure (prop_of (start_in t) b n parts)

      flatten : (a : Answer ℕ Bool) → and_then a (λ equals. value_by equals >>= end) ≡ and_then (and_then a value_by) end
      flatten (read x us) = refl
      flatten (refused c p) = refl

      go : (a : Answer ℕ (Unit {0})) → and_then a (λ _. eat "=" >>= λ equals. value_by equals >>= end) ≡ and_then a (λ _. (eat "=" >>= value_by) >>= end)
      go (read x us) = flatten (eat "=" us)
      go (refused c p) = refl

  pub prop-none : {p : ℕ} → at_of t ≡ None → name_of t ≡ None → p ≡ start_in t → parse_prop (stream s t) ≡ refused unexpected_token p
  unfolding parse_prop prop_by ◌>>=◌ and_then kind refuse_here
  prop-none e f q = rw (at-of s t, name-of s t, e, f, prop_by, start-of s t, q)

  prop-by : (at : Bool) (a : Part) → PropName s t at a → parse_prop (stream s t) ≡ prop_named at (part_of s a) (stream s t)
  unfolding parse_prop prop_by ◌>>=◌ and_then kind
  prop-by false a q = rw (at-of s t, name-of s t, q.0, q.1)
  prop-by true a q = rw (at-of s t, q)

  pub prop-held : (at : Bool) (a : Part) {l : Lent} → Ready s t l → PropName s t at a → Held s t a
  prop-held false a r q = name_in_lem r q.1
  prop-held true a r q = at_in_lem r q

  module _ (at : Bool) (a : Part) (i : PropName s t at a) where
    pub prop_halt : {c p : ℕ} → next (stream s t) ≡ refused c p → parse_prop (stream s t) ≡ refused c p
    unfolding and_then
    prop_halt f = prop-by at a i ∙ named_by _ _ ∙ rw f

    module _ {us : Tokens ℕ} (f : next (stream s t) ≡ read tt us) where
      pub prop-value_halt : {c p : ℕ} → parse_value us ≡ refused c p → parse_prop (stream s t) ≡ refused c p
      unfolding and_then ◌>>=◌
      prop-value_halt g = prop-by at a i ∙ named_by _ _ ∙ rw (f, and_then, g)

      prop-read : {parts : List (PropPart ℕ)} {vs : Tokens ℕ} → parse_value us ≡ read parts vs
          → parse_prop (stream s t) ≡ read (prop_of (start_in t) at (part_of s a) parts) vs
      unfolding and_then ◌>>=◌ pure
      prop-read g = prop-by at a i ∙ named_by _ _ ∙ rw (f, and_then, g)

    module _ {l : Lent} {u : Token} (f : Ready s t l) (h : (next (stream s t) ≡ read tt (stream s u)) × LiesIn s (end_in t) u) where
      pub prop-next : Onward s t u 1
      prop-next = (next-got s f.lies (prop-held at a f i).holds h).onward

      pub prop-given : {p v count : ℕ} {w : Token} {k m n : Lent} → Lists (parse_value (stream s u)) (nodes_of part_branch) s u 0 k w m count → p ≡ start_in t
          → v ≡ flag at → Stores (node 5 p (cut s a.from a.to) v 0 count ∷ []) m n → Gives (parse_prop (stream s t)) (nodes_of prop_branch) s t k w n
      prop-given g o z st =
          let d = prop-held at a f i in
          let w = next-got s f.lies d.holds h in
          record {
            value = prop_of (start_in t) at (part_of s a) g.items;
            gives = prop-read h.0 g.gives;
            onward = onward-least 1 (onward_then w.onward g.onward) (omega arith);
            lays = rw (nodes-over part_branch _ g.items, d.part.bytes, ← z, g.counted, ← o) (lays_parent g.lays st w.onward w.past (omega arith));
          }
