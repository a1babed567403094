-- The heads of rules and of specialize, repeats and markers: what their definitions give, and what is then stored.
-- Assumes nothing.
use Prim.Native.Nat.{ℕ, zero, suc, ◌+◌, ◌≤◌, ◌<◌, ◌^◌}
use native.Mathlib.Omega.{arith}
use mathlib.Core.Path.{◌≡◌, refl, ap, sym, ◌∙◌}
use mathlib.Core.Bool.{Bool, true, false, ◌&&◌}
use mathlib.Core.List.{List, [], ◌∷◌}
use mathlib.Core.Option as M
use mathlib.Core.Option.{none, some}
use Rattle.std.specs.Prelude.{Option, Some, None, Ok}
use borrow.Author.Tests.{eq-eqb, ne_eqb}
use lib.Dec.{eqb}
use lib.ListN.{length}
use Rattle.basics.specs.Basics.{same, spells}
use Rattle.error.specs.Causes.{too_deep, one_part}
use Rattle.characters.specs.Utf8.{codes, encode_all}
use Rattle.characters.specs.Places.{cut}
use Rattle.lexer.specs.Tokens.{Tokens}
use Rattle.lexer.specs.Escapes.{decode_string}
use Rattle.lexer.specs.Promise.{is_plain, IsPart, part_of}
use Rattle.lexer.proofs.Spelled.{spells-codes}
use Rattle.tree.specs.Promise.{repeat_of}
use Rattle.tree.specs.declared.RepeatKind.{RepeatKind as Repeats}
use Rattle.tree.specs.Stored.{prop_branch, name_branch, marker_number, repeat_value, named}
use Rattle.tree.specs.Syntax.{Identifier, Prop, RepeatKind, ConflictMarkerKind}
use Rattle.notation.specs.Limits.{repeats}
use Rattle.notation.specs.Parser.{read, refused, and_then, ◌>>=◌, pure, refuse, refuse_here, kind, next, expect, parse_identifier, loop}
use Rattle.notation.specs.Expressions.{marker, parse_props, repeat_mark, repeat_by, parse_repeat}
use Rattle.tokens.specs.Promise.{stream, start_in, end_in, mark_of, LiesIn, Identifies, Expects, Whole}
use Rattle.parser.specs.Storing.{Lent, Stores, node, flat, nodes_of}
use Rattle.parser.specs.Steps.{Onward, Ready, Gives, Lists}
use Rattle.parser.specs.Shapes.{IsToken, repeated_of, repeat_nodes, parse_params, parse_head, Heads, parse_marker, YieldsMarker, specialize_head, SpecializeHeads, is_std, sequence_shape, content_of, ReadyContent, StoredContent}
use Rattle.lexer.specs.declared.Token.{Token}
use Rattle.lexer.specs.declared.Token.TheVariants.{Of, Eof}
use Rattle.lexer.specs.declared.Part.{Part}
use Rattle.parser.specs.declared.parts.Shape.{Shape}
use Rattle.parser.specs.declared.parts.Shape.TheVariants.{Name, Literal, Repeat, Blank, Other}
use Rattle.tokens.proofs.Stream.{start-of, mark-of}
use Rattle.parser.proofs.Onward.{placed_in, onward_then, onward-least, next-onward, expect-onward}
use Rattle.parser.proofs.Lists.{lays-then, lays-between, Listing, listing-turn, listing-over, listing-refused}
use Rattle.parser.proofs.Ready.{Held, Got, Short, cut-length, name-got, stored-text, lays-leaf, nodes-leaf}

-- ------------------------------------------------------------------ names

-- a name as a node of a kind
pub name-given : (k : ℕ) (s : List ℕ) (t : Token) {u : Token} {a : Part} {p : ℕ} {b c : Lent} → LiesIn s 0 t → Identifies s t (Ok (a, u)) → p ≡ start_in t
    → Stores (node k p (cut s a.from a.to) 0 0 0 ∷ []) b c → Gives (parse_identifier (stream s t)) (nodes_of (name_branch k)) s t b u c
name-given k s t {u} {a} l i d st =
    let m = name-got s l i in
    record {
      value = record { start = start_in t; name = part_of s a };
      gives = i.takes;
      onward = m.1.onward;
      lays = rw (nodes-leaf (named k (start_in t) (part_of s a)), m.0.part.bytes, ← d) (lays-leaf st m.1.onward m.1.past);
    }

-- ------------------------------------------------------------------ the head of a rule

module _ (ts : Tokens ℕ) where
  pub head-props : {c p : ℕ} → parse_props ts ≡ refused c p → parse_head ts ≡ refused c p
  unfolding parse_head ◌>>=◌ and_then
  head-props e = rw (parse_head, e)

  module _ {ps : List (Prop ℕ)} {us : Tokens ℕ} (e : parse_props ts ≡ read ps us) where
    pub head-params : {c p : ℕ} → parse_params us ≡ refused c p → parse_head ts ≡ refused c p
    unfolding parse_head ◌>>=◌ and_then
    head-params f = rw (parse_head, e, and_then, f)

    pub head_read : {ns : List (Identifier ℕ)} {vs : Tokens ℕ} → parse_params us ≡ read ns vs → parse_head ts ≡ read (record { props = ps; params = ns }) vs
    unfolding parse_head ◌>>=◌ and_then pure
    head_read f = rw (parse_head, e, and_then, f)

pub heads : {s : List ℕ} {t u v : Token} {i j : ℕ} {a b c : Lent} → Lists (parse_props (stream s t)) (nodes_of prop_branch) s t 0 a u b i
    → Lists (parse_params (stream s u)) (nodes_of (name_branch 4)) s u 0 b v c j → Heads s t a v c i j
heads {s} {t} f g =
    record {
      listed = f.items;
      names = g.items;
      gives = head_read (stream s t) f.gives g.gives;
      counted = f.counted;
      numbered = g.counted;
      onward = onward_then f.onward g.onward;
      lays = lays-then f.lays g.lays;
    }

-- ------------------------------------------------------------------ the head of a specialize

module _ (ts : Tokens ℕ) where
  pub keyword-refused : {c p : ℕ} → next ts ≡ refused c p → specialize_head ts ≡ refused c p
  unfolding specialize_head ◌>>=◌ and_then
  keyword-refused e = rw (specialize_head, e)

  module _ {us : Tokens ℕ} (e : next ts ≡ read tt us) where
    pub keyword-props : {c p : ℕ} → parse_props us ≡ refused c p → specialize_head ts ≡ refused c p
    unfolding specialize_head ◌>>=◌ and_then
    keyword-props f = rw (specialize_head, e, and_then, f)

    module _ {ps : List (Prop ℕ)} {vs : Tokens ℕ} (f : parse_props us ≡ read ps vs) where
      pub keyword-angle : {c p : ℕ} → expect "<" vs ≡ refused c p → specialize_head ts ≡ refused c p
      unfolding specialize_head ◌>>=◌ and_then
      keyword-angle g = rw (specialize_head, e, and_then, f, g)

      pub keyword-read : {ws : Tokens ℕ} → expect "<" vs ≡ read tt ws → specialize_head ts ≡ read ps ws
      unfolding specialize_head ◌>>=◌ and_then pure
      keyword-read g = rw (specialize_head, e, and_then, f, g)

pub keyword-heads : (s : List ℕ) (t : Token) {u v w : Token} {i : ℕ} {c a b : Lent} → Ready s t c → IsToken t → (next (stream s t) ≡ read tt (stream s u)) × LiesIn s (end_in t) u
    → Lists (parse_props (stream s u)) (nodes_of prop_branch) s u 0 a v b i → Expects s v 0x3C (Ok w) → SpecializeHeads s t a w b i
keyword-heads s t {u} {v} {w} y k h l o =
    let d = next-onward s t k y.lies h in
    let m = expect-onward s "<" v (omega arith) l.onward.lies o in
    let d₁ = d.ahead in
    let m₁ = m.ahead in
    let l₁ = l.lays.bound in
    record {
      lists = record {
        items = l.items;
        gives = keyword-read (stream s t) h.0 l.gives (o.expects "<" refl);
        counted = l.counted;
        onward = onward_then d (onward_then l.onward m);
        lays = lays-between 0 l.lays (omega arith) (omega arith) (omega arith);
      };
      spare = omega arith;
    }

-- ------------------------------------------------------------------ repeats

module _ {o : M.Option RepeatKind} where
  pub repeated-some : {r : Option Repeats} {k : Repeats} → repeated_of r ≡ o → r ≡ Some k → o ≡ some (repeat_of k)
  repeated-some e q = sym e ∙ rw q

  pub repeated-none : {r : Option Repeats} → repeated_of r ≡ o → r ≡ None → o ≡ none
  repeated-none e q = sym e ∙ rw q

pub repeat-token : (t : Token) {k : RepeatKind} → repeat_mark (mark_of t) ≡ some k → IsToken t
repeat-token (Of k start end) e = tt
repeat-token (Eof p) e = absurd (let z : ◌≡◌ {A = ℕ} 0 1 = cc in omega arith)

module _ (s : List ℕ) (t : Token) (stack : ℕ) (is : List RepeatKind) where
  repeat-is : parse_repeat stack is (stream s t) ≡ repeat_by (repeat_mark (mark_of t)) (eqb (stack + length is) repeats) (stream s t)
  unfolding parse_repeat ◌>>=◌ and_then kind
  repeat-is = rw (mark-of s t)

  pub repeat-none : repeat_mark (mark_of t) ≡ none → parse_repeat stack is (stream s t) ≡ read none (stream s t)
  unfolding repeat_by pure
  repeat-none e = repeat-is ∙ rw e

  module _ {k : RepeatKind} (e : repeat_mark (mark_of t) ≡ some k) where
    pub repeat-full : {p : ℕ} → stack + length is ≡ repeats → p ≡ start_in t → parse_repeat stack is (stream s t) ≡ refused too_deep p
    unfolding repeat_by refuse_here
    repeat-full h d = repeat-is ∙ rw (e, eq-eqb (stack + length is) repeats h, repeat_by, start-of s t, d)

    module _ (h : stack + length is ≡ repeats → ⊥) where
      pub repeat_halt : {c p : ℕ} → next (stream s t) ≡ refused c p → parse_repeat stack is (stream s t) ≡ refused c p
      unfolding repeat_by ◌>>=◌ and_then
      repeat_halt f = repeat-is ∙ rw (e, ne_eqb (stack + length is) repeats h, f)

      pub repeat-more : {us : Tokens ℕ} → next (stream s t) ≡ read tt us → parse_repeat stack is (stream s t) ≡ read (some k) us
      unfolding repeat_by ◌>>=◌ and_then pure
      repeat-more f = repeat-is ∙ rw (e, ne_eqb (stack + length is) repeats h, f)

repeats-count : (p : ℕ) (rs : List RepeatKind) → length (flat (repeat_nodes p) rs) ≡ length rs
unfolding flat
repeats-count p [] = refl
repeats-count p (r ∷ rs) = ap suc (repeats-count p rs)

-- a turn
module _ (stack p : ℕ) {s : List ℕ} {t₀ t : Token} {count : ℕ} {a b : Lent} (l : Listing (parse_repeat stack) (repeat_nodes p) s t₀ 0 a t b count) where
  pub repeats-small : length s ≤ 0x200000 → count ≤ 0x400000
  repeats-small h =
      let e = repeats-count p l.items in
      let q = l.lays.bound in
      let d = l.counted in
      let o = placed_in s t l.onward.lies in
      omega arith

  full_at : stack + count ≡ repeats → stack + length l.items ≡ repeats
  full_at h = rw l.counted h

  pub repeats-over : repeat_mark (mark_of t) ≡ none → Lists (loop (parse_repeat stack) (stream s t₀)) (repeat_nodes p) s t₀ 0 a t b count
  repeats-over e = listing-over l (repeat-none s t stack l.items e) refl

  module _ {k : RepeatKind} (e : repeat_mark (mark_of t) ≡ some k) where
    pub repeats-full : {o : ℕ} → stack + count ≡ repeats → o ≡ start_in t → loop (parse_repeat stack) (stream s t₀) ≡ refused too_deep o
    repeats-full h d = listing-refused l (repeat-full s t stack l.items e (full_at h) d)

    module _ (h : stack + count ≡ repeats → ⊥) where
      below-full : stack + length l.items ≡ repeats → ⊥
      below-full z = h (rw l.counted at z)

      pub repeats_halt : {c o : ℕ} → next (stream s t) ≡ refused c o → loop (parse_repeat stack) (stream s t₀) ≡ refused c o
      repeats_halt f = listing-refused l (repeat_halt s t stack l.items e below-full f)

      pub repeats-more : {u : Token} {v : ℕ} {c : Lent} → (next (stream s t) ≡ read tt (stream s u)) × LiesIn s (end_in t) u → v ≡ repeat_value k → Stores (node 35 p [] v 0 1 ∷ []) b c
          → Onward s t u 1 × Listing (parse_repeat stack) (repeat_nodes p) s t₀ 0 a u c (count + 1)
      repeats-more f d st =
          let o = next-onward s t (repeat-token t e) l.onward.lies f in
          let y = o.ahead in
          (o, listing-turn l (repeat-more s t stack l.items e below-full f.0) o (lays-leaf (rw d at st) o (omega arith)))

-- ------------------------------------------------------------------ markers

module _ (p : ℕ) (m : ConflictMarkerKind) (ts : Tokens ℕ) where
  pub marker-refused : {c q : ℕ} → next ts ≡ refused c q → parse_marker p m ts ≡ refused c q
  unfolding parse_marker ◌>>=◌ and_then
  marker-refused e = rw (parse_marker, e)

  module _ {us : Tokens ℕ} (e : next ts ≡ read tt us) where
    pub marker-name : {c q : ℕ} → parse_identifier us ≡ refused c q → parse_marker p m ts ≡ refused c q
    unfolding parse_marker ◌>>=◌ and_then
    marker-name f = rw (parse_marker, e, and_then, f)

    pub marker-read : {n : Identifier ℕ} {vs : Tokens ℕ} → parse_identifier us ≡ read n vs → parse_marker p m ts ≡ read (some (marker (record { start = p; kind = m; name = n.name }))) vs
    unfolding parse_marker ◌>>=◌ and_then pure
    marker-read f = rw (parse_marker, e, and_then, f)

module _ (s : List ℕ) (t : Token) {l : Lent} {a : Part} {u v : Token} (y : Ready s t l) (k : IsToken t) (h : (next (stream s t) ≡ read tt (stream s u)) × LiesIn s (end_in t) u)
    (i : Identifies s u (Ok (a, v))) where
  -- the mark, and the name behind it
  pub marker-named : Onward s t u 1 × Held s u a × Got s u (cut s a.from a.to) v
  marker-named =
      let d = next-onward s t k y.lies h in
      let m = name-got s d.lies i in
      (d, m.0, m.1)

  pub marker-yields : (m : ConflictMarkerKind) {o p : ℕ} {b c : Lent} → o ≡ marker_number m → p ≡ start_in t → Stores (node o p (cut s a.from a.to) 0 0 0 ∷ []) b c
      → YieldsMarker (parse_marker (start_in t) m (stream s t)) s t b v c
  marker-yields m w z st =
      let d = marker-named.0 in
      let f = marker-named.2 in
      let d₁ = d.ahead in
      let f₁ = f.past in
      let on : Onward s t v 1 = onward-least 1 (onward_then d f.onward) (omega arith) in
      record {
        mark = record { start = start_in t; kind = m; name = part_of s a };
        gives = marker-read (start_in t) m (stream s t) h.0 i.takes;
        onward = on;
        lays = rw (nodes-leaf (named (marker_number m) (start_in t) (part_of s a)), marker-named.1.part.bytes, ← w, ← z) (lays-leaf st on (omega arith));
      }

-- ------------------------------------------------------------------ small tests

pub shape_some : (n : ℕ) → (n ≡ 0 → ⊥) → Other ≡ sequence_shape n
shape_some zero h = absurd (h refl)
shape_some (suc n) h = refl

and-true : (b : Bool) → b && true ≡ b
and-true true = refl
and-true false = refl

module _ (s : List ℕ) (a : Part) (u : Token) {c : ℕ} (e : c ≡ mark_of u) where
  pub std_spelled : {r : Bool} → c ≡ 0x2E → r ≡ spells "std" (part_of s a) → r ≡ is_std s a u
  std_spelled h q = q ∙ rw (sym e ∙ h) (sym (and-true (spells "std" (part_of s a))))

-- a word by the bytes of a part
pub part-spells : (s : List ℕ) {a : Part} (word : List ℕ) {r : Bool} → IsPart s a → is_plain word ≡ true → r ≡ same word (cut s a.from a.to) → r ≡ same word (part_of s a)
part-spells s {a} word p h q = q ∙ spells-codes word (cut s a.from a.to) h p.bytes

-- ------------------------------------------------------------------ content of a specialize

module _ {s : List ℕ} {p : ℕ} {l : Lent} {shape : Shape} {a : Part} (r : ReadyContent s p shape l) (e : shape ≡ Literal a) where
  pub content-part : IsPart s a
  content-part = rw e at r.part

  pub content-stored : {b c : Lent} → Stores (node 36 p (encode_all (decode_string (codes (cut s a.from a.to)))) 0 0 0 ∷ []) b c → c.x ≤ b.x + length (cut s a.from a.to)
      → StoredContent s p shape b c
  content-stored st few =
      let k = content-part in
      let w = cut-length s k in
      let j = k.forth in
      let z = stored-text st few in
      record { body = a; is = e; stores = st; few = omega arith }

-- no other shape has a content
pub content_refused : (s : List ℕ) (start p : ℕ) (shape : Shape) → ((a : Part) → shape ≡ Literal a → ⊥) → (ts : Tokens ℕ) → content_of s start p shape ts ≡ refused one_part start
unfolding refuse
content_refused s start p Name h ts = refl
content_refused s start p (Literal a) h ts = absurd (h a refl)
content_refused s start p (Repeat k) h ts = refl
content_refused s start p Blank h ts = refl
content_refused s start p Other h ts = refl

-- ------------------------------------------------------------------ inline rules

pub inline-part : {s : List ℕ} {part : Option Part} {a : Part} → Whole s part → part ≡ Some a → IsPart s a
inline-part h q = rw q at h

-- what storing a text that is no longer than the source asks
pub short_asks : {s : List ℕ} {n x p c : ℕ} {text : List ℕ} → length s ≤ 0x200000 → Short s text → p ≤ length s → c ≤ 0x40000000 → n ≤ 0x50000000 → x ≤ 0x50000000
    → (n + 7 < 2 ^ 64) × (p < 2 ^ 32) × (c < 2 ^ 32) × (x + length text < 2 ^ 32)
short_asks h w i j k l = let z = w.short in (omega arith, omega arith, omega arith, omega arith)
