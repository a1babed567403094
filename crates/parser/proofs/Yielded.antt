-- Expressions put together from what was read of them.
-- Assumes nothing.
use Prim.Native.Nat.{ℕ, zero, suc, ◌+◌, ◌*◌, ◌≤◌, ◌<◌}
use native.Mathlib.Omega.{arith}
use mathlib.Core.Path.{◌≡◌, refl, ap, sym, ◌∙◌}
use mathlib.Core.Bool.{Bool, true, false}
use mathlib.Core.List.{List, [], ◌∷◌, ◌++◌, append-nil}
use mathlib.Core.Option as M
use mathlib.Core.Option.{none, some}
use lib.Dec.{eqb}
use lib.ListN.{length, length-append}
use borrow.Author.Tests.{eqb-false}
use Rattle.std.specs.Prelude.{Result, Ok, Err}
use Rattle.error.specs.declared.Stop.{Stop}
use Rattle.characters.specs.Utf8.{encode_all}
use Rattle.lexer.specs.Tokens.{Tokens}
use Rattle.lexer.specs.Escapes.{decode_string}
use Rattle.tree.specs.Records.{[]ᴮ, ◌∷ᴮ◌, count, Node, nodes, nodes_all, texts_of}
use Rattle.tree.specs.Stored.{each, prop_branch, specialize_value, expression_branch}
use Rattle.tree.specs.Syntax.{Expression, Prop, SpecializeKind, RepeatKind}
use Rattle.tree.proofs.Encoded.{texts-append}
use Rattle.notation.specs.Limits.{repeats}
use Rattle.notation.specs.Parser.{Answer, read, refused, Parser, and_then, ◌>>=◌, pure, kind, kind_of, mark_in, refuse_here, eat, size, turns, loop}
use Rattle.notation.specs.Expressions.{Item, content_by, reference_of, repeat_mark, repeat_by, parse_repeat, repeated, slots, sequence_of}
use Rattle.lexer.specs.Promise.{part_of}
use Rattle.tokens.specs.Promise.{stream, start_in, Expects}
use Rattle.parser.specs.Storing.{Lent, Stores, node, flat, nodes_of}
use Rattle.parser.specs.Steps.{placed, Onward, Lays, Ready, Lists}
use Rattle.parser.specs.Shapes.{stack_of, Shown, Yields, YieldsParts, ParsesParts, SpecializeParts, specialize_parts, SpecializeHeads, StoredContent, repeat_nodes, YieldsItems, sequence_shape}
use Rattle.lexer.specs.declared.Token.{Token}
use Rattle.parser.specs.declared.parts.Shape.{Shape}
use Rattle.parser.specs.declared.parts.Shape.TheVariants.{Literal, Repeat, Other}
use Rattle.parser.proofs.Stored.{stores-then}
use Rattle.parser.proofs.Onward.{start_small, onward-here, onward_then, onward-least, expect-onward}
use Rattle.parser.proofs.Lists.{length_snoc, lays-then, lays-between}
use Rattle.parser.proofs.Ready.{one-text, nodes-each, count-each}
use Rattle.parser.proofs.PartRules.{nodes-literal}
use Rattle.parser.proofs.ExpressionRules as R
use Rattle.parser.proofs.Shown.{nodes-repeated, nodes-sequence, several, alone, content-is, shown-within, yields_within, shown-special, shown-sequence, shown-repeat}

pub no_texts : length (texts_of []) ≡ 0
unfolding texts_of
no_texts = refl

-- a parent behind its children
module _ {D : Answer ℕ (Expression ℕ)} {s : List ℕ} {t u : Token} {i : ℕ} {xs : List Node} {y : Node} {a b c : Lent} {p : ℕ} {shape : Shape} where
  pub yields-over : (e : Expression ℕ) (j : ℕ) → D ≡ read e (stream s u) → Onward s t u i → Stores xs a b → Stores (y ∷ []) b c → nodes (expression_branch e) ≡ xs ++ y ∷ []
      → length xs + 1 + 2 * placed s t ≤ 2 * placed s u + j → length (texts_of xs) + length y.row.text + 3 * placed s t ≤ 3 * placed s u → Shown s t u e p shape
      → Yields D s t i j a u c p shape
  yields-over e j g o f h n bound space x =
      let l = length-append xs (y ∷ []) in
      let m = ap length (texts-append xs (y ∷ [])) ∙ length-append (texts_of xs) (texts_of (y ∷ [])) in
      let k = one-text y in
      record {
        tree = e;
        gives = g;
        onward = o;
        lays = record { stores = rw n (stores-then f h); bound = rw n (omega arith); space = rw n (omega arith) };
        shown = x;
      }

-- ------------------------------------------------------------------ specialize

pub nodes-special : (p : ℕ) (k : SpecializeKind) (ps : List (Prop ℕ)) (e f : Expression ℕ) → nodes (expression_branch (Expression.special p k ps e f))
    ≡ (flat (nodes_of prop_branch) ps ++ (nodes (expression_branch e) ++ nodes (expression_branch f))) ++ node 31 p [] (specialize_value k) 0 (length ps + 2) ∷ []
unfolding expression_branch encode_all nodes count
nodes-special p k ps e f =
    let n : nodes_all (each prop_branch ps (expression_branch e ∷ᴮ expression_branch f ∷ᴮ []ᴮ)) ≡ flat (nodes_of prop_branch) ps ++ (nodes (expression_branch e) ++ nodes (expression_branch f)) =
    nodes-each prop_branch ps (expression_branch e ∷ᴮ expression_branch f ∷ᴮ []ᴮ) ∙ rw append-nil in
    rw (n, count-each prop_branch ps (expression_branch e ∷ᴮ expression_branch f ∷ᴮ []ᴮ))

-- two parts, with a comma before the second
pub parts-two : {D : Answer ℕ SpecializeParts} {C E : Answer ℕ (Expression ℕ)} {s : List ℕ} {t u v w : Token} {a b c : Lent} {p q : ℕ} {f h : Shape}
    (g : Yields C s t 0 2 a u b p f) (k : Yields E s v 1 0 b w c q h) → Onward s u v 1 → D ≡ read (record { token = g.tree; content = k.tree }) (stream s w) → YieldsParts D s t a w c
parts-two {s = s} {t} {u} {v} {w} {a} {b} {c} g k o e =
    let x = o.ahead in
    let y : Lays s t v 0 (nodes (expression_branch g.tree)) a b = lays-between 0 g.lays (omega arith) (omega arith) (omega arith) in
    let z : Lays s t w 0 (nodes (expression_branch g.tree) ++ nodes (expression_branch k.tree)) a c = lays-then y k.lays in
    record {
      parts = record { token = g.tree; content = k.tree };
      gives = e;
      onward = onward-least 1 (onward_then (onward_then g.onward o) k.onward) (omega arith);
      lays = lays-between 1 z (omega arith) (omega arith) (omega arith);
    }

-- one part, which is a literal, and again as the content
module _ {C : Answer ℕ (Expression ℕ)} {s : List ℕ} {t u : Token} {a b c : Lent} {p : ℕ} {f : Shape} (g : Yields C s t 0 2 a u b p f) (x : StoredContent s p f b c) where
  abbrev again : Expression ℕ
  again = Expression.literal p (decode_string (part_of s x.body))

  literal-shown : Shown s t u g.tree p (Literal x.body)
  literal-shown = rw x.is at g.shown

  pub content-again : (start : ℕ) → content_by start (reference_of g.tree) (stream s u) ≡ read again (stream s u)
  unfolding pure
  content-again start = content-is s t u g.tree start p f g.shown (stream s u) ∙ rw x.is

  pub parts-one : {D : Answer ℕ SpecializeParts} {w : Token} → Onward s u w 1 → D ≡ read (record { token = g.tree; content = again }) (stream s w) → YieldsParts D s t a w c
  parts-one o e =
      let y = o.ahead in
      let r = literal-shown.refers in
      let n = g.onward.ahead in
      let i : nodes (expression_branch g.tree) ≡ node 36 p (encode_all (decode_string (part_of s x.body))) 0 0 0 ∷ [] =
      ap (λ (e : Expression ℕ). nodes (expression_branch e)) r.is ∙ nodes-literal p (decode_string (part_of s x.body)) in
      let j = nodes-literal p (decode_string (part_of s x.body)) in
      let z = one-text (node 36 p (encode_all (decode_string (part_of s x.body))) 0 0 0) in
      let m = ap length (texts-append (node 36 p (encode_all (decode_string (part_of s x.body))) 0 0 0 ∷ []) (node 36 p (encode_all (decode_string (part_of s x.body))) 0 0 0 ∷ []))
      ∙ length-append (texts_of (node 36 p (encode_all (decode_string (part_of s x.body))) 0 0 0 ∷ [])) (texts_of (node 36 p (encode_all (decode_string (part_of s x.body))) 0 0 0 ∷ [])) in
      let few = x.few in
      let between = r.between in
      record {
        parts = record { token = g.tree; content = again };
        gives = e;
        onward = onward_then g.onward o;
        lays = record {
          stores = stores-then g.lays.stores (rw j x.stores);
          bound = rw (i, j) (omega arith);
          space = rw (i, j) (omega arith);
        };
      }

-- with `>` behind them, or its refusal
module _ (below : Parser ℕ (Expression ℕ)) (start : ℕ) {s : List ℕ} {t u : Token} {a b : Lent} {p : ℕ} {f : Shape} (g : Yields (below (stream s t)) s t 0 2 a u b p f) where
  pub pair_two : {v w : Token} {c : Lent} {q : ℕ} {h : Shape} → Yields (below (stream s v)) s v 0 2 b w c q h → Onward s u v 1 → eat "," (stream s u) ≡ read true (stream s v)
      → (r : Result Token Stop) → Expects s w 0x3E r → ParsesParts (specialize_parts below start (stream s t)) s t a c r
  pair_two {v} {w} k o e (Ok z) x =
      let q = expect-onward s ">" w (omega arith) k.onward.lies x in
      let i = yields_within k (onward-here s v o.lies) q (R.second-done below (stream s v) k.gives (x.expects ">" refl)) (omega arith) in
      parts-two g i o (R.parts-both below start (stream s t) g.gives e i.gives)
  pair_two {v} k o e (Err d) x = R.parts-second below start (stream s t) g.gives e (R.second-close below (stream s v) k.gives (x.expects ">" refl))

  pub pair_one : {c : Lent} → StoredContent s p f b c → eat "," (stream s u) ≡ read false (stream s u) → (r : Result Token Stop) → Expects s u 0x3E r
      → ParsesParts (specialize_parts below start (stream s t)) s t a c r
  pair_one x e (Ok z) y =
      parts-one g x (expect-onward s ">" u (omega arith) g.onward.lies y) (R.parts-one below start (stream s t) g.gives e (content-again g x start) (y.expects ">" refl))
  pair_one x e (Err d) y = R.parts-one-close below start (stream s t) g.gives e (content-again g x start) (y.expects ">" refl)

pub special-over : {D : Answer ℕ (Expression ℕ)} {C : Answer ℕ SpecializeParts} {s : List ℕ} {t u v : Token} {a b c d : Lent} {count m : ℕ} (k : SpecializeKind) (p : ℕ)
    (h : SpecializeHeads s t a u b count) (x : YieldsParts C s u b v c) → p ≤ length s → m ≡ specialize_value k → Stores (node 31 p [] m 0 (count + 2) ∷ []) c d
    → D ≡ read (Expression.special p k h.lists.items x.parts.token x.parts.content) (stream s v) → Yields D s t 1 0 a v d p Other
special-over {s = s} {t} {u} {v} {count = count} k p h x z e f g =
    let l = length-append (flat (nodes_of prop_branch) h.lists.items) (nodes (expression_branch x.parts.token) ++ nodes (expression_branch x.parts.content)) in
    let m = ap length (texts-append (flat (nodes_of prop_branch) h.lists.items) (nodes (expression_branch x.parts.token) ++ nodes (expression_branch x.parts.content)))
    ∙ length-append (texts_of (flat (nodes_of prop_branch) h.lists.items)) (texts_of (nodes (expression_branch x.parts.token) ++ nodes (expression_branch x.parts.content))) in
    let sp = h.spare in
    let q = x.lays.bound in
    let n = h.lists.lays.space in
    let w = x.lays.space in
    yields-over (Expression.special p k h.lists.items x.parts.token x.parts.content) 0 g
    (onward-least 1 (onward_then h.lists.onward x.onward) (omega arith))
    (stores-then h.lists.lays.stores x.lays.stores)
    f
    (rw (e, ← h.lists.counted) (nodes-special p k h.lists.items x.parts.token x.parts.content))
    (omega arith)
    (omega arith)
    (shown-special s t v p z k h.lists.items x.parts.token x.parts.content)

-- ------------------------------------------------------------------ repeats

-- what holds of the items of a loop from turn to turn holds of all that it reads
module _ {A : Type 0} (step : List A → Parser ℕ (M.Option A)) (P : List A → Type 0) (turn : (is : List A) (ts us : Tokens ℕ) (x : A) → P is → step is ts ≡ read (some x) us → P (is ++ x ∷ [])) where
  turns-keep : (n : ℕ) (is : List A) (ts : Tokens ℕ) → P is → (xs : List A) (us : Tokens ℕ) → turns n step is ts ≡ read xs us → P xs
  unfolding turns ◌>>=◌ and_then pure refuse_here
  turns-keep zero is ts h xs us e = absurd (let z : ◌≡◌ {A = ℕ} 0 1 = cc in omega arith)
  turns-keep (suc n) is ts h xs us e = go (λ b vs q. turns-keep n b vs q xs us) (step is ts) refl e
    where
      go : ((b : List A) (vs : Tokens ℕ) → P b → turns n step b vs ≡ read xs us → P xs) → (r : Answer ℕ (M.Option A)) → step is ts ≡ r
          → and_then r (λ x. elim x as (λ x. Parser ℕ (List A)) [ none ↦ pure is | some a ↦ turns n step (is ++ a ∷ []) ]) ≡ read xs us → P xs
      go f (read none vs) q k = let z : is ≡ xs = cc in rw (← z) h
      go f (read (some x) vs) q k = f (is ++ x ∷ []) vs (turn is ts vs x h q) k
      go f (refused c p) q k = absurd (let z : ◌≡◌ {A = ℕ} 0 1 = cc in omega arith)

  loop-keeps : (ts : Tokens ℕ) → P [] → (xs : List A) (us : Tokens ℕ) → loop step ts ≡ read xs us → P xs
  unfolding loop
  loop-keeps ts h xs us e = turns-keep (suc (suc (size ts))) [] ts h xs us e

room_by : (o : M.Option RepeatKind) (b : Bool) (ts us : Tokens ℕ) (x : RepeatKind) → repeat_by o b ts ≡ read (some x) us → b ≡ false
unfolding repeat_by pure refuse_here
room_by none true ts us x e = absurd (let z : ◌≡◌ {A = ℕ} 0 1 = cc in omega arith)
room_by none false ts us x e = refl
room_by (some r) true ts us x e = absurd (let z : ◌≡◌ {A = ℕ} 0 1 = cc in omega arith)
room_by (some r) false ts us x e = refl

low : (a b k r : ℕ) → k + b ≤ r → (k + b ≡ r → ⊥) → a ≡ b + 1 → k + a ≤ r
low a b k r h z e = omega arith

bare : (p : ℕ) (rs : List RepeatKind) (e : Expression ℕ) → length rs ≡ 0 → repeated p rs e ≡ e
unfolding repeated
bare p [] e z = refl
bare p (r ∷ rs) e z = absurd (omega arith)

-- a mark is taken only where the stack is not full
repeat-room : (k : ℕ) (is : List RepeatKind) (ts us : Tokens ℕ) (x : RepeatKind) → parse_repeat k is ts ≡ read (some x) us → eqb (k + length is) repeats ≡ false
unfolding parse_repeat kind ◌>>=◌ and_then
repeat-room k is ts us x e = room_by (repeat_mark (mark_in (kind_of ts))) (eqb (k + length is) repeats) ts us x e

pub stack-low : (k : ℕ) (ts us : Tokens ℕ) (rs : List RepeatKind) → k ≤ repeats → loop (parse_repeat k) ts ≡ read rs us → k + length rs ≤ repeats
stack-low k ts us rs h e =
    loop-keeps (parse_repeat k) (λ is. k + length is ≤ repeats)
    (λ is ts us x q f. low (length (is ++ x ∷ [])) (length is) k repeats q (eqb-false (k + length is) repeats (repeat-room k is ts us x f)) (length_snoc is x))
    ts (omega arith) rs us e

pub small-stack : {m c k n i : ℕ} → m ≡ k → i ≡ k → n ≡ c → i + n ≤ repeats → m + c < 18446744073709551616
unfolding repeats
small-stack a b d h = omega arith

-- an operand without marks, and with marks
module _ {C : Answer ℕ (Expression ℕ)} {B : Answer ℕ (List RepeatKind)} {s : List ℕ} {t u v : Token} {a b c : Lent} {p start count : ℕ} {shape : Shape}
    (g : Yields C s t 1 0 a u b p shape) (l : Lists B (repeat_nodes start) s u 0 b v c count) where
  both-lays : Lays s t v 0 (nodes (expression_branch (repeated start l.items g.tree))) a c
  both-lays = rw (nodes-repeated start l.items g.tree) (lays-then g.lays l.lays)

  pub suffix_plain : {D : Answer ℕ (Expression ℕ)} → D ≡ read (repeated start l.items g.tree) (stream s v) → count ≡ 0 → Yields D s t 1 0 a v c p shape
  suffix_plain e z =
      let n : repeated start l.items g.tree ≡ g.tree = bare start l.items g.tree (l.counted ∙ z) in
      let o = l.onward.ahead in
      record {
        tree = g.tree;
        gives = rw n at e;
        onward = onward_then g.onward l.onward;
        lays = rw n at both-lays;
        shown = shown-within g.shown (omega arith) (omega arith);
      }

  pub suffix_repeated : {D : Answer ℕ (Expression ℕ)} {m : ℕ} → D ≡ read (repeated start l.items g.tree) (stream s v) → (count ≡ 0 → ⊥) → start ≤ length s → m ≡ stack_of shape → m + count ≤ repeats
      → Yields D s t 1 0 a v c start (Repeat (m + count))
  suffix_repeated {m = m} e z h i low =
      record {
        tree = repeated start l.items g.tree;
        gives = e;
        onward = onward_then g.onward l.onward;
        lays = both-lays;
        shown = shown-repeat s t v start h l.items g.tree (m + count) (rw (g.shown.stacks, ← i, l.counted)) low (λ y. z (sym l.counted ∙ y));
      }

-- ------------------------------------------------------------------ where to go on

module _ {s : List ℕ} {t : Token} {a : Lent} (r : Ready s t a) where
  pub ready_start : start_in t ≤ length s
  ready_start = start_small s t r.lies

  pub special_ready : {C : Answer ℕ SpecializeParts} {u v : Token} {b c : Lent} {count : ℕ} → SpecializeHeads s t a u b count → YieldsParts C s u b v c → Ready s v c
  special_ready {v = v} h g =
      let p₁ = r.room in
      let q₁ = r.space in
      let c = h.spare in
      let d = h.lists.lays.space in
      let e = h.lists.lays.stores.words-end in
      let f = h.lists.lays.stores.texts-end in
      let i = g.lays.bound in
      let j = g.lays.space in
      let l = g.lays.stores.words-end in
      let o = g.lays.stores.texts-end in
      record { lies = g.onward.lies; small = r.small; room = omega arith; space = omega arith }

-- ------------------------------------------------------------------ sequences

module _ {D : Answer ℕ (Expression ℕ)} {B : Answer ℕ (List (Item ℕ))} {s : List ℕ} {t u : Token} {a b : Lent} {m e p : ℕ} {shape : Shape} (y : YieldsItems B s t a u b m e p shape) where
  -- one expression alone
  pub sequence-alone : (start : ℕ) → D ≡ read (sequence_of start (slots [] y.lists.items)) (stream s u) → m ≡ 0 → e ≡ 1 → Yields D s t 0 1 a u b p shape
  sequence-alone start g z o =
      let x = alone s t u start p shape y.lists.items (y.counted ∙ z) (y.others ∙ o) y.shown in
      record {
        tree = sequence_of start (slots [] y.lists.items);
        gives = g;
        onward = y.lists.onward;
        lays = rw x.1 (lays-between 1 y.lists.lays (omega arith) (omega arith) (omega arith));
        shown = x.0;
      }

  pub sequence-over : {c : Lent} (start : ℕ) → D ≡ read (sequence_of start (slots [] y.lists.items)) (stream s u) → (m ≡ 0 → e ≡ 1 → ⊥) → start ≤ length s
      → Stores (node 34 start [] 0 0 (m + e) ∷ []) b c → Yields D s t 0 1 a u c start (sequence_shape e)
  sequence-over start g z h f =
      let n = several start y.lists.items (λ i j. z (sym y.counted ∙ i) (sym y.others ∙ j)) in
      let q = y.lists.lays.bound in
      let w = y.lists.lays.space in
      rw (← y.others) (
      yields-over (Expression.sequence start (slots [] y.lists.items)) 1 (rw n at g) y.lists.onward y.lists.lays.stores f
      (rw (← y.lists.counted) (nodes-sequence start y.lists.items)) (omega arith) (omega arith) (shown-sequence s t u start h y.lists.items))
