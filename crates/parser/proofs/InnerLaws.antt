-- What the functions on expressions without their repeats say of what they read.
-- Assumes nothing.
use Prim.Native.Nat.{ℕ, zero, suc, ◌+◌, ◌-◌, ◌*◌, ◌≤◌, ◌<◌}
use native.Mathlib.Omega.{arith}
use mathlib.Core.Path.{◌≡◌, refl, ap, sym, ◌∙◌}
use mathlib.Core.Bool.{true}
use mathlib.Core.List.{List, [], ◌∷◌, ◌++◌, append-nil}
use mathlib.Core.Option as M
use Rattle.std.specs.Prelude.{Option, Some, None, Ok}
use lib.ListN.{length, length-append}
use lib.Dec.{ltb}
use Rattle.basics.specs.Basics.{letters, every}
use Rattle.error.specs.Causes.{unexpected_token, inline_parameters}
use Rattle.characters.specs.Utf8.{encode, encode_all}
use Rattle.characters.specs.Places.{cut}
use Rattle.lexer.specs.declared.Kind.TheVariants as K
use Rattle.lexer.specs.Tokens.{Tokens}
use Rattle.tree.specs.Records.{[]ᴮ, ◌∷ᴮ◌, count, Node, nodes, texts_of}
use Rattle.tree.specs.Stored.{prop_branch, name_branch, expression_branch}
use Rattle.tree.specs.Syntax.{Expression, Prop, expressions}
use Rattle.tree.proofs.Encoded.{texts-append}
use Rattle.notation.specs.Parser.{Answer, read, refused, Parser, and_then, ◌>>=◌, pure, next, eat, comma, size, loop, until_step}
use Rattle.notation.specs.Expressions.{parse_braced_expression, parse_arguments, choice_at, parse_inline_rule_expression, parse_parenthesized_expression, parse_expression_inner}
use Rattle.lexer.specs.Promise.{part_of}
use Rattle.tokens.specs.Promise.{stream, start_in, end_in, name_of, LiesIn, Whole}
use Rattle.parser.specs.Storing.{Lent, Stores, node, flat, nodes_of}
use Rattle.parser.specs.Steps.{placed, Onward, Lays, Ready, Lists, step_by, Opens}
use Rattle.parser.specs.Shapes.{IsToken, IsMark, Behind, Yields, YieldsBraced, name_arguments, Heads, inline_text, inline_bytes, InlineName, ReadyInline}
use Rattle.lexer.specs.declared.Token.{Token}
use Rattle.lexer.specs.declared.Token.TheVariants.{Of, Eof}
use Rattle.lexer.specs.declared.Part.{Part}
use Rattle.parser.specs.declared.props.Opened.TheVariants as P
use Rattle.parser.specs.declared.props.Comma.TheVariants.{Must}
use Rattle.parser.specs.declared.parts.Shape.{Shape}
use Rattle.parser.specs.declared.parts.Shape.TheVariants.{Name, Other}
use Rattle.parser.proofs.Onward.{placed_in, placed-from, end-in, onward-here, onward_then, onward-least, next-onward}
use Rattle.parser.proofs.Stored.{stores-then}
use Rattle.parser.proofs.Lists.{flat-none, lays-between, Listing, listing-more, listing-refused, opens-item}
use Rattle.parser.proofs.Openings.{item-onward}
use Rattle.parser.proofs.Ready.{one-text, ready_past, name_in_lem, holds-end, lays_parent, nodes-each, count-each, flat-length}
use Rattle.parser.proofs.InnerRules.{inner_paren, inner_anon, inner-mark, reference-done, inline-params, inline-done}
use Rattle.parser.proofs.Yielded.{ready_start}
use Rattle.parser.proofs.Shown.{nodes-name, shown-name, shown-inline, shown-within}

-- ------------------------------------------------------------------ tokens

pub mark-token : (t : Token) (c : ℕ) → IsMark t c → IsToken t
mark-token (Of k start end) c i = tt
mark-token (Eof p) c i = absurd i

pub next-behind : (s : List ℕ) (t : Token) {u : Token} → IsToken t → LiesIn s 0 t → (next (stream s t) ≡ read tt (stream s u)) × LiesIn s (end_in t) u → Behind s t u
next-behind s t {u} i l h =
    let w = end-in s t i l in
    record { on = next-onward s t i l h; past = placed-from s u (end_in t) h.1 w.1 }

-- the words that are looked for are ASCII
pub plain-any : every (λ c. ltb c 0x80) (letters "_") ≡ true
unfolding every
plain-any = refl

pub plain-specialize : every (λ c. ltb c 0x80) (letters "specialize") ≡ true
unfolding every
plain-specialize = refl

pub plain-extend : every (λ c. ltb c 0x80) (letters "extend") ≡ true
unfolding every
plain-extend = refl

-- ------------------------------------------------------------------ marks

mark-is : (t : Token) (c : ℕ) → IsMark t c → t ≡ Of (K.Punctuation c) (start_in t) (end_in t)
mark-is (Of k start end) c i = rw i
mark-is (Eof p) c i = absurd i

module _ (below : Parser ℕ (Expression ℕ)) (s : List ℕ) (t : Token) (c : ℕ) (h : IsMark t c) where
  pub paren_refused : c ≡ 0x28 → {d p : ℕ} → next (stream s t) ≡ refused d p → parse_expression_inner below (stream s t) ≡ refused d p
  unfolding ◌>>=◌ and_then
  paren_refused e n = inner_paren below s t (mark-is t c h) e ∙ rw n

  pub paren_read : c ≡ 0x28 → {us : Tokens ℕ} → next (stream s t) ≡ read tt us → parse_expression_inner below (stream s t) ≡ parse_parenthesized_expression below (start_in t) us
  unfolding ◌>>=◌ and_then
  paren_read e n = inner_paren below s t (mark-is t c h) e ∙ rw n

  pub mark_anon : c ≡ 0x5B → parse_expression_inner below (stream s t) ≡ parse_inline_rule_expression below (start_in t) (letters "_anon") (stream s t)
  mark_anon e = inner_anon below s t (mark-is t c h) e

  pub mark-other : (c ≡ 0x28 → ⊥) → (c ≡ 0x5B → ⊥) → {p : ℕ} → p ≡ start_in t → parse_expression_inner below (stream s t) ≡ refused unexpected_token p
  mark-other e f q = rw q (inner-mark below s t (mark-is t c h) e f)

-- ------------------------------------------------------------------ in braces

pub yields-braced : {D C : Answer ℕ (Expression ℕ)} {s : List ℕ} {t u v w : Token} {a b : Lent} {p : ℕ} {shape : Shape} (g : Yields D s u 0 2 a v b p shape) → Onward s t u 1 → Onward s v w 1
    → C ≡ read g.tree (stream s w) → YieldsBraced C s t a w b p shape
yields-braced g o q e =
    let x = o.ahead in
    let y = q.ahead in
    let l = g.lays.bound in
    let k = g.lays.space in
    record {
      yields = record {
        tree = g.tree;
        gives = e;
        onward = onward_then (onward_then o g.onward) q;
        lays = lays-between 0 g.lays (omega arith) (omega arith) (omega arith);
        shown = shown-within g.shown (omega arith) (omega arith);
      };
      few = omega arith;
      short = omega arith;
    }

-- ------------------------------------------------------------------ a name with its arguments

module _ (left : ℕ) {s : List ℕ} {t u : Token} {l : Lent} {a : Part} (r : Ready s t l) (o : Behind s t u) (q : name_of t ≡ Some a) where
  pub reference-yields : {v : Token} {b c d : Lent} {p y k : ℕ} (l : Lists (parse_arguments (choice_at left) (stream s u)) (nodes_of expression_branch) s u 0 b v c k)
      → Stores (node 30 p (cut s a.from a.to) 0 0 k ∷ []) c d → p ≡ start_in t → y ≡ start_in t → Yields (name_arguments (choice_at left) s (start_in t) a (stream s u)) s t 1 0 b v d y Name
  reference-yields {v} {p = p} {y} {k} l st f g =
      let w = name_in_lem r q in
      let h = holds-end s t w.holds in
      let i = o.past in
      record {
        tree = Expression.name (start_in t) (part_of s a) (expressions l.items);
        gives = reference-done (choice_at left) (stream s u) s (start_in t) a l.gives;
        onward = onward-least 1 (onward_then o.on l.onward) (omega arith);
        lays = rw (nodes-name (start_in t) (part_of s a) l.items, w.part.bytes, l.counted) (lays_parent l.lays (rw f at st) o.on (omega arith) (omega arith));
        shown = rw g (shown-name s t v (start_in t) (ready_start r) (part_of s a) (expressions l.items));
      }

-- ------------------------------------------------------------------ arguments

none-flat : {A : Type 0} (g : A → List Node) (xs : List A) → length xs ≡ 0 → flat g xs ≡ []
none-flat g [] e = flat-none g
none-flat g (x ∷ xs) e = absurd (omega arith)

abbrev argument_step : ℕ → List (Expression ℕ) → Parser ℕ (M.Option (Expression ℕ))
argument_step left = until_step (eat ">") comma (λ _. choice_at left)

-- an argument begins where nothing is stored, or behind a comma
pub argument_ready : (left : ℕ) {s : List ℕ} {t₀ t u : Token} {a b : Lent} {k : ℕ} → Ready s t₀ a
    → Listing (argument_step left) (nodes_of expression_branch) s t₀ 2 a t b k → Onward s t u (step_by Must k) → Ready s u b
unfolding texts_of
argument_ready left {s} {t₀} {t} {u} {a} {b} {k} r l o = by k l.items l.counted l.lays l.onward o
  where
    by : (k : ℕ) (es : List (Expression ℕ)) → length es ≡ k → Lays s t₀ t 2 (flat (nodes_of expression_branch) es) a b → Onward s t₀ t 0
        → Onward s t u (step_by Must k) → Ready s u b
    by zero es e f w o =
        let z : Lays s t₀ t 2 [] a b = rw (none-flat (nodes_of expression_branch) es e) at f in
        let p = r.room in
        let q = r.space in
        let c = z.stores.words-end in
        let d = z.stores.texts-end in
        let g = w.ahead in
        let h = o.ahead in
        record { lies = o.lies; small = r.small; room = omega arith; space = omega arith }
    by (suc k) es e f w o = ready_past r f (omega arith) o

module _ (left : ℕ) {s : List ℕ} {t₀ t u : Token} {a b : Lent} {k : ℕ} (l : Listing (argument_step left) (nodes_of expression_branch) s t₀ 2 a t b k)
    (o : Opens s t 0x3E Must k (Ok (P.Item u))) where
  pub argument-refused : {c p : ℕ} → choice_at left (stream s u) ≡ refused c p → loop (argument_step left) (stream s t₀) ≡ refused c p
  unfolding and_then
  argument-refused i = listing-refused l (opens-item ">" Must (λ _. choice_at left) l.items l.counted o ∙ rw i)

  pub argument-more : {v : Token} {c : Lent} {p : ℕ} {shape : Shape} → Yields (choice_at left (stream s u)) s u 0 2 b v c p shape
      → Listing (argument_step left) (nodes_of expression_branch) s t₀ 2 a v c (k + 1) × (size (stream s v) + (1 - (k + 1)) < size (stream s t) + (1 - k))
  unfolding and_then pure
  argument-more {v} {c} {p} {shape} y =
      let w = item-onward ">" o in
      let z = further k w in
      let f = fewer k w y.onward in
      let d = y.onward.ahead in
      let g = y.lays.bound in
      let h = y.lays.space in (
        listing-more l (opens-item ">" Must (λ _. choice_at left) l.items l.counted o ∙ rw y.gives) (onward-least 0 (onward_then w y.onward) (omega arith)) f y.lays.stores
            (λ i. omega arith) (λ i. let j = z.1 i in omega arith) (let j = z.0 in omega arith),
        f,
      )
    where
      further : (k : ℕ) → Onward s t u (step_by Must k) → (placed s t ≤ placed s u) × (0 < k → placed s t + 1 ≤ placed s u)
      further zero w = let x = w.ahead in (omega arith, λ i. absurd (omega arith))
      further (suc k) w = let x = w.ahead in (omega arith, λ i. x)

      fewer : (k : ℕ) → Onward s t u (step_by Must k) → Onward s u v 0 → size (stream s v) + (1 - (k + 1)) < size (stream s t) + (1 - k)
      fewer zero w q = let x = w.fewer in let y = q.fewer in omega arith
      fewer (suc k) w q = let x = w.fewer in let y = q.fewer in omega arith

-- ------------------------------------------------------------------ inline rules

module _ {s : List ℕ} {t : Token} {a : Lent} (u : Token) where
  -- from its first token to its props or its brace
  pub inline-on : (name : Option Part) → Ready s t a → InlineName s t name u → Onward s t u 0
  inline-on (Some b) r w = onward-least 0 w.1.on (omega arith)
  inline-on None r w = rw w.0 (rw w.0 at (onward-here s t r.lies))

  inline-part : (name : Option Part) → Ready s t a → InlineName s t name u → Whole s name
  inline-part (Some b) r w = (name_in_lem r w.0).part
  inline-part None r w = tt

  inline-bytes : (name : Option Part) → Ready s t a → InlineName s t name u → encode_all (inline_text s name) ≡ inline_bytes s name
  unfolding encode_all encode
  inline-bytes (Some b) r w = (name_in_lem r w.0).part.bytes
  inline-bytes None r w = refl

  -- its name stands before them, or is five bytes
  inline-length : (name : Option Part) → Ready s t a → InlineName s t name u → length (inline_bytes s name) + 3 * placed s t ≤ 3 * placed s u + 5
  inline-length (Some b) r w =
      let h = holds-end s t (name_in_lem r w.0).holds in
      let i = w.1.past in
      omega arith
  inline-length None r w = let z = ap (placed s) w.0 in omega arith

module _ {s : List ℕ} {u v : Token} {b c : Lent} {k m : ℕ} (h : Heads s u b v c k m) where
  pub heads-small : length s ≤ 0x200000 → k ≤ 0x400000
  heads-small i =
      let p = flat-length prop_branch h.listed in
      let q = length-append (flat (nodes_of prop_branch) h.listed) (flat (nodes_of (name_branch 4)) h.names) in
      let l = h.lays.bound in
      let e = h.counted in
      let o = placed_in s v h.onward.lies in
      omega arith

  pub inline_ready : {t w : Token} {a l : Lent} {p : ℕ} (name : Option Part) → Ready s t a → InlineName s t name u → Ready s w l → p ≡ start_in t → ReadyInline s name p (k + 1) l
  inline_ready {w = w} name r f g e =
      let i = g.room in
      let j = g.space in
      let o = placed_in s w g.lies in
      let l = heads-small r.small in
      let q = r.small in
      record { part = inline-part u name r f; small = r.small; starts = rw e (ready_start r); few = omega arith; room = omega arith; space = omega arith }

nodes-inline : (p : ℕ) (t : List ℕ) (ps : List (Prop ℕ)) (e : Expression ℕ) → nodes (expression_branch (Expression.inline p t ps e))
    ≡ (flat (nodes_of prop_branch) ps ++ nodes (expression_branch e)) ++ node 32 p (encode_all t) 0 0 (length ps + 1) ∷ []
unfolding expression_branch nodes count
nodes-inline p t ps e = rw (nodes-each prop_branch ps (expression_branch e ∷ᴮ []ᴮ), count-each prop_branch ps (expression_branch e ∷ᴮ []ᴮ), append-nil (nodes (expression_branch e)))

module _ (left : ℕ) (name : Option Part) {s : List ℕ} {u v w : Token} {b c d : Lent} {k m q : ℕ} {shape : Shape} (h : Heads s u b v c k m)
    (g : YieldsBraced (parse_braced_expression (choice_at left) (stream s v)) s v c w d q shape) where
  pub inline-refused : (t : Token) {p : ℕ} → (m ≡ 0 → ⊥) → p ≡ start_in t
      → parse_inline_rule_expression (choice_at left) (start_in t) (inline_text s name) (stream s u) ≡ refused inline_parameters p
  inline-refused t e f = rw f (inline-params (choice_at left) (start_in t) (inline_text s name) (stream s u) h.gives g.yields.gives (λ i. e (sym h.numbered ∙ i)))

  pub inline-yields : {t : Token} {p y : ℕ} {l a : Lent} → Ready s t l → InlineName s t name u → m ≡ 0 → Stores (node 32 p (inline_bytes s name) 0 0 (k + 1) ∷ []) d a
      → p ≡ start_in t → y ≡ start_in t → Yields (parse_inline_rule_expression (choice_at left) (start_in t) (inline_text s name) (stream s u)) s t 1 0 b w a y Other
  inline-yields {t} r i e st f j =
      let z = h.numbered ∙ e in
      let l : Lays s u v 0 (flat (nodes_of prop_branch) h.listed) b c = rw (none-flat (nodes_of (name_branch 4)) h.names z, append-nil) at h.lays in
      let o = inline-on u name r i in
      record {
        tree = Expression.inline (start_in t) (inline_text s name) h.listed g.yields.tree;
        gives = inline-done (choice_at left) (start_in t) (inline_text s name) (stream s u) h.gives g.yields.gives z;
        onward = onward-least 1 (onward_then o (onward_then h.onward g.yields.onward)) (omega arith);
        lays = rw (nodes-inline (start_in t) (inline_text s name) h.listed g.yields.tree, inline-bytes u name r i, h.counted)
            (over (flat (nodes_of prop_branch) h.listed) (nodes (expression_branch g.yields.tree)) (node 32 (start_in t) (inline_bytes s name) 0 0 (k + 1)) l g.yields.lays.stores (rw f at st)
            o.ahead (inline-length u name r i) g.few g.short);
        shown = rw j (shown-inline s t w (start_in t) (ready_start r) (inline_text s name) h.listed g.yields.tree);
      }
    where
      over : {t : Token} {a : Lent} (ps es : List Node) (y : Node) → Lays s u v 0 ps b c → Stores es c d → Stores (y ∷ []) d a → placed s t + 0 ≤ placed s u
          → length y.row.text + 3 * placed s t ≤ 3 * placed s u + 5 → length es + 2 * placed s v + 2 ≤ 2 * placed s w → length (texts_of es) + 3 * placed s v + 6 ≤ 3 * placed s w
          → Lays s t w 0 ((ps ++ es) ++ y ∷ []) b a
      over ps es y l f st o n few short =
          let x₁ = length-append (ps ++ es) (y ∷ []) in
          let x₂ = length-append ps es in
          let y₁ = ap length (texts-append (ps ++ es) (y ∷ [])) ∙ length-append (texts_of (ps ++ es)) (texts_of (y ∷ [])) in
          let y₂ = ap length (texts-append ps es) ∙ length-append (texts_of ps) (texts_of es) in
          let y₃ = one-text y in
          let p = l.bound in
          let q = l.space in
          record { stores = stores-then (stores-then l.stores f) st; bound = omega arith; space = omega arith }
