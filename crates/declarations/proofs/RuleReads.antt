-- Rules, references, names and literals put together from what was read of them.
-- Assumes nothing.
use Prim.Native.Nat.{ℕ, ◌+◌, ◌≤◌}
use native.Mathlib.Omega.{arith}
use mathlib.Core.Logic.{◌⊎◌, inl, inr}
use mathlib.Core.Path.{◌≡◌, refl, ◌∙◌}
use mathlib.Core.List.{List, [], ◌∷◌, ◌++◌, append_assoc, append-nil}
use mathlib.Core.Option.{none}
use Rattle.std.specs.Prelude.{Some, Result, Ok, Err}
use Rattle.error.specs.declared.Stop.{Stop}
use Rattle.lexer.specs.declared.Part.{Part}
use lib.ListN.{length, length-append}
use Rattle.characters.specs.Utf8.{codes, encode_all}
use Rattle.characters.specs.Places.{cut}
use Rattle.lexer.specs.Tokens.{Tokens}
use Rattle.lexer.specs.Promise.{part_of}
use Rattle.lexer.specs.Escapes.{decode_string}
use Rattle.tree.specs.Records.{Row, branch, Branches, []ᴮ, ◌∷ᴮ◌, count, Node, nodes}
use Rattle.tree.specs.Stored.{named, each, prop_branch, name_branch, expression_branch, rule_branch, reference_branch, literal_branch, named_node_branch}
use Rattle.tree.specs.Syntax.{Identifier, Prop, Expression, TokenReference, start_of}
use Rattle.notation.specs.Limits.{levels}
use Rattle.notation.specs.Parser.{read, refused, Parser, and_then, ◌>>=◌, pure, refuse, here, next, eat, expect, until, parse_identifier}
use Rattle.notation.specs.Expressions.{parse_props, reference_of, parse_braced_expression, parse_expression_inner, choice_at}
use Rattle.notation.specs.Declarations.{parse_rule, block, reference_by, parse_token_reference, parse_literal, parse_named_node}
use Rattle.tokens.specs.Promise.{stream, start_in, end_in, string_of, LiesIn, Expects, Identifies}
use Rattle.parser.specs.Storing.{Lent, Stores, node, flat, nodes_of}
use Rattle.parser.specs.Steps.{Onward, Ready, Gives, Lists, ParsesList}
use Rattle.parser.specs.Shapes.{Yields, YieldsBraced, Head, parse_head, Heads}
use Rattle.lexer.specs.declared.Token.{Token}
use Rattle.parser.specs.declared.parts.Shape.{Shape}
use Rattle.parser.specs.declared.parts.Shape.TheVariants.{Name, Literal, Repeat, Blank, Other}
use Rattle.tokens.proofs.Stream.{start-of}
use Rattle.parser.proofs.Onward.{placed_in, onward_then, onward-least, expect-onward}
use Rattle.parser.proofs.Lists.{lays-then, lays-between}
use Rattle.parser.proofs.Ready.{name-got, next-got, got-less, string-in, stored-text, lays_parent, nodes-each, count-each, nodes-over, flat-length}
use Rattle.parser.proofs.InnerRules.{rule-is}

-- the code's levels are the definition's
pub levels-are : levels ≡ 64
unfolding levels
levels-are = refl

-- ------------------------------------------------------------------ rules

module _ (ts : Tokens ℕ) where
  pub rule-name : {c p : ℕ} → parse_identifier ts ≡ refused c p → parse_rule ts ≡ refused c p
  unfolding parse_rule ◌>>=◌ and_then
  rule-name e = rw (parse_rule, e)

  module _ {n : Identifier ℕ} {us : Tokens ℕ} (e : parse_identifier ts ≡ read n us) where
    rule-by : parse_rule ts ≡ and_then (parse_head us) (λ h vs. and_then (parse_braced_expression (choice_at 64) vs) (λ b ws. read (record { id = n; props = h.props; params = h.params; expression = b }) ws))
    unfolding parse_rule ◌>>=◌ and_then
    rule-by = rw (parse_rule, e, levels-are) (rule-is (choice_at 64) n us)

    pub rule-head : {c p : ℕ} → parse_head us ≡ refused c p → parse_rule ts ≡ refused c p
    unfolding and_then
    rule-head f = rule-by ∙ rw f

    module _ {h : Head} {vs : Tokens ℕ} (f : parse_head us ≡ read h vs) where
      pub rule-body : {c p : ℕ} → parse_braced_expression (choice_at 64) vs ≡ refused c p → parse_rule ts ≡ refused c p
      unfolding and_then
      rule-body g = rule-by ∙ rw (f, and_then, g)

      rule-read : {b : Expression ℕ} {ws : Tokens ℕ} → parse_braced_expression (choice_at 64) vs ≡ read b ws → parse_rule ts ≡ read (record { id = n; props = h.props; params = h.params; expression = b }) ws
      unfolding and_then
      rule-read g = rule-by ∙ rw (f, and_then, g)

-- a row over props, params and an expression
nodes-rule : (r : Row) (ps : List (Prop ℕ)) (ns : List (Identifier ℕ)) (e : Expression ℕ) → nodes (branch r (each prop_branch ps (each (name_branch 4) ns (expression_branch e ∷ᴮ []ᴮ))))
    ≡ ((flat (nodes_of prop_branch) ps ++ flat (nodes_of (name_branch 4)) ns) ++ nodes (expression_branch e)) ++ record { row = r; children = length ps + length ns + 1 } ∷ []
unfolding nodes count
nodes-rule r ps ns e =
    let b : Branches = expression_branch e ∷ᴮ []ᴮ in
    let k = count-each prop_branch ps (each (name_branch 4) ns b) in
    let l = count-each (name_branch 4) ns b in
    let m : count (each prop_branch ps (each (name_branch 4) ns b)) ≡ length ps + length ns + 1 = omega arith in
    rw (
      m,
      nodes-each prop_branch ps (each (name_branch 4) ns b),
      nodes-each (name_branch 4) ns b,
      append-nil (nodes (expression_branch e)),
      append_assoc (flat (nodes_of prop_branch) ps) (flat (nodes_of (name_branch 4)) ns) (nodes (expression_branch e)),
    )

-- a head has few props and params
pub head_small : {s : List ℕ} {u v : Token} {b c : Lent} {k m : ℕ} → Heads s u b v c k m → length s ≤ 0x200000 → k + m ≤ 0x400000
head_small {s} {v = v} h i =
    let p = flat-length prop_branch h.listed in
    let n = flat-length (name_branch 4) h.names in
    let q = length-append (flat (nodes_of prop_branch) h.listed) (flat (nodes_of (name_branch 4)) h.names) in
    let l = h.lays.bound in
    let e = h.counted in
    let f = h.numbered in
    let o = placed_in s v h.onward.lies in
    omega arith

pub rule-given : (kind : ℕ) (s : List ℕ) (t : Token) {u v w : Token} {a : Part} {p k m q : ℕ} {shape : Shape} {b c d f : Lent} → LiesIn s 0 t → Identifies s t (Ok (a, u))
    → Heads s u b v c k m → YieldsBraced (parse_braced_expression (choice_at 64) (stream s v)) s v c w d q shape → p ≡ start_in t
    → Stores (node kind p (cut s a.from a.to) 0 0 (k + m + 1) ∷ []) d f → Gives (parse_rule (stream s t)) (nodes_of (rule_branch kind)) s t b w f
rule-given kind s t {a = a} l i h g o st =
    let n = name-got s l i in
    record {
      value = record { id = record { start = start_in t; name = part_of s a }; props = h.listed; params = h.names; expression = g.yields.tree };
      gives = rule-read (stream s t) i.takes h.gives g.yields.gives;
      onward = onward-least 1 (onward_then n.1.onward (onward_then h.onward g.yields.onward)) (omega arith);
      lays = rw (nodes-rule (named kind (start_in t) (part_of s a)) h.listed h.names g.yields.tree, n.0.part.bytes, h.counted, h.numbered, ← o)
          (lays_parent (lays-then h.lays g.yields.lays) st n.1.onward n.1.past (omega arith));
    }

-- ------------------------------------------------------------------ references

module _ (cause : ℕ) where
  pub reference-refused : (ts : Tokens ℕ) {c p : ℕ} → parse_expression_inner (choice_at 64) ts ≡ refused c p → parse_token_reference cause ts ≡ refused c p
  unfolding parse_token_reference ◌>>=◌ and_then
  reference-refused ts e = rw (parse_token_reference, levels-are, e)

  reference-by : (ts : Tokens ℕ) {x : Expression ℕ} {us : Tokens ℕ} → parse_expression_inner (choice_at 64) ts ≡ read x us → parse_token_reference cause ts ≡ reference_by cause (start_of x) (reference_of x) us
  unfolding parse_token_reference ◌>>=◌ and_then
  reference-by ts e = rw (parse_token_reference, levels-are, e)

  module _ {s : List ℕ} {t u : Token} {a b : Lent} {p : ℕ} where
    -- what is read is a reference
    refers : {shape : Shape} (r : TokenReference ℕ) (g : Yields (parse_expression_inner (choice_at 64) (stream s t)) s t 1 0 a u b p shape) → reference_by cause (start_of g.tree) (reference_of g.tree) (stream s u) ≡ read r (stream s u)
        → nodes (expression_branch g.tree) ≡ nodes (reference_branch r) → Gives (parse_token_reference cause (stream s t)) (nodes_of reference_branch) s t a u b
    refers r g e n = record { value = r; gives = reference-by (stream s t) g.gives ∙ e; onward = g.onward; lays = rw (← n) g.lays }

    reference-name : {shape : Shape} → Yields (parse_expression_inner (choice_at 64) (stream s t)) s t 1 0 a u b p shape → shape ≡ Name → Gives (parse_token_reference cause (stream s t)) (nodes_of reference_branch) s t a u b
    unfolding reference_by reference_of pure
    reference-name g q =
        let y : Yields (parse_expression_inner (choice_at 64) (stream s t)) s t 1 0 a u b p Name = rw q at g in
        let i = y.shown.refers in
        refers (TokenReference.name p i.text i.arguments) y (rw i.is) (rw i.is)

    reference-literal : {shape : Shape} {j : Part} → Yields (parse_expression_inner (choice_at 64) (stream s t)) s t 1 0 a u b p shape → shape ≡ Literal j → Gives (parse_token_reference cause (stream s t)) (nodes_of reference_branch) s t a u b
    unfolding reference_by reference_of pure
    reference-literal {j = j} g q =
        let y : Yields (parse_expression_inner (choice_at 64) (stream s t)) s t 1 0 a u b p (Literal j) = rw q at g in
        let i = y.shown.refers in
        refers (TokenReference.literal p (decode_string (part_of s j))) y (rw i.is) (rw i.is)

    reference-none : {shape : Shape} (g : Yields (parse_expression_inner (choice_at 64) (stream s t)) s t 1 0 a u b p shape) → reference_of g.tree ≡ none → parse_token_reference cause (stream s t) ≡ refused cause p
    unfolding reference_by refuse
    reference-none g e = reference-by (stream s t) g.gives ∙ rw (e, g.shown.starts)

    -- a name or a literal
    pub reference-held : {shape : Shape} → Yields (parse_expression_inner (choice_at 64) (stream s t)) s t 1 0 a u b p shape → (shape ≡ Name) ⊎ ((j : Part) × (shape ≡ Literal j)) → Gives (parse_token_reference cause (stream s t)) (nodes_of reference_branch) s t a u b
    reference-held g (inl q) = reference-name g q
    reference-held g (inr (j, q)) = reference-literal g q

    -- another shape is none
    pub reference-rest : {shape : Shape} → Yields (parse_expression_inner (choice_at 64) (stream s t)) s t 1 0 a u b p shape → (shape ≡ Name → ⊥) → ((j : Part) → shape ≡ Literal j → ⊥) → parse_token_reference cause (stream s t) ≡ refused cause p
    reference-rest {shape = Name} g n l = absurd (n refl)
    reference-rest {shape = Literal j} g n l = absurd (l j refl)
    reference-rest {shape = Repeat k} g n l = reference-none g g.shown.refers
    reference-rest {shape = Blank} g n l = reference-none g g.shown.refers
    reference-rest {shape = Other} g n l = reference-none g g.shown.refers

-- ------------------------------------------------------------------ blocks

module _ {A : Type 0} (between : Parser ℕ (Unit {0})) (item : List A → Parser ℕ A) where
  pub block_refused : (ts : Tokens ℕ) {c p : ℕ} → expect "{" ts ≡ refused c p → block between item ts ≡ refused c p
  unfolding ◌>>=◌ and_then
  block_refused ts e = rw e

  -- what was read behind the brace
  pub block_list : (g : A → List Node) (s : List ℕ) (t : Token) {u : Token} → LiesIn s 0 t → Expects s t 0x7B (Ok u) → (a b : Lent) (f : Result (Token × ℕ) Stop)
      → ParsesList (until (eat "}") between item (stream s u)) g s u 1 a b f → ParsesList (block between item (stream s t)) g s t 2 a b f
  unfolding ◌>>=◌ and_then
  block_list g s t l h a b (Ok (v, count)) f =
      let o = expect-onward s "{" t (omega arith) l h in
      let w = o.ahead in
      record {
        items = f.items;
        gives = rw (h.expects "{" refl) f.gives;
        counted = f.counted;
        onward = onward_then o f.onward;
        lays = lays-between 0 f.lays (omega arith) (omega arith) (omega arith);
      }
  block_list g s t l h a b (Err e) f = rw (h.expects "{" refl) f

-- ------------------------------------------------------------------ names with props

module _ (ts : Tokens ℕ) where
  pub node-name : {c p : ℕ} → parse_identifier ts ≡ refused c p → parse_named_node ts ≡ refused c p
  unfolding parse_named_node ◌>>=◌ and_then
  node-name e = rw (parse_named_node, e)

  module _ {n : Identifier ℕ} {us : Tokens ℕ} (e : parse_identifier ts ≡ read n us) where
    pub node-props : {c p : ℕ} → parse_props us ≡ refused c p → parse_named_node ts ≡ refused c p
    unfolding parse_named_node ◌>>=◌ and_then
    node-props f = rw (parse_named_node, e, and_then, f)

    node-read : {ps : List (Prop ℕ)} {vs : Tokens ℕ} → parse_props us ≡ read ps vs → parse_named_node ts ≡ read (record { id = n; props = ps }) vs
    unfolding parse_named_node ◌>>=◌ and_then pure
    node-read f = rw (parse_named_node, e, and_then, f)

pub node-given : (s : List ℕ) (t : Token) {u v : Token} {a : Part} {p k : ℕ} {b c d : Lent} → LiesIn s 0 t → Identifies s t (Ok (a, u))
    → Lists (parse_props (stream s u)) (nodes_of prop_branch) s u 0 b v c k → p ≡ start_in t → Stores (node 13 p (cut s a.from a.to) 0 0 k ∷ []) c d
    → Gives (parse_named_node (stream s t)) (nodes_of named_node_branch) s t b v d
node-given s t {a = a} l i g o st =
    let n = name-got s l i in
    record {
      value = record { id = record { start = start_in t; name = part_of s a }; props = g.items };
      gives = node-read (stream s t) i.takes g.gives;
      onward = onward-least 1 (onward_then n.1.onward g.onward) (omega arith);
      lays = rw (nodes-over prop_branch (named 13 (start_in t) (part_of s a)) g.items, n.0.part.bytes, g.counted, ← o) (lays_parent g.lays st n.1.onward n.1.past (omega arith));
    }

-- ------------------------------------------------------------------ literals with props

module _ (text : List ℕ) (s : List ℕ) (t : Token) where
  pub literal-next : {c p : ℕ} → next (stream s t) ≡ refused c p → parse_literal text (stream s t) ≡ refused c p
  unfolding parse_literal here ◌>>=◌ and_then
  literal-next e = rw (parse_literal, e)

  module _ {us : Tokens ℕ} (e : next (stream s t) ≡ read tt us) where
    pub literal-props : {c p : ℕ} → parse_props us ≡ refused c p → parse_literal text (stream s t) ≡ refused c p
    unfolding parse_literal here ◌>>=◌ and_then
    literal-props f = rw (parse_literal, e, and_then, f)

    literal-read : {ps : List (Prop ℕ)} {vs : Tokens ℕ} → parse_props us ≡ read ps vs → parse_literal text (stream s t) ≡ read (record { start = start_in t; literal = text; props = ps }) vs
    unfolding parse_literal here ◌>>=◌ and_then pure
    literal-read f = rw (parse_literal, e, and_then, f, start-of s t)

module _ (s : List ℕ) (t : Token) {l : Lent} {a : Part} {u : Token} (y : Ready s t l) (k : string_of t ≡ Some a) (h : (next (stream s t) ≡ read tt (stream s u)) × LiesIn s (end_in t) u) where
  pub literal-on : Onward s t u 1
  literal-on = (next-got s y.lies (string-in y k).holds h).onward

  pub literal-given : {v : Token} {p i : ℕ} {b c d : Lent} → Lists (parse_props (stream s u)) (nodes_of prop_branch) s u 0 b v c i → p ≡ start_in t
      → Stores (node 11 p (encode_all (decode_string (codes (cut s a.from a.to)))) 0 0 i ∷ []) c d → d.x ≤ c.x + length (cut s a.from a.to)
      → Gives (parse_literal (decode_string (part_of s a)) (stream s t)) (nodes_of literal_branch) s t b v d
  literal-given g o st few =
      let w = got-less (encode_all (decode_string (codes (cut s a.from a.to)))) (next-got s y.lies (string-in y k).holds h) (stored-text st few) in
      record {
        value = record { start = start_in t; literal = decode_string (part_of s a); props = g.items };
        gives = literal-read (decode_string (part_of s a)) s t h.0 g.gives;
        onward = onward-least 1 (onward_then w.onward g.onward) (omega arith);
        lays = rw (nodes-over prop_branch (named 11 (start_in t) (decode_string (part_of s a))) g.items, g.counted, ← o) (lays_parent g.lays st w.onward w.past (omega arith));
      }
