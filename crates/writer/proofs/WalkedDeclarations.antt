-- The walk over the records of a declaration writes the tokens of its definition.
-- Assumes nothing.
use Prim.Native.Nat.{ℕ}
use mathlib.Core.Path.{◌≡◌, refl, sym, ◌∙◌, ap}
use mathlib.Core.List.{List, [], ◌∷◌, ◌++◌}
use mathlib.Core.Option.{Option, none, some}
use Rattle.basics.specs.Basics.{letters}
use Rattle.characters.specs.Utf8.{encode, encode_all}
use Rattle.lexer.specs.Tokens.{Kind}
use Rattle.tree.specs.Syntax.{Identifier, Prop, SpecializeKind, extend, specialize, Expression, RuleDeclaration, referred, TokenPrecDeclaration, TokenConflictDeclaration, LiteralDeclaration, NamedNode, ExternalPropDeclaration, PrecKind, left, right, cut, PrecItem, Declaration, top_rule, rule, tokens, local_tokens, context, external_tokens, external_specializer, external_prop_source, precedences, main_skip, scoped_skip}
use Rattle.tree.specs.Syntax as Syntax
use Rattle.tree.specs.Records.{Row, branch, Branches, []ᴮ, ◌∷ᴮ◌}
use Rattle.tree.specs.Stored.{full, named, plain, leaf, prop_branch, specialize_value, expression_branch, name_branch, source_branch, rule_branch, reference_branch, token_prec_branch, token_conflict_branch, literal_branch, named_node_branch, fallback_branches, prec_value, prec_item_branch, declaration_branch, external_prop_branch}
use Rattle.tree.specs.Stored as Stored
use Rattle.spelling.specs.Spelling.{quoted, spell}
use Rattle.spelling.specs.NormalText.{prop_tokens, each, each_after, commas, bracketed, mark, word, at, string, identifier, from_tokens, specialize_word, props_tokens, expression_tokens, body_tokens, rule_tokens, top_rule_tokens, reference_tokens, token_prec_tokens, token_conflict_tokens, literal_tokens, named_node_tokens, fallback_tokens, prec_tokens, prec_item_tokens, conflicts_tokens, external_set_tokens, declaration_tokens, external_prop_tokens}
use Rattle.writer.specs.Walk.{text_for, comma, opens, shuts, between, separator, tail, setting, in_brackets, is_line, tokenless, lead, ends, before, spelled, after, close, block_end, last_class}
use Rattle.writer.specs.Walk as Walk
use Rattle.writer.proofs.Walked.{source_on, body, walks, led, led-string, Child, child, children-after, children, children-commas, children-bracketed, last-each}
use Rattle.writer.proofs.WalkedExpressions.{Holds, prop-child, props, expression-class, expression-child, expression}

-- ------------------------------------------------------------------ names and rules

-- the records of rules: what stands between their children
record Ruled (k : ℕ) : Type 0 where
  holds : Holds k
  alone : tail k 30 ≡ []
  body-first : between k 0 30 ≡ letters " {"
  body-props : between k 5 30 ≡ letters " ] {"
  body-params : between k 4 30 ≡ letters " > {"
  params-first : between k 0 4 ≡ letters " <"
  params-props : between k 5 4 ≡ letters " ] <"
  params-next : between k 4 4 ≡ letters " ,"

param : (n : Identifier ℕ) (ks : List Kind) (z : List ℕ) → body 0 (name_branch 4 n) (led ks z) ≡ led (identifier n ks) z
unfolding body lead in_brackets is_line tokenless before spelled after close block_end ends text_for led encode encode_all spell
param n ks z = refl

module _ (p : Row) (h : Ruled p.kind) (r : RuleDeclaration ℕ) (ks : List Kind) (z : List ℕ) where
  abbrev inner : Branches
  inner = expression_branch r.expression ∷ᴮ []ᴮ

  -- the expression, behind what closes the list before it
  last-child : (l : ℕ) → walks p l inner (led (mark "}" ks) z) ≡ between p.kind l 30 ++ led (expression_tokens r.expression (mark "}" ks)) z
  unfolding body
  last-child l =
      expression-child p l r.expression []ᴮ (led (mark "}" ks) z)
      ∙ rw (h.alone, h.holds.none) (ap (λ (x : List ℕ). between p.kind l 30 ++ x) (expression r.expression (mark "}" ks) z))

  says-params : Child (name_branch 4) identifier p.kind 4
  unfolding Walk.class tail text_for
  says-params = record { says = param; is = λ x. refl; none = h.holds.none; alone = refl; other = refl }

  abbrev braces : List Kind
  braces = body_tokens r.expression ks

  params-from : (shut opened : List ℕ) (l : ℕ) → between p.kind l 4 ≡ opened → ((js : List Kind) → opened ++ led js z ≡ shut ++ led (mark "<" js) z)
      → walks p l inner (led (mark "}" ks) z) ≡ shut ++ led braces z → walks p l (Stored.each (name_branch 4) r.params inner) (led (mark "}" ks) z) ≡ shut ++ led (bracketed identifier "<" ">" r.params braces) z
  unfolding led encode encode_all spell
  params-from s o l m w d =
      children-bracketed p says-params (led (mark "}" ks) z) z "<" ">" s o l m w h.params-next r.params inner braces d
      (last-child 4 ∙ ap (λ (x : List ℕ). x ++ led (expression_tokens r.expression (mark "}" ks)) z) h.body-params)

  rule-children : walks p 0 (Stored.each prop_branch r.props (Stored.each (name_branch 4) r.params inner)) (led (mark "}" ks) z)
      ≡ led (props_tokens r.props (bracketed identifier "<" ">" r.params braces)) z
  unfolding led encode encode_all spell
  rule-children =
      props p h.holds (Stored.each (name_branch 4) r.params inner) (led (mark "}" ks) z) z r.props (bracketed identifier "<" ">" r.params braces)
      (params-from [] (letters " <") 0 h.params-first (λ js. refl) (last-child 0 ∙ ap (λ (x : List ℕ). x ++ led (expression_tokens r.expression (mark "}" ks)) z) h.body-first))
      (params-from (letters " ]") (letters " ] <") 5 h.params-props (λ js. refl) (last-child 5 ∙ ap (λ (x : List ℕ). x ++ led (expression_tokens r.expression (mark "}" ks)) z) h.body-props))

ruled : Ruled 3
unfolding setting between separator comma shuts opens tail text_for
ruled = record {
  holds = record { none = refl; first = refl; next = refl };
  alone = refl;
  body-first = refl;
  body-props = refl;
  body-params = refl;
  params-first = refl;
  params-props = refl;
  params-next = refl;
}

top-ruled : Ruled 2
unfolding setting between separator comma shuts opens tail text_for
top-ruled = record {
  holds = record { none = refl; first = refl; next = refl };
  alone = refl;
  body-first = refl;
  body-props = refl;
  body-params = refl;
  params-first = refl;
  params-props = refl;
  params-next = refl;
}

pub rule-says : (r : RuleDeclaration ℕ) (ks : List Kind) (z : List ℕ) → body 0 (rule_branch 3 r) (led ks z) ≡ led (rule_tokens r ks) z
unfolding body lead in_brackets is_line tokenless before spelled after close block_end ends text_for led encode encode_all spell
rule-says r ks z = ap (λ (x : List ℕ). 0x20 ∷ (encode_all r.id.name ++ x)) (rule-children (named 3 r.id.start r.id.name) ruled r ks z)

pub top-rule-says : (r : RuleDeclaration ℕ) (ks : List Kind) (z : List ℕ) → body 0 (rule_branch 2 r) (led ks z) ≡ led (top_rule_tokens r ks) z
unfolding body lead in_brackets is_line tokenless before spelled after close block_end ends text_for led encode encode_all spell
top-rule-says r ks z = ap (λ (x : List ℕ). 0x20 ∷ (letters "@top " ++ (encode_all r.id.name ++ x))) (rule-children (named 2 r.id.start r.id.name) top-ruled r ks z)

-- ------------------------------------------------------------------ token blocks

reference-child : (k : ℕ) → setting k ≡ 0 → tail k 30 ≡ [] → Child reference_branch reference_tokens k 30
reference-child k e f = record { says = λ r. expression (referred r); is = λ r. expression-class (referred r); none = e; alone = f; other = refl }

token_prec_says : (x : TokenPrecDeclaration ℕ) (ks : List Kind) (z : List ℕ) → body 0 (token_prec_branch x) (led ks z) ≡ led (token_prec_tokens x ks) z
unfolding body lead in_brackets is_line tokenless before spelled after close block_end ends text_for between separator comma shuts opens setting tail led encode encode_all spell
token_prec_says x ks z =
    ap (λ (y : List ℕ). 0x20 ∷ (letters "@precedence {" ++ y)) (children-commas (plain 9 x.start) (reference-child 9 refl refl) (led (mark "}" ks) z) z 0 refl refl x.items []ᴮ (mark "}" ks) refl refl)

token-conflict-says : (x : TokenConflictDeclaration ℕ) (ks : List Kind) (z : List ℕ) → body 0 (token_conflict_branch x) (led ks z) ≡ led (token_conflict_tokens x ks) z
unfolding body lead in_brackets is_line tokenless before spelled after close block_end ends text_for between separator comma shuts opens setting tail led encode encode_all spell
token-conflict-says x ks z =
    let p : Row = plain 10 x.start in
    let rest : List ℕ = led (mark "}" ks) z in
    let c : Child reference_branch reference_tokens 10 30 = reference-child 10 refl refl in
    ap (λ (y : List ℕ). 0x20 ∷ (letters "@conflict {" ++ y)) (child p c rest z 0 x.left (reference_branch x.right ∷ᴮ []ᴮ) (mark "," (reference_tokens x.right (mark "}" ks)))
    (child p c rest z 30 x.right []ᴮ (mark "}" ks) refl))

-- over props alone, whose bracket is closed at the end
over-props : (k p : ℕ) (t : List ℕ) → Holds k → (xs : List (Prop ℕ)) (ks : List Kind) (z : List ℕ) → ((l : ℕ) → close k 0 l ≡ text_for Walk.list_ends l)
    → walks (named k p t) 0 (Stored.each prop_branch xs []ᴮ) (close k 0 (last_class 0 (Stored.each prop_branch xs []ᴮ)) ++ led ks z) ≡ led (props_tokens xs ks) z
unfolding Stored.each last_class text_for led encode encode_all spell body Walk.class
over-props k p t h [] ks z c = rw (c 0)
over-props k p t h (x ∷ xs) ks z c =
    let r : Row = named k p t in
    let rest : List ℕ = led (mark "]" ks) z in
    let js : List Kind = each_after prop_tokens xs (mark "]" ks) in
    ap (λ (y : List ℕ). walks r 0 (Stored.each prop_branch (x ∷ xs) []ᴮ) (y ++ led ks z)) (ap (close k 0) (last-each prop_branch 5 (λ y. refl) xs []ᴮ) ∙ c 5)
    ∙ child r (prop-child h) rest z 0 x (Stored.each prop_branch xs []ᴮ) js (children-after r (prop-child h) rest z h.next xs []ᴮ (mark "]" ks) refl)
    ∙ ap (λ (y : List ℕ). y ++ led (prop_tokens x js) z) h.first

literal-says : (x : LiteralDeclaration ℕ) (ks : List Kind) (z : List ℕ) → body 0 (literal_branch x) (led ks z) ≡ led (literal_tokens x ks) z
unfolding body lead in_brackets is_line tokenless before spelled after close block_end ends text_for between separator comma shuts opens setting
literal-says x ks z =
    ap (λ (y : List ℕ). 0x20 ∷ (spell (Kind.string (quoted (encode_all x.literal))) ++ y)) (over-props 11 x.start x.literal (record { none = refl; first = refl; next = refl }) x.props ks z (λ l. refl))
    ∙ sym (led-string x.literal (props_tokens x.props ks) z)

node-says : (x : NamedNode ℕ) (ks : List Kind) (z : List ℕ) → body 0 (named_node_branch x) (led ks z) ≡ led (named_node_tokens x ks) z
unfolding body lead in_brackets is_line tokenless before spelled after close block_end ends text_for between separator comma shuts opens setting led encode encode_all spell
node-says x ks z =
    ap (λ (y : List ℕ). 0x20 ∷ (encode_all x.id.name ++ y)) (over-props 13 x.id.start x.id.name (record { none = refl; first = refl; next = refl }) x.props ks z (λ l. refl))

tokens-says : (x : Syntax.TokenDeclaration ℕ) (ks : List Kind) (z : List ℕ) → body 0 (declaration_branch (tokens x)) (led ks z) ≡ led (declaration_tokens (tokens x) ks) z
unfolding declaration_branch declaration_tokens body lead in_brackets is_line tokenless before spelled after close block_end ends text_for between separator opens setting tail Walk.class led encode encode_all spell
tokens-says x ks z =
    let p : Row = plain 8 x.start in
    let rest : List ℕ = led (mark "}" ks) z in
    let c9 : Child token_prec_branch token_prec_tokens 8 9 = record { says = token_prec_says; is = λ y. refl; none = refl; alone = refl; other = refl } in
    let c10 : Child token_conflict_branch token_conflict_tokens 8 10 = record { says = token-conflict-says; is = λ y. refl; none = refl; alone = refl; other = refl } in
    let c3 : Child (rule_branch 3) rule_tokens 8 3 = record { says = rule-says; is = λ y. refl; none = refl; alone = refl; other = refl } in
    let c11 : Child literal_branch literal_tokens 8 11 = record { says = literal-says; is = λ y. refl; none = refl; alone = refl; other = refl } in
    let b11 : Branches = Stored.each literal_branch x.literals []ᴮ in
    let b3 : Branches = Stored.each (rule_branch 3) x.rules b11 in
    let b10 : Branches = Stored.each token_conflict_branch x.conflicts b3 in
    let k11 : List Kind = each literal_tokens x.literals (mark "}" ks) in
    let k3 : List Kind = each rule_tokens x.rules k11 in
    let k10 : List Kind = each token_conflict_tokens x.conflicts k3 in
    ap (λ (y : List ℕ). 0x20 ∷ (letters "@tokens {" ++ y))
    (children p c9 rest z (λ l. refl) x.precedences b10 k10
    (children p c10 rest z (λ l. refl) x.conflicts b3 k3
    (children p c3 rest z (λ l. refl) x.rules b11 k11
    (children p c11 rest z (λ l. refl) x.literals []ᴮ (mark "}" ks) (λ l. refl)))) 0)

fallback : (o : Option (NamedNode ℕ)) (p l : ℕ) (ks : List Kind) (z : List ℕ) → walks (plain 12 p) l (fallback_branches o) (led ks z) ≡ led (fallback_tokens o ks) z
unfolding body text_for between separator opens setting tail Walk.class led encode encode_all spell
fallback none p l ks z = refl
fallback (some x) p l ks z =
    let c : Child named_node_branch named_node_tokens 12 13 = record { says = node-says; is = λ y. refl; none = refl; alone = refl; other = refl } in
    child (plain 12 p) c (led ks z) z l x []ᴮ ks refl

local_says : (x : Syntax.LocalTokenDeclaration ℕ) (ks : List Kind) (z : List ℕ) → body 0 (declaration_branch (local_tokens x)) (led ks z) ≡ led (declaration_tokens (local_tokens x) ks) z
unfolding declaration_branch declaration_tokens body lead in_brackets is_line tokenless before spelled after close block_end ends text_for between separator opens setting tail Walk.class led encode encode_all spell
local_says x ks z =
    let p : Row = plain 12 x.start in
    let rest : List ℕ = led (mark "}" ks) z in
    let c9 : Child token_prec_branch token_prec_tokens 12 9 = record { says = token_prec_says; is = λ y. refl; none = refl; alone = refl; other = refl } in
    let c3 : Child (rule_branch 3) rule_tokens 12 3 = record { says = rule-says; is = λ y. refl; none = refl; alone = refl; other = refl } in
    let b13 : Branches = fallback_branches x.fallback in
    let b3 : Branches = Stored.each (rule_branch 3) x.rules b13 in
    let k13 : List Kind = fallback_tokens x.fallback (mark "}" ks) in
    let k3 : List Kind = each rule_tokens x.rules k13 in
    ap (λ (y : List ℕ). 0x20 ∷ (letters "@local tokens {" ++ y))
    (children p c9 rest z (λ l. refl) x.precedences b3 k3
    (children p c3 rest z (λ l. refl) x.rules b13 k13 (λ l. fallback x.fallback x.start l (mark "}" ks) z)) 0)

-- ------------------------------------------------------------------ sources

source-says : (s : List ℕ) (ks : List Kind) (z : List ℕ) → body 0 (source_branch s) (led ks z) ≡ led (string s ks) z
unfolding body lead in_brackets is_line tokenless before spelled after close block_end ends text_for
source-says s ks z = sym (led-string s ks z)

-- `name from`, before a source string
abbrev from : List ℕ → List ℕ → List ℕ
from t y = 0x20 ∷ (encode_all t ++ (letters " from" ++ y))

context-says : (x : Syntax.ContextDeclaration ℕ) (ks : List Kind) (z : List ℕ) → body 0 (declaration_branch (context x)) (led ks z) ≡ led (declaration_tokens (context x) ks) z
unfolding declaration_branch declaration_tokens body lead in_brackets is_line tokenless before spelled after close block_end ends text_for between separator shuts opens source_on setting tail Walk.class led encode encode_all spell
context-says x ks z = ap (λ (y : List ℕ). 0x20 ∷ (letters "@context" ++ from x.id y)) (source-says x.source ks z)

prop-source-says : (x : Syntax.ExternalPropSourceDeclaration ℕ) (ks : List Kind) (z : List ℕ) → body 0 (declaration_branch (external_prop_source x)) (led ks z) ≡ led (declaration_tokens (external_prop_source x) ks) z
unfolding declaration_branch declaration_tokens body lead in_brackets is_line tokenless before spelled after close block_end ends text_for between separator shuts opens source_on setting tail Walk.class led encode encode_all spell
prop-source-says x ks z = ap (λ (y : List ℕ). 0x20 ∷ (letters "@external propSource" ++ from x.id y)) (source-says x.source ks z)

pub external-prop-says : (x : ExternalPropDeclaration ℕ) (ks : List Kind) (z : List ℕ) → body 0 (external_prop_branch x) (led ks z) ≡ led (external_prop_tokens x ks) z
unfolding external_prop_tokens body lead in_brackets is_line tokenless before spelled after close block_end ends text_for between separator shuts opens source_on setting tail Walk.class led encode encode_all spell
external-prop-says x ks z =
    ap (λ (y : List ℕ). 0x20 ∷ (letters "@external prop" ++ (0x20 ∷ (encode_all x.external_id.name ++ (letters " as" ++ from x.id y))))) (source-says x.source ks z)

-- ------------------------------------------------------------------ external blocks

external-nodes : (k : ℕ) → setting k ≡ 0 → Child named_node_branch named_node_tokens k 13
unfolding Walk.class tail text_for
external-nodes k e = record { says = node-says; is = λ y. refl; none = e; alone = refl; other = refl }

-- names of conflicts behind a node or the source
conflict-child : Child (name_branch 17) identifier 16 17
unfolding Walk.class tail text_for setting body lead in_brackets is_line tokenless before spelled after close block_end ends led encode encode_all spell
conflict-child = record { says = λ n ks z. refl; is = λ y. refl; none = refl; alone = refl; other = refl }

-- the conflicts to the end of the block
conflicts : (n : Identifier ℕ) (ns : List (Identifier ℕ)) (p l : ℕ) (t : List ℕ) (ks : List Kind) (z : List ℕ)
    → walks (named 16 p t) l (Stored.each (name_branch 17) (n ∷ ns) []ᴮ) (led (mark "}" (mark "}" ks)) z) ≡ between 16 l 17 ++ led (commas identifier (n ∷ ns) (mark "}" (mark "}" ks))) z
unfolding Stored.each between separator comma text_for body
conflicts n ns p l t ks z =
    let rest : List ℕ = led (mark "}" (mark "}" ks)) z in
    child (named 16 p t) conflict-child rest z l n (Stored.each (name_branch 17) ns []ᴮ) (each_after identifier ns (mark "}" (mark "}" ks)))
    (children-after (named 16 p t) conflict-child rest z refl ns []ᴮ (mark "}" (mark "}" ks)) refl)

-- nodes and conflicts, to the end of the block
block : (xs : List (NamedNode ℕ)) (ns : List (Identifier ℕ)) (p : ℕ) (t : List ℕ) (ks : List Kind) (z : List ℕ)
    → letters " {" ++ walks (named 16 p t) 15 (Stored.each named_node_branch xs (Stored.each (name_branch 17) ns []ᴮ)) (close 16 0 (last_class 15 (Stored.each named_node_branch xs (Stored.each (name_branch 17) ns []ᴮ))) ++ led ks z)
    ≡ led (external_set_tokens xs ns ks) z
unfolding Stored.each each_after last_class close block_end between separator comma shuts opens text_for body setting Walk.class led encode encode_all spell
block [] [] p t ks z = refl
block (x ∷ xs) [] p t ks z =
    let r : Row = named 16 p t in
    let rest : List ℕ = led (mark "}" ks) z in
    let c : Child named_node_branch named_node_tokens 16 13 = external-nodes 16 refl in
    ap (λ (l : ℕ). letters " {" ++ walks r 15 (Stored.each named_node_branch (x ∷ xs) []ᴮ) (close 16 0 l ++ led ks z)) (last-each named_node_branch 13 (λ y. refl) xs []ᴮ)
    ∙ ap (λ (y : List ℕ). letters " {" ++ y) (children-commas r c rest z 15 refl refl (x ∷ xs) []ᴮ (mark "}" ks) refl refl)
block [] (n ∷ ns) p t ks z =
    ap (λ (l : ℕ). letters " {" ++ walks (named 16 p t) 15 (Stored.each (name_branch 17) (n ∷ ns) []ᴮ) (close 16 0 l ++ led ks z)) (last-each (name_branch 17) 17 (λ y. refl) ns []ᴮ)
    ∙ ap (λ (y : List ℕ). letters " {" ++ y) (conflicts n ns p 15 t ks z)
block (x ∷ xs) (n ∷ ns) p t ks z =
    let r : Row = named 16 p t in
    let c : Child named_node_branch named_node_tokens 16 13 = external-nodes 16 refl in
    let bs : Branches = Stored.each (name_branch 17) (n ∷ ns) []ᴮ in
    let js : List Kind = mark "," (conflicts_tokens (n ∷ ns) (mark "}" ks)) in
    let rest : List ℕ = led (mark "}" (mark "}" ks)) z in
    ap (λ (l : ℕ). letters " {" ++ walks r 15 (Stored.each named_node_branch (x ∷ xs) bs) (close 16 0 l ++ led ks z)) (last-each named_node_branch 13 (λ y. refl) xs bs ∙ last-each (name_branch 17) 17 (λ y. refl) ns []ᴮ)
    ∙ ap (λ (y : List ℕ). letters " {" ++ y) (child r c rest z 15 x (Stored.each named_node_branch xs bs) (each_after named_node_tokens xs js) (children-after r c rest z refl xs bs js (conflicts n ns p 13 t ks z)))

external-tokens-says : (x : Syntax.ExternalTokenDeclaration ℕ) (ks : List Kind) (z : List ℕ) → body 0 (declaration_branch (external_tokens x)) (led ks z) ≡ led (declaration_tokens (external_tokens x) ks) z
unfolding declaration_branch declaration_tokens body lead in_brackets is_line tokenless before spelled after close block_end ends text_for between separator comma shuts opens source_on setting tail Walk.class last_class led encode encode_all spell
external-tokens-says x ks z =
    let js : List Kind = external_set_tokens x.tokens x.conflicts ks in
    ap (λ (y : List ℕ). 0x20 ∷ (letters "@external tokens" ++ from x.id (body 0 (source_branch x.source) y))) (block x.tokens x.conflicts x.start x.id ks z)
    ∙ ap (λ (y : List ℕ). 0x20 ∷ (letters "@external tokens" ++ from x.id y)) (source-says x.source js z)

specializer_says : (x : Syntax.ExternalSpecializeDeclaration ℕ) (ks : List Kind) (z : List ℕ) → body 0 (declaration_branch (external_specializer x)) (led ks z) ≡ led (declaration_tokens (external_specializer x) ks) z
unfolding declaration_branch declaration_tokens body lead in_brackets is_line tokenless before spelled after close block_end ends text_for between separator comma shuts opens source_on setting tail Walk.class last_class led encode encode_all spell
specializer_says x ks z = at-kind x.kind
  where
    nodes : (v : ℕ) → walks (full 18 x.start x.id v) 15 (Stored.each named_node_branch x.tokens []ᴮ) (led (mark "}" ks) z) ≡ led (commas named_node_tokens x.tokens (mark "}" ks)) z
    nodes v = children-commas (full 18 x.start x.id v) (external-nodes 18 refl) (led (mark "}" ks) z) z 15 refl refl x.tokens []ᴮ (mark "}" ks) refl refl

    behind : (v : ℕ) → walks (full 18 x.start x.id v) 0 (expression_branch x.token ∷ᴮ source_branch x.source ∷ᴮ Stored.each named_node_branch x.tokens []ᴮ) (led (mark "}" ks) z)
        ≡ led (expression_tokens x.token (mark "}" (from_tokens x.id x.source (external_set_tokens x.tokens [] ks)))) z
    behind v =
        expression-child (full 18 x.start x.id v) 0 x.token (source_branch x.source ∷ᴮ Stored.each named_node_branch x.tokens []ᴮ) (led (mark "}" ks) z)
        ∙ ap (λ (y : List ℕ). body 0 (expression_branch x.token) (letters " }" ++ from x.id (body 0 (source_branch x.source) (letters " {" ++ y)))) (nodes v)
        ∙ ap (λ (y : List ℕ). body 0 (expression_branch x.token) (letters " }" ++ from x.id y)) (source-says x.source (mark "{" (commas named_node_tokens x.tokens (mark "}" ks))) z)
        ∙ expression x.token (mark "}" (from_tokens x.id x.source (mark "{" (commas named_node_tokens x.tokens (mark "}" ks))))) z

    at-kind : (k : SpecializeKind) → body 0 (branch (full 18 x.start x.id (specialize_value k)) (expression_branch x.token ∷ᴮ source_branch x.source ∷ᴮ Stored.each named_node_branch x.tokens []ᴮ)) (led ks z)
        ≡ led (at "external" (word (specialize_word k) (body_tokens x.token (from_tokens x.id x.source (external_set_tokens x.tokens [] ks))))) z
    at-kind extend = ap (λ (y : List ℕ). 0x20 ∷ (letters "@external extend {" ++ y)) (behind 1)
    at-kind specialize = ap (λ (y : List ℕ). 0x20 ∷ (letters "@external specialize {" ++ y)) (behind 2)

-- ------------------------------------------------------------------ precedences and skips

item-says : (x : PrecItem ℕ) (ks : List Kind) (z : List ℕ) → body 0 (prec_item_branch x) (led ks z) ≡ led (prec_item_tokens x ks) z
unfolding body lead in_brackets is_line tokenless before spelled after close block_end ends text_for led encode encode_all spell
item-says x ks z = at-kind x.kind
  where
    at-kind : (k : Option PrecKind) → body 0 (leaf (full 21 x.id.start x.id.name (prec_value k))) (led ks z) ≡ led (identifier x.id (prec_tokens k ks)) z
    at-kind none = refl
    at-kind (some left) = refl
    at-kind (some right) = refl
    at-kind (some cut) = refl

precedences-says : (x : Syntax.PrecDeclaration ℕ) (ks : List Kind) (z : List ℕ) → body 0 (declaration_branch (precedences x)) (led ks z) ≡ led (declaration_tokens (precedences x) ks) z
unfolding declaration_branch declaration_tokens body lead in_brackets is_line tokenless before spelled after close block_end ends text_for between separator comma shuts opens source_on setting tail Walk.class last_class led encode encode_all spell
precedences-says x ks z =
    let c : Child prec_item_branch prec_item_tokens 20 21 = record { says = item-says; is = λ y. refl; none = refl; alone = refl; other = refl } in
    ap (λ (y : List ℕ). 0x20 ∷ (letters "@precedence {" ++ y)) (children-commas (plain 20 x.start) c (led (mark "}" ks) z) z 0 refl refl x.items []ᴮ (mark "}" ks) refl refl)

skip-says : (e : Expression ℕ) (ks : List Kind) (z : List ℕ) → body 0 (declaration_branch (main_skip e)) (led ks z) ≡ led (declaration_tokens (main_skip e) ks) z
unfolding declaration_branch declaration_tokens body lead in_brackets is_line tokenless before spelled after close block_end ends text_for between separator comma shuts opens source_on setting tail Walk.class last_class led encode encode_all spell
skip-says e ks z =
    ap (λ (y : List ℕ). 0x20 ∷ (letters "@skip {" ++ y)) (expression-child (plain 22 (Syntax.start_of e)) 0 e []ᴮ (led (mark "}" ks) z) ∙ expression e (mark "}" ks) z)

scoped_says : (x : Syntax.ScopedSkipDeclaration ℕ) (ks : List Kind) (z : List ℕ) → body 0 (declaration_branch (scoped_skip x)) (led ks z) ≡ led (declaration_tokens (scoped_skip x) ks) z
unfolding declaration_branch declaration_tokens body lead in_brackets is_line tokenless before spelled after close block_end ends text_for between separator comma shuts opens source_on setting tail Walk.class last_class led encode encode_all spell
scoped_says x ks z =
    let p : Row = plain 23 (Syntax.start_of x.expression) in
    let rest : List ℕ = led (mark "}" ks) z in
    let c2 : Child (rule_branch 2) top_rule_tokens 23 2 = record { says = top-rule-says; is = λ y. refl; none = refl; alone = refl; other = refl } in
    let c3 : Child (rule_branch 3) rule_tokens 23 3 = record { says = rule-says; is = λ y. refl; none = refl; alone = refl; other = refl } in
    let b3 : Branches = Stored.each (rule_branch 3) x.rules []ᴮ in
    let b2 : Branches = Stored.each (rule_branch 2) x.top_rules b3 in
    let k3 : List Kind = each rule_tokens x.rules (mark "}" ks) in
    let k2 : List Kind = each top_rule_tokens x.top_rules k3 in
    ap (λ (y : List ℕ). 0x20 ∷ (letters "@skip {" ++ y))
    (expression-child p 0 x.expression b2 rest
    ∙ ap (λ (y : List ℕ). body 0 (expression_branch x.expression) (letters " } {" ++ y))
    (children p c2 rest z (λ l. refl) x.top_rules b3 k3 (children p c3 rest z (λ l. refl) x.rules []ᴮ (mark "}" ks) (λ l. refl)) 30)
    ∙ expression x.expression (mark "}" (mark "{" k2)) z)

pub declaration : (d : Declaration ℕ) (ks : List Kind) (z : List ℕ) → body 0 (declaration_branch d) (led ks z) ≡ led (declaration_tokens d ks) z
unfolding declaration_branch declaration_tokens
declaration (top_rule r) ks z = top-rule-says r ks z
declaration (rule r) ks z = rule-says r ks z
declaration (tokens x) ks z = tokens-says x ks z
declaration (local_tokens x) ks z = local_says x ks z
declaration (context x) ks z = context-says x ks z
declaration (external_tokens x) ks z = external-tokens-says x ks z
declaration (external_specializer x) ks z = specializer_says x ks z
declaration (external_prop_source x) ks z = prop-source-says x ks z
declaration (precedences x) ks z = precedences-says x ks z
declaration (main_skip e) ks z = skip-says e ks z
declaration (scoped_skip x) ks z = scoped_says x ks z
