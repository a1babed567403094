-- The records of a grammar: for each kind its number, start, text, values and children, in the order in which they are listed.
-- Assumes nothing.
use Rattle.std.specs.Prelude.{ℕ, Bool, true, false, List, [], ◌∷◌}
use Rattle.std.proofs.Math.Option.{Option, none, some}
use Rattle.characters.specs.Spans.{Span}
use Rattle.characters.specs.Utf8.{encode_all}
use Rattle.tree.specs.CharClasses.{class_value}
use Rattle.tree.specs.Records.{Row, Branch, branch, Branches, []ᴮ, ◌∷ᴮ◌, Record, records, texts, words}
use Rattle.tree.specs.Syntax.{Identifier, PropPart, value, name, Prop, ConflictMarkerKind, ambiguity, precedence, ConflictMarker, SpecializeKind, extend, specialize, RepeatKind, optional, zero_or_more, one_or_more, Expression, special, inline, choice, sequence, empty, repeat, set, any, class, Expressions, []ᴱ, ◌∷ᴱ◌, Slots, last, slot, RuleDeclaration, TokenReference, referred, TokenPrecDeclaration, TokenConflictDeclaration, LiteralDeclaration, NamedNode, ExternalPropDeclaration, PrecKind, left, right, cut, PrecItem, Declaration, top_rule, rule, tokens, local_tokens, context, external_tokens, external_specializer, external_prop_source, precedences, main_skip, scoped_skip, GrammarDeclaration, start_of}

-- a row with a text and a value. Its second value is 0
abbrev pub full : (kind start : ℕ) → (text : List ℕ) → (value : ℕ) → Row
full k p t v = record { kind = k; start = p; text = encode_all t; value = v; second = 0 }

-- a row with a text
abbrev pub named : (kind start : ℕ) → (text : List ℕ) → Row
named k p t = full k p t 0

-- a row with a value
abbrev pub valued : (kind start value : ℕ) → Row
valued k p v = full k p [] v

-- a row with neither
abbrev pub plain : (kind start : ℕ) → Row
plain k p = full k p [] 0

-- a record without children
abbrev pub leaf : Row → Branch
leaf r = branch r []ᴮ

-- the branches of a list, and then those that follow
unfoldable pub each : {A : Type 0} → (A → Branch) → List A → Branches → Branches
each f [] bs = bs
each f (x ∷ xs) bs = f x ∷ᴮ each f xs bs

-- 1 for yes
abbrev pub flag : Bool → ℕ
flag false = 0
flag true = 1

-- ------------------------------------------------------------------ expressions

-- 6 part with text, 7 part `{name}`
abbrev pub part_branch : PropPart ℕ → Branch
part_branch (value p t) = leaf (named 6 p t)
part_branch (name p t) = leaf (named 7 p t)

-- 5 prop (text; value 1: `@`): parts
abbrev pub prop_branch : Prop ℕ → Branch
prop_branch x = branch (full 5 x.start x.name (flag x.at)) (each part_branch x.value []ᴮ)

-- 41 `~` marker, 42 `!` marker (text)
abbrev pub marker_number : ConflictMarkerKind → ℕ
marker_number ambiguity = 41
marker_number precedence = 42

-- a marker, by its number
abbrev pub marker_branch : ConflictMarker ℕ → Branch
marker_branch m = leaf (named (marker_number m.kind) m.start m.name)

-- 38 span (value first code, second one past the last; start the set's)
abbrev pub span_branch : ℕ → Span → Branch
span_branch p s = leaf (record { kind = 38; start = p; text = []; value = s.first; second = s.past })

-- the value of a specialize
abbrev pub specialize_value : SpecializeKind → ℕ
specialize_value extend = 1
specialize_value specialize = 2

-- the value of a repeat
abbrev pub repeat_value : RepeatKind → ℕ
repeat_value optional = 0
repeat_value zero_or_more = 1
repeat_value one_or_more = 2

-- the branches of expressions, with all that stands below them
unfoldable mutual
  -- 30 name (text): arguments. 31 specialize (value as 18): props, token, content. 32 inline rule (text): props, expression.
  -- 33 choice. 34 sequence (value 1: explicitly empty, no children): each slot's markers, then the next expression.
  -- 35 repeat (value 0 `?`, 1 `*`, 2 `+`). 36 literal. 37 set (value 1 inverted): 38s. 39 any. 40 class
  pub expression_branch : Expression ℕ → Branch
  expression_branch (Expression.name p t es) = branch (named 30 p t) (expression_branches es)
  expression_branch (special p k ps e f) =
      branch (valued 31 p (specialize_value k)) (each prop_branch ps (expression_branch e ∷ᴮ expression_branch f ∷ᴮ []ᴮ))
  expression_branch (inline p t ps e) = branch (named 32 p t) (each prop_branch ps (expression_branch e ∷ᴮ []ᴮ))
  expression_branch (choice p es) = branch (plain 33 p) (expression_branches es)
  expression_branch (sequence p s) = branch (plain 34 p) (slot_branches s)
  expression_branch (empty p) = leaf (valued 34 p 1)
  expression_branch (repeat p k e) = branch (valued 35 p (repeat_value k)) (expression_branch e ∷ᴮ []ᴮ)
  expression_branch (Expression.literal p t) = leaf (named 36 p t)
  expression_branch (set p i ss) = branch (valued 37 p (flag i)) (each (span_branch p) ss []ᴮ)
  expression_branch (any p) = leaf (plain 39 p)
  expression_branch (class p c) = leaf (valued 40 p (class_value c))

  -- expressions, one after another
  pub expression_branches : Expressions ℕ → Branches
  expression_branches []ᴱ = []ᴮ
  expression_branches (e ∷ᴱ es) = expression_branch e ∷ᴮ expression_branches es

  -- the slots of a sequence
  pub slot_branches : Slots ℕ → Branches
  slot_branches (last ms) = each marker_branch ms []ᴮ
  slot_branches (slot ms e s) = each marker_branch ms (expression_branch e ∷ᴮ slot_branches s)

-- ------------------------------------------------------------------ declarations

-- a name alone, of a kind: 4 param, 17 conflict name, 24 dialect, 26 external name
abbrev pub name_branch : (kind : ℕ) → Identifier ℕ → Branch
name_branch k n = leaf (named k n.start n.name)

-- 15 source string, start 0
abbrev pub source_branch : List ℕ → Branch
source_branch s = leaf (named 15 0 s)

-- 2 top rule, 3 rule (text name): props, params, expression
abbrev pub rule_branch : (kind : ℕ) → RuleDeclaration ℕ → Branch
rule_branch k r =
    branch (named k r.id.start r.id.name)
    (each prop_branch r.props (each (name_branch 4) r.params (expression_branch r.expression ∷ᴮ []ᴮ)))

-- 30 or 36
abbrev pub reference_branch : TokenReference ℕ → Branch
reference_branch r = expression_branch (referred r)

-- 9 token precedence: 30s and 36s
abbrev pub token_prec_branch : TokenPrecDeclaration ℕ → Branch
token_prec_branch x = branch (plain 9 x.start) (each reference_branch x.items []ᴮ)

-- 10 token conflict: two, each 30 or 36
abbrev pub token_conflict_branch : TokenConflictDeclaration ℕ → Branch
token_conflict_branch x = branch (plain 10 x.start) (reference_branch x.left ∷ᴮ reference_branch x.right ∷ᴮ []ᴮ)

-- 11 literal (text): props
abbrev pub literal_branch : LiteralDeclaration ℕ → Branch
literal_branch x = branch (named 11 x.start x.literal) (each prop_branch x.props []ᴮ)

-- 13 named node (text): props
abbrev pub named_node_branch : NamedNode ℕ → Branch
named_node_branch x = branch (named 13 x.id.start x.id.name) (each prop_branch x.props []ᴮ)

-- the 13 of `@else`, if there is one
abbrev pub fallback_branches : Option (NamedNode ℕ) → Branches
fallback_branches none = []ᴮ
fallback_branches (some x) = named_node_branch x ∷ᴮ []ᴮ

-- 21 item (text; value 0 none, 1 left, 2 right, 3 cut)
abbrev pub prec_value : Option PrecKind → ℕ
prec_value none = 0
prec_value (some left) = 1
prec_value (some right) = 2
prec_value (some cut) = 3

-- 21 item, by that value
abbrev pub prec_item_branch : PrecItem ℕ → Branch
prec_item_branch x = leaf (full 21 x.id.start x.id.name (prec_value x.kind))

-- 8 tokens: 9, 10, 3, 11. 12 local tokens: 9, 3, at most one 13 (fallback). 14 context (text): 15. 16 external tokens (text): 15, 13s, 17s.
-- 18 external specializer (text; value 1 extend, 2 specialize): expression, 15, 13s. 19 prop source (text): 15. 20 precedences: 21s.
-- 22 main skip: expression. 23 scoped skip: expression, 2s, 3s. 22 and 23 take their expression's start
unfoldable pub declaration_branch : Declaration ℕ → Branch
declaration_branch (top_rule r) = rule_branch 2 r
declaration_branch (rule r) = rule_branch 3 r
declaration_branch (tokens x) =
    branch (plain 8 x.start)
    (each token_prec_branch x.precedences (each token_conflict_branch x.conflicts (each (rule_branch 3) x.rules (each literal_branch x.literals []ᴮ))))
declaration_branch (local_tokens x) =
    branch (plain 12 x.start) (each token_prec_branch x.precedences (each (rule_branch 3) x.rules (fallback_branches x.fallback)))
declaration_branch (context x) = branch (named 14 x.start x.id) (source_branch x.source ∷ᴮ []ᴮ)
declaration_branch (external_tokens x) =
    branch (named 16 x.start x.id)
    (source_branch x.source ∷ᴮ each named_node_branch x.tokens (each (name_branch 17) x.conflicts []ᴮ))
declaration_branch (external_specializer x) =
    branch (full 18 x.start x.id (specialize_value x.kind))
    (expression_branch x.token ∷ᴮ source_branch x.source ∷ᴮ each named_node_branch x.tokens []ᴮ)
declaration_branch (external_prop_source x) = branch (named 19 x.start x.id) (source_branch x.source ∷ᴮ []ᴮ)
declaration_branch (precedences x) = branch (plain 20 x.start) (each prec_item_branch x.items []ᴮ)
declaration_branch (main_skip e) = branch (plain 22 (start_of e)) (expression_branch e ∷ᴮ []ᴮ)
declaration_branch (scoped_skip x) =
    branch (plain 23 (start_of x.expression))
    (expression_branch x.expression ∷ᴮ each (rule_branch 2) x.top_rules (each (rule_branch 3) x.rules []ᴮ))

-- 25 external prop (text id): 26 external name, 15
abbrev pub external_prop_branch : ExternalPropDeclaration ℕ → Branch
external_prop_branch x = branch (named 25 x.start x.id) (name_branch 26 x.external_id ∷ᴮ source_branch x.source ∷ᴮ []ᴮ)

-- 1 grammar (value 1: `@detectDelim`): 2, 3, 8, 12, 14, 16, 18, 19, 20, 22, 23, 24, 25
unfoldable pub grammar_branch : GrammarDeclaration ℕ → Branch
unfolding each expression_branch declaration_branch
grammar_branch g =
    branch (valued 1 g.start (flag g.auto_delimiters))
    (each declaration_branch g.declarations (each (name_branch 24) g.dialects (each external_prop_branch g.external_props []ᴮ)))

-- the records of a grammar
unfoldable pub grammar_records : GrammarDeclaration ℕ → List Record
unfolding grammar_branch records
grammar_records g = records (grammar_branch g)

-- the texts of a grammar
unfoldable pub grammar_texts : GrammarDeclaration ℕ → List ℕ
unfolding grammar_branch texts
grammar_texts g = texts (grammar_branch g)

-- the words of its records
unfoldable pub grammar_words : GrammarDeclaration ℕ → List ℕ
unfolding grammar_records words
grammar_words g = words (grammar_records g)
