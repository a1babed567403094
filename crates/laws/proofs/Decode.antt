-- The tree of records of a grammar, taken back to the grammar without starts.
-- Assumes nothing.
use Prim.Native.Nat.{ℕ}
use mathlib.Core.Bool.{◌||◌, not}
use mathlib.Core.List.{List, [], ◌∷◌, ◌++◌, map}
use mathlib.Core.Option.{Option, none, some}
use lib.Dec.{eqb}
use Rattle.basics.specs.Basics.{if◌then◌otherwise◌, keep_if, first_element}
use Rattle.characters.specs.Spans.{Span, ◌upto◌}
use Rattle.characters.specs.Utf8.{codes}
use Rattle.tree.specs.Records.{Row, Branch, branch, Branches, []ᴮ, ◌∷ᴮ◌}
use Rattle.tree.specs.OneTree.{is_expression, kind_of}
use Rattle.tree.specs.Syntax.{Identifier, PropPart, value, Prop, ConflictMarker, ambiguity, precedence, SpecializeKind, extend, specialize, RepeatKind, optional, zero_or_more, one_or_more, CharClass, ascii_letter, ascii_lowercase, ascii_uppercase, digit, whitespace, eof, Expression, special, inline, choice, sequence, empty, repeat, set, any, class, Slots, last, slot, expressions, RuleDeclaration, TokenReference, TokenPrecDeclaration, TokenConflictDeclaration, LiteralDeclaration, NamedNode, ExternalPropDeclaration, PrecKind, left, right, cut, PrecItem, Declaration, top_rule, rule, tokens, local_tokens, context, external_tokens, external_specializer, external_prop_source, precedences, main_skip, scoped_skip, GrammarDeclaration}
use Rattle.notation.specs.Expressions.{reference_of}
use Rattle.laws.proofs.Fine.{U}

abbrev text_of : Row → List ℕ
text_of r = codes r.text

-- those of a kind, each by a function
unfoldable pub pick : {A : Type 0} → ℕ → (Branch → A) → Branches → List A
pick k f []ᴮ = []
pick k f (b ∷ᴮ bs) = keep_if (eqb (kind_of b) k) (f b) (pick k f bs)

unfoldable pub part_in : Branch → PropPart U
part_in (branch r bs) = if eqb r.kind 6 then value tt (text_of r) otherwise PropPart.name tt (text_of r)

-- all branches, each by a function
unfoldable pub all_in : {A : Type 0} → (Branch → A) → Branches → List A
all_in f []ᴮ = []
all_in f (b ∷ᴮ bs) = f b ∷ all_in f bs

unfoldable pub prop_in : Branch → Prop U
prop_in (branch r bs) = record { start = tt; at = eqb r.value 1; name = text_of r; value = all_in part_in bs }

unfoldable pub span_in : Branch → Span
span_in (branch r bs) = r.value upto r.second

unfoldable pub marker_in : Branch → ConflictMarker U
marker_in (branch r bs) = record { start = tt; kind = if eqb r.kind 41 then ambiguity otherwise precedence; name = text_of r }

abbrev pub specialize_in : ℕ → SpecializeKind
specialize_in v = if eqb v 1 then extend otherwise specialize

abbrev pub repeat_in : ℕ → RepeatKind
repeat_in v = if eqb v 0 then optional otherwise if eqb v 1 then zero_or_more otherwise one_or_more

abbrev pub class_in : ℕ → CharClass
class_in v =
    if eqb v 0 then ascii_letter otherwise if eqb v 1 then ascii_lowercase otherwise if eqb v 2 then ascii_uppercase otherwise if eqb v 3 then digit otherwise if eqb v 4 then whitespace otherwise eof

-- the first and the second of a list of expressions
abbrev pub first : List (Expression U) → Expression U
first [] = any tt
first (e ∷ es) = e

abbrev pub second : List (Expression U) → Expression U
second [] = any tt
second (e ∷ es) = first es

unfoldable pub expression_by : Row → List (Prop U) → List (Expression U) → Slots U → List Span → Expression U
expression_by r ps es sl ss =
    if eqb r.kind 30 then Expression.name tt (text_of r) (expressions es)
    otherwise if eqb r.kind 31 then special tt (specialize_in r.value) ps (first es) (second es)
    otherwise if eqb r.kind 32 then inline tt (text_of r) ps (first es)
    otherwise if eqb r.kind 33 then choice tt (expressions es)
    otherwise if eqb r.kind 34 then (if eqb r.value 1 then empty tt otherwise sequence tt sl)
    otherwise if eqb r.kind 35 then repeat tt (repeat_in r.value) (first es)
    otherwise if eqb r.kind 36 then Expression.literal tt (text_of r)
    otherwise if eqb r.kind 37 then set tt (eqb r.value 1) ss
    otherwise if eqb r.kind 39 then any tt
    otherwise class tt (class_in r.value)

unfoldable mutual
  pub expression_in : Branch → Expression U
  expression_in (branch r bs) = expression_by r (pick 5 prop_in bs) (expressions_in bs) (slots_in [] bs) (all_in span_in bs)

  pub expressions_in : Branches → List (Expression U)
  expressions_in []ᴮ = []
  expressions_in (b ∷ᴮ bs) = keep_if (is_expression (kind_of b)) (expression_in b) (expressions_in bs)

  pub slots_in : List (ConflictMarker U) → Branches → Slots U
  slots_in ms []ᴮ = last ms
  slots_in ms (b ∷ᴮ bs) = if is_expression (kind_of b) then slot ms (expression_in b) (slots_in [] bs) otherwise slots_in (ms ++ marker_in b ∷ []) bs

unfoldable pub name_in : Branch → Identifier U
name_in (branch r bs) = record { start = tt; name = text_of r }

-- a source string's text
unfoldable pub source_in : Branch → List ℕ
source_in (branch r bs) = text_of r

unfoldable pub rule_in : Branch → RuleDeclaration U
rule_in (branch r bs) = record { id = record { start = tt; name = text_of r }; props = pick 5 prop_in bs; params = pick 4 name_in bs; expression = first (expressions_in bs) }

abbrev pub or_name : Option (TokenReference U) → TokenReference U
or_name none = TokenReference.literal tt []
or_name (some r) = r

unfoldable pub reference_in : Expression U → TokenReference U
reference_in e = or_name (reference_of e)

unfoldable pub token_prec_in : Branch → TokenPrecDeclaration U
token_prec_in (branch r bs) = record { start = tt; items = map reference_in (expressions_in bs) }

unfoldable pub token_conflict_in : Branch → TokenConflictDeclaration U
token_conflict_in (branch r bs) = record { start = tt; left = reference_in (first (expressions_in bs)); right = reference_in (second (expressions_in bs)) }

unfoldable pub literal_in : Branch → LiteralDeclaration U
literal_in (branch r bs) = record { start = tt; literal = text_of r; props = pick 5 prop_in bs }

unfoldable pub node_in : Branch → NamedNode U
node_in (branch r bs) = record { id = record { start = tt; name = text_of r }; props = pick 5 prop_in bs }

abbrev pub prec_kind_in : ℕ → Option PrecKind
prec_kind_in v = if eqb v 0 then none otherwise if eqb v 1 then some left otherwise if eqb v 2 then some right otherwise some cut

unfoldable pub prec_item_in : Branch → PrecItem U
prec_item_in (branch r bs) = record { id = record { start = tt; name = text_of r }; kind = prec_kind_in r.value }

abbrev pub first_text : List (List ℕ) → List ℕ
first_text [] = []
first_text (t ∷ ts) = t

unfoldable pub declaration_in : Branch → Declaration U
declaration_in (branch r bs) =
    if eqb r.kind 2 then top_rule (rule_in (branch r bs))
    otherwise if eqb r.kind 3 then rule (rule_in (branch r bs))
    otherwise if eqb r.kind 8 then tokens (record { start = tt; precedences = pick 9 token_prec_in bs; conflicts = pick 10 token_conflict_in bs; rules = pick 3 rule_in bs; literals = pick 11 literal_in bs })
    otherwise if eqb r.kind 12 then local_tokens (record { start = tt; precedences = pick 9 token_prec_in bs; rules = pick 3 rule_in bs; fallback = first_element (pick 13 node_in bs) })
    otherwise if eqb r.kind 14 then context (record { start = tt; id = text_of r; source = first_text (pick 15 source_in bs) })
    otherwise if eqb r.kind 16 then external_tokens (record { start = tt; id = text_of r; source = first_text (pick 15 source_in bs); tokens = pick 13 node_in bs; conflicts = pick 17 name_in bs })
    otherwise if eqb r.kind 18 then external_specializer (record { start = tt; kind = specialize_in r.value; token = first (expressions_in bs); id = text_of r; source = first_text (pick 15 source_in bs); tokens = pick 13 node_in bs })
    otherwise if eqb r.kind 19 then external_prop_source (record { start = tt; id = text_of r; source = first_text (pick 15 source_in bs) })
    otherwise if eqb r.kind 20 then precedences (record { start = tt; items = pick 21 prec_item_in bs })
    otherwise if eqb r.kind 22 then main_skip (first (expressions_in bs))
    otherwise scoped_skip (record { expression = first (expressions_in bs); top_rules = pick 2 rule_in bs; rules = pick 3 rule_in bs })

abbrev pub first_name : List (Identifier U) → Identifier U
first_name [] = record { start = tt; name = [] }
first_name (n ∷ ns) = n

unfoldable pub external_prop_in : Branch → ExternalPropDeclaration U
external_prop_in (branch r bs) = record { start = tt; id = text_of r; external_id = first_name (pick 26 name_in bs); source = first_text (pick 15 source_in bs) }

-- declarations but for dialects and external props
unfoldable pub declarations_in : Branches → List (Declaration U)
declarations_in []ᴮ = []
declarations_in (b ∷ᴮ bs) = keep_if (not (eqb (kind_of b) 24 || eqb (kind_of b) 25)) (declaration_in b) (declarations_in bs)

unfoldable pub grammar_in : Branch → GrammarDeclaration U
grammar_in (branch r bs) =
    record { start = tt; declarations = declarations_in bs; dialects = pick 24 name_in bs; external_props = pick 25 external_prop_in bs; auto_delimiters = eqb r.value 1 }
