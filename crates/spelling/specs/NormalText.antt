-- The normal text of a tree. Each function gives the tokens of its part of the tree, in front of those that follow, ks.
-- Assumes nothing.
use Rattle.std.specs.Prelude.{ℕ, Bool, true, false, ◌||◌}
use Prim.Native.Char.{Char, code}
use Prim.Native.String.{String}
use mathlib.Core.List.{List, [], ◌∷◌, ◌++◌, map}
use Rattle.std.proofs.Math.Option.{Option, none, some}
use Rattle.basics.specs.Basics.{letters}
use Rattle.characters.specs.Utf8.{encode_all}
use Rattle.lexer.specs.Tokens.{Kind}
use Rattle.tree.specs.Syntax.{Identifier, PropPart, value, Prop, ConflictMarkerKind, ambiguity, precedence, ConflictMarker, SpecializeKind, extend, specialize, RepeatKind, optional, zero_or_more, one_or_more, CharClass, ascii_letter, ascii_lowercase, ascii_uppercase, digit, whitespace, eof, Expression, special, inline, choice, sequence, empty, repeat, set, any, class, Expressions, []ᴱ, ◌∷ᴱ◌, Slots, last, slot, RuleDeclaration, TokenReference, referred, TokenPrecDeclaration, TokenConflictDeclaration, LiteralDeclaration, NamedNode, ExternalPropDeclaration, PrecKind, left, right, cut, PrecItem, Declaration, top_rule, rule, tokens, local_tokens, context, external_tokens, external_specializer, external_prop_source, precedences, main_skip, scoped_skip, GrammarDeclaration}
use Rattle.spelling.specs.Spelling.{quoted, hex_from, code_text, span_text, spans_text, spell, spaced}

-- tokens in front of others
abbrev pub Tokens : Type 0
Tokens = List Kind → List Kind

-- ------------------------------------------------------------------ single tokens and lists

-- a mark
abbrev pub mark : Char → Tokens
mark c ks = Kind.mark (code c) ∷ ks

-- a quoted word
abbrev pub word : String → Tokens
word s ks = Kind.name (letters s) ∷ ks

-- a quoted word after an `@`
abbrev pub at : String → Tokens
at s ks = Kind.at (letters s) ∷ ks

-- a text as a string
abbrev pub string : List ℕ → Tokens
string t ks = Kind.string (quoted t) ∷ ks

-- a name of the tree
abbrev pub identifier : {S : Type 0} → Identifier S → Tokens
identifier n ks = Kind.name n.name ∷ ks

module _ {A : Type 0} (write : A → Tokens) where
  -- one after another
  unfoldable pub each : List A → Tokens
  each [] ks = ks
  each (x ∷ xs) ks = write x (each xs ks)

  -- each after a comma
  unfoldable pub each_after : List A → Tokens
  each_after [] ks = ks
  each_after (x ∷ xs) ks = mark "," (write x (each_after xs ks))

  -- with commas between
  abbrev pub commas : List A → Tokens
  commas [] ks = ks
  commas (x ∷ xs) ks = write x (each_after xs ks)

  -- with commas between and in brackets; an empty list is left out
  abbrev pub bracketed : (opening closing : Char) → List A → Tokens
  bracketed a b [] ks = ks
  bracketed a b (x ∷ xs) ks = mark a (write x (each_after xs (mark b ks)))

-- ------------------------------------------------------------------ words and marks of the tree's small types

-- the name of a prop, after an `@` or not
abbrev pub prop_name : (at : Bool) → List ℕ → Kind
prop_name true t = Kind.at t
prop_name false t = Kind.name t

-- the mark of a marker
abbrev pub marker_sign : ConflictMarkerKind → Char
marker_sign ambiguity = "~"
marker_sign precedence = "!"

-- the word of a specialize
abbrev pub specialize_word : SpecializeKind → String
specialize_word extend = "extend"
specialize_word specialize = "specialize"

-- the mark of a repeat
abbrev pub repeat_sign : RepeatKind → Char
repeat_sign optional = "?"
repeat_sign zero_or_more = "*"
repeat_sign one_or_more = "+"

-- the name of a class
abbrev pub class_name : CharClass → String
class_name ascii_letter = "asciiLetter"
class_name ascii_lowercase = "asciiLowercase"
class_name ascii_uppercase = "asciiUppercase"
class_name digit = "digit"
class_name whitespace = "whitespace"
class_name eof = "eof"

-- how an item associates, if it does
abbrev pub prec_tokens : Option PrecKind → Tokens
prec_tokens none ks = ks
prec_tokens (some left) ks = at "left" ks
prec_tokens (some right) ks = at "right" ks
prec_tokens (some cut) ks = at "cut" ks

-- `name from "source"`
abbrev pub from_tokens : (id source : List ℕ) → Tokens
from_tokens n s ks = Kind.name n ∷ word "from" (string s ks)

-- the line of `@detectDelim`, if it is there
abbrev pub detect_lines : Bool → List (List Kind)
detect_lines false = []
detect_lines true = at "detectDelim" [] ∷ []

-- in round brackets, if a test says so
abbrev pub bracket_if : Bool → Tokens → Tokens
bracket_if true f ks = mark "(" (f (mark ")" ks))
bracket_if false f ks = f ks

module _ {S : Type 0} where
  -- ------------------------------------------------------------------ props

  -- a string, or `{ name }`
  abbrev pub part_tokens : PropPart S → Tokens
  part_tokens (value p t) ks = string t ks
  part_tokens (PropPart.name p t) ks = mark "{" (Kind.name t ∷ mark "}" ks)

  -- a `=` stands only before parts
  abbrev pub value_tokens : List (PropPart S) → Tokens
  value_tokens [] ks = ks
  value_tokens (x ∷ xs) ks = mark "=" (each part_tokens (x ∷ xs) ks)

  -- a prop: its name, and its parts after a `=`
  abbrev pub prop_tokens : Prop S → Tokens
  prop_tokens x ks = prop_name x.at x.name ∷ value_tokens x.value ks

  -- props in their brackets
  abbrev pub props_tokens : List (Prop S) → Tokens
  props_tokens ps ks = bracketed prop_tokens "[" "]" ps ks

  -- ------------------------------------------------------------------ expressions

  -- a choice
  abbrev pub is_choice : Expression S → Bool
  is_choice (choice p es) = true
  is_choice (sequence p s) = false
  is_choice (Expression.name p t es) = false
  is_choice (special p k ps e f) = false
  is_choice (inline p t ps e) = false
  is_choice (empty p) = false
  is_choice (repeat p k e) = false
  is_choice (Expression.literal p t) = false
  is_choice (set p i ss) = false
  is_choice (any p) = false
  is_choice (class p c) = false

  -- a sequence that is not explicitly empty
  abbrev pub is_sequence : Expression S → Bool
  is_sequence (choice p es) = false
  is_sequence (sequence p s) = true
  is_sequence (Expression.name p t es) = false
  is_sequence (special p k ps e f) = false
  is_sequence (inline p t ps e) = false
  is_sequence (empty p) = false
  is_sequence (repeat p k e) = false
  is_sequence (Expression.literal p t) = false
  is_sequence (set p i ss) = false
  is_sequence (any p) = false
  is_sequence (class p c) = false

  -- a marker: its mark and its name
  abbrev pub marker_tokens : ConflictMarker S → Tokens
  marker_tokens m ks = mark (marker_sign m.kind) (Kind.name m.name ∷ ks)

  -- Round brackets stand around a choice in a choice, and around a choice or a sequence in a sequence or a repeat
  unfoldable mutual
    -- an expression
    pub expression_tokens : Expression S → Tokens
    expression_tokens (Expression.name p t es) ks = Kind.name t ∷ arguments_tokens es ks
    expression_tokens (special p k ps e f) ks =
        at (specialize_word k) (props_tokens ps (mark "<" (expression_tokens e (mark "," (expression_tokens f (mark ">" ks))))))
    expression_tokens (inline p t ps e) ks = Kind.name t ∷ props_tokens ps (mark "{" (expression_tokens e (mark "}" ks)))
    expression_tokens (choice p es) ks = arms_tokens es ks
    expression_tokens (sequence p s) ks = slots_tokens s ks
    expression_tokens (empty p) ks = mark "(" (mark ")" ks)
    expression_tokens (repeat p k e) ks = bracket_if (is_choice e || is_sequence e) (λ l. expression_tokens e l) (mark (repeat_sign k) ks)
    expression_tokens (Expression.literal p t) ks = string t ks
    expression_tokens (set p i ss) ks = Kind.set i (spans_text ss) ∷ ks
    expression_tokens (any p) ks = word "_" ks
    expression_tokens (class p c) ks = at (class_name c) ks

    -- an argument that is empty, but not explicitly, writes no token
    pub arguments_tokens : Expressions S → Tokens
    arguments_tokens []ᴱ ks = ks
    arguments_tokens (e ∷ᴱ es) ks = mark "<" (expression_tokens e (more_arguments es ks))

    -- the arguments after the first, and the closing mark
    pub more_arguments : Expressions S → Tokens
    more_arguments []ᴱ ks = mark ">" ks
    more_arguments (e ∷ᴱ es) ks = mark "," (expression_tokens e (more_arguments es ks))

    -- the arms of a choice
    pub arms_tokens : Expressions S → Tokens
    arms_tokens []ᴱ ks = ks
    arms_tokens (e ∷ᴱ es) ks = bracket_if (is_choice e) (λ l. expression_tokens e l) (more_arms es ks)

    -- the arms after the first
    pub more_arms : Expressions S → Tokens
    more_arms []ᴱ ks = ks
    more_arms (e ∷ᴱ es) ks = mark "|" (bracket_if (is_choice e) (λ l. expression_tokens e l) (more_arms es ks))

    -- the slots of a sequence
    pub slots_tokens : Slots S → Tokens
    slots_tokens (last ms) ks = each marker_tokens ms ks
    slots_tokens (slot ms e s) ks = each marker_tokens ms (bracket_if (is_choice e || is_sequence e) (λ l. expression_tokens e l) (slots_tokens s ks))

  -- ------------------------------------------------------------------ declarations

  -- an expression in braces
  abbrev pub body_tokens : Expression S → Tokens
  body_tokens e ks = mark "{" (expression_tokens e (mark "}" ks))

  -- a rule
  abbrev pub rule_tokens : RuleDeclaration S → Tokens
  rule_tokens r ks = identifier r.id (props_tokens r.props (bracketed identifier "<" ">" r.params (body_tokens r.expression ks)))

  -- a top rule
  abbrev pub top_rule_tokens : RuleDeclaration S → Tokens
  top_rule_tokens r ks = at "top" (rule_tokens r ks)

  -- a name or a literal
  abbrev pub reference_tokens : TokenReference S → Tokens
  reference_tokens r ks = expression_tokens (referred r) ks

  -- `@precedence` in a block of tokens
  abbrev pub token_prec_tokens : TokenPrecDeclaration S → Tokens
  token_prec_tokens x ks = at "precedence" (mark "{" (commas reference_tokens x.items (mark "}" ks)))

  -- `@conflict` in a block of tokens
  abbrev pub token_conflict_tokens : TokenConflictDeclaration S → Tokens
  token_conflict_tokens x ks =
      at "conflict" (mark "{" (reference_tokens x.left (mark "," (reference_tokens x.right (mark "}" ks)))))

  -- a literal in `@tokens`
  abbrev pub literal_tokens : LiteralDeclaration S → Tokens
  literal_tokens x ks = string x.literal (props_tokens x.props ks)

  -- a named node
  abbrev pub named_node_tokens : NamedNode S → Tokens
  named_node_tokens x ks = identifier x.id (props_tokens x.props ks)

  -- `@else` and its node, if there is one
  abbrev pub fallback_tokens : Option (NamedNode S) → Tokens
  fallback_tokens none ks = ks
  fallback_tokens (some x) ks = at "else" (named_node_tokens x ks)

  -- an item of `@precedence`
  abbrev pub prec_item_tokens : PrecItem S → Tokens
  prec_item_tokens x ks = identifier x.id (prec_tokens x.kind ks)

  -- the conflicts of an external block, in one list; an empty one is left out
  abbrev pub conflicts_tokens : List (Identifier S) → Tokens
  conflicts_tokens [] ks = ks
  conflicts_tokens (n ∷ ns) ks = at "conflict" (mark "{" (commas identifier (n ∷ ns) (mark "}" ks)))

  -- a comma stands between the last node and the list of conflicts
  abbrev pub external_set_tokens : List (NamedNode S) → List (Identifier S) → Tokens
  external_set_tokens xs [] ks = mark "{" (commas named_node_tokens xs (mark "}" ks))
  external_set_tokens [] (n ∷ ns) ks = mark "{" (conflicts_tokens (n ∷ ns) (mark "}" ks))
  external_set_tokens (x ∷ xs) (n ∷ ns) ks = mark "{" (commas named_node_tokens (x ∷ xs) (mark "," (conflicts_tokens (n ∷ ns) (mark "}" ks))))

  -- a declaration. Lists of blocks stand in the order of the records
  unfoldable pub declaration_tokens : Declaration S → Tokens
  declaration_tokens (top_rule r) ks = top_rule_tokens r ks
  declaration_tokens (rule r) ks = rule_tokens r ks
  declaration_tokens (tokens x) ks =
      at "tokens" (mark "{" (each token_prec_tokens x.precedences (each token_conflict_tokens x.conflicts
      (each rule_tokens x.rules (each literal_tokens x.literals (mark "}" ks))))))
  declaration_tokens (local_tokens x) ks =
      at "local" (word "tokens" (mark "{" (each token_prec_tokens x.precedences (each rule_tokens x.rules (fallback_tokens x.fallback (mark "}" ks))))))
  declaration_tokens (context x) ks = at "context" (from_tokens x.id x.source ks)
  declaration_tokens (external_tokens x) ks =
      at "external" (word "tokens" (from_tokens x.id x.source (external_set_tokens x.tokens x.conflicts ks)))
  declaration_tokens (external_specializer x) ks =
      at "external" (word (specialize_word x.kind) (body_tokens x.token (from_tokens x.id x.source (external_set_tokens x.tokens [] ks))))
  declaration_tokens (external_prop_source x) ks = at "external" (word "propSource" (from_tokens x.id x.source ks))
  declaration_tokens (precedences x) ks = at "precedence" (mark "{" (commas prec_item_tokens x.items (mark "}" ks)))
  declaration_tokens (main_skip e) ks = at "skip" (body_tokens e ks)
  declaration_tokens (scoped_skip x) ks =
      at "skip" (body_tokens x.expression (mark "{" (each top_rule_tokens x.top_rules (each rule_tokens x.rules (mark "}" ks)))))

  -- dialects in one list; an empty one is left out
  abbrev pub dialects_lines : List (Identifier S) → List (List Kind)
  dialects_lines [] = []
  dialects_lines (n ∷ ns) = at "dialects" (mark "{" (commas identifier (n ∷ ns) (mark "}" []))) ∷ []

  -- `@external prop`; `as` is always written
  unfoldable pub external_prop_tokens : ExternalPropDeclaration S → Tokens
  external_prop_tokens x ks = at "external" (word "prop" (identifier x.external_id (word "as" (from_tokens x.id x.source ks))))

  -- ------------------------------------------------------------------ the text

  -- the tokens of a grammar, line by line: one line for each top-level declaration, `@detectDelim` last
  unfoldable pub lines : GrammarDeclaration S → List (List Kind)
  unfolding quoted hex_from code_text span_text spans_text each each_after expression_tokens declaration_tokens external_prop_tokens
  lines g =
      map (λ d. declaration_tokens d []) g.declarations
      ++ dialects_lines g.dialects
      ++ map (λ x. external_prop_tokens x []) g.external_props
      ++ detect_lines g.auto_delimiters

-- each line's tokens with one space between, and a line feed
unfoldable pub lines_text : List (List Kind) → List ℕ
lines_text [] = []
lines_text (l ∷ ls) = spaced l ++ (code "\n" ∷ lines_text ls)

-- the normal text of a grammar, in bytes
unfoldable pub normal_text : {S : Type 0} → GrammarDeclaration S → List ℕ
unfolding encode_all spell spaced lines lines_text
normal_text g = encode_all (lines_text (lines g))
