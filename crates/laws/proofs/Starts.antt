-- Tokens and trees with their starts replaced by a function of them. To leave starts out is to replace each by `tt`.
-- Assumes nothing.
use Rattle.std.specs.Prelude.{map}
use Rattle.std.proofs.Math.Option.{Option, none, some}
use Rattle.lexer.specs.Tokens.{Tokens, token, eof, bad}
use Rattle.tree.specs.Syntax.{Identifier, PropPart, value, Prop, ConflictMarker, Expression, special, inline, choice, sequence, empty, repeat, set, any, class, Expressions, []ᴱ, ◌∷ᴱ◌, Slots, last, slot, RuleDeclaration, TokenReference, TokenPrecDeclaration, TokenConflictDeclaration, LiteralDeclaration, NamedNode, TokenDeclaration, LocalTokenDeclaration, ContextDeclaration, ExternalTokenDeclaration, ExternalSpecializeDeclaration, ExternalPropSourceDeclaration, ExternalPropDeclaration, PrecItem, PrecDeclaration, ScopedSkipDeclaration, Declaration, top_rule, rule, tokens, local_tokens, context, external_tokens, external_specializer, external_prop_source, precedences, main_skip, scoped_skip, GrammarDeclaration}
use Rattle.notation.specs.Parser.{Answer, read, refused}

module _ {S T : Type 0} (f : S → T) where
  -- the starts of tokens
  unfoldable pub on_tokens : Tokens S → Tokens T
  on_tokens (token k p ts) = token k (f p) (on_tokens ts)
  on_tokens (eof p) = eof (f p)
  on_tokens (bad n p) = bad n (f p)

  -- the starts of what is left, or of a refusal, and those of the result by g
  unfoldable pub on_answer : {A B : Type 0} → (A → B) → Answer S A → Answer T B
  on_answer g (read a ts) = read (g a) (on_tokens ts)
  on_answer g (refused n p) = refused n (f p)

  -- of a name
  abbrev pub on_identifier : Identifier S → Identifier T
  on_identifier n = record { start = f n.start; name = n.name }

  -- of a prop's part
  abbrev pub on_part : PropPart S → PropPart T
  on_part (value p t) = value (f p) t
  on_part (PropPart.name p t) = PropPart.name (f p) t

  -- of a prop
  abbrev pub on_prop : Prop S → Prop T
  on_prop x = record { start = f x.start; at = x.at; name = x.name; value = map on_part x.value }

  -- of a marker
  abbrev pub on_marker : ConflictMarker S → ConflictMarker T
  on_marker m = record { start = f m.start; kind = m.kind; name = m.name }

  -- of expressions, with all below them
  unfoldable mutual
    -- of an expression
    pub on_expression : Expression S → Expression T
    on_expression (Expression.name p t es) = Expression.name (f p) t (on_expressions es)
    on_expression (special p k ps e e') = special (f p) k (map on_prop ps) (on_expression e) (on_expression e')
    on_expression (inline p t ps e) = inline (f p) t (map on_prop ps) (on_expression e)
    on_expression (choice p es) = choice (f p) (on_expressions es)
    on_expression (sequence p s) = sequence (f p) (on_slots s)
    on_expression (empty p) = empty (f p)
    on_expression (repeat p k e) = repeat (f p) k (on_expression e)
    on_expression (Expression.literal p t) = Expression.literal (f p) t
    on_expression (set p i ss) = set (f p) i ss
    on_expression (any p) = any (f p)
    on_expression (class p c) = class (f p) c

    -- of each expression
    pub on_expressions : Expressions S → Expressions T
    on_expressions []ᴱ = []ᴱ
    on_expressions (e ∷ᴱ es) = on_expression e ∷ᴱ on_expressions es

    -- of a sequence's markers and expressions
    pub on_slots : Slots S → Slots T
    on_slots (last ms) = last (map on_marker ms)
    on_slots (slot ms e s) = slot (map on_marker ms) (on_expression e) (on_slots s)

  -- of a rule
  abbrev pub on_rule : RuleDeclaration S → RuleDeclaration T
  on_rule r =
      record { id = on_identifier r.id; props = map on_prop r.props; params = map on_identifier r.params; expression = on_expression r.expression }

  -- of a name or a literal
  unfoldable pub on_reference : TokenReference S → TokenReference T
  on_reference (TokenReference.name p t es) = TokenReference.name (f p) t (on_expressions es)
  on_reference (TokenReference.literal p t) = TokenReference.literal (f p) t

  -- of a token precedence
  abbrev pub on_token_prec : TokenPrecDeclaration S → TokenPrecDeclaration T
  on_token_prec x = record { start = f x.start; items = map on_reference x.items }

  -- of a token conflict
  abbrev pub on_token_conflict : TokenConflictDeclaration S → TokenConflictDeclaration T
  on_token_conflict x = record { start = f x.start; left = on_reference x.left; right = on_reference x.right }

  -- of a literal in `@tokens`
  abbrev pub on_literal : LiteralDeclaration S → LiteralDeclaration T
  on_literal x = record { start = f x.start; literal = x.literal; props = map on_prop x.props }

  -- of a named node
  abbrev pub on_named_node : NamedNode S → NamedNode T
  on_named_node x = record { id = on_identifier x.id; props = map on_prop x.props }

  -- of the fallback, if there is one
  abbrev pub on_fallback : Option (NamedNode S) → Option (NamedNode T)
  on_fallback none = none
  on_fallback (some x) = some (on_named_node x)

  -- of an item of `@precedence`
  abbrev pub on_prec_item : PrecItem S → PrecItem T
  on_prec_item x = record { id = on_identifier x.id; kind = x.kind }

  -- of `@tokens`
  abbrev pub on_token_block : TokenDeclaration S → TokenDeclaration T
  on_token_block x =
      record {
        start = f x.start;
        precedences = map on_token_prec x.precedences;
        conflicts = map on_token_conflict x.conflicts;
        rules = map on_rule x.rules;
        literals = map on_literal x.literals;
      }

  -- of `@local tokens`
  abbrev pub on_local_tokens : LocalTokenDeclaration S → LocalTokenDeclaration T
  on_local_tokens x =
      record { start = f x.start; precedences = map on_token_prec x.precedences; rules = map on_rule x.rules; fallback = on_fallback x.fallback }

  -- of `@context`
  abbrev pub on_context : ContextDeclaration S → ContextDeclaration T
  on_context x = record { start = f x.start; id = x.id; source = x.source }

  -- of `@external tokens`
  abbrev pub on_external_tokens : ExternalTokenDeclaration S → ExternalTokenDeclaration T
  on_external_tokens x =
      record { start = f x.start; id = x.id; source = x.source; tokens = map on_named_node x.tokens; conflicts = map on_identifier x.conflicts }

  -- of `@external extend` or `@external specialize`
  abbrev pub on_specializer : ExternalSpecializeDeclaration S → ExternalSpecializeDeclaration T
  on_specializer x =
      record { start = f x.start; kind = x.kind; token = on_expression x.token; id = x.id; source = x.source; tokens = map on_named_node x.tokens }

  -- of `@external propSource`
  abbrev pub on_prop_source : ExternalPropSourceDeclaration S → ExternalPropSourceDeclaration T
  on_prop_source x = record { start = f x.start; id = x.id; source = x.source }

  -- of `@external prop`
  abbrev pub on_external_prop : ExternalPropDeclaration S → ExternalPropDeclaration T
  on_external_prop x = record { start = f x.start; id = x.id; external_id = on_identifier x.external_id; source = x.source }

  -- of `@precedence`
  abbrev pub on_precedences : PrecDeclaration S → PrecDeclaration T
  on_precedences x = record { start = f x.start; items = map on_prec_item x.items }

  -- of a scoped `@skip`
  abbrev pub on_scoped_skip : ScopedSkipDeclaration S → ScopedSkipDeclaration T
  on_scoped_skip x = record { expression = on_expression x.expression; top_rules = map on_rule x.top_rules; rules = map on_rule x.rules }

  -- of a declaration
  unfoldable pub on_declaration : Declaration S → Declaration T
  on_declaration (top_rule r) = top_rule (on_rule r)
  on_declaration (rule r) = rule (on_rule r)
  on_declaration (tokens x) = tokens (on_token_block x)
  on_declaration (local_tokens x) = local_tokens (on_local_tokens x)
  on_declaration (context x) = context (on_context x)
  on_declaration (external_tokens x) = external_tokens (on_external_tokens x)
  on_declaration (external_specializer x) = external_specializer (on_specializer x)
  on_declaration (external_prop_source x) = external_prop_source (on_prop_source x)
  on_declaration (precedences x) = precedences (on_precedences x)
  on_declaration (main_skip e) = main_skip (on_expression e)
  on_declaration (scoped_skip x) = scoped_skip (on_scoped_skip x)

  -- of a grammar
  unfoldable pub on_grammar : GrammarDeclaration S → GrammarDeclaration T
  on_grammar g =
      record {
        start = f g.start;
        declarations = map on_declaration g.declarations;
        dialects = map on_identifier g.dialects;
        external_props = map on_external_prop g.external_props;
        auto_delimiters = g.auto_delimiters;
      }

-- without starts
abbrev pub bare : {S : Type 0} → GrammarDeclaration S → GrammarDeclaration (Unit {0})
bare g = on_grammar (λ _. tt) g
