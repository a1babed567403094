-- Declarations and the whole grammar: `parse_grammar`, `Input::parse` and `parse_declaration` with what they call.
-- Assumes nothing.
use Rattle.std.specs.Prelude.{ℕ, Bool, true, false, ◌&&◌, ◌||◌, not, List, [], ◌∷◌}
use Rattle.std.proofs.Math.Option.{Option, none, some}
use Rattle.basics.specs.Basics.{if◌then◌otherwise◌, spells, same, concat, last_of, first_element, is_empty, kept, picked}
use Rattle.error.specs.Causes.{top_without_name, second_tokens, second_precedence, second_context, second_skip, no_top, bad_precedence, bad_conflict}
use Rattle.lexer.specs.Escapes.{decode_string}
use Rattle.tree.specs.Syntax.{Identifier, SpecializeKind, RuleDeclaration, TokenReference, TokenPrecDeclaration, TokenConflictDeclaration, LiteralDeclaration, NamedNode, TokenDeclaration, LocalTokenDeclaration, ExternalPropDeclaration, PrecKind, PrecItem, PrecDeclaration, Declaration, GrammarDeclaration, start_of, expressions, groups, grouped, has_kind}
use Rattle.notation.specs.Members.{TokenMember, token_precedence, token_conflict, token_rule, token_literal, LocalMember, local_precedence, local_rule, local_fallback, SkipMember, skip_top_rule, skip_rule, ExternalMember, external_token, external_conflicts, Member, declaration, dialects, external_prop, detect_delim, declared, declared_dialects, declared_prop, detects}
use Rattle.notation.specs.Limits.{levels, repeats}
use Rattle.notation.specs.Parser.{Parser, ◌>>=◌, ◌>>◌, pure, refuse, choose, here, kind, refuse_here, unexpected, arrive, next, is_end, is_mark, name_in, at_in, string_in, says, eat, eat_name, eat_at, expect, expect_name, expect_string, parse_identifier, size, turns, loop, until_step, until, comma_or_not, nothing, and_then, eat_if, must, taken, separate}
use Rattle.notation.specs.Parser as P
use Rattle.notation.specs.Expressions.{parse_part, prop_named, parse_prop, parse_props, parse_set_expression, reference_of, parse_repeat, repeated, slots, first_empty_arm, parse_braced_expression, parse_rule_named, parse_inline_rule_expression, parse_specialize_expression, parse_parenthesized_expression, parse_arguments, parse_named, parse_expression_inner, parse_expression_suffix, parse_item, parse_expression_sequence, parse_arm, parse_expression_choice, choice_at, outermost, part_by, prop_by, class_by, std_class_by, set_by, literal_of, content_by, inline_by, stacked, repeat_by, sequence_of, is_empty_arm, choice_by, choice_of, inner_by, item_by}

module _ {S : Type 0} where
  -- ------------------------------------------------------------------ rules and blocks

  -- `parse_rule`, from its name on
  unfoldable pub parse_rule : Parser S (RuleDeclaration S)
  parse_rule = parse_identifier >>= parse_rule_named outermost

  -- `{` items `}`
  abbrev pub block : {A : Type 0} → Parser S (Unit {0}) → (List A → Parser S A) → Parser S (List A)
  block between item = expect "{" >> until (eat "}") between item

  -- a list of names, commas between them or not
  abbrev pub names : Parser S (List (Identifier S))
  names = block comma_or_not (λ _. parse_identifier)

  -- ------------------------------------------------------------------ token blocks

  -- the reference, or a refusal at p
  unfoldable pub reference_by : (cause : ℕ) → S → Option (TokenReference S) → Parser S (TokenReference S)
  reference_by n p none = refuse n p
  reference_by n p (some r) = pure r

  -- a name or a literal. It stands in no rule's body: its first bracket is level 1
  unfoldable pub parse_token_reference : (cause : ℕ) → Parser S (TokenReference S)
  parse_token_reference n = do
    e ← parse_expression_inner outermost
    reference_by n (start_of e) (reference_of e)

  -- `@precedence` in a block of tokens, at its keyword
  unfoldable pub parse_token_precedence : Parser S (TokenPrecDeclaration S)
  parse_token_precedence = do
    p ← here
    next
    rs ← block comma_or_not (λ _. parse_token_reference bad_precedence)
    pure (record { start = p; items = rs })

  -- `@conflict` in a block of tokens, at its keyword
  unfoldable pub parse_token_conflict : Parser S (TokenConflictDeclaration S)
  parse_token_conflict = do
    p ← here
    next
    expect "{"
    a ← parse_token_reference bad_conflict
    comma_or_not
    b ← parse_token_reference bad_conflict
    expect "}"
    pure (record { start = p; left = a; right = b })

  -- after the literal's token
  unfoldable pub parse_literal : List ℕ → Parser S (LiteralDeclaration S)
  parse_literal t = do
    p ← here
    next
    ps ← parse_props
    pure (record { start = p; literal = t; props = ps })

  -- a name and its props
  unfoldable pub parse_named_node : Parser S (NamedNode S)
  parse_named_node = do
    n ← parse_identifier
    ps ← parse_props
    pure (record { id = n; props = ps })

  -- a member of `@tokens` by the word after an `@`, or the string, that it begins with
  unfoldable pub token_member_by : (at string : Option (List ℕ)) → Parser S (TokenMember S)
  token_member_by at (some t) = parse_literal t >>= λ x. pure (TokenMember.literal x)
  token_member_by at none =
      if says "precedence" at then parse_token_precedence >>= (λ x. pure (TokenMember.precedence x))
      otherwise if says "conflict" at then parse_token_conflict >>= (λ x. pure (TokenMember.conflict x))
      otherwise parse_rule >>= (λ x. pure (TokenMember.rule x))

  -- a member of `@tokens`
  unfoldable pub parse_token_member : List (TokenMember S) → Parser S (TokenMember S)
  parse_token_member before = kind >>= λ k. token_member_by (at_in k) (string_in k)

  -- at its keyword
  unfoldable pub parse_tokens : Parser S (TokenDeclaration S)
  parse_tokens = do
    p ← here
    next
    ms ← block nothing parse_token_member
    pure (record {
      start = p;
      precedences = picked token_precedence ms;
      conflicts = picked token_conflict ms;
      rules = picked token_rule ms;
      literals = picked token_literal ms;
    })

  -- a second `@else` is taken, and a rule read
  unfoldable pub parse_local_member : List (LocalMember S) → Parser S (LocalMember S)
  parse_local_member before = do
    k ← kind
    choose (says "precedence" (at_in k)) (parse_token_precedence >>= λ x. pure (LocalMember.precedence x)) (do
      is_else ← eat_at "else"
      choose (is_else && is_empty (picked local_fallback before))
          (parse_named_node >>= λ x. pure (LocalMember.fallback x))
          (parse_rule >>= λ x. pure (LocalMember.rule x)))

  -- after `@local tokens`
  unfoldable pub parse_local_tokens : S → Parser S (LocalTokenDeclaration S)
  parse_local_tokens p = do
    ms ← block nothing parse_local_member
    pure (record {
      start = p;
      precedences = picked local_precedence ms;
      rules = picked local_rule ms;
      fallback = first_element (picked local_fallback ms);
    })

  -- ------------------------------------------------------------------ external declarations

  -- `from "source"`
  unfoldable pub parse_source : Parser S (List ℕ)
  parse_source = expect_name "from" >> expect_string

  -- a list of conflicts, where these are allowed, or a named node
  unfoldable pub parse_external_member : (conflicts : Bool) → List (ExternalMember S) → Parser S (ExternalMember S)
  parse_external_member conflicts before = do
    is_conflict ← choose conflicts (eat_at "conflict") (pure false)
    choose is_conflict (names >>= λ ns. pure (ExternalMember.conflicts ns)) (parse_named_node >>= λ x. pure (ExternalMember.token x))

  -- the braces of an external block
  unfoldable pub parse_external_token_set : (conflicts : Bool) → Parser S (List (ExternalMember S))
  parse_external_token_set conflicts = block comma_or_not (parse_external_member conflicts)

  -- after `@external tokens`
  unfoldable pub parse_external_tokens : S → Parser S (Declaration S)
  parse_external_tokens p = do
    n ← parse_identifier
    s ← parse_source
    ms ← parse_external_token_set true
    pure (Declaration.external_tokens (record {
      start = p;
      id = n.name;
      source = s;
      tokens = picked external_token ms;
      conflicts = concat (picked external_conflicts ms);
    }))

  -- after `@external extend` or `@external specialize`
  unfoldable pub parse_external_specializer : S → SpecializeKind → Parser S (Declaration S)
  parse_external_specializer p k = do
    e ← parse_braced_expression outermost
    n ← parse_identifier
    s ← parse_source
    ms ← parse_external_token_set false
    pure (Declaration.external_specializer (record {
      start = p;
      kind = k;
      token = e;
      id = n.name;
      source = s;
      tokens = picked external_token ms;
    }))

  -- after `@external propSource`
  unfoldable pub parse_external_prop_source : S → Parser S (Declaration S)
  parse_external_prop_source p = do
    n ← parse_identifier
    s ← parse_source
    pure (Declaration.external_prop_source (record { start = p; id = n.name; source = s }))

  -- the name after `as`, or the external name
  unfoldable pub parse_external_prop : S → Parser S (ExternalPropDeclaration S)
  parse_external_prop p = do
    x ← parse_identifier
    renamed ← eat_name "as"
    n ← choose renamed parse_identifier (pure x)
    s ← parse_source
    pure (record { start = p; id = n.name; external_id = x; source = s })

  -- a declaration as a member of the file
  abbrev pub declares : Parser S (Declaration S) → Parser S (Member S)
  declares m = m >>= λ d. pure (declaration d)

  -- after `@external`
  unfoldable pub external_by : S → Option (List ℕ) → Parser S (Member S)
  external_by p t =
      if says "tokens" t then next >> declares (parse_external_tokens p)
      otherwise if says "prop" t then next >> (parse_external_prop p >>= λ x. pure (external_prop x))
      otherwise if says "extend" t then next >> declares (parse_external_specializer p SpecializeKind.extend)
      otherwise if says "specialize" t then next >> declares (parse_external_specializer p SpecializeKind.specialize)
      otherwise if says "propSource" t then next >> declares (parse_external_prop_source p)
      otherwise unexpected

  -- after `@external`
  unfoldable pub parse_external_declaration : S → Parser S (Member S)
  parse_external_declaration p = kind >>= λ k. external_by p (name_in k)

  -- ------------------------------------------------------------------ precedences, context, skips

  -- `@left`, `@right`, `@cut` or nothing
  unfoldable pub parse_prec_kind : Parser S (Option PrecKind)
  parse_prec_kind = do
    l ← eat_at "left"
    choose l (pure (some PrecKind.left)) (do
      r ← eat_at "right"
      choose r (pure (some PrecKind.right)) (do
        c ← eat_at "cut"
        choose c (pure (some PrecKind.cut)) (pure none)))

  -- a name and how it associates
  unfoldable pub parse_prec_item : Parser S (PrecItem S)
  parse_prec_item = do
    n ← parse_identifier
    k ← parse_prec_kind
    pure (record { id = n; kind = k })

  -- at its keyword
  unfoldable pub parse_precedence : Parser S (PrecDeclaration S)
  parse_precedence = do
    p ← here
    next
    items ← block comma_or_not (λ _. parse_prec_item)
    pure (record { start = p; items = items })

  -- one of the declarations before is of the kind
  abbrev pub seen : ℕ → List (Member S) → Bool
  seen k before = has_kind k (picked declared before)

  -- after `@context`
  unfoldable pub parse_context_declaration : S → List (Member S) → Parser S (Declaration S)
  parse_context_declaration p before = choose (seen 14 before) (refuse second_context p) (do
    n ← parse_identifier
    s ← parse_source
    pure (Declaration.context (record { start = p; id = n.name; source = s })))

  -- a member of a scoped `@skip`: a rule, or a top rule after `@top`
  unfoldable pub parse_skip_member : List (SkipMember S) → Parser S (SkipMember S)
  parse_skip_member before = do
    is_top ← eat_at "top"
    r ← parse_rule
    pure (if is_top then SkipMember.top_rule r otherwise SkipMember.rule r)

  -- after `@skip`: a second main one is refused once the token behind its braces is read
  unfoldable pub parse_skip_declaration : S → List (Member S) → Parser S (Declaration S)
  parse_skip_declaration p before = do
    e ← parse_braced_expression outermost
    k ← kind
    choose (is_mark "{" k)
        (do
          ms ← block nothing parse_skip_member
          pure (Declaration.scoped_skip (record { expression = e; top_rules = picked skip_top_rule ms; rules = picked skip_rule ms })))
        (choose (seen 22 before) (refuse second_skip p) (pure (Declaration.main_skip e)))

  -- ------------------------------------------------------------------ the top level

  -- after `@top`
  unfoldable pub top_by : Option (List ℕ) → Parser S (Declaration S)
  top_by none = refuse_here top_without_name
  top_by (some t) = parse_rule >>= λ r. pure (Declaration.top_rule r)

  -- a declaration that begins with the keyword t, after those before; a second `@tokens` or `@precedence` is refused at its keyword
  unfoldable pub parse_directive : S → List (Member S) → List ℕ → Parser S (Member S)
  parse_directive p before t =
      if spells "top" t then next >> declares (kind >>= λ k. top_by (name_in k))
      otherwise if spells "tokens" t then choose (seen 8 before) (refuse_here second_tokens) (parse_tokens >>= λ x. pure (declaration (Declaration.tokens x)))
      otherwise if spells "local" t then next >> (expect_name "tokens" >> (parse_local_tokens p >>= λ x. pure (declaration (Declaration.local_tokens x))))
      otherwise if spells "context" t then next >> declares (parse_context_declaration p before)
      otherwise if spells "external" t then next >> parse_external_declaration p
      otherwise if spells "dialects" t then next >> (names >>= λ ns. pure (dialects ns))
      otherwise if spells "precedence" t then choose (seen 20 before) (refuse_here second_precedence) (parse_precedence >>= λ x. pure (declaration (Declaration.precedences x)))
      otherwise if spells "detectDelim" t then next >> pure detect_delim
      otherwise if spells "skip" t then next >> declares (parse_skip_declaration p before)
      otherwise unexpected

  -- by the keyword that it begins with; without one it is a rule
  unfoldable pub declaration_by : S → List (Member S) → Option (List ℕ) → Parser S (Member S)
  declaration_by p before (some t) = parse_directive p before t
  declaration_by p before none = parse_rule >>= λ r. pure (declaration (Declaration.rule r))

  -- `parse_declaration`
  unfoldable pub parse_declaration : List (Member S) → Parser S (Member S)
  parse_declaration before = do
    p ← here
    k ← kind
    declaration_by p before (at_in k)

  -- a top rule, at top level or in a scoped skip
  abbrev pub is_top : Declaration S → Bool
  is_top (Declaration.top_rule r) = true
  is_top (Declaration.scoped_skip x) = not (is_empty x.top_rules)
  is_top (Declaration.rule r) = false
  is_top (Declaration.tokens x) = false
  is_top (Declaration.local_tokens x) = false
  is_top (Declaration.context x) = false
  is_top (Declaration.external_tokens x) = false
  is_top (Declaration.external_specializer x) = false
  is_top (Declaration.external_prop_source x) = false
  is_top (Declaration.precedences x) = false
  is_top (Declaration.main_skip e) = false

  -- one of the declarations has a top rule
  unfoldable pub has_top : List (Declaration S) → Bool
  has_top [] = false
  has_top (d ∷ ds) = is_top d || has_top ds

  -- the tree of all that was read: declarations in groups, the last list of dialects
  unfoldable pub grammar_of : S → List (Member S) → GrammarDeclaration S
  grammar_of p ms =
      record {
        start = p;
        declarations = grouped (picked declared ms);
        dialects = concat (last_of (picked declared_dialects ms));
        external_props = picked declared_prop ms;
        auto_delimiters = not (is_empty (picked detects ms));
      }

  -- the whole: declarations up to the end, at which a missing `@top` is refused
  unfoldable pub parse : Parser S (GrammarDeclaration S)
  parse = do
    arrive
    p ← here
    ms ← until (kind >>= λ k. pure (is_end k)) nothing parse_declaration
    choose (has_top (picked declared ms)) (pure (grammar_of p ms)) (refuse_here no_top)

  -- with all that it calls
  unfoldable pub parse_grammar : Parser S (GrammarDeclaration S)
  unfolding
      same concat last_of kept picked decode_string expressions groups has_kind levels repeats and_then ◌>>=◌ pure refuse choose P.start_of
      here refuse_here P.kind_of kind arrive next eat_if eat eat_name eat_at must expect expect_name taken expect_string parse_identifier size
      turns loop separate until_step part_by parse_part prop_named prop_by parse_prop parse_props class_by std_class_by set_by parse_set_expression
      literal_of reference_of content_by inline_by stacked repeat_by parse_repeat repeated slots sequence_of is_empty_arm first_empty_arm choice_by
      choice_of parse_braced_expression parse_rule_named parse_inline_rule_expression parse_specialize_expression parse_parenthesized_expression
      parse_arguments parse_named inner_by parse_expression_inner parse_expression_suffix item_by parse_item parse_expression_sequence parse_arm
      parse_expression_choice choice_at parse_rule reference_by parse_token_reference parse_token_precedence parse_token_conflict parse_literal
      parse_named_node token_member_by parse_token_member parse_tokens parse_local_member parse_local_tokens parse_source parse_external_member
      parse_external_token_set parse_external_tokens parse_external_specializer parse_external_prop_source parse_external_prop external_by
      parse_external_declaration parse_prec_kind parse_prec_item parse_precedence parse_context_declaration parse_skip_member parse_skip_declaration
      top_by parse_directive declaration_by parse_declaration has_top grammar_of parse
  parse_grammar = parse
