-- The parsers of declarations and of the whole grammar commute with replacing starts.
-- Assumes nothing.
use Prim.Native.Nat.{ℕ}
use mathlib.Core.Path.{◌≡◌, refl, ap, sym, ◌∙◌}
use mathlib.Core.Bool.{Bool, true, false, ◌&&◌, not}
use mathlib.Core.List.{List, [], ◌∷◌, map, map-append}
use mathlib.Core.Option.{Option, none, some}
use lib.Dec.{eqb}
use Rattle.basics.specs.Basics.{if◌then◌otherwise◌, spells, last_of, first_element, is_empty, picked}
use Rattle.error.specs.Causes.{no_top}
use Rattle.lexer.specs.Tokens.{Tokens}
use Rattle.tree.specs.Syntax.{SpecializeKind, RuleDeclaration, TokenReference, NamedNode, Declaration, start_of, declaration_kind, of_kind, groups, has_kind}
use Rattle.notation.specs.Limits.{levels}
use Rattle.notation.specs.Parser.{Parser, ◌>>=◌, ◌>>◌, pure, choose, refuse_here, is_mark, name_in, at_in, string_in, says, eat, expect, parse_identifier, until, comma_or_not, nothing}
use Rattle.notation.specs.Expressions.{reference_of, choice_at}
use Rattle.notation.specs.Members.{TokenMember, token_precedence, token_conflict, token_rule, token_literal, LocalMember, local_precedence, local_rule, local_fallback, SkipMember, skip_top_rule, skip_rule, ExternalMember, external_token, external_conflicts, Member, declaration, dialects, external_prop, detect_delim, declared, declared_dialects, declared_prop, detects}
use Rattle.notation.specs.Declarations.{parse_rule, reference_by, parse_token_reference, parse_token_precedence, parse_token_conflict, parse_literal, parse_named_node, token_member_by, parse_token_member, parse_tokens, parse_local_member, parse_local_tokens, parse_source, parse_external_member, parse_external_token_set, parse_external_tokens, parse_external_specializer, parse_external_prop_source, parse_external_prop, external_by, parse_external_declaration, parse_prec_kind, parse_prec_item, parse_precedence, seen, parse_context_declaration, parse_skip_member, parse_skip_declaration, top_by, parse_directive, declaration_by, parse_declaration, is_top, has_top, grammar_of, parse, parse_grammar}
use Rattle.laws.proofs.Starts.{on_tokens, on_identifier, on_expression, on_rule, on_reference, on_token_prec, on_token_conflict, on_literal, on_named_node, on_fallback, on_prec_item, on_token_block, on_local_tokens, on_external_prop, on_precedences, on_declaration, on_grammar}
use Rattle.laws.proofs.Lists.{on_option, map_is_empty, map_first_of, map_concat, map_last_of, map_kept, map_picked}
use Rattle.laws.proofs.Alike.{Alike, same, bind_alike, pure_alike, refuse_alike, choose_alike, here_alike, kind_alike, refuse_here_alike, arrive_alike, next_alike, eat_alike, eat_at_alike, eat_name_alike, expect_alike, expect_name_alike, expect_string_alike, parse_identifier_alike, until_alike, comma_or_not_alike}
use Rattle.laws.proofs.AlikeExpressions.{if_alike, parse_props_alike, reference-on, start-of, parse_inner_alike, parse_braced_expression_alike, parse_rule_named_alike, choice_at_alike}

module _ {S T : Type 0} (f : S → T) where
  -- ------------------------------------------------------------------ members

  unfoldable on_token_member : TokenMember S → TokenMember T
  on_token_member (TokenMember.precedence x) = TokenMember.precedence (on_token_prec f x)
  on_token_member (TokenMember.conflict x) = TokenMember.conflict (on_token_conflict f x)
  on_token_member (TokenMember.rule x) = TokenMember.rule (on_rule f x)
  on_token_member (TokenMember.literal x) = TokenMember.literal (on_literal f x)

  unfoldable on_local_member : LocalMember S → LocalMember T
  on_local_member (LocalMember.precedence x) = LocalMember.precedence (on_token_prec f x)
  on_local_member (LocalMember.rule x) = LocalMember.rule (on_rule f x)
  on_local_member (LocalMember.fallback x) = LocalMember.fallback (on_named_node f x)

  unfoldable on_skip_member : SkipMember S → SkipMember T
  on_skip_member (SkipMember.top_rule x) = SkipMember.top_rule (on_rule f x)
  on_skip_member (SkipMember.rule x) = SkipMember.rule (on_rule f x)

  unfoldable on_external_member : ExternalMember S → ExternalMember T
  on_external_member (ExternalMember.token x) = ExternalMember.token (on_named_node f x)
  on_external_member (ExternalMember.conflicts ns) = ExternalMember.conflicts (map (on_identifier f) ns)

  unfoldable on_member : Member S → Member T
  on_member (declaration d) = declaration (on_declaration f d)
  on_member (dialects ns) = dialects (map (on_identifier f) ns)
  on_member (external_prop x) = external_prop (on_external_prop f x)
  on_member detect_delim = detect_delim

  -- picking members of one sort commutes with replacing starts
  token-precedence : (m : TokenMember S) → token_precedence (on_token_member m) ≡ on_option (on_token_prec f) (token_precedence m)
  unfolding on_token_member
  token-precedence (TokenMember.precedence x) = refl
  token-precedence (TokenMember.conflict x) = refl
  token-precedence (TokenMember.rule x) = refl
  token-precedence (TokenMember.literal x) = refl

  token-conflict : (m : TokenMember S) → token_conflict (on_token_member m) ≡ on_option (on_token_conflict f) (token_conflict m)
  unfolding on_token_member
  token-conflict (TokenMember.precedence x) = refl
  token-conflict (TokenMember.conflict x) = refl
  token-conflict (TokenMember.rule x) = refl
  token-conflict (TokenMember.literal x) = refl

  token-rule : (m : TokenMember S) → token_rule (on_token_member m) ≡ on_option (on_rule f) (token_rule m)
  unfolding on_token_member
  token-rule (TokenMember.precedence x) = refl
  token-rule (TokenMember.conflict x) = refl
  token-rule (TokenMember.rule x) = refl
  token-rule (TokenMember.literal x) = refl

  token-literal : (m : TokenMember S) → token_literal (on_token_member m) ≡ on_option (on_literal f) (token_literal m)
  unfolding on_token_member
  token-literal (TokenMember.precedence x) = refl
  token-literal (TokenMember.conflict x) = refl
  token-literal (TokenMember.rule x) = refl
  token-literal (TokenMember.literal x) = refl

  local-precedence : (m : LocalMember S) → local_precedence (on_local_member m) ≡ on_option (on_token_prec f) (local_precedence m)
  unfolding on_local_member
  local-precedence (LocalMember.precedence x) = refl
  local-precedence (LocalMember.rule x) = refl
  local-precedence (LocalMember.fallback x) = refl

  local-rule : (m : LocalMember S) → local_rule (on_local_member m) ≡ on_option (on_rule f) (local_rule m)
  unfolding on_local_member
  local-rule (LocalMember.precedence x) = refl
  local-rule (LocalMember.rule x) = refl
  local-rule (LocalMember.fallback x) = refl

  local-fallback : (m : LocalMember S) → local_fallback (on_local_member m) ≡ on_option (on_named_node f) (local_fallback m)
  unfolding on_local_member
  local-fallback (LocalMember.precedence x) = refl
  local-fallback (LocalMember.rule x) = refl
  local-fallback (LocalMember.fallback x) = refl

  skip-top-rule : (m : SkipMember S) → skip_top_rule (on_skip_member m) ≡ on_option (on_rule f) (skip_top_rule m)
  unfolding on_skip_member
  skip-top-rule (SkipMember.top_rule x) = refl
  skip-top-rule (SkipMember.rule x) = refl

  skip_rule_lem : (m : SkipMember S) → skip_rule (on_skip_member m) ≡ on_option (on_rule f) (skip_rule m)
  unfolding on_skip_member
  skip_rule_lem (SkipMember.top_rule x) = refl
  skip_rule_lem (SkipMember.rule x) = refl

  external-token : (m : ExternalMember S) → external_token (on_external_member m) ≡ on_option (on_named_node f) (external_token m)
  unfolding on_external_member
  external-token (ExternalMember.token x) = refl
  external-token (ExternalMember.conflicts ns) = refl

  external-conflicts : (m : ExternalMember S) → external_conflicts (on_external_member m) ≡ on_option (map (on_identifier f)) (external_conflicts m)
  unfolding on_external_member
  external-conflicts (ExternalMember.token x) = refl
  external-conflicts (ExternalMember.conflicts ns) = refl

  member_declared : (m : Member S) → declared (on_member m) ≡ on_option (on_declaration f) (declared m)
  unfolding on_member
  member_declared (declaration d) = refl
  member_declared (dialects ns) = refl
  member_declared (external_prop x) = refl
  member_declared detect_delim = refl

  member_dialects : (m : Member S) → declared_dialects (on_member m) ≡ on_option (map (on_identifier f)) (declared_dialects m)
  unfolding on_member
  member_dialects (declaration d) = refl
  member_dialects (dialects ns) = refl
  member_dialects (external_prop x) = refl
  member_dialects detect_delim = refl

  member_prop : (m : Member S) → declared_prop (on_member m) ≡ on_option (on_external_prop f) (declared_prop m)
  unfolding on_member
  member_prop (declaration d) = refl
  member_prop (dialects ns) = refl
  member_prop (external_prop x) = refl
  member_prop detect_delim = refl

  member_detects : (m : Member S) → detects (on_member m) ≡ on_option same (detects m)
  unfolding on_member
  member_detects (declaration d) = refl
  member_detects (dialects ns) = refl
  member_detects (external_prop x) = refl
  member_detects detect_delim = refl

  -- ------------------------------------------------------------------ token blocks

  outermost_alike : Alike f (on_expression f) (choice_at levels) (choice_at levels)
  outermost_alike = choice_at_alike f levels

  parse_rule_alike : Alike f (on_rule f) parse_rule parse_rule
  unfolding parse_rule
  parse_rule_alike = bind_alike _ parse_identifier_alike λ n. parse_rule_named_alike f outermost_alike n

  block_alike : {A B : Type 0} (g : A → B) {between : Parser S (Unit {0})} {between' : Parser T (Unit {0})} {item : List A → Parser S A} (item' : List B → Parser T B)
      → Alike f same between between' → ((before : List A) → Alike f g (item before) (item' (map g before)))
      → Alike f (map g) (expect "{" >> until (eat "}") between item) (expect "{" >> until (eat "}") between' item')
  block_alike g item' b i = bind_alike _ (expect_alike "{") λ u. until_alike g item' (eat_alike "}") b i

  nothing_alike : Alike f same nothing nothing
  nothing_alike = pure_alike _ refl

  names_alike : Alike f (map (on_identifier f)) (expect "{" >> until (eat "}") comma_or_not (λ _. parse_identifier)) (expect "{" >> until (eat "}") comma_or_not (λ _. parse_identifier))
  names_alike = block_alike (on_identifier f) _ comma_or_not_alike λ _. parse_identifier_alike

  reference_by_alike : (n : ℕ) (p : S) (o : Option (TokenReference S)) → Alike f (on_reference f) (reference_by n p o) (reference_by n (f p) (on_option (on_reference f) o))
  unfolding reference_by
  reference_by_alike n p none = refuse_alike n p
  reference_by_alike n p (some r) = pure_alike _ refl

  parse_token_reference_alike : (n : ℕ) → Alike f (on_reference f) (parse_token_reference n) (parse_token_reference n)
  unfolding parse_token_reference
  parse_token_reference_alike n = bind_alike _ (parse_inner_alike f outermost_alike) λ e. rw (reference-on f e, start-of f e) (reference_by_alike n (start_of e) (reference_of e))

  parse_token_precedence_alike : Alike f (on_token_prec f) parse_token_precedence parse_token_precedence
  unfolding parse_token_precedence
  parse_token_precedence_alike =
      bind_alike _ here_alike λ p. bind_alike _ next_alike λ u. bind_alike _ (block_alike (on_reference f) _ comma_or_not_alike λ _. parse_token_reference_alike _) λ rs. pure_alike _ refl

  parse_token_conflict_alike : Alike f (on_token_conflict f) parse_token_conflict parse_token_conflict
  unfolding parse_token_conflict
  parse_token_conflict_alike =
      bind_alike _ here_alike λ p.
      bind_alike _ next_alike λ u.
      bind_alike _ (expect_alike "{") λ v.
      bind_alike _ (parse_token_reference_alike _) λ a.
      bind_alike _ comma_or_not_alike λ w.
      bind_alike _ (parse_token_reference_alike _) λ b.
      bind_alike _ (expect_alike "}") λ x.
      pure_alike _ refl

  parse_literal_alike : (t : List ℕ) → Alike f (on_literal f) (parse_literal t) (parse_literal t)
  unfolding parse_literal
  parse_literal_alike t = bind_alike _ here_alike λ p. bind_alike _ next_alike λ u. bind_alike _ (parse_props_alike f) λ ps. pure_alike _ refl

  parse_named_node_alike : Alike f (on_named_node f) parse_named_node parse_named_node
  unfolding parse_named_node
  parse_named_node_alike = bind_alike _ parse_identifier_alike λ n. bind_alike _ (parse_props_alike f) λ ps. pure_alike _ refl

  token_member_by_alike : (a s : Option (List ℕ)) → Alike f on_token_member (token_member_by a s) (token_member_by a s)
  unfolding token_member_by on_token_member
  token_member_by_alike a (some t) = bind_alike _ (parse_literal_alike t) λ x. pure_alike _ refl
  token_member_by_alike a none =
      if_alike f (says "precedence" a) (bind_alike _ parse_token_precedence_alike λ x. pure_alike _ refl)
      (if_alike f (says "conflict" a) (bind_alike _ parse_token_conflict_alike λ x. pure_alike _ refl) (bind_alike _ parse_rule_alike λ x. pure_alike _ refl))

  parse_tokens_alike : Alike f (on_token_block f) parse_tokens parse_tokens
  unfolding parse_tokens parse_token_member
  parse_tokens_alike =
      bind_alike _ here_alike λ p.
      bind_alike _ next_alike λ u.
      bind_alike _ (block_alike on_token_member _ nothing_alike λ _. bind_alike _ kind_alike λ k. token_member_by_alike (at_in k) (string_in k)) λ ms.
      pure_alike _ (rw (
        map_picked (on_token_prec f) on_token_member token_precedence token_precedence token-precedence ms,
        map_picked (on_token_conflict f) on_token_member token_conflict token_conflict token-conflict ms,
        map_picked (on_rule f) on_token_member token_rule token_rule token-rule ms,
        map_picked (on_literal f) on_token_member token_literal token_literal token-literal ms,
      ))

  fallback-on : (o : Option (NamedNode S)) → on_option (on_named_node f) o ≡ on_fallback f o
  fallback-on none = refl
  fallback-on (some x) = refl

  parse_local_member_alike : (before : List (LocalMember S)) → Alike f on_local_member (parse_local_member before) (parse_local_member (map on_local_member before))
  unfolding parse_local_member on_local_member
  parse_local_member_alike before =
      bind_alike _ kind_alike λ k.
      choose_alike (says "precedence" (at_in k)) (bind_alike _ parse_token_precedence_alike λ x. pure_alike _ refl)
      (bind_alike _ (eat_at_alike "else") λ b.
      rw (map_picked (on_named_node f) on_local_member local_fallback local_fallback local-fallback before, map_is_empty (on_named_node f) (picked local_fallback before))
      (choose_alike (b && is_empty (picked local_fallback before)) (bind_alike _ parse_named_node_alike λ x. pure_alike _ refl) (bind_alike _ parse_rule_alike λ x. pure_alike _ refl)))

  parse_local_tokens_alike : (p : S) → Alike f (on_local_tokens f) (parse_local_tokens p) (parse_local_tokens (f p))
  unfolding parse_local_tokens
  parse_local_tokens_alike p =
      bind_alike _ (block_alike on_local_member _ nothing_alike λ before. parse_local_member_alike before) λ ms.
      pure_alike _ (rw (
        map_picked (on_token_prec f) on_local_member local_precedence local_precedence local-precedence ms,
        map_picked (on_rule f) on_local_member local_rule local_rule local-rule ms,
        map_picked (on_named_node f) on_local_member local_fallback local_fallback local-fallback ms,
        map_first_of (on_named_node f) (picked local_fallback ms),
        fallback-on (first_element (picked local_fallback ms)),
      ))

  -- ------------------------------------------------------------------ external declarations

  parse_source_alike : Alike f same parse_source parse_source
  unfolding parse_source
  parse_source_alike = bind_alike _ (expect_name_alike "from") λ u. expect_string_alike

  parse_external_member_alike : (c : Bool) (before : List (ExternalMember S)) → Alike f on_external_member (parse_external_member c before) (parse_external_member c (map on_external_member before))
  unfolding parse_external_member on_external_member
  parse_external_member_alike c before =
      bind_alike _ (choose_alike c (eat_at_alike "conflict") (pure_alike _ refl)) λ b.
      choose_alike b (bind_alike _ names_alike λ ns. pure_alike _ refl) (bind_alike _ parse_named_node_alike λ x. pure_alike _ refl)

  parse_external_token_set_alike : (c : Bool) → Alike f (map on_external_member) (parse_external_token_set c) (parse_external_token_set c)
  unfolding parse_external_token_set
  parse_external_token_set_alike c = block_alike on_external_member _ comma_or_not_alike λ before. parse_external_member_alike c before

  parse_external_tokens_alike : (p : S) → Alike f (on_declaration f) (parse_external_tokens p) (parse_external_tokens (f p))
  unfolding parse_external_tokens on_declaration
  parse_external_tokens_alike p =
      bind_alike _ parse_identifier_alike λ n.
      bind_alike _ parse_source_alike λ s.
      bind_alike _ (parse_external_token_set_alike true) λ ms.
      pure_alike _ (rw (
        map_picked (on_named_node f) on_external_member external_token external_token external-token ms,
        map_picked (map (on_identifier f)) on_external_member external_conflicts external_conflicts external-conflicts ms,
        map_concat (on_identifier f) (picked external_conflicts ms),
      ))

  parse_external_specializer_alike : (p : S) (k : SpecializeKind) → Alike f (on_declaration f) (parse_external_specializer p k) (parse_external_specializer (f p) k)
  unfolding parse_external_specializer on_declaration
  parse_external_specializer_alike p k =
      bind_alike _ (parse_braced_expression_alike f outermost_alike) λ e.
      bind_alike _ parse_identifier_alike λ n.
      bind_alike _ parse_source_alike λ s.
      bind_alike _ (parse_external_token_set_alike false) λ ms.
      pure_alike _ (rw (map_picked (on_named_node f) on_external_member external_token external_token external-token ms))

  parse_external_prop_source_alike : (p : S) → Alike f (on_declaration f) (parse_external_prop_source p) (parse_external_prop_source (f p))
  unfolding parse_external_prop_source on_declaration
  parse_external_prop_source_alike p = bind_alike _ parse_identifier_alike λ n. bind_alike _ parse_source_alike λ s. pure_alike _ refl

  parse_external_prop_alike : (p : S) → Alike f (on_external_prop f) (parse_external_prop p) (parse_external_prop (f p))
  unfolding parse_external_prop
  parse_external_prop_alike p =
      bind_alike _ parse_identifier_alike λ x.
      bind_alike _ (eat_name_alike "as") λ b.
      bind_alike _ (choose_alike b parse_identifier_alike (pure_alike _ refl)) λ n.
      bind_alike _ parse_source_alike λ s.
      pure_alike _ refl

  declares_alike : {m : Parser S (Declaration S)} {m' : Parser T (Declaration T)} → Alike f (on_declaration f) m m' → Alike f on_member (m >>= λ d. pure (declaration d)) (m' >>= λ d. pure (declaration d))
  unfolding on_member
  declares_alike a = bind_alike _ a λ d. pure_alike _ refl

  external_by_alike : (p : S) (t : Option (List ℕ)) → Alike f on_member (external_by p t) (external_by (f p) t)
  unfolding external_by on_member
  external_by_alike p t =
      if_alike f (says "tokens" t) (bind_alike _ next_alike λ u. declares_alike (parse_external_tokens_alike p))
      (if_alike f (says "prop" t) (bind_alike _ next_alike λ u. bind_alike _ (parse_external_prop_alike p) λ x. pure_alike _ refl)
      (if_alike f (says "extend" t) (bind_alike _ next_alike λ u. declares_alike (parse_external_specializer_alike p SpecializeKind.extend))
      (if_alike f (says "specialize" t) (bind_alike _ next_alike λ u. declares_alike (parse_external_specializer_alike p SpecializeKind.specialize))
      (if_alike f (says "propSource" t) (bind_alike _ next_alike λ u. declares_alike (parse_external_prop_source_alike p)) (refuse_here_alike _)))))

  -- ------------------------------------------------------------------ precedences, context, skips

  parse_prec_kind_alike : Alike f same parse_prec_kind parse_prec_kind
  unfolding parse_prec_kind
  parse_prec_kind_alike =
      bind_alike _ (eat_at_alike "left") λ l. choose_alike l (pure_alike _ refl)
      (bind_alike _ (eat_at_alike "right") λ r. choose_alike r (pure_alike _ refl)
      (bind_alike _ (eat_at_alike "cut") λ c. choose_alike c (pure_alike _ refl) (pure_alike _ refl)))

  parse_prec_item_alike : Alike f (on_prec_item f) parse_prec_item parse_prec_item
  unfolding parse_prec_item
  parse_prec_item_alike = bind_alike _ parse_identifier_alike λ n. bind_alike _ parse_prec_kind_alike λ k. pure_alike _ refl

  parse_precedence_alike : Alike f (on_precedences f) parse_precedence parse_precedence
  unfolding parse_precedence
  parse_precedence_alike =
      bind_alike _ here_alike λ p. bind_alike _ next_alike λ u. bind_alike _ (block_alike (on_prec_item f) _ comma_or_not_alike λ _. parse_prec_item_alike) λ items. pure_alike _ refl

  kind-on : (d : Declaration S) → declaration_kind (on_declaration f d) ≡ declaration_kind d
  unfolding on_declaration
  kind-on (Declaration.top_rule r) = refl
  kind-on (Declaration.rule r) = refl
  kind-on (Declaration.tokens x) = refl
  kind-on (Declaration.local_tokens x) = refl
  kind-on (Declaration.context x) = refl
  kind-on (Declaration.external_tokens x) = refl
  kind-on (Declaration.external_specializer x) = refl
  kind-on (Declaration.external_prop_source x) = refl
  kind-on (Declaration.precedences x) = refl
  kind-on (Declaration.main_skip e) = refl
  kind-on (Declaration.scoped_skip x) = refl

  has_kind-on : (k : ℕ) (ds : List (Declaration S)) → has_kind k (map (on_declaration f) ds) ≡ has_kind k ds
  unfolding has_kind
  has_kind-on k [] = refl
  has_kind-on k (d ∷ ds) = rw (kind-on d, has_kind-on k ds)

  seen-on : (k : ℕ) (before : List (Member S)) → seen k (map on_member before) ≡ seen k before
  seen-on k before = ap (has_kind k) (map_picked (on_declaration f) on_member declared declared member_declared before) ∙ has_kind-on k (picked declared before)

  parse_context_alike : (p : S) (before : List (Member S)) → Alike f (on_declaration f) (parse_context_declaration p before) (parse_context_declaration (f p) (map on_member before))
  unfolding parse_context_declaration on_declaration
  parse_context_alike p before =
      rw (seen-on 14 before) (choose_alike (seen 14 before) (refuse_alike _ p)
      (bind_alike _ parse_identifier_alike λ n. bind_alike _ parse_source_alike λ s. pure_alike _ refl))

  skip_member : (b : Bool) (r : RuleDeclaration S) → (if b then SkipMember.top_rule (on_rule f r) otherwise SkipMember.rule (on_rule f r)) ≡ on_skip_member (if b then SkipMember.top_rule r otherwise SkipMember.rule r)
  unfolding on_skip_member
  skip_member true r = refl
  skip_member false r = refl

  parse_skip_member_alike : (before : List (SkipMember S)) → Alike f on_skip_member (parse_skip_member before) (parse_skip_member (map on_skip_member before))
  unfolding parse_skip_member
  parse_skip_member_alike before = bind_alike _ (eat_at_alike "top") λ b. bind_alike _ parse_rule_alike λ r. pure_alike _ (skip_member b r)

  parse_skip_alike : (p : S) (before : List (Member S)) → Alike f (on_declaration f) (parse_skip_declaration p before) (parse_skip_declaration (f p) (map on_member before))
  unfolding parse_skip_declaration on_declaration
  parse_skip_alike p before =
      bind_alike _ (parse_braced_expression_alike f outermost_alike) λ e.
      bind_alike _ kind_alike λ k.
      choose_alike (is_mark "{" k)
      (bind_alike _ (block_alike on_skip_member _ nothing_alike λ ms. parse_skip_member_alike ms) λ ms.
      pure_alike _ (rw (map_picked (on_rule f) on_skip_member skip_top_rule skip_top_rule skip-top-rule ms, map_picked (on_rule f) on_skip_member skip_rule skip_rule skip_rule_lem ms)))
      (rw (seen-on 22 before) (choose_alike (seen 22 before) (refuse_alike _ p) (pure_alike _ refl)))

  -- ------------------------------------------------------------------ the top level

  top_by_alike : (t : Option (List ℕ)) → Alike f (on_declaration f) (top_by t) (top_by t)
  unfolding top_by on_declaration
  top_by_alike none = refuse_here_alike _
  top_by_alike (some t) = bind_alike _ parse_rule_alike λ r. pure_alike _ refl

  parse_directive_alike : (p : S) (before : List (Member S)) (t : List ℕ) → Alike f on_member (parse_directive p before t) (parse_directive (f p) (map on_member before) t)
  unfolding parse_directive parse_external_declaration on_member on_declaration
  parse_directive_alike p before t =
      if_alike f (spells "top" t) (bind_alike _ next_alike λ u. declares_alike (bind_alike _ kind_alike λ k. top_by_alike (name_in k)))
      (if_alike f (spells "tokens" t) (rw (seen-on 8 before) (choose_alike (seen 8 before) (refuse_here_alike _) (bind_alike _ parse_tokens_alike λ x. pure_alike _ refl)))
      (if_alike f (spells "local" t) (bind_alike _ next_alike λ u. bind_alike _ (expect_name_alike "tokens") λ v. bind_alike _ (parse_local_tokens_alike p) λ x. pure_alike _ refl)
      (if_alike f (spells "context" t) (bind_alike _ next_alike λ u. declares_alike (parse_context_alike p before))
      (if_alike f (spells "external" t) (bind_alike _ next_alike λ u. bind_alike _ kind_alike λ k. external_by_alike p (name_in k))
      (if_alike f (spells "dialects" t) (bind_alike _ next_alike λ u. bind_alike _ names_alike λ ns. pure_alike _ refl)
      (if_alike f (spells "precedence" t) (rw (seen-on 20 before) (choose_alike (seen 20 before) (refuse_here_alike _) (bind_alike _ parse_precedence_alike λ x. pure_alike _ refl)))
      (if_alike f (spells "detectDelim" t) (bind_alike _ next_alike λ u. pure_alike _ refl)
      (if_alike f (spells "skip" t) (bind_alike _ next_alike λ u. declares_alike (parse_skip_alike p before)) (refuse_here_alike _)))))))))

  declaration_by_alike : (p : S) (before : List (Member S)) (t : Option (List ℕ)) → Alike f on_member (declaration_by p before t) (declaration_by (f p) (map on_member before) t)
  unfolding declaration_by on_member on_declaration
  declaration_by_alike p before (some t) = parse_directive_alike p before t
  declaration_by_alike p before none = bind_alike _ parse_rule_alike λ r. pure_alike _ refl

  parse_declaration_alike : (before : List (Member S)) → Alike f on_member (parse_declaration before) (parse_declaration (map on_member before))
  unfolding parse_declaration
  parse_declaration_alike before = bind_alike _ here_alike λ p. bind_alike _ kind_alike λ k. declaration_by_alike p before (at_in k)

  is_top-on : (d : Declaration S) → is_top (on_declaration f d) ≡ is_top d
  unfolding on_declaration
  is_top-on (Declaration.top_rule r) = refl
  is_top-on (Declaration.rule r) = refl
  is_top-on (Declaration.tokens x) = refl
  is_top-on (Declaration.local_tokens x) = refl
  is_top-on (Declaration.context x) = refl
  is_top-on (Declaration.external_tokens x) = refl
  is_top-on (Declaration.external_specializer x) = refl
  is_top-on (Declaration.external_prop_source x) = refl
  is_top-on (Declaration.precedences x) = refl
  is_top-on (Declaration.main_skip e) = refl
  is_top-on (Declaration.scoped_skip x) = ap not (map_is_empty (on_rule f) x.top_rules)

  has_top-on : (ds : List (Declaration S)) → has_top (map (on_declaration f) ds) ≡ has_top ds
  unfolding has_top
  has_top-on [] = refl
  has_top-on (d ∷ ds) = rw (is_top-on d, has_top-on ds)

  groups-on : (ks : List ℕ) (ds : List (Declaration S)) → groups ks (map (on_declaration f) ds) ≡ map (on_declaration f) (groups ks ds)
  unfolding groups
  groups-on [] ds = refl
  groups-on (k ∷ ks) ds =
      rw (map_kept (on_declaration f) (λ d. eqb (declaration_kind d) k) (λ d. eqb (declaration_kind d) k) (λ d. ap (λ n. eqb n k) (kind-on d)) ds, groups-on ks ds)
      (sym (map-append (on_declaration f) (of_kind k ds) (groups ks ds)))

  grammar-on : (p : S) (ms : List (Member S)) → grammar_of (f p) (map on_member ms) ≡ on_grammar f (grammar_of p ms)
  unfolding on_grammar grammar_of
  grammar-on p ms =
      rw (
        map_picked (on_declaration f) on_member declared declared member_declared ms,
        groups-on (2 ∷ 3 ∷ 8 ∷ 12 ∷ 14 ∷ 16 ∷ 18 ∷ 19 ∷ 20 ∷ 22 ∷ 23 ∷ []) (picked declared ms),
        map_picked (map (on_identifier f)) on_member declared_dialects declared_dialects member_dialects ms,
        map_last_of (map (on_identifier f)) (picked declared_dialects ms),
        map_concat (on_identifier f) (last_of (picked declared_dialects ms)),
        map_picked (on_external_prop f) on_member declared_prop declared_prop member_prop ms,
        map_picked same on_member detects detects member_detects ms,
        map_is_empty same (picked detects ms),
      )

  finish_alike : (p : S) (ms : List (Member S))
      → Alike f (on_grammar f) (choose (has_top (picked declared ms)) (pure (grammar_of p ms)) (refuse_here no_top))
      (choose (has_top (picked declared (map on_member ms))) (pure (grammar_of (f p) (map on_member ms))) (refuse_here no_top))
  finish_alike p ms =
      rw (map_picked (on_declaration f) on_member declared declared member_declared ms, has_top-on (picked declared ms))
      (choose_alike (has_top (picked declared ms)) (pure_alike _ (grammar-on p ms)) (refuse_here_alike _))

  parse_alike : Alike f (on_grammar f) parse parse
  unfolding parse
  parse_alike =
      bind_alike _ arrive_alike λ u.
      bind_alike _ here_alike λ p.
      bind_alike _ (until_alike on_member _ (bind_alike _ kind_alike λ k. pure_alike _ refl) nothing_alike λ before. parse_declaration_alike before) λ ms.
      finish_alike p ms

-- the whole, without all that it calls
pub grammar-parse : {S : Type 0} (ts : Tokens S) → parse_grammar ts ≡ parse ts
unfolding parse_grammar
grammar-parse ts = refl

-- reading commutes with replacing starts
pub parse_grammar_alike : {S T : Type 0} (f : S → T) → Alike f (on_grammar f) parse_grammar parse_grammar
parse_grammar_alike f = record { on = λ ts. rw (grammar-parse ts, grammar-parse (on_tokens f ts)) ((parse_alike f).on ts) }
