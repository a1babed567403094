-- By which causes declarations, and with them whole grammars, are refused.
-- Assumes nothing.
use Prim.Native.Nat.{ℕ}
use mathlib.Core.Path.{◌≡◌, refl}
use mathlib.Core.Bool.{Bool, true, false, ◌&&◌}
use mathlib.Core.List.{List}
use mathlib.Core.Option.{Option, none, some}
use Rattle.basics.specs.Basics.{spells, is_empty, picked}
use Rattle.error.specs.Causes.{bad_precedence, bad_conflict}
use Rattle.tree.specs.Syntax.{SpecializeKind, TokenReference, Declaration, start_of}
use Rattle.notation.specs.Limits.{levels}
use Rattle.notation.specs.Parser.{Parser, ◌>>=◌, ◌>>◌, pure, kind, is_end, is_mark, name_in, at_in, string_in, says, eat, expect, parse_identifier, until, comma_or_not}
use Rattle.notation.specs.Expressions.{reference_of, parse_braced_expression, choice_at}
use Rattle.notation.specs.Members.{TokenMember, LocalMember, local_fallback, SkipMember, ExternalMember, Member, declared}
use Rattle.notation.specs.Declarations.{parse_rule, reference_by, parse_token_reference, parse_token_precedence, parse_token_conflict, parse_literal, parse_named_node, token_member_by, parse_token_member, parse_tokens, parse_local_member, parse_local_tokens, parse_source, parse_external_member, parse_external_token_set, parse_external_tokens, parse_external_specializer, parse_external_prop_source, parse_external_prop, external_by, parse_external_declaration, parse_prec_kind, parse_prec_item, parse_precedence, seen, parse_context_declaration, parse_skip_member, parse_skip_declaration, top_by, parse_directive, declaration_by, parse_declaration, has_top, parse}
use Rattle.laws.proofs.Stops.{by_itself, Stops, bind_stops, pure-stops, refuse-stops, refuse_here-stops, choose-stops, if_stops, here-stops, kind-stops, arrive-stops, next-stops, eat-stops, eat_name-stops, eat_at-stops, expect-stops, expect_name-stops, expect_string-stops, parse_identifier-stops, comma-or-not, nothing-stops, until-stops}
use Rattle.laws.proofs.StopsExpressions.{parse_props-stops, parse_braced_stops, parse_rule_named-stops, parse_inner_stops, choice_at-stops}

module _ {S : Type 0} where
  -- ------------------------------------------------------------------ rules and blocks

  braced-stops : Stops {S = S} (parse_braced_expression (choice_at levels))
  braced-stops = parse_braced_stops (choice_at levels) (choice_at-stops levels)

  parse_rule-stops : Stops {S = S} parse_rule
  unfolding parse_rule
  parse_rule-stops = bind_stops _ parse_identifier-stops (parse_rule_named-stops (choice_at levels) (choice_at-stops levels))

  block-stops : {A : Type 0} {between : Parser S (Unit {0})} (item : List A → Parser S A) → Stops between → ((before : List A) → Stops (item before))
      → Stops (expect "{" >> until (eat "}") between item)
  block-stops item h i = bind_stops _ (expect-stops "{") λ u. until-stops item (eat-stops "}") h i

  names-stops : Stops {S = S} (expect "{" >> until (eat "}") comma_or_not (λ _. parse_identifier))
  names-stops = block-stops _ comma-or-not λ before. parse_identifier-stops

  -- ------------------------------------------------------------------ token blocks

  reference_by-stops : (n : ℕ) → by_itself n ≡ true → (p : S) (o : Option (TokenReference S)) → Stops (reference_by n p o)
  unfolding reference_by
  reference_by-stops n h p none = refuse-stops n p h
  reference_by-stops n h p (some r) = pure-stops r

  parse_reference_stops : (n : ℕ) → by_itself n ≡ true → Stops {S = S} (parse_token_reference n)
  unfolding parse_token_reference
  parse_reference_stops n h =
      bind_stops _ (parse_inner_stops (choice_at levels) (choice_at-stops levels)) λ e. reference_by-stops n h (start_of e) (reference_of e)

  parse_token_precedence-stops : Stops {S = S} parse_token_precedence
  unfolding parse_token_precedence
  parse_token_precedence-stops =
      bind_stops _ here-stops λ p. bind_stops _ next-stops λ u.
      bind_stops _ (block-stops _ comma-or-not λ before. parse_reference_stops bad_precedence refl) λ rs. pure-stops _

  parse_token_conflict-stops : Stops {S = S} parse_token_conflict
  unfolding parse_token_conflict
  parse_token_conflict-stops =
      bind_stops _ here-stops λ p. bind_stops _ next-stops λ u.
      bind_stops _ (expect-stops "{") λ v.
      bind_stops _ (parse_reference_stops bad_conflict refl) λ a.
      bind_stops _ comma-or-not λ w.
      bind_stops _ (parse_reference_stops bad_conflict refl) λ b.
      bind_stops _ (expect-stops "}") λ x. pure-stops _

  parse_literal-stops : (t : List ℕ) → Stops {S = S} (parse_literal t)
  unfolding parse_literal
  parse_literal-stops t = bind_stops _ here-stops λ p. bind_stops _ next-stops λ u. bind_stops _ parse_props-stops λ ps. pure-stops _

  parse_named_node-stops : Stops {S = S} parse_named_node
  unfolding parse_named_node
  parse_named_node-stops = bind_stops _ parse_identifier-stops λ n. bind_stops _ parse_props-stops λ ps. pure-stops _

  token_member_by-stops : (a s : Option (List ℕ)) → Stops {S = S} (token_member_by a s)
  unfolding token_member_by
  token_member_by-stops a (some t) = bind_stops _ (parse_literal-stops t) λ x. pure-stops _
  token_member_by-stops a none =
      if_stops (says "precedence" a) (bind_stops _ parse_token_precedence-stops λ x. pure-stops _)
      (if_stops (says "conflict" a) (bind_stops _ parse_token_conflict-stops λ x. pure-stops _) (bind_stops _ parse_rule-stops λ x. pure-stops _))

  parse_token_member-stops : (before : List (TokenMember S)) → Stops (parse_token_member before)
  unfolding parse_token_member
  parse_token_member-stops before = bind_stops _ kind-stops λ k. token_member_by-stops (at_in k) (string_in k)

  parse_tokens-stops : Stops {S = S} parse_tokens
  unfolding parse_tokens
  parse_tokens-stops = bind_stops _ here-stops λ p. bind_stops _ next-stops λ u. bind_stops _ (block-stops _ nothing-stops parse_token_member-stops) λ ms. pure-stops _

  parse_local_member-stops : (before : List (LocalMember S)) → Stops (parse_local_member before)
  unfolding parse_local_member
  parse_local_member-stops before =
      bind_stops _ kind-stops λ k. choose-stops (says "precedence" (at_in k)) (bind_stops _ parse_token_precedence-stops λ x. pure-stops _)
      (bind_stops _ (eat_at-stops "else") λ b.
      choose-stops (b && is_empty (picked local_fallback before)) (bind_stops _ parse_named_node-stops λ x. pure-stops _)
      (bind_stops _ parse_rule-stops λ x. pure-stops _))

  parse_local_tokens-stops : (p : S) → Stops (parse_local_tokens p)
  unfolding parse_local_tokens
  parse_local_tokens-stops p = bind_stops _ (block-stops _ nothing-stops parse_local_member-stops) λ ms. pure-stops _

  -- ------------------------------------------------------------------ external declarations

  parse_source-stops : Stops {S = S} parse_source
  unfolding parse_source
  parse_source-stops = bind_stops _ (expect_name-stops "from") λ u. expect_string-stops

  parse_external_member-stops : (conflicts : Bool) (before : List (ExternalMember S)) → Stops (parse_external_member conflicts before)
  unfolding parse_external_member
  parse_external_member-stops conflicts before =
      bind_stops _ (choose-stops conflicts (eat_at-stops "conflict") (pure-stops false)) λ b.
      choose-stops b (bind_stops _ names-stops λ ns. pure-stops _) (bind_stops _ parse_named_node-stops λ x. pure-stops _)

  parse_token_set_stops : (conflicts : Bool) → Stops {S = S} (parse_external_token_set conflicts)
  unfolding parse_external_token_set
  parse_token_set_stops conflicts = block-stops _ comma-or-not (parse_external_member-stops conflicts)

  parse_external_tokens-stops : (p : S) → Stops (parse_external_tokens p)
  unfolding parse_external_tokens
  parse_external_tokens-stops p =
      bind_stops _ parse_identifier-stops λ n. bind_stops _ parse_source-stops λ s. bind_stops _ (parse_token_set_stops true) λ ms. pure-stops _

  parse_specializer_stops : (p : S) (k : SpecializeKind) → Stops (parse_external_specializer p k)
  unfolding parse_external_specializer
  parse_specializer_stops p k =
      bind_stops _ braced-stops λ e.
      bind_stops _ parse_identifier-stops λ n.
      bind_stops _ parse_source-stops λ s.
      bind_stops _ (parse_token_set_stops false) λ ms. pure-stops _

  parse_prop_source_stops : (p : S) → Stops (parse_external_prop_source p)
  unfolding parse_external_prop_source
  parse_prop_source_stops p = bind_stops _ parse_identifier-stops λ n. bind_stops _ parse_source-stops λ s. pure-stops _

  parse_external_prop-stops : (p : S) → Stops (parse_external_prop p)
  unfolding parse_external_prop
  parse_external_prop-stops p =
      bind_stops _ parse_identifier-stops λ x.
      bind_stops _ (eat_name-stops "as") λ b.
      bind_stops _ (choose-stops b parse_identifier-stops (pure-stops x)) λ n.
      bind_stops _ parse_source-stops λ s. pure-stops _

  declares-stops : {m : Parser S (Declaration S)} → Stops m → Stops (m >>= λ d. pure (Member.declaration d))
  declares-stops h = bind_stops _ h λ d. pure-stops _

  external_by-stops : (p : S) (t : Option (List ℕ)) → Stops (external_by p t)
  unfolding external_by
  external_by-stops p t =
      if_stops (says "tokens" t) (bind_stops _ next-stops λ u. declares-stops (parse_external_tokens-stops p))
      (if_stops (says "prop" t) (bind_stops _ next-stops λ u. bind_stops _ (parse_external_prop-stops p) λ x. pure-stops _)
      (if_stops (says "extend" t) (bind_stops _ next-stops λ u. declares-stops (parse_specializer_stops p SpecializeKind.extend))
      (if_stops (says "specialize" t) (bind_stops _ next-stops λ u. declares-stops (parse_specializer_stops p SpecializeKind.specialize))
      (if_stops (says "propSource" t) (bind_stops _ next-stops λ u. declares-stops (parse_prop_source_stops p)) (refuse_here-stops _ refl)))))

  parse_external_stops : (p : S) → Stops (parse_external_declaration p)
  unfolding parse_external_declaration
  parse_external_stops p = bind_stops _ kind-stops λ k. external_by-stops p (name_in k)

  -- ------------------------------------------------------------------ precedences, context, skips

  parse_prec_kind-stops : Stops {S = S} parse_prec_kind
  unfolding parse_prec_kind
  parse_prec_kind-stops =
      bind_stops _ (eat_at-stops "left") λ l. choose-stops l (pure-stops _)
      (bind_stops _ (eat_at-stops "right") λ r. choose-stops r (pure-stops _)
      (bind_stops _ (eat_at-stops "cut") λ c. choose-stops c (pure-stops _) (pure-stops _)))

  parse_prec_item-stops : Stops {S = S} parse_prec_item
  unfolding parse_prec_item
  parse_prec_item-stops = bind_stops _ parse_identifier-stops λ n. bind_stops _ parse_prec_kind-stops λ k. pure-stops _

  parse_precedence-stops : Stops {S = S} parse_precedence
  unfolding parse_precedence
  parse_precedence-stops =
      bind_stops _ here-stops λ p. bind_stops _ next-stops λ u. bind_stops _ (block-stops _ comma-or-not λ before. parse_prec_item-stops) λ items. pure-stops _

  parse_context_stops : (p : S) (before : List (Member S)) → Stops (parse_context_declaration p before)
  unfolding parse_context_declaration
  parse_context_stops p before =
      choose-stops (seen 14 before) (refuse-stops _ p refl) (bind_stops _ parse_identifier-stops λ n. bind_stops _ parse_source-stops λ s. pure-stops _)

  parse_skip_member-stops : (before : List (SkipMember S)) → Stops (parse_skip_member before)
  unfolding parse_skip_member
  parse_skip_member-stops before = bind_stops _ (eat_at-stops "top") λ b. bind_stops _ parse_rule-stops λ r. pure-stops _

  parse_skip_stops : (p : S) (before : List (Member S)) → Stops (parse_skip_declaration p before)
  unfolding parse_skip_declaration
  parse_skip_stops p before =
      bind_stops _ braced-stops λ e.
      bind_stops _ kind-stops λ k. choose-stops (is_mark "{" k) (bind_stops _ (block-stops _ nothing-stops parse_skip_member-stops) λ ms. pure-stops _)
      (choose-stops (seen 22 before) (refuse-stops _ p refl) (pure-stops _))

  -- ------------------------------------------------------------------ the top level

  top_by-stops : (o : Option (List ℕ)) → Stops {S = S} (top_by o)
  unfolding top_by
  top_by-stops none = refuse_here-stops _ refl
  top_by-stops (some t) = bind_stops _ parse_rule-stops λ r. pure-stops _

  parse_directive-stops : (p : S) (before : List (Member S)) (t : List ℕ) → Stops (parse_directive p before t)
  unfolding parse_directive
  parse_directive-stops p before t =
      if_stops (spells "top" t) (bind_stops _ next-stops λ u. declares-stops (bind_stops _ kind-stops λ k. top_by-stops (name_in k)))
      (if_stops (spells "tokens" t) (choose-stops (seen 8 before) (refuse_here-stops _ refl) (bind_stops _ parse_tokens-stops λ x. pure-stops _))
      (if_stops (spells "local" t)
      (bind_stops _ next-stops λ u. bind_stops _ (expect_name-stops "tokens") λ v. bind_stops _ (parse_local_tokens-stops p) λ x. pure-stops _)
      (if_stops (spells "context" t) (bind_stops _ next-stops λ u. declares-stops (parse_context_stops p before))
      (if_stops (spells "external" t) (bind_stops _ next-stops λ u. parse_external_stops p)
      (if_stops (spells "dialects" t) (bind_stops _ next-stops λ u. bind_stops _ names-stops λ ns. pure-stops _)
      (if_stops (spells "precedence" t) (choose-stops (seen 20 before) (refuse_here-stops _ refl) (bind_stops _ parse_precedence-stops λ x. pure-stops _))
      (if_stops (spells "detectDelim" t) (bind_stops _ next-stops λ u. pure-stops _)
      (if_stops (spells "skip" t) (bind_stops _ next-stops λ u. declares-stops (parse_skip_stops p before)) (refuse_here-stops _ refl)))))))))

  declaration_by-stops : (p : S) (before : List (Member S)) (o : Option (List ℕ)) → Stops (declaration_by p before o)
  unfolding declaration_by
  declaration_by-stops p before (some t) = parse_directive-stops p before t
  declaration_by-stops p before none = bind_stops _ parse_rule-stops λ r. pure-stops _

  parse_declaration-stops : (before : List (Member S)) → Stops (parse_declaration before)
  unfolding parse_declaration
  parse_declaration-stops before = bind_stops _ here-stops λ p. bind_stops _ kind-stops λ k. declaration_by-stops p before (at_in k)

  end-stops : Stops {S = S} (kind >>= λ k. pure (is_end k))
  end-stops = bind_stops _ kind-stops λ k. pure-stops (is_end k)

  -- a whole grammar
  pub parse-stops : Stops {S = S} parse
  unfolding parse
  parse-stops =
      bind_stops _ arrive-stops λ u. bind_stops _ here-stops λ p.
      bind_stops _ (until-stops _ end-stops nothing-stops parse_declaration-stops) λ ms.
      choose-stops (has_top (picked declared ms)) (pure-stops _) (refuse_here-stops _ refl)
