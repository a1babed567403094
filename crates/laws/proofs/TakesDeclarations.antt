-- No loop in the reading of declarations meets its bound: each item takes a token.
-- Assumes nothing.
use Prim.Native.Nat.{ℕ}
use mathlib.Core.Path.{◌≡◌, refl}
use mathlib.Core.Bool.{Bool, true, false, ◌&&◌}
use mathlib.Core.List.{List}
use mathlib.Core.Option.{Option, none, some}
use Rattle.basics.specs.Basics.{spells, is_empty, picked}
use Rattle.error.specs.Causes.{bad_precedence, bad_conflict}
use Rattle.lexer.specs.Tokens.{Tokens}
use Rattle.tree.specs.Syntax.{SpecializeKind, TokenReference, Declaration, start_of}
use Rattle.notation.specs.Limits.{levels}
use Rattle.notation.specs.Parser.{Parser, ◌>>=◌, ◌>>◌, pure, kind, kind_of, is_end, is_mark, name_in, at_in, string_in, says, eat, expect, parse_identifier, until_step, until, comma_or_not, nothing}
use Rattle.notation.specs.Parser as P
use Rattle.notation.specs.Expressions.{reference_of, parse_braced_expression, choice_at}
use Rattle.notation.specs.Members.{TokenMember, LocalMember, local_fallback, SkipMember, ExternalMember, Member}
use Rattle.notation.specs.Declarations.{parse_rule, reference_by, parse_token_reference, parse_token_precedence, parse_token_conflict, parse_literal, parse_named_node, token_member_by, parse_token_member, parse_tokens, parse_local_member, parse_local_tokens, parse_source, parse_external_member, parse_external_token_set, parse_external_tokens, parse_external_specializer, parse_external_prop_source, parse_external_prop, external_by, parse_external_declaration, parse_prec_kind, parse_prec_item, parse_precedence, seen, parse_context_declaration, parse_skip_member, parse_skip_declaration, top_by, parse_directive, declaration_by, parse_declaration}
use Rattle.laws.specs.Bound.{Enough}
use Rattle.laws.proofs.Takes.{Takes, bind_takes, pure-takes, refuse-takes, refuse_here-takes, choose-takes, if_takes, any, here-takes, kind-takes, There, next-takes, next-any, at_there, string-there, eat_name-takes, eat_at-takes, expect-takes, expect_name-takes, expect_string-takes, parse_identifier-takes, comma-or-not, nothing-takes, items-takes, items-enough}
use Rattle.laws.proofs.TakesExpressions.{eat-any, parse_props-takes, parse_braced_takes, parse_rule_named-takes, parse_inner_takes, choice_at-takes}

module _ {S : Type 0} where
  -- ------------------------------------------------------------------ rules and blocks

  braced-takes : (ts : Tokens S) → Takes (parse_braced_expression (choice_at levels)) ts (λ e. 1)
  braced-takes ts = parse_braced_takes (choice_at levels) (choice_at-takes levels) ts

  parse_rule-takes : (ts : Tokens S) → Takes parse_rule ts (λ r. 1)
  unfolding parse_rule
  parse_rule-takes ts = bind_takes _ (parse_identifier-takes ts) λ n us. any (parse_rule_named-takes (choice_at levels) (choice_at-takes levels) n us)

  block-takes : {A : Type 0} {between : Parser S (Unit {0})} (item : List A → Parser S A) → ((ts : Tokens S) → Takes between ts (λ u. 0))
      → ((before : List A) (ts : Tokens S) → Takes (item before) ts (λ x. 1)) → (ts : Tokens S) → Takes (expect "{" >> until (eat "}") between item) ts (λ xs. 1)
  block-takes item b i ts = bind_takes _ (expect-takes "{" refl ts) λ u us. items-takes item (eat-any "}" refl) b i us

  block-enough : {A : Type 0} {between : Parser S (Unit {0})} (item : List A → Parser S A) → ((ts : Tokens S) → Takes between ts (λ u. 0))
      → ((before : List A) (ts : Tokens S) → Takes (item before) ts (λ x. 1)) → Enough (until_step (eat "}") between item)
  block-enough item b i = items-enough item (eat-any "}" refl) b i

  -- a list of names
  pub names-enough : Enough {S = S} (until_step (eat "}") comma_or_not (λ _. parse_identifier))
  names-enough = block-enough _ comma-or-not (λ before ts. parse_identifier-takes ts)

  names-takes : (ts : Tokens S) → Takes (expect "{" >> until (eat "}") comma_or_not (λ _. parse_identifier)) ts (λ ns. 1)
  names-takes ts = block-takes _ comma-or-not (λ before us. parse_identifier-takes us) ts

  -- ------------------------------------------------------------------ token blocks

  reference_by-takes : (n : ℕ) (p : S) (o : Option (TokenReference S)) (ts : Tokens S) → Takes (reference_by n p o) ts (λ r. 0)
  unfolding reference_by
  reference_by-takes n p none ts = refuse-takes n p ts
  reference_by-takes n p (some r) ts = pure-takes r ts refl

  parse_reference_takes : (n : ℕ) (ts : Tokens S) → Takes (parse_token_reference n) ts (λ r. 1)
  unfolding parse_token_reference
  parse_reference_takes n ts = bind_takes _ (parse_inner_takes (choice_at levels) (choice_at-takes levels) ts) λ e us. reference_by-takes n (start_of e) (reference_of e) us

  -- the references of a token precedence
  pub references-enough : Enough {S = S} (until_step (eat "}") comma_or_not (λ _. parse_token_reference bad_precedence))
  references-enough = block-enough _ comma-or-not (λ before ts. parse_reference_takes bad_precedence ts)

  parse_token_precedence-takes : (ts : Tokens S) → Takes parse_token_precedence ts (λ x. 1)
  unfolding parse_token_precedence
  parse_token_precedence-takes ts =
      here-takes _ ts (bind_takes _ (next-any ts) λ u us.
      bind_takes _ (block-takes _ comma-or-not (λ before vs. parse_reference_takes bad_precedence vs) us) λ rs vs. pure-takes _ vs refl)

  parse_token_conflict-takes : (ts : Tokens S) → Takes parse_token_conflict ts (λ x. 1)
  unfolding parse_token_conflict
  parse_token_conflict-takes ts =
      here-takes _ ts (bind_takes _ (next-any ts) λ u us.
      bind_takes _ (expect-takes "{" refl us) λ v vs.
      bind_takes _ (parse_reference_takes bad_conflict vs) λ a ws.
      bind_takes _ (comma-or-not ws) λ w xs.
      bind_takes _ (parse_reference_takes bad_conflict xs) λ b ys.
      bind_takes _ (expect-takes "}" refl ys) λ x zs. pure-takes _ zs refl)

  parse_literal-takes : (t : List ℕ) (ts : Tokens S) → There ts → Takes (parse_literal t) ts (λ x. 1)
  unfolding parse_literal
  parse_literal-takes t ts h = here-takes _ ts (bind_takes _ (next-takes ts h) λ u us. bind_takes _ (parse_props-takes us) λ ps vs. pure-takes _ vs refl)

  parse_named_node-takes : (ts : Tokens S) → Takes parse_named_node ts (λ x. 1)
  unfolding parse_named_node
  parse_named_node-takes ts = bind_takes _ (parse_identifier-takes ts) λ n us. bind_takes _ (parse_props-takes us) λ ps vs. pure-takes _ vs refl

  token_member_by-takes : (a s : Option (List ℕ)) (ts : Tokens S) → ((t : List ℕ) → s ≡ some t → There ts) → Takes (token_member_by a s) ts (λ m. 1)
  unfolding token_member_by
  token_member_by-takes a (some t) ts h = bind_takes _ (parse_literal-takes t ts (h t refl)) λ x us. pure-takes _ us refl
  token_member_by-takes a none ts h =
      if_takes (says "precedence" a) (bind_takes _ (parse_token_precedence-takes ts) λ x us. pure-takes _ us refl)
      (if_takes (says "conflict" a) (bind_takes _ (parse_token_conflict-takes ts) λ x us. pure-takes _ us refl)
      (bind_takes _ (parse_rule-takes ts) λ x us. pure-takes _ us refl))

  parse_token_member-takes : (before : List (TokenMember S)) (ts : Tokens S) → Takes (parse_token_member before) ts (λ m. 1)
  unfolding parse_token_member
  parse_token_member-takes before ts = kind-takes _ ts (token_member_by-takes (at_in (kind_of ts)) (string_in (kind_of ts)) ts (string-there (kind_of ts)))

  -- the members of `@tokens`
  pub tokens-enough : Enough {S = S} (until_step (eat "}") nothing parse_token_member)
  tokens-enough = block-enough _ nothing-takes parse_token_member-takes

  parse_tokens-takes : (ts : Tokens S) → Takes parse_tokens ts (λ x. 1)
  unfolding parse_tokens
  parse_tokens-takes ts =
      here-takes _ ts (bind_takes _ (next-any ts) λ u us. bind_takes _ (block-takes _ nothing-takes parse_token_member-takes us) λ ms vs. pure-takes _ vs refl)

  parse_local_member-takes : (before : List (LocalMember S)) (ts : Tokens S) → Takes (parse_local_member before) ts (λ m. 1)
  unfolding parse_local_member
  parse_local_member-takes before ts =
      kind-takes _ ts (choose-takes (says "precedence" (at_in (kind_of ts))) (bind_takes _ (parse_token_precedence-takes ts) λ x us. pure-takes _ us refl)
      (bind_takes _ (any (eat_at-takes "else" ts)) λ b us.
      choose-takes (b && is_empty (picked local_fallback before)) (bind_takes _ (parse_named_node-takes us) λ x vs. pure-takes _ vs refl)
      (bind_takes _ (parse_rule-takes us) λ x vs. pure-takes _ vs refl)))

  -- the members of `@local tokens`
  pub local_tokens-enough : Enough {S = S} (until_step (eat "}") nothing parse_local_member)
  local_tokens-enough = block-enough _ nothing-takes parse_local_member-takes

  parse_local_tokens-takes : (p : S) (ts : Tokens S) → Takes (parse_local_tokens p) ts (λ x. 1)
  unfolding parse_local_tokens
  parse_local_tokens-takes p ts = bind_takes _ (block-takes _ nothing-takes parse_local_member-takes ts) λ ms us. pure-takes _ us refl

  -- ------------------------------------------------------------------ external declarations

  parse_source-takes : (ts : Tokens S) → Takes parse_source ts (λ s. 0)
  unfolding parse_source
  parse_source-takes ts = bind_takes _ (expect_name-takes "from" ts) λ u us. any (expect_string-takes us)

  parse_external_member-takes : (conflicts : Bool) (before : List (ExternalMember S)) (ts : Tokens S) → Takes (parse_external_member conflicts before) ts (λ m. 1)
  unfolding parse_external_member
  parse_external_member-takes conflicts before ts =
      bind_takes {j = λ b. 0} _ (choose-takes conflicts (any (eat_at-takes "conflict" ts)) (pure-takes false ts refl)) λ b us.
      choose-takes b (bind_takes _ (names-takes us) λ ns vs. pure-takes _ vs refl) (bind_takes _ (parse_named_node-takes us) λ x vs. pure-takes _ vs refl)

  -- the members of an external block
  pub external_tokens-enough : (conflicts : Bool) → Enough {S = S} (until_step (eat "}") comma_or_not (parse_external_member conflicts))
  external_tokens-enough conflicts = block-enough _ comma-or-not (parse_external_member-takes conflicts)

  parse_token_set_takes : (conflicts : Bool) (ts : Tokens S) → Takes (parse_external_token_set conflicts) ts (λ ms. 1)
  unfolding parse_external_token_set
  parse_token_set_takes conflicts ts = block-takes _ comma-or-not (parse_external_member-takes conflicts) ts

  parse_external_tokens-takes : (p : S) (ts : Tokens S) → Takes (parse_external_tokens p) ts (λ d. 0)
  unfolding parse_external_tokens
  parse_external_tokens-takes p ts =
      bind_takes _ (parse_identifier-takes ts) λ n us. bind_takes _ (parse_source-takes us) λ s vs. bind_takes _ (parse_token_set_takes true vs) λ ms ws. pure-takes _ ws refl

  parse_specializer_takes : (p : S) (k : SpecializeKind) (ts : Tokens S) → Takes (parse_external_specializer p k) ts (λ d. 0)
  unfolding parse_external_specializer
  parse_specializer_takes p k ts =
      bind_takes _ (braced-takes ts) λ e us.
      bind_takes _ (parse_identifier-takes us) λ n vs.
      bind_takes _ (parse_source-takes vs) λ s ws.
      bind_takes _ (parse_token_set_takes false ws) λ ms xs. pure-takes _ xs refl

  parse_prop_source_takes : (p : S) (ts : Tokens S) → Takes (parse_external_prop_source p) ts (λ d. 0)
  unfolding parse_external_prop_source
  parse_prop_source_takes p ts = bind_takes _ (parse_identifier-takes ts) λ n us. bind_takes _ (parse_source-takes us) λ s vs. pure-takes _ vs refl

  parse_external_prop-takes : (p : S) (ts : Tokens S) → Takes (parse_external_prop p) ts (λ x. 0)
  unfolding parse_external_prop
  parse_external_prop-takes p ts =
      bind_takes _ (parse_identifier-takes ts) λ x us.
      bind_takes _ (any (eat_name-takes "as" us)) λ b vs.
      bind_takes {j = λ n. 0} _ (choose-takes b (any (parse_identifier-takes vs)) (pure-takes x vs refl)) λ n ws.
      bind_takes _ (parse_source-takes ws) λ s xs. pure-takes _ xs refl

  declares-takes : {m : Parser S (Declaration S)} {ts : Tokens S} → Takes m ts (λ d. 0) → Takes (m >>= λ d. pure (Member.declaration d)) ts (λ x. 0)
  declares-takes h = bind_takes _ h λ d us. pure-takes _ us refl

  external_by-takes : (p : S) (t : Option (List ℕ)) (ts : Tokens S) → Takes (external_by p t) ts (λ m. 0)
  unfolding external_by
  external_by-takes p t ts =
      if_takes (says "tokens" t) (bind_takes _ (next-any ts) λ u us. declares-takes (parse_external_tokens-takes p us))
      (if_takes (says "prop" t) (bind_takes _ (next-any ts) λ u us. bind_takes _ (parse_external_prop-takes p us) λ x vs. pure-takes _ vs refl)
      (if_takes (says "extend" t) (bind_takes _ (next-any ts) λ u us. declares-takes (parse_specializer_takes p SpecializeKind.extend us))
      (if_takes (says "specialize" t) (bind_takes _ (next-any ts) λ u us. declares-takes (parse_specializer_takes p SpecializeKind.specialize us))
      (if_takes (says "propSource" t) (bind_takes _ (next-any ts) λ u us. declares-takes (parse_prop_source_takes p us)) (refuse_here-takes _ ts)))))

  parse_external_takes : (p : S) (ts : Tokens S) → Takes (parse_external_declaration p) ts (λ m. 0)
  unfolding parse_external_declaration
  parse_external_takes p ts = kind-takes _ ts (external_by-takes p (name_in (kind_of ts)) ts)

  -- ------------------------------------------------------------------ precedences, context, skips

  parse_prec_kind-takes : (ts : Tokens S) → Takes parse_prec_kind ts (λ k. 0)
  unfolding parse_prec_kind
  parse_prec_kind-takes ts =
      bind_takes _ (any (eat_at-takes "left" ts)) λ l us. choose-takes l (pure-takes _ us refl)
      (bind_takes _ (any (eat_at-takes "right" us)) λ r vs. choose-takes r (pure-takes _ vs refl)
      (bind_takes _ (any (eat_at-takes "cut" vs)) λ c ws. choose-takes c (pure-takes _ ws refl) (pure-takes _ ws refl)))

  parse_prec_item-takes : (ts : Tokens S) → Takes parse_prec_item ts (λ x. 1)
  unfolding parse_prec_item
  parse_prec_item-takes ts = bind_takes _ (parse_identifier-takes ts) λ n us. bind_takes _ (parse_prec_kind-takes us) λ k vs. pure-takes _ vs refl

  -- the items of `@precedence`
  pub precedence-enough : Enough {S = S} (until_step (eat "}") comma_or_not (λ _. parse_prec_item))
  precedence-enough = block-enough _ comma-or-not (λ before ts. parse_prec_item-takes ts)

  parse_precedence-takes : (ts : Tokens S) → Takes parse_precedence ts (λ x. 1)
  unfolding parse_precedence
  parse_precedence-takes ts =
      here-takes _ ts (bind_takes _ (next-any ts) λ u us. bind_takes _ (block-takes _ comma-or-not (λ before vs. parse_prec_item-takes vs) us) λ items vs. pure-takes _ vs refl)

  parse_context_takes : (p : S) (before : List (Member S)) (ts : Tokens S) → Takes (parse_context_declaration p before) ts (λ d. 0)
  unfolding parse_context_declaration
  parse_context_takes p before ts =
      choose-takes (seen 14 before) (refuse-takes _ p ts) (bind_takes _ (parse_identifier-takes ts) λ n us. bind_takes _ (parse_source-takes us) λ s vs. pure-takes _ vs refl)

  parse_skip_member-takes : (before : List (SkipMember S)) (ts : Tokens S) → Takes (parse_skip_member before) ts (λ m. 1)
  unfolding parse_skip_member
  parse_skip_member-takes before ts = bind_takes _ (any (eat_at-takes "top" ts)) λ b us. bind_takes _ (parse_rule-takes us) λ r vs. pure-takes _ vs refl

  -- the rules of a scoped `@skip`
  pub skip-enough : Enough {S = S} (until_step (eat "}") nothing parse_skip_member)
  skip-enough = block-enough _ nothing-takes parse_skip_member-takes

  parse_skip_takes : (p : S) (before : List (Member S)) (ts : Tokens S) → Takes (parse_skip_declaration p before) ts (λ d. 0)
  unfolding parse_skip_declaration
  parse_skip_takes p before ts =
      bind_takes _ (braced-takes ts) λ e us.
      kind-takes _ us (choose-takes (is_mark "{" (kind_of us))
      (bind_takes _ (block-takes _ nothing-takes parse_skip_member-takes us) λ ms vs. pure-takes _ vs refl)
      (choose-takes (seen 22 before) (refuse-takes _ p us) (pure-takes _ us refl)))

  -- ------------------------------------------------------------------ the top level

  top_by-takes : (o : Option (List ℕ)) (ts : Tokens S) → Takes (top_by o) ts (λ d. 0)
  unfolding top_by
  top_by-takes none ts = refuse_here-takes _ ts
  top_by-takes (some t) ts = bind_takes _ (parse_rule-takes ts) λ r us. pure-takes _ us refl

  parse_directive-takes : (p : S) (before : List (Member S)) (t : List ℕ) (ts : Tokens S) → There ts → Takes (parse_directive p before t) ts (λ m. 1)
  unfolding parse_directive
  parse_directive-takes p before t ts h =
      if_takes (spells "top" t) (bind_takes _ (next-takes ts h) λ u us. declares-takes (kind-takes _ us (top_by-takes (name_in (kind_of us)) us)))
      (if_takes (spells "tokens" t) (choose-takes (seen 8 before) (refuse_here-takes _ ts) (bind_takes _ (parse_tokens-takes ts) λ x us. pure-takes _ us refl))
      (if_takes (spells "local" t)
      (bind_takes _ (next-takes ts h) λ u us. bind_takes _ (expect_name-takes "tokens" us) λ v vs. bind_takes _ (parse_local_tokens-takes p vs) λ x ws. pure-takes _ ws refl)
      (if_takes (spells "context" t) (bind_takes _ (next-takes ts h) λ u us. declares-takes (parse_context_takes p before us))
      (if_takes (spells "external" t) (bind_takes _ (next-takes ts h) λ u us. parse_external_takes p us)
      (if_takes (spells "dialects" t) (bind_takes _ (next-takes ts h) λ u us. bind_takes _ (names-takes us) λ ns vs. pure-takes _ vs refl)
      (if_takes (spells "precedence" t) (choose-takes (seen 20 before) (refuse_here-takes _ ts) (bind_takes _ (parse_precedence-takes ts) λ x us. pure-takes _ us refl))
      (if_takes (spells "detectDelim" t) (bind_takes _ (next-takes ts h) λ u us. pure-takes _ us refl)
      (if_takes (spells "skip" t) (bind_takes _ (next-takes ts h) λ u us. declares-takes (parse_skip_takes p before us)) (refuse_here-takes _ ts)))))))))

  declaration_by-takes : (p : S) (before : List (Member S)) (o : Option (List ℕ)) (ts : Tokens S) → ((t : List ℕ) → o ≡ some t → There ts) → Takes (declaration_by p before o) ts (λ m. 1)
  unfolding declaration_by
  declaration_by-takes p before (some t) ts h = parse_directive-takes p before t ts (h t refl)
  declaration_by-takes p before none ts h = bind_takes _ (parse_rule-takes ts) λ r us. pure-takes _ us refl

  parse_declaration-takes : (before : List (Member S)) (ts : Tokens S) → Takes (parse_declaration before) ts (λ m. 1)
  unfolding parse_declaration
  parse_declaration-takes before ts = here-takes _ ts (kind-takes _ ts (declaration_by-takes (P.start_of ts) before (at_in (kind_of ts)) ts (at_there (kind_of ts))))

  end-takes : (ts : Tokens S) → Takes (kind >>= λ k. pure (is_end k)) ts (λ b. 0)
  end-takes ts = kind-takes _ ts (pure-takes _ ts refl)

  -- the declarations of a grammar
  pub declarations-enough : Enough {S = S} (until_step (kind >>= λ k. pure (is_end k)) nothing parse_declaration)
  declarations-enough = items-enough _ end-takes nothing-takes parse_declaration-takes
