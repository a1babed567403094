-- What stands in blocks and at top level, as it is read, and those members that are of one sort.
-- Assumes nothing.
use Rattle.std.specs.Prelude.{List}
use Rattle.std.proofs.Math.Option.{Option, none, some}
use Rattle.tree.specs.Syntax.{Identifier, RuleDeclaration, TokenPrecDeclaration, TokenConflictDeclaration, LiteralDeclaration, NamedNode, ExternalPropDeclaration, Declaration}

-- in `@tokens`
pub data TokenMember (S : Type 0) : Type 0 where
  precedence : TokenPrecDeclaration S → TokenMember S
  conflict : TokenConflictDeclaration S → TokenMember S
  rule : RuleDeclaration S → TokenMember S
  literal : LiteralDeclaration S → TokenMember S

-- in `@local tokens`
pub data LocalMember (S : Type 0) : Type 0 where
  precedence : TokenPrecDeclaration S → LocalMember S
  rule : RuleDeclaration S → LocalMember S
  fallback : NamedNode S → LocalMember S

-- in a scoped `@skip`
pub data SkipMember (S : Type 0) : Type 0 where
  top_rule : RuleDeclaration S → SkipMember S
  rule : RuleDeclaration S → SkipMember S

-- in an external block
pub data ExternalMember (S : Type 0) : Type 0 where
  token : NamedNode S → ExternalMember S
  conflicts : List (Identifier S) → ExternalMember S

-- at top level
pub data Member (S : Type 0) : Type 0 where
  declaration : Declaration S → Member S
  dialects : List (Identifier S) → Member S
  external_prop : ExternalPropDeclaration S → Member S
  detect_delim : Member S

module _ {S : Type 0} where
  -- the precedence, if the member is one
  abbrev pub token_precedence : TokenMember S → Option (TokenPrecDeclaration S)
  token_precedence (TokenMember.precedence x) = some x
  token_precedence (TokenMember.conflict x) = none
  token_precedence (TokenMember.rule x) = none
  token_precedence (TokenMember.literal x) = none

  -- the conflict, if the member is one
  abbrev pub token_conflict : TokenMember S → Option (TokenConflictDeclaration S)
  token_conflict (TokenMember.precedence x) = none
  token_conflict (TokenMember.conflict x) = some x
  token_conflict (TokenMember.rule x) = none
  token_conflict (TokenMember.literal x) = none

  -- the rule, if the member is one
  abbrev pub token_rule : TokenMember S → Option (RuleDeclaration S)
  token_rule (TokenMember.precedence x) = none
  token_rule (TokenMember.conflict x) = none
  token_rule (TokenMember.rule x) = some x
  token_rule (TokenMember.literal x) = none

  -- the literal, if the member is one
  abbrev pub token_literal : TokenMember S → Option (LiteralDeclaration S)
  token_literal (TokenMember.precedence x) = none
  token_literal (TokenMember.conflict x) = none
  token_literal (TokenMember.rule x) = none
  token_literal (TokenMember.literal x) = some x

  -- the precedence, if the member is one
  abbrev pub local_precedence : LocalMember S → Option (TokenPrecDeclaration S)
  local_precedence (LocalMember.precedence x) = some x
  local_precedence (LocalMember.rule x) = none
  local_precedence (LocalMember.fallback x) = none

  -- the rule, if the member is one
  abbrev pub local_rule : LocalMember S → Option (RuleDeclaration S)
  local_rule (LocalMember.precedence x) = none
  local_rule (LocalMember.rule x) = some x
  local_rule (LocalMember.fallback x) = none

  -- the fallback, if the member is one
  abbrev pub local_fallback : LocalMember S → Option (NamedNode S)
  local_fallback (LocalMember.precedence x) = none
  local_fallback (LocalMember.rule x) = none
  local_fallback (LocalMember.fallback x) = some x

  -- the top rule, if the member is one
  abbrev pub skip_top_rule : SkipMember S → Option (RuleDeclaration S)
  skip_top_rule (SkipMember.top_rule x) = some x
  skip_top_rule (SkipMember.rule x) = none

  -- the rule, if the member is one
  abbrev pub skip_rule : SkipMember S → Option (RuleDeclaration S)
  skip_rule (SkipMember.top_rule x) = none
  skip_rule (SkipMember.rule x) = some x

  -- the named node, if the member is one
  abbrev pub external_token : ExternalMember S → Option (NamedNode S)
  external_token (ExternalMember.token x) = some x
  external_token (ExternalMember.conflicts ns) = none

  -- the names in conflict, if the member is a list of them
  abbrev pub external_conflicts : ExternalMember S → Option (List (Identifier S))
  external_conflicts (ExternalMember.token x) = none
  external_conflicts (ExternalMember.conflicts ns) = some ns

  -- the declaration, if the member is one
  abbrev pub declared : Member S → Option (Declaration S)
  declared (declaration d) = some d
  declared (dialects ns) = none
  declared (external_prop x) = none
  declared detect_delim = none

  -- the dialects, if the member is a list of them
  abbrev pub declared_dialects : Member S → Option (List (Identifier S))
  declared_dialects (declaration d) = none
  declared_dialects (dialects ns) = some ns
  declared_dialects (external_prop x) = none
  declared_dialects detect_delim = none

  -- the external prop, if the member is one
  abbrev pub declared_prop : Member S → Option (ExternalPropDeclaration S)
  declared_prop (declaration d) = none
  declared_prop (dialects ns) = none
  declared_prop (external_prop x) = some x
  declared_prop detect_delim = none

  -- something, if the member is `@detectDelim`
  abbrev pub detects : Member S → Option (Unit {0})
  detects (declaration d) = none
  detects (dialects ns) = none
  detects (external_prop x) = none
  detects detect_delim = some tt
