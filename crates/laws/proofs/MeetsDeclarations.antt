-- Each grammar that reading gives is good: its declarations are readable, in groups, with one at most of those that may come once.
-- Assumes nothing.
use Prim.Native.Nat.{ℕ}
use mathlib.Core.Path.{◌≡◌, refl, ap, sym, ◌∙◌}
use mathlib.Core.Bool.{Bool, true, false, ◌&&◌}
use mathlib.Core.List.{List, [], ◌∷◌, ◌++◌, append-nil}
use mathlib.Core.Option.{Option, none, some}
use Rattle.basics.specs.Basics.{if◌then◌otherwise◌, spells, last_of, first_element, is_empty, picked, or_not}
use Rattle.basics.proofs.Lists.{picked-one}
use Rattle.basics.proofs.Tests.{clash}
use Rattle.error.specs.Causes.{no_top}
use Rattle.lexer.specs.Tokens.{Tokens}
use Rattle.tree.specs.Syntax.{Identifier, Expression, SpecializeKind, RuleDeclaration, TokenPrecDeclaration, TokenConflictDeclaration, LiteralDeclaration, NamedNode, ExternalPropDeclaration, Declaration, start_of, declaration_kind, has_kind}
use Rattle.notation.specs.Limits.{levels}
use Rattle.notation.specs.Parser.{Parser, ◌>>=◌, ◌>>◌, pure, kind, is_end, is_mark, name_in, at_in, string_in, says, eat, expect, parse_identifier, until_step, until, separate, comma_or_not, nothing}
use Rattle.notation.specs.Expressions.{reference_of, parse_braced_expression, choice_at}
use Rattle.notation.specs.Members.{TokenMember, token_precedence, token_conflict, token_rule, token_literal, LocalMember, local_precedence, local_rule, local_fallback, SkipMember, skip_top_rule, skip_rule, ExternalMember, external_token, external_conflicts, Member, declaration, dialects, external_prop, detect_delim, declared, declared_dialects, declared_prop}
use Rattle.notation.specs.Declarations.{parse_rule, reference_by, parse_token_reference, parse_token_precedence, parse_token_conflict, parse_literal, parse_named_node, token_member_by, parse_token_member, parse_tokens, parse_local_member, parse_local_tokens, parse_source, parse_external_member, parse_external_token_set, parse_external_tokens, parse_external_specializer, parse_external_prop_source, parse_external_prop, external_by, parse_external_declaration, parse_prec_kind, parse_prec_item, parse_precedence, seen, parse_context_declaration, parse_skip_member, parse_skip_declaration, top_by, parse_directive, declaration_by, parse_declaration, has_top, grammar_of, parse}
use Rattle.characters.proofs.Chars.{Scalars}
use Rattle.laws.proofs.Fine.{U}
use Rattle.laws.proofs.Readable.{GoodName, blank, Item, item-name, item-special, item-inline, item-choice, item-sequence, item-empty, item-repeat, item-literal, item-set, item-any, item-class, readable_up}
use Rattle.laws.proofs.Meets.{Meets, bind_meets, pure-meets, refuse-meets, refuse_here-meets, choose-meets, if_meets, weaken, here-meets, kind_meets, arrive-meets, next-meets, eat_name-meets, eat_at-meets, expect_name-meets, Given, given-some, string-given, expect_string-meets, parse_identifier-meets, loop-meets, until-meets, eat-any, expect-any, comma-or-not, nothing-meets}
use Rattle.laws.proofs.MeetsExpressions.{Found, found_none, found_some, parse_props-meets, GoodRule, parse_braced_meets, parse_rule_named-meets, parse_inner_meets, choice_at-meets}
use Rattle.laws.proofs.Good.{Outer, GoodReference, GoodTokenPrec, GoodTokenConflict, GoodLiteral, GoodNode, GoodPrecItem, GoodExternalProp, GoodDeclaration, good-top, good-rule, good-tokens, good_local, good-context, good-external, good_specializer, good-prop-source, good-precedences, good-skip, good_scoped, Singles, GoodGrammar}
use Rattle.laws.proofs.Good as Good
use Rattle.laws.proofs.Groups.{grouped_twice, grouped-singles, Fresh, singles-more, singles-none, every-grouped, grouped-top}
use Rattle.laws.proofs.Every.{Every, every-none, every_more, every_one, every-concat}

-- ------------------------------------------------------------------ rules and blocks

below-meets : (ts : Tokens U) → Meets (choice_at levels) ts (λ e us. Outer e × (blank e ≡ true → us ≡ ts))
below-meets ts = choice_at-meets levels ts

braced-meets : (ts : Tokens U) → Meets (parse_braced_expression (choice_at levels)) ts (λ e us. Outer e)
braced-meets ts = parse_braced_meets Outer (choice_at levels) below-meets (readable_up levels) ts

pub parse_rule-meets : (ts : Tokens U) → Meets parse_rule ts (λ r us. GoodRule Outer r)
unfolding parse_rule
parse_rule-meets ts =
    bind_meets _ (parse_identifier-meets ts) λ n us g.
    weaken (parse_rule_named-meets Outer (choice_at levels) below-meets (readable_up levels) n g us) λ r vs h. h.0

block-meets : {A : Type 0} (G : A → Type 0) {between : Parser U (Unit {0})} (item : List A → Parser U A) → ((ts : Tokens U) → Meets between ts (λ u us. Unit {0}))
    → ((before : List A) (ts : Tokens U) → Meets (item before) ts (λ x us. G x)) → (ts : Tokens U) → Meets (expect "{" >> until (eat "}") between item) ts (λ xs us. Every G xs)
block-meets G item b i ts = bind_meets _ (expect-any "{" ts) λ u us h. until-meets G item (eat-any "}") b i us

names-meets : (ts : Tokens U) → Meets (expect "{" >> until (eat "}") comma_or_not (λ _. parse_identifier)) ts (λ ns us. Every GoodName ns)
names-meets ts = block-meets GoodName _ comma-or-not (λ before us. parse_identifier-meets us) ts

-- ------------------------------------------------------------------ token blocks

reference_by-meets : (n : ℕ) (p : U) {e : Expression U} → Item Outer e → (ts : Tokens U) → Meets (reference_by n p (reference_of e)) ts (λ r us. GoodReference r)
unfolding reference_by reference_of
reference_by-meets n p (item-name w m q b) ts = pure-meets _ ts (record { item = item-name w m q b })
reference_by-meets n p (item-literal s) ts = pure-meets _ ts (record { item = item-literal s })
reference_by-meets n p (item-special g r q) ts = refuse-meets n p ts
reference_by-meets n p (item-inline w m g r) ts = refuse-meets n p ts
reference_by-meets n p (item-choice r) ts = refuse-meets n p ts
reference_by-meets n p (item-sequence r b) ts = refuse-meets n p ts
reference_by-meets n p item-empty ts = refuse-meets n p ts
reference_by-meets n p (item-repeat i h) ts = refuse-meets n p ts
reference_by-meets n p (item-set g) ts = refuse-meets n p ts
reference_by-meets n p item-any ts = refuse-meets n p ts
reference_by-meets n p item-class ts = refuse-meets n p ts

parse_reference_meets : (n : ℕ) (ts : Tokens U) → Meets (parse_token_reference n) ts (λ r us. GoodReference r)
unfolding parse_token_reference
parse_reference_meets n ts = bind_meets _ (parse_inner_meets Outer (choice_at levels) below-meets (readable_up levels) ts) λ e us i. reference_by-meets n (start_of e) i us

parse_token_precedence-meets : (ts : Tokens U) → Meets parse_token_precedence ts (λ x us. GoodTokenPrec x)
unfolding parse_token_precedence
parse_token_precedence-meets ts =
    bind_meets _ (here-meets ts) λ p us h. bind_meets _ (next-meets us) λ u vs h.
    bind_meets _ (block-meets GoodReference _ comma-or-not (λ before ws. parse_reference_meets _ ws) vs) λ rs ws g. pure-meets _ ws (record { items = g })

parse_token_conflict-meets : (ts : Tokens U) → Meets parse_token_conflict ts (λ x us. GoodTokenConflict x)
unfolding parse_token_conflict
parse_token_conflict-meets ts =
    bind_meets _ (here-meets ts) λ p us h. bind_meets _ (next-meets us) λ u vs h. bind_meets _ (expect-any "{" vs) λ v ws h.
    bind_meets _ (parse_reference_meets _ ws) λ a xs g. bind_meets _ (comma-or-not xs) λ w ys h. bind_meets _ (parse_reference_meets _ ys) λ b zs q.
    bind_meets _ (expect-any "}" zs) λ x us h. pure-meets _ us (record { left = g; right = q })

parse_literal-meets : (t : List ℕ) → Scalars t → (ts : Tokens U) → Meets (parse_literal t) ts (λ x us. GoodLiteral x)
unfolding parse_literal
parse_literal-meets t s ts = bind_meets _ (here-meets ts) λ p us h. bind_meets _ (next-meets us) λ u vs h. bind_meets _ (parse_props-meets vs) λ ps ws g. pure-meets _ ws (record { text = s; props = g })

parse_named_node-meets : (ts : Tokens U) → Meets parse_named_node ts (λ x us. GoodNode x)
unfolding parse_named_node
parse_named_node-meets ts = bind_meets _ (parse_identifier-meets ts) λ n us w. bind_meets _ (parse_props-meets us) λ ps vs g. pure-meets _ vs (record { name = w; props = g })

data GoodTokenMember : TokenMember U → Type 0 where
  member_precedence : {x : TokenPrecDeclaration U} → GoodTokenPrec x → GoodTokenMember (TokenMember.precedence x)
  member_conflict : {x : TokenConflictDeclaration U} → GoodTokenConflict x → GoodTokenMember (TokenMember.conflict x)
  member_rule : {x : RuleDeclaration U} → GoodRule Outer x → GoodTokenMember (TokenMember.rule x)
  member_literal : {x : LiteralDeclaration U} → GoodLiteral x → GoodTokenMember (TokenMember.literal x)

token_member_by-meets : (a s : Option (List ℕ)) → Given Scalars s → (ts : Tokens U) → Meets (token_member_by a s) ts (λ m us. GoodTokenMember m)
unfolding token_member_by
token_member_by-meets a (some t) (given-some g) ts = bind_meets _ (parse_literal-meets t g ts) λ x us h. pure-meets _ us (member_literal h)
token_member_by-meets a none g ts =
    if_meets (says "precedence" a) (λ t. bind_meets _ (parse_token_precedence-meets ts) λ x us h. pure-meets _ us (member_precedence h))
    (λ f. if_meets (says "conflict" a) (λ t. bind_meets _ (parse_token_conflict-meets ts) λ x us h. pure-meets _ us (member_conflict h))
    (λ f. bind_meets _ (parse_rule-meets ts) λ x us h. pure-meets _ us (member_rule h)))

-- what is picked of good members is good
module _ {A B : Type 0} (G : A → Type 0) (H : B → Type 0) (p : A → Option B) (e : (a : A) → G a → Found H (p a)) where
  every-picked : {xs : List A} → Every G xs → Every H (picked p xs)
  unfolding picked
  every-picked every-none = every-none
  every-picked (every_more {x} {xs} g q) = go (p x) (e x g) (every-picked q)
    where
      go : (o : Option B) → Found H o → Every H (picked p xs) → Every H (or_not o (picked p xs))
      go none f q = q
      go (some b) (found_some h) q = every_more h q

token_precs : {ms : List (TokenMember U)} → Every GoodTokenMember ms → Every GoodTokenPrec (picked token_precedence ms)
token_precs = every-picked GoodTokenMember GoodTokenPrec token_precedence go
  where
    go : (m : TokenMember U) → GoodTokenMember m → Found GoodTokenPrec (token_precedence m)
    go m (member_precedence g) = found_some g
    go m (member_conflict g) = found_none
    go m (member_rule g) = found_none
    go m (member_literal g) = found_none

token-conflicts : {ms : List (TokenMember U)} → Every GoodTokenMember ms → Every GoodTokenConflict (picked token_conflict ms)
token-conflicts = every-picked GoodTokenMember GoodTokenConflict token_conflict go
  where
    go : (m : TokenMember U) → GoodTokenMember m → Found GoodTokenConflict (token_conflict m)
    go m (member_precedence g) = found_none
    go m (member_conflict g) = found_some g
    go m (member_rule g) = found_none
    go m (member_literal g) = found_none

token-rules : {ms : List (TokenMember U)} → Every GoodTokenMember ms → Every (GoodRule Outer) (picked token_rule ms)
token-rules = every-picked GoodTokenMember (GoodRule Outer) token_rule go
  where
    go : (m : TokenMember U) → GoodTokenMember m → Found (GoodRule Outer) (token_rule m)
    go m (member_precedence g) = found_none
    go m (member_conflict g) = found_none
    go m (member_rule g) = found_some g
    go m (member_literal g) = found_none

token-literals : {ms : List (TokenMember U)} → Every GoodTokenMember ms → Every GoodLiteral (picked token_literal ms)
token-literals = every-picked GoodTokenMember GoodLiteral token_literal go
  where
    go : (m : TokenMember U) → GoodTokenMember m → Found GoodLiteral (token_literal m)
    go m (member_precedence g) = found_none
    go m (member_conflict g) = found_none
    go m (member_rule g) = found_none
    go m (member_literal g) = found_some g

parse_tokens-meets : (ts : Tokens U) → Meets parse_tokens ts (λ x us. GoodDeclaration (Declaration.tokens x))
unfolding parse_tokens parse_token_member
parse_tokens-meets ts =
    bind_meets _ (here-meets ts) λ p us h. bind_meets _ (next-meets us) λ u vs h.
    bind_meets _ (block-meets GoodTokenMember _ nothing-meets (λ before ws. bind_meets _ (kind_meets ws) λ k xs g. token_member_by-meets (at_in k) (string_in k) (string-given g.2) xs) vs) λ ms ws g.
    pure-meets _ ws (good-tokens (token_precs g) (token-conflicts g) (token-rules g) (token-literals g))

data GoodLocalMember : LocalMember U → Type 0 where
  local_prec : {x : TokenPrecDeclaration U} → GoodTokenPrec x → GoodLocalMember (LocalMember.precedence x)
  local_a-rule : {x : RuleDeclaration U} → GoodRule Outer x → GoodLocalMember (LocalMember.rule x)
  local_else : {x : NamedNode U} → GoodNode x → GoodLocalMember (LocalMember.fallback x)

parse_local_member-meets : (before : List (LocalMember U)) (ts : Tokens U) → Meets (parse_local_member before) ts (λ m us. GoodLocalMember m)
unfolding parse_local_member
parse_local_member-meets before ts =
    bind_meets _ (kind_meets ts) λ k us h.
    choose-meets (says "precedence" (at_in k)) (λ t. bind_meets _ (parse_token_precedence-meets us) λ x vs g. pure-meets _ vs (local_prec g))
    (λ f. bind_meets _ (eat_at-meets "else" us) λ b vs g. choose-meets (b && is_empty (picked local_fallback before))
    (λ t. bind_meets _ (parse_named_node-meets vs) λ x ws g. pure-meets _ ws (local_else g))
    (λ f. bind_meets _ (parse_rule-meets vs) λ x ws g. pure-meets _ ws (local_a-rule g)))

local_precs : {ms : List (LocalMember U)} → Every GoodLocalMember ms → Every GoodTokenPrec (picked local_precedence ms)
local_precs = every-picked GoodLocalMember GoodTokenPrec local_precedence go
  where
    go : (m : LocalMember U) → GoodLocalMember m → Found GoodTokenPrec (local_precedence m)
    go m (local_prec g) = found_some g
    go m (local_a-rule g) = found_none
    go m (local_else g) = found_none

local_rules : {ms : List (LocalMember U)} → Every GoodLocalMember ms → Every (GoodRule Outer) (picked local_rule ms)
local_rules = every-picked GoodLocalMember (GoodRule Outer) local_rule go
  where
    go : (m : LocalMember U) → GoodLocalMember m → Found (GoodRule Outer) (local_rule m)
    go m (local_prec g) = found_none
    go m (local_a-rule g) = found_some g
    go m (local_else g) = found_none

local_fallbacks : {ms : List (LocalMember U)} → Every GoodLocalMember ms → Every GoodNode (picked local_fallback ms)
local_fallbacks = every-picked GoodLocalMember GoodNode local_fallback go
  where
    go : (m : LocalMember U) → GoodLocalMember m → Found GoodNode (local_fallback m)
    go m (local_prec g) = found_none
    go m (local_a-rule g) = found_none
    go m (local_else g) = found_some g

first_found : {A : Type 0} {G : A → Type 0} {xs : List A} → Every G xs → Found G (first_element xs)
first_found every-none = found_none
first_found (every_more g q) = found_some g

parse_local_tokens-meets : (p : U) (ts : Tokens U) → Meets (parse_local_tokens p) ts (λ x us. GoodDeclaration (Declaration.local_tokens x))
unfolding parse_local_tokens
parse_local_tokens-meets p ts =
    bind_meets _ (block-meets GoodLocalMember _ nothing-meets parse_local_member-meets ts) λ ms us g.
    pure-meets _ us (good_local (local_precs g) (local_rules g) (first_found (local_fallbacks g)))

-- ------------------------------------------------------------------ external declarations

parse_source-meets : (ts : Tokens U) → Meets parse_source ts (λ s us. Scalars s)
unfolding parse_source
parse_source-meets ts = bind_meets _ (expect_name-meets "from" ts) λ u us h. expect_string-meets us

data GoodExternalMember : ExternalMember U → Type 0 where
  external-node : {x : NamedNode U} → GoodNode x → GoodExternalMember (ExternalMember.token x)
  external-names : {ns : List (Identifier U)} → Every GoodName ns → GoodExternalMember (ExternalMember.conflicts ns)

parse_external_member-meets : (c : Bool) (before : List (ExternalMember U)) (ts : Tokens U) → Meets (parse_external_member c before) ts (λ m us. GoodExternalMember m)
unfolding parse_external_member
parse_external_member-meets c before ts =
    bind_meets {Q = λ b us. Unit {0}} _ (choose-meets c (λ t. eat_at-meets "conflict" ts) (λ f. pure-meets false ts tt)) λ b us h.
    choose-meets b (λ t. bind_meets _ (names-meets us) λ ns vs g. pure-meets _ vs (external-names g)) (λ f. bind_meets _ (parse_named_node-meets us) λ x vs g. pure-meets _ vs (external-node g))

parse_external_set_meets : (c : Bool) (ts : Tokens U) → Meets (parse_external_token_set c) ts (λ ms us. Every GoodExternalMember ms)
unfolding parse_external_token_set
parse_external_set_meets c ts = block-meets GoodExternalMember _ comma-or-not (parse_external_member-meets c) ts

external-nodes : {ms : List (ExternalMember U)} → Every GoodExternalMember ms → Every GoodNode (picked external_token ms)
external-nodes = every-picked GoodExternalMember GoodNode external_token go
  where
    go : (m : ExternalMember U) → GoodExternalMember m → Found GoodNode (external_token m)
    go m (external-node g) = found_some g
    go m (external-names g) = found_none

external-lists : {ms : List (ExternalMember U)} → Every GoodExternalMember ms → Every (Every GoodName) (picked external_conflicts ms)
external-lists = every-picked GoodExternalMember (Every GoodName) external_conflicts go
  where
    go : (m : ExternalMember U) → GoodExternalMember m → Found (Every GoodName) (external_conflicts m)
    go m (external-node g) = found_none
    go m (external-names g) = found_some g

parse_external_tokens-meets : (p : U) (ts : Tokens U) → Meets (parse_external_tokens p) ts (λ d us. GoodDeclaration d × (declaration_kind d ≡ 16))
unfolding parse_external_tokens
parse_external_tokens-meets p ts =
    bind_meets _ (parse_identifier-meets ts) λ n us w. bind_meets _ (parse_source-meets us) λ s vs z. bind_meets _ (parse_external_set_meets true vs) λ ms ws g.
    pure-meets _ ws (good-external (record { word = w.word; text = z }) (external-nodes g) (every-concat (external-lists g)), refl)

parse_external_specializer-meets : (p : U) (k : SpecializeKind) (ts : Tokens U) → Meets (parse_external_specializer p k) ts (λ d us. GoodDeclaration d × (declaration_kind d ≡ 18))
unfolding parse_external_specializer
parse_external_specializer-meets p k ts =
    bind_meets _ (braced-meets ts) λ e us r. bind_meets _ (parse_identifier-meets us) λ n vs w. bind_meets _ (parse_source-meets vs) λ s ws z. bind_meets _ (parse_external_set_meets false ws) λ ms xs g.
    pure-meets _ xs (good_specializer r (record { word = w.word; text = z }) (external-nodes g), refl)

parse_external_prop_source-meets : (p : U) (ts : Tokens U) → Meets (parse_external_prop_source p) ts (λ d us. GoodDeclaration d × (declaration_kind d ≡ 19))
unfolding parse_external_prop_source
parse_external_prop_source-meets p ts =
    bind_meets _ (parse_identifier-meets ts) λ n us w. bind_meets _ (parse_source-meets us) λ s vs z. pure-meets _ vs (good-prop-source (record { word = w.word; text = z }), refl)

parse_external_prop-meets : (p : U) (ts : Tokens U) → Meets (parse_external_prop p) ts (λ x us. GoodExternalProp x)
unfolding parse_external_prop
parse_external_prop-meets p ts =
    bind_meets _ (parse_identifier-meets ts) λ x us w. bind_meets _ (eat_name-meets "as" us) λ b vs h.
    bind_meets {Q = λ n us. GoodName n} _ (choose-meets b (λ t. parse_identifier-meets vs) (λ f. pure-meets x vs w)) λ n ws v.
    bind_meets _ (parse_source-meets ws) λ s xs z. pure-meets _ xs (record { source = record { word = v.word; text = z }; external = w })

-- ------------------------------------------------------------------ the top level

pub data GoodMember : Member U → Type 0 where
  member_declared : {d : Declaration U} → GoodDeclaration d → GoodMember (declaration d)
  member_dialects : {ns : List (Identifier U)} → Every GoodName ns → GoodMember (dialects ns)
  member_prop : {x : ExternalPropDeclaration U} → GoodExternalProp x → GoodMember (external_prop x)
  member_detects : GoodMember detect_delim

-- a member that may come after those before
abbrev FreshMember : List (Declaration U) → Member U → Type 0
FreshMember ds (declaration d) = Fresh ds d
FreshMember ds (dialects ns) = Unit {0}
FreshMember ds (external_prop x) = Unit {0}
FreshMember ds detect_delim = Unit {0}

abbrev Fits : List (Member U) → Member U → Tokens U → Type 0
Fits before m us = GoodMember m × FreshMember (picked declared before) m

-- by its kind
fresh_kind : (ds : List (Declaration U)) (d : Declaration U) (k : ℕ) → declaration_kind d ≡ k → has_kind k ds ≡ false → Fresh ds d
fresh_kind ds d k e h = record { unseen = λ s. ap (λ n. has_kind n ds) e ∙ h }

fresh_many : (ds : List (Declaration U)) (d : Declaration U) (k : ℕ) → declaration_kind d ≡ k → Good.is_single k ≡ false → Fresh ds d
fresh_many ds d k e h = record { unseen = λ s. clash (Good.is_single k) (ap Good.is_single (sym e) ∙ s) h }

-- a declaration of a kind that may come often
many_meets : (k : ℕ) → Good.is_single k ≡ false → (before : List (Member U)) {m : Parser U (Declaration U)} {ts : Tokens U} → Meets m ts (λ d us. GoodDeclaration d × (declaration_kind d ≡ k))
    → Meets (m >>= λ d. pure (declaration d)) ts (Fits before)
many_meets k s before h = bind_meets _ h λ d us g. pure-meets _ us (member_declared g.0, fresh_many (picked declared before) d k g.1 s)

external_by-meets : (before : List (Member U)) (p : U) (t : Option (List ℕ)) (ts : Tokens U) → Meets (external_by p t) ts (Fits before)
unfolding external_by
external_by-meets before p t ts =
    if_meets (says "tokens" t) (λ b. bind_meets _ (next-meets ts) λ u us h. many_meets 16 refl before (parse_external_tokens-meets p us))
    (λ f. if_meets (says "prop" t) (λ b. bind_meets _ (next-meets ts) λ u us h. bind_meets _ (parse_external_prop-meets p us) λ x vs g. pure-meets _ vs (member_prop g, tt))
    (λ f. if_meets (says "extend" t) (λ b. bind_meets _ (next-meets ts) λ u us h. many_meets 18 refl before (parse_external_specializer-meets p SpecializeKind.extend us))
    (λ f. if_meets (says "specialize" t) (λ b. bind_meets _ (next-meets ts) λ u us h. many_meets 18 refl before (parse_external_specializer-meets p SpecializeKind.specialize us))
    (λ f. if_meets (says "propSource" t) (λ b. bind_meets _ (next-meets ts) λ u us h. many_meets 19 refl before (parse_external_prop_source-meets p us)) (λ f. refuse_here-meets _ ts)))))

parse_prec_item-meets : (ts : Tokens U) → Meets parse_prec_item ts (λ x us. GoodPrecItem x)
unfolding parse_prec_item parse_prec_kind
parse_prec_item-meets ts =
    bind_meets _ (parse_identifier-meets ts) λ n us w.
    bind_meets {Q = λ k us. Unit {0}} _
    (bind_meets _ (eat_at-meets "left" us) λ l vs h. choose-meets l (λ t. pure-meets _ vs tt)
    (λ f. bind_meets _ (eat_at-meets "right" vs) λ r ws h. choose-meets r (λ t. pure-meets _ ws tt)
    (λ f. bind_meets _ (eat_at-meets "cut" ws) λ c xs h. choose-meets c (λ t. pure-meets _ xs tt) (λ f. pure-meets _ xs tt)))) λ k vs h.
    pure-meets _ vs (record { name = w })

parse_precedence-meets : (ts : Tokens U) → Meets parse_precedence ts (λ x us. GoodDeclaration (Declaration.precedences x))
unfolding parse_precedence
parse_precedence-meets ts =
    bind_meets _ (here-meets ts) λ p us h. bind_meets _ (next-meets us) λ u vs h.
    bind_meets _ (block-meets GoodPrecItem _ comma-or-not (λ before ws. parse_prec_item-meets ws) vs) λ items ws g. pure-meets _ ws (good-precedences g)

parse_context_meets : (before : List (Member U)) (p : U) (ts : Tokens U) → Meets (parse_context_declaration p before) ts (λ d us. GoodDeclaration d × Fresh (picked declared before) d)
unfolding parse_context_declaration
parse_context_meets before p ts =
    choose-meets (seen 14 before) (λ t. refuse-meets _ p ts)
    (λ f. bind_meets _ (parse_identifier-meets ts) λ n us w. bind_meets _ (parse_source-meets us) λ s vs z.
    pure-meets _ vs (good-context (record { word = w.word; text = z }), fresh_kind (picked declared before) _ 14 refl f))

data GoodSkipMember : SkipMember U → Type 0 where
  skip-top : {x : RuleDeclaration U} → GoodRule Outer x → GoodSkipMember (SkipMember.top_rule x)
  skip-a-rule : {x : RuleDeclaration U} → GoodRule Outer x → GoodSkipMember (SkipMember.rule x)

skip-either : (b : Bool) {r : RuleDeclaration U} → GoodRule Outer r → GoodSkipMember (if b then SkipMember.top_rule r otherwise SkipMember.rule r)
skip-either true g = skip-top g
skip-either false g = skip-a-rule g

skip-tops : {ms : List (SkipMember U)} → Every GoodSkipMember ms → Every (GoodRule Outer) (picked skip_top_rule ms)
skip-tops = every-picked GoodSkipMember (GoodRule Outer) skip_top_rule go
  where
    go : (m : SkipMember U) → GoodSkipMember m → Found (GoodRule Outer) (skip_top_rule m)
    go m (skip-top g) = found_some g
    go m (skip-a-rule g) = found_none

skip-rules : {ms : List (SkipMember U)} → Every GoodSkipMember ms → Every (GoodRule Outer) (picked skip_rule ms)
skip-rules = every-picked GoodSkipMember (GoodRule Outer) skip_rule go
  where
    go : (m : SkipMember U) → GoodSkipMember m → Found (GoodRule Outer) (skip_rule m)
    go m (skip-top g) = found_none
    go m (skip-a-rule g) = found_some g

parse_skip_meets : (before : List (Member U)) (p : U) (ts : Tokens U) → Meets (parse_skip_declaration p before) ts (λ d us. GoodDeclaration d × Fresh (picked declared before) d)
unfolding parse_skip_declaration parse_skip_member
parse_skip_meets before p ts =
    bind_meets _ (braced-meets ts) λ e us r. bind_meets _ (kind_meets us) λ k vs h.
    choose-meets (is_mark "{" k)
    (λ t. bind_meets _ (block-meets GoodSkipMember _ nothing-meets (λ before ws. bind_meets _ (eat_at-meets "top" ws) λ b xs h. bind_meets _ (parse_rule-meets xs) λ q ys g. pure-meets _ ys (skip-either b g)) vs) λ ms ws g.
    pure-meets _ ws (good_scoped r (skip-tops g) (skip-rules g), fresh_many (picked declared before) _ 23 refl refl))
    (λ f. choose-meets (seen 22 before) (λ t. refuse-meets _ p vs) (λ n. pure-meets _ vs (good-skip r, fresh_kind (picked declared before) _ 22 refl n)))

-- a declaration with what is known of it
fits-meets : (before : List (Member U)) {m : Parser U (Declaration U)} {ts : Tokens U} → Meets m ts (λ d us. GoodDeclaration d × Fresh (picked declared before) d) → Meets (m >>= λ d. pure (declaration d)) ts (Fits before)
fits-meets before h = bind_meets _ h λ d us g. pure-meets _ us (member_declared g.0, g.1)

top_by-meets : (t : Option (List ℕ)) (ts : Tokens U) → Meets (top_by t) ts (λ d us. GoodDeclaration d × (declaration_kind d ≡ 2))
unfolding top_by
top_by-meets none ts = refuse_here-meets _ ts
top_by-meets (some t) ts = bind_meets _ (parse_rule-meets ts) λ r us g. pure-meets _ us (good-top g, refl)

parse_directive-meets : (before : List (Member U)) (p : U) (t : List ℕ) (ts : Tokens U) → Meets (parse_directive p before t) ts (Fits before)
unfolding parse_directive parse_external_declaration
parse_directive-meets before p t ts =
    if_meets (spells "top" t) (λ b. bind_meets _ (next-meets ts) λ u us h. many_meets 2 refl before (bind_meets _ (kind_meets us) λ k vs h. top_by-meets (name_in k) vs))
    (λ f. if_meets (spells "tokens" t) (λ b. choose-meets (seen 8 before) (λ y. refuse_here-meets _ ts)
    (λ n. bind_meets _ (parse_tokens-meets ts) λ x us g. pure-meets _ us (member_declared g, fresh_kind (picked declared before) _ 8 refl n)))
    (λ f. if_meets (spells "local" t) (λ b. bind_meets _ (next-meets ts) λ u us h. bind_meets _ (expect_name-meets "tokens" us) λ v vs h. bind_meets _ (parse_local_tokens-meets p vs) λ x ws g.
    pure-meets _ ws (member_declared g, fresh_many (picked declared before) _ 12 refl refl))
    (λ f. if_meets (spells "context" t) (λ b. bind_meets _ (next-meets ts) λ u us h. fits-meets before (parse_context_meets before p us))
    (λ f. if_meets (spells "external" t) (λ b. bind_meets _ (next-meets ts) λ u us h. bind_meets _ (kind_meets us) λ k vs h. external_by-meets before p (name_in k) vs)
    (λ f. if_meets (spells "dialects" t) (λ b. bind_meets _ (next-meets ts) λ u us h. bind_meets _ (names-meets us) λ ns vs g. pure-meets _ vs (member_dialects g, tt))
    (λ f. if_meets (spells "precedence" t) (λ b. choose-meets (seen 20 before) (λ y. refuse_here-meets _ ts)
    (λ n. bind_meets _ (parse_precedence-meets ts) λ x us g. pure-meets _ us (member_declared g, fresh_kind (picked declared before) _ 20 refl n)))
    (λ f. if_meets (spells "detectDelim" t) (λ b. bind_meets _ (next-meets ts) λ u us h. pure-meets _ us (member_detects, tt))
    (λ f. if_meets (spells "skip" t) (λ b. bind_meets _ (next-meets ts) λ u us h. fits-meets before (parse_skip_meets before p us)) (λ f. refuse_here-meets _ ts)))))))))

declaration_by-meets : (before : List (Member U)) (p : U) (t : Option (List ℕ)) (ts : Tokens U) → Meets (declaration_by p before t) ts (Fits before)
unfolding declaration_by
declaration_by-meets before p (some t) ts = parse_directive-meets before p t ts
declaration_by-meets before p none ts = bind_meets _ (parse_rule-meets ts) λ r us g. pure-meets _ us (member_declared (good-rule g), fresh_many (picked declared before) _ 3 refl refl)

-- what is kept of the members read: each is good, and there is one at most of those that may come once
abbrev AllFit : List (Member U) → Tokens U → Type 0
AllFit ms us = Every GoodMember ms × Singles (picked declared ms)

one_more : (before : List (Member U)) (m : Member U) (us : Tokens U) → AllFit before us → Fits before m us → AllFit (before ++ m ∷ []) us
one_more before (declaration d) us a f = (every_one a.0 f.0, rw (picked-one declared before (declaration d)) (singles-more (picked declared before) d a.1 f.1))
one_more before (dialects ns) us a f = (every_one a.0 f.0, rw (picked-one declared before (dialects ns), append-nil (picked declared before)) a.1)
one_more before (external_prop x) us a f = (every_one a.0 f.0, rw (picked-one declared before (external_prop x), append-nil (picked declared before)) a.1)
one_more before detect_delim us a f = (every_one a.0 f.0, rw (picked-one declared before detect_delim, append-nil (picked declared before)) a.1)

separate-none : (before : List (Member U)) (ts : Tokens U) → Meets (separate nothing before) ts (λ u us. Unit {0})
unfolding separate
separate-none [] ts = pure-meets tt ts tt
separate-none (m ∷ ms) ts = pure-meets tt ts tt

members-meets : (ts : Tokens U) → Meets (until (kind >>= λ k. pure (is_end k)) nothing parse_declaration) ts AllFit
unfolding until_step parse_declaration picked
members-meets ts =
    loop-meets AllFit AllFit _
    (λ before us a. bind_meets {Q = λ b us. Unit {0}} _ (bind_meets _ (kind_meets us) λ k vs h. pure-meets _ vs tt) λ b vs h.
    choose-meets b (λ t. pure-meets none vs a)
    (λ f. bind_meets _ (separate-none before vs) λ u ws h.
    bind_meets {Q = Fits before} _ (bind_meets _ (here-meets ws) λ p xs h. bind_meets _ (kind_meets xs) λ k ys h. declaration_by-meets before p (at_in k) ys) λ m xs g.
    pure-meets (some m) xs (one_more before m xs a g))) ts (every-none, singles-none)

all-declared : {ms : List (Member U)} → Every GoodMember ms → Every GoodDeclaration (picked declared ms)
all-declared = every-picked GoodMember GoodDeclaration declared go
  where
    go : (m : Member U) → GoodMember m → Found GoodDeclaration (declared m)
    go m (member_declared g) = found_some g
    go m (member_dialects g) = found_none
    go m (member_prop g) = found_none
    go m member_detects = found_none

all-dialects : {ms : List (Member U)} → Every GoodMember ms → Every (Every GoodName) (picked declared_dialects ms)
all-dialects = every-picked GoodMember (Every GoodName) declared_dialects go
  where
    go : (m : Member U) → GoodMember m → Found (Every GoodName) (declared_dialects m)
    go m (member_declared g) = found_none
    go m (member_dialects g) = found_some g
    go m (member_prop g) = found_none
    go m member_detects = found_none

all-props : {ms : List (Member U)} → Every GoodMember ms → Every GoodExternalProp (picked declared_prop ms)
all-props = every-picked GoodMember GoodExternalProp declared_prop go
  where
    go : (m : Member U) → GoodMember m → Found GoodExternalProp (declared_prop m)
    go m (member_declared g) = found_none
    go m (member_dialects g) = found_none
    go m (member_prop g) = found_some g
    go m member_detects = found_none

every-last : {A : Type 0} {G : A → Type 0} {xs : List A} → Every G xs → Every G (last_of xs)
unfolding last_of
every-last every-none = every-none
every-last (every_more g every-none) = every_more g every-none
every-last (every_more g (every_more h q)) = every-last (every_more h q)

grammar-good : (p : U) (ms : List (Member U)) (us : Tokens U) → AllFit ms us → has_top (picked declared ms) ≡ true → GoodGrammar (grammar_of p ms)
unfolding grammar_of
grammar-good p ms us a t =
    record {
      declarations = every-grouped (all-declared a.0);
      singles = grouped-singles (picked declared ms) a.1;
      grouped = grouped_twice (picked declared ms);
      top = grouped-top (picked declared ms) t;
      dialects = every-concat (every-last (all-dialects a.0));
      externals = all-props a.0;
    }

pub parse-meets : (ts : Tokens U) → Meets parse ts (λ g us. GoodGrammar g)
unfolding parse
parse-meets ts =
    bind_meets _ (arrive-meets ts) λ u us h. bind_meets _ (here-meets us) λ p vs h.
    bind_meets _ (members-meets vs) λ ms ws a.
    choose-meets (has_top (picked declared ms)) (λ t. pure-meets _ ws (grammar-good p ms ws a t)) (λ f. refuse_here-meets no_top ws)
