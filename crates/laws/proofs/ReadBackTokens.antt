-- Blocks of tokens, written, are read back.
-- Assumes nothing.
use Prim.Native.Nat.{◌+◌, ◌<◌, ◌≤◌}
use Prim.Native.Char.{Char}
use native.Mathlib.Omega.{arith}
use mathlib.Core.Path.{◌≡◌, refl, ap, ◌∙◌}
use mathlib.Core.Bool.{false}
use mathlib.Core.List.{List, [], ◌∷◌, ◌++◌, map, append-nil}
use mathlib.Core.Option.{Option, none, some}
use lib.ListN.{length}
use lib.Seq.{append_snoc}
use Rattle.basics.specs.Basics.{same, first_element, is_empty, picked}
use Rattle.basics.proofs.Lists.{picked-append}
use Rattle.lexer.specs.Tokens.{Kind}
use Rattle.tree.specs.Syntax.{RuleDeclaration, TokenReference, TokenPrecDeclaration, TokenConflictDeclaration, LiteralDeclaration, NamedNode, TokenDeclaration, LocalTokenDeclaration, Declaration}
use Rattle.notation.specs.Parser.{Parser, ◌>>◌, is_mark, eat, expect, until_step, until, separate, nothing}
use Rattle.notation.specs.Members.{TokenMember, token_precedence, token_conflict, token_rule, token_literal, LocalMember, local_precedence, local_rule, local_fallback}
use Rattle.notation.specs.Declarations.{token_member_by, parse_token_member, parse_tokens, parse_local_member, parse_local_tokens}
use Rattle.spelling.specs.NormalText.{each, each_after, commas, mark, at, rule_tokens, reference_tokens, token_prec_tokens, token_conflict_tokens, literal_tokens, named_node_tokens, fallback_tokens, declaration_tokens}
use Rattle.laws.proofs.Fine.{U}
use Rattle.laws.proofs.MeetsExpressions.{Found, found_none, found_some, GoodRule}
use Rattle.laws.proofs.Good.{Outer, GoodTokenPrec, GoodTokenConflict, GoodLiteral, GoodNode}
use Rattle.laws.proofs.ReadBack.{Reads, bind_reads, pure-reads, choose-true, choose-false, here_reads, kind-reads, next-reads, eat_yes, eat_no, eat_at_yes, eat_at_no, expect-reads, Back, over, turn, loop-reads, each-reads}
use Rattle.laws.proofs.ReadBackProps.{props-longer, after-longer}
use Rattle.laws.proofs.ReadBackRules.{rule-reads, rule-longer, reference-longer, precedence-reads, conflict-reads, literal-reads, node-reads, node-longer, each_append, each_map, picked_all, picked_no}
use Rattle.laws.proofs.Every.{Every, every-none, every_more, every_map, every_append}

-- ------------------------------------------------------------------ `@tokens`

abbrev pub token_member_tokens : TokenMember U → List Kind → List Kind
token_member_tokens (TokenMember.precedence x) ks = token_prec_tokens x ks
token_member_tokens (TokenMember.conflict x) ks = token_conflict_tokens x ks
token_member_tokens (TokenMember.rule x) ks = rule_tokens x ks
token_member_tokens (TokenMember.literal x) ks = literal_tokens x ks

pub data GoodTokenMember : TokenMember U → Type 0 where
  good_prec : {x : TokenPrecDeclaration U} → GoodTokenPrec x → GoodTokenMember (TokenMember.precedence x)
  good-conflict : {x : TokenConflictDeclaration U} → GoodTokenConflict x → GoodTokenMember (TokenMember.conflict x)
  good-a-rule : {x : RuleDeclaration U} → GoodRule Outer x → GoodTokenMember (TokenMember.rule x)
  good-literal : {x : LiteralDeclaration U} → GoodLiteral x → GoodTokenMember (TokenMember.literal x)

-- no bracket follows
abbrev pub NoSquare : List Kind → Type 0
NoSquare ks = is_mark "[" (first_element ks) ≡ false

token_begins : (c : Char) → is_mark c none ≡ false → (m : TokenMember U) (ks : List Kind) → is_mark c (first_element (token_member_tokens m ks)) ≡ false
token_begins c z (TokenMember.precedence x) ks = z
token_begins c z (TokenMember.conflict x) ks = z
token_begins c z (TokenMember.rule x) ks = z
token_begins c z (TokenMember.literal x) ks = z

pub references-longer : (rs : List (TokenReference U)) (ks : List Kind) → length ks ≤ length (commas reference_tokens rs ks)
references-longer [] ks = omega arith
references-longer (r ∷ rs) ks = let a = reference-longer r (each_after reference_tokens rs ks) in let b = go rs in omega arith
  where
    go : (rs : List (TokenReference U)) → length ks ≤ length (each_after reference_tokens rs ks)
    go rs = after-longer reference_tokens reference-longer rs ks

pub token-longer : (m : TokenMember U) (ks : List Kind) → length ks < length (token_member_tokens m ks)
token-longer (TokenMember.precedence x) ks = let a = references-longer x.items (mark "}" ks) in omega arith
token-longer (TokenMember.conflict x) ks =
    let a = reference-longer x.right (mark "}" ks) in
    let b = reference-longer x.left (mark "," (reference_tokens x.right (mark "}" ks))) in
    omega arith
token-longer (TokenMember.rule x) ks = rule-longer x ks
token-longer (TokenMember.literal x) ks = let a = props-longer x.props ks in omega arith

token-reads : (before : List (TokenMember U)) (m : TokenMember U) → GoodTokenMember m → (ks : List Kind) → NoSquare ks → Reads (parse_token_member before) (token_member_tokens m ks) m ks
unfolding parse_token_member token_member_by same
token-reads before m (good_prec g) ks h = bind_reads _ (kind-reads _ refl) (bind_reads _ (precedence-reads _ g ks) (pure-reads _ ks))
token-reads before m (good-conflict g) ks h = bind_reads _ (kind-reads _ refl) (bind_reads _ (conflict-reads _ g ks) (pure-reads _ ks))
token-reads before m (good-a-rule g) ks h = bind_reads _ (kind-reads _ refl) (bind_reads _ (rule-reads _ g ks) (pure-reads _ ks))
token-reads before m (good-literal g) ks h = bind_reads _ (kind-reads _ refl) (bind_reads _ (literal-reads _ g ks h) (pure-reads _ ks))

module _ (ps : List (TokenPrecDeclaration U)) (cs : List (TokenConflictDeclaration U)) (rs : List (RuleDeclaration U)) (ls : List (LiteralDeclaration U)) where
  abbrev pub token_members : List (TokenMember U)
  token_members = map TokenMember.precedence ps ++ (map TokenMember.conflict cs ++ (map TokenMember.rule rs ++ map TokenMember.literal ls))

  token-written : (ks : List Kind) → each token_member_tokens token_members ks ≡ each token_prec_tokens ps (each token_conflict_tokens cs (each rule_tokens rs (each literal_tokens ls ks)))
  token-written ks =
      rw (
        each_append token_member_tokens (map TokenMember.precedence ps) (map TokenMember.conflict cs ++ (map TokenMember.rule rs ++ map TokenMember.literal ls)) ks,
        each_append token_member_tokens (map TokenMember.conflict cs) (map TokenMember.rule rs ++ map TokenMember.literal ls) ks,
        each_append token_member_tokens (map TokenMember.rule rs) (map TokenMember.literal ls) ks,
        each_map token_member_tokens TokenMember.literal ls ks,
        each_map token_member_tokens TokenMember.rule rs (each literal_tokens ls ks),
        each_map token_member_tokens TokenMember.conflict cs (each rule_tokens rs (each literal_tokens ls ks)),
        each_map token_member_tokens TokenMember.precedence ps (each token_conflict_tokens cs (each rule_tokens rs (each literal_tokens ls ks))),
      )

  token-split : {A : Type 0} (p : TokenMember U → Option A)
      → picked p token_members ≡ picked p (map TokenMember.precedence ps) ++ (picked p (map TokenMember.conflict cs) ++ (picked p (map TokenMember.rule rs) ++ picked p (map TokenMember.literal ls)))
  token-split p =
      rw (
        picked-append p (map TokenMember.precedence ps) (map TokenMember.conflict cs ++ (map TokenMember.rule rs ++ map TokenMember.literal ls)),
        picked-append p (map TokenMember.conflict cs) (map TokenMember.rule rs ++ map TokenMember.literal ls),
        picked-append p (map TokenMember.rule rs) (map TokenMember.literal ls),
      )

  token_precs : picked token_precedence token_members ≡ ps
  token_precs =
      token-split token_precedence
      ∙ rw (
        picked_all token_precedence TokenMember.precedence (λ x. refl) ps,
        picked_no token_precedence TokenMember.conflict (λ x. refl) cs,
        picked_no token_precedence TokenMember.rule (λ x. refl) rs,
        picked_no token_precedence TokenMember.literal (λ x. refl) ls,
        append-nil ps,
      )

  token-conflicts : picked token_conflict token_members ≡ cs
  token-conflicts =
      token-split token_conflict
      ∙ rw (
        picked_no token_conflict TokenMember.precedence (λ x. refl) ps,
        picked_all token_conflict TokenMember.conflict (λ x. refl) cs,
        picked_no token_conflict TokenMember.rule (λ x. refl) rs,
        picked_no token_conflict TokenMember.literal (λ x. refl) ls,
        append-nil cs,
      )

  token-rules : picked token_rule token_members ≡ rs
  token-rules =
      token-split token_rule
      ∙ rw (
        picked_no token_rule TokenMember.precedence (λ x. refl) ps,
        picked_no token_rule TokenMember.conflict (λ x. refl) cs,
        picked_all token_rule TokenMember.rule (λ x. refl) rs,
        picked_no token_rule TokenMember.literal (λ x. refl) ls,
        append-nil rs,
      )

  token-literals : picked token_literal token_members ≡ ls
  token-literals =
      token-split token_literal
      ∙ rw (
        picked_no token_literal TokenMember.precedence (λ x. refl) ps,
        picked_no token_literal TokenMember.conflict (λ x. refl) cs,
        picked_no token_literal TokenMember.rule (λ x. refl) rs,
        picked_all token_literal TokenMember.literal (λ x. refl) ls,
      )

  token-every : Every GoodTokenPrec ps → Every GoodTokenConflict cs → Every (GoodRule Outer) rs → Every GoodLiteral ls → Every GoodTokenMember token_members
  token-every a b c d =
      every_append (every_map TokenMember.precedence (λ x. good_prec) a) (every_append (every_map TokenMember.conflict (λ x. good-conflict) b) (every_append (every_map TokenMember.rule (λ x. good-a-rule) c) (every_map TokenMember.literal (λ x. good-literal) d)))

pub tokens-reads : (x : TokenDeclaration U) → Every GoodTokenPrec x.precedences → Every GoodTokenConflict x.conflicts → Every (GoodRule Outer) x.rules → Every GoodLiteral x.literals → (ks : List Kind)
    → Reads parse_tokens (declaration_tokens (Declaration.tokens x) ks) x ks
unfolding parse_tokens declaration_tokens
tokens-reads x a b c d ks =
    let ps = x.precedences in let cs = x.conflicts in let rs = x.rules in let ls = x.literals in
    rw (← token-written ps cs rs ls (mark "}" ks)) (bind_reads _ (here_reads _) (bind_reads _ (next-reads _ _) (bind_reads _ (bind_reads _ (expect-reads "{" _ _ refl)
    (each-reads "}" refl GoodTokenMember token_member_tokens parse_token_member (λ m g ks. token_begins "}" refl m ks) token-longer NoSquare (λ ks. refl) (λ m g ks. token_begins "[" refl m ks) token-reads
    (token_members ps cs rs ls) (token-every ps cs rs ls a b c d) ks))
    (rw (token_precs ps cs rs ls, token-conflicts ps cs rs ls, token-rules ps cs rs ls, token-literals ps cs rs ls) (pure-reads _ ks)))))

-- ------------------------------------------------------------------ `@local tokens`

abbrev pub local_member_tokens : LocalMember U → List Kind → List Kind
local_member_tokens (LocalMember.precedence x) ks = token_prec_tokens x ks
local_member_tokens (LocalMember.rule x) ks = rule_tokens x ks
local_member_tokens (LocalMember.fallback x) ks = at "else" (named_node_tokens x ks)

-- precedences and rules are read whatever came before
pub data PlainMember : LocalMember U → Type 0 where
  plain_prec : {x : TokenPrecDeclaration U} → GoodTokenPrec x → PlainMember (LocalMember.precedence x)
  plain-rule : {x : RuleDeclaration U} → GoodRule Outer x → PlainMember (LocalMember.rule x)

local_reads : (before : List (LocalMember U)) (m : LocalMember U) → PlainMember m → (ks : List Kind) → Reads (parse_local_member before) (local_member_tokens m ks) m ks
unfolding parse_local_member same
local_reads before m (plain_prec g) ks = bind_reads _ (kind-reads _ refl) (choose-true _ refl (bind_reads _ (precedence-reads _ g ks) (pure-reads _ ks)))
local_reads before m (plain-rule g) ks = bind_reads _ (kind-reads _ refl) (choose-false _ refl (bind_reads _ (eat_at_no "else" _ refl) (choose-false _ refl (bind_reads _ (rule-reads _ g ks) (pure-reads _ ks)))))

plain-longer : {m : LocalMember U} → PlainMember m → (ks : List Kind) → length ks < length (local_member_tokens m ks)
plain-longer (plain_prec {x} g) ks = let a = references-longer x.items (mark "}" ks) in omega arith
plain-longer (plain-rule {x} g) ks = rule-longer x ks

plain-begins : {m : LocalMember U} → PlainMember m → (ks : List Kind) → is_mark "}" (first_element (local_member_tokens m ks)) ≡ false
plain-begins (plain_prec g) ks = refl
plain-begins (plain-rule g) ks = refl

abbrev pub local_step : List (LocalMember U) → Parser U (Option (LocalMember U))
local_step = until_step (eat "}") nothing parse_local_member

pub apart : {A : Type 0} (before : List A) (ks : List Kind) → Reads (separate nothing before) ks tt ks
unfolding separate
apart [] ks = pure-reads tt ks
apart (y ∷ ys) ks = pure-reads tt ks

local-step : (before : List (LocalMember U)) (m : LocalMember U) (ks ls : List Kind) → is_mark "}" (first_element ks) ≡ false → Reads (parse_local_member before) ks m ls → Reads (local_step before) ks (some m) ls
unfolding until_step
local-step before m ks ls n r = bind_reads _ (eat_no "}" ks n) (choose-false _ refl (bind_reads _ (apart before ks) (bind_reads _ r (pure-reads _ ls))))

local_close : (before : List (LocalMember U)) (ks : List Kind) → Reads (local_step before) (mark "}" ks) none ks
unfolding until_step
local_close before ks = bind_reads _ (eat_yes "}" _ ks refl) (choose-true _ refl (pure-reads none ks))

plain_back : (xs : List (LocalMember U)) → Every PlainMember xs → (before : List (LocalMember U)) (rest ks : List Kind) (ys : List (LocalMember U)) → Back local_step rest 1 (before ++ xs) ks ys
    → Back local_step rest 1 before (each local_member_tokens xs ks) (xs ++ ys)
unfolding each
plain_back [] every-none before rest ks ys b = rw (append-nil before) at b
plain_back (x ∷ xs) (every_more g q) before rest ks ys b =
    let ls = each local_member_tokens xs ks in
    let l = plain-longer g ls in
    let less : length ls + 1 < length (local_member_tokens x ls) + 1 = omega arith in
    turn 1 ls (local-step before x _ ls (plain-begins g ls) (local_reads before x g ls)) less (plain_back xs q (before ++ x ∷ []) rest ks ys (rw (append_snoc before x xs) b))

module _ (ps : List (TokenPrecDeclaration U)) (rs : List (RuleDeclaration U)) where
  abbrev pub plain_members : List (LocalMember U)
  plain_members = map LocalMember.precedence ps ++ map LocalMember.rule rs

  plain-written : (ks : List Kind) → each local_member_tokens plain_members ks ≡ each token_prec_tokens ps (each rule_tokens rs ks)
  plain-written ks =
      rw (
        each_append local_member_tokens (map LocalMember.precedence ps) (map LocalMember.rule rs) ks,
        each_map local_member_tokens LocalMember.rule rs ks,
        each_map local_member_tokens LocalMember.precedence ps (each rule_tokens rs ks),
      )

  plain-every : Every GoodTokenPrec ps → Every (GoodRule Outer) rs → Every PlainMember plain_members
  plain-every a b = every_append (every_map LocalMember.precedence (λ x. plain_prec) a) (every_map LocalMember.rule (λ x. plain-rule) b)

  plain-fallback : picked local_fallback plain_members ≡ []
  plain-fallback =
      picked-append local_fallback (map LocalMember.precedence ps) (map LocalMember.rule rs)
      ∙ rw (picked_no local_fallback LocalMember.precedence (λ x. refl) ps, picked_no local_fallback LocalMember.rule (λ x. refl) rs)

  abbrev pub fallback_members : Option (NamedNode U) → List (LocalMember U)
  fallback_members none = []
  fallback_members (some x) = LocalMember.fallback x ∷ []

  local_split : {A : Type 0} (p : LocalMember U → Option A) (o : Option (NamedNode U))
      → picked p (plain_members ++ fallback_members o) ≡ (picked p (map LocalMember.precedence ps) ++ picked p (map LocalMember.rule rs)) ++ picked p (fallback_members o)
  local_split p o = picked-append p plain_members (fallback_members o) ∙ rw (picked-append p (map LocalMember.precedence ps) (map LocalMember.rule rs))

  pub local_precs : (o : Option (NamedNode U)) → picked local_precedence (plain_members ++ fallback_members o) ≡ ps
  unfolding picked
  local_precs o = local_split local_precedence o ∙ rw (picked_all local_precedence LocalMember.precedence (λ x. refl) ps, picked_no local_precedence LocalMember.rule (λ x. refl) rs, append-nil ps) (go o)
    where
      go : (o : Option (NamedNode U)) → ps ++ picked local_precedence (fallback_members o) ≡ ps
      go none = append-nil ps
      go (some x) = append-nil ps

  local_rules : (o : Option (NamedNode U)) → picked local_rule (plain_members ++ fallback_members o) ≡ rs
  unfolding picked
  local_rules o = local_split local_rule o ∙ rw (picked_no local_rule LocalMember.precedence (λ x. refl) ps, picked_all local_rule LocalMember.rule (λ x. refl) rs) (go o)
    where
      go : (o : Option (NamedNode U)) → rs ++ picked local_rule (fallback_members o) ≡ rs
      go none = append-nil rs
      go (some x) = append-nil rs

  local_fallbacks : (o : Option (NamedNode U)) → picked local_fallback (plain_members ++ fallback_members o) ≡ picked local_fallback (fallback_members o)
  local_fallbacks o = local_split local_fallback o ∙ rw (picked_no local_fallback LocalMember.precedence (λ x. refl) ps, picked_no local_fallback LocalMember.rule (λ x. refl) rs)

  local-fallback : (o : Option (NamedNode U)) → first_element (picked local_fallback (plain_members ++ fallback_members o)) ≡ o
  unfolding picked
  local-fallback o = rw (local_fallbacks o) (go o)
    where
      go : (o : Option (NamedNode U)) → first_element (picked local_fallback (fallback_members o)) ≡ o
      go none = refl
      go (some x) = refl

  -- the fallback, which nothing like it came before, and the end
  local_end : (o : Option (NamedNode U)) → Found GoodNode o → (ks : List Kind) → Back local_step ks 1 plain_members (fallback_tokens o (mark "}" ks)) (fallback_members o)
  unfolding parse_local_member same
  local_end none found_none ks = over (local_close plain_members ks)
  local_end (some x) (found_some g) ks =
      let l = node-longer x (mark "}" ks) in
      let less : length (mark "}" ks) + 1 < length (at "else" (named_node_tokens x (mark "}" ks))) + 1 = omega arith in
      turn 1 (mark "}" ks) (local-step plain_members (LocalMember.fallback x) _ _ refl
      (bind_reads _ (kind-reads _ refl) (choose-false _ refl (bind_reads _ (eat_at_yes "else" _ _ refl) (choose-true _ (ap is_empty plain-fallback) (bind_reads _ (node-reads x g _ refl) (pure-reads _ _))))))) less
      (over (local_close _ ks))

  local_block : (o : Option (NamedNode U)) → Every GoodTokenPrec ps → Every (GoodRule Outer) rs → Found GoodNode o → (ks : List Kind)
      → Reads (expect "{" >> until (eat "}") nothing parse_local_member) (mark "{" (each token_prec_tokens ps (each rule_tokens rs (fallback_tokens o (mark "}" ks))))) (plain_members ++ fallback_members o) ks
  local_block o a b f ks =
      rw (← plain-written (fallback_tokens o (mark "}" ks))) (bind_reads _ (expect-reads "{" _ _ refl)
      (loop-reads local_step ks _ (plain_members ++ fallback_members o) (plain_back plain_members (plain-every a b) [] ks (fallback_tokens o (mark "}" ks)) (fallback_members o) (local_end o f ks))))

-- after `@local tokens`
pub local_tokens-reads : (x : LocalTokenDeclaration U) → Every GoodTokenPrec x.precedences → Every (GoodRule Outer) x.rules → Found GoodNode x.fallback → (ks : List Kind)
    → Reads (parse_local_tokens tt) (mark "{" (each token_prec_tokens x.precedences (each rule_tokens x.rules (fallback_tokens x.fallback (mark "}" ks))))) x ks
unfolding parse_local_tokens
local_tokens-reads x a b f ks =
    bind_reads _ (local_block x.precedences x.rules x.fallback a b f ks)
    (rw (local_precs x.precedences x.rules x.fallback, local_rules x.precedences x.rules x.fallback, local-fallback x.precedences x.rules x.fallback) (pure-reads _ ks))
