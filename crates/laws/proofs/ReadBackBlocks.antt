-- Scoped `@skip` and external blocks, written, are read back.
-- Assumes nothing.
use Prim.Native.Nat.{ℕ, ◌<◌}
use native.Mathlib.Omega.{arith}
use mathlib.Core.Path.{◌≡◌, refl, ap, sym, ◌∙◌}
use mathlib.Core.Bool.{Bool, true, false}
use mathlib.Core.List.{List, [], ◌∷◌, ◌++◌, map, append-nil}
use lib.ListN.{length}
use Rattle.basics.specs.Basics.{same, concat, first_element, picked}
use Rattle.basics.proofs.Lists.{picked-append}
use Rattle.lexer.specs.Tokens.{Kind}
use Rattle.tree.specs.Syntax.{Identifier, RuleDeclaration, NamedNode}
use Rattle.notation.specs.Parser.{◌>>◌, pure, choose, is_mark, eat, eat_at, expect, until, nothing}
use Rattle.notation.specs.Members.{SkipMember, skip_top_rule, skip_rule, ExternalMember, external_token, external_conflicts}
use Rattle.notation.specs.Declarations.{parse_external_member, parse_external_token_set, parse_skip_member}
use Rattle.spelling.specs.NormalText.{each, each_after, commas, mark, at, identifier, rule_tokens, top_rule_tokens, named_node_tokens, external_set_tokens}
use Rattle.laws.proofs.Fine.{U}
use Rattle.laws.proofs.Readable.{GoodName}
use Rattle.laws.proofs.MeetsExpressions.{GoodRule}
use Rattle.laws.proofs.Good.{Outer, GoodNode}
use Rattle.laws.proofs.ReadBack.{Reads, bind_reads, pure-reads, choose-true, choose-false, eat_at_yes, eat_at_no, expect-reads, each-reads}
use Rattle.laws.proofs.Follows.{Stops, stop_brace, stop_paren, stop_comma, stop_angle}
use Rattle.laws.proofs.ReadBackRules.{names-longer, rule-reads, rule-longer, braces-reads, names-reads, node-reads, node-longer, each_append, each_map, picked_all, picked_no}
use Rattle.laws.proofs.ReadBackTokens.{NoSquare}
use Rattle.laws.proofs.Every.{Every, every-none, every_more, every_map, every_append}

-- ------------------------------------------------------------------ scoped `@skip`

abbrev pub skip_member_tokens : SkipMember U → List Kind → List Kind
skip_member_tokens (SkipMember.top_rule x) ks = top_rule_tokens x ks
skip_member_tokens (SkipMember.rule x) ks = rule_tokens x ks

pub data GoodSkipMember : SkipMember U → Type 0 where
  good-skip-top : {x : RuleDeclaration U} → GoodRule Outer x → GoodSkipMember (SkipMember.top_rule x)
  good-skip-rule : {x : RuleDeclaration U} → GoodRule Outer x → GoodSkipMember (SkipMember.rule x)

skip-reads : (before : List (SkipMember U)) (m : SkipMember U) → GoodSkipMember m → (ks : List Kind) → Unit {0} → Reads (parse_skip_member before) (skip_member_tokens m ks) m ks
unfolding parse_skip_member same
skip-reads before m (good-skip-top g) ks u = bind_reads _ (eat_at_yes "top" _ _ refl) (bind_reads _ (rule-reads _ g ks) (pure-reads _ ks))
skip-reads before m (good-skip-rule g) ks u = bind_reads _ (eat_at_no "top" _ refl) (bind_reads _ (rule-reads _ g ks) (pure-reads _ ks))

skip-longer : (m : SkipMember U) (ks : List Kind) → length ks < length (skip_member_tokens m ks)
skip-longer (SkipMember.top_rule x) ks = let l = rule-longer x ks in omega arith
skip-longer (SkipMember.rule x) ks = rule-longer x ks

skip-begins : (m : SkipMember U) → GoodSkipMember m → (ks : List Kind) → is_mark "}" (first_element (skip_member_tokens m ks)) ≡ false
skip-begins m (good-skip-top g) ks = refl
skip-begins m (good-skip-rule g) ks = refl

module _ (ts rs : List (RuleDeclaration U)) where
  abbrev pub skip_members : List (SkipMember U)
  skip_members = map SkipMember.top_rule ts ++ map SkipMember.rule rs

  skip-written : (ks : List Kind) → each skip_member_tokens skip_members ks ≡ each top_rule_tokens ts (each rule_tokens rs ks)
  skip-written ks =
      rw (each_append skip_member_tokens (map SkipMember.top_rule ts) (map SkipMember.rule rs) ks, each_map skip_member_tokens SkipMember.rule rs ks, each_map skip_member_tokens SkipMember.top_rule ts (each rule_tokens rs ks))

  skip-every : Every (GoodRule Outer) ts → Every (GoodRule Outer) rs → Every GoodSkipMember skip_members
  skip-every a b = every_append (every_map SkipMember.top_rule (λ x. good-skip-top) a) (every_map SkipMember.rule (λ x. good-skip-rule) b)

  pub skip-tops : picked skip_top_rule skip_members ≡ ts
  skip-tops =
      picked-append skip_top_rule (map SkipMember.top_rule ts) (map SkipMember.rule rs)
      ∙ rw (picked_all skip_top_rule SkipMember.top_rule (λ x. refl) ts, picked_no skip_top_rule SkipMember.rule (λ x. refl) rs, append-nil ts)

  pub skip-rules : picked skip_rule skip_members ≡ rs
  skip-rules =
      picked-append skip_rule (map SkipMember.top_rule ts) (map SkipMember.rule rs) ∙ rw (picked_no skip_rule SkipMember.top_rule (λ x. refl) ts, picked_all skip_rule SkipMember.rule (λ x. refl) rs)

  pub skip_block : Every (GoodRule Outer) ts → Every (GoodRule Outer) rs → (ks : List Kind)
      → Reads (expect "{" >> until (eat "}") nothing parse_skip_member) (mark "{" (each top_rule_tokens ts (each rule_tokens rs (mark "}" ks)))) skip_members ks
  skip_block a b ks =
      rw (← skip-written (mark "}" ks)) (bind_reads _ (expect-reads "{" _ _ refl)
      (each-reads "}" refl GoodSkipMember skip_member_tokens parse_skip_member skip-begins skip-longer (λ ks. Unit {0}) (λ ks. tt) (λ m g ks. tt) skip-reads skip_members (skip-every a b) ks))

-- ------------------------------------------------------------------ external blocks

abbrev pub external_member_tokens : ExternalMember U → List Kind → List Kind
external_member_tokens (ExternalMember.token x) ks = named_node_tokens x ks
external_member_tokens (ExternalMember.conflicts ns) ks = at "conflict" (mark "{" (commas identifier ns (mark "}" ks)))

-- lists of conflicts stand only where they are allowed
pub data GoodExternalMember (allowed : Bool) : ExternalMember U → Type 0 where
  good-external-node : {x : NamedNode U} → GoodNode x → GoodExternalMember allowed (ExternalMember.token x)
  good-external-names : {ns : List (Identifier U)} → allowed ≡ true → Every GoodName ns → GoodExternalMember allowed (ExternalMember.conflicts ns)

stops_square : {ks : List Kind} → Stops ks → NoSquare ks
stops_square stop_brace = refl
stops_square stop_paren = refl
stops_square stop_comma = refl
stops_square stop_angle = refl

no_conflict : (allowed : Bool) (t : List ℕ) (ks : List Kind) → Reads (choose allowed (eat_at "conflict") (pure false)) (Kind.name t ∷ ks) false (Kind.name t ∷ ks)
no_conflict true t ks = choose-true _ refl (eat_at_no "conflict" _ refl)
no_conflict false t ks = choose-false _ refl (pure-reads false _)

external-reads : (allowed : Bool) (before : List (ExternalMember U)) (m : ExternalMember U) → GoodExternalMember allowed m → (ks : List Kind) → Stops ks
    → Reads (parse_external_member allowed before) (external_member_tokens m ks) m ks
unfolding parse_external_member same
external-reads allowed before m (good-external-node g) ks z = bind_reads _ (no_conflict allowed _ _) (choose-false _ refl (bind_reads _ (node-reads _ g ks (stops_square z)) (pure-reads _ ks)))
external-reads allowed before m (good-external-names e g) ks z = bind_reads _ (choose-true _ e (eat_at_yes "conflict" _ _ refl)) (choose-true _ refl (bind_reads _ (names-reads _ g ks) (pure-reads _ ks)))

external-begins : (allowed : Bool) (m : ExternalMember U) → GoodExternalMember allowed m → (ks : List Kind) → is_mark "}" (first_element (external_member_tokens m ks)) ≡ false
external-begins allowed m (good-external-node g) ks = refl
external-begins allowed m (good-external-names e g) ks = refl

pub external-longer : (m : ExternalMember U) (ks : List Kind) → length ks < length (external_member_tokens m ks)
external-longer (ExternalMember.token x) ks = node-longer x ks
external-longer (ExternalMember.conflicts []) ks = omega arith
external-longer (ExternalMember.conflicts (n ∷ ns)) ks = let l = names-longer ns (mark "}" ks) in omega arith

abbrev pub conflict_members : List (Identifier U) → List (ExternalMember U)
conflict_members [] = []
conflict_members (n ∷ ns) = ExternalMember.conflicts (n ∷ ns) ∷ []

abbrev pub external_members : List (NamedNode U) → List (Identifier U) → List (ExternalMember U)
external_members xs ns = map ExternalMember.token xs ++ conflict_members ns

nodes-after : (xs : List (NamedNode U)) (ms : List (ExternalMember U)) (ks : List Kind) → each_after external_member_tokens (map ExternalMember.token xs ++ ms) ks ≡ each_after named_node_tokens xs (each_after external_member_tokens ms ks)
unfolding each_after
nodes-after [] ms ks = refl
nodes-after (x ∷ xs) ms ks = ap (λ l. mark "," (named_node_tokens x l)) (nodes-after xs ms ks)

pub external-written : (xs : List (NamedNode U)) (ns : List (Identifier U)) (ks : List Kind) → external_set_tokens xs ns ks ≡ mark "{" (commas external_member_tokens (external_members xs ns) (mark "}" ks))
unfolding each_after
external-written [] [] ks = refl
external-written (x ∷ xs) [] ks = ap (λ l. mark "{" (named_node_tokens x l)) (sym (nodes-after xs [] (mark "}" ks)))
external-written [] (n ∷ ns) ks = refl
external-written (x ∷ xs) (n ∷ ns) ks = ap (λ l. mark "{" (named_node_tokens x l)) (sym (nodes-after xs (ExternalMember.conflicts (n ∷ ns) ∷ []) (mark "}" ks)))

pub external-every : (allowed : Bool) (xs : List (NamedNode U)) (ns : List (Identifier U)) → (ns ≡ [] → ⊥) → allowed ≡ true → Every GoodNode xs → Every GoodName ns → Every (GoodExternalMember allowed) (external_members xs ns)
external-every allowed xs [] h e a b = absurd (h refl)
external-every allowed xs (n ∷ ns) h e a b = every_append (every_map ExternalMember.token (λ x. good-external-node) a) (every_more (good-external-names e b) every-none)

pub nodes-every : (allowed : Bool) (xs : List (NamedNode U)) → Every GoodNode xs → Every (GoodExternalMember allowed) (external_members xs [])
nodes-every allowed xs a = every_append (every_map ExternalMember.token (λ x. good-external-node) a) every-none

pub external-nodes : (xs : List (NamedNode U)) (ns : List (Identifier U)) → picked external_token (external_members xs ns) ≡ xs
unfolding picked
external-nodes xs ns = picked-append external_token (map ExternalMember.token xs) (conflict_members ns) ∙ rw (picked_all external_token ExternalMember.token (λ x. refl) xs) (go ns)
  where
    go : (ns : List (Identifier U)) → xs ++ picked external_token (conflict_members ns) ≡ xs
    go [] = append-nil xs
    go (n ∷ ns) = append-nil xs

external-lists : (xs : List (NamedNode U)) (ns : List (Identifier U)) → picked external_conflicts (external_members xs ns) ≡ picked external_conflicts (conflict_members ns)
external-lists xs ns = picked-append external_conflicts (map ExternalMember.token xs) (conflict_members ns) ∙ rw (picked_no external_conflicts ExternalMember.token (λ x. refl) xs)

pub external-names : (xs : List (NamedNode U)) (ns : List (Identifier U)) → concat (picked external_conflicts (external_members xs ns)) ≡ ns
unfolding concat picked
external-names xs ns = rw (external-lists xs ns) (go ns)
  where
    go : (ns : List (Identifier U)) → concat (picked external_conflicts (conflict_members ns)) ≡ ns
    go [] = refl
    go (n ∷ ns) = append-nil (n ∷ ns)

pub external-set : (allowed : Bool) (xs : List (NamedNode U)) (ns : List (Identifier U)) → Every (GoodExternalMember allowed) (external_members xs ns) → (ks : List Kind)
    → Reads (parse_external_token_set allowed) (external_set_tokens xs ns ks) (external_members xs ns) ks
unfolding parse_external_token_set
external-set allowed xs ns g ks =
    rw (external-written xs ns ks) (braces-reads (GoodExternalMember allowed) external_member_tokens (parse_external_member allowed) (external-begins allowed) external-longer (external-reads allowed) (external_members xs ns) g ks)
