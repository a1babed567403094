-- The declarations of a good grammar, written one after another, are read back, and so is the grammar.
-- Assumes nothing.
use Prim.Native.Nat.{ℕ, ◌+◌, ◌<◌}
use Prim.Native.String.{String}
use native.Mathlib.Omega.{arith}
use mathlib.Core.Path.{◌≡◌, refl, ap, ◌∙◌}
use mathlib.Core.Bool.{Bool, true, false, not}
use mathlib.Core.List.{List, [], ◌∷◌, ◌++◌, map, append-nil}
use mathlib.Core.Option.{Option, none, some}
use lib.ListN.{length, length-append}
use lib.Seq.{append_snoc}
use Rattle.basics.specs.Basics.{same, concat, last_of, first_element, is_empty, picked}
use Rattle.basics.proofs.Tests.{impossible, clash}
use Rattle.basics.proofs.Lists.{picked-append}
use Rattle.lexer.specs.Tokens.{Kind}
use Rattle.tree.specs.Syntax.{Identifier, Expression, SpecializeKind, extend, specialize, RuleDeclaration, NamedNode, ContextDeclaration, ExternalTokenDeclaration, ExternalSpecializeDeclaration, ExternalPropSourceDeclaration, ExternalPropDeclaration, PrecDeclaration, ScopedSkipDeclaration, PrecKind, left, right, cut, PrecItem, Declaration, top_rule, rule, tokens, local_tokens, context, external_tokens, external_specializer, external_prop_source, precedences, main_skip, scoped_skip, GrammarDeclaration, grouped}
use Rattle.notation.specs.Parser.{Parser, ◌>>=◌, pure, kind, is_end, is_mark, at_in, says, expect_string, until_step, nothing}
use Rattle.notation.specs.Members.{Member, declaration, dialects, external_prop, detect_delim, declared, declared_dialects, declared_prop, detects}
use Rattle.notation.specs.Declarations.{parse_source, parse_external_tokens, parse_external_specializer, parse_external_prop_source, parse_external_prop, external_by, parse_external_declaration, parse_prec_kind, parse_prec_item, parse_precedence, seen, parse_context_declaration, parse_skip_declaration, top_by, parse_directive, declaration_by, parse_declaration, has_top, grammar_of, parse}
use Rattle.spelling.specs.Spelling.{quoted}
use Rattle.spelling.specs.NormalText.{each, commas, mark, at, word, string, identifier, specialize_word, prec_tokens, from_tokens, body_tokens, top_rule_tokens, prec_item_tokens, external_set_tokens, declaration_tokens, external_prop_tokens}
use Rattle.spelling.proofs.Back.{decode_back}
use Rattle.laws.proofs.Fine.{U}
use Rattle.laws.proofs.Readable.{GoodName}
use Rattle.laws.proofs.MeetsExpressions.{GoodRule}
use Rattle.laws.proofs.Appends.{Adds, declaration-adds, dialects-adds, external_prop-adds}
use Rattle.laws.proofs.Good.{Outer, GoodNode, GoodPrecItem, GoodDeclaration, good-top, good-rule, good-tokens, good_local, good-context, good-external, good_specializer, good-prop-source, good-precedences, good-skip, good_scoped, Singles, GoodGrammar}
use Rattle.laws.proofs.Groups.{Fresh, singles_fresh}
use Rattle.laws.proofs.ReadBack.{Reads, bind_reads, pure-reads, choose-true, choose-false, here_reads, kind-reads, arrive-reads, next-reads, eat_name_yes, eat_at_yes, eat_at_no, expect_name-reads, expect_string-reads, parse_identifier-reads, Back, over, turn, loop-reads}
use Rattle.laws.proofs.Follows.{Stops, stop_brace, stop_paren, stop_comma, stop_angle}
use Rattle.laws.proofs.ReadBackRules.{outer_braced, names-reads, rule-reads, picked_all, picked_no, braces-reads}
use Rattle.laws.proofs.ReadBackTokens.{tokens-reads, local_tokens-reads, apart}
use Rattle.laws.proofs.ReadBackBlocks.{skip_block, skip-tops, skip-rules, GoodExternalMember, external_members, external-every, nodes-every, external-nodes, external-names, external-set}
use Rattle.laws.proofs.Every.{Every, every-none, every_more}

-- ------------------------------------------------------------------ sources and precedences

quoted-reads : (s : List ℕ) (ks : List Kind) → Reads expect_string (string s ks) s ks
quoted-reads s ks = rw (decode_back s) at (expect_string-reads (quoted s) ks)

source-reads : (s : List ℕ) (ks : List Kind) → Reads parse_source (word "from" (string s ks)) s ks
unfolding parse_source same
source-reads s ks = bind_reads _ (expect_name-reads "from" _ _ refl) (quoted-reads s ks)

-- after a name's associativity: no keyword
no_keyword : (s : String) {ks : List Kind} → Stops ks → says s (at_in (first_element ks)) ≡ false
no_keyword s stop_brace = refl
no_keyword s stop_paren = refl
no_keyword s stop_comma = refl
no_keyword s stop_angle = refl

prec_kind-reads : (k : Option PrecKind) (ks : List Kind) → Stops ks → Reads parse_prec_kind (prec_tokens k ks) k ks
unfolding parse_prec_kind same
prec_kind-reads none ks z =
    bind_reads _ (eat_at_no "left" ks (no_keyword "left" z)) (choose-false _ refl (bind_reads _ (eat_at_no "right" ks (no_keyword "right" z)) (choose-false _ refl
    (bind_reads _ (eat_at_no "cut" ks (no_keyword "cut" z)) (choose-false _ refl (pure-reads none ks))))))
prec_kind-reads (some left) ks z = bind_reads _ (eat_at_yes "left" _ ks refl) (choose-true _ refl (pure-reads _ ks))
prec_kind-reads (some right) ks z = bind_reads _ (eat_at_no "left" _ refl) (choose-false _ refl (bind_reads _ (eat_at_yes "right" _ ks refl) (choose-true _ refl (pure-reads _ ks))))
prec_kind-reads (some cut) ks z =
    bind_reads _ (eat_at_no "left" _ refl) (choose-false _ refl (bind_reads _ (eat_at_no "right" _ refl) (choose-false _ refl (bind_reads _ (eat_at_yes "cut" _ ks refl) (choose-true _ refl (pure-reads _ ks))))))

prec_item-reads : (x : PrecItem U) (ks : List Kind) → Stops ks → Reads parse_prec_item (prec_item_tokens x ks) x ks
unfolding parse_prec_item
prec_item-reads x ks z = bind_reads _ (parse_identifier-reads x.id _) (bind_reads _ (prec_kind-reads x.kind ks z) (pure-reads _ ks))

prec_item-longer : (x : PrecItem U) (ks : List Kind) → length ks < length (prec_item_tokens x ks)
prec_item-longer x ks = go x.kind
  where
    go : (k : Option PrecKind) → length ks < length (identifier x.id (prec_tokens k ks))
    go none = omega arith
    go (some left) = omega arith
    go (some right) = omega arith
    go (some cut) = omega arith

-- ------------------------------------------------------------------ one declaration

-- a member that is written: a declaration, a list of dialects that is not empty, an external prop, or `@detectDelim`
abbrev pub member_tokens : Member U → List Kind → List Kind
member_tokens (declaration d) ks = declaration_tokens d ks
member_tokens (dialects ns) ks = at "dialects" (mark "{" (commas identifier ns (mark "}" ks)))
member_tokens (external_prop x) ks = external_prop_tokens x ks
member_tokens detect_delim ks = at "detectDelim" ks

-- no brace follows
abbrev NoBrace : List Kind → Type 0
NoBrace ks = is_mark "{" (first_element ks) ≡ false

specializer_reads : (x : ExternalSpecializeDeclaration U) → GoodDeclaration (external_specializer x) → (before : List (Member U)) (ks : List Kind)
    → Reads (parse_declaration before) (declaration_tokens (external_specializer x) ks) (declaration (external_specializer x)) ks
unfolding parse_declaration declaration_by parse_directive parse_external_declaration external_by parse_external_specializer declaration_tokens same
specializer_reads x (good_specializer r g a) before ks = go x.kind refl
  where
    rest : (k : SpecializeKind) → Reads (parse_external_specializer tt k) (body_tokens x.token (from_tokens x.id x.source (external_set_tokens x.tokens [] ks))) (external_specializer (record { start = tt; kind = k; token = x.token; id = x.id; source = x.source; tokens = x.tokens })) ks
    rest k =
        bind_reads _ (outer_braced x.token r _) (bind_reads _ (parse_identifier-reads (record { start = tt; name = x.id }) _) (bind_reads _ (source-reads x.source _)
        (bind_reads _ (external-set false x.tokens [] (nodes-every false x.tokens a) ks) (rw (external-nodes x.tokens []) (pure-reads _ ks)))))

    go : (k : SpecializeKind) → x.kind ≡ k → Reads (parse_declaration before) (at "external" (word (specialize_word k) (body_tokens x.token (from_tokens x.id x.source (external_set_tokens x.tokens [] ks))))) (declaration (external_specializer (record { start = tt; kind = k; token = x.token; id = x.id; source = x.source; tokens = x.tokens }))) ks
    go extend e = bind_reads _ (here_reads _) (bind_reads _ (kind-reads _ refl) (bind_reads _ (next-reads _ _) (bind_reads _ (kind-reads _ refl) (bind_reads _ (next-reads _ _) (bind_reads _ (rest extend) (pure-reads _ ks))))))
    go specialize e = bind_reads _ (here_reads _) (bind_reads _ (kind-reads _ refl) (bind_reads _ (next-reads _ _) (bind_reads _ (kind-reads _ refl) (bind_reads _ (next-reads _ _) (bind_reads _ (rest specialize) (pure-reads _ ks))))))

external-all : (xs : List (NamedNode U)) (ns : List (Identifier U)) → Every GoodNode xs → Every GoodName ns → Every (GoodExternalMember true) (external_members xs ns)
external-all xs [] a b = nodes-every true xs a
external-all xs (n ∷ ns) a b = external-every true xs (n ∷ ns) (λ e. impossible (cc)) refl a b

top-rule-reads : {r : RuleDeclaration U} → GoodRule Outer r → (before : List (Member U)) (ks : List Kind) → Reads (parse_declaration before) (top_rule_tokens r ks) (declaration (top_rule r)) ks
unfolding parse_declaration declaration_by parse_directive top_by same
top-rule-reads g before ks =
    bind_reads _ (here_reads _) (bind_reads _ (kind-reads _ refl) (bind_reads _ (next-reads _ _) (bind_reads _ (bind_reads _ (kind-reads _ refl) (bind_reads _ (rule-reads _ g ks) (pure-reads _ ks))) (pure-reads _ ks))))

context-reads : (x : ContextDeclaration U) (before : List (Member U)) → seen 14 before ≡ false → (ks : List Kind) → Reads (parse_declaration before) (declaration_tokens (context x) ks) (declaration (context x)) ks
unfolding parse_declaration declaration_by parse_directive parse_context_declaration declaration_tokens same
context-reads x before n ks =
    bind_reads _ (here_reads _) (bind_reads _ (kind-reads _ refl) (bind_reads _ (next-reads _ _) (bind_reads _ (choose-false _ n
    (bind_reads _ (parse_identifier-reads (record { start = tt; name = x.id }) _) (bind_reads _ (source-reads x.source ks) (pure-reads _ ks)))) (pure-reads _ ks))))

external-tokens-reads : (x : ExternalTokenDeclaration U) → Every GoodNode x.tokens → Every GoodName x.conflicts → (before : List (Member U)) (ks : List Kind)
    → Reads (parse_declaration before) (declaration_tokens (external_tokens x) ks) (declaration (external_tokens x)) ks
unfolding parse_declaration declaration_by parse_directive parse_external_declaration external_by parse_external_tokens declaration_tokens same
external-tokens-reads x a b before ks =
    bind_reads _ (here_reads _) (bind_reads _ (kind-reads _ refl) (bind_reads _ (next-reads _ _) (bind_reads _ (kind-reads _ refl) (bind_reads _ (next-reads _ _) (bind_reads _
    (bind_reads _ (parse_identifier-reads (record { start = tt; name = x.id }) _) (bind_reads _ (source-reads x.source _) (bind_reads _ (external-set true x.tokens x.conflicts (external-all x.tokens x.conflicts a b) ks)
    (rw (external-nodes x.tokens x.conflicts, external-names x.tokens x.conflicts) (pure-reads _ ks))))) (pure-reads _ ks))))))

prop-source-reads : (x : ExternalPropSourceDeclaration U) (before : List (Member U)) (ks : List Kind) → Reads (parse_declaration before) (declaration_tokens (external_prop_source x) ks) (declaration (external_prop_source x)) ks
unfolding parse_declaration declaration_by parse_directive parse_external_declaration external_by parse_external_prop_source declaration_tokens same
prop-source-reads x before ks =
    bind_reads _ (here_reads _) (bind_reads _ (kind-reads _ refl) (bind_reads _ (next-reads _ _) (bind_reads _ (kind-reads _ refl) (bind_reads _ (next-reads _ _) (bind_reads _
    (bind_reads _ (parse_identifier-reads (record { start = tt; name = x.id }) _) (bind_reads _ (source-reads x.source ks) (pure-reads _ ks))) (pure-reads _ ks))))))

precedences-reads : (x : PrecDeclaration U) → Every GoodPrecItem x.items → (ks : List Kind) → Reads parse_precedence (declaration_tokens (precedences x) ks) x ks
unfolding parse_precedence declaration_tokens
precedences-reads x g ks =
    bind_reads _ (here_reads _) (bind_reads _ (next-reads _ _) (bind_reads _
    (braces-reads GoodPrecItem prec_item_tokens (λ _. parse_prec_item) (λ y g ks. refl) prec_item-longer (λ before y g ks z. prec_item-reads y ks z) x.items g ks) (pure-reads _ ks)))

main_skip-reads : (e : Expression U) → Outer e → (before : List (Member U)) → seen 22 before ≡ false → (ks : List Kind) → NoBrace ks
    → Reads (parse_declaration before) (declaration_tokens (main_skip e) ks) (declaration (main_skip e)) ks
unfolding parse_declaration declaration_by parse_directive parse_skip_declaration declaration_tokens same
main_skip-reads e r before n ks h =
    bind_reads _ (here_reads _) (bind_reads _ (kind-reads _ refl) (bind_reads _ (next-reads _ _) (bind_reads _
    (bind_reads _ (outer_braced e r ks) (bind_reads _ (kind-reads ks refl) (choose-false _ h (choose-false _ n (pure-reads _ ks))))) (pure-reads _ ks))))

scoped_skip-reads : (x : ScopedSkipDeclaration U) → Outer x.expression → Every (GoodRule Outer) x.top_rules → Every (GoodRule Outer) x.rules → (before : List (Member U)) (ks : List Kind)
    → Reads (parse_declaration before) (declaration_tokens (scoped_skip x) ks) (declaration (scoped_skip x)) ks
unfolding parse_declaration declaration_by parse_directive parse_skip_declaration declaration_tokens same
scoped_skip-reads x r a b before ks =
    bind_reads _ (here_reads _) (bind_reads _ (kind-reads _ refl) (bind_reads _ (next-reads _ _) (bind_reads _
    (bind_reads _ (outer_braced x.expression r _) (bind_reads _ (kind-reads _ refl) (choose-true _ refl (bind_reads _ (skip_block x.top_rules x.rules a b ks)
    (rw (skip-tops x.top_rules x.rules, skip-rules x.top_rules x.rules) (pure-reads _ ks)))))) (pure-reads _ ks))))

-- after `@`, the keyword's branch
declaration-reads : (d : Declaration U) → GoodDeclaration d → (before : List (Member U)) → Fresh (picked declared before) d → (ks : List Kind) → NoBrace ks
    → Reads (parse_declaration before) (declaration_tokens d ks) (declaration d) ks
unfolding parse_declaration declaration_by parse_directive declaration_tokens same
declaration-reads d (good-top g) before f ks h = top-rule-reads g before ks
declaration-reads d (good-rule g) before f ks h = bind_reads _ (here_reads _) (bind_reads _ (kind-reads _ refl) (bind_reads _ (rule-reads _ g ks) (pure-reads _ ks)))
declaration-reads d (good-tokens {x} a b c e) before f ks h =
    bind_reads _ (here_reads _) (bind_reads _ (kind-reads _ refl) (choose-false _ (f.unseen refl) (bind_reads _ (tokens-reads x a b c e ks) (pure-reads _ ks))))
declaration-reads d (good_local {x} a b c) before f ks h =
    bind_reads _ (here_reads _) (bind_reads _ (kind-reads _ refl) (bind_reads _ (next-reads _ _) (bind_reads _ (expect_name-reads "tokens" _ _ refl) (bind_reads _ (local_tokens-reads x a b c ks) (pure-reads _ ks)))))
declaration-reads d (good-context {x} g) before f ks h = context-reads x before (f.unseen refl) ks
declaration-reads d (good-external {x} g a b) before f ks h = external-tokens-reads x a b before ks
declaration-reads d (good_specializer {x} r g a) before f ks h = specializer_reads x (good_specializer r g a) before ks
declaration-reads d (good-prop-source {x} g) before f ks h = prop-source-reads x before ks
declaration-reads d (good-precedences {x} g) before f ks h =
    bind_reads _ (here_reads _) (bind_reads _ (kind-reads _ refl) (choose-false _ (f.unseen refl) (bind_reads _ (precedences-reads x g ks) (pure-reads _ ks))))
declaration-reads d (good-skip {e} r) before f ks h = main_skip-reads e r before (f.unseen refl) ks h
declaration-reads d (good_scoped {x} r a b) before f ks h = scoped_skip-reads x r a b before ks

external-prop-reads : (x : ExternalPropDeclaration U) (before : List (Member U)) (ks : List Kind) → Reads (parse_declaration before) (external_prop_tokens x ks) (external_prop x) ks
unfolding parse_declaration declaration_by parse_directive parse_external_declaration external_by parse_external_prop external_prop_tokens same
external-prop-reads x before ks =
    bind_reads _ (here_reads _) (bind_reads _ (kind-reads _ refl) (bind_reads _ (next-reads _ _) (bind_reads _ (kind-reads _ refl) (bind_reads _ (next-reads _ _) (bind_reads _
    (bind_reads _ (parse_identifier-reads x.external_id _) (bind_reads _ (eat_name_yes "as" _ _ refl) (bind_reads _ (choose-true _ refl (parse_identifier-reads (record { start = tt; name = x.id }) _))
    (bind_reads _ (source-reads x.source ks) (pure-reads _ ks))))) (pure-reads _ ks))))))

-- ------------------------------------------------------------------ all of them

-- what may come after those before
abbrev FitsAfter : List (Declaration U) → Member U → Type 0
FitsAfter ds (declaration d) = GoodDeclaration d × Fresh ds d
FitsAfter ds (dialects ns) = Every GoodName ns
FitsAfter ds (external_prop x) = Unit {0}
FitsAfter ds detect_delim = Unit {0}

member_reads : (m : Member U) (before : List (Member U)) → FitsAfter (picked declared before) m → (ks : List Kind) → NoBrace ks → Reads (parse_declaration before) (member_tokens m ks) m ks
unfolding parse_declaration declaration_by parse_directive same
member_reads (declaration d) before f ks h = declaration-reads d f.0 before f.1 ks h
member_reads (dialects ns) before f ks h = bind_reads _ (here_reads _) (bind_reads _ (kind-reads _ refl) (bind_reads _ (next-reads _ _) (bind_reads _ (names-reads ns f ks) (pure-reads _ ks))))
member_reads (external_prop x) before f ks h = external-prop-reads x before ks
member_reads detect_delim before f ks h = bind_reads _ (here_reads _) (bind_reads _ (kind-reads _ refl) (bind_reads _ (next-reads _ ks) (pure-reads _ ks)))

-- each begins with a keyword or a name
pub member_begins : (m : Member U) (ks : List Kind) → (is_end (first_element (member_tokens m ks)) ≡ false) × NoBrace (member_tokens m ks)
unfolding declaration_tokens external_prop_tokens
member_begins (declaration (top_rule r)) ks = (refl, refl)
member_begins (declaration (rule r)) ks = (refl, refl)
member_begins (declaration (tokens x)) ks = (refl, refl)
member_begins (declaration (local_tokens x)) ks = (refl, refl)
member_begins (declaration (context x)) ks = (refl, refl)
member_begins (declaration (external_tokens x)) ks = (refl, refl)
member_begins (declaration (external_specializer x)) ks = (refl, refl)
member_begins (declaration (external_prop_source x)) ks = (refl, refl)
member_begins (declaration (precedences x)) ks = (refl, refl)
member_begins (declaration (main_skip e)) ks = (refl, refl)
member_begins (declaration (scoped_skip x)) ks = (refl, refl)
member_begins (dialects ns) ks = (refl, refl)
member_begins (external_prop x) ks = (refl, refl)
member_begins detect_delim ks = (refl, refl)

-- each puts at least one token in front
adds-longer : {f : List Kind → List Kind} → Adds f → is_end (first_element (f [])) ≡ false → (ks : List Kind) → length ks < length (f ks)
adds-longer {f} a h ks = rw (a.on [] ks, length-append (f []) ks) (go (f []) h)
  where
    go : (ls : List Kind) → is_end (first_element ls) ≡ false → length ks < length ls + length ks
    go [] h = clash _ refl h
    go (l ∷ ls) h = omega arith

pub member_adds : (m : Member U) → Adds (member_tokens m)
member_adds (declaration d) = declaration-adds d
member_adds (dialects ns) = dialects-adds ns
member_adds (external_prop x) = external_prop-adds x
member_adds detect_delim = record { on = λ ks ls. refl }

member_longer : (m : Member U) (ks : List Kind) → length ks < length (member_tokens m ks)
member_longer m ks = adds-longer (member_adds m) (member_begins m []).0 ks

-- members that may come one after another
data AllFit : List (Member U) → List (Member U) → Type 0 where
  fit_none : {before : List (Member U)} → AllFit before []
  fit_more : {before : List (Member U)} {m : Member U} {ms : List (Member U)} → FitsAfter (picked declared before) m → AllFit (before ++ m ∷ []) ms → AllFit before (m ∷ ms)

abbrev step : List (Member U) → Parser U (Option (Member U))
step = until_step (kind >>= λ k. pure (is_end k)) nothing parse_declaration

next-brace : (ms : List (Member U)) → NoBrace (each member_tokens ms [])
unfolding each
next-brace [] = refl
next-brace (m ∷ ms) = (member_begins m _).1

members-back : (ms before : List (Member U)) → AllFit before ms → Back step [] 1 before (each member_tokens ms []) ms
unfolding each until_step
members-back [] before fit_none = over (bind_reads _ (bind_reads _ (kind-reads [] refl) (pure-reads true [])) (choose-true _ refl (pure-reads none [])))
members-back (m ∷ ms) before (fit_more f q) =
    let ls = each member_tokens ms [] in
    let l = member_longer m ls in
    let less : length ls + 1 < length (member_tokens m ls) + 1 = omega arith in
    turn 1 ls (bind_reads _ (bind_reads _ (kind-reads (member_tokens m ls) refl) (pure-reads _ _)) (choose-false _ (member_begins m ls).0 (bind_reads _ (apart before _) (bind_reads _ (member_reads m before f ls (next-brace ms)) (pure-reads (some m) ls))))) less
    (members-back ms (before ++ m ∷ []) q)

-- ------------------------------------------------------------------ the grammar

abbrev pub dialect_members : List (Identifier U) → List (Member U)
dialect_members [] = []
dialect_members (n ∷ ns) = dialects (n ∷ ns) ∷ []

abbrev pub detect_members : Bool → List (Member U)
detect_members false = []
detect_members true = detect_delim ∷ []

-- what a grammar is written as
abbrev pub members : GrammarDeclaration U → List (Member U)
members g = map declaration g.declarations ++ (dialect_members g.dialects ++ (map external_prop g.external_props ++ detect_members g.auto_delimiters))

-- what comes after the declarations may come after anything
tail-fits : (g : GrammarDeclaration U) → Every GoodName g.dialects → (before : List (Member U)) → AllFit before (dialect_members g.dialects ++ (map external_prop g.external_props ++ detect_members g.auto_delimiters))
tail-fits g n before = first g.dialects n before
  where
    third : (b : Bool) (before : List (Member U)) → AllFit before (detect_members b)
    third false before = fit_none
    third true before = fit_more tt fit_none

    second : (xs : List (ExternalPropDeclaration U)) (before : List (Member U)) → AllFit before (map external_prop xs ++ detect_members g.auto_delimiters)
    second [] before = third g.auto_delimiters before
    second (x ∷ xs) before = fit_more tt (second xs (before ++ external_prop x ∷ []))

    first : (ns : List (Identifier U)) → Every GoodName ns → (before : List (Member U)) → AllFit before (dialect_members ns ++ (map external_prop g.external_props ++ detect_members g.auto_delimiters))
    first [] n before = second g.external_props before
    first (m ∷ ns) n before = fit_more n (second g.external_props (before ++ dialects (m ∷ ns) ∷ []))

map_one : (xs : List (Declaration U)) (x : Declaration U) → map declaration (xs ++ x ∷ []) ≡ map declaration xs ++ declaration x ∷ []
map_one [] x = refl
map_one (y ∷ ys) x = ap (λ l. declaration y ∷ l) (map_one ys x)

declarations_fit : (ds done : List (Declaration U)) (ms : List (Member U)) → Every GoodDeclaration ds → Singles (done ++ ds) → ((before : List (Member U)) → AllFit before ms)
    → AllFit (map declaration done) (map declaration ds ++ ms)
declarations_fit [] done ms every-none s t = t _
declarations_fit (d ∷ ds) done ms (every_more g q) s t =
    fit_more {before = map declaration done} {m = declaration d} {ms = map declaration ds ++ ms} (g, rw (picked_all declared declaration (λ x. refl) done) (singles_fresh done d ds s))
    (rw (← map_one done d) (declarations_fit ds (done ++ d ∷ []) ms q (rw (append_snoc done d ds) s) t))

members_fit : (g : GrammarDeclaration U) → GoodGrammar g → AllFit [] (members g)
members_fit g h = declarations_fit g.declarations [] _ h.declarations h.singles (tail-fits g h.dialects)

-- ------------------------------------------------------------------ and its tree again

module _ (ds : List (Declaration U)) (ns : List (Identifier U)) (xs : List (ExternalPropDeclaration U)) (b : Bool) where
  abbrev all : List (Member U)
  all = map declaration ds ++ (dialect_members ns ++ (map external_prop xs ++ detect_members b))

  split : {A : Type 0} (p : Member U → Option A)
      → picked p all ≡ picked p (map declaration ds) ++ (picked p (dialect_members ns) ++ (picked p (map external_prop xs) ++ picked p (detect_members b)))
  split p =
      rw (
        picked-append p (map declaration ds) (dialect_members ns ++ (map external_prop xs ++ detect_members b)),
        picked-append p (dialect_members ns) (map external_prop xs ++ detect_members b),
        picked-append p (map external_prop xs) (detect_members b),
      )

  all-declared : picked declared all ≡ ds
  unfolding picked
  all-declared = split declared ∙ rw (picked_all declared declaration (λ x. refl) ds, picked_no declared external_prop (λ x. refl) xs) (go ns b)
    where
      go : (ns : List (Identifier U)) (b : Bool) → ds ++ (picked declared (dialect_members ns) ++ ([] ++ picked declared (detect_members b))) ≡ ds
      go [] true = append-nil ds
      go [] false = append-nil ds
      go (m ∷ ms) true = append-nil ds
      go (m ∷ ms) false = append-nil ds

  all-lists : picked declared_dialects all ≡ picked declared_dialects (dialect_members ns)
  unfolding picked
  all-lists = split declared_dialects ∙ rw (picked_no declared_dialects declaration (λ x. refl) ds, picked_no declared_dialects external_prop (λ x. refl) xs) (go ns b)
    where
      go : (ns : List (Identifier U)) (b : Bool) → picked declared_dialects (dialect_members ns) ++ ([] ++ picked declared_dialects (detect_members b)) ≡ picked declared_dialects (dialect_members ns)
      go [] true = refl
      go [] false = refl
      go (m ∷ ms) true = refl
      go (m ∷ ms) false = refl

  all-dialects : concat (last_of (picked declared_dialects all)) ≡ ns
  unfolding concat last_of picked
  all-dialects = rw all-lists (go ns)
    where
      go : (ns : List (Identifier U)) → concat (last_of (picked declared_dialects (dialect_members ns))) ≡ ns
      go [] = refl
      go (m ∷ ms) = append-nil (m ∷ ms)

  all-props : picked declared_prop all ≡ xs
  unfolding picked
  all-props = split declared_prop ∙ rw (picked_no declared_prop declaration (λ x. refl) ds, picked_all declared_prop external_prop (λ x. refl) xs) (go ns b)
    where
      go : (ns : List (Identifier U)) (b : Bool) → picked declared_prop (dialect_members ns) ++ (xs ++ picked declared_prop (detect_members b)) ≡ xs
      go [] true = append-nil xs
      go [] false = append-nil xs
      go (m ∷ ms) true = append-nil xs
      go (m ∷ ms) false = append-nil xs

  all-detects : not (is_empty (picked detects all)) ≡ b
  unfolding picked
  all-detects = rw (split detects, picked_no detects declaration (λ x. refl) ds, picked_no detects external_prop (λ x. refl) xs) (go ns b)
    where
      go : (ns : List (Identifier U)) (b : Bool) → not (is_empty (picked detects (dialect_members ns) ++ ([] ++ picked detects (detect_members b)))) ≡ b
      go [] true = refl
      go [] false = refl
      go (m ∷ ms) true = refl
      go (m ∷ ms) false = refl

members-grammar : (g : GrammarDeclaration U) → grouped g.declarations ≡ g.declarations → grammar_of tt (members g) ≡ g
unfolding grammar_of
members-grammar g h =
    let ds = g.declarations in let ns = g.dialects in let xs = g.external_props in let b = g.auto_delimiters in
    rw (all-declared ds ns xs b, h, all-dialects ds ns xs b, all-props ds ns xs b, all-detects ds ns xs b)

-- a good grammar, written, is read back
pub parse-reads : (g : GrammarDeclaration U) → GoodGrammar g → Reads parse (each member_tokens (members g) []) g []
unfolding parse
parse-reads g h =
    bind_reads _ (arrive-reads _) (bind_reads _ (here_reads _) (bind_reads _ (loop-reads step [] _ (members g) (members-back (members g) [] (members_fit g h)))
    (choose-true _ (ap has_top (all-declared g.declarations g.dialects g.external_props g.auto_delimiters) ∙ h.top) (rw (members-grammar g h.grouped) (pure-reads g [])))))
