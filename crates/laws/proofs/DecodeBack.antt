-- A good grammar, stored, is decoded back.
-- Assumes nothing.
use Prim.Native.Nat.{ℕ}
use borrow.Author.Tests.{ne_eqb, not-true}
use mathlib.Core.Path.{◌≡◌, refl, ap, sym, ◌∙◌}
use mathlib.Core.Bool.{true, false, ◌||◌, not}
use mathlib.Core.List.{List, [], ◌∷◌, ◌++◌, map, append-nil}
use mathlib.Core.Option.{Option, none, some}
use lib.Dec.{eqb}
use Rattle.basics.specs.Basics.{if◌then◌otherwise◌, first_element}
use Rattle.basics.proofs.Tests.{clash}
use Rattle.characters.proofs.Chars.{Scalars, codes_all}
use Rattle.tree.specs.Records.{Branch, branch, Branches, []ᴮ, ◌∷ᴮ◌}
use Rattle.tree.specs.OneTree.{kind_of}
use Rattle.tree.specs.Stored.{valued, each, flag, prop_branch, expression_branch, name_branch, source_branch, rule_branch, reference_branch, token_prec_branch, token_conflict_branch, literal_branch, named_node_branch, fallback_branches, prec_value, prec_item_branch, declaration_branch, external_prop_branch, grammar_branch}
use Rattle.tree.specs.Syntax.{Identifier, Prop, RuleDeclaration, TokenReference, referred, TokenPrecDeclaration, TokenConflictDeclaration, LiteralDeclaration, NamedNode, TokenDeclaration, LocalTokenDeclaration, ExternalTokenDeclaration, ExternalSpecializeDeclaration, ExternalPropDeclaration, PrecDeclaration, ScopedSkipDeclaration, PrecKind, left, right, cut, PrecItem, Declaration, top_rule, rule, tokens, local_tokens, context, external_tokens, external_specializer, external_prop_source, precedences, main_skip, scoped_skip, GrammarDeclaration}
use Rattle.notation.specs.Limits.{levels}
use Rattle.notation.specs.Expressions.{reference_of}
use Rattle.laws.proofs.Starts.{on_identifier, on_prop, on_expression, on_rule, on_reference, on_token_prec, on_token_conflict, on_literal, on_named_node, on_fallback, on_prec_item, on_external_prop, on_declaration, on_grammar}
use Rattle.laws.proofs.Fine.{U}
use Rattle.laws.proofs.Readable.{GoodName, GoodProp}
use Rattle.laws.proofs.MeetsExpressions.{Found, found_none, found_some, GoodRule}
use Rattle.laws.proofs.Good.{Outer, GoodReference, GoodTokenPrec, GoodTokenConflict, GoodLiteral, GoodNode, GoodPrecItem, GoodSource, GoodExternalProp, GoodDeclaration, good-top, good-rule, good-tokens, good_local, good-context, good-external, good_specializer, good-prop-source, good-precedences, good-skip, good_scoped, GoodGrammar}
use Rattle.laws.proofs.Decode.{pick, prop_in, expression_in, expressions_in, name_in, source_in, rule_in, reference_in, token_prec_in, token_conflict_in, literal_in, node_in, prec_item_in, declaration_in, external_prop_in, declarations_in, grammar_in}
use Rattle.laws.proofs.DecodeBackExpressions.{zeroed, pick_same, pick_other, expressions-skip, flag-back, prop-back, Z, expression-first, pick-expression, specialize-back, item_back, expression-back}
use Rattle.laws.proofs.Every.{Every, every-none, every_more}

-- ------------------------------------------------------------------ rules and members of blocks

identifier-back : (k : ℕ) (n : Identifier U) → GoodName n → name_in (name_branch k (on_identifier zeroed n)) ≡ n
unfolding name_in
identifier-back k n g = rw (codes_all g.word.scalars)

rule-back : (k : ℕ) (r : RuleDeclaration U) → GoodRule Outer r → rule_in (rule_branch k (on_rule zeroed r)) ≡ r
unfolding rule_in pick
rule-back k r g =
    let ps = map (on_prop zeroed) r.props in
    let xs = map (on_identifier zeroed) r.params in
    let e = Z r.expression in
    rw (
      codes_all g.word.scalars,
      pick_same (on_prop zeroed) prop_branch 5 prop_in (λ x. refl) prop-back g.props (each (name_branch 4) xs (expression_branch e ∷ᴮ []ᴮ)),
      pick_other (name_branch 4) 5 prop_in (λ x. refl) xs (expression_branch e ∷ᴮ []ᴮ),
      pick-expression 5 prop_in refl e []ᴮ,
      pick_other prop_branch 4 name_in (λ x. refl) ps (each (name_branch 4) xs (expression_branch e ∷ᴮ []ᴮ)),
      pick_same (on_identifier zeroed) (name_branch 4) 4 name_in (λ x. refl) (identifier-back 4) g.params (expression_branch e ∷ᴮ []ᴮ),
      pick-expression 4 name_in refl e []ᴮ,
      expressions-skip prop_branch (λ x. refl) ps (each (name_branch 4) xs (expression_branch e ∷ᴮ []ᴮ)),
      expressions-skip (name_branch 4) (λ x. refl) xs (expression_branch e ∷ᴮ []ᴮ),
      expression-first e []ᴮ,
      expression-back levels r.expression g.body,
      append-nil r.props,
      append-nil r.params,
    )

referred-zeroed : (r : TokenReference U) → referred (on_reference zeroed r) ≡ Z (referred r)
unfolding on_reference on_expression
referred-zeroed (TokenReference.name p t es) = refl
referred-zeroed (TokenReference.literal p t) = refl

reference-in : (r : TokenReference U) → reference_in (referred r) ≡ r
unfolding reference_in reference_of
reference-in (TokenReference.name p t es) = refl
reference-in (TokenReference.literal p t) = refl

reference-item : (r : TokenReference U) → GoodReference r → expression_in (expression_branch (Z (referred r))) ≡ referred r
reference-item r g = item_back Outer (expression-back levels) g.item

none_in : expressions_in []ᴮ ≡ []
unfolding expression_in
none_in = refl

references-back : {rs : List (TokenReference U)} → Every GoodReference rs → map reference_in (expressions_in (each reference_branch (map (on_reference zeroed) rs) []ᴮ)) ≡ rs
unfolding each
references-back every-none = ap (map reference_in) none_in
references-back (every_more {x = r} {xs = rs} g q) =
    rw (referred-zeroed r, expression-first (Z (referred r)) (each reference_branch (map (on_reference zeroed) rs) []ᴮ), reference-item r g, reference-in r, references-back q)

precedence-back : (x : TokenPrecDeclaration U) → GoodTokenPrec x → token_prec_in (token_prec_branch (on_token_prec zeroed x)) ≡ x
unfolding token_prec_in
precedence-back x g = rw (references-back g.items)

conflict-back : (x : TokenConflictDeclaration U) → GoodTokenConflict x → token_conflict_in (token_conflict_branch (on_token_conflict zeroed x)) ≡ x
unfolding token_conflict_in
conflict-back x g =
    rw (
      referred-zeroed x.left,
      referred-zeroed x.right,
      expression-first (Z (referred x.left)) (expression_branch (Z (referred x.right)) ∷ᴮ []ᴮ),
      expression-first (Z (referred x.right)) []ᴮ,
      reference-item x.left g.left,
      reference-item x.right g.right,
      reference-in x.left,
      reference-in x.right,
    )

props-only : {ps : List (Prop U)} → Every GoodProp ps → pick 5 prop_in (each prop_branch (map (on_prop zeroed) ps) []ᴮ) ≡ ps
unfolding pick
props-only {ps} g = pick_same (on_prop zeroed) prop_branch 5 prop_in (λ x. refl) prop-back g []ᴮ ∙ append-nil ps

literal-text : (x : LiteralDeclaration U) → GoodLiteral x → literal_in (literal_branch (on_literal zeroed x)) ≡ x
unfolding literal_in
literal-text x g = rw (codes_all g.text, props-only g.props)

node-back : (x : NamedNode U) → GoodNode x → node_in (named_node_branch (on_named_node zeroed x)) ≡ x
unfolding node_in
node-back x g = rw (codes_all g.name.word.scalars, props-only g.props)

prec-value : (k : Option PrecKind) → (if eqb (prec_value k) 0 then none otherwise if eqb (prec_value k) 1 then some left otherwise if eqb (prec_value k) 2 then some right otherwise some cut) ≡ k
prec-value none = refl
prec-value (some left) = refl
prec-value (some right) = refl
prec-value (some cut) = refl

prec_item-back : (x : PrecItem U) → GoodPrecItem x → prec_item_in (prec_item_branch (on_prec_item zeroed x)) ≡ x
unfolding prec_item_in
prec_item-back x g = rw (codes_all g.name.word.scalars, prec-value x.kind)

source_first : (s : List ℕ) → Scalars s → (bs : Branches) → pick 15 source_in (source_branch s ∷ᴮ bs) ≡ s ∷ pick 15 source_in bs
unfolding pick source_in
source_first s h bs = ap (λ t. t ∷ pick 15 source_in bs) (codes_all h)

fallback-back : {o : Option (NamedNode U)} → Found GoodNode o → first_element (pick 13 node_in (fallback_branches (on_fallback zeroed o))) ≡ o
unfolding pick
fallback-back found_none = refl
fallback-back (found_some {a = x} g) = ap some (node-back x g)

-- ------------------------------------------------------------------ declarations

pick-none : {A : Type 0} (k : ℕ) (f : Branch → A) → pick k f []ᴮ ≡ []
unfolding pick
pick-none k f = refl

module _ (x : TokenDeclaration U) (a : Every GoodTokenPrec x.precedences) (b : Every GoodTokenConflict x.conflicts) (c : Every (GoodRule Outer) x.rules) (d : Every GoodLiteral x.literals) where
  abbrev pub ps : List (TokenPrecDeclaration ℕ)
  ps = map (on_token_prec zeroed) x.precedences

  abbrev pub cs : List (TokenConflictDeclaration ℕ)
  cs = map (on_token_conflict zeroed) x.conflicts

  abbrev pub rs : List (RuleDeclaration ℕ)
  rs = map (on_rule zeroed) x.rules

  abbrev pub ls : List (LiteralDeclaration ℕ)
  ls = map (on_literal zeroed) x.literals

  abbrev pub from-literals : Branches
  from-literals = each literal_branch ls []ᴮ

  abbrev pub from-rules : Branches
  from-rules = each (rule_branch 3) rs from-literals

  abbrev pub from-conflicts : Branches
  from-conflicts = each token_conflict_branch cs from-rules

  token_precs : pick 9 token_prec_in (each token_prec_branch ps from-conflicts) ≡ x.precedences
  token_precs =
      pick_same (on_token_prec zeroed) token_prec_branch 9 token_prec_in (λ y. refl) precedence-back a from-conflicts
      ∙ rw (
        pick_other token_conflict_branch 9 token_prec_in (λ y. refl) cs from-rules,
        pick_other (rule_branch 3) 9 token_prec_in (λ y. refl) rs from-literals,
        pick_other literal_branch 9 token_prec_in (λ y. refl) ls []ᴮ,
        pick-none 9 token_prec_in,
        append-nil x.precedences,
      )

  token-conflicts : pick 10 token_conflict_in (each token_prec_branch ps from-conflicts) ≡ x.conflicts
  token-conflicts =
      pick_other token_prec_branch 10 token_conflict_in (λ y. refl) ps from-conflicts
      ∙ pick_same (on_token_conflict zeroed) token_conflict_branch 10 token_conflict_in (λ y. refl) conflict-back b from-rules
      ∙ rw (pick_other (rule_branch 3) 10 token_conflict_in (λ y. refl) rs from-literals, pick_other literal_branch 10 token_conflict_in (λ y. refl) ls []ᴮ, pick-none 10 token_conflict_in, append-nil x.conflicts)

  token-rules : pick 3 rule_in (each token_prec_branch ps from-conflicts) ≡ x.rules
  token-rules =
      pick_other token_prec_branch 3 rule_in (λ y. refl) ps from-conflicts
      ∙ pick_other token_conflict_branch 3 rule_in (λ y. refl) cs from-rules
      ∙ pick_same (on_rule zeroed) (rule_branch 3) 3 rule_in (λ y. refl) (rule-back 3) c from-literals
      ∙ rw (pick_other literal_branch 3 rule_in (λ y. refl) ls []ᴮ, pick-none 3 rule_in, append-nil x.rules)

  token-literals : pick 11 literal_in (each token_prec_branch ps from-conflicts) ≡ x.literals
  token-literals =
      pick_other token_prec_branch 11 literal_in (λ y. refl) ps from-conflicts
      ∙ pick_other token_conflict_branch 11 literal_in (λ y. refl) cs from-rules
      ∙ pick_other (rule_branch 3) 11 literal_in (λ y. refl) rs from-literals
      ∙ pick_same (on_literal zeroed) literal_branch 11 literal_in (λ y. refl) literal-text d []ᴮ
      ∙ rw (pick-none 11 literal_in, append-nil x.literals)

  tokens-back : declaration_in (declaration_branch (on_declaration zeroed (tokens x))) ≡ tokens x
  unfolding declaration_in declaration_branch on_declaration
  tokens-back = rw (token_precs, token-conflicts, token-rules, token-literals)

module _ (x : LocalTokenDeclaration U) (a : Every GoodTokenPrec x.precedences) (b : Every (GoodRule Outer) x.rules) (f : Found GoodNode x.fallback) where
  abbrev pub local_ps : List (TokenPrecDeclaration ℕ)
  local_ps = map (on_token_prec zeroed) x.precedences

  abbrev pub local_rs : List (RuleDeclaration ℕ)
  local_rs = map (on_rule zeroed) x.rules

  abbrev pub from-fallback : Branches
  from-fallback = fallback_branches (on_fallback zeroed x.fallback)

  abbrev pub from_local : Branches
  from_local = each (rule_branch 3) local_rs from-fallback

  fallback-other : {A : Type 0} (k : ℕ) (g : Branch → A) → eqb 13 k ≡ false → (o : Option (NamedNode U)) → pick k g (fallback_branches (on_fallback zeroed o)) ≡ []
  unfolding pick
  fallback-other k g h none = refl
  fallback-other k g h (some y) = rw h

  local_precs : pick 9 token_prec_in (each token_prec_branch local_ps from_local) ≡ x.precedences
  local_precs =
      pick_same (on_token_prec zeroed) token_prec_branch 9 token_prec_in (λ y. refl) precedence-back a from_local
      ∙ rw (pick_other (rule_branch 3) 9 token_prec_in (λ y. refl) local_rs from-fallback, fallback-other 9 token_prec_in refl x.fallback, append-nil x.precedences)

  local_rules : pick 3 rule_in (each token_prec_branch local_ps from_local) ≡ x.rules
  local_rules =
      pick_other token_prec_branch 3 rule_in (λ y. refl) local_ps from_local
      ∙ pick_same (on_rule zeroed) (rule_branch 3) 3 rule_in (λ y. refl) (rule-back 3) b from-fallback
      ∙ rw (fallback-other 3 rule_in refl x.fallback, append-nil x.rules)

  local-fallback : pick 13 node_in (each token_prec_branch local_ps from_local) ≡ pick 13 node_in from-fallback
  local-fallback = pick_other token_prec_branch 13 node_in (λ y. refl) local_ps from_local ∙ pick_other (rule_branch 3) 13 node_in (λ y. refl) local_rs from-fallback

  local_back : declaration_in (declaration_branch (on_declaration zeroed (local_tokens x))) ≡ local_tokens x
  unfolding declaration_in declaration_branch on_declaration
  local_back = rw (local_precs, local_rules, local-fallback, fallback-back f)

module _ (xs : List (NamedNode U)) (ns : List (Identifier U)) (a : Every GoodNode xs) (b : Every GoodName ns) where
  abbrev pub zs : List (NamedNode ℕ)
  zs = map (on_named_node zeroed) xs

  abbrev pub from-names : Branches
  from-names = each (name_branch 17) (map (on_identifier zeroed) ns) []ᴮ

  external-nodes : pick 13 node_in (each named_node_branch zs from-names) ≡ xs
  external-nodes =
      pick_same (on_named_node zeroed) named_node_branch 13 node_in (λ y. refl) node-back a from-names
      ∙ rw (pick_other (name_branch 17) 13 node_in (λ y. refl) (map (on_identifier zeroed) ns) []ᴮ, pick-none 13 node_in, append-nil xs)

  external-names : pick 17 name_in (each named_node_branch zs from-names) ≡ ns
  external-names =
      pick_other named_node_branch 17 name_in (λ y. refl) zs from-names
      ∙ pick_same (on_identifier zeroed) (name_branch 17) 17 name_in (λ y. refl) (identifier-back 17) b []ᴮ ∙ rw (pick-none 17 name_in, append-nil ns)

-- what is not of a kind is passed over
pick-past : {A : Type 0} (k : ℕ) (f : Branch → A) (b : Branch) (bs : Branches) → eqb (kind_of b) k ≡ false → pick k f (b ∷ᴮ bs) ≡ pick k f bs
unfolding pick
pick-past k f b bs h = rw h

external-back : (x : ExternalTokenDeclaration U) → GoodSource x.id x.source → Every GoodNode x.tokens → Every GoodName x.conflicts → declaration_in (declaration_branch (on_declaration zeroed (external_tokens x))) ≡ external_tokens x
unfolding declaration_in declaration_branch on_declaration
external-back x g a b =
    let bs = each named_node_branch (map (on_named_node zeroed) x.tokens) (each (name_branch 17) (map (on_identifier zeroed) x.conflicts) []ᴮ) in
    rw (
      codes_all g.word.scalars,
      source_first x.source g.text bs,
      pick-past 13 node_in (source_branch x.source) bs refl,
      pick-past 17 name_in (source_branch x.source) bs refl,
      external-nodes x.tokens x.conflicts a b,
      external-names x.tokens x.conflicts a b,
    )

specializer_back : (x : ExternalSpecializeDeclaration U) → Outer x.token → GoodSource x.id x.source → Every GoodNode x.tokens → declaration_in (declaration_branch (on_declaration zeroed (external_specializer x))) ≡ external_specializer x
unfolding declaration_in declaration_branch on_declaration
specializer_back x r g a =
    let ns = each named_node_branch (map (on_named_node zeroed) x.tokens) []ᴮ in
    let bs = source_branch x.source ∷ᴮ ns in
    let nodes : pick 13 node_in ns ≡ x.tokens = pick_same (on_named_node zeroed) named_node_branch 13 node_in (λ y. refl) node-back a []ᴮ ∙ rw (pick-none 13 node_in, append-nil x.tokens) in
    rw (
      codes_all g.word.scalars,
      specialize-back x.kind,
      pick-expression 15 source_in refl (Z x.token) bs,
      source_first x.source g.text ns,
      pick-expression 13 node_in refl (Z x.token) bs,
      pick-past 13 node_in (source_branch x.source) ns refl,
      nodes,
      expression-first (Z x.token) bs,
      expression-back levels x.token r,
    )

precedences-back : (x : PrecDeclaration U) → Every GoodPrecItem x.items → declaration_in (declaration_branch (on_declaration zeroed (precedences x))) ≡ precedences x
unfolding declaration_in declaration_branch on_declaration
precedences-back x g =
    let items : pick 21 prec_item_in (each prec_item_branch (map (on_prec_item zeroed) x.items) []ᴮ) ≡ x.items = pick_same (on_prec_item zeroed) prec_item_branch 21 prec_item_in (λ y. refl) prec_item-back g []ᴮ ∙ rw (pick-none 21 prec_item_in, append-nil x.items) in
    rw items

scoped_back : (x : ScopedSkipDeclaration U) → Outer x.expression → Every (GoodRule Outer) x.top_rules → Every (GoodRule Outer) x.rules → declaration_in (declaration_branch (on_declaration zeroed (scoped_skip x))) ≡ scoped_skip x
unfolding declaration_in declaration_branch on_declaration
scoped_back x r a b =
    let ts = map (on_rule zeroed) x.top_rules in
    let rs = map (on_rule zeroed) x.rules in
    let more = each (rule_branch 3) rs []ᴮ in
    let bs = each (rule_branch 2) ts more in
    rw (
      pick-expression 2 rule_in refl (Z x.expression) bs,
      pick_same (on_rule zeroed) (rule_branch 2) 2 rule_in (λ y. refl) (rule-back 2) a more,
      pick_other (rule_branch 3) 2 rule_in (λ y. refl) rs []ᴮ,
      pick-none 2 rule_in,
      append-nil x.top_rules,
      pick-expression 3 rule_in refl (Z x.expression) bs,
      pick_other (rule_branch 2) 3 rule_in (λ y. refl) ts more,
      pick_same (on_rule zeroed) (rule_branch 3) 3 rule_in (λ y. refl) (rule-back 3) b []ᴮ,
      pick-none 3 rule_in,
      append-nil x.rules,
      expression-first (Z x.expression) bs,
      expression-back levels x.expression r,
    )

declaration-back : (d : Declaration U) → GoodDeclaration d → declaration_in (declaration_branch (on_declaration zeroed d)) ≡ d
unfolding declaration_in declaration_branch on_declaration
declaration-back d (good-top {r} g) = ap top_rule (rule-back 2 r g)
declaration-back d (good-rule {r} g) = ap rule (rule-back 3 r g)
declaration-back d (good-tokens {x} a b c e) = tokens-back x a b c e
declaration-back d (good_local {x} a b f) = local_back x a b f
declaration-back d (good-context {x} g) = rw (codes_all g.word.scalars, source_first x.source g.text []ᴮ)
declaration-back d (good-external {x} g a b) = external-back x g a b
declaration-back d (good_specializer {x} r g a) = specializer_back x r g a
declaration-back d (good-prop-source {x} g) = rw (codes_all g.word.scalars, source_first x.source g.text []ᴮ)
declaration-back d (good-precedences {x} g) = precedences-back x g
declaration-back d (good-skip {e} r) = rw (expression-first (Z e) []ᴮ, expression-back levels e r)
declaration-back d (good_scoped {x} r a b) = scoped_back x r a b

source-back : (s : List ℕ) → Scalars s → source_in (source_branch s) ≡ s
unfolding source_in
source-back s h = codes_all h

external-prop-back : (x : ExternalPropDeclaration U) → GoodExternalProp x → external_prop_in (external_prop_branch (on_external_prop zeroed x)) ≡ x
unfolding external_prop_in pick
external-prop-back x g = rw (codes_all g.source.word.scalars, identifier-back 26 x.external_id g.external, source-back x.source g.source.text)

-- ------------------------------------------------------------------ the grammar

declaration-kind : (d : Declaration ℕ) → not (eqb (kind_of (declaration_branch d)) 24 || eqb (kind_of (declaration_branch d)) 25) ≡ true
unfolding declaration_branch
declaration-kind (top_rule r) = refl
declaration-kind (rule r) = refl
declaration-kind (tokens x) = refl
declaration-kind (local_tokens x) = refl
declaration-kind (context x) = refl
declaration-kind (external_tokens x) = refl
declaration-kind (external_specializer x) = refl
declaration-kind (external_prop_source x) = refl
declaration-kind (precedences x) = refl
declaration-kind (main_skip e) = refl
declaration-kind (scoped_skip x) = refl

declaration_no : (k : ℕ) → (eqb k 24 || eqb k 25) ≡ true → (d : Declaration ℕ) → eqb (kind_of (declaration_branch d)) k ≡ false
declaration_no k h d = ne_eqb (kind_of (declaration_branch d)) k (λ q. clash (eqb k 24 || eqb k 25) h (not-true (eqb k 24 || eqb k 25) (ap (λ n. not (eqb n 24 || eqb n 25)) (sym q) ∙ declaration-kind d)))

declarations-in : {ds : List (Declaration U)} → Every GoodDeclaration ds → (bs : Branches) → declarations_in (each declaration_branch (map (on_declaration zeroed) ds) bs) ≡ ds ++ declarations_in bs
unfolding declarations_in each
declarations-in every-none bs = refl
declarations-in (every_more {x = d} {xs = ds} g q) bs = rw (declaration-kind (on_declaration zeroed d), declaration-back d g, declarations-in q bs)

declarations-skip : {A : Type 0} (f : A → Branch) → ((x : A) → not (eqb (kind_of (f x)) 24 || eqb (kind_of (f x)) 25) ≡ false) → (xs : List A) (bs : Branches) → declarations_in (each f xs bs) ≡ declarations_in bs
unfolding declarations_in each
declarations-skip f h [] bs = refl
declarations-skip f h (x ∷ xs) bs = rw (h x) (declarations-skip f h xs bs)

-- a grammar's tree, by its parts
pub grammar-branch : (g : GrammarDeclaration ℕ)
    → grammar_branch g ≡ branch (valued 1 g.start (flag g.auto_delimiters)) (each declaration_branch g.declarations (each (name_branch 24) g.dialects (each external_prop_branch g.external_props []ᴮ)))
unfolding grammar_branch
grammar-branch g = refl

pub grammar-back : (g : GrammarDeclaration U) → GoodGrammar g → grammar_in (grammar_branch (on_grammar zeroed g)) ≡ g
unfolding grammar_in on_grammar declarations_in
grammar-back g h =
    let ds = map (on_declaration zeroed) g.declarations in
    let ns = map (on_identifier zeroed) g.dialects in
    let xs = map (on_external_prop zeroed) g.external_props in
    let props = each external_prop_branch xs []ᴮ in
    let names = each (name_branch 24) ns props in
    rw (
      grammar-branch (on_grammar zeroed g),
      flag-back g.auto_delimiters,
      declarations-in h.declarations names,
      declarations-skip (name_branch 24) (λ n. refl) ns props,
      declarations-skip external_prop_branch (λ n. refl) xs []ᴮ,
      append-nil g.declarations,
      pick_other declaration_branch 24 name_in (declaration_no 24 refl) ds names,
      pick_same (on_identifier zeroed) (name_branch 24) 24 name_in (λ n. refl) (identifier-back 24) h.dialects props,
      pick_other external_prop_branch 24 name_in (λ n. refl) xs []ᴮ,
      pick-none 24 name_in,
      append-nil g.dialects,
      pick_other declaration_branch 25 external_prop_in (declaration_no 25 refl) ds names,
      pick_other (name_branch 24) 25 external_prop_in (λ n. refl) ns props,
      pick_same (on_external_prop zeroed) external_prop_branch 25 external_prop_in (λ n. refl) external-prop-back h.externals []ᴮ,
      pick-none 25 external_prop_in,
      append-nil g.external_props,
    )
