-- The trees of declarations and grammars whose spans are spans fit, so that the records and texts of a grammar are one tree.
-- Assumes nothing.
use Prim.Native.Nat.{ℕ}
use mathlib.Core.Path.{◌≡◌, refl, ap}
use mathlib.Core.Bool.{Bool, true, false}
use mathlib.Core.List.{List, [], ◌∷◌, ◌++◌, reverse}
use mathlib.Core.Option.{Option, none, some}
use lib.Dec.{eqb}
use lib.ListN.{length}
use Rattle.basics.specs.Basics.{among, kept}
use Rattle.basics.proofs.Tests.{cases}
use Rattle.characters.specs.Utf8.{encode_all}
use Rattle.tree.specs.Syntax.{Identifier, Prop, RuleDeclaration, TokenReference, referred, TokenPrecDeclaration, TokenConflictDeclaration, LiteralDeclaration, NamedNode, PrecKind, left, right, cut, PrecItem, ExternalPropDeclaration, Declaration, top_rule, rule, tokens, local_tokens, context, external_tokens, external_specializer, external_prop_source, precedences, main_skip, scoped_skip, GrammarDeclaration, declaration_kind, of_kind, groups, Grouped, start_of}
use Rattle.tree.specs.Records.{Branch, branch, Branches, []ᴮ, ◌∷ᴮ◌, records, texts, words}
use Rattle.tree.specs.Stored.{full, named, valued, plain, each, flag, prop_branch, specialize_value, expression_branch, name_branch, source_branch, rule_branch, reference_branch, token_prec_branch, token_conflict_branch, literal_branch, named_node_branch, fallback_branches, prec_value, prec_item_branch, declaration_branch, external_prop_branch, grammar_branch}
use Rattle.tree.specs.OneTree.{is_kind, expression_kinds, has_text, values_fit, Group, many, one, at_most_one, groups_of, matches, kind_of, build}
use Rattle.tree.proofs.Encoded.{Fits, FitsAll, encoded}
use Rattle.tree.proofs.Upto.{kinds_upon, Upto, upto-none, upto-one, upto-most, upto_missing, apart, AllOf, all_of, Reaches, many-each}
use Rattle.tree.proofs.ExpressionsFit.{Fine, has, row_fits, fits_each, fits-every, only-many, leaf-fits, named-fits, props_fit, props_reach, last-expression, specialize-fits, expression-kind, expression-fits}

-- ------------------------------------------------------------------ declarations

abbrev pub FineRule : RuleDeclaration ℕ → Type 0
FineRule r = Fine r.expression

abbrev pub FineReference : TokenReference ℕ → Type 0
FineReference r = Fine (referred r)

abbrev pub FinePrec : TokenPrecDeclaration ℕ → Type 0
FinePrec x = AllOf FineReference x.items

abbrev pub FineConflict : TokenConflictDeclaration ℕ → Type 0
FineConflict x = FineReference x.left × FineReference x.right

unfoldable pub FineDeclaration : Declaration ℕ → Type 0
FineDeclaration (top_rule r) = FineRule r
FineDeclaration (rule r) = FineRule r
FineDeclaration (tokens x) = AllOf FinePrec x.precedences × AllOf FineConflict x.conflicts × AllOf FineRule x.rules
FineDeclaration (local_tokens x) = AllOf FinePrec x.precedences × AllOf FineRule x.rules
FineDeclaration (context x) = Unit
FineDeclaration (external_tokens x) = Unit
FineDeclaration (external_specializer x) = Fine x.token
FineDeclaration (external_prop_source x) = Unit
FineDeclaration (precedences x) = Unit
FineDeclaration (main_skip e) = Fine e
FineDeclaration (scoped_skip x) = Fine x.expression × AllOf FineRule x.top_rules × AllOf FineRule x.rules

-- all branches of a list have a kind
of-kind : {A : Type 0} (k : ℕ) (f : A → Branch) → ((x : A) → among (k ∷ []) (kind_of (f x)) ≡ true) → (xs : List A) → AllOf (λ x. among (k ∷ []) (kind_of (f x)) ≡ true) xs
of-kind k f h xs = all_of (λ x. among (k ∷ []) (kind_of (f x)) ≡ true) h xs

abbrev rule_groups : List Group
rule_groups = one expression_kinds ∷ many (4 ∷ []) ∷ many (5 ∷ []) ∷ []

rule_fits : (k : ℕ) → is_kind k ≡ true → values_fit k 0 0 ≡ true → reverse (groups_of k 0) ≡ rule_groups → has_text k ≡ true → (r : RuleDeclaration ℕ) → FineRule r → Fits (rule_branch k r)
unfolding Fits values_fit groups_of matches
rule_fits k i v g t r h =
    let e : Branches = expression_branch r.expression ∷ᴮ []ᴮ in (
      row_fits (named k r.id.start r.id.name) rule_groups (each prop_branch r.props (each (name_branch 4) r.params e)) i v g
          (props_reach rule_groups r.props (each (name_branch 4) r.params e)
          (λ ds u. many-each (4 ∷ []) rule_groups (name_branch 4) r.params e (of-kind 4 (name_branch 4) (λ y. refl) r.params) u refl (λ cs w. last-expression r.expression w)))
          (has (length (encode_all r.id.name)) (has_text k) t),
      props_fit r.props (each (name_branch 4) r.params e)
          (fits-every (name_branch 4) (λ y. named-fits 4 y.start y.name refl refl refl refl) r.params e (expression-fits r.expression h, tt)),
    )

top-rule-fits : (r : RuleDeclaration ℕ) → FineRule r → Fits (rule_branch 2 r)
unfolding values_fit groups_of
top-rule-fits r h = rule_fits 2 refl refl refl refl r h

plain-rule-fits : (r : RuleDeclaration ℕ) → FineRule r → Fits (rule_branch 3 r)
unfolding values_fit groups_of
plain-rule-fits r h = rule_fits 3 refl refl refl refl r h

rules_fit : (rs : List (RuleDeclaration ℕ)) (bs : Branches) → AllOf FineRule rs → FitsAll bs → FitsAll (each (rule_branch 3) rs bs)
rules_fit rs bs h b = fits_each FineRule (rule_branch 3) plain-rule-fits rs bs h b

reference-kind : (r : TokenReference ℕ) → among (30 ∷ 36 ∷ []) (kind_of (reference_branch r)) ≡ true
unfolding expression_branch
reference-kind (TokenReference.name p t es) = refl
reference-kind (TokenReference.literal p t) = refl

reference-fits : (r : TokenReference ℕ) → FineReference r → Fits (reference_branch r)
reference-fits r h = expression-fits (referred r) h

prec_fits : (x : TokenPrecDeclaration ℕ) → FinePrec x → Fits (token_prec_branch x)
unfolding Fits values_fit groups_of encode_all
prec_fits x h = (
  row_fits (plain 9 x.start) (many (30 ∷ 36 ∷ []) ∷ []) (each reference_branch x.items []ᴮ) refl refl refl
      (only-many (30 ∷ 36 ∷ []) reference_branch x.items (all_of (λ y. among (30 ∷ 36 ∷ []) (kind_of (reference_branch y)) ≡ true) reference-kind x.items)) refl,
  fits_each FineReference reference_branch reference-fits x.items []ᴮ h tt,
)

conflict-fits : (x : TokenConflictDeclaration ℕ) → FineConflict x → Fits (token_conflict_branch x)
unfolding Fits values_fit groups_of encode_all kinds_upon
conflict-fits x h = (
  row_fits (plain 10 x.start) (one (30 ∷ 36 ∷ []) ∷ one (30 ∷ 36 ∷ []) ∷ []) (reference_branch x.left ∷ᴮ reference_branch x.right ∷ᴮ []ᴮ) refl refl refl
      (upto-one (30 ∷ 36 ∷ []) (kind_of (reference_branch x.right)) (reference-kind x.right) (upto-one (30 ∷ 36 ∷ []) (kind_of (reference_branch x.left)) (reference-kind x.left) upto-none)).matched refl,
  (reference-fits x.left h.0, (reference-fits x.right h.1, tt)),
)

-- a name over props: 11 literal, 13 named node
over-props : (k p : ℕ) (t : List ℕ) → is_kind k ≡ true → values_fit k 0 0 ≡ true → reverse (groups_of k 0) ≡ many (5 ∷ []) ∷ [] → has_text k ≡ true → (ps : List (Prop ℕ))
    → Fits (branch (named k p t) (each prop_branch ps []ᴮ))
unfolding Fits
over-props k p t i v g h ps = (
  row_fits (named k p t) (many (5 ∷ []) ∷ []) (each prop_branch ps []ᴮ) i v g (only-many (5 ∷ []) prop_branch ps (of-kind 5 prop_branch (λ y. refl) ps)) (has (length (encode_all t)) (has_text k) h),
  props_fit ps []ᴮ tt,
)

literal-fits : (x : LiteralDeclaration ℕ) → Fits (literal_branch x)
unfolding values_fit groups_of
literal-fits x = over-props 11 x.start x.literal refl refl refl refl x.props

node-fits : (x : NamedNode ℕ) → Fits (named_node_branch x)
unfolding values_fit groups_of
node-fits x = over-props 13 x.id.start x.id.name refl refl refl refl x.props

source_fits : (s : List ℕ) → Fits (source_branch s)
unfolding values_fit groups_of matches
source_fits s = named-fits 15 0 s refl refl refl refl

name-fits : (k : ℕ) → is_kind k ≡ true → values_fit k 0 0 ≡ true → matches (reverse (groups_of k 0)) [] ≡ true → has_text k ≡ true → (n : Identifier ℕ) → Fits (name_branch k n)
name-fits k i v g h n = named-fits k n.start n.name i v g h

prec-value : (k : Option PrecKind) → values_fit 21 (prec_value k) 0 ≡ true
unfolding values_fit
prec-value none = refl
prec-value (some left) = refl
prec-value (some right) = refl
prec-value (some cut) = refl

item-fits : (x : PrecItem ℕ) → Fits (prec_item_branch x)
unfolding groups_of matches
item-fits x = leaf-fits (full 21 x.id.start x.id.name (prec_value x.kind)) refl (prec-value x.kind) refl (has (length (encode_all x.id.name)) true refl)

-- a name over a source string: 14 context, 19 prop source
over-source : (k p : ℕ) (t s : List ℕ) → is_kind k ≡ true → values_fit k 0 0 ≡ true → reverse (groups_of k 0) ≡ one (15 ∷ []) ∷ [] → has_text k ≡ true → Fits (branch (named k p t) (source_branch s ∷ᴮ []ᴮ))
unfolding Fits kinds_upon
over-source k p t s i v g h =
    (row_fits (named k p t) (one (15 ∷ []) ∷ []) (source_branch s ∷ᴮ []ᴮ) i v g (upto-one (15 ∷ []) 15 refl upto-none).matched (has (length (encode_all t)) (has_text k) h), (source_fits s, tt))

-- at most one fallback, the last child
fallback_reach : {gs : List Group} {hs ds : List ℕ} (o : Option (NamedNode ℕ)) → Upto gs hs ds → apart (13 ∷ []) hs ≡ true → Reaches (at_most_one (13 ∷ []) ∷ gs) (fallback_branches o) ds
unfolding kinds_upon
fallback_reach none u d = (upto_missing (13 ∷ []) u d).matched
fallback_reach (some x) u d = (upto-most (13 ∷ []) 13 refl u).matched

fallback-fits : (o : Option (NamedNode ℕ)) → FitsAll (fallback_branches o)
unfolding Fits
fallback-fits none = tt
fallback-fits (some x) = (node-fits x, tt)

pub declaration-fits : (d : Declaration ℕ) → FineDeclaration d → Fits (declaration_branch d)
unfolding Fits FineDeclaration declaration_branch values_fit groups_of matches encode_all kinds_upon
declaration-fits (top_rule r) h = top-rule-fits r h
declaration-fits (rule r) h = plain-rule-fits r h
declaration-fits (tokens x) (a, b, c) =
    let fin : List Group = many (11 ∷ []) ∷ many (3 ∷ []) ∷ many (10 ∷ []) ∷ many (9 ∷ []) ∷ [] in
    let ls : Branches = each literal_branch x.literals []ᴮ in
    let rs : Branches = each (rule_branch 3) x.rules ls in
    let cs : Branches = each token_conflict_branch x.conflicts rs in (
      row_fits (plain 8 x.start) fin (each token_prec_branch x.precedences cs) refl refl refl
          (many-each (9 ∷ []) fin token_prec_branch x.precedences cs (of-kind 9 token_prec_branch (λ y. refl) x.precedences) upto-none refl
          (λ d1 u1. many-each (10 ∷ []) fin token_conflict_branch x.conflicts rs (of-kind 10 token_conflict_branch (λ y. refl) x.conflicts) u1 refl
          (λ d2 u2. many-each (3 ∷ []) fin (rule_branch 3) x.rules ls (of-kind 3 (rule_branch 3) (λ y. refl) x.rules) u2 refl
          (λ d3 u3. many-each (11 ∷ []) fin literal_branch x.literals []ᴮ (of-kind 11 literal_branch (λ y. refl) x.literals) u3 refl (λ d4 u4. u4.matched))))) refl,
      fits_each FinePrec token_prec_branch prec_fits x.precedences cs a
          (fits_each FineConflict token_conflict_branch conflict-fits x.conflicts rs b (rules_fit x.rules ls c (fits-every literal_branch literal-fits x.literals []ᴮ tt))),
    )
declaration-fits (local_tokens x) (a, c) =
    let fin : List Group = at_most_one (13 ∷ []) ∷ many (3 ∷ []) ∷ many (9 ∷ []) ∷ [] in
    let fs : Branches = fallback_branches x.fallback in
    let rs : Branches = each (rule_branch 3) x.rules fs in (
      row_fits (plain 12 x.start) fin (each token_prec_branch x.precedences rs) refl refl refl
          (many-each (9 ∷ []) fin token_prec_branch x.precedences rs (of-kind 9 token_prec_branch (λ y. refl) x.precedences) upto-none refl
          (λ d1 u1. many-each (3 ∷ []) fin (rule_branch 3) x.rules fs (of-kind 3 (rule_branch 3) (λ y. refl) x.rules) u1 refl (λ d2 u2. fallback_reach x.fallback u2 refl))) refl,
      fits_each FinePrec token_prec_branch prec_fits x.precedences rs a (rules_fit x.rules fs c (fallback-fits x.fallback)),
    )
declaration-fits (context x) h = over-source 14 x.start x.id x.source refl refl refl refl
declaration-fits (external_tokens x) h =
    let fin : List Group = many (17 ∷ []) ∷ many (13 ∷ []) ∷ one (15 ∷ []) ∷ [] in
    let cs : Branches = each (name_branch 17) x.conflicts []ᴮ in (
      row_fits (named 16 x.start x.id) fin (source_branch x.source ∷ᴮ each named_node_branch x.tokens cs) refl refl refl
          (many-each (13 ∷ []) fin named_node_branch x.tokens cs (of-kind 13 named_node_branch (λ y. refl) x.tokens) (upto-one (15 ∷ []) 15 refl upto-none) refl
          (λ d1 u1. many-each (17 ∷ []) fin (name_branch 17) x.conflicts []ᴮ (of-kind 17 (name_branch 17) (λ y. refl) x.conflicts) u1 refl (λ d2 u2. u2.matched))) (has (length (encode_all x.id)) true refl),
      (source_fits x.source, fits-every named_node_branch node-fits x.tokens cs (fits-every (name_branch 17) (name-fits 17 refl refl refl refl) x.conflicts []ᴮ tt)),
    )
declaration-fits (external_specializer x) h =
    let fin : List Group = many (13 ∷ []) ∷ one (15 ∷ []) ∷ one expression_kinds ∷ [] in
    let ns : Branches = each named_node_branch x.tokens []ᴮ in (
      row_fits (full 18 x.start x.id (specialize_value x.kind)) fin (expression_branch x.token ∷ᴮ source_branch x.source ∷ᴮ ns) refl (specialize-fits x.kind 18 refl) refl
          (many-each (13 ∷ []) fin named_node_branch x.tokens []ᴮ (of-kind 13 named_node_branch (λ y. refl) x.tokens)
          (upto-one (15 ∷ []) 15 refl (upto-one expression_kinds (kind_of (expression_branch x.token)) (expression-kind x.token) upto-none)) refl (λ d1 u1. u1.matched)) (has (length (encode_all x.id)) true refl),
      (expression-fits x.token h, (source_fits x.source, fits-every named_node_branch node-fits x.tokens []ᴮ tt)),
    )
declaration-fits (external_prop_source x) h = over-source 19 x.start x.id x.source refl refl refl refl
declaration-fits (precedences x) h = (
  row_fits (plain 20 x.start) (many (21 ∷ []) ∷ []) (each prec_item_branch x.items []ᴮ) refl refl refl (only-many (21 ∷ []) prec_item_branch x.items (of-kind 21 prec_item_branch (λ y. refl) x.items)) refl,
  fits-every prec_item_branch item-fits x.items []ᴮ tt,
)
declaration-fits (main_skip e) h =
    (row_fits (plain 22 (start_of e)) (one expression_kinds ∷ []) (expression_branch e ∷ᴮ []ᴮ) refl refl refl (last-expression e upto-none) refl, (expression-fits e h, tt))
declaration-fits (scoped_skip x) (a, b, c) =
    let fin : List Group = many (3 ∷ []) ∷ many (2 ∷ []) ∷ one expression_kinds ∷ [] in
    let rs : Branches = each (rule_branch 3) x.rules []ᴮ in
    let ts : Branches = each (rule_branch 2) x.top_rules rs in (
      row_fits (plain 23 (start_of x.expression)) fin (expression_branch x.expression ∷ᴮ ts) refl refl refl
          (many-each (2 ∷ []) fin (rule_branch 2) x.top_rules rs (of-kind 2 (rule_branch 2) (λ y. refl) x.top_rules)
          (upto-one expression_kinds (kind_of (expression_branch x.expression)) (expression-kind x.expression) upto-none) refl
          (λ d1 u1. many-each (3 ∷ []) fin (rule_branch 3) x.rules []ᴮ (of-kind 3 (rule_branch 3) (λ y. refl) x.rules) u1 refl (λ d2 u2. u2.matched))) refl,
      (expression-fits x.expression a, fits_each FineRule (rule_branch 2) top-rule-fits x.top_rules rs b (rules_fit x.rules []ᴮ c tt)),
    )

-- ------------------------------------------------------------------ grammars

pub declaration-kind : (d : Declaration ℕ) → kind_of (declaration_branch d) ≡ declaration_kind d
unfolding declaration_branch
declaration-kind (top_rule r) = refl
declaration-kind (rule r) = refl
declaration-kind (tokens x) = refl
declaration-kind (local_tokens x) = refl
declaration-kind (context x) = refl
declaration-kind (external_tokens x) = refl
declaration-kind (external_specializer x) = refl
declaration-kind (external_prop_source x) = refl
declaration-kind (precedences x) = refl
declaration-kind (main_skip e) = refl
declaration-kind (scoped_skip x) = refl

each_append : {A : Type 0} (f : A → Branch) (xs ys : List A) (bs : Branches) → each f (xs ++ ys) bs ≡ each f xs (each f ys bs)
unfolding each
each_append f [] ys bs = refl
each_append f (x ∷ xs) ys bs = ap (λ l. f x ∷ᴮ l) (each_append f xs ys bs)

kept-kinds : (k : ℕ) (ds : List (Declaration ℕ)) → AllOf (λ d. among (k ∷ []) (kind_of (declaration_branch d)) ≡ true) (of_kind k ds)
unfolding kept AllOf
kept-kinds k [] = tt
kept-kinds k (d ∷ ds) =
    cases (eqb (declaration_kind d) k)
    (λ e. rw e (rw (declaration-kind d, e) refl, kept-kinds k ds))
    (λ e. rw e (kept-kinds k ds))

-- the groups of some kinds, one after another, and then others
unfoldable Apart : List ℕ → List ℕ → Type 0
Apart [] hs = Unit
Apart (k ∷ ks) hs = (apart (k ∷ []) hs ≡ true) × Apart ks (k ∷ hs)

unfoldable groups_upon : List ℕ → List Group → List Group
groups_upon [] gs = gs
groups_upon (k ∷ ks) gs = groups_upon ks (many (k ∷ []) ∷ gs)

unfoldable upon : List ℕ → List ℕ → List ℕ
upon [] hs = hs
upon (k ∷ ks) hs = upon ks (k ∷ hs)

groups_reach : {gs : List Group} {hs cs : List ℕ} (fin : List Group) (ks : List ℕ) (ds : List (Declaration ℕ)) (bs : Branches) → Apart ks hs → Upto gs hs cs
    → ((es : List ℕ) → Upto (groups_upon ks gs) (upon ks hs) es → Reaches fin bs es) → Reaches fin (each declaration_branch (groups ks ds) bs) cs
unfolding groups each Apart groups_upon upon
groups_reach {cs = cs} fin [] ds bs a u go = go cs u
groups_reach fin (k ∷ ks) ds bs (a, b) u go =
    rw (each_append declaration_branch (of_kind k ds) (groups ks ds) bs)
    (many-each (k ∷ []) fin declaration_branch (of_kind k ds) (each declaration_branch (groups ks ds) bs) (kept-kinds k ds) u a (λ es w. groups_reach fin ks ds bs b w go))

-- all spans of a grammar are spans
pub record FineGrammar (g : GrammarDeclaration ℕ) : Type 0 where
  pub grouped : Grouped g
  pub declarations : AllOf FineDeclaration g.declarations

external-fits : (x : ExternalPropDeclaration ℕ) → Fits (external_prop_branch x)
unfolding Fits values_fit groups_of matches kinds_upon
external-fits x = (
  row_fits (named 25 x.start x.id) (one (15 ∷ []) ∷ one (26 ∷ []) ∷ []) (name_branch 26 x.external_id ∷ᴮ source_branch x.source ∷ᴮ []ᴮ) refl refl refl
      (upto-one (15 ∷ []) 15 refl (upto-one (26 ∷ []) 26 refl upto-none)).matched (has (length (encode_all x.id)) true refl),
  (name-fits 26 refl refl refl refl x.external_id, (source_fits x.source, tt)),
)

abbrev grammar_groups : List Group
grammar_groups =
    many (25 ∷ []) ∷ many (24 ∷ []) ∷ many (23 ∷ []) ∷ many (22 ∷ []) ∷ many (20 ∷ []) ∷ many (19 ∷ []) ∷ many (18 ∷ []) ∷ many (16 ∷ [])
    ∷ many (14 ∷ []) ∷ many (12 ∷ []) ∷ many (8 ∷ []) ∷ many (3 ∷ []) ∷ many (2 ∷ []) ∷ []

grammar_reach : (g : GrammarDeclaration ℕ) → FineGrammar g
    → Reaches grammar_groups (each declaration_branch g.declarations (each (name_branch 24) g.dialects (each external_prop_branch g.external_props []ᴮ))) []
unfolding kinds_upon Apart groups_upon upon
grammar_reach g h =
    let xs : Branches = each external_prop_branch g.external_props []ᴮ in
    let ns : Branches = each (name_branch 24) g.dialects xs in
    rw (← h.grouped)
    (groups_reach grammar_groups (2 ∷ 3 ∷ 8 ∷ 12 ∷ 14 ∷ 16 ∷ 18 ∷ 19 ∷ 20 ∷ 22 ∷ 23 ∷ []) g.declarations ns
    (refl, (refl, (refl, (refl, (refl, (refl, (refl, (refl, (refl, (refl, (refl, tt))))))))))) upto-none
    (λ d1 u1. many-each (24 ∷ []) grammar_groups (name_branch 24) g.dialects xs (of-kind 24 (name_branch 24) (λ y. refl) g.dialects) u1 refl
    (λ d2 u2. many-each (25 ∷ []) grammar_groups external_prop_branch g.external_props []ᴮ (of-kind 25 external_prop_branch (λ y. refl) g.external_props) u2 refl (λ d3 u3. u3.matched))))

grammar-values : (b : Bool) → values_fit 1 (flag b) 0 ≡ true
unfolding values_fit
grammar-values true = refl
grammar-values false = refl

pub grammar-fits : (g : GrammarDeclaration ℕ) → FineGrammar g → Fits (grammar_branch g)
unfolding Fits grammar_branch groups_of matches encode_all values_fit
grammar-fits g h =
    let xs : Branches = each external_prop_branch g.external_props []ᴮ in
    let ns : Branches = each (name_branch 24) g.dialects xs in (
      row_fits (valued 1 g.start (flag g.auto_delimiters)) grammar_groups (each declaration_branch g.declarations ns) refl (grammar-values g.auto_delimiters) refl (grammar_reach g h) refl,
      fits_each FineDeclaration declaration_branch declaration-fits g.declarations ns h.declarations
          (fits-every (name_branch 24) (name-fits 24 refl refl refl refl) g.dialects xs (fits-every external_prop_branch external-fits g.external_props []ᴮ tt)),
    )

grammar_root : (g : GrammarDeclaration ℕ) → eqb (kind_of (grammar_branch g)) 1 ≡ true
unfolding grammar_branch
grammar_root g = refl

-- the records and texts of a grammar are one tree
pub grammar-encoded : (g : GrammarDeclaration ℕ) (more : List ℕ) → FineGrammar g → build (λ k. eqb k 1) (words (records (grammar_branch g))) (texts (grammar_branch g) ++ more) ≡ some (grammar_branch g)
grammar-encoded g more h = encoded (λ k. eqb k 1) (grammar_branch g) more (grammar-fits g h) (grammar_root g)
