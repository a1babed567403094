-- What a text is read as, stored, is one tree: its spans are spans, and its declarations stand in groups.
-- Assumes nothing.
use Prim.Native.Nat.{ℕ, zero, suc, ◌-◌, ◌<◌}
use native.Mathlib.Omega.{arith}
use mathlib.Core.Path.{◌≡◌, refl, sym, ◌∙◌}
use mathlib.Core.Bool.{Bool, true, false, ◌&&◌}
use mathlib.Core.List.{List, [], ◌∷◌, ◌++◌, map}
use lib.Dec.{eqb, leb, ltb}
use lib.ListN.{length}
use borrow.Author.Tests.{ltb-true, lt-ltb, le-leb}
use Rattle.basics.specs.Basics.{picked}
use Rattle.basics.proofs.Tests.{both_true, cases}
use Rattle.characters.specs.Spans.{Span}
use Rattle.characters.specs.Utf8.{is_scalar, check, codes}
use Rattle.characters.specs.declared.IllFormed.{IllFormed}
use Rattle.std.specs.Prelude.{Result, Ok, Err}
use Rattle.lexer.specs.Tokens.{Tokens, tokens as lexed}
use Rattle.tree.specs.Syntax.{Expression, special, inline, choice, sequence, empty, repeat, set, any, class, Expressions, []ᴱ, ◌∷ᴱ◌, Slots, last, slot, RuleDeclaration, TokenReference, TokenPrecDeclaration, TokenConflictDeclaration, Declaration, top_rule, rule, tokens, local_tokens, context, external_tokens, external_specializer, external_prop_source, precedences, main_skip, scoped_skip, GrammarDeclaration, Grouped}
use Rattle.tree.specs.Stored.{grammar_records, grammar_words, grammar_texts, grammar_branch}
use Rattle.tree.proofs.Upto.{AllOf}
use Rattle.tree.proofs.ExpressionsFit.{FineSpan, Fine, FineAll, FineSlots}
use Rattle.tree.proofs.GrammarsFit.{FineRule, FineReference, FinePrec, FineConflict, FineDeclaration, FineGrammar, grammar-encoded}
use Rattle.error.specs.Causes.{no_top}
use Rattle.notation.specs.Parser.{Answer, read, refused, Parser, and_then, ◌>>=◌, pure, choose, here, refuse_here, arrive}
use Rattle.notation.specs.Members.{Member, declared}
use Rattle.notation.specs.Declarations.{has_top, grammar_of, parse, parse_grammar}
use Rattle.laws.proofs.Groups.{grouped_twice}
use Rattle.laws.proofs.AlikeDeclarations.{grammar-parse}
use Rattle.notation.specs.Limits.{levels}
use Rattle.grammar.specs.Reading.{tree, stopped, reading, answered, read_checked, longest}
use Rattle.spelling.proofs.Back.{Spelled, no_spans, one_span}
use Rattle.trees.proofs.Trees.{builds_what_is-a_tree}
use Rattle.laws.specs.StoredTrees.{StoredIsOneTree}
use Rattle.laws.proofs.Starts.{on_expression, on_expressions, on_slots, on_rule, on_reference, on_token_prec, on_token_conflict, on_declaration, on_grammar}
use Rattle.laws.proofs.Every.{Every, every_more}
use Rattle.laws.proofs.Fine.{U}
use Rattle.laws.proofs.Readable.{Grade, Each, each_none, each_more, Item, item-name, item-special, item-inline, item-choice, item-sequence, item-empty, item-repeat, item-literal, item-set, item-any, item-class, InSlots, in_last, in_slot, Arm, arm-sequence, arm-item, Arms, arms_none, arms_more, Level, level_choice, level_arm, Readable}
use Rattle.laws.proofs.MeetsExpressions.{GoodRule}
use Rattle.laws.proofs.Good.{Outer, GoodReference, GoodTokenPrec, GoodTokenConflict, GoodDeclaration, good-top, good-rule, good-tokens, good_local, good_specializer, good-skip, good_scoped}
use Rattle.laws.proofs.Accepted.{reading-of, not_tree, accepted-good}

-- ------------------------------------------------------------------ spans

scalar-low : (c : ℕ) → is_scalar c ≡ true → c < 0x110000
unfolding is_scalar
scalar-low c e =
    cases (ltb c 0xD800)
    (λ t. let h = ltb-true c 0xD800 t in omega arith)
    (λ t. let f : (leb 0xE000 c && ltb c 0x110000) ≡ true = rw t at e in ltb-true c 0x110000 (both_true (leb 0xE000 c) (ltb c 0x110000) f).1)

spans-fine : {ss : List Span} → Spelled ss → AllOf FineSpan ss
unfolding AllOf
spans-fine no_spans = tt
spans-fine (one_span {s} {ss} l a b t) =
    let k = scalar-low (s.past - 1) b in
    (rw (lt-ltb s.first s.past l, le-leb s.past 1114112 (omega arith)), spans-fine t)

-- ------------------------------------------------------------------ expressions, with whatever starts

module _ {S : Type 0} where
  unfoldable mutual
    -- all spans below an expression are spans
    Spanned : Expression S → Type 0
    Spanned (Expression.name p t es) = SpannedAll es
    Spanned (special p k ps e f) = Spanned e × Spanned f
    Spanned (inline p t ps e) = Spanned e
    Spanned (choice p es) = SpannedAll es
    Spanned (sequence p s) = SpannedSlots s
    Spanned (empty p) = Unit {0}
    Spanned (repeat p k e) = Spanned e
    Spanned (Expression.literal p t) = Unit {0}
    Spanned (set p i ss) = AllOf FineSpan ss
    Spanned (any p) = Unit {0}
    Spanned (class p c) = Unit {0}

    SpannedAll : Expressions S → Type 0
    SpannedAll []ᴱ = Unit {0}
    SpannedAll (e ∷ᴱ es) = Spanned e × SpannedAll es

    SpannedSlots : Slots S → Type 0
    SpannedSlots (last ms) = Unit {0}
    SpannedSlots (slot ms e s) = Spanned e × SpannedSlots s

-- those that are read level by level are
module _ {R : Grade} (up : (e : Expression U) → R e → Spanned e) where
  each-spanned : {es : Expressions U} → Each R es → SpannedAll es
  unfolding Spanned
  each-spanned each_none = tt
  each-spanned (each_more r q) = (up _ r, each-spanned q)

  item-spanned : {e : Expression U} → Item R e → Spanned e
  unfolding Spanned
  item-spanned (item-name w n q b) = each-spanned q
  item-spanned (item-special g r q) = (up _ r, up _ q)
  item-spanned (item-inline w n g r) = up _ r
  item-spanned (item-choice r) = up _ r
  item-spanned (item-sequence r b) = up _ r
  item-spanned item-empty = tt
  item-spanned (item-repeat i h) = item-spanned i
  item-spanned (item-literal s) = tt
  item-spanned (item-set g) = spans-fine g.spelled
  item-spanned item-any = tt
  item-spanned item-class = tt

  slots-spanned : {s : Slots U} → InSlots R s → SpannedSlots s
  unfolding Spanned
  slots-spanned (in_last g) = tt
  slots-spanned (in_slot g i q) = (item-spanned i, slots-spanned q)

  arm-spanned : {e : Expression U} → Arm R e → Spanned e
  unfolding Spanned
  arm-spanned (arm-sequence q l) = slots-spanned q
  arm-spanned (arm-item i s) = item-spanned i

  arms-spanned : {es : Expressions U} → Arms R es → SpannedAll es
  unfolding Spanned
  arms-spanned arms_none = tt
  arms-spanned (arms_more a h q) = (arm-spanned a, arms-spanned q)

  level-spanned : {e : Expression U} → Level R e → Spanned e
  unfolding Spanned
  level-spanned (level_choice q) = arms-spanned q
  level-spanned (level_arm a c) = arm-spanned a

readable-spanned : (l : ℕ) (e : Expression U) → Readable l e → Spanned e
readable-spanned zero e r = absurd r
readable-spanned (suc l) e r = level-spanned (readable-spanned l) r

-- ------------------------------------------------------------------ with their places as starts

abbrev less : ℕ → U
less p = tt

mutual
  unfolding Spanned Fine on_expression

  fine : (e : Expression ℕ) → Spanned (on_expression less e) → Fine e
  fine (Expression.name p t es) h = fine-all es h
  fine (special p k ps e f) (h, k') = (fine e h, fine f k')
  fine (inline p t ps e) h = fine e h
  fine (choice p es) h = fine-all es h
  fine (sequence p s) h = fine-slots s h
  fine (empty p) h = tt
  fine (repeat p k e) h = fine e h
  fine (Expression.literal p t) h = tt
  fine (set p i ss) h = h
  fine (any p) h = tt
  fine (class p c) h = tt

  fine-all : (es : Expressions ℕ) → SpannedAll (on_expressions less es) → FineAll es
  fine-all []ᴱ h = tt
  fine-all (e ∷ᴱ es) (h, k) = (fine e h, fine-all es k)

  fine-slots : (s : Slots ℕ) → SpannedSlots (on_slots less s) → FineSlots s
  fine-slots (last ms) h = tt
  fine-slots (slot ms e s) (h, k) = (fine e h, fine-slots s k)

outer-fine : (e : Expression ℕ) → Outer (on_expression less e) → Fine e
outer-fine e r = fine e (readable-spanned levels (on_expression less e) r)

-- ------------------------------------------------------------------ declarations

every_all : {A B : Type 0} {G : B → Type 0} {P : A → Type 0} (f : A → B) → ((x : A) → G (f x) → P x) → (xs : List A) → Every G (map f xs) → AllOf P xs
unfolding AllOf
every_all f h [] e = tt
every_all f h (x ∷ xs) (every_more g e) = (h x g, every_all f h xs e)

rule-fine : (r : RuleDeclaration ℕ) → GoodRule Outer (on_rule less r) → FineRule r
rule-fine r g = outer-fine r.expression g.body

reference-fine : (r : TokenReference ℕ) → GoodReference (on_reference less r) → FineReference r
unfolding on_reference on_expression Spanned Fine
reference-fine (TokenReference.name p t es) g = fine (Expression.name p t es) (item-spanned (readable-spanned levels) g.item)
reference-fine (TokenReference.literal p t) g = tt

prec-fine : (x : TokenPrecDeclaration ℕ) → GoodTokenPrec (on_token_prec less x) → FinePrec x
prec-fine x g = every_all (on_reference less) reference-fine x.items g.items

conflict-fine : (x : TokenConflictDeclaration ℕ) → GoodTokenConflict (on_token_conflict less x) → FineConflict x
conflict-fine x g = (reference-fine x.left g.left, reference-fine x.right g.right)

declaration-fine : (d : Declaration ℕ) → GoodDeclaration (on_declaration less d) → FineDeclaration d
unfolding on_declaration FineDeclaration
declaration-fine (top_rule r) (good-top g) = rule-fine r g
declaration-fine (rule r) (good-rule g) = rule-fine r g
declaration-fine (tokens x) (good-tokens a b c d) =
    (every_all (on_token_prec less) prec-fine x.precedences a, every_all (on_token_conflict less) conflict-fine x.conflicts b, every_all (on_rule less) rule-fine x.rules c)
declaration-fine (local_tokens x) (good_local a b c) = (every_all (on_token_prec less) prec-fine x.precedences a, every_all (on_rule less) rule-fine x.rules b)
declaration-fine (context x) g = tt
declaration-fine (external_tokens x) g = tt
declaration-fine (external_specializer x) (good_specializer a b c) = outer-fine x.token a
declaration-fine (external_prop_source x) g = tt
declaration-fine (precedences x) g = tt
declaration-fine (main_skip e) (good-skip a) = outer-fine e a
declaration-fine (scoped_skip x) (good_scoped a b c) = (outer-fine x.expression a, every_all (on_rule less) rule-fine x.top_rules b, every_all (on_rule less) rule-fine x.rules c)

-- ------------------------------------------------------------------ declarations stand in groups

-- if a grammar is read, its declarations do
abbrev Groups : Answer ℕ (GrammarDeclaration ℕ) → Type 0
Groups (read g ts) = Grouped g
Groups (refused n p) = Unit {0}

then-groups : {A : Type 0} (r : Answer ℕ A) (k : A → Parser ℕ (GrammarDeclaration ℕ)) → ((a : A) (ts : Tokens ℕ) → Groups (k a ts)) → Groups (and_then r k)
unfolding and_then
then-groups (read a ts) k h = h a ts
then-groups (refused n p) k h = tt

bind-groups : {A : Type 0} (p : Parser ℕ A) (k : A → Parser ℕ (GrammarDeclaration ℕ)) → ((a : A) (ts : Tokens ℕ) → Groups (k a ts)) → (ts : Tokens ℕ) → Groups ((p >>= k) ts)
unfolding ◌>>=◌
bind-groups p k h ts = then-groups (p ts) k h

finish-groups : (b : Bool) (p : ℕ) (ms : List (Member ℕ)) (ts : Tokens ℕ) → Groups (choose b (pure (grammar_of p ms)) (refuse_here no_top) ts)
unfolding choose pure refuse_here grammar_of
finish-groups true p ms ts = grouped_twice (picked declared ms)
finish-groups false p ms ts = tt

parse-groups : (ts : Tokens ℕ) → Groups (parse ts)
unfolding parse
parse-groups ts =
    bind-groups arrive _ (λ u. bind-groups here _ (λ p. bind-groups _ _ (λ ms. finish-groups (has_top (picked declared ms)) p ms))) ts

-- ------------------------------------------------------------------ the whole

module _ (g : GrammarDeclaration ℕ) where
  answer-groups : (ts : Tokens ℕ) (a : Answer ℕ (GrammarDeclaration ℕ)) → parse_grammar ts ≡ a → answered a ≡ tree g → Grouped g
  answer-groups ts (read h us) e q = let same : h ≡ g = cc in let k : Groups (read h us) = rw (sym (grammar-parse ts) ∙ e) at (parse-groups ts) in rw same at k
  answer-groups ts (refused n p) e q = not_tree q

  checked-groups : (text : List ℕ) (c : Result (Unit {0}) IllFormed) → read_checked text c ≡ tree g → Grouped g
  checked-groups text (Ok checked) e = answer-groups (lexed (codes text)) (parse_grammar (lexed (codes text))) refl e
  checked-groups text (Err d) e = not_tree e

  reading-groups : (text : List ℕ) → reading text ≡ tree g → Grouped g
  reading-groups text e = go (ltb longest (length text)) (sym (reading-of text) ∙ e)
    where
      go : (b : Bool) → elim b [ true ↦ stopped 1 0 | false ↦ read_checked text (check text) ] ≡ tree g → Grouped g
      go true q = not_tree q
      go false q = checked-groups text (check text) q

  grammar-fine : (text : List ℕ) → reading text ≡ tree g → FineGrammar g
  unfolding on_grammar
  grammar-fine text e =
      let good = accepted-good g text e in
      record { grouped = reading-groups text e; declarations = every_all (on_declaration less) declaration-fine g.declarations good.declarations }

pub stored-is_one_tree : StoredIsOneTree
unfolding grammar_words grammar_texts grammar_records
stored-is_one_tree text g behind e =
    (builds_what_is-a_tree (λ k. eqb k 1) (grammar_words g) (grammar_texts g ++ behind) (grammar_branch g)).0 (grammar-encoded g behind (grammar-fine g text e))
