-- Declarations at top level: what is read and stored of one, from what is read and stored of its parts.
-- Assumes nothing.
use Prim.Native.Nat.{ℕ, ◌≤◌}
use Prim.Native.String.{String as Quoted}
use native.Mathlib.Omega.{arith}
use mathlib.Core.Path.{◌≡◌, refl, ◌∙◌}
use mathlib.Core.Bool.{Bool, true, false}
use mathlib.Core.List.{List, [], ◌∷◌, append-nil}
use mathlib.Core.Option as M
use mathlib.Core.Option.{none, some}
use Rattle.std.specs.Prelude.{Option, Some, None, Result, Ok, Err}
use Rattle.std.specs.Option.{is_some}
use Rattle.error.specs.declared.Stop.{Stop}
use lib.Dec.{eqb}
use lib.ListN.{length}
use Rattle.basics.specs.Basics.{if◌then◌otherwise◌, letters, picked}
use Rattle.error.specs.Causes.{top_without_name, second_context}
use Rattle.lexer.specs.Tokens.{Tokens}
use Rattle.lexer.specs.Promise.{part_of, is_plain}
use Rattle.tree.specs.Records.{Node, nodes}
use Rattle.tree.specs.Stored.{declaration_branch, rule_branch, external_prop_branch, name_branch}
use Rattle.tree.specs.Syntax.{Identifier, Expression, SpecializeKind, RuleDeclaration, ExternalPropDeclaration, Declaration, declaration_kind, has_kind}
use Rattle.notation.specs.Parser.{Answer, read, refused, Parser, and_then, ◌>>=◌, pure, refuse, choose, here, kind, name_in, next, refuse_here, says, parse_identifier}
use Rattle.notation.specs.Expressions.{parse_braced_expression, outermost}
use Rattle.notation.specs.Members.{Member, declaration, dialects, external_prop, detect_delim}
use Rattle.notation.specs.Declarations.{names, is_top, seen, top_by, parse_rule, parse_source, declares, parse_context_declaration, parse_external_token_set, parse_external_tokens, parse_external_specializer, parse_external_prop_source, parse_external_prop, external_by, parse_external_declaration, parse_directive, declaration_by, parse_declaration}
use Rattle.tokens.specs.Promise.{stream, start_in, end_in, name_of, at_of, text_in, LiesIn, Says}
use Rattle.parser.specs.Storing.{Lent, lent, flat, nodes_of}
use Rattle.parser.specs.Steps.{placed, Onward, Lays, Ready, Gives, Parses, Lists}
use Rattle.parser.specs.Shapes.{IsToken}
use Rattle.lexer.specs.declared.Token.{Token}
use Rattle.lexer.specs.declared.Part.{Part}
use Rattle.tokens.proofs.Stream.{start-of, name-of, at-of}
use Rattle.parser.proofs.Onward.{start_small, next-onward, onward_then, onward-least}
use Rattle.parser.proofs.Lists.{flat-none, lays-none, lays-between}
use Rattle.parser.proofs.Ready.{ready_step}
use Rattle.declarations.specs.Sources.{IdSource, from_source, from_branch}
use Rattle.reader.specs.Directives.{past, top_at, prop_at, dialects_at, member_kind, member_branches, member_top, SeenIs, Declares, DeclaresTo}
use Rattle.reader.specs.declared.directives.Seen.{Seen}
use Rattle.reader.specs.declared.directives.Declared.{Declared}

-- ------------------------------------------------------------------ one thing made of another

module _ {A B : Type 0} (f : A → B) (g : A → List Node) (h : B → List Node) (same : (x : A) → h (f x) ≡ g x) (D : Answer ℕ A) (E : Answer ℕ B)
    (e : E ≡ and_then D (λ x. pure (f x))) (s : List ℕ) (t : Token) (a c : Lent) where
  pub parses_as : (r : Result Token Stop) → Parses D g s t a c r → Parses E h s t a c r
  unfolding and_then pure
  parses_as (Ok u) p = record { value = f p.value; gives = e ∙ rw p.gives; onward = p.onward; lays = rw (same p.value) p.lays }
  parses_as (Err d) p = e ∙ rw p

-- ------------------------------------------------------------------ after a token

-- a token's start lies in the text
pub start-within : {s : List ℕ} {t : Token} {a : Lent} {p : ℕ} → Ready s t a → p ≡ start_in t → p ≤ length s
start-within {s} {t} r e = rw e (start_small s t r.lies)

-- where nothing is lent, what is taken stays small
pub ready-first : {s : List ℕ} {t : Token} {a : Lent} → Ready s t a → Ready s t (lent 0 [] 0 [])
ready-first r = let c = r.small in record { lies = r.lies; small = r.small; room = omega arith; space = omega arith }

module _ {A : Type 0} (m : Parser ℕ A) (ts : Tokens ℕ) where
  past_halt : {c p : ℕ} → next ts ≡ refused c p → past m ts ≡ refused c p
  unfolding ◌>>=◌ and_then
  past_halt e = rw e

  past-read : {us : Tokens ℕ} → next ts ≡ read tt us → past m ts ≡ m us
  unfolding ◌>>=◌ and_then
  past-read e = rw e

  -- what is made of it afterwards
  pub past-then : {B : Type 0} (f : A → Parser ℕ B) → past (m >>= f) ts ≡ and_then (past m ts) f
  unfolding ◌>>=◌ and_then
  past-then {B} f = go (next ts)
    where
      go : (a : Answer ℕ (Unit {0})) → and_then a (λ _. m >>= f) ≡ and_then (and_then a (λ _. m)) f
      go (read x us) = refl
      go (refused c p) = refl

module _ (s : List ℕ) (t : Token) where
  pub past_not : {A : Type 0} (m : Parser ℕ A) {c p : ℕ} → next (stream s t) ≡ refused c p → past m (stream s t) ≡ refused c p
  past_not m e = past_halt m (stream s t) e

  module _ (u : Token) (h : (next (stream s t) ≡ read tt (stream s u)) × LiesIn s (end_in t) u) where
    pub past-at : {A : Type 0} (m : Parser ℕ A) → past m (stream s t) ≡ m (stream s u)
    past-at m = past-read m (stream s t) h.0

    module _ (i : IsToken t) (l : LiesIn s 0 t) where
      pub past-onward : Onward s t u 1
      past-onward = next-onward s t i l h

      pub past_ready : {a : Lent} → Ready s t a → Ready s u a
      past_ready y = ready_step y past-onward

      pub past-lays : {v : Token} {xs : List Node} {a b : Lent} → Lays s u v 0 xs a b → Lays s t v 0 xs a b
      past-lays y = let o = past-onward.ahead in lays-between 0 y (omega arith) (omega arith) (omega arith)

      pub parses_past : {A : Type 0} (m : Parser ℕ A) (g : A → List Node) (a c : Lent) (p : Result Token Stop) → Parses (m (stream s u)) g s u a c p → Parses (past m (stream s t)) g s t a c p
      parses_past m g a c (Ok v) f =
          record {
            value = f.value;
            gives = past-at m ∙ f.gives;
            onward = onward-least 1 (onward_then past-onward f.onward) (omega arith);
            lays = past-lays f.lays;
          }
      parses_past m g a c (Err e) f = past-at m ∙ f

-- ------------------------------------------------------------------ top rules

module _ (s : List ℕ) (u : Token) where
  top-by : top_at (stream s u) ≡ top_by (text_in s (name_of u)) (stream s u)
  unfolding ◌>>=◌ and_then kind
  top-by = rw (name-of s u)

  pub top-nameless : {p : ℕ} → is_some (name_of u) ≡ false → p ≡ start_in u → top_at (stream s u) ≡ refused top_without_name p
  unfolding top_by refuse_here
  top-nameless {p} e q = go (name_of u) refl e
    where
      go : (o : Option Part) → name_of u ≡ o → is_some o ≡ false → top_at (stream s u) ≡ refused top_without_name p
      go None f e = top-by ∙ rw (f, top_by, start-of s u, q)
      go (Some a) f e = absurd (let z : ◌≡◌ {A = ℕ} 0 1 = cc in omega arith)

  pub top-named : is_some (name_of u) ≡ true → top_at (stream s u) ≡ and_then (parse_rule (stream s u)) (λ r. pure (Declaration.top_rule r))
  unfolding top_by ◌>>=◌
  top-named e = go (name_of u) refl e
    where
      go : (o : Option Part) → name_of u ≡ o → is_some o ≡ true → top_at (stream s u) ≡ and_then (parse_rule (stream s u)) (λ r. pure (Declaration.top_rule r))
      go (Some a) f e = top-by ∙ rw (f, top_by)
      go None f e = absurd (let z : ◌≡◌ {A = ℕ} 0 1 = cc in omega arith)

pub top-nodes : (r : RuleDeclaration ℕ) → nodes (declaration_branch (Declaration.top_rule r)) ≡ nodes (rule_branch 2 r)
unfolding declaration_branch
top-nodes r = refl

-- ------------------------------------------------------------------ a name and its source

module _ {B : Type 0} (f : (id source : List ℕ) → B) (ts : Tokens ℕ) where
  from-made : (parse_identifier >>= λ n. parse_source >>= λ s. pure (f n.name s)) ts ≡ and_then (from_source ts) (λ x. pure (f x.id x.source))
  unfolding from_source ◌>>=◌ and_then pure
  from-made = go (parse_identifier ts)
    where
      behind : (n : Identifier ℕ) (d : Answer ℕ (List ℕ))
          → and_then d (λ s. pure (f n.name s)) ≡ and_then (and_then d (λ s. pure (record { id = n.name; source = s }))) (λ (x : IdSource). pure (f x.id x.source))
      behind n (read s us) = refl
      behind n (refused c p) = refl

      go : (d : Answer ℕ (Identifier ℕ)) → and_then d (λ n. parse_source >>= λ s. pure (f n.name s))
          ≡ and_then (and_then d (λ n. parse_source >>= λ s. pure (record { id = n.name; source = s }))) (λ (x : IdSource). pure (f x.id x.source))
      go (read n us) = behind n (parse_source us)
      go (refused c p) = refl

-- prop sources
abbrev pub prop_source_by : (start : ℕ) → IdSource → Declaration ℕ
prop_source_by p x = Declaration.external_prop_source (record { start = p; id = x.id; source = x.source })

pub prop-source-is : (p : ℕ) (ts : Tokens ℕ) → parse_external_prop_source p ts ≡ and_then (from_source ts) (λ x. pure (prop_source_by p x))
unfolding parse_external_prop_source
prop-source-is p ts = from-made (λ n s. Declaration.external_prop_source (record { start = p; id = n; source = s })) ts

pub prop-source-nodes : (p : ℕ) (x : IdSource) → nodes (declaration_branch (prop_source_by p x)) ≡ nodes (from_branch 19 p x)
unfolding declaration_branch
prop-source-nodes p x = refl

-- contexts
abbrev pub context_by : (start : ℕ) → IdSource → Declaration ℕ
context_by p x = Declaration.context (record { start = p; id = x.id; source = x.source })

pub context-nodes : (p : ℕ) (x : IdSource) → nodes (declaration_branch (context_by p x)) ≡ nodes (from_branch 14 p x)
unfolding declaration_branch
context-nodes p x = refl

module _ (p : ℕ) (before : List (Member ℕ)) (ts : Tokens ℕ) where
  context-again : seen 14 before ≡ true → declares (parse_context_declaration p before) ts ≡ refused second_context p
  unfolding parse_context_declaration ◌>>=◌ and_then choose refuse
  context-again e = rw (parse_context_declaration, e)

  context-is : seen 14 before ≡ false → declares (parse_context_declaration p before) ts ≡ and_then (from_source ts) (λ x. pure (declaration (context_by p x)))
  unfolding parse_context_declaration ◌>>=◌ choose and_then pure
  context-is e = rw (parse_context_declaration, e, choose, from-made (λ n s. Declaration.context (record { start = p; id = n; source = s })) ts) (go (from_source ts))
    where
      go : (d : Answer ℕ IdSource) → and_then (and_then d (λ x. pure (context_by p x))) (λ x. pure (declaration x)) ≡ and_then d (λ x. pure (declaration (context_by p x)))
      go (read x us) = refl
      go (refused c q) = refl

-- ------------------------------------------------------------------ declarations

-- a member that is no list of dialects
pub record Plain (m : Member ℕ) (kind : ℕ) (top : Bool) (xs : List Node) : Type 0 where
  pub kinds : member_kind m ≡ kind
  pub tops : member_top m ≡ top
  pub other : (ns : List (Identifier ℕ)) → m ≡ dialects ns → ⊥
  pub stored : flat nodes (member_branches m) ≡ xs

pub plain-declaration : (d : Declaration ℕ) {kind : ℕ} {top : Bool} → declaration_kind d ≡ kind → is_top d ≡ top → Plain (declaration d) kind top (nodes (declaration_branch d))
unfolding flat
plain-declaration d e f =
    record { kinds = e; tops = f; other = λ ns q. absurd (let z : ◌≡◌ {A = ℕ} 0 1 = cc in omega arith); stored = append-nil (nodes (declaration_branch d)) }

pub plain-prop : (x : ExternalPropDeclaration ℕ) → Plain (external_prop x) 25 false (nodes (external_prop_branch x))
unfolding flat
plain-prop x = record { kinds = refl; tops = refl; other = λ ns q. absurd (let z : ◌≡◌ {A = ℕ} 0 1 = cc in omega arith); stored = append-nil (nodes (external_prop_branch x)) }

pub context-plain : (p : ℕ) (x : IdSource) → Plain (declaration (context_by p x)) 14 false (nodes (from_branch 14 p x))
context-plain p x = rw (← context-nodes p x) (plain-declaration (context_by p x) refl refl)

pub rule-plain : (x : RuleDeclaration ℕ) → Plain (declaration (Declaration.rule x)) 3 false (nodes (rule_branch 3 x))
unfolding declaration_branch
rule-plain x = plain-declaration (Declaration.rule x) refl refl

-- what is read is made a member of a kind
module _ {A : Type 0} (make : A → Member ℕ) (D : Answer ℕ A) (E : List (Member ℕ) → Answer ℕ (Member ℕ)) (g : A → List Node) (kind : ℕ) (top : Bool)
    (k : Seen) (s : List ℕ) (t : Token) (a c : Lent) (is : (before : List (Member ℕ)) → SeenIs k before → E before ≡ and_then D (λ x. pure (make x)))
    (plain : (x : A) (us : Tokens ℕ) → D ≡ read x us → Plain (make x) kind top (g x)) where
  pub declares-by : {u : Token} → Gives D g s t a u c → Declares E k s t a u c kind top
  unfolding and_then pure
  declares-by {u} f =
      let y = plain f.value (stream s u) f.gives in
      record {
        value = make f.value;
        gives = λ before q. is before q ∙ rw f.gives;
        onward = f.onward;
        kinds = y.kinds;
        tops = y.tops;
        named = λ ns q. absurd (y.other ns q);
        lays = rw y.stored f.lays;
      }

-- a refusal of what it is made of is one of the member
module _ {A : Type 0} (make : A → Member ℕ) (D : Answer ℕ A) (E : List (Member ℕ) → Answer ℕ (Member ℕ)) (k : Seen)
    (is : (before : List (Member ℕ)) → SeenIs k before → E before ≡ and_then D (λ x. pure (make x))) where
  pub declares_not : {n p : ℕ} → D ≡ refused n p → (before : List (Member ℕ)) → SeenIs k before → E before ≡ refused n p
  unfolding and_then
  declares_not f before q = is before q ∙ rw f

-- the same by another definition
module _ (D E : List (Member ℕ) → Answer ℕ (Member ℕ)) (k : Seen) (s : List ℕ) (t : Token) (a c : Lent)
    (is : (before : List (Member ℕ)) → SeenIs k before → E before ≡ D before) where
  pub declares_as : (r : Result Declared Stop) → DeclaresTo D k s t a c r → DeclaresTo E k s t a c r
  declares_as (Ok d) f =
      record {
        value = f.value;
        gives = λ before q. is before q ∙ f.gives before q;
        onward = f.onward;
        kinds = f.kinds;
        tops = f.tops;
        named = f.named;
        lays = f.lays;
      }
  declares_as (Err e) f = λ before q. is before q ∙ f before q

-- ------------------------------------------------------------------ contexts, delimiters, dialects

module _ (k : Seen) (s : List ℕ) (t u : Token) (h : (next (stream s t) ≡ read tt (stream s u)) × LiesIn s (end_in t) u) where
  pub context-second : {p : ℕ} (before : List (Member ℕ)) → SeenIs k before → k.context ≡ true → p ≡ start_in t
      → past (declares (parse_context_declaration (start_in t) before)) (stream s t) ≡ refused second_context p
  context-second before w e z = past-at s t u h _ ∙ context-again (start_in t) before (stream s u) (w.context ∙ e) ∙ rw z

  pub context-first : (before : List (Member ℕ)) → SeenIs k before → k.context ≡ false
      → past (declares (parse_context_declaration (start_in t) before)) (stream s t) ≡ and_then (past from_source (stream s t)) (λ x. pure (declaration (context_by (start_in t) x)))
  context-first before w e = past-at s t u h _ ∙ context-is (start_in t) before (stream s u) (w.context ∙ e) ∙ rw (past-at s t u h from_source)

  pub dialects-refused : {c p : ℕ} → names (stream s u) ≡ refused c p → past dialects_at (stream s t) ≡ refused c p
  unfolding ◌>>=◌ and_then
  dialects-refused e = past-at s t u h dialects_at ∙ rw e

  module _ (i : IsToken t) (l : LiesIn s 0 t) where
    -- nothing is stored up to a token
    lays-nothing : {v : Token} (a : Lent) → placed s t ≤ placed s v → Lays s t v 0 (flat nodes []) a a
    lays-nothing a o = rw (flat-none nodes) (lays-between 0 (lays-none t 0 a) (omega arith) o (omega arith))

    pub detect_declares : (a : Lent) → Declares (λ _. past (pure detect_delim) (stream s t)) k s t a u a 1 false
    unfolding pure
    detect_declares a =
        let o = past-onward s t u h i l in
        let w = o.ahead in
        record {
          value = detect_delim;
          gives = λ before z. past-at s t u h (pure detect_delim);
          onward = o;
          kinds = refl;
          tops = refl;
          named = λ ns z. absurd (let y : ◌≡◌ {A = ℕ} 0 1 = cc in omega arith);
          lays = lays-nothing a (omega arith);
        }

    -- names that were read where nothing is lent
    pub dialects-declares : (a : Lent) {v : Token} {b c : Lent} {count : ℕ} → Lists (names (stream s u)) (nodes_of (name_branch 24)) s u 2 b v c count
        → Declares (λ _. past dialects_at (stream s t)) k s t a v a 24 false
    unfolding ◌>>=◌ and_then pure
    dialects-declares a f =
        let o = onward_then (past-onward s t u h i l) f.onward in
        let w = o.ahead in
        record {
          value = dialects f.items;
          gives = λ before z. past-at s t u h dialects_at ∙ rw f.gives;
          onward = onward-least 1 o (omega arith);
          kinds = refl;
          tops = refl;
          named = λ ns z. let y : f.items ≡ ns = cc in past-at s t u h names ∙ f.gives ∙ rw y;
          lays = lays-nothing a (omega arith);
        }

-- ------------------------------------------------------------------ what is true of all that is read

abbrev Answers : {A : Type 0} → (A → Type 0) → Answer ℕ A → Type 0
Answers P (read x us) = P x
Answers P (refused c p) = Unit {0}

module _ {A B : Type 0} (P : B → Type 0) (f : A → Parser ℕ B) where
  answers-then : ((x : A) (us : Tokens ℕ) → Answers P (f x us)) → (d : Answer ℕ A) → Answers P (and_then d f)
  unfolding and_then
  answers-then h (read x us) = h x us
  answers-then h (refused c p) = tt

-- a declaration is of a kind
abbrev IsOf : (kind : ℕ) → (top : Bool) → Declaration ℕ → Type 0
IsOf k top d = (declaration_kind d ≡ k) × (is_top d ≡ top)

top-by-kind : (o : M.Option (List ℕ)) (ts : Tokens ℕ) → Answers (IsOf 2 true) (top_by o ts)
unfolding top_by refuse_here ◌>>=◌ pure
top-by-kind none ts = tt
top-by-kind (some n) ts = answers-then (IsOf 2 true) (λ r. pure (Declaration.top_rule r)) (λ r us. (refl, refl)) (parse_rule ts)

pub top-kind : (ts : Tokens ℕ) → Answers (IsOf 2 true) (past top_at ts)
unfolding ◌>>=◌
top-kind ts = answers-then (IsOf 2 true) (λ _. top_at) (λ x us. answers-then (IsOf 2 true) (λ k. top_by (name_in k)) (λ k vs. top-by-kind (name_in k) vs) (kind us)) (next ts)

pub plain_of : {k : ℕ} {top : Bool} (D : Answer ℕ (Declaration ℕ)) → Answers (IsOf k top) D → (d : Declaration ℕ) (us : Tokens ℕ) → D ≡ read d us → Plain (declaration d) k top (nodes (declaration_branch d))
plain_of {k} {top} D h d us e = let y : Answers (IsOf k top) (read d us) = rw e at h in plain-declaration d y.0 y.1

-- ------------------------------------------------------------------ `@external`

module _ (p : ℕ) where
  pub tokens-kind : (ts : Tokens ℕ) → Answers (IsOf 16 false) (past (parse_external_tokens p) ts)
  unfolding parse_external_tokens ◌>>=◌ pure
  tokens-kind ts =
      answers-then (IsOf 16 false) _ (λ _ us. answers-then (IsOf 16 false) _ (λ n vs. answers-then (IsOf 16 false) _ (λ s xs. answers-then (IsOf 16 false) _ (λ ms ys. (refl, refl)) (parse_external_token_set true xs))
      (parse_source vs)) (parse_identifier us)) (next ts)

  pub specializer_kind : (k : SpecializeKind) (ts : Tokens ℕ) → Answers (IsOf 18 false) (past (parse_external_specializer p k) ts)
  unfolding parse_external_specializer ◌>>=◌ pure
  specializer_kind k ts =
      answers-then (IsOf 18 false) _ (λ _ us. answers-then (IsOf 18 false) _ (λ e ws. answers-then (IsOf 18 false) _ (λ n vs. answers-then (IsOf 18 false) _ (λ s xs. answers-then (IsOf 18 false) _
      (λ ms ys. (refl, refl)) (parse_external_token_set false xs)) (parse_source vs)) (parse_identifier ws)) (parse_braced_expression outermost us)) (next ts)

  pub prop-source-kind : (ts : Tokens ℕ) → Answers (IsOf 19 false) (past (parse_external_prop_source p) ts)
  unfolding parse_external_prop_source ◌>>=◌ pure
  prop-source-kind ts =
      answers-then (IsOf 19 false) _ (λ _ us. answers-then (IsOf 19 false) _ (λ n vs. answers-then (IsOf 19 false) _ (λ s xs. (refl, refl)) (parse_source vs)) (parse_identifier us)) (next ts)

-- a word is said, or not
pub says-word : (w : Quoted) {s : List ℕ} {part : Option Part} {b : Bool} → is_plain (letters w) ≡ true → Says s part (letters w) b → {whole : Option Part} → part ≡ whole → {c : Bool} → b ≡ c → says w (text_in s whole) ≡ c
says-word w p h e f = rw (← e, ← f) (h.said w refl p)

-- no list of dialects
abbrev IsOther : Member ℕ → Type 0
IsOther m = (ns : List (Identifier ℕ)) → m ≡ dialects ns → ⊥

declares-other : (m : Parser ℕ (Declaration ℕ)) (ts : Tokens ℕ) → Answers IsOther (past (declares m) ts)
unfolding ◌>>=◌ pure
declares-other m ts =
    answers-then IsOther (λ _. declares m) (λ _ us. answers-then IsOther (λ d. pure (declaration d)) (λ d vs ns q. absurd (let z : ◌≡◌ {A = ℕ} 0 1 = cc in omega arith)) (m us)) (next ts)

prop-other : (p : ℕ) (ts : Tokens ℕ) → Answers IsOther (past (prop_at p) ts)
unfolding ◌>>=◌ pure
prop-other p ts =
    answers-then IsOther (λ _. prop_at p) (λ _ us. answers-then IsOther (λ x. pure (external_prop x)) (λ x vs ns q. absurd (let z : ◌≡◌ {A = ℕ} 0 1 = cc in omega arith)) (parse_external_prop p us)) (next ts)

if_other : (b : Bool) (m n : Parser ℕ (Member ℕ)) (ts : Tokens ℕ) → Answers IsOther (m ts) → Answers IsOther (n ts) → Answers IsOther ((if b then m otherwise n) ts)
if_other true m n ts h k = h
if_other false m n ts h k = k

external-by-other : (p : ℕ) (o : M.Option (List ℕ)) (ts : Tokens ℕ) → Answers IsOther (external_by p o ts)
unfolding external_by refuse_here
external-by-other p o ts =
    if_other (says "tokens" o) _ _ ts (declares-other (parse_external_tokens p) ts)
    (if_other (says "prop" o) _ _ ts (prop-other p ts)
    (if_other (says "extend" o) _ _ ts (declares-other (parse_external_specializer p SpecializeKind.extend) ts)
    (if_other (says "specialize" o) _ _ ts (declares-other (parse_external_specializer p SpecializeKind.specialize) ts)
    (if_other (says "propSource" o) _ _ ts (declares-other (parse_external_prop_source p) ts) tt))))

external-kind : (p : ℕ) (ts : Tokens ℕ) → Answers IsOther (parse_external_declaration p ts)
unfolding parse_external_declaration ◌>>=◌
external-kind p ts = answers-then IsOther (λ k. external_by p (name_in k)) (λ k us. external-by-other p (name_in k) us) (kind ts)

-- members of which just the kinds of those that were seen are
abbrev begun : Bool → Declaration ℕ → List (Member ℕ) → List (Member ℕ)
begun true d ms = declaration d ∷ ms
begun false d ms = ms

module _ (k : ℕ) where
  seen_none : seen {S = ℕ} k [] ≡ false
  unfolding picked has_kind
  seen_none = refl

  seen_same : (b : Bool) (d : Declaration ℕ) (ms : List (Member ℕ)) → eqb (declaration_kind d) k ≡ true → seen k ms ≡ false → seen k (begun b d ms) ≡ b
  unfolding picked has_kind
  seen_same true d ms e f = rw e
  seen_same false d ms e f = f

  seen_other : (b : Bool) (d : Declaration ℕ) (ms : List (Member ℕ)) → eqb (declaration_kind d) k ≡ false → seen k (begun b d ms) ≡ seen k ms
  unfolding picked has_kind
  seen_other true d ms e = rw e
  seen_other false d ms e = refl

abbrev no_tokens : Declaration ℕ
no_tokens = Declaration.tokens (record { start = 0; precedences = []; conflicts = []; rules = []; literals = [] })

abbrev no_context : Declaration ℕ
no_context = context_by 0 (record { id = []; source = [] })

abbrev no_items : Declaration ℕ
no_items = Declaration.precedences (record { start = 0; items = [] })

abbrev no_skip : Declaration ℕ
no_skip = Declaration.main_skip (Expression.any 0)

abbrev pub before_of : Seen → List (Member ℕ)
before_of k = begun k.tokens no_tokens (begun k.context no_context (begun k.precedence no_items (begun k.skip no_skip [])))

pub before-seen : (k : Seen) → SeenIs k (before_of k)
before-seen k =
    record {
      tokens = seen_same 8 k.tokens no_tokens _ refl (seen_other 8 k.context no_context _ refl ∙ seen_other 8 k.precedence no_items _ refl ∙ seen_other 8 k.skip no_skip _ refl ∙ seen_none 8);
      context = seen_other 14 k.tokens no_tokens _ refl ∙ seen_same 14 k.context no_context _ refl (seen_other 14 k.precedence no_items _ refl ∙ seen_other 14 k.skip no_skip _ refl ∙ seen_none 14);
      precedence = seen_other 20 k.tokens no_tokens _ refl ∙ seen_other 20 k.context no_context _ refl ∙ seen_same 20 k.precedence no_items _ refl (seen_other 20 k.skip no_skip _ refl ∙ seen_none 20);
      skip = seen_other 22 k.tokens no_tokens _ refl ∙ seen_other 22 k.context no_context _ refl ∙ seen_other 22 k.precedence no_items _ refl ∙ seen_same 22 k.skip no_skip _ refl (seen_none 22);
    }

-- after its keyword
module _ (k : Seen) (s : List ℕ) (t u : Token) (h : (next (stream s t) ≡ read tt (stream s u)) × LiesIn s (end_in t) u) (i : IsToken t) (l : LiesIn s 0 t) where
  pub external-past : (p : ℕ) (a c : Lent) (r : Result Declared Stop) → DeclaresTo (λ _. parse_external_declaration p (stream s u)) k s u a c r
      → DeclaresTo (λ _. past (parse_external_declaration p) (stream s t)) k s t a c r
  external-past p a c (Ok d) f =
      let y : Answers IsOther (read f.value (stream s d.token)) = rw (f.gives (before_of k) (before-seen k)) at (external-kind p (stream s u)) in
      record {
        value = f.value;
        gives = λ before z. past-at s t u h (parse_external_declaration p) ∙ f.gives before z;
        onward = onward-least 1 (onward_then (past-onward s t u h i l) f.onward) (omega arith);
        kinds = f.kinds;
        tops = f.tops;
        named = λ ns z. absurd (y ns z);
        lays = past-lays s t u h i l f.lays;
      }
  external-past p a c (Err e) f = λ before z. past-at s t u h (parse_external_declaration p) ∙ f before z

-- ------------------------------------------------------------------ by the keyword

module _ (s : List ℕ) (t : Token) (before : List (Member ℕ)) where
  pub declaration-rule : at_of t ≡ None → parse_declaration before (stream s t) ≡ and_then (parse_rule (stream s t)) (λ r. pure (declaration (Declaration.rule r)))
  unfolding parse_declaration here kind declaration_by ◌>>=◌ and_then
  declaration-rule e = rw (parse_declaration, start-of s t, at-of s t, e)

  pub declaration-directive : {a : Part} → at_of t ≡ Some a → parse_declaration before (stream s t) ≡ parse_directive (start_in t) before (part_of s a) (stream s t)
  unfolding parse_declaration here kind declaration_by ◌>>=◌ and_then
  declaration-directive e = rw (parse_declaration, start-of s t, at-of s t, e)
