-- What is read has the kind that its first tokens tell.
-- Assumes nothing.
use Prim.Native.Nat.{ℕ}
use native.Mathlib.Omega.{arith}
use mathlib.Core.Path.{◌≡◌, refl}
use Rattle.std.specs.Prelude as Std
use Rattle.std.specs.Prelude.{None, Some}
use Rattle.std.specs.Option.{is_some}
use Rattle.lexer.specs.declared.Part.{Part}
use mathlib.Core.Bool.{Bool, true, false, not}
use mathlib.Core.List.{List}
use mathlib.Core.Option.{Option, none, some}
use Rattle.basics.specs.Basics.{if◌then◌otherwise◌, spells}
use Rattle.lexer.specs.Tokens.{Tokens}
use Rattle.tree.specs.Syntax.{SpecializeKind, Declaration, declaration_kind}
use Rattle.notation.specs.Parser.{Answer, read, refused, Parser, and_then, ◌>>=◌, pure, refuse, choose, here, start_of, kind, kind_of, name_in, at_in, next, says, refuse_here}
use Rattle.notation.specs.Members.{Member, declaration, dialects, external_prop, detect_delim}
use Rattle.notation.specs.Declarations.{top_by, parse_context_declaration, parse_external_tokens, parse_external_specializer, parse_external_prop_source, external_by, parse_external_declaration, parse_directive, declaration_by, parse_declaration}
use Rattle.tokens.specs.Promise.{stream, name_of, at_of, text_in}
use Rattle.lexer.specs.declared.Token.{Token}
use Rattle.tokens.proofs.Stream.{name-of, at-of}
use Rattle.reader.specs.Directives.{member_kind}
use Rattle.reader.specs.Ahead.{external_kind, external_ahead, plain_kind, keyword_kind, kind_ahead}

-- ------------------------------------------------------------------ parsers that read one kind

-- what is read has the kind that is known ahead; 0 is none
pub record Yields {A : Type 0} (of : A → ℕ) (ahead : ℕ) (d : Answer ℕ A) : Type 0 where
  pub are : (x : A) (us : Tokens ℕ) → d ≡ read x us → (ahead ≡ 0 → ⊥) → of x ≡ ahead

module _ {A : Type 0} {of : A → ℕ} {k : ℕ} where
  pub yields_not : {c p : ℕ} → Yields of k (refused c p)
  yields_not = record { are = λ x us e n. absurd (let z : ◌≡◌ {A = ℕ} 0 1 = cc in omega arith) }

  pub yields-pure : (a : A) (ts : Tokens ℕ) → of a ≡ k → Yields of k (pure a ts)
  unfolding pure
  yields-pure a ts e = record { are = λ x us q n. let z : a ≡ x = cc in rw z at e }

  -- whatever is read before it
  pub yields-then : {B : Type 0} (d : Answer ℕ B) (f : B → Parser ℕ A) → ((b : B) (ts : Tokens ℕ) → Yields of k (f b ts)) → Yields of k (and_then d f)
  unfolding and_then
  yields-then (read b ts) f h = h b ts
  yields-then (refused c p) f h = yields_not

  pub yields-choose : (b : Bool) (m n : Parser ℕ A) (ts : Tokens ℕ) → Yields of k (m ts) → Yields of k (n ts) → Yields of k (choose b m n ts)
  unfolding choose
  yields-choose true m n ts h i = h
  yields-choose false m n ts h i = i

  pub yields_if : {j : ℕ} (b : Bool) (m n : Parser ℕ A) (ts : Tokens ℕ) → Yields of j (m ts) → Yields of k (n ts) → Yields of (if b then j otherwise k) ((if b then m otherwise n) ts)
  yields_if true m n ts h i = h
  yields_if false m n ts h i = i

pub yields_unknown : {A : Type 0} {of : A → ℕ} (d : Answer ℕ A) → Yields of 0 d
yields_unknown d = record { are = λ x us e n. absurd (n refl) }

-- a declaration is a member of its kind
pub yields-declares : {k : ℕ} (d : Answer ℕ (Declaration ℕ)) → Yields declaration_kind k d → Yields member_kind k (and_then d (λ x. pure (declaration x)))
unfolding and_then pure
yields-declares (read x ts) h = record { are = λ y us e n. let z : declaration x ≡ y = cc in rw (← z) (h.are x ts refl n) }
yields-declares (refused c p) h = yields_not

-- ------------------------------------------------------------------ by the first tokens

top-yields : (t : Option (List ℕ)) (ts : Tokens ℕ) → Yields declaration_kind 2 (top_by t ts)
unfolding top_by refuse_here ◌>>=◌
top-yields none ts = yields_not
top-yields (some t) ts = yields-then _ _ (λ r us. yields-pure (Declaration.top_rule r) us refl)

context-yields : (p : ℕ) (before : List (Member ℕ)) (ts : Tokens ℕ) → Yields declaration_kind 14 (parse_context_declaration p before ts)
unfolding parse_context_declaration refuse ◌>>=◌
context-yields p before ts =
    yields-choose _ _ _ ts yields_not (yields-then _ _ (λ n us. yields-then _ _ (λ s vs. yields-pure (Declaration.context (record { start = p; id = n.name; source = s })) vs refl)))

tokens-yields : (p : ℕ) (ts : Tokens ℕ) → Yields declaration_kind 16 (parse_external_tokens p ts)
unfolding parse_external_tokens ◌>>=◌
tokens-yields p ts = yields-then _ _ (λ n us. yields-then _ _ (λ s vs. yields-then _ _ (λ ms ws. yields-pure _ ws refl)))

specializer_yields : (p : ℕ) (k : SpecializeKind) (ts : Tokens ℕ) → Yields declaration_kind 18 (parse_external_specializer p k ts)
unfolding parse_external_specializer ◌>>=◌
specializer_yields p k ts = yields-then _ _ (λ e ss. yields-then _ _ (λ n us. yields-then _ _ (λ s vs. yields-then _ _ (λ ms ws. yields-pure _ ws refl))))

source-yields : (p : ℕ) (ts : Tokens ℕ) → Yields declaration_kind 19 (parse_external_prop_source p ts)
unfolding parse_external_prop_source ◌>>=◌
source-yields p ts = yields-then _ _ (λ n us. yields-then _ _ (λ s vs. yields-pure _ vs refl))

external-by : (p : ℕ) (t : Option (List ℕ)) (ts : Tokens ℕ) → Yields member_kind (external_kind t) (external_by p t ts)
unfolding external_by external_kind ◌>>=◌ refuse_here
external-by p t ts =
    yields_if (says "tokens" t) _ _ ts (yields-then _ _ (λ u us. yields-declares _ (tokens-yields p us)))
    (yields_if (says "prop" t) _ _ ts (yields-then _ _ (λ u us. yields-then _ _ (λ x vs. yields-pure (external_prop x) vs refl)))
    (yields_if (says "extend" t) _ _ ts (yields-then _ _ (λ u us. yields-declares _ (specializer_yields p SpecializeKind.extend us)))
    (yields_if (says "specialize" t) _ _ ts (yields-then _ _ (λ u us. yields-declares _ (specializer_yields p SpecializeKind.specialize us)))
    (yields_if (says "propSource" t) _ _ ts (yields-then _ _ (λ u us. yields-declares _ (source-yields p us))) (yields_unknown _)))))

external-yields : (p : ℕ) (d : Answer ℕ (Unit {0})) → Yields member_kind (external_ahead d) (and_then d (λ _. parse_external_declaration p))
unfolding external_ahead parse_external_declaration ◌>>=◌ and_then kind
external-yields p (read u ts) = external-by p (name_in (kind_of ts)) ts
external-yields p (refused c q) = yields_not

directive-yields : (p : ℕ) (before : List (Member ℕ)) (t : List ℕ) (ts : Tokens ℕ) → Yields member_kind (keyword_kind (external_ahead (next ts)) (some t)) (parse_directive p before t ts)
unfolding keyword_kind parse_directive ◌>>=◌ refuse_here
directive-yields p before t ts =
    yields_if (spells "top" t) _ _ ts (yields-then _ _ (λ u us. yields-declares _ (yields-then _ _ (λ k vs. top-yields (name_in k) vs))))
    (yields_if (spells "tokens" t) _ _ ts (yields-choose _ _ _ ts yields_not (yields-then _ _ (λ x us. yields-pure _ us refl)))
    (yields_if (spells "local" t) _ _ ts (yields-then _ _ (λ u us. yields-then _ _ (λ v vs. yields-then _ _ (λ x xs. yields-pure _ xs refl))))
    (yields_if (spells "context" t) _ _ ts (yields-then _ _ (λ u us. yields-declares _ (context-yields p before us)))
    (yields_if (spells "external" t) _ _ ts (external-yields p (next ts))
    (yields_if (spells "dialects" t) _ _ ts (yields-then _ _ (λ u us. yields-then _ _ (λ x vs. yields-pure (dialects x) vs refl)))
    (yields_if (spells "precedence" t) _ _ ts (yields-choose _ _ _ ts yields_not (yields-then _ _ (λ x us. yields-pure _ us refl)))
    (yields_if (spells "detectDelim" t) _ _ ts (yields-then _ _ (λ u us. yields-pure detect_delim us refl)) (yields_unknown _))))))))

declaration-by : (p : ℕ) (before : List (Member ℕ)) (t : Option (List ℕ)) (ts : Tokens ℕ) → Yields member_kind (keyword_kind (external_ahead (next ts)) t) (declaration_by p before t ts)
unfolding keyword_kind declaration_by ◌>>=◌
declaration-by p before none ts = yields-then _ _ (λ r us. yields-pure _ us refl)
declaration-by p before (some t) ts = directive-yields p before t ts

pub declaration-yields : (before : List (Member ℕ)) (ts : Tokens ℕ) → Yields member_kind (kind_ahead ts) (parse_declaration before ts)
unfolding kind_ahead parse_declaration ◌>>=◌ and_then here kind
declaration-yields before ts = declaration-by (start_of ts) before (at_in (kind_of ts)) ts

-- ------------------------------------------------------------------ the tests of the code

pub ahead_none : {d : Answer ℕ (Unit {0})} {c p : ℕ} → d ≡ refused c p → 0 ≡ external_ahead d
unfolding external_ahead
ahead_none h = rw h

pub ahead-named : (s : List ℕ) (u : Token) {d : Answer ℕ (Unit {0})} → d ≡ read tt (stream s u) → external_kind (text_in s (name_of u)) ≡ external_ahead d
unfolding external_ahead
ahead-named s u h = rw (h, name-of s u)

pub ahead-by : (s : List ℕ) (t : Token) → kind_ahead (stream s t) ≡ keyword_kind (external_ahead (next (stream s t))) (text_in s (at_of t))
unfolding kind_ahead
ahead-by s t = rw (at-of s t)

-- no keyword: a rule; and another keyword
module _ (s : List ℕ) {q : Std.Option Part} {b : Bool} where
  pub plain-none : (p : Std.Option Part) → p ≡ q → is_some p ≡ not b → b ≡ true → 3 ≡ plain_kind (text_in s q)
  plain-none None e f g = rw (← e)
  plain-none (Some a) e f g = absurd (let z : true ≡ false = rw g at f in let y : ◌≡◌ {A = ℕ} 0 1 = cc in omega arith)

  pub plain-some : (p : Std.Option Part) → p ≡ q → is_some p ≡ not b → b ≡ false → 0 ≡ plain_kind (text_in s q)
  plain-some (Some a) e f g = rw (← e)
  plain-some None e f g = absurd (let z : false ≡ true = rw g at f in let y : ◌≡◌ {A = ℕ} 0 1 = cc in omega arith)
