-- What an expression without its repeats comes to, by its first token.
-- Assumes nothing.
use Prim.Native.Nat.{ℕ}
use native.Mathlib.Omega.{arith}
use mathlib.Core.Path.{◌≡◌, refl, sym, ◌∙◌}
use mathlib.Core.Bool.{Bool, true, false}
use mathlib.Core.Logic.{◌⊎◌, inl, inr}
use mathlib.Core.List.{List, [], ◌∷◌}
use mathlib.Core.Option.{some}
use borrow.Author.Tests.{ne_eqb}
use lib.Dec.{ltb}
use lib.ListN.{length}
use Rattle.basics.specs.Basics.{letters, same, spells, every}
use Rattle.error.specs.Causes.{unexpected_token, inline_parameters}
use Rattle.characters.specs.Places.{cut}
use Rattle.lexer.specs.declared.Kind.{Kind}
use Rattle.lexer.specs.declared.Kind.TheVariants as K
use Rattle.lexer.specs.Tokens as T
use Rattle.lexer.specs.Tokens.{Tokens}
use Rattle.lexer.specs.Promise.{IsPart, part_of}
use Rattle.lexer.specs.declared.Part.{Part}
use Rattle.std.specs.Prelude.{Some}
use Rattle.lexer.proofs.Spelled.{spells-codes}
use Rattle.tree.specs.Syntax.{Expression, Identifier, Prop, SpecializeKind, RuleDeclaration, expressions}
use Rattle.notation.specs.Parser.{Answer, read, refused, Parser, and_then, ◌>>=◌, pure, refuse, choose, start_of, here, refuse_here, kind_of, kind, next, eat, until, comma, parse_identifier}
use Rattle.notation.specs.Expressions.{inline_by, parse_braced_expression, parse_rule_named, parse_inline_rule_expression, parse_specialize_expression, parse_parenthesized_expression, parse_arguments, parse_named, inner_by, parse_expression_inner, parse_props}
use Rattle.tokens.specs.Promise.{stream, start_in, mark_of, name_of, at_of}
use Rattle.parser.specs.Shapes.{IsToken, std_class, parse_any, parse_literal, parse_set, class_part, is_std, named, name_arguments, Head, parse_params, parse_head}
use Rattle.lexer.specs.declared.Token.{Token}
use Rattle.lexer.specs.declared.Token.TheVariants.{Of, Eof}
use Rattle.tokens.proofs.Stream.{start-of, mark-of}

module _ (below : Parser ℕ (Expression ℕ)) (s : List ℕ) (t : Token) where
  inner-is : parse_expression_inner below (stream s t) ≡ inner_by below (start_in t) (kind_of (stream s t)) (stream s t)
  unfolding parse_expression_inner here kind ◌>>=◌ and_then
  inner-is = rw (start-of s t)

  -- the kinds that need no further look
  pub inner-string : {k : Kind} {q start end : ℕ} {a : Part} → t ≡ Of k start end → k ≡ K.String q a → parse_expression_inner below (stream s t) ≡ parse_literal s (start_in t) a (stream s t)
  unfolding inner_by parse_literal stream kind_of
  inner-string h e = inner-is ∙ rw (h, e)

  pub inner-set : {k : Kind} {i : Bool} {a : Part} {start end : ℕ} → t ≡ Of k start end → k ≡ K.Set i a → parse_expression_inner below (stream s t) ≡ parse_set s (start_in t) i a (stream s t)
  unfolding inner_by stream kind_of
  inner-set h e = inner-is ∙ rw (h, e)

  pub inner-end : {p : ℕ} → t ≡ Eof p → parse_expression_inner below (stream s t) ≡ refused unexpected_token p
  unfolding inner_by stream start_of kind_of refuse_here
  inner-end h = inner-is ∙ rw h

-- ------------------------------------------------------------------ marks

marked : (s : List ℕ) (t : Token) (c : ℕ) → IsToken t → mark_of t ≡ c → (c ≡ 0 → ⊥) → kind_of (stream s t) ≡ some (T.mark c)
unfolding stream kind_of
marked s (Of (K.String q a) start end) c i h z = absurd (z (sym h))
marked s (Of (K.At a) start end) c i h z = absurd (z (sym h))
marked s (Of (K.Set x a) start end) c i h z = absurd (z (sym h))
marked s (Of (K.Punctuation d) start end) c i h z = rw h
marked s (Of (K.Identifier a) start end) c i h z = absurd (z (sym h))
marked s (Eof p) c i h z = absurd i

module _ (below : Parser ℕ (Expression ℕ)) (s : List ℕ) (t : Token) where
  module _ {c start end : ℕ} (h : t ≡ Of (K.Punctuation c) start end) where
    pub inner_paren : c ≡ 0x28 → parse_expression_inner below (stream s t) ≡ (next >>= λ _. parse_parenthesized_expression below (start_in t)) (stream s t)
    unfolding inner_by stream kind_of
    inner_paren e = inner-is below s t ∙ rw (h, e)

    pub inner_anon : c ≡ 0x5B → parse_expression_inner below (stream s t) ≡ parse_inline_rule_expression below (start_in t) (letters "_anon") (stream s t)
    unfolding inner_by stream kind_of
    inner_anon e = inner-is below s t ∙ rw (h, e)

    pub inner-mark : (c ≡ 0x28 → ⊥) → (c ≡ 0x5B → ⊥) → parse_expression_inner below (stream s t) ≡ refused unexpected_token (start_in t)
    unfolding inner_by stream kind_of refuse_here start_of
    inner-mark e f = inner-is below s t ∙ rw (h, ne_eqb c 0x28 e, ne_eqb c 0x5B f)

  -- ------------------------------------------------------------------ `@` and a word

  at-kind : {a : Part} → at_of t ≡ Some a → kind_of (stream s t) ≡ some (T.at (part_of s a))
  unfolding stream kind_of
  at-kind {a} h = by t h
    where
      by : (t : Token) → at_of t ≡ Some a → kind_of (stream s t) ≡ some (T.at (part_of s a))
      by (Of (K.String q b) start end) h = cc
      by (Of (K.At b) start end) h = let p : b ≡ a = cc in rw p
      by (Of (K.Set x b) start end) h = cc
      by (Of (K.Punctuation d) start end) h = cc
      by (Of (K.Identifier b) start end) h = cc
      by (Eof p) h = cc

  module _ {a : Part} (h : at_of t ≡ Some a) where
    inner-word : parse_expression_inner below (stream s t) ≡ inner_by below (start_in t) (some (T.at (part_of s a))) (stream s t)
    inner-word = inner-is below s t ∙ rw (at-kind h)

    pub inner-specialize : spells "specialize" (part_of s a) ≡ true → parse_expression_inner below (stream s t) ≡ parse_specialize_expression below (start_in t) SpecializeKind.specialize (stream s t)
    unfolding inner_by
    inner-specialize w = inner-word ∙ rw w

    module _ (v : spells "specialize" (part_of s a) ≡ false) where
      pub inner-extend : spells "extend" (part_of s a) ≡ true → parse_expression_inner below (stream s t) ≡ parse_specialize_expression below (start_in t) SpecializeKind.extend (stream s t)
      unfolding inner_by
      inner-extend w = inner-word ∙ rw (v, w)

      pub inner-class : spells "extend" (part_of s a) ≡ false → parse_expression_inner below (stream s t) ≡ class_part s (start_in t) a (stream s t)
      unfolding inner_by
      inner-class w = inner-word ∙ rw (v, w)

  -- ------------------------------------------------------------------ names

  name-kind : {a : Part} → name_of t ≡ Some a → kind_of (stream s t) ≡ some (T.name (part_of s a))
  unfolding stream kind_of
  name-kind {a} h = by t h
    where
      by : (t : Token) → name_of t ≡ Some a → kind_of (stream s t) ≡ some (T.name (part_of s a))
      by (Of (K.String q b) start end) h = cc
      by (Of (K.At b) start end) h = cc
      by (Of (K.Set x b) start end) h = cc
      by (Of (K.Punctuation d) start end) h = cc
      by (Of (K.Identifier b) start end) h = let p : b ≡ a = cc in rw p
      by (Eof p) h = cc

  module _ {a : Part} (h : name_of t ≡ Some a) where
    inner_name : parse_expression_inner below (stream s t) ≡ inner_by below (start_in t) (some (T.name (part_of s a))) (stream s t)
    inner_name = inner-is below s t ∙ rw (name-kind h)

    pub inner-any : spells "_" (part_of s a) ≡ true → parse_expression_inner below (stream s t) ≡ parse_any (start_in t) (stream s t)
    unfolding inner_by parse_any
    inner-any w = inner_name ∙ rw w

    module _ (w : spells "_" (part_of s a) ≡ false) where
      pub inner-named-refused : {c p : ℕ} → next (stream s t) ≡ refused c p → parse_expression_inner below (stream s t) ≡ refused c p
      unfolding inner_by ◌>>=◌ and_then
      inner-named-refused f = inner_name ∙ rw (w, f)

      pub inner-named : {us : Tokens ℕ} → next (stream s t) ≡ read tt us → parse_expression_inner below (stream s t) ≡ named below s (start_in t) a us
      unfolding inner_by named kind ◌>>=◌ and_then
      inner-named f = inner_name ∙ rw (w, f)

-- whether a part spells a quoted word, by its bytes
pub spelled : (s : List ℕ) (a : Part) (word : List ℕ) (r : Bool) → IsPart s a → r ≡ same word (cut s a.from a.to) → every (λ c. ltb c 0x80) word ≡ true → same word (part_of s a) ≡ r
spelled s a word r p h q = rw h (sym (spells-codes word (cut s a.from a.to) q p.bytes))

-- ------------------------------------------------------------------ after a name

module _ (below : Parser ℕ (Expression ℕ)) (s : List ℕ) (p : ℕ) (a : Part) (u : Token) where
  named-is : named below s p a (stream s u) ≡ parse_named below p (part_of s a) (kind_of (stream s u)) (stream s u)
  unfolding named
  named-is = refl

  pub named_inline : (mark_of u ≡ 0x5B) ⊎ (mark_of u ≡ 0x7B) → named below s p a (stream s u) ≡ parse_inline_rule_expression below p (part_of s a) (stream s u)
  unfolding parse_named
  named_inline (inl h) = named-is ∙ rw (mark-of s u, h)
  named_inline (inr h) = named-is ∙ rw (mark-of s u, h)

  module _ (h : mark_of u ≡ 0x5B → ⊥) (k : mark_of u ≡ 0x7B → ⊥) where
    pub named_std : is_std s a u ≡ true → named below s p a (stream s u) ≡ std_class p (stream s u)
    unfolding parse_named std_class
    named_std q = named-is ∙ rw (mark-of s u, ne_eqb (mark_of u) 0x5B h, ne_eqb (mark_of u) 0x7B k, q)

    pub named-plain : is_std s a u ≡ false → named below s p a (stream s u) ≡ name_arguments below s p a (stream s u)
    unfolding parse_named name_arguments
    named-plain q = named-is ∙ rw (mark-of s u, ne_eqb (mark_of u) 0x5B h, ne_eqb (mark_of u) 0x7B k, q)

module _ (below : Parser ℕ (Expression ℕ)) (ts : Tokens ℕ) where
  module _ (s : List ℕ) (p : ℕ) (a : Part) where
    pub reference-refused : {c q : ℕ} → parse_arguments below ts ≡ refused c q → name_arguments below s p a ts ≡ refused c q
    unfolding name_arguments ◌>>=◌ and_then
    reference-refused f = rw (name_arguments, f)

    pub reference-done : {es : List (Expression ℕ)} {us : Tokens ℕ} → parse_arguments below ts ≡ read es us → name_arguments below s p a ts ≡ read (Expression.name p (part_of s a) (expressions es)) us
    unfolding name_arguments ◌>>=◌ and_then pure
    reference-done f = rw (name_arguments, f)

-- ------------------------------------------------------------------ inline rules

-- the head and then the body
module _ (below : Parser ℕ (Expression ℕ)) (n : Identifier ℕ) (ts : Tokens ℕ) where
  abbrev rule_of : Head → Expression ℕ → RuleDeclaration ℕ
  rule_of h e = record { id = n; props = h.props; params = h.params; expression = e }

  pub rule-is : parse_rule_named below n ts ≡ and_then (parse_head ts) (λ h us. and_then (parse_braced_expression below us) (λ e vs. read (rule_of h e) vs))
  unfolding parse_rule_named parse_head parse_params ◌>>=◌ and_then pure
  rule-is = props (parse_props ts)
    where
      params : (ps : List (Prop ℕ)) (x : Answer ℕ (List (Identifier ℕ)))
          → and_then x (λ ns us. and_then (parse_braced_expression below us) (λ e vs. read (rule_of (record { props = ps; params = ns }) e) vs))
          ≡ and_then (and_then x (λ ns us. read (record { props = ps; params = ns }) us)) (λ h us. and_then (parse_braced_expression below us) (λ e vs. read (rule_of h e) vs))
      params ps (read ns us) = refl
      params ps (refused c q) = refl

      angle : (ps : List (Prop ℕ)) (x : Answer ℕ Bool)
          → and_then x (λ angle us. and_then (choose angle (until (eat ">") comma (λ _. parse_identifier)) (λ us. read [] us) us) (λ ns us. and_then (parse_braced_expression below us) (λ e vs. read (rule_of (record { props = ps; params = ns }) e) vs)))
          ≡ and_then (and_then (and_then x (λ angle. choose angle (until (eat ">") comma (λ _. parse_identifier)) (λ us. read [] us))) (λ ns us. read (record { props = ps; params = ns }) us)) (λ h us. and_then (parse_braced_expression below us) (λ e vs. read (rule_of h e) vs))
      angle ps (read b us) = params ps (choose b (until (eat ">") comma (λ _. parse_identifier)) (λ us. read [] us) us)
      angle ps (refused c q) = refl

      props : (x : Answer ℕ (List (Prop ℕ)))
          → and_then x (λ ps us. and_then (eat "<" us) (λ angle us. and_then (choose angle (until (eat ">") comma (λ _. parse_identifier)) (λ us. read [] us) us) (λ ns us. and_then (parse_braced_expression below us) (λ e vs. read (rule_of (record { props = ps; params = ns }) e) vs))))
          ≡ and_then (and_then x (λ ps us. and_then (and_then (eat "<" us) (λ angle. choose angle (until (eat ">") comma (λ _. parse_identifier)) (λ us. read [] us))) (λ ns us. read (record { props = ps; params = ns }) us))) (λ h us. and_then (parse_braced_expression below us) (λ e vs. read (rule_of h e) vs))
      props (read ps us) = angle ps (eat "<" us)
      props (refused c q) = refl

module _ (below : Parser ℕ (Expression ℕ)) (p : ℕ) (t : List ℕ) (ts : Tokens ℕ) where
  pub inline-head : {c q : ℕ} → parse_head ts ≡ refused c q → parse_inline_rule_expression below p t ts ≡ refused c q
  unfolding parse_inline_rule_expression ◌>>=◌ and_then
  inline-head e = rw (parse_inline_rule_expression, rule-is below (record { start = p; name = t }) ts, e)

  module _ {h : Head} {us : Tokens ℕ} (e : parse_head ts ≡ read h us) where
    pub inline-body : {c q : ℕ} → parse_braced_expression below us ≡ refused c q → parse_inline_rule_expression below p t ts ≡ refused c q
    unfolding parse_inline_rule_expression ◌>>=◌ and_then
    inline-body f = rw (parse_inline_rule_expression, rule-is below (record { start = p; name = t }) ts, e, and_then, f)

    module _ {a : Expression ℕ} {vs : Tokens ℕ} (f : parse_braced_expression below us ≡ read a vs) where
      inline-by : parse_inline_rule_expression below p t ts ≡ inline_by p (record { id = record { start = p; name = t }; props = h.props; params = h.params; expression = a }) h.params vs
      unfolding parse_inline_rule_expression ◌>>=◌ and_then
      inline-by = rw (parse_inline_rule_expression, rule-is below (record { start = p; name = t }) ts, e, and_then, f)

      pub inline-params : (length h.params ≡ 0 → ⊥) → parse_inline_rule_expression below p t ts ≡ refused inline_parameters p
      unfolding inline_by refuse
      inline-params z = inline-by ∙ by h.params z
        where
          by : (ns : List (Identifier ℕ)) → (length ns ≡ 0 → ⊥) → inline_by p (record { id = record { start = p; name = t }; props = h.props; params = h.params; expression = a }) ns vs ≡ refused inline_parameters p
          by [] z = absurd (z refl)
          by (n ∷ ns) z = refl

      pub inline-done : length h.params ≡ 0 → parse_inline_rule_expression below p t ts ≡ read (Expression.inline p t h.props a) vs
      unfolding inline_by pure
      inline-done z = inline-by ∙ by h.params z
        where
          by : (ns : List (Identifier ℕ)) → length ns ≡ 0 → inline_by p (record { id = record { start = p; name = t }; props = h.props; params = h.params; expression = a }) ns vs ≡ read (Expression.inline p t h.props a) vs
          by [] z = refl
          by (n ∷ ns) z = absurd (omega arith)
