-- What repeats, sequences and choices come to, path by path.
-- Assumes nothing.
use Prim.Native.Nat.{ℕ, zero, suc, ◌-◌}
use native.Mathlib.Omega.{arith}
use mathlib.Core.Path.{◌≡◌, refl, ◌∙◌}
use mathlib.Core.Bool.{true, false}
use mathlib.Core.List.{List, [], ◌∷◌}
use mathlib.Core.Option.{none, some}
use lib.ListN.{length}
use Rattle.error.specs.Causes.{too_deep, empty_arm}
use Rattle.lexer.specs.declared.Kind.TheVariants as K
use Rattle.lexer.specs.Tokens.{Tokens}
use Rattle.tree.specs.Syntax.{Expression, RepeatKind, ConflictMarkerKind, expressions}
use Rattle.notation.specs.Parser.{read, refused, Parser, and_then, ◌>>=◌, pure, refuse, choose, start_of, here, refuse_here, kind_of, kind, ends_sequence, eat, loop}
use Rattle.notation.specs.Expressions.{Item, expression, marker_mark, stacked, parse_repeat, repeated, slots, sequence_of, first_empty_arm, choice_by, choice_of, parse_expression_inner, parse_expression_suffix, item_by, parse_item, parse_expression_sequence, parse_arm, parse_expression_choice, choice_at}
use Rattle.tokens.specs.Promise.{stream, start_in, mark_of}
use Rattle.parser.specs.Shapes.{ends_by, parse_marker}
use Rattle.lexer.specs.declared.Token.{Token}
use Rattle.lexer.specs.declared.Token.TheVariants.{Of, Eof}
use Rattle.tokens.proofs.Stream.{start-of, mark-of}

module _ (below : Parser ℕ (Expression ℕ)) (ts : Tokens ℕ) where
  -- ------------------------------------------------------------------ repeats

  pub suffix_inner : {c p : ℕ} → parse_expression_inner below ts ≡ refused c p → parse_expression_suffix below ts ≡ refused c p
  unfolding parse_expression_suffix here ◌>>=◌ and_then
  suffix_inner e = rw (parse_expression_suffix, e)

  module _ {a : Expression ℕ} {us : Tokens ℕ} (e : parse_expression_inner below ts ≡ read a us) where
    pub suffix_repeats : {c p : ℕ} → loop (parse_repeat (stacked a)) us ≡ refused c p → parse_expression_suffix below ts ≡ refused c p
    unfolding parse_expression_suffix here ◌>>=◌ and_then
    suffix_repeats f = rw (parse_expression_suffix, e, and_then, f)

    pub suffix_done : {rs : List RepeatKind} {vs : Tokens ℕ} → loop (parse_repeat (stacked a)) us ≡ read rs vs → parse_expression_suffix below ts ≡ read (repeated (start_of ts) rs a) vs
    unfolding parse_expression_suffix here ◌>>=◌ and_then pure
    suffix_done f = rw (parse_expression_suffix, e, and_then, f)

  -- ------------------------------------------------------------------ sequences

  pub sequence-refused : {c p : ℕ} → loop (parse_item below) ts ≡ refused c p → parse_expression_sequence below ts ≡ refused c p
  unfolding parse_expression_sequence here ◌>>=◌ and_then
  sequence-refused e = rw (parse_expression_sequence, e)

  pub sequence-done : {l : List (Item ℕ)} {us : Tokens ℕ} → loop (parse_item below) ts ≡ read l us → parse_expression_sequence below ts ≡ read (sequence_of (start_of ts) (slots [] l)) us
  unfolding parse_expression_sequence here ◌>>=◌ and_then pure
  sequence-done e = rw (parse_expression_sequence, e)

  -- ------------------------------------------------------------------ arms

  module _ (before : List (Expression ℕ)) where
    pub arm-refused : {c p : ℕ} → eat "|" ts ≡ refused c p → parse_arm below before ts ≡ refused c p
    unfolding parse_arm ◌>>=◌ and_then
    arm-refused e = rw (parse_arm, e)

    pub arm-none : eat "|" ts ≡ read false ts → parse_arm below before ts ≡ read none ts
    unfolding parse_arm ◌>>=◌ and_then choose pure
    arm-none e = rw (parse_arm, e)

    module _ {us : Tokens ℕ} (e : eat "|" ts ≡ read true us) where
      pub arm-sequence : {c p : ℕ} → parse_expression_sequence below us ≡ refused c p → parse_arm below before ts ≡ refused c p
      unfolding parse_arm ◌>>=◌ and_then choose
      arm-sequence f = rw (parse_arm, e, and_then, f)

      pub arm-some : {a : Expression ℕ} {vs : Tokens ℕ} → parse_expression_sequence below us ≡ read a vs → parse_arm below before ts ≡ read (some a) vs
      unfolding parse_arm ◌>>=◌ and_then choose pure
      arm-some f = rw (parse_arm, e, and_then, f)

-- ------------------------------------------------------------------ items

module _ (below : Parser ℕ (Expression ℕ)) (before : List (Item ℕ)) (s : List ℕ) (t : Token) where
  item-is : parse_item below before (stream s t) ≡ item_by below (start_in t) (kind_of (stream s t)) (marker_mark (mark_of t)) (stream s t)
  unfolding parse_item here kind ◌>>=◌ and_then
  item-is = rw (start-of s t, mark-of s t)

  ends_is : ends_sequence (kind_of (stream s t)) ≡ ends_by t
  unfolding stream kind_of
  ends_is = by t
    where
      by : (t : Token) → ends_sequence (kind_of (stream s t)) ≡ ends_by t
      by (Of (K.String q a) start end) = refl
      by (Of (K.At a) start end) = refl
      by (Of (K.Set i a) start end) = refl
      by (Of (K.Punctuation c) start end) = refl
      by (Of (K.Identifier a) start end) = refl
      by (Eof p) = refl

  pub item-marker : {m : ConflictMarkerKind} → marker_mark (mark_of t) ≡ some m → parse_item below before (stream s t) ≡ parse_marker (start_in t) m (stream s t)
  unfolding item_by parse_marker
  item-marker h = item-is ∙ rw h

  module _ (h : marker_mark (mark_of t) ≡ none) where
    pub item-end : ends_by t ≡ true → parse_item below before (stream s t) ≡ read none (stream s t)
    unfolding item_by choose pure
    item-end e = item-is ∙ rw (h, ends_is, e)

    module _ (e : ends_by t ≡ false) where
      pub item_refused : {c p : ℕ} → parse_expression_suffix below (stream s t) ≡ refused c p → parse_item below before (stream s t) ≡ refused c p
      unfolding item_by choose ◌>>=◌ and_then
      item_refused f = item-is ∙ rw (h, ends_is, e, f)

      pub item-some : {a : Expression ℕ} {us : Tokens ℕ} → parse_expression_suffix below (stream s t) ≡ read a us → parse_item below before (stream s t) ≡ read (some (expression a)) us
      unfolding item_by choose ◌>>=◌ and_then pure
      item-some f = item-is ∙ rw (h, ends_is, e, f)

-- ------------------------------------------------------------------ choices

choice-at : (l : ℕ) (ts : Tokens ℕ) → (l ≡ 0 → ⊥) → choice_at {S = ℕ} l ts ≡ parse_expression_choice (choice_at (l - 1)) ts
unfolding choice_at
choice-at zero ts h = absurd (h refl)
choice-at (suc l) ts h = let z : suc l - 1 ≡ l = omega arith in rw z

module _ (l : ℕ) (ts : Tokens ℕ) where
  pub choice-deep : l ≡ 0 → choice_at {S = ℕ} l ts ≡ refused too_deep (start_of ts)
  unfolding choice_at refuse_here
  choice-deep e = rw e

  module _ (h : l ≡ 0 → ⊥) where
    pub choice-sequence : {c p : ℕ} → parse_expression_sequence (choice_at (l - 1)) ts ≡ refused c p → choice_at l ts ≡ refused c p
    unfolding parse_expression_choice here ◌>>=◌ and_then
    choice-sequence e = choice-at l ts h ∙ rw (parse_expression_choice, e)

    module _ {a : Expression ℕ} {us : Tokens ℕ} (e : parse_expression_sequence (choice_at (l - 1)) ts ≡ read a us) where
      pub choice-arms : {c p : ℕ} → loop (parse_arm (choice_at (l - 1))) us ≡ refused c p → choice_at l ts ≡ refused c p
      unfolding parse_expression_choice here ◌>>=◌ and_then
      choice-arms f = choice-at l ts h ∙ rw (parse_expression_choice, e, and_then, f)

      module _ {es : List (Expression ℕ)} {vs : Tokens ℕ} (f : loop (parse_arm (choice_at (l - 1))) us ≡ read es vs) where
        choice-of : choice_at l ts ≡ choice_of (start_of ts) a es vs
        unfolding parse_expression_choice here ◌>>=◌ and_then
        choice-of = choice-at l ts h ∙ rw (parse_expression_choice, e, and_then, f)

        pub choice-one : length es ≡ 0 → choice_at l ts ≡ read a vs
        unfolding choice_of pure
        choice-one z = choice-of ∙ by es z
          where
            by : (es : List (Expression ℕ)) → length es ≡ 0 → choice_of (start_of ts) a es vs ≡ read a vs
            by [] z = refl
            by (x ∷ es) z = absurd (omega arith)

        by-arms : (es : List (Expression ℕ)) → (length es ≡ 0 → ⊥) → choice_of (start_of ts) a es vs ≡ choice_by (start_of ts) (a ∷ es) (first_empty_arm (a ∷ es)) vs
        unfolding choice_of
        by-arms [] z = absurd (z refl)
        by-arms (x ∷ es) z = refl

        pub choice-empty : {q : ℕ} → (length es ≡ 0 → ⊥) → first_empty_arm (a ∷ es) ≡ some q → choice_at l ts ≡ refused empty_arm q
        unfolding choice_by refuse
        choice-empty z m = choice-of ∙ by-arms es z ∙ rw m

        pub choice-done : (length es ≡ 0 → ⊥) → first_empty_arm (a ∷ es) ≡ none → choice_at l ts ≡ read (Expression.choice (start_of ts) (expressions (a ∷ es))) vs
        unfolding choice_by pure
        choice-done z m = choice-of ∙ by-arms es z ∙ rw m
