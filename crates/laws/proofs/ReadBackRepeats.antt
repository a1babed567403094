-- Stacked repeats, written, are read back.
-- Assumes nothing.
use Prim.Native.Nat.{ℕ, ◌+◌, ◌<◌, ◌≤◌}
use Prim.Native.Char.{code}
use native.Mathlib.Omega.{arith}
use borrow.Author.Tests.{ne_eqb}
use mathlib.Core.Path.{◌≡◌, refl, ap, sym, ◌∙◌}
use mathlib.Core.Bool.{false}
use mathlib.Core.List.{List, [], ◌∷◌, ◌++◌}
use mathlib.Core.Option.{none, some}
use lib.Dec.{eqb}
use lib.ListN.{length, length-append}
use Rattle.basics.specs.Basics.{first_element}
use Rattle.lexer.specs.Tokens.{Kind}
use Rattle.tree.specs.Syntax.{RepeatKind, optional, zero_or_more, one_or_more, Expression, special, inline, choice, sequence, empty, repeat, set, any, class}
use Rattle.notation.specs.Limits.{repeats}
use Rattle.notation.specs.Parser.{mark_in}
use Rattle.notation.specs.Expressions.{repeat_mark, stacked, repeat_by, parse_repeat, repeated}
use Rattle.spelling.specs.NormalText.{mark, repeat_sign, expression_tokens}
use Rattle.laws.proofs.Fine.{U}
use Rattle.laws.proofs.Readable.{Grade, Item, item-name, item-special, item-inline, item-choice, item-sequence, item-empty, item-repeat, item-literal, item-set, item-any, item-class}
use Rattle.laws.proofs.ReadBack.{Reads, bind_reads, pure-reads, kind-reads, next-reads, Back, over, turn}
use Rattle.laws.proofs.Follows.{Follows, AfterInner, inner_follow, inner-repeat, as_item}

-- ------------------------------------------------------------------ repeats

-- an expression under its repeats, and their marks from the inside out
unfoldable pub core : Expression U → Expression U
core (repeat p k e) = core e
core (Expression.name p t es) = Expression.name p t es
core (special p k ps e f) = special p k ps e f
core (inline p t ps e) = inline p t ps e
core (choice p es) = choice p es
core (sequence p s) = sequence p s
core (empty p) = empty p
core (Expression.literal p t) = Expression.literal p t
core (set p i ss) = set p i ss
core (any p) = any p
core (class p c) = class p c

unfoldable pub marks : Expression U → List RepeatKind
marks (repeat p k e) = marks e ++ k ∷ []
marks (Expression.name p t es) = []
marks (special p k ps e f) = []
marks (inline p t ps e) = []
marks (choice p es) = []
marks (sequence p s) = []
marks (empty p) = []
marks (Expression.literal p t) = []
marks (set p i ss) = []
marks (any p) = []
marks (class p c) = []

unfoldable pub mark_tokens : List RepeatKind → List Kind → List Kind
mark_tokens [] ks = ks
mark_tokens (r ∷ rs) ks = mark (repeat_sign r) (mark_tokens rs ks)

marks-one : (rs : List RepeatKind) (k : RepeatKind) (ks : List Kind) → mark_tokens (rs ++ k ∷ []) ks ≡ mark_tokens rs (mark (repeat_sign k) ks)
unfolding mark_tokens
marks-one [] k ks = refl
marks-one (r ∷ rs) k ks = ap (λ l. mark (repeat_sign r) l) (marks-one rs k ks)

repeated-one : (p : U) (rs : List RepeatKind) (k : RepeatKind) (e : Expression U) → repeated p (rs ++ k ∷ []) e ≡ repeat p k (repeated p rs e)
unfolding repeated
repeated-one p [] k e = refl
repeated-one p (r ∷ rs) k e = repeated-one p rs k (repeat p r e)

module _ (R : Grade) where
  -- an item is its core with its marks
  pub record Under (e : Expression U) : Type 0 where
    pub item : Item R (core e)
    pub plain : stacked (core e) ≡ 0
    pub whole : repeated tt (marks e) (core e) ≡ e
    pub count : length (marks e) ≡ stacked e
    pub written : (ks : List Kind) → as_item e ks ≡ as_item (core e) (mark_tokens (marks e) ks)

  pub under : {e : Expression U} → Item R e → Under e
  unfolding core marks stacked repeated mark_tokens expression_tokens
  under (item-name w n q b) = record { item = item-name w n q b; plain = refl; whole = refl; count = refl; written = λ ks. refl }
  under (item-special g r q) = record { item = item-special g r q; plain = refl; whole = refl; count = refl; written = λ ks. refl }
  under (item-inline w n g r) = record { item = item-inline w n g r; plain = refl; whole = refl; count = refl; written = λ ks. refl }
  under (item-choice r) = record { item = item-choice r; plain = refl; whole = refl; count = refl; written = λ ks. refl }
  under (item-sequence r b) = record { item = item-sequence r b; plain = refl; whole = refl; count = refl; written = λ ks. refl }
  under item-empty = record { item = item-empty; plain = refl; whole = refl; count = refl; written = λ ks. refl }
  under (item-repeat {p} {k} {e} i h) =
      let u = under i in
      let c = u.count in
      let l = length-append (marks e) (k ∷ []) in
      record {
        item = u.item;
        plain = u.plain;
        whole = repeated-one tt (marks e) k (core e) ∙ ap (repeat tt k) u.whole;
        count = omega arith;
        written = λ ks. u.written (mark (repeat_sign k) ks) ∙ ap (as_item (core e)) (sym (marks-one (marks e) k ks));
      }
  under (item-literal s) = record { item = item-literal s; plain = refl; whole = refl; count = refl; written = λ ks. refl }
  under (item-set g) = record { item = item-set g; plain = refl; whole = refl; count = refl; written = λ ks. refl }
  under item-any = record { item = item-any; plain = refl; whole = refl; count = refl; written = λ ks. refl }
  under item-class = record { item = item-class; plain = refl; whole = refl; count = refl; written = λ ks. refl }

mark-kind : (r : RepeatKind) → repeat_mark (code (repeat_sign r)) ≡ some r
mark-kind optional = refl
mark-kind zero_or_more = refl
mark-kind one_or_more = refl

no_more : (s : ℕ) (before : List RepeatKind) (ks : List Kind) → repeat_mark (mark_in (first_element ks)) ≡ none → Reads (parse_repeat s before) ks none ks
unfolding parse_repeat repeat_by
no_more s before ks h = bind_reads _ (kind-reads ks refl) (rw (h, repeat_by) (pure-reads none ks))

one-repeat : (s : ℕ) (before : List RepeatKind) (r : RepeatKind) (ks : List Kind) → s + length before < repeats → Reads (parse_repeat s before) (mark (repeat_sign r) ks) (some r) ks
unfolding parse_repeat repeat_by
one-repeat s before r ks h =
    let full : eqb (s + length before) repeats ≡ false = ne_eqb (s + length before) repeats (λ e. omega arith) in
    bind_reads _ (kind-reads _ refl) (rw (mark-kind r, full, repeat_by) (bind_reads _ (next-reads _ ks) (pure-reads (some r) ks)))

pub marks-back : (s : ℕ) (rs before : List RepeatKind) (ks : List Kind) → s + length before + length rs ≤ repeats → repeat_mark (mark_in (first_element ks)) ≡ none
    → Back (parse_repeat s) ks 1 before (mark_tokens rs ks) rs
unfolding mark_tokens
marks-back s [] before ks h n = over (no_more s before ks n)
marks-back s (r ∷ rs) before ks h n =
    let l = length-append before (r ∷ []) in
    let less : length (mark_tokens rs ks) + 1 < length (mark (repeat_sign r) (mark_tokens rs ks)) + 1 = omega arith in
    turn 1 (mark_tokens rs ks) (one-repeat s before r _ (omega arith)) less (marks-back s rs (before ++ r ∷ []) ks (omega arith) n)

pub marks-after : (rs : List RepeatKind) (ks : List Kind) → Follows ks → AfterInner (mark_tokens rs ks)
unfolding mark_tokens
marks-after [] ks f = inner_follow f
marks-after (r ∷ rs) ks f = inner-repeat r
