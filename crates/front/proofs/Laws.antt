-- What the statuses mean, proved.
-- Assumes nothing.
use Prim.Native.Nat.{ℕ, ◌≤◌}
use native.Mathlib.Omega.{arith}
use mathlib.Core.Path.{◌≡◌, refl, ap, sym, ◌∙◌}
use mathlib.Core.Bool.{Bool, true, false}
use mathlib.Core.List.{List}
use lib.Dec.{ltb}
use lib.ListN.{length}
use borrow.Author.Tests.{le-ltb, ltb-false}
use Rattle.basics.specs.Basics.{if◌then◌otherwise◌, same as equal}
use Rattle.basics.proofs.Tests.{cases, impossible}
use Rattle.basics.proofs.Same.{same_true, same_refl}
use Rattle.error.specs.Causes.{output_full}
use Rattle.error.specs.Lines.{Refusal, line_feeds, line_start, line_at, column_at, refusal_at}
use Rattle.tree.specs.Syntax.{GrammarDeclaration}
use Rattle.tree.specs.Equality.{agree}
use Rattle.spelling.specs.NormalText.{normal_text}
use Rattle.grammar.specs.Reading.{Reading, tree, stopped, reading, longest}
use Rattle.laws.proofs.Demand3.{equal_when_trees_agree}
use Rattle.front.specs.Outcomes.{Outcome, accepted, refused, outcome_by, outcome}
use Rattle.front.specs.Respond.{Source, check_by, same_by, respond}
use Rattle.front.specs.Laws.{BothAccepted, SameIsAgreement, CheckIsItsOwn}

-- ------------------------------------------------------------------ an accepted text

no-refusal : {A : Type 0} {r : Refusal} {t : List ℕ} → refused r ≡ accepted t → A
no-refusal e = impossible (cc)

same-text : {s t : List ℕ} → accepted s ≡ accepted t → s ≡ t
same-text e = cc

-- its tree, whose normal text is the outcome's and not too long
record Read (s t : List ℕ) : Type 0 where
  grammar : GrammarDeclaration ℕ
  reads : reading s ≡ tree grammar
  fits : length (normal_text grammar) ≤ longest
  is : normal_text grammar ≡ t

by-tree : (s : List ℕ) (g : GrammarDeclaration ℕ) → outcome_by s (tree g) ≡ (if ltb longest (length (normal_text g)) then refused (refusal_at s output_full 0) otherwise accepted (normal_text g))
unfolding line_feeds line_start line_at column_at refusal_at outcome_by normal_text longest
by-tree s g = refl

by-size : (s t : List ℕ) (g : GrammarDeclaration ℕ) → reading s ≡ tree g → (b : Bool) → ltb longest (length (normal_text g)) ≡ b
    → (if b then refused (refusal_at s output_full 0) otherwise accepted (normal_text g)) ≡ accepted t → Read s t
by-size s t g e true q h = no-refusal h
by-size s t g e false q h = record { grammar = g; reads = e; fits = ltb-false longest (length (normal_text g)) q; is = same-text h }

by-reading : (s t : List ℕ) (r : Reading) → reading s ≡ r → outcome_by s r ≡ accepted t → Read s t
unfolding line_feeds line_start line_at column_at refusal_at outcome_by
by-reading s t (stopped n p) e h = no-refusal h
by-reading s t (tree g) e h = by-size s t g e (ltb longest (length (normal_text g))) refl (sym (by-tree s g) ∙ h)

read : (s t : List ℕ) → outcome s ≡ accepted t → Read s t
unfolding outcome
read s t h = by-reading s t (reading s) refl h

-- and the other way round
accepts : (s : List ℕ) (g : GrammarDeclaration ℕ) → reading s ≡ tree g → length (normal_text g) ≤ longest → outcome s ≡ accepted (normal_text g)
unfolding outcome
accepts s g e h = ap (outcome_by s) e ∙ by-tree s g ∙ rw (le-ltb longest (length (normal_text g)) h) refl

-- ------------------------------------------------------------------ check

one-zero : {A : Type 0} → ◌≡◌ {A = ℕ} 1 0 → A
one-zero e = impossible (sym e)

two-zero : {A : Type 0} → ◌≡◌ {A = ℕ} 2 0 → A
two-zero e = absurd (omega (arith, e))

module _ (d : Bool) (s : Source) where
  yes-own : (o : Outcome) → (check_by d s o).status ≡ 0 → o ≡ accepted s.text
  unfolding check_by
  yes-own (accepted t) e = cases (equal s.text t) (λ q. ap accepted (sym (same_true s.text t q))) (λ q. one-zero (rw q at e))
  yes-own (refused r) e = two-zero e

  own-yes : (o : Outcome) → o ≡ accepted s.text → (check_by d s o).status ≡ 0
  unfolding check_by
  own-yes o e = rw (e, same_refl s.text) refl

pub check-is-its-own : CheckIsItsOwn
unfolding respond
check-is-its-own d s = (yes-own d s (outcome s.text), own-yes d s (outcome s.text))

-- ------------------------------------------------------------------ same

module _ (q : Bool) (s t : Source) where
  agreeing : (a b : Outcome) → outcome s.text ≡ a → outcome t.text ≡ b → (same_by q s t a b).status ≡ 0 → (b : BothAccepted s.text t.text) × (agree b.left b.right ≡ true)
  unfolding same_by
  agreeing (accepted x) (accepted y) f h e =
      let l = read s.text x f in
      let r = read t.text y h in
      let both : x ≡ y = cases (equal x y) (λ k. same_true x y k) (λ k. one-zero (rw k at e)) in (
        record { left = l.grammar; right = r.grammar; reads_left = l.reads; reads_right = r.reads; left_fits = l.fits; right_fits = r.fits },
        (equal_when_trees_agree s.text t.text l.grammar r.grammar l.reads r.reads).0 (l.is ∙ both ∙ sym r.is),
      )
  agreeing (accepted x) (refused r) f h e = two-zero e
  agreeing (refused r) (accepted y) f h e = two-zero e
  agreeing (refused r) (refused p) f h e = two-zero e

  agreed : (b : BothAccepted s.text t.text) → agree b.left b.right ≡ true → (same_by q s t (outcome s.text) (outcome t.text)).status ≡ 0
  unfolding same_by
  agreed b e =
      let x = accepts s.text b.left b.reads_left b.left_fits in
      let y = accepts t.text b.right b.reads_right b.right_fits in
      let z = (equal_when_trees_agree s.text t.text b.left b.right b.reads_left b.reads_right).1 e in
      rw (x, y, z, same_refl (normal_text b.right)) refl

pub same-is-agreement : SameIsAgreement
unfolding respond
same-is-agreement q s t = (agreeing q s t (outcome s.text) (outcome t.text) refl refl, λ (b, e). agreed q s t b e)
