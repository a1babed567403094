-- Refusals of the calls are by the table, and stand in the text.
-- Assumes nothing.
use Prim.Native.Nat.{ℕ, ◌≤◌}
use native.Mathlib.Omega.{arith}
use mathlib.Core.Path.{◌≡◌, refl, ap}
use mathlib.Core.List.{List, []}
use mathlib.Core.Option.{Option, none, some}
use lib.Dec.{ltb}
use lib.ListN.{length}
use borrow.Author.Tests.{ltb-true, ltb-false}
use Rattle.basics.proofs.Tests.{cases, impossible}
use Rattle.std.specs.Prelude.{Err}
use Rattle.error.specs.Causes.{too_long, overlapping_span, records_full, texts_full, output_full, not_a_tree}
use Rattle.error.specs.Lines as Lines
use Rattle.error.specs.Lines.{line_feeds, line_start, line_at, column_at, refusal_at}
use Rattle.error.specs.Promise.{cause_number, refusal_of}
use Rattle.error.specs.declared.Refusal.{Refusal}
use Rattle.tree.specs.Records.{Branch}
use Rattle.tree.specs.OneTree.{is_expression, build}
use Rattle.tree.specs.Stored.{grammar_words, grammar_texts}
use Rattle.spelling.specs.NormalText.{normal_text}
use Rattle.tree.specs.Syntax.{GrammarDeclaration}
use Rattle.grammar.specs.Reading.{Reading, tree, stopped, reading, longest}
use Rattle.grammar.specs.Calls as Calls
use Rattle.grammar.specs.Calls.{measure_by, measure, compare_by, compare}
use Rattle.laws.proofs.Stopped.{stopped-by_itself}
use Rattle.laws.proofs.StoppedWithin.{stopped-within}
use Rattle.writer.specs.Promise.{too_long as too_long_for_it}
use Rattle.calls.specs.Promise.{read_answer, ReadTo, NormalTo, compare_answer}
use Rattle.calls.specs.Demands.{Answers, Writes}
use Rattle.calls.proofs.Demands.{read-answers_as_defined, normal-text-answers_as_defined}
use Rattle.calls.specs.Refusals.{Refuses, MeasureRefuses, ReadRefuses, NormalTextRefuses, StructurallyEqRefuses}

-- ------------------------------------------------------------------ a refusal at a place

-- the parts of a refusal that is one at a place of the text
refuses : {last : ℕ} (s : List ℕ) (f : Refusal) {n p : ℕ} → refusal_of f ≡ refusal_at s n p → too_long ≤ n → n ≤ last → p ≤ length s → Refuses last s f
unfolding refusal_at
refuses s f {n} {p} e low high within =
    let c : cause_number f.cause ≡ n = ap (λ (r : Lines.Refusal). r.cause) e in
    let q : f.place ≡ p = ap (λ (r : Lines.Refusal). r.place) e in
    let l : f.line ≡ line_at s p = ap (λ (r : Lines.Refusal). r.line) e in
    let m : f.column ≡ column_at s p = ap (λ (r : Lines.Refusal). r.column) e in
    record { number = (omega arith, omega arith); place = omega arith; line = rw q l; column = rw q m }

by-the_text : {last : ℕ} (s : List ℕ) (f : Refusal) {n p : ℕ} → overlapping_span ≤ last → reading s ≡ stopped n p → refusal_of f ≡ refusal_at s n p → Refuses last s f
by-the_text s f {n} {p} h e r = let k = stopped-by_itself s n p e in let w = stopped-within s n p e in refuses s f r k.0 (omega arith) w

same_refusal : {r q : Lines.Refusal} → Calls.ReadAnswer.refused r ≡ Calls.ReadAnswer.refused q → r ≡ q
same_refusal e = cc

-- ------------------------------------------------------------------ `measure`

pub measure-refuses : MeasureRefuses
unfolding measure
measure-refuses s f a = by-reading (reading s) refl a
  where
    by-reading : (r : Reading) → reading s ≡ r → read_answer (Err f) ≡ measure_by s r → Refuses overlapping_span s f
    by-reading (stopped n p) e b = by-the_text s f (omega arith) e (same_refusal b)
    by-reading (tree g) e b = impossible (cc)

-- ------------------------------------------------------------------ `read`

-- 22 and 23 are at place 0
by-room : {last : ℕ} (s : List ℕ) (f : Refusal) (n : ℕ) → too_long ≤ n → n ≤ last → refusal_of f ≡ refusal_at s n 0 → Refuses last s f
by-room s f n low high e = refuses s f e low high (omega arith)

module _ (s ws ts : List ℕ) (f : Refusal) (vs us : List ℕ) (a : ReadTo s ws ts (Err f) vs us) where
  abbrev Stands : Type 0
  Stands = Refuses texts_full s f × (vs ≡ ws) × (us ≡ ts)

  answered : Answers s ws ts (Err f) vs us
  answered = read-answers_as_defined s ws ts (Err f) vs us a

  read-by : (r : Reading) → reading s ≡ r → Stands
  read-by (stopped n p) e = let k = answered.refuses n p e in (by-the_text s f (omega arith) e (same_refusal k.0), k.1, k.2)
  read-by (tree g) e =
      cases (ltb (length ws) (length (grammar_words g)))
      (λ t. let k = answered.no_words g e (ltb-true (length ws) (length (grammar_words g)) t) in (by-room s f records_full (omega arith) (omega arith) (same_refusal k.0), k.1, k.2))
      (λ t. let h = ltb-false (length ws) (length (grammar_words g)) t in
      cases (ltb (length ts) (length (grammar_texts g)))
      (λ u. let k = answered.no_bytes g e h (ltb-true (length ts) (length (grammar_texts g)) u) in (by-room s f texts_full (omega arith) (omega arith) (same_refusal k.0), k.1, k.2))
      (λ u. let q = (answered.stores g e h (ltb-false (length ts) (length (grammar_texts g)) u)).0 in impossible (cc)))

pub read-refuses : ReadRefuses
read-refuses s ws ts f vs us a = read-by s ws ts f vs us a (reading s) refl

-- ------------------------------------------------------------------ `normal_text`

same_refused : {r q : Lines.Refusal} → Calls.NormalAnswer.refused r ≡ Calls.NormalAnswer.refused q → r ≡ q
same_refused e = cc

module _ (s ws ts out : List ℕ) (f : Refusal) (vs us new : List ℕ) (a : NormalTo s ws ts out (Err f) vs us new) where
  abbrev Rests : Type 0
  Rests = Refuses output_full s f × (new ≡ out)

  written : Writes s ws ts out (Err f) vs us new
  written = normal-text-answers_as_defined s ws ts out (Err f) vs us new a

  fits : (g : GrammarDeclaration ℕ) → reading s ≡ tree g → length (grammar_words g) ≤ length ws → length (grammar_texts g) ≤ length ts → Rests
  fits g e h i =
      cases (too_long_for_it longest (normal_text g) out)
      (λ t. let k = written.too_long_for g e h i t in (by-room s f output_full (omega arith) (omega arith) (same_refused k.0), k.3))
      (λ t. let q = (written.writes g e h i t).0 in impossible (cc))

  normal-by : (r : Reading) → reading s ≡ r → Rests
  normal-by (stopped n p) e = let k = written.refuses n p e in (by-the_text s f (omega arith) e (same_refused k.0), k.3)
  normal-by (tree g) e =
      cases (ltb (length ws) (length (grammar_words g)))
      (λ t. let k = written.no_words g e (ltb-true (length ws) (length (grammar_words g)) t) in (by-room s f records_full (omega arith) (omega arith) (same_refused k.0), k.3))
      (λ t. let h = ltb-false (length ws) (length (grammar_words g)) t in
      cases (ltb (length ts) (length (grammar_texts g)))
      (λ u. let k = written.no_bytes g e h (ltb-true (length ts) (length (grammar_texts g)) u) in (by-room s f texts_full (omega arith) (omega arith) (same_refused k.0), k.3))
      (λ u. fits g e h (ltb-false (length ts) (length (grammar_texts g)) u)))

pub normal-text-refuses : NormalTextRefuses
normal-text-refuses s ws ts out f vs us new a = normal-by s ws ts out f vs us new a (reading s) refl

-- ------------------------------------------------------------------ `structurally_eq`

-- place 0 is line 1 and column 0
first : (f : Refusal) → refusal_of f ≡ refusal_at [] not_a_tree 0 → (cause_number f.cause ≡ not_a_tree) × (f.place ≡ 0) × (f.line ≡ 1) × (f.column ≡ 0)
unfolding refusal_at line_at column_at line_feeds line_start
first f e =
    (ap (λ (r : Lines.Refusal). r.cause) e, ap (λ (r : Lines.Refusal). r.place) e, ap (λ (r : Lines.Refusal). r.line) e, ap (λ (r : Lines.Refusal). r.column) e)

pub structurally_eq_refuses : StructurallyEqRefuses
unfolding compare
structurally_eq_refuses ls lts rs rts f a = by_trees (build is_expression ls lts) (build is_expression rs rts) a
  where
    same : {r q : Lines.Refusal} → Calls.CompareAnswer.refused r ≡ Calls.CompareAnswer.refused q → r ≡ q
    same e = cc

    by_trees : (b c : Option Branch) → compare_answer (Err f) ≡ compare_by b c → (cause_number f.cause ≡ not_a_tree) × (f.place ≡ 0) × (f.line ≡ 1) × (f.column ≡ 0)
    by_trees (some b) (some c) e = impossible (cc)
    by_trees (some b) none e = first f (same e)
    by_trees none c e = first f (same e)
