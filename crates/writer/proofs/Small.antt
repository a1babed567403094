-- How long the texts are that the walk writes for a record.
-- Assumes nothing.
use Prim.Native.Nat.{ℕ, ◌+◌, ◌-◌, ◌*◌, ◌≤◌}
use native.Mathlib.Omega.{arith}
use mathlib.Core.Path.{◌≡◌, refl}
use mathlib.Core.Bool.{Bool, true, false, ◌&&◌, ◌||◌}
use mathlib.Core.List.{List, [], ◌∷◌, ◌++◌}
use lib.Dec.{eqb, leb}
use lib.ListN.{length, drop, length-append, length-take}
use borrow.Author.Tests.{leb-true}
use Rattle.basics.specs.Basics.{if◌then◌otherwise◌, letters, among}
use Rattle.basics.proofs.Tests.{cases, both_true}
use Rattle.writer.specs.Walk.{Entry, text_for, expression_commas, list_commas, expression_opens, node_opens, list_opens, list_shuts, expression_tails, source_tails, name_tails, prop_words, external_words, specialize_words, sequence_words, set_words, class_words, kind_words, prec_words, part_ends, repeat_words, list_ends, kind_ends, dialect_ends, detect_words, comma, opens, shuts, new_line, separator, between, source, tail, in_brackets, is_line, tokenless, lead, ends, before, spelled, after, own, block_end, close, class, setting, link, front, back, closing}
use Rattle.spelling.specs.Spelling.{quoted, span_text, spell}
use Rattle.writer.specs.Promise.{Lent, row_at}
use Rattle.output.specs.Promise.{Wrote}
use Rattle.characters.specs.Spans.{◌upto◌}
use Rattle.lexer.specs.Tokens.{Kind}
use Rattle.tree.specs.Records.{Row}
use Rattle.tree.specs.Promise.{word_at}
use Rattle.spelling.proofs.Bytes.{quoted-small}
use Rattle.output.proofs.Digits.{span_small}

-- all texts of a table are at most so long
unfoldable short : ℕ → List Entry → Bool
short m [] = true
short m (e ∷ es) = leb (length e.text) m && short m es

text-small : (m : ℕ) (es : List Entry) → short m es ≡ true → (n : ℕ) → length (text_for es n) ≤ m
unfolding short text_for
text-small m [] h n = omega arith
text-small m (e ∷ es) h n =
    let t = both_true (leb (length e.text) m) (short m es) h in
    cases (eqb n e.number) (λ i. rw i (leb-true (length e.text) m t.0)) (λ i. rw i (text-small m es t.1 n))

-- of two texts
either : (m : ℕ) (b : Bool) (s t : List ℕ) → length s ≤ m → length t ≤ m → length (if b then s otherwise t) ≤ m
either m true s t h k = h
either m false s t h k = k

pub comma-small : (p c : ℕ) → length (comma p c) ≤ 32
unfolding short comma
comma-small p c = either 32 (eqb c 30) (text_for expression_commas p) (text_for list_commas c) (text-small 32 expression_commas refl p) (text-small 32 list_commas refl c)

pub opens_small : (p c : ℕ) → length (opens p c) ≤ 32
unfolding short opens
opens_small p c =
    either 32 (eqb c 30) _ _ (text-small 32 expression_opens refl p) (either 32 (eqb c 13) _ _ (text-small 32 node_opens refl p) (text-small 32 list_opens refl c))

pub shuts-small : (c : ℕ) → length (shuts c) ≤ 32
unfolding short shuts
shuts-small c = text-small 32 list_shuts refl c

new_small : (l c : ℕ) → length (new_line l c) ≤ 64
unfolding new_line
new_small l c =
    either 64 (eqb c 24) _ _ (either 64 (eqb l 24) (letters " ,") (letters "@dialects {") (omega arith) (omega arith)) (either 64 (eqb l 24) (letters " }\n") [] (omega arith) (omega arith))

separator-small : (p l c : ℕ) → length (separator p l c) ≤ 64
unfolding separator
separator-small p l c =
    either 64 (eqb l c) (comma p c) (shuts l ++ opens p c) (omega (arith, comma-small p c)) (omega (arith, length-append (shuts l) (opens p c), shuts-small l, opens_small p c))

pub between-small : (p l c : ℕ) → length (between p l c) ≤ 64
unfolding between
between-small p l c =
    either 64 (eqb p 1) _ _ (new_small l c) (either 64 (among (8 ∷ 12 ∷ 23 ∷ 34 ∷ 37 ∷ []) p) (opens p c) (separator p l c) (omega (arith, opens_small p c)) (separator-small p l c))

pub tail-small : (p c : ℕ) → length (tail p c) ≤ 32
unfolding short tail
tail-small p c =
    either 32 (eqb c 30) _ _ (text-small 32 expression_tails refl p) (either 32 (eqb c 15) _ _ (text-small 32 source_tails refl p) (text-small 32 name_tails refl c))

pub lead-small : (s k v : ℕ) → length (lead s k v) ≤ 32
unfolding lead
lead-small s k v = either 32 (in_brackets s k v) (letters " (") _ (omega arith) (either 32 (tokenless k v || is_line s k) [] (letters " ") (omega arith) (omega arith))

pub ends-small : (s k v : ℕ) → length (ends s k v) ≤ 32
unfolding ends
ends-small s k v = either 32 (in_brackets s k v) (letters " )") _ (omega arith) (either 32 (is_line s k) (letters "\n") [] (omega arith) (omega arith))

pub before_small : (k v : ℕ) → length (before k v) ≤ 32
unfolding short before
before_small k v =
    either 32 (eqb k 5) _ _ (text-small 32 prop_words refl v)
    (either 32 (eqb k 18) _ _ (text-small 32 external_words refl v)
    (either 32 (eqb k 31) _ _ (text-small 32 specialize_words refl v)
    (either 32 (eqb k 34) _ _ (text-small 32 sequence_words refl v)
    (either 32 (eqb k 37) _ _ (text-small 32 set_words refl v)
    (either 32 (eqb k 40) _ _ (text-small 32 class_words refl v) (text-small 32 kind_words refl k))))))

pub after_small : (k v : ℕ) → length (after k v) ≤ 32
unfolding short after
after_small k v = either 32 (eqb k 21) _ _ (text-small 32 prec_words refl v) (text-small 32 part_ends refl k)

pub close-small : (k v l : ℕ) → length (close k v l) ≤ 32
unfolding short close block_end
close-small k v l =
    either 32 (eqb k 35) _ _ (text-small 32 repeat_words refl v)
    (either 32 (among (11 ∷ 13 ∷ 30 ∷ []) k) _ _ (text-small 32 list_ends refl l)
    (either 32 (eqb k 16) _ _ (either 32 (eqb l 17) (letters " } }") (letters " }") (omega arith) (omega arith)) (text-small 32 kind_ends refl k)))

pub dialect_small : (l : ℕ) → length (text_for dialect_ends l) ≤ 32
unfolding short
dialect_small l = text-small 32 dialect_ends refl l

pub detect_small : (v : ℕ) → length (text_for detect_words v) ≤ 32
unfolding short
detect_small v = text-small 32 detect_words refl v

-- ------------------------------------------------------------------ records

-- a count of what was written is bounded as its text
pub bounded : {t old new : List ℕ} {n m : ℕ} → Wrote t old new n → length t ≤ m → n ≤ m
bounded w h = omega (arith, w.counts)

-- a text lies in the texts
pub row_small : {ws ts : List ℕ} → Lent ws ts → (i : ℕ) → length (row_at ws ts i).text ≤ 4294967296
row_small {ws} {ts} l i =
    let p : ℕ = word_at ws i 2 in
    let n : ℕ = word_at ws i 3 in
    omega (arith, l.sizes i, length-take (p + n - p) (drop p ts))

pub spelled-small : (r : Row) → length (spelled r) ≤ length r.text * 2 + 32
unfolding spelled spell
spelled-small r =
    let m : ℕ = length r.text * 2 + 32 in
    either m (among (6 ∷ 11 ∷ 15 ∷ 36 ∷ []) r.kind) (spell (Kind.string (quoted r.text))) _ (omega (arith, length-append (quoted r.text) (0x22 ∷ []), quoted-small r.text))
    (either m (eqb r.kind 38) (span_text (r.value upto r.second)) _ (omega (arith, span_small (r.value upto r.second)))
    (either m (among (14 ∷ 16 ∷ 18 ∷ 19 ∷ 25 ∷ []) r.kind) [] r.text (omega arith) (omega arith)))

pub own-small : (r : Row) → length (own r) ≤ length r.text * 2 + 96
unfolding own
own-small r =
    simp length-append (omega (arith, before_small r.kind r.value, spelled-small r, after_small r.kind r.value))

pub source-small : (t : List ℕ) (c : ℕ) → length (source t c) ≤ length t + 32
unfolding source
source-small t c = either (length t + 32) (eqb c 15) ((letters " " ++ t) ++ letters " from") [] (omega (arith, length-append (letters " " ++ t) (letters " from"))) (omega arith)

pub link-small : (p : Row) (l c : ℕ) → length (link p l c) ≤ length p.text + 96
unfolding link
link-small p l c = simp length-append (omega (arith, between-small p.kind l c, source-small p.text c))

pub front-small : (p : Row) (l : ℕ) (r : Row) → length (front p l r) ≤ length p.text + length r.text * 2 + 224
unfolding front
front-small p l r =
    simp length-append (omega (arith, link-small p l (class r.kind), lead-small (setting p.kind) r.kind r.value, own-small r))

pub back-small : (p : ℕ) (r : Row) (l : ℕ) → length (back p r l) ≤ 96
unfolding back
back-small p r l =
    simp length-append (omega (arith, close-small r.kind r.value l, ends-small (setting p) r.kind r.value, tail-small p (class r.kind)))

pub closing-small : (v l : ℕ) → length (closing v l) ≤ 64
unfolding closing
closing-small v l = simp length-append (omega (arith, dialect_small l, detect_small v))
