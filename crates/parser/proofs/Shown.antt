-- Expressions between tokens: their nodes, their start and their shape.
-- Assumes nothing.
use Prim.Native.Nat.{ℕ, zero, suc, ◌+◌, ◌*◌, ◌≤◌}
use native.Mathlib.Omega.{arith}
use mathlib.Core.Path.{◌≡◌, refl, sym, ◌∙◌}
use mathlib.Core.Bool.{Bool, true, false}
use mathlib.Core.List.{List, [], ◌∷◌, ◌++◌, append_assoc, append-nil}
use mathlib.Core.Option.{none, some}
use Rattle.std.specs.Prelude.{Option, Some, None}
use lib.ListN.{length, length-append}
use Rattle.basics.specs.Basics.{if◌then◌otherwise◌}
use Rattle.characters.specs.Utf8.{encode_all}
use Rattle.lexer.specs.Tokens.{Tokens}
use Rattle.tree.specs.Records.{[]ᴮ, ◌∷ᴮ◌, count, nodes, nodes_all}
use Rattle.tree.specs.Stored.{marker_branch, expression_branch, expression_branches, slot_branches}
use Rattle.tree.specs.Syntax.{Expression, Expressions, slot, Prop, ConflictMarker, SpecializeKind, RepeatKind, start_of, expressions}
use Rattle.notation.specs.Limits.{repeats}
use Rattle.notation.specs.Parser.{Answer, read}
use Rattle.notation.specs.Expressions.{Item, marker, expression, content_by, reference_of, stacked, repeated, slots, sequence_of, is_empty_arm, first_empty_arm}
use Rattle.tokens.specs.Promise.{stream}
use Rattle.parser.specs.Storing.{Lent, node, flat, nodes_of}
use Rattle.parser.specs.Steps.{placed, Onward}
use Rattle.parser.specs.Shapes.{is_blank, Refers, Shown, Yields, repeat_nodes, item_nodes, markers_in, expressions_in, ShownOnly, content_of, empty_of, empty_by, empty_first, sequence_shape}
use Rattle.lexer.specs.declared.Token.{Token}
use Rattle.parser.specs.declared.parts.Shape.{Shape}
use Rattle.parser.specs.declared.parts.Shape.TheVariants.{Name, Literal, Repeat, Blank, Other}
use Rattle.parser.proofs.Onward.{onward_then, onward-least}
use Rattle.parser.proofs.Ready.{nodes-each, count-each}
use Rattle.parser.proofs.Lists.{flat-none, flat-more, flat_snoc, lays-between}

-- ------------------------------------------------------------------ nodes

nodes-all : (es : List (Expression ℕ)) → nodes_all (expression_branches (expressions es)) ≡ flat (nodes_of expression_branch) es
unfolding expression_branch expressions nodes flat
nodes-all [] = refl
nodes-all (e ∷ es) = rw (nodes-all es)

count-all : (es : List (Expression ℕ)) → count (expression_branches (expressions es)) ≡ length es
unfolding expression_branch expressions count
count-all [] = refl
count-all (e ∷ es) = let h = count-all es in omega arith

pub nodes-name : (p : ℕ) (t : List ℕ) (es : List (Expression ℕ)) → nodes (expression_branch (Expression.name p t (expressions es))) ≡ flat (nodes_of expression_branch) es ++ node 30 p (encode_all t) 0 0 (length es) ∷ []
unfolding expression_branch nodes
nodes-name p t es = rw (nodes-all es, count-all es)

pub nodes-choice : (p : ℕ) (es : List (Expression ℕ)) → nodes (expression_branch (Expression.choice p (expressions es))) ≡ flat (nodes_of expression_branch) es ++ node 33 p [] 0 0 (length es) ∷ []
unfolding expression_branch nodes encode_all
nodes-choice p es = rw (nodes-all es, count-all es)

module _ (e : Expression ℕ) where
  one-node : nodes_all (expression_branch e ∷ᴮ []ᴮ) ≡ nodes (expression_branch e)
  unfolding nodes
  one-node = append-nil (nodes (expression_branch e))

  one-count : count (expression_branch e ∷ᴮ []ᴮ) ≡ 1
  unfolding count
  one-count = refl

  pub nodes-repeat : (p : ℕ) (k : RepeatKind) → nodes (expression_branch (Expression.repeat p k e)) ≡ nodes (expression_branch e) ++ repeat_nodes p k
  unfolding expression_branch nodes encode_all
  nodes-repeat p k = rw (one-node, one-count)

-- marks over an operand
pub nodes-repeated : (p : ℕ) (rs : List RepeatKind) (e : Expression ℕ) → nodes (expression_branch (repeated p rs e)) ≡ nodes (expression_branch e) ++ flat (repeat_nodes p) rs
unfolding repeated
nodes-repeated p [] e = rw (flat-none (repeat_nodes p)) (sym (append-nil (nodes (expression_branch e))))
nodes-repeated p (r ∷ rs) e =
    nodes-repeated p rs (Expression.repeat p r e)
    ∙ rw (nodes-repeat e p r, flat-more (repeat_nodes p) r rs) (append_assoc (nodes (expression_branch e)) (repeat_nodes p r) (flat (repeat_nodes p) rs))

pub stacked-repeated : (p : ℕ) (rs : List RepeatKind) (e : Expression ℕ) → stacked (repeated p rs e) ≡ stacked e + length rs
unfolding repeated stacked
stacked-repeated p [] e = omega arith
stacked-repeated p (r ∷ rs) e = let h = stacked-repeated p rs (Expression.repeat p r e) in omega arith

repeated-start : (p : ℕ) (rs : List RepeatKind) (e : Expression ℕ) → (length rs ≡ 0 → ⊥) → start_of (repeated p rs e) ≡ p
unfolding repeated
repeated-start p [] e z = absurd (z refl)
repeated-start p (r ∷ []) e z = refl
repeated-start p (r ∷ q ∷ rs) e z = repeated-start p (q ∷ rs) (Expression.repeat p r e) (λ y. absurd (omega arith))

repeated-full : (p : ℕ) (rs : List RepeatKind) (e : Expression ℕ) → (length rs ≡ 0 → ⊥) → is_empty_arm (repeated p rs e) ≡ false
unfolding repeated is_empty_arm
repeated-full p [] e z = absurd (z refl)
repeated-full p (r ∷ []) e z = refl
repeated-full p (r ∷ q ∷ rs) e z = repeated-full p (q ∷ rs) (Expression.repeat p r e) (λ y. absurd (omega arith))

repeated-refers : (p : ℕ) (rs : List RepeatKind) (e : Expression ℕ) → (length rs ≡ 0 → ⊥) → reference_of (repeated p rs e) ≡ none
unfolding repeated reference_of
repeated-refers p [] e z = absurd (z refl)
repeated-refers p (r ∷ []) e z = refl
repeated-refers p (r ∷ q ∷ rs) e z = repeated-refers p (q ∷ rs) (Expression.repeat p r e) (λ y. absurd (omega arith))

-- the slots of a sequence
slots-nodes : (ms : List (ConflictMarker ℕ)) (l : List (Item ℕ)) → nodes_all (slot_branches (slots ms l)) ≡ flat (nodes_of marker_branch) ms ++ flat item_nodes l
unfolding slots expression_branch nodes flat
slots-nodes ms [] = nodes-each marker_branch ms []ᴮ
slots-nodes ms (marker m ∷ l) =
    slots-nodes (ms ++ m ∷ []) l
    ∙ rw (flat_snoc (nodes_of marker_branch) ms m) (append_assoc (flat (nodes_of marker_branch) ms) (nodes (marker_branch m)) (flat item_nodes l))
slots-nodes ms (expression e ∷ l) = nodes-each marker_branch ms (expression_branch e ∷ᴮ slot_branches (slots [] l)) ∙ rw (slots-nodes [] l)

slots-count : (ms : List (ConflictMarker ℕ)) (l : List (Item ℕ)) → count (slot_branches (slots ms l)) ≡ length ms + length l
unfolding slots expression_branch count
slots-count ms [] = count-each marker_branch ms []ᴮ
slots-count ms (marker m ∷ l) = let h = slots-count (ms ++ m ∷ []) l in let k = length-append ms (m ∷ []) in omega arith
slots-count ms (expression e ∷ l) = let h = slots-count [] l in let k = count-each marker_branch ms (expression_branch e ∷ᴮ slot_branches (slots [] l)) in omega arith

pub nodes-sequence : (p : ℕ) (l : List (Item ℕ)) → nodes (expression_branch (Expression.sequence p (slots [] l))) ≡ flat item_nodes l ++ node 34 p [] 0 0 (length l) ∷ []
unfolding expression_branch nodes encode_all
nodes-sequence p l =
    let n : nodes_all (slot_branches (slots [] l)) ≡ flat item_nodes l = slots-nodes [] l ∙ rw (flat-none (nodes_of marker_branch)) in
    let k : count (slot_branches (slots [] l)) ≡ length l = (let h = slots-count [] l in omega arith) in
    rw (n, k)

-- markers before an expression, or behind it, make it a sequence
behind-marker : (p : ℕ) (e : Expression ℕ) (m : ConflictMarker ℕ) (ms : List (ConflictMarker ℕ)) (l : List (Item ℕ))
    → sequence_of p (slot [] e (slots (m ∷ ms) l)) ≡ Expression.sequence p (slot [] e (slots (m ∷ ms) l))
unfolding slots sequence_of
behind-marker p e m ms [] = refl
behind-marker p e m ms (marker k ∷ l) = behind-marker p e m (ms ++ k ∷ []) l
behind-marker p e m ms (expression f ∷ l) = refl

before-marker : (p : ℕ) (m : ConflictMarker ℕ) (ms : List (ConflictMarker ℕ)) (l : List (Item ℕ)) → sequence_of p (slots (m ∷ ms) l) ≡ Expression.sequence p (slots (m ∷ ms) l)
unfolding slots sequence_of
before-marker p m ms [] = refl
before-marker p m ms (marker k ∷ l) = before-marker p m (ms ++ k ∷ []) l
before-marker p m ms (expression f ∷ l) = refl

pub several : (p : ℕ) (l : List (Item ℕ)) → (markers_in l ≡ 0 → length (expressions_in l) ≡ 1 → ⊥) → sequence_of p (slots [] l) ≡ Expression.sequence p (slots [] l)
unfolding slots sequence_of markers_in expressions_in
several p [] h = refl
several p (marker m ∷ l) h = before-marker p m [] l
several p (expression e ∷ []) h = absurd (h refl refl)
several p (expression e ∷ marker m ∷ l) h = behind-marker p e m [] l
several p (expression e ∷ expression f ∷ l) h = refl

-- one expression alone
module _ (s : List ℕ) (t u : Token) (p q : ℕ) (shape : Shape) where
  pub alone : (l : List (Item ℕ)) → markers_in l ≡ 0 → length (expressions_in l) ≡ 1 → ShownOnly s t u (expressions_in l) q shape
      → Shown s t u (sequence_of p (slots [] l)) q shape × (nodes (expression_branch (sequence_of p (slots [] l))) ≡ flat item_nodes l)
  unfolding slots sequence_of markers_in expressions_in flat
  alone [] m n h = absurd (omega arith)
  alone (marker k ∷ l) m n h = absurd (omega arith)
  alone (expression e ∷ []) m n h = (h, sym (append-nil (nodes (expression_branch e))))
  alone (expression e ∷ marker k ∷ l) m n h = absurd (omega arith)
  alone (expression e ∷ expression f ∷ l) m n h = absurd (omega arith)

-- a sequence is empty, but not explicitly, if it has no expression
blank-slots : (p : ℕ) (ms : List (ConflictMarker ℕ)) (l : List (Item ℕ)) → is_empty_arm (Expression.sequence p (slots ms l)) ≡ is_blank (sequence_shape (length (expressions_in l)))
unfolding slots is_empty_arm expressions_in
blank-slots p ms [] = refl
blank-slots p ms (marker m ∷ l) = blank-slots p (ms ++ m ∷ []) l
blank-slots p ms (expression e ∷ l) = refl

pub count-items : (l : List (Item ℕ)) → length l ≡ markers_in l + length (expressions_in l)
unfolding markers_in expressions_in
count-items [] = refl
count-items (marker m ∷ l) = let h = count-items l in omega arith
count-items (expression e ∷ l) = let h = count-items l in omega arith

-- ------------------------------------------------------------------ empty arms

pub empty_snoc : (es : List (Expression ℕ)) (e : Expression ℕ) (m : Option ℕ) (q : ℕ) (shape : Shape) → first_empty_arm es ≡ empty_of m → is_empty_arm e ≡ is_blank shape → start_of e ≡ q
    → first_empty_arm (es ++ e ∷ []) ≡ empty_of (empty_by m q shape)
unfolding first_empty_arm
empty_snoc [] e m q shape h b st = by m h
  where
    one : (x : Bool) → (if x then some q otherwise none) ≡ empty_of (if x then Some q otherwise None)
    one true = refl
    one false = refl

    by : (m : Option ℕ) → none ≡ empty_of m → (if is_empty_arm e then some (start_of e) otherwise none) ≡ empty_of (empty_by m q shape)
    by (Some p) h = cc
    by None h = rw (b, st) (one (is_blank shape))
empty_snoc (f ∷ es) e m q shape h b st = by (λ k. empty_snoc es e m q shape k b st) (is_empty_arm f) h
  where
    known : (m : Option ℕ) {p : ℕ} → some p ≡ empty_of m → empty_of (empty_by m q shape) ≡ some p
    known (Some r) e = sym e
    known None e = cc

    by : (first_empty_arm es ≡ empty_of m → first_empty_arm (es ++ e ∷ []) ≡ empty_of (empty_by m q shape)) → (x : Bool) → (if x then some (start_of f) otherwise first_empty_arm es) ≡ empty_of m
        → (if x then some (start_of f) otherwise first_empty_arm (es ++ e ∷ [])) ≡ empty_of (empty_by m q shape)
    by go true h = sym (known m h)
    by go false h = go h

pub empty-first : (e : Expression ℕ) (es : List (Expression ℕ)) (m : Option ℕ) (p : ℕ) (shape : Shape) → first_empty_arm es ≡ empty_of m → is_empty_arm e ≡ is_blank shape → start_of e ≡ p
    → first_empty_arm (e ∷ es) ≡ empty_of (empty_first p shape m)
unfolding first_empty_arm
empty-first e es m p shape h b st = by (is_blank shape) b
  where
    by : (x : Bool) → is_empty_arm e ≡ x → (if is_empty_arm e then some (start_of e) otherwise first_empty_arm es) ≡ empty_of (if x then Some p otherwise m)
    by true c = rw (c, st)
    by false c = rw (c, h)

-- ------------------------------------------------------------------ starts and shapes

refers-within : (s : List ℕ) (t u v w : Token) (e : Expression ℕ) (p : ℕ) (shape : Shape) → Refers s u v e p shape → placed s t ≤ placed s u → placed s v ≤ placed s w → Refers s t w e p shape
refers-within s t u v w e p Name r h k = r
refers-within s t u v w e p (Literal a) r h k = let z = r.between in record { is = r.is; part = r.part; between = omega arith }
refers-within s t u v w e p (Repeat n) r h k = r
refers-within s t u v w e p Blank r h k = r
refers-within s t u v w e p Other r h k = r

module _ {s : List ℕ} where
  -- between tokens further out
  pub shown-within : {t u v w : Token} {e : Expression ℕ} {p : ℕ} {shape : Shape} → Shown s u v e p shape → placed s t ≤ placed s u → placed s v ≤ placed s w → Shown s t w e p shape
  shown-within {t} {u} {v} {w} {e} {p} {shape} x h k =
      record { starts = x.starts; small = x.small; stacks = x.stacks; low = x.low; blank = x.blank; refers = refers-within s t u v w e p shape x.refers h k }

  -- an expression with tokens around it
  pub yields_within : {D C : Answer ℕ (Expression ℕ)} {t u v w : Token} {i j k l : ℕ} {a b : Lent} {p : ℕ} {shape : Shape} (g : Yields D s u i j a v b p shape) → Onward s t u k → Onward s v w l
      → C ≡ read g.tree (stream s w) → j ≤ 2 * (k + l) → Yields C s t (k + i + l) 0 a w b p shape
  yields_within g o q e h =
      let x = o.ahead in
      let y = q.ahead in
      record {
        tree = g.tree;
        gives = e;
        onward = onward_then (onward_then o g.onward) q;
        lays = lays-between 0 g.lays (omega arith) (omega arith) (omega arith);
        shown = shown-within g.shown (omega arith) (omega arith);
      }

  -- fewer steps
  pub yields-least : {D : Answer ℕ (Expression ℕ)} {t u : Token} {i j : ℕ} {a b : Lent} {p : ℕ} {shape : Shape} (k : ℕ) → Yields D s t i j a u b p shape → k ≤ i → Yields D s t k j a u b p shape
  yields-least k g h = record { tree = g.tree; gives = g.gives; onward = onward-least k g.onward h; lays = g.lays; shown = g.shown }

-- those that no one asks about
module _ (s : List ℕ) (t u : Token) (p : ℕ) (h : p ≤ length s) where
  pub shown-empty : Shown s t u (Expression.empty p) p Other
  unfolding stacked is_empty_arm reference_of
  shown-empty = record { starts = refl; small = h; stacks = refl; low = omega arith; blank = refl; refers = refl }

  pub shown-any : Shown s t u (Expression.any p) p Other
  unfolding stacked is_empty_arm reference_of
  shown-any = record { starts = refl; small = h; stacks = refl; low = omega arith; blank = refl; refers = refl }

  pub shown-special : (k : SpecializeKind) (ps : List (Prop ℕ)) (e f : Expression ℕ) → Shown s t u (Expression.special p k ps e f) p Other
  unfolding stacked is_empty_arm reference_of
  shown-special k ps e f = record { starts = refl; small = h; stacks = refl; low = omega arith; blank = refl; refers = refl }

  pub shown-inline : (n : List ℕ) (ps : List (Prop ℕ)) (e : Expression ℕ) → Shown s t u (Expression.inline p n ps e) p Other
  unfolding stacked is_empty_arm reference_of
  shown-inline n ps e = record { starts = refl; small = h; stacks = refl; low = omega arith; blank = refl; refers = refl }

  pub shown-choice : (es : Expressions ℕ) → Shown s t u (Expression.choice p es) p Other
  unfolding stacked is_empty_arm reference_of
  shown-choice es = record { starts = refl; small = h; stacks = refl; low = omega arith; blank = refl; refers = refl }

  pub shown-name : (n : List ℕ) (es : Expressions ℕ) → Shown s t u (Expression.name p n es) p Name
  unfolding stacked is_empty_arm
  shown-name n es = record { starts = refl; small = h; stacks = refl; low = omega arith; blank = refl; refers = record { text = n; arguments = es; is = refl } }

  pub shown-sequence : (l : List (Item ℕ)) → Shown s t u (Expression.sequence p (slots [] l)) p (sequence_shape (length (expressions_in l)))
  unfolding stacked reference_of
  shown-sequence l = by (length (expressions_in l)) refl
    where
      by : (n : ℕ) → length (expressions_in l) ≡ n → Shown s t u (Expression.sequence p (slots [] l)) p (sequence_shape n)
      by zero e = record { starts = refl; small = h; stacks = refl; low = omega arith; blank = blank-slots p [] l ∙ rw e; refers = refl }
      by (suc n) e = record { starts = refl; small = h; stacks = refl; low = omega arith; blank = blank-slots p [] l ∙ rw e; refers = refl }

  -- at least one repeat
  pub shown-repeat : (rs : List RepeatKind) (e : Expression ℕ) (k : ℕ) → stacked e + length rs ≡ k → k ≤ repeats → (length rs ≡ 0 → ⊥) → Shown s t u (repeated p rs e) p (Repeat k)
  shown-repeat rs e k c l z =
      record {
        starts = repeated-start p rs e z;
        small = h;
        stacks = stacked-repeated p rs e ∙ c;
        low = l;
        blank = repeated-full p rs e z;
        refers = repeated-refers p rs e z;
      }

-- the content of a specialize with one part
pub content-is : (s : List ℕ) (t u : Token) (e : Expression ℕ) (start p : ℕ) (shape : Shape) → Shown s t u e p shape → (ts : Tokens ℕ) → content_by start (reference_of e) ts ≡ content_of s start p shape ts
unfolding content_by reference_of
content-is s t u e start p Name x ts = rw x.refers.is
content-is s t u e start p (Literal a) x ts = rw x.refers.is
content-is s t u e start p (Repeat k) x ts = rw x.refers
content-is s t u e start p Blank x ts = rw x.refers
content-is s t u e start p Other x ts = rw x.refers
