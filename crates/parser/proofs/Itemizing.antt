-- The loops over the items of a sequence and over the arms of a choice.
-- Assumes nothing.
use Prim.Native.Nat.{ℕ, suc, ◌+◌, ◌≤◌}
use native.Mathlib.Omega.{arith}
use mathlib.Core.Path.{◌≡◌, refl, ap, ◌∙◌}
use mathlib.Core.Bool.{true}
use mathlib.Core.List.{List, [], ◌∷◌, ◌++◌, append-nil}
use mathlib.Core.Option.{none}
use Rattle.std.specs.Prelude.{Option, None}
use lib.ListN.{length, length-append}
use Rattle.lexer.specs.Tokens.{Tokens}
use Rattle.tree.specs.Records.{nodes, texts_of}
use Rattle.tree.proofs.Encoded.{texts-append}
use Rattle.tree.specs.Stored.{expression_branch}
use Rattle.tree.specs.Syntax.{ConflictMarker, Expression, expressions}
use Rattle.notation.specs.Parser.{Answer, read, refused, Parser, eat, loop}
use Rattle.notation.specs.Expressions.{Item, marker, expression, parse_expression_sequence, parse_item, parse_arm, first_empty_arm}
use Rattle.tokens.specs.Promise.{stream, LiesIn}
use Rattle.parser.specs.Storing.{Lent, Stores, node, flat, nodes_of}
use Rattle.parser.specs.Steps.{placed, Onward, Ready}
use Rattle.parser.specs.Shapes.{item_nodes, markers_in, expressions_in, ShownOnly, Shown, Yields, YieldsMarker, YieldsItem, YieldsEnd, YieldsItems, YieldsArms, ReadyArms, empty_of, empty_by, empty_first}
use Rattle.lexer.specs.declared.Token.{Token}
use Rattle.parser.specs.declared.parts.Shape.{Shape}
use Rattle.parser.specs.declared.parts.Shape.TheVariants.{Other}
use Rattle.notation.proofs.Turns.{loop-end}
use Rattle.parser.proofs.Stored.{stores-then}
use Rattle.parser.proofs.Onward.{placed_in, onward_then}
use Rattle.parser.proofs.Lists.{Listing, listing_start, listing-turn, listing-refused, lays-between, flat-none, flat-more}
use Rattle.parser.proofs.Shown.{shown-within, shown-choice, nodes-choice, empty_snoc, empty-first}
use Rattle.parser.proofs.SequenceRules.{arm-some}
use Rattle.parser.proofs.Yielded.{yields-over}
use Rattle.parser.proofs.Ready.{flat-length}
use Rattle.parser.proofs.Marks.{items-few}

none-stored : (es : List (Expression ℕ)) → length es ≡ 0 → flat (nodes_of expression_branch) es ≡ []
none-stored [] z = flat-none (nodes_of expression_branch)
none-stored (e ∷ es) z = absurd (omega arith)

-- an item is read whatever came before
pub item-any : (below : Parser ℕ (Expression ℕ)) (before : List (Item ℕ)) (ts : Tokens ℕ) → parse_item below before ts ≡ parse_item below [] ts
unfolding parse_item
item-any below before ts = refl

markers-marker : (l : List (Item ℕ)) (m : ConflictMarker ℕ) → markers_in (l ++ marker m ∷ []) ≡ markers_in l + 1
unfolding markers_in
markers-marker [] m = refl
markers-marker (marker k ∷ l) m = let h = markers-marker l m in omega arith
markers-marker (expression e ∷ l) m = markers-marker l m

markers-expression : (l : List (Item ℕ)) (e : Expression ℕ) → markers_in (l ++ expression e ∷ []) ≡ markers_in l
unfolding markers_in
markers-expression [] e = refl
markers-expression (marker k ∷ l) e = ap suc (markers-expression l e)
markers-expression (expression f ∷ l) e = markers-expression l e

expressions-marker : (l : List (Item ℕ)) (m : ConflictMarker ℕ) → expressions_in (l ++ marker m ∷ []) ≡ expressions_in l
unfolding expressions_in
expressions-marker [] m = refl
expressions-marker (marker k ∷ l) m = expressions-marker l m
expressions-marker (expression e ∷ l) m = ap (λ (x : List (Expression ℕ)). e ∷ x) (expressions-marker l m)

expressions-expression : (l : List (Item ℕ)) (e : Expression ℕ) → expressions_in (l ++ expression e ∷ []) ≡ expressions_in l ++ e ∷ []
unfolding expressions_in
expressions-expression [] e = refl
expressions-expression (marker k ∷ l) e = expressions-expression l e
expressions-expression (expression f ∷ l) e = ap (λ (x : List (Expression ℕ)). f ∷ x) (expressions-expression l e)

-- the items so far
pub record Itemizing (below : Parser ℕ (Expression ℕ)) (s : List ℕ) (t₀ : Token) (a : Lent) (t : Token) (b : Lent) (markers others p : ℕ) (shape : Shape) : Type 0 where
  pub total : ℕ
  pub adds : total ≡ markers + others
  pub listing : Listing (parse_item below) item_nodes s t₀ 0 a t b total
  pub counted : markers_in listing.items ≡ markers
  pub numbered : length (expressions_in listing.items) ≡ others
  pub shown : ShownOnly s t₀ t (expressions_in listing.items) p shape

only-within : (s : List ℕ) (t₀ t u : Token) (es : List (Expression ℕ)) (p : ℕ) (shape : Shape) → ShownOnly s t₀ t es p shape → placed s t ≤ placed s u → ShownOnly s t₀ u es p shape
only-within s t₀ t u [] p shape h k = tt
only-within s t₀ t u (e ∷ []) p shape h k = shown-within h (omega arith) k
only-within s t₀ t u (e ∷ f ∷ es) p shape h k = tt

only_snoc : (s : List ℕ) (t₀ t u : Token) (es : List (Expression ℕ)) (e : Expression ℕ) (p : ℕ) (shape : Shape) → Shown s t u e p shape → placed s t₀ ≤ placed s t → ShownOnly s t₀ u (es ++ e ∷ []) p shape
only_snoc s t₀ t u [] e p shape h k = shown-within h k (omega arith)
only_snoc s t₀ t u (f ∷ []) e p shape h k = tt
only_snoc s t₀ t u (f ∷ g ∷ es) e p shape h k = tt

pub itemizing : (below : Parser ℕ (Expression ℕ)) (s : List ℕ) (t : Token) (a : Lent) (p : ℕ) (shape : Shape) → LiesIn s 0 t → Itemizing below s t a t a 0 0 p shape
unfolding markers_in expressions_in listing_start
itemizing below s t a p shape h = record { total = 0; adds = refl; listing = listing_start (parse_item below) item_nodes s t 0 a h; counted = refl; numbered = refl; shown = tt }

module _ {below : Parser ℕ (Expression ℕ)} {s : List ℕ} {t₀ : Token} {a : Lent} {t : Token} {b : Lent} {markers others p : ℕ} {shape : Shape} (i : Itemizing below s t₀ a t b markers others p shape) where
  pub itemizing-marker : {u : Token} {c : Lent} → YieldsMarker (parse_item below [] (stream s t)) s t b u c → Itemizing below s t₀ a u c (markers + 1) others p shape
  unfolding listing-turn
  itemizing-marker {u} {c} y =
      let w = y.onward.ahead in
      let n = i.adds in
      let e = expressions-marker i.listing.items y.mark in
      record {
        total = i.total + 1;
        adds = omega arith;
        listing = listing-turn i.listing (item-any below i.listing.items (stream s t) ∙ y.gives) y.onward y.lays;
        counted = markers-marker i.listing.items y.mark ∙ rw i.counted;
        numbered = ap length e ∙ i.numbered;
        shown = rw e (only-within s t₀ t u (expressions_in i.listing.items) p shape i.shown (omega arith));
      }

  pub itemizing-expression : {u : Token} {c : Lent} {q : ℕ} {f : Shape} → YieldsItem (parse_item below [] (stream s t)) s t b u c q f → Itemizing below s t₀ a u c markers (others + 1) q f
  unfolding listing-turn
  itemizing-expression {u} {c} {q} {f} y =
      let n = i.adds in
      let o = i.listing.onward.ahead in
      let e = expressions-expression i.listing.items y.tree in
      let l = length-append (expressions_in i.listing.items) (y.tree ∷ []) in
      let m = i.numbered in
      record {
        total = i.total + 1;
        adds = omega arith;
        listing = listing-turn i.listing (item-any below i.listing.items (stream s t) ∙ y.gives) y.onward y.lays;
        counted = markers-expression i.listing.items y.tree ∙ i.counted;
        numbered = ap length e ∙ omega arith;
        shown = rw e (only_snoc s t₀ t u (expressions_in i.listing.items) y.tree q f y.shown (omega arith));
      }

  pub itemizing-over : {c : Lent} → YieldsEnd (parse_item below [] (stream s t)) s t b c → YieldsItems (loop (parse_item below) (stream s t₀)) s t₀ a t c markers others p shape
  itemizing-over {c} y =
      record {
        lists = record {
          items = i.listing.items;
          gives = loop-end (parse_item below) i.listing.goes (item-any below i.listing.items (stream s t) ∙ y.gives);
          counted = i.listing.counted ∙ i.adds;
          onward = i.listing.onward;
          lays = rw y.same i.listing.lays;
        };
        counted = i.counted;
        others = i.numbered;
        shown = i.shown;
      }

  pub itemizing-refused : {c q : ℕ} → parse_item below [] (stream s t) ≡ refused c q → loop (parse_item below) (stream s t₀) ≡ refused c q
  itemizing-refused e = listing-refused i.listing (item-any below i.listing.items (stream s t) ∙ e)

  -- so few that they can be counted
  pub itemizing-small : length s ≤ 0x200000 → markers + others ≤ 0x1000000
  itemizing-small h =
      let n = i.adds in
      let a = items-few i.listing.items in
      let b = i.listing.lays.bound in
      let c = i.listing.counted in
      let d = placed_in s t i.listing.onward.lies in
      omega arith

-- ------------------------------------------------------------------ arms

pub record Arming (below : Parser ℕ (Expression ℕ)) (s : List ℕ) (t₀ : Token) (a : Lent) (t : Token) (b : Lent) (count : ℕ) (empty : Option ℕ) : Type 0 where
  pub listing : Listing (parse_arm below) (nodes_of expression_branch) s t₀ 0 a t b count
  pub blank : first_empty_arm listing.items ≡ empty_of empty

pub arming : (below : Parser ℕ (Expression ℕ)) (s : List ℕ) (t : Token) (a : Lent) → LiesIn s 0 t → Arming below s t a t a 0 None
unfolding first_empty_arm listing_start
arming below s t a h = record { listing = listing_start (parse_arm below) (nodes_of expression_branch) s t 0 a h; blank = refl }

module _ {below : Parser ℕ (Expression ℕ)} {s : List ℕ} {t₀ : Token} {a : Lent} {t : Token} {b : Lent} {count : ℕ} {empty : Option ℕ} (i : Arming below s t₀ a t b count empty) where
  -- one arm more, behind its bar
  pub arming-more : {u v : Token} {c : Lent} {p : ℕ} {shape : Shape} (y : Yields (parse_expression_sequence below (stream s u)) s u 0 1 b v c p shape) → Onward s t u 1
      → eat "|" (stream s t) ≡ read true (stream s u) → Arming below s t₀ a v c (count + 1) (empty_by empty p shape)
  unfolding listing-turn
  arming-more {u} {v} y o e =
      let w = o.ahead in
      record {
        listing = listing-turn i.listing (arm-some below (stream s t) i.listing.items e y.gives) (onward_then o y.onward)
            (lays-between 0 y.lays (omega arith) (omega arith) (omega arith));
        blank = empty_snoc i.listing.items y.tree empty _ _ i.blank y.shown.blank y.shown.starts;
      }

  pub arming-over : parse_arm below i.listing.items (stream s t) ≡ read none (stream s t) → YieldsArms (loop (parse_arm below) (stream s t₀)) s t₀ a t b count empty
  arming-over e =
      record {
        lists = record { items = i.listing.items; gives = loop-end (parse_arm below) i.listing.goes e; counted = i.listing.counted; onward = i.listing.onward; lays = i.listing.lays };
        blank = i.blank;
      }

  pub arming-refused : {c p : ℕ} → parse_arm below i.listing.items (stream s t) ≡ refused c p → loop (parse_arm below) (stream s t₀) ≡ refused c p
  arming-refused e = listing-refused i.listing e

  pub arming-small : length s ≤ 0x200000 → count ≤ 0x1000000
  arming-small h =
      let n = flat-length expression_branch i.listing.items in
      let b = i.listing.lays.bound in
      let c = i.listing.counted in
      let d = placed_in s t i.listing.onward.lies in
      omega arith

  -- where an arm begins
  pub arm_ready : {u : Token} → ReadyArms s t₀ a → Onward s t u 1 → Ready s u b
  arm_ready r o =
      let p = r.room in
      let q = r.space in
      let c = i.listing.lays.bound in
      let d = i.listing.lays.space in
      let g = i.listing.lays.stores.words-end in
      let h = i.listing.lays.stores.texts-end in
      let w = o.ahead in
      record { lies = o.lies; small = r.small; room = omega arith; space = omega arith }

-- ------------------------------------------------------------------ choices

module _ {C : Answer ℕ (Expression ℕ)} {B : Answer ℕ (List (Expression ℕ))} {s : List ℕ} {t u v : Token} {a b c : Lent} {p count : ℕ} {shape : Shape} {empty : Option ℕ}
    (g : Yields C s t 0 1 a u b p shape) (y : YieldsArms B s u b v c count empty) where
  -- no arm but the first
  pub choice-alone : {D : Answer ℕ (Expression ℕ)} → D ≡ read g.tree (stream s v) → count ≡ 0 → Yields D s t 0 2 a v c p shape
  choice-alone e z =
      let n = none-stored y.lists.items (y.lists.counted ∙ z) in
      let w = y.lists.onward.ahead in
      record {
        tree = g.tree;
        gives = e;
        onward = onward_then g.onward y.lists.onward;
        lays = record {
          stores = rw append-nil at (stores-then g.lays.stores (rw n at y.lists.lays.stores));
          bound = (let i = g.lays.bound in omega arith);
          space = (let i = g.lays.space in omega arith);
        };
        shown = shown-within g.shown (omega arith) (omega arith);
      }

  pub choice-over : {D : Answer ℕ (Expression ℕ)} {d : Lent} (start : ℕ) → D ≡ read (Expression.choice start (expressions (g.tree ∷ y.lists.items))) (stream s v) → start ≤ length s
      → Stores (node 33 start [] 0 0 (count + 1) ∷ []) c d → Yields D s t 0 2 a v d start Other
  choice-over start e h f =
      let i = g.lays.bound in
      let j = g.lays.space in
      let k = y.lists.lays.bound in
      let l = y.lists.lays.space in
      let m = length-append (nodes (expression_branch g.tree)) (flat (nodes_of expression_branch) y.lists.items) in
      let n = ap length (texts-append (nodes (expression_branch g.tree)) (flat (nodes_of expression_branch) y.lists.items))
      ∙ length-append (texts_of (nodes (expression_branch g.tree))) (texts_of (flat (nodes_of expression_branch) y.lists.items)) in
      let q : length (g.tree ∷ y.lists.items) ≡ count + 1 = (let x = y.lists.counted in omega arith) in
      yields-over (Expression.choice start (expressions (g.tree ∷ y.lists.items))) 2 e (onward_then g.onward y.lists.onward)
      (stores-then g.lays.stores y.lists.lays.stores) f
      (nodes-choice start (g.tree ∷ y.lists.items) ∙ rw (flat-more (nodes_of expression_branch) g.tree y.lists.items, q))
      (omega arith) (omega arith) (shown-choice s t v start h (expressions (g.tree ∷ y.lists.items)))

  pub first-empty : first_empty_arm (g.tree ∷ y.lists.items) ≡ empty_of (empty_first p shape empty)
  first-empty = empty-first g.tree y.lists.items empty p shape y.blank g.shown.blank g.shown.starts

  pub choice_ready : Ready s t a → (c.n ≤ 0x50000000) × (count ≤ 0x1000000)
  choice_ready r =
      let i = g.lays.bound in
      let k = y.lists.lays.bound in
      let st = stores-then g.lays.stores y.lists.lays.stores in
      let l = length-append (nodes (expression_branch g.tree)) (flat (nodes_of expression_branch) y.lists.items) in
      let h = st.words-end in
      let o = r.room in
      let q = flat-length expression_branch y.lists.items in
      let w = y.lists.counted in
      let d = placed_in s v y.lists.onward.lies in
      let j = r.small in
      (omega arith, omega arith)
