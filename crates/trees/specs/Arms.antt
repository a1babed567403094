-- `structurally_eq` of the Rust on expressions, arm by arm, as node.rs has it. Starts and the `@` of a prop are not looked at.
-- Assumes nothing.
use Rattle.std.specs.Prelude.{ℕ, ◌≡◌, Bool, true, false, ◌&&◌, List, [], ◌∷◌, ◌++◌, eqb}
use Rattle.basics.specs.Basics.{same}
use Rattle.characters.specs.Spans.{Span}
use Rattle.characters.specs.Utf8.{encode_all}
use Rattle.tree.specs.Records.{records, words, texts}
use Rattle.tree.specs.Stored.{expression_branch}
use Rattle.tree.specs.Syntax.{PropPart, value, name, Prop, ConflictMarkerKind, ambiguity, precedence, ConflictMarker, SpecializeKind, extend, specialize, RepeatKind, optional, zero_or_more, one_or_more, CharClass, ascii_letter, ascii_lowercase, ascii_uppercase, digit, whitespace, eof, Expression, special, inline, choice, sequence, empty, repeat, set, any, class, Expressions, []ᴱ, ◌∷ᴱ◌, Slots, last, slot}
use Rattle.grammar.specs.Calls.{compared, compare}
use Rattle.trees.specs.IsTree.{Proper}

-- ------------------------------------------------------------------ what the arms compare

-- texts by their bytes
abbrev pub same_text : List ℕ → List ℕ → Bool
same_text t u = same (encode_all t) (encode_all u)

-- `@extend` and `@specialize`
abbrev pub same_specialize : SpecializeKind → SpecializeKind → Bool
same_specialize extend extend = true
same_specialize specialize specialize = true
same_specialize k l = false

-- `?`, `*`, `+`
abbrev pub same_repeat : RepeatKind → RepeatKind → Bool
same_repeat optional optional = true
same_repeat zero_or_more zero_or_more = true
same_repeat one_or_more one_or_more = true
same_repeat k l = false

-- classes
abbrev pub same_class : CharClass → CharClass → Bool
same_class ascii_letter ascii_letter = true
same_class ascii_lowercase ascii_lowercase = true
same_class ascii_uppercase ascii_uppercase = true
same_class digit digit = true
same_class whitespace whitespace = true
same_class eof eof = true
same_class c d = false

-- inverted or not
abbrev pub same_flag : Bool → Bool → Bool
same_flag true true = true
same_flag false false = true
same_flag i j = false

-- spans, by both ends
unfoldable pub same_spans : List Span → List Span → Bool
same_spans [] [] = true
same_spans (s ∷ ss) (r ∷ rs) = (eqb s.first r.first && eqb s.past r.past) && same_spans ss rs
same_spans ss rs = false

-- `~` and `!`
abbrev pub same_marker_kind : ConflictMarkerKind → ConflictMarkerKind → Bool
same_marker_kind ambiguity ambiguity = true
same_marker_kind precedence precedence = true
same_marker_kind k l = false

-- markers, by kind and name: `marker_sets_structurally_eq`, for one set
unfoldable pub same_markers : List (ConflictMarker ℕ) → List (ConflictMarker ℕ) → Bool
unfolding same
same_markers [] [] = true
same_markers (m ∷ ms) (n ∷ ns) = (same_marker_kind m.kind n.kind && same_text m.name n.name) && same_markers ms ns
same_markers ms ns = false

-- parts of a prop: a text is not a name
abbrev pub same_part : PropPart ℕ → PropPart ℕ → Bool
same_part (value p t) (value q u) = same_text t u
same_part (name p t) (name q u) = same_text t u
same_part x y = false

unfoldable pub same_parts : List (PropPart ℕ) → List (PropPart ℕ) → Bool
unfolding same
same_parts [] [] = true
same_parts (x ∷ xs) (y ∷ ys) = same_part x y && same_parts xs ys
same_parts xs ys = false

-- props, by name and parts: `props_structurally_eq`
unfoldable pub same_props : List (Prop ℕ) → List (Prop ℕ) → Bool
unfolding same same_parts
same_props [] [] = true
same_props (x ∷ xs) (y ∷ ys) = (same_text x.name y.name && same_parts x.value y.value) && same_props xs ys
same_props xs ys = false

-- ------------------------------------------------------------------ the arms

unfoldable mutual
  unfolding same same_spans same_markers same_props

  -- An explicitly empty sequence has no expression and two sets of markers, any other has one set more than expressions: so it is an arm of its own.
  pub structurally_eq : Expression ℕ → Expression ℕ → Bool
  structurally_eq (Expression.name p t es) (Expression.name q u fs) = same_text t u && expressions_structurally_eq es fs
  structurally_eq (special p k ps e f) (special q l qs g h) = same_specialize k l && same_props ps qs && structurally_eq e g && structurally_eq f h
  structurally_eq (inline p t ps e) (inline q u qs f) = same_text t u && same_props ps qs && structurally_eq e f
  structurally_eq (choice p es) (choice q fs) = expressions_structurally_eq es fs
  structurally_eq (sequence p s) (sequence q t) = slots_structurally_eq s t
  structurally_eq (empty p) (empty q) = true
  structurally_eq (repeat p k e) (repeat q l f) = same_repeat k l && structurally_eq e f
  structurally_eq (Expression.literal p t) (Expression.literal q u) = same_text t u
  structurally_eq (set p i ss) (set q j rs) = same_flag i j && same_spans ss rs
  structurally_eq (any p) (any q) = true
  structurally_eq (class p c) (class q d) = same_class c d
  structurally_eq e f = false

  -- equally many, one by one
  pub expressions_structurally_eq : Expressions ℕ → Expressions ℕ → Bool
  expressions_structurally_eq []ᴱ []ᴱ = true
  expressions_structurally_eq (e ∷ᴱ es) (f ∷ᴱ fs) = structurally_eq e f && expressions_structurally_eq es fs
  expressions_structurally_eq es fs = false

  -- the expressions of a sequence, and the markers before each and after the last
  pub slots_structurally_eq : Slots ℕ → Slots ℕ → Bool
  slots_structurally_eq (last ms) (last ns) = same_markers ms ns
  slots_structurally_eq (slot ms e s) (slot ns f t) = same_markers ms ns && structurally_eq e f && slots_structurally_eq s t
  slots_structurally_eq s t = false

-- Of two expressions that are stored as records, with anything behind their texts, the call answers just that.
abbrev pub ComparesByTheArms : Type 0
ComparesByTheArms =
    (e f : Expression ℕ) (more rest : List ℕ) → Proper (expression_branch e) → Proper (expression_branch f)
    → compare (words (records (expression_branch e))) (texts (expression_branch e) ++ more) (words (records (expression_branch f))) (texts (expression_branch f) ++ rest)
    ≡ compared (structurally_eq e f)
