-- What the functions on expressions say of what they read.
-- Assumes nothing.
use Rattle.std.specs.Prelude.{ℕ, zero, suc, ◌+◌, ◌*◌, ◌≤◌, ◌≡◌, Bool, true, false, ◌&&◌, List, [], ◌∷◌, ◌++◌, length, Option, Some, None, Result, Ok, Err}
use Rattle.std.proofs.Math.Option as M
use Rattle.std.proofs.Math.Option.{none, some}
use Rattle.basics.specs.Basics.{if◌then◌otherwise◌, letters, is, among, spells}
use Rattle.error.specs.Causes.{one_part}
use Rattle.error.specs.declared.Stop.{Stop}
use Rattle.error.specs.Promise.{cause_number}
use Rattle.characters.specs.Utf8.{encode_all}
use Rattle.characters.specs.Places.{cut}
use Rattle.lexer.specs.declared.Kind.TheVariants as K
use Rattle.lexer.specs.Promise.{IsPart, part_of}
use Rattle.lexer.specs.Tokens.{Tokens}
use Rattle.lexer.specs.Escapes.{decode_string}
use Rattle.tree.specs.CharClasses.{from_name}
use Rattle.tree.specs.Promise.{repeat_of, marker_of}
use Rattle.tree.specs.Records.{Node, nodes, texts_of}
use Rattle.tree.specs.Syntax.{Identifier, Prop, Expression, Expressions, ConflictMarker, ConflictMarkerKind, RepeatKind, start_of, expressions}
use Rattle.tree.specs.Stored.{prop_branch, name_branch, expression_branch, marker_branch, repeat_value}
use Rattle.notation.specs.Limits.{repeats}
use Rattle.notation.specs.Parser.{Answer, read, refused, Parser, ◌>>=◌, ◌>>◌, pure, refuse, choose, kind_of, kind, at_in, name_in, next, eat, expect, until, comma, parse_identifier}
use Rattle.notation.specs.Expressions.{Item, marker, expression, parse_props, class_by, std_class_by, parse_set_expression, literal_of, content_by, parse_named, parse_arguments, reference_of, stacked, is_empty_arm, first_empty_arm}
use Rattle.tokens.specs.Promise.{stream, end_in, code_in, mark_of, name_of, LiesIn, Whole}
use Rattle.parser.specs.Storing.{Lent, Stores, node, flat, nodes_of}
use Rattle.parser.specs.Steps.{placed, Onward, Lays, Lists}
use Rattle.lexer.specs.declared.Part.{Part}
use Rattle.lexer.specs.declared.Token.{Token}
use Rattle.lexer.specs.declared.Token.TheVariants.{Of, Eof}
use Rattle.tree.specs.declared.RepeatKind.{RepeatKind as Repeats}
use Rattle.tree.specs.declared.ConflictMarkerKind.{ConflictMarkerKind as Markers}
use Rattle.parser.specs.declared.parts.Shape.{Shape}
use Rattle.parser.specs.declared.parts.Shape.TheVariants.{Name, Literal, Repeat, Blank, Other}
use Rattle.parser.specs.declared.parts.Expressed.{Expressed}
use Rattle.parser.specs.declared.parts.Headed.{Headed}
use Rattle.parser.specs.declared.parts.Arms.{Arms}
use Rattle.parser.specs.declared.parts.Item.{Item as ItemRead}
use Rattle.parser.specs.declared.parts.Item.TheVariants as I
use Rattle.parser.specs.declared.parts.Items.{Items}

-- how many repeats stand one over another
abbrev pub stack_of : Shape → ℕ
stack_of Name = 0
stack_of (Literal a) = 0
stack_of (Repeat k) = k
stack_of Blank = 0
stack_of Other = 0

-- an arm that is empty, but not explicitly
abbrev pub is_blank : Shape → Bool
is_blank Name = false
is_blank (Literal a) = false
is_blank (Repeat k) = false
is_blank Blank = true
is_blank Other = false

-- a name that starts at p
pub record IsName (e : Expression ℕ) (p : ℕ) : Type 0 where
  pub text : List ℕ
  pub arguments : Expressions ℕ
  pub is : e ≡ Expression.name p text arguments

-- a literal that starts at p, whose text stands in a part of the source between the tokens t and u
pub record IsLiteral (s : List ℕ) (t u : Token) (e : Expression ℕ) (p : ℕ) (a : Part) : Type 0 where
  pub is : e ≡ Expression.literal p (decode_string (part_of s a))
  pub part : IsPart s a
  pub between : a.to + placed s t ≤ a.from + placed s u

-- a name or a literal, or no reference
abbrev pub Refers : List ℕ → (t u : Token) → Expression ℕ → (p : ℕ) → Shape → Type 0
Refers s t u e p Name = IsName e p
Refers s t u e p (Literal a) = IsLiteral s t u e p a
Refers s t u e p (Repeat k) = reference_of e ≡ none
Refers s t u e p Blank = reference_of e ≡ none
Refers s t u e p Other = reference_of e ≡ none

-- an expression between the tokens t and u has this start and this shape
pub record Shown (s : List ℕ) (t u : Token) (e : Expression ℕ) (p : ℕ) (shape : Shape) : Type 0 where
  pub starts : start_of e ≡ p
  pub small : p ≤ length s
  pub stacks : stacked e ≡ stack_of shape
  pub low : stack_of shape ≤ repeats
  pub blank : is_empty_arm e ≡ is_blank shape
  pub refers : Refers s t u e p shape

-- from the token t on the definition answers D, an expression whose nodes are stored
pub record Yields (D : Answer ℕ (Expression ℕ)) (s : List ℕ) (t : Token) (step slack : ℕ) (a : Lent) (u : Token) (b : Lent) (p : ℕ) (shape : Shape) : Type 0 where
  pub tree : Expression ℕ
  pub gives : D ≡ read tree (stream s u)
  pub onward : Onward s t u step
  pub lays : Lays s t u slack (nodes (expression_branch tree)) a b
  pub shown : Shown s t u tree p shape

-- what an answer says of D: it is an expression with this start and shape, whose nodes are stored, or it is this refusal
abbrev pub Expresses : Answer ℕ (Expression ℕ) → List ℕ → Token → (step slack : ℕ) → (a b : Lent) → Result Expressed Stop → Type 0
Expresses D s t step slack a b (Ok r) = Yields D s t step slack a r.token b r.start r.shape
Expresses D s t step slack a b (Err e) = D ≡ refused (cause_number e.cause) e.place

-- an expression in braces, which have no node and no text
pub record YieldsBraced (D : Answer ℕ (Expression ℕ)) (s : List ℕ) (t : Token) (a : Lent) (u : Token) (b : Lent) (p : ℕ) (shape : Shape) : Type 0 where
  pub yields : Yields D s t 2 0 a u b p shape
  pub few : length (nodes (expression_branch yields.tree)) + 2 * placed s t + 2 ≤ 2 * placed s u
  pub short : length (texts_of (nodes (expression_branch yields.tree))) + 3 * placed s t + 6 ≤ 3 * placed s u

-- what an answer says of D: it is an expression in braces, whose nodes are stored, or it is this refusal
abbrev pub ExpressesBraced : Answer ℕ (Expression ℕ) → List ℕ → Token → (a b : Lent) → Result Expressed Stop → Type 0
ExpressesBraced D s t a b (Ok r) = YieldsBraced D s t a r.token b r.start r.shape
ExpressesBraced D s t a b (Err e) = D ≡ refused (cause_number e.cause) e.place

-- ------------------------------------------------------------------ repeats

-- a mark's node over an operand; p is where the operand starts
abbrev pub repeat_nodes : (p : ℕ) → RepeatKind → List Node
repeat_nodes p k = node 35 p [] (repeat_value k) 0 1 ∷ []

-- ------------------------------------------------------------------ arms

-- the start of the first empty arm
abbrev pub empty_of : Option ℕ → M.Option ℕ
empty_of (Some p) = some p
empty_of None = none

-- D are the arms behind the first, so many, whose nodes are stored; `empty` is the start of the first empty one
pub record YieldsArms (D : Answer ℕ (List (Expression ℕ))) (s : List ℕ) (t : Token) (a : Lent) (u : Token) (b : Lent) (count : ℕ) (empty : Option ℕ) : Type 0 where
  pub lists : Lists D (nodes_of expression_branch) s t 0 a u b count
  pub blank : first_empty_arm lists.items ≡ empty_of empty

-- what an answer says of D: it is the arms behind the first, whose nodes are stored, or it is this refusal
abbrev pub ExpressesArms : Answer ℕ (List (Expression ℕ)) → List ℕ → Token → (a b : Lent) → Result Arms Stop → Type 0
ExpressesArms D s t a b (Ok r) = YieldsArms D s t a r.token b r.count r.empty
ExpressesArms D s t a b (Err e) = D ≡ refused (cause_number e.cause) e.place

-- ------------------------------------------------------------------ items of a sequence

-- the nodes of a marker or of an expression
abbrev pub item_nodes : Item ℕ → List Node
item_nodes (marker m) = nodes (marker_branch m)
item_nodes (expression e) = nodes (expression_branch e)

-- D is a marker, whose node is stored
pub record YieldsMarker (D : Answer ℕ (M.Option (Item ℕ))) (s : List ℕ) (t : Token) (a : Lent) (u : Token) (b : Lent) : Type 0 where
  pub mark : ConflictMarker ℕ
  pub gives : D ≡ read (some (marker mark)) (stream s u)
  pub onward : Onward s t u 1
  pub lays : Lays s t u 0 (nodes (marker_branch mark)) a b

-- D is an expression with this start and shape, whose nodes are stored
pub record YieldsItem (D : Answer ℕ (M.Option (Item ℕ))) (s : List ℕ) (t : Token) (a : Lent) (u : Token) (b : Lent) (p : ℕ) (shape : Shape) : Type 0 where
  pub tree : Expression ℕ
  pub gives : D ≡ read (some (expression tree)) (stream s u)
  pub onward : Onward s t u 1
  pub lays : Lays s t u 0 (nodes (expression_branch tree)) a b
  pub shown : Shown s t u tree p shape

-- D is the end of the sequence: no token is taken, and the lent words and bytes are as they were
pub record YieldsEnd (D : Answer ℕ (M.Option (Item ℕ))) (s : List ℕ) (t : Token) (a b : Lent) : Type 0 where
  pub gives : D ≡ read none (stream s t)
  pub same : b ≡ a

-- what an answer says of D: it is a marker or an expression, whose nodes are stored, or none at the sequence's end, or this refusal
abbrev pub ExpressesItem : Answer ℕ (M.Option (Item ℕ)) → List ℕ → Token → (a b : Lent) → Result (Option ItemRead) Stop → Type 0
ExpressesItem D s t a b (Ok (Some (I.Marker u))) = YieldsMarker D s t a u b
ExpressesItem D s t a b (Ok (Some (I.Expression r))) = YieldsItem D s t a r.token b r.start r.shape
ExpressesItem D s t a b (Ok None) = YieldsEnd D s t a b
ExpressesItem D s t a b (Err e) = D ≡ refused (cause_number e.cause) e.place

-- how many of the items are markers
unfoldable pub markers_in : List (Item ℕ) → ℕ
markers_in [] = 0
markers_in (marker m ∷ l) = suc (markers_in l)
markers_in (expression e ∷ l) = markers_in l

-- the expressions among the items, in their order
unfoldable pub expressions_in : List (Item ℕ) → List (Expression ℕ)
expressions_in [] = []
expressions_in (marker m ∷ l) = expressions_in l
expressions_in (expression e ∷ l) = e ∷ expressions_in l

-- an expression that is the only one has this start and this shape; of none, or of more, nothing is said
abbrev pub ShownOnly : List ℕ → (t u : Token) → List (Expression ℕ) → (p : ℕ) → Shape → Type 0
ShownOnly s t u [] p shape = Unit {0}
ShownOnly s t u (e ∷ []) p shape = Shown s t u e p shape
ShownOnly s t u (e ∷ f ∷ es) p shape = Unit {0}

-- D are the items of a sequence, so many markers and so many expressions, whose nodes are stored
pub record YieldsItems (D : Answer ℕ (List (Item ℕ))) (s : List ℕ) (t : Token) (a : Lent) (u : Token) (b : Lent) (markers expressions p : ℕ) (shape : Shape) : Type 0 where
  pub lists : Lists D item_nodes s t 0 a u b (markers + expressions)
  pub counted : markers_in lists.items ≡ markers
  pub others : length (expressions_in lists.items) ≡ expressions
  pub shown : ShownOnly s t u (expressions_in lists.items) p shape

-- what an answer says of D: it is the items of a sequence, whose nodes are stored, or it is this refusal
abbrev pub ExpressesItems : Answer ℕ (List (Item ℕ)) → List ℕ → Token → (a b : Lent) → Result Items Stop → Type 0
ExpressesItems D s t a b (Ok r) = YieldsItems D s t a r.token b r.markers r.expressions r.start r.shape
ExpressesItems D s t a b (Err e) = D ≡ refused (cause_number e.cause) e.place

-- ------------------------------------------------------------------ rules

-- the props and the params of a rule, after its name
pub record Head : Type 0 where
  pub props : List (Prop ℕ)
  pub params : List (Identifier ℕ)

-- the params of a rule in angle brackets; none where no `<` follows
unfoldable pub parse_params : Parser ℕ (List (Identifier ℕ))
parse_params = eat "<" >>= λ angle. choose angle (until (eat ">") comma (λ _. parse_identifier)) (pure [])

-- the props of a rule and then its params, up to its brace
unfoldable pub parse_head : Parser ℕ Head
parse_head = do
  ps ← parse_props
  ns ← parse_params
  pure (record { props = ps; params = ns })

-- from the token t on the head of a rule is read: so many props and so many params, whose nodes are stored
pub record Heads (s : List ℕ) (t : Token) (a : Lent) (u : Token) (b : Lent) (props params : ℕ) : Type 0 where
  pub listed : List (Prop ℕ)
  pub names : List (Identifier ℕ)
  pub gives : parse_head (stream s t) ≡ read (record { props = listed; params = names }) (stream s u)
  pub counted : length listed ≡ props
  pub numbered : length names ≡ params
  pub onward : Onward s t u 0
  pub lays : Lays s t u 0 (flat (nodes_of prop_branch) listed ++ flat (nodes_of (name_branch 4)) names) a b

-- what an answer says of the head of a rule: it is read, and its nodes are stored, or it is refused with this cause and place
abbrev pub ParsesHead : List ℕ → Token → (a b : Lent) → Result Headed Stop → Type 0
ParsesHead s t a b (Ok r) = Heads s t a r.token b r.props r.params
ParsesHead s t a b (Err e) = parse_head (stream s t) ≡ refused (cause_number e.cause) e.place

-- ------------------------------------------------------------------ tokens

-- no end
abbrev pub IsToken : Token → Type 0
IsToken (Of k start end) = Unit {0}
IsToken (Eof p) = ⊥

-- a set with this body
abbrev pub IsSet : Token → (inverted : Bool) → Part → Type 0
IsSet (Of k start end) i a = k ≡ K.Set i a
IsSet (Eof p) i a = ⊥

-- this mark
abbrev pub IsMark : Token → (c : ℕ) → Type 0
IsMark (Of k start end) c = k ≡ K.Punctuation c
IsMark (Eof p) c = ⊥

-- the token t was taken, and u comes behind it
pub record Behind (s : List ℕ) (t u : Token) : Type 0 where
  pub on : Onward s t u 1
  pub past : end_in t ≤ placed s u

-- the kind of repeat that a mark stands for, if it stands for one
abbrev pub repeated_of : Option Repeats → M.Option RepeatKind
repeated_of (Some k) = some (repeat_of k)
repeated_of None = none

-- the kind of marker that a mark stands for, if it stands for one
abbrev pub marked_of : Option Markers → M.Option ConflictMarkerKind
marked_of (Some k) = some (marker_of k)
marked_of None = none

-- the token ends a sequence
abbrev pub ends_by : Token → Bool
ends_by (Of k start end) = among (letters "})|{,>") (code_in k)
ends_by (Eof p) = true

-- ------------------------------------------------------------------ parts of expressions

-- the class that this part of the source names, at its token; refused if it names none
abbrev pub class_part : List ℕ → (start : ℕ) → Part → Parser ℕ (Expression ℕ)
class_part s p a = class_by p (from_name (part_of s a))

-- the class after `std`, whose dot is the current token
unfoldable pub std_class : (start : ℕ) → Parser ℕ (Expression ℕ)
std_class p = next >> (kind >>= λ c. std_class_by p (at_in c) (name_in c))

-- `_`, at its token
unfoldable pub parse_any : (start : ℕ) → Parser ℕ (Expression ℕ)
parse_any p = next >> pure (Expression.any p)

-- a string, at its token, with this part of the source between its quotes; an empty one is explicitly empty
unfoldable pub parse_literal : List ℕ → (start : ℕ) → Part → Parser ℕ (Expression ℕ)
parse_literal s p a = next >> pure (literal_of p (decode_string (part_of s a)))

-- a set, at its token, with this part of the source between its brackets
abbrev pub parse_set : List ℕ → (start : ℕ) → (inverted : Bool) → Part → Parser ℕ (Expression ℕ)
parse_set s p i a = parse_set_expression p i (part_of s a)

-- a marker, at its mark
unfoldable pub parse_marker : (start : ℕ) → ConflictMarkerKind → Parser ℕ (M.Option (Item ℕ))
parse_marker p m = do
  next
  n ← parse_identifier
  pure (some (marker (record { start = p; kind = m; name = n.name })))

-- `std` and a dot
abbrev pub is_std : List ℕ → Part → Token → Bool
is_std s a u = spells "std" (part_of s a) && is "." (mark_of u)

-- after the name in this part of the source: an inline rule, a class of `std`, or a name with its arguments
unfoldable pub named : Parser ℕ (Expression ℕ) → List ℕ → (start : ℕ) → Part → Parser ℕ (Expression ℕ)
named below s p a ts = parse_named below p (part_of s a) (kind_of ts) ts

-- after the name in this part of the source: the name with its arguments
unfoldable pub name_arguments : Parser ℕ (Expression ℕ) → List ℕ → (start : ℕ) → Part → Parser ℕ (Expression ℕ)
name_arguments below s p a = parse_arguments below >>= λ es. pure (Expression.name p (part_of s a) (expressions es))

-- the arguments of a name, after their `<`
abbrev pub arguments_list : Parser ℕ (Expression ℕ) → Parser ℕ (List (Expression ℕ))
arguments_list below = until (eat ">") comma (λ _. below)

-- the params of a rule, after their `<`
abbrev pub params_list : Parser ℕ (List (Identifier ℕ))
params_list = until (eat ">") comma (λ _. parse_identifier)

-- ------------------------------------------------------------------ inline rules

-- the name of an inline rule, in codes; `_anon` where it has none
abbrev pub inline_text : List ℕ → Option Part → List ℕ
inline_text s (Some a) = part_of s a
inline_text s None = letters "_anon"

-- the name of an inline rule, in bytes; `_anon` where it has none
abbrev pub inline_bytes : List ℕ → Option Part → List ℕ
inline_bytes s (Some a) = cut s a.from a.to
inline_bytes s None = letters "_anon"

-- the first token is its name, which the current token is behind, or the current token itself
abbrev pub InlineName : List ℕ → (first : Token) → Option Part → (token : Token) → Type 0
InlineName s t (Some a) u = (name_of t ≡ Some a) × Behind s t u
InlineName s t None u = (t ≡ u) × IsToken t

-- when an inline rule's record may be stored: its name and start lie in the text; its children and what is taken are few enough
pub record ReadyInline (s : List ℕ) (name : Option Part) (start children : ℕ) (a : Lent) : Type 0 where
  pub part : Whole s name
  pub small : length s ≤ 0x200000
  pub starts : start ≤ length s
  pub few : children ≤ 0x40000000
  pub room : a.n ≤ 0x50000000
  pub space : a.x ≤ 0x50000000

-- ------------------------------------------------------------------ specialize

-- the props of a specialize; its keyword before them and the `<` after them are taken
unfoldable pub specialize_head : Parser ℕ (List (Prop ℕ))
specialize_head = do
  next
  ps ← parse_props
  expect "<"
  pure ps

-- the head of a specialize is read: so many props, whose nodes are stored; the keyword and the bracket have no node
pub record SpecializeHeads (s : List ℕ) (t : Token) (a : Lent) (u : Token) (b : Lent) (count : ℕ) : Type 0 where
  pub lists : Lists (specialize_head (stream s t)) (nodes_of prop_branch) s t 2 a u b count
  pub spare : length (flat (nodes_of prop_branch) lists.items) + 2 * placed s t + 4 ≤ 2 * placed s u

-- what an answer says of the head of a specialize: it is read and its nodes are stored, or it is refused with this cause and place
abbrev pub ParsesSpecializeHead : List ℕ → Token → (a b : Lent) → Result (Token × ℕ) Stop → Type 0
ParsesSpecializeHead s t a b (Ok (u, count)) = SpecializeHeads s t a u b count
ParsesSpecializeHead s t a b (Err e) = specialize_head (stream s t) ≡ refused (cause_number e.cause) e.place

-- the content where there is one part with this start and shape: a literal again
abbrev pub content_of : List ℕ → (start p : ℕ) → Shape → Parser ℕ (Expression ℕ)
content_of s start p (Literal a) = pure (Expression.literal p (decode_string (part_of s a)))
content_of s start p Name = refuse one_part start
content_of s start p (Repeat k) = refuse one_part start
content_of s start p Blank = refuse one_part start
content_of s start p Other = refuse one_part start

-- the part between a literal's quotes lies within the text, with the bytes of its characters; of another shape nothing is said
abbrev pub LiteralPart : List ℕ → Shape → Type 0
LiteralPart s (Literal a) = IsPart s a
LiteralPart s Name = Unit {0}
LiteralPart s (Repeat k) = Unit {0}
LiteralPart s Blank = Unit {0}
LiteralPart s Other = Unit {0}

-- when the content of a specialize with one part may be stored: the part lies in the text, and what is taken is little enough
pub record ReadyContent (s : List ℕ) (p : ℕ) (shape : Shape) (a : Lent) : Type 0 where
  pub part : LiteralPart s shape
  pub small : length s ≤ 0x200000
  pub starts : p ≤ length s
  pub room : a.n ≤ 0x50000000
  pub space : a.x ≤ 0x50000000

-- the one part is a literal, whose node is stored again; its text has no more bytes than stand between the quotes
pub record StoredContent (s : List ℕ) (p : ℕ) (shape : Shape) (a b : Lent) : Type 0 where
  pub body : Part
  pub is : shape ≡ Literal body
  pub stores : Stores (node 36 p (encode_all (decode_string (part_of s body))) 0 0 0 ∷ []) a b
  pub few : length (encode_all (decode_string (part_of s body))) + body.from ≤ body.to

-- what an answer says of the content where there is one part: its node is stored, or it is refused with this cause and place, whatever
-- tokens are left
abbrev pub StoresContent : List ℕ → (start p : ℕ) → Shape → (a b : Lent) → Result (Unit {0}) Stop → Type 0
StoresContent s start p shape a b (Ok r) = StoredContent s p shape a b
StoresContent s start p shape a b (Err e) = (ts : Tokens ℕ) → content_of s start p shape ts ≡ refused (cause_number e.cause) e.place

-- the two parts of a specialize: its token and its content
pub record SpecializeParts : Type 0 where
  pub token : Expression ℕ
  pub content : Expression ℕ

-- the parts of a specialize that starts at p, and `>`; where there is one part it must be a literal, and is the content too
unfoldable pub specialize_parts : Parser ℕ (Expression ℕ) → (start : ℕ) → Parser ℕ SpecializeParts
specialize_parts below p = do
  e ← below
  two ← eat ","
  f ← choose two below (content_by p (reference_of e))
  expect ">"
  pure (record { token = e; content = f })

-- D are the two parts of a specialize, whose nodes are stored
pub record YieldsParts (D : Answer ℕ SpecializeParts) (s : List ℕ) (t : Token) (a : Lent) (u : Token) (b : Lent) : Type 0 where
  pub parts : SpecializeParts
  pub gives : D ≡ read parts (stream s u)
  pub onward : Onward s t u 1
  pub lays : Lays s t u 1 (nodes (expression_branch parts.token) ++ nodes (expression_branch parts.content)) a b

-- what an answer says of D: it is the two parts of a specialize, whose nodes are stored, or it is this refusal
abbrev pub ParsesParts : Answer ℕ SpecializeParts → List ℕ → Token → (a b : Lent) → Result Token Stop → Type 0
ParsesParts D s t a b (Ok u) = YieldsParts D s t a u b
ParsesParts D s t a b (Err e) = D ≡ refused (cause_number e.cause) e.place

-- ------------------------------------------------------------------ arms and sequences

-- arms begin behind a sequence, which may have one node more
pub record ReadyArms (s : List ℕ) (t : Token) (a : Lent) : Type 0 where
  pub lies : LiesIn s 0 t
  pub small : length s ≤ 0x200000
  pub room : a.n + 14 * length s ≤ 0x40000007 + 14 * placed s t
  pub space : a.x + 3 * length s ≤ 0x40000000 + 3 * placed s t

-- the first empty arm: one of those before, or else an arm with this start and shape
abbrev pub empty_by : Option ℕ → (start : ℕ) → Shape → Option ℕ
empty_by (Some p) q shape = Some p
empty_by None q shape = if is_blank shape then Some q otherwise None

-- the first empty arm: an arm with this start and shape, or else one of those behind it
abbrev pub empty_first : (start : ℕ) → Shape → Option ℕ → Option ℕ
empty_first p shape m = if is_blank shape then Some p otherwise m

-- a sequence that is not one expression alone
abbrev pub sequence_shape : (expressions : ℕ) → Shape
sequence_shape zero = Blank
sequence_shape (suc n) = Other
