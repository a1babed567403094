-- What the values of the code stand for, and what its functions promise of the words they are lent.
-- Assumes nothing.
use Rattle.std.specs.Prelude.{ℕ, zero, suc, ◌+◌, ◌*◌, ◌/◌, ◌≤◌, ◌<◌, ◌≡◌, Bool, true, false, ◌&&◌, List, [], ◌∷◌, eqb, leb, length, get_or, Result, Ok, Err, MatchResult, MatchOption}
use Rattle.std.specs.Prelude.{Option as Optional, Some, None}
use Rattle.std.proofs.Math.Option.{Option, none, some}
use Rattle.characters.specs.Spans.{Span, ◌upto◌}
use Rattle.tree.specs.Syntax.{CharClass, ascii_letter, ascii_lowercase, ascii_uppercase, digit, whitespace, eof, RepeatKind, optional, zero_or_more, one_or_more, SpecializeKind, extend, specialize, ConflictMarkerKind, ambiguity, precedence, PrecKind, left, right, cut}
use Rattle.tree.specs.Records.{Branch, Node, Record, width}
use Rattle.tree.specs.OneTree.{is_kind, expression_kinds, is_expression, Group, many, one, at_most_one, row_of}
use Rattle.tree.specs.Equality.{same_row, structurally_eq}
use Rattle.tree.specs.declared.CharClass.{CharClass as DeclaredClass}
use Rattle.tree.specs.declared.CharClass.TheVariants as CharClasss
use Rattle.tree.specs.declared.RepeatKind.{RepeatKind as DeclaredRepeat}
use Rattle.tree.specs.declared.RepeatKind.TheVariants as RepeatKinds
use Rattle.tree.specs.declared.SpecializeKind.{SpecializeKind as DeclaredSpecialize}
use Rattle.tree.specs.declared.SpecializeKind.TheVariants as SpecializeKinds
use Rattle.tree.specs.declared.ConflictMarkerKind.{ConflictMarkerKind as DeclaredMarker}
use Rattle.tree.specs.declared.ConflictMarkerKind.TheVariants as ConflictMarkerKinds
use Rattle.tree.specs.declared.PrecKind.{PrecKind as DeclaredPrec}
use Rattle.tree.specs.declared.PrecKind.TheVariants as PrecKinds
use Rattle.tree.specs.declared.Record as declared
use Rattle.tree.specs.declared.Root.{Root}
use Rattle.tree.specs.declared.NotATree.{NotATree}
use Rattle.tree.specs.declared.NodeKind.{NodeKind}
use Rattle.tree.specs.declared.NotAKind.{NotAKind}
use Rattle.tree.specs.CharClasses.{class_value}
use Rattle.tree.specs.Stored.{flag, repeat_value, specialize_value, prec_value}
use Rattle.basics.specs.Basics.{within}
use Rattle.tree.specs.declared.Kinds.{Kinds}
use Rattle.tree.specs.declared.Group.{Group as DeclaredGroup}
use Rattle.tree.specs.declared.Group.TheVariants as Groups

-- ------------------------------------------------------------------ kinds

-- the number that the words have for a kind of the code
abbrev pub kind_number : NodeKind → ℕ
kind_number NodeKind.Grammar = 1
kind_number NodeKind.TopRule = 2
kind_number NodeKind.Rule = 3
kind_number NodeKind.Param = 4
kind_number NodeKind.Prop = 5
kind_number NodeKind.PartText = 6
kind_number NodeKind.PartName = 7
kind_number NodeKind.Tokens = 8
kind_number NodeKind.TokenPrecedence = 9
kind_number NodeKind.TokenConflict = 10
kind_number NodeKind.TokenLiteral = 11
kind_number NodeKind.LocalTokens = 12
kind_number NodeKind.NamedNode = 13
kind_number NodeKind.Context = 14
kind_number NodeKind.Source = 15
kind_number NodeKind.ExternalTokens = 16
kind_number NodeKind.ConflictName = 17
kind_number NodeKind.ExternalSpecializer = 18
kind_number NodeKind.PropSource = 19
kind_number NodeKind.Precedences = 20
kind_number NodeKind.PrecedenceItem = 21
kind_number NodeKind.MainSkip = 22
kind_number NodeKind.ScopedSkip = 23
kind_number NodeKind.Dialect = 24
kind_number NodeKind.ExternalProp = 25
kind_number NodeKind.ExternalName = 26
kind_number NodeKind.Name = 30
kind_number NodeKind.Specialize = 31
kind_number NodeKind.InlineRule = 32
kind_number NodeKind.Choice = 33
kind_number NodeKind.Sequence = 34
kind_number NodeKind.Repeat = 35
kind_number NodeKind.Literal = 36
kind_number NodeKind.Set = 37
kind_number NodeKind.Span = 38
kind_number NodeKind.Any = 39
kind_number NodeKind.Class = 40
kind_number NodeKind.AmbiguityMarker = 41
kind_number NodeKind.PrecedenceMarker = 42

-- the kind that has a number, or none has it
abbrev pub IsKindOf : ℕ → Result NodeKind NotAKind → Type 0
IsKindOf k r = MatchResult r (λ kind. kind_number kind ≡ k) (λ e. is_kind k ≡ false)

-- the same where there may be none
abbrev pub IsKind : ℕ → Optional NodeKind → Type 0
IsKind k r = MatchOption r (is_kind k ≡ false) (λ kind. kind_number kind ≡ k)

-- a class of the code
abbrev pub class_of : DeclaredClass → CharClass
class_of CharClasss.AsciiLetter = ascii_letter
class_of CharClasss.AsciiLowercase = ascii_lowercase
class_of CharClasss.AsciiUppercase = ascii_uppercase
class_of CharClasss.Digit = digit
class_of CharClasss.Whitespace = whitespace
class_of CharClasss.Eof = eof

-- the same where there may be none
abbrev pub class_in : Optional DeclaredClass → Option CharClass
class_in None = none
class_in (Some k) = some (class_of k)

-- a repeat of the code
abbrev pub repeat_of : DeclaredRepeat → RepeatKind
repeat_of RepeatKinds.Optional = optional
repeat_of RepeatKinds.ZeroOrMore = zero_or_more
repeat_of RepeatKinds.OneOrMore = one_or_more

-- a specialize of the code
abbrev pub specialize_of : DeclaredSpecialize → SpecializeKind
specialize_of SpecializeKinds.Extend = extend
specialize_of SpecializeKinds.Specialize = specialize

-- a marker of the code
abbrev pub marker_of : DeclaredMarker → ConflictMarkerKind
marker_of ConflictMarkerKinds.Ambiguity = ambiguity
marker_of ConflictMarkerKinds.Precedence = precedence

-- how an item of the code associates
abbrev pub prec_of : DeclaredPrec → PrecKind
prec_of PrecKinds.Left = left
prec_of PrecKinds.Right = right
prec_of PrecKinds.Cut = cut

-- the same where there may be none
abbrev pub prec_in : Optional DeclaredPrec → Option PrecKind
prec_in None = none
prec_in (Some k) = some (prec_of k)

-- ------------------------------------------------------------------ values

-- the class that has a value, or none has it
abbrev pub IsClassOf : ℕ → Result DeclaredClass NotAKind → Type 0
IsClassOf v r = MatchResult r (λ k. class_value (class_of k) ≡ v) (λ e. leb v 5 ≡ false)

-- the repeat that has a value
abbrev pub IsRepeatOf : ℕ → Result DeclaredRepeat NotAKind → Type 0
IsRepeatOf v r = MatchResult r (λ k. repeat_value (repeat_of k) ≡ v) (λ e. leb v 2 ≡ false)

-- the specialize that has a value
abbrev pub IsSpecializeOf : ℕ → Result DeclaredSpecialize NotAKind → Type 0
IsSpecializeOf v r = MatchResult r (λ k. specialize_value (specialize_of k) ≡ v) (λ e. within 1 2 v ≡ false)

-- how an item with a value associates, if it does
abbrev pub IsPrecOf : ℕ → Result DeclaredPrec NotAKind → Type 0
IsPrecOf v r = MatchResult r (λ k. prec_value (some (prec_of k)) ≡ v) (λ e. within 1 3 v ≡ false)

-- the flag that has a value
abbrev pub IsFlag : ℕ → Optional Bool → Type 0
IsFlag v r = MatchOption r (leb v 1 ≡ false) (λ b. flag b ≡ v)

-- ------------------------------------------------------------------ records in words

-- a record of the code as one of the definition
abbrev pub record_of : declared.Record → Record
record_of r =
    record {
      kind = kind_number r.kind;
      start = r.start;
      place = r.place;
      size = r.size;
      value = r.value;
      second = r.second;
      children = r.children;
    }

-- a span of the code
abbrev pub span_of : ℕ × ℕ → Span
span_of s = s.0 upto s.1

-- how many records the words have
abbrev pub count_of : List ℕ → ℕ
count_of ws = length ws / width

-- a word of a record
abbrev pub word_at : List ℕ → (i word : ℕ) → ℕ
word_at ws i k = get_or ws (i * width + k) 0

-- the record i of the words
abbrev pub record_at : List ℕ → ℕ → Record
record_at ws i =
    record {
      kind = word_at ws i 0;
      start = word_at ws i 1;
      place = word_at ws i 2;
      size = word_at ws i 3;
      value = word_at ws i 4;
      second = word_at ws i 5;
      children = word_at ws i 6;
    }

-- a record with the text it has in the texts
abbrev pub node_at : (words texts : List ℕ) → ℕ → Node
node_at ws ts i = record { row = row_of ts (record_at ws i); children = word_at ws i 6 }

-- the words have the record, and its text lies in the texts
pub record Inside (ws ts : List ℕ) (i : ℕ) : Type 0 where
  pub there : i < count_of ws
  pub text : word_at ws i 2 + word_at ws i 3 ≤ length ts

-- the record i with its text is the node x
pub record At (ws ts : List ℕ) (i : ℕ) (x : Node) : Type 0 where
  pub is : node_at ws ts i ≡ x
  pub inside : word_at ws i 2 + word_at ws i 3 ≤ length ts

-- the records from `lo` on are the nodes
unfoldable pub All : (ws ts : List ℕ) → ℕ → List Node → Type 0
All ws ts lo [] = Unit
All ws ts lo (x ∷ xs) = At ws ts lo x × All ws ts (suc lo) xs

-- where the last n branches begin that end before a record, counting back: each record takes its children with it. 0 where there are
-- not so many
unfoldable pub first_place : List ℕ → (end n : ℕ) → ℕ
first_place ws zero n = 0
first_place ws (suc end) n = elim n [ zero ↦ suc end | suc m ↦ first_place ws end (m + word_at ws end 6) ]

-- the record i of the words in the code, if its number is a kind's
abbrev pub IsRecord : Record → Optional declared.Record → Type 0
IsRecord r o = MatchOption o (is_kind r.kind ≡ false) (λ d. record_of d ≡ r)

-- the kind of the record before, or 0, which is no kind
unfoldable pub kind_before : List ℕ → (end : ℕ) → ℕ
kind_before ws zero = 0
kind_before ws (suc i) = word_at ws i 0

-- the kinds of the last n branches that end before a record, last first
unfoldable pub kinds_back : List ℕ → (end n : ℕ) → List ℕ
kinds_back ws end zero = []
kinds_back ws end (suc n) = kind_before ws end ∷ kinds_back ws (first_place ws end 1) n

-- ------------------------------------------------------------------ groups of children

-- kinds of the code
abbrev pub kinds_of : Kinds → List ℕ
kinds_of (Kinds.Of k) = kind_number k ∷ []
kinds_of Kinds.Expressions = expression_kinds
kinds_of Kinds.Slots = 41 ∷ 42 ∷ expression_kinds
kinds_of Kinds.References = 30 ∷ 36 ∷ []
kinds_of Kinds.Parts = 6 ∷ 7 ∷ []

-- a group of the code
abbrev pub group_of : DeclaredGroup → Group
group_of (Groups.Each ks) = many (kinds_of ks)
group_of (Groups.One ks) = one (kinds_of ks)
group_of (Groups.AtMostOne ks) = at_most_one (kinds_of ks)

-- ------------------------------------------------------------------ one tree

-- the root that is asked for
abbrev pub root_of : Root → ℕ → Bool
root_of Root.Expression = is_expression
root_of Root.Grammar = λ k. eqb k 1

-- there is a tree
abbrev pub is_some : Option Branch → Bool
is_some none = false
is_some (some b) = true

-- ------------------------------------------------------------------ two trees

-- two nodes are equal as `structurally_eq` compares them, and have equally many children
unfoldable pub same_node : Node → Node → Bool
same_node x y = same_row x.row y.row && eqb x.children y.children

-- the answer for two trees, if both are trees
abbrev pub comparison : Option Branch → Option Branch → Result Bool NotATree
comparison (some b) (some c) = Ok (structurally_eq b c)
comparison (some b) none = Err (record {})
comparison none c = Err (record {})
