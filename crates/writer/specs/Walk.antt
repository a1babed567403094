-- What the walk over stored records writes for each record, by its kind, that of its parent, and the child before it. The functions of
-- the walk promise this; that it makes up the normal text is `grammar_walked` (proofs/WalkedGrammar.antt).
-- Every token but the first of a line has its space in front.
-- Assumes nothing.
use Rattle.std.specs.Prelude.{ℕ, Bool, ◌&&◌, ◌||◌, not, List, [], ◌∷◌, ◌++◌, eqb, Option, Some, None}
use Prim.Native.String.{String}
use Rattle.basics.specs.Basics.{if◌then◌otherwise◌, letters, among}
use Rattle.characters.specs.Spans.{◌upto◌}
use Rattle.lexer.specs.Tokens.{Kind}
use Rattle.tree.specs.Records.{Row, Branch, branch, Branches, []ᴮ, ◌∷ᴮ◌}
use Rattle.tree.specs.OneTree.{is_expression, kind_of}
use Rattle.tree.specs.Promise.{word_at, kind_number, kind_before}
use Rattle.tree.specs.declared.NodeKind.{NodeKind}
use Rattle.writer.specs.declared.Setting.{Setting}
use Rattle.spelling.specs.Spelling.{quoted, span_text, spell}
use Rattle.writer.specs.Promise.{row_at, Run}
use Rattle.output.specs.Promise.{Wrote}

-- the number of a class of the code, or 0 for none
abbrev pub number_of : Option NodeKind → ℕ
number_of None = 0
number_of (Some k) = kind_number k

infix 70 ◌says◌
-- a text for a number
pub record Entry : Type 0 where
  pub number : ℕ
  pub text : List ℕ

-- an entry with a quoted text
abbrev pub ◌says◌ : ℕ → String → Entry
n says s = record { number = n; text = letters s }

-- the text for a number, or none
unfoldable pub text_for : List Entry → ℕ → List ℕ
text_for [] n = []
text_for (e ∷ es) n = if eqb n e.number then e.text otherwise text_for es n

-- ------------------------------------------------------------------ between two children

-- kinds whose records stand in one list have one number: 30 is any expression, 6 any part of a prop
unfoldable pub class : ℕ → ℕ
class k = if is_expression k then 30 otherwise if eqb k 7 then 6 otherwise k

-- between two expressions, by the parent
abbrev pub expression_commas : List Entry
expression_commas = 33 says " |" ∷ 9 says " ," ∷ 10 says " ," ∷ 30 says " ," ∷ 31 says " ," ∷ []

-- between two of one class, by the class
abbrev pub list_commas : List Entry
list_commas = 4 says " ," ∷ 5 says " ," ∷ 13 says " ," ∷ 17 says " ," ∷ 21 says " ," ∷ []

-- between two of class `child`
unfoldable pub comma : (parent child : ℕ) → List ℕ
comma p c = if eqb c 30 then text_for expression_commas p otherwise text_for list_commas c

-- before the first expression, by the parent
abbrev pub expression_opens : List Entry
expression_opens = 2 says " {" ∷ 3 says " {" ∷ 30 says " <" ∷ 31 says " <" ∷ 32 says " {" ∷ []

-- before the first named node, by the parent
abbrev pub node_opens : List Entry
node_opens = 12 says " @else" ∷ []

-- before the first of a class, by the class
abbrev pub list_opens : List Entry
list_opens = 4 says " <" ∷ 5 says " [" ∷ 6 says " =" ∷ 17 says " @conflict {" ∷ []

-- before the first of class `child`
unfoldable pub opens : (parent child : ℕ) → List ℕ
opens p c = if eqb c 30 then text_for expression_opens p otherwise if eqb c 13 then text_for node_opens p otherwise text_for list_opens c

-- after the last of a class, where another follows, by the class
abbrev pub list_shuts : List Entry
list_shuts = 4 says " >" ∷ 5 says " ]" ∷ 13 says " ," ∷ []

-- after the last of class `child`, where another follows
unfoldable pub shuts : (child : ℕ) → List ℕ
shuts c = text_for list_shuts c

-- between two lines: dialects, of which there may be many, are one
unfoldable pub new_line : (left child : ℕ) → List ℕ
new_line l c =
    if eqb c 24 then (if eqb l 24 then letters " ," otherwise letters "@dialects {")
    otherwise (if eqb l 24 then letters " }\n" otherwise [])

-- between two children of classes l and c in a list with commas, or where one list ends and another begins
unfoldable pub separator : (parent left child : ℕ) → List ℕ
separator p l c = if eqb l c then comma p c otherwise shuts l ++ opens p c

-- between two children of classes l and c; l is 0 before the first
unfoldable pub between : (parent left child : ℕ) → List ℕ
between p l c =
    if eqb p 1 then new_line l c
    otherwise if among (8 ∷ 12 ∷ 23 ∷ 34 ∷ 37 ∷ []) p then opens p c
    otherwise separator p l c

-- the parent's name stands before a source string
unfoldable pub source : (name : List ℕ) → (child : ℕ) → List ℕ
source t c = if eqb c 15 then (letters " " ++ t) ++ letters " from" otherwise []

-- all that stands between two children
unfoldable pub link : (parent : Row) → (left child : ℕ) → List ℕ
link p l c = between p.kind l c ++ source p.text c

-- after an expression, whatever follows, by the parent
abbrev pub expression_tails : List Entry
expression_tails = 18 says " }" ∷ 23 says " } {" ∷ []

-- after a source string, by the parent
abbrev pub source_tails : List Entry
source_tails = 16 says " {" ∷ 18 says " {" ∷ []

-- after a name, by its class
abbrev pub name_tails : List Entry
name_tails = 26 says " as" ∷ []

-- after a child of class `child`
unfoldable pub tail : (parent child : ℕ) → List ℕ
tail p c = if eqb c 30 then text_for expression_tails p otherwise if eqb c 15 then text_for source_tails p otherwise text_for name_tails c

-- ------------------------------------------------------------------ round brackets, spaces and line feeds

-- how children stand in a record: 1 in lines, 33 in arms, 34 in slots, else 0
unfoldable pub setting : ℕ → ℕ
setting p = if eqb p 1 then 1 otherwise if eqb p 33 then 33 otherwise if among (34 ∷ 35 ∷ []) p then 34 otherwise 0

-- those of the code
abbrev pub setting_number : Setting → ℕ
setting_number Setting.Lines = 1
setting_number Setting.Arms = 33
setting_number Setting.Slots = 34
setting_number Setting.Other = 0

-- it stands in round brackets
unfoldable pub in_brackets : (setting kind value : ℕ) → Bool
in_brackets s k v = (eqb k 33 && among (33 ∷ 34 ∷ []) s) || (eqb k 34 && eqb v 0 && eqb s 34)

-- it is a line of its own
unfoldable pub is_line : (setting kind : ℕ) → Bool
is_line s k = eqb s 1 && not (eqb k 24)

-- it begins with no token of its own
unfoldable pub tokenless : (kind value : ℕ) → Bool
tokenless k v = among (33 ∷ 35 ∷ 38 ∷ []) k || (eqb k 34 && eqb v 0)

-- what a record begins with: a bracket, a space or nothing
unfoldable pub lead : (setting kind value : ℕ) → List ℕ
lead s k v = if in_brackets s k v then letters " (" otherwise if tokenless k v || is_line s k then [] otherwise letters " "

-- what a record ends with: a bracket, a line feed or nothing
unfoldable pub ends : (setting kind value : ℕ) → List ℕ
ends s k v = if in_brackets s k v then letters " )" otherwise if is_line s k then letters "\n" otherwise []

-- ------------------------------------------------------------------ one record

-- before its text, for a prop, by its value
abbrev pub prop_words : List Entry
prop_words = 1 says "@" ∷ []

-- an external specializer, by its value
abbrev pub external_words : List Entry
external_words = 1 says "@external extend {" ∷ 2 says "@external specialize {" ∷ []

-- a specialize, by its value
abbrev pub specialize_words : List Entry
specialize_words = 1 says "@extend" ∷ 2 says "@specialize" ∷ []

-- a sequence that is explicitly empty
abbrev pub sequence_words : List Entry
sequence_words = 1 says "( )" ∷ []

-- a set, by its value
abbrev pub set_words : List Entry
set_words = 0 says "$[" ∷ 1 says "![" ∷ []

-- a class, by its value
abbrev pub class_words : List Entry
class_words = 0 says "@asciiLetter" ∷ 1 says "@asciiLowercase" ∷ 2 says "@asciiUppercase" ∷ 3 says "@digit" ∷ 4 says "@whitespace" ∷ 5 says "@eof" ∷ []

-- any other, by its kind
abbrev pub kind_words : List Entry
kind_words =
    2 says "@top " ∷ 7 says "{ " ∷ 8 says "@tokens {" ∷ 9 says "@precedence {" ∷ 10 says "@conflict {" ∷ 12 says "@local tokens {"
    ∷ 14 says "@context" ∷ 16 says "@external tokens" ∷ 19 says "@external propSource" ∷ 20 says "@precedence {" ∷ 22 says "@skip {"
    ∷ 23 says "@skip {" ∷ 25 says "@external prop" ∷ 39 says "_" ∷ 41 says "~ " ∷ 42 says "! " ∷ []

-- before a record's text
unfoldable pub before : (kind value : ℕ) → List ℕ
before k v =
    if eqb k 5 then text_for prop_words v
    otherwise if eqb k 18 then text_for external_words v
    otherwise if eqb k 31 then text_for specialize_words v
    otherwise if eqb k 34 then text_for sequence_words v
    otherwise if eqb k 37 then text_for set_words v
    otherwise if eqb k 40 then text_for class_words v
    otherwise text_for kind_words k

-- its text: a string, a span's codes, none where it stands before the source string, or a name
unfoldable pub spelled : Row → List ℕ
spelled r =
    if among (6 ∷ 11 ∷ 15 ∷ 36 ∷ []) r.kind then spell (Kind.string (quoted r.text))
    otherwise if eqb r.kind 38 then span_text (r.value upto r.second)
    otherwise if among (14 ∷ 16 ∷ 18 ∷ 19 ∷ 25 ∷ []) r.kind then []
    otherwise r.text

-- after the text of an item of `@precedence`, by its value
abbrev pub prec_words : List Entry
prec_words = 1 says " @left" ∷ 2 says " @right" ∷ 3 says " @cut" ∷ []

-- after a part `{name}`
abbrev pub part_ends : List Entry
part_ends = 7 says " }" ∷ []

-- after a record's text
unfoldable pub after : (kind value : ℕ) → List ℕ
after k v = if eqb k 21 then text_for prec_words v otherwise text_for part_ends k

-- a record without its children
unfoldable pub own : Row → List ℕ
own r = (before r.kind r.value ++ spelled r) ++ after r.kind r.value

-- after what a repeat repeats, by its value
abbrev pub repeat_words : List Entry
repeat_words = 0 says " ?" ∷ 1 says " *" ∷ 2 says " +" ∷ []

-- the end of the last list, by the class of the last child
abbrev pub list_ends : List Entry
list_ends = 5 says " ]" ∷ 30 says " >" ∷ []

-- the end of any other record, by its kind
abbrev pub kind_ends : List Entry
kind_ends =
    2 says " }" ∷ 3 says " }" ∷ 8 says " }" ∷ 9 says " }" ∷ 10 says " }" ∷ 12 says " }" ∷ 18 says " }" ∷ 20 says " }" ∷ 22 says " }"
    ∷ 23 says " }" ∷ 31 says " >" ∷ 32 says " }" ∷ 37 says "]" ∷ []

-- the end of an external block, whose last list may be one of conflicts
unfoldable pub block_end : (last : ℕ) → List ℕ
block_end l = if eqb l 17 then letters " } }" otherwise letters " }"

-- after a record's children
unfoldable pub close : (kind value last : ℕ) → List ℕ
close k v l =
    if eqb k 35 then text_for repeat_words v
    otherwise if among (11 ∷ 13 ∷ 30 ∷ []) k then text_for list_ends l
    otherwise if eqb k 16 then block_end l
    otherwise text_for kind_ends k

-- ------------------------------------------------------------------ trees

-- the class of a record's last child, or 0
unfoldable pub last_at : (words : List ℕ) → ℕ → ℕ
last_at ws i = if eqb (word_at ws i 6) 0 then 0 otherwise class (kind_before ws i)

-- all before a record's children
unfoldable pub front : (parent : Row) → (left : ℕ) → Row → List ℕ
front p l r = (link p l (class r.kind) ++ lead (setting p.kind) r.kind r.value) ++ own r

-- all after a record's children
unfoldable pub back : (parent : ℕ) → Row → (last : ℕ) → List ℕ
back p r l = (close r.kind r.value l ++ ends (setting p) r.kind r.value) ++ tail p (class r.kind)

-- the class of the last of some branches, or of what is before them
unfoldable pub last_class : ℕ → Branches → ℕ
last_class l []ᴮ = l
last_class l (b ∷ᴮ bs) = last_class (class (kind_of b)) bs

-- the text of a tree: what stands before the children of a record, the children, what stands after them
unfoldable mutual
  -- a branch, as a child of a record, after a child of a class
  pub branch_text : (parent : Row) → (left : ℕ) → Branch → List ℕ
  branch_text p l (branch r bs) = (front p l r ++ branches_text r 0 bs) ++ back p.kind r (last_class 0 bs)

  -- branches one after another, the first after a child of class `left`
  pub branches_text : (parent : Row) → (left : ℕ) → Branches → List ℕ
  branches_text p l []ᴮ = []
  branches_text p l (b ∷ᴮ bs) = branch_text p l b ++ branches_text p (class (kind_of b)) bs

-- after the last dialect
abbrev pub dialect_ends : List Entry
dialect_ends = 24 says " }\n" ∷ []

-- `@detectDelim`, by the grammar's value
abbrev pub detect_words : List Entry
detect_words = 1 says "@detectDelim\n" ∷ []

-- what stands after the last declaration
unfoldable pub closing : (value last : ℕ) → List ℕ
closing v l = text_for dialect_ends l ++ text_for detect_words v

-- ------------------------------------------------------------------ what the walk promises

-- the branch of the record i is written, as a child of the record `parent`
abbrev pub WroteOne : (ws ts : List ℕ) → (parent left i : ℕ) → (old new : List ℕ) → (n : ℕ) → Type 0
WroteOne ws ts parent left i old new n =
    (s : Run ws ts (word_at ws i 6) i) → Wrote (branch_text (row_at ws ts parent) left (branch (row_at ws ts i) s.branches)) old new n

-- a run of branches is written
abbrev pub WroteRun : (ws ts : List ℕ) → (parent left count end : ℕ) → (old new : List ℕ) → (n : ℕ) → Type 0
WroteRun ws ts parent left count end old new n =
    (s : Run ws ts count end) → Wrote (branches_text (row_at ws ts parent) left s.branches) old new n
