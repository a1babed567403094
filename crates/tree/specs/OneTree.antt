-- When words and texts are one tree of records: `build` gives that tree, or `none`.
-- Assumes nothing.
use Rattle.std.specs.Prelude.{ℕ, ◌+◌, Bool, true, false, ◌&&◌, ◌||◌, List, [], ◌∷◌, map, reverse, eqb, leb, ltb, length, take, drop}
use Rattle.std.proofs.Math.Option.{Option, none, some}
use Rattle.basics.specs.Basics.{if◌then◌otherwise◌, among, within}
use Rattle.characters.specs.Places.{cut}
use Rattle.tree.specs.Records.{Row, Branch, branch, Branches, []ᴮ, ◌∷ᴮ◌, Record}

-- ------------------------------------------------------------------ the kinds

-- the numbers that are kinds
abbrev pub is_kind : ℕ → Bool
is_kind k = within 1 26 k || within 30 42 k

-- the kinds of expressions
abbrev pub expression_kinds : List ℕ
expression_kinds = 30 ∷ 31 ∷ 32 ∷ 33 ∷ 34 ∷ 35 ∷ 36 ∷ 37 ∷ 39 ∷ 40 ∷ []

-- a kind is an expression's
abbrev pub is_expression : ℕ → Bool
is_expression k = among expression_kinds k

-- the kinds that have a text
abbrev pub has_text : ℕ → Bool
has_text k =
    among (2 ∷ 3 ∷ 4 ∷ 5 ∷ 6 ∷ 7 ∷ 11 ∷ 13 ∷ 14 ∷ 15 ∷ 16 ∷ 17 ∷ 18 ∷ 19 ∷ 21 ∷ 24 ∷ 25 ∷ 26 ∷ 30 ∷ 32 ∷ 36 ∷ 41 ∷ 42 ∷ []) k

-- the values of a kind, where the second word is 0
abbrev pub value_fits : (kind value : ℕ) → Bool
value_fits k v =
    if among (1 ∷ 5 ∷ 34 ∷ 37 ∷ []) k then leb v 1
    otherwise if among (18 ∷ 31 ∷ []) k then within 1 2 v
    otherwise if eqb k 35 then leb v 2
    otherwise if eqb k 21 then leb v 3
    otherwise if eqb k 40 then leb v 5
    otherwise eqb v 0

-- value and second: those of a span are its first code and one past its last
unfoldable pub values_fit : (kind value second : ℕ) → Bool
values_fit k v s = if eqb k 38 then ltb v s && leb s 1114112 otherwise value_fits k v && eqb s 0

-- ------------------------------------------------------------------ children

-- a group of children of some kinds: as many as there are; just one; at most one
pub data Group : Type 0 where
  many : List ℕ → Group
  one : List ℕ → Group
  at_most_one : List ℕ → Group

-- the groups of a record's children, in their order
unfoldable pub groups_of : (kind value : ℕ) → List Group
groups_of k v =
    if eqb k 1 then
    many (2 ∷ []) ∷ many (3 ∷ []) ∷ many (8 ∷ []) ∷ many (12 ∷ []) ∷ many (14 ∷ []) ∷ many (16 ∷ []) ∷ many (18 ∷ [])
    ∷ many (19 ∷ []) ∷ many (20 ∷ []) ∷ many (22 ∷ []) ∷ many (23 ∷ []) ∷ many (24 ∷ []) ∷ many (25 ∷ []) ∷ []
    otherwise if within 2 3 k then many (5 ∷ []) ∷ many (4 ∷ []) ∷ one expression_kinds ∷ []
    otherwise if eqb k 5 then many (6 ∷ 7 ∷ []) ∷ []
    otherwise if eqb k 8 then many (9 ∷ []) ∷ many (10 ∷ []) ∷ many (3 ∷ []) ∷ many (11 ∷ []) ∷ []
    otherwise if eqb k 9 then many (30 ∷ 36 ∷ []) ∷ []
    otherwise if eqb k 10 then one (30 ∷ 36 ∷ []) ∷ one (30 ∷ 36 ∷ []) ∷ []
    otherwise if among (11 ∷ 13 ∷ []) k then many (5 ∷ []) ∷ []
    otherwise if eqb k 12 then many (9 ∷ []) ∷ many (3 ∷ []) ∷ at_most_one (13 ∷ []) ∷ []
    otherwise if among (14 ∷ 19 ∷ []) k then one (15 ∷ []) ∷ []
    otherwise if eqb k 16 then one (15 ∷ []) ∷ many (13 ∷ []) ∷ many (17 ∷ []) ∷ []
    otherwise if eqb k 18 then one expression_kinds ∷ one (15 ∷ []) ∷ many (13 ∷ []) ∷ []
    otherwise if eqb k 20 then many (21 ∷ []) ∷ []
    otherwise if among (22 ∷ 35 ∷ []) k then one expression_kinds ∷ []
    otherwise if eqb k 23 then one expression_kinds ∷ many (2 ∷ []) ∷ many (3 ∷ []) ∷ []
    otherwise if eqb k 25 then one (26 ∷ []) ∷ one (15 ∷ []) ∷ []
    otherwise if among (30 ∷ 33 ∷ []) k then many expression_kinds ∷ []
    otherwise if eqb k 31 then many (5 ∷ []) ∷ one expression_kinds ∷ one expression_kinds ∷ []
    otherwise if eqb k 32 then many (5 ∷ []) ∷ one expression_kinds ∷ []
    otherwise if eqb k 34 && eqb v 0 then many (41 ∷ 42 ∷ expression_kinds) ∷ []
    otherwise if eqb k 37 then many (38 ∷ []) ∷ []
    otherwise []

-- what is left of the list after those at its front that are among some kinds
unfoldable pub without : List ℕ → List ℕ → List ℕ
without ks [] = []
without ks (c ∷ cs) = elim (among ks c) [ true ↦ without ks cs | false ↦ c ∷ cs ]

-- the first is among some kinds
abbrev pub begins : List ℕ → List ℕ → Bool
begins ks [] = false
begins ks (c ∷ cs) = among ks c

-- the list is made of the groups
unfoldable pub matches : List Group → List ℕ → Bool
matches [] [] = true
matches [] (c ∷ cs) = false
matches (many ks ∷ gs) cs = matches gs (without ks cs)
matches (one ks ∷ gs) cs = begins ks cs && matches gs (drop 1 cs)
matches (at_most_one ks ∷ gs) cs = matches gs (if begins ks cs then drop 1 cs otherwise cs)

-- the kinds of a record's children, last first, as they stand on the stack (below)
abbrev pub children_fit : (kind value : ℕ) → List ℕ → Bool
children_fit k v cs = matches (reverse (groups_of k v)) cs

-- ------------------------------------------------------------------ records

-- a text of a kind that has one stands where the texts before it end, in texts of `room` bytes; an empty text has place 0
unfoldable pub text_fits : (room at : ℕ) → Record → Bool
text_fits room at r =
    if eqb r.size 0 then eqb r.place 0 otherwise (has_text r.kind && eqb r.place at && leb (at + r.size) room)

-- a record over its children, whose kinds are given, last first
unfoldable pub record_fits : (room at : ℕ) → Record → List ℕ → Bool
record_fits room at r cs =
    is_kind r.kind && values_fit r.kind r.value r.second && children_fit r.kind r.value cs && text_fits room at r

-- the kind of a branch's record
abbrev pub kind_of : Branch → ℕ
kind_of (branch r bs) = r.kind

-- a list of branches, last first, in order
unfoldable pub in_order : List Branch → Branches → Branches
in_order [] bs = bs
in_order (b ∷ l) bs = in_order l (b ∷ᴮ bs)

-- the row of a record, whose text stands in the texts
abbrev pub row_of : (texts : List ℕ) → Record → Row
row_of texts r =
    record { kind = r.kind; start = r.start; text = cut texts r.place (r.place + r.size); value = r.value; second = r.second }

-- the branch of a list of one
abbrev pub only : List Branch → Option Branch
only [] = none
only (b ∷ []) = some b
only (b ∷ c ∷ l) = none

-- the tree of records, of which the texts before end at a place. The stack holds the branches that are no children yet, last first
unfoldable pub build_from : (texts : List ℕ) → (at : ℕ) → List Record → (stack : List Branch) → Option Branch
build_from texts at [] stack = only stack
build_from texts at (r ∷ rs) stack =
    elim (leb r.children (length stack) && record_fits (length texts) at r (map kind_of (take r.children stack))) [
      | true ↦ build_from texts (at + r.size) rs (branch (row_of texts r) (in_order (take r.children stack) []ᴮ) ∷ drop r.children stack)
      | false ↦ none
    ]

-- a record in front of others, if there are any
abbrev pub onto : Record → Option (List Record) → Option (List Record)
onto r none = none
onto r (some rs) = some (r ∷ rs)

-- the records of words, if there are seven words for each
unfoldable pub records_in : List ℕ → Option (List Record)
records_in [] = some []
records_in (k ∷ []) = none
records_in (k ∷ s ∷ []) = none
records_in (k ∷ s ∷ p ∷ []) = none
records_in (k ∷ s ∷ p ∷ n ∷ []) = none
records_in (k ∷ s ∷ p ∷ n ∷ v ∷ []) = none
records_in (k ∷ s ∷ p ∷ n ∷ v ∷ w ∷ []) = none
records_in (k ∷ s ∷ p ∷ n ∷ v ∷ w ∷ c ∷ ws) =
    onto (record { kind = k; start = s; place = p; size = n; value = v; second = w; children = c }) (records_in ws)

-- the tree of the records, if the words are records
abbrev pub build_by : List ℕ → Option (List Record) → Option Branch
build_by texts none = none
build_by texts (some rs) = build_from texts 0 rs []

-- the tree, if its root is of a kind that passes the test
abbrev pub rooted : (ℕ → Bool) → Option Branch → Option Branch
rooted root none = none
rooted root (some b) = if root (kind_of b) then some b otherwise none

-- the tree that words and texts are, if they are one, its root of a kind that passes the test
unfoldable pub build : (root : ℕ → Bool) → (words texts : List ℕ) → Option Branch
unfolding values_fit groups_of without matches text_fits record_fits in_order build_from records_in
build root words texts = rooted root (build_by texts (records_in words))
