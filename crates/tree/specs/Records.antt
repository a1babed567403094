-- Stored records: seven words each, children before their parent, and the texts one after another in the order of the records.
-- Assumes nothing.
use Rattle.std.specs.Prelude.{ℕ, zero, suc, ◌+◌, List, [], ◌∷◌, ◌++◌, length}

infixr 67 ◌∷ᴮ◌
-- a record but for the place of its text and the number of its children. The text is in bytes
pub record Row : Type 0 where
  pub kind : ℕ
  pub start : ℕ
  pub text : List ℕ
  pub value : ℕ
  pub second : ℕ

-- trees of records
mutual
  -- a record with those below it
  pub data Branch : Type 0 where
    branch : Row → Branches → Branch

  -- the branches below a record, in their order
  pub data Branches : Type 0 where
    []ᴮ : Branches
    ◌∷ᴮ◌ : Branch → Branches → Branches

-- how many branches there are
unfoldable pub count : Branches → ℕ
count []ᴮ = 0
count (b ∷ᴮ bs) = 1 + count bs

-- a row with the number of its children
pub record Node : Type 0 where
  pub row : Row
  pub children : ℕ

-- children before their parent
unfoldable mutual
  -- the nodes of a branch
  pub nodes : Branch → List Node
  nodes (branch r bs) = nodes_all bs ++ (record { row = r; children = count bs } ∷ [])

  -- the nodes of branches, one after another
  pub nodes_all : Branches → List Node
  nodes_all []ᴮ = []
  nodes_all (b ∷ᴮ bs) = nodes b ++ nodes_all bs

-- the words of a record: kind, start, text place, text length, value, second, children
pub record Record : Type 0 where
  pub kind : ℕ
  pub start : ℕ
  pub place : ℕ
  pub size : ℕ
  pub value : ℕ
  pub second : ℕ
  pub children : ℕ

-- how many words a record has
abbrev pub width : ℕ
width = 7

-- the seven words of a record
abbrev pub words_of : Record → List ℕ
words_of r = r.kind ∷ r.start ∷ r.place ∷ r.size ∷ r.value ∷ r.second ∷ r.children ∷ []

-- an empty text has place 0
abbrev pub place_of : (at size : ℕ) → ℕ
place_of at zero = 0
place_of at (suc n) = at

-- the record of a node whose text begins at a place
abbrev pub record_of : (at : ℕ) → Node → Record
record_of at x =
    record {
      kind = x.row.kind;
      start = x.row.start;
      place = place_of at (length x.row.text);
      size = length x.row.text;
      value = x.row.value;
      second = x.row.second;
      children = x.children;
    }

-- the records of nodes whose texts stand from a place on
unfoldable pub records_from : (at : ℕ) → List Node → List Record
records_from at [] = []
records_from at (x ∷ xs) = record_of at x ∷ records_from (at + length x.row.text) xs

-- the words of records, one after another
unfoldable pub words : List Record → List ℕ
words [] = []
words (r ∷ rs) = words_of r ++ words rs

-- the texts of nodes, one after another
unfoldable pub texts_of : List Node → List ℕ
texts_of [] = []
texts_of (x ∷ xs) = x.row.text ++ texts_of xs

-- the records of a tree
unfoldable pub records : Branch → List Record
unfolding count nodes records_from
records b = records_from 0 (nodes b)

-- the texts of a tree
unfoldable pub texts : Branch → List ℕ
unfolding count nodes texts_of
texts b = texts_of (nodes b)
