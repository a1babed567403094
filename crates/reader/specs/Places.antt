-- Groups that are filled in one pass: each has a place in the words and one in the bytes, and the members of a group are stored there one
-- after another, wherever they stand in the text.
-- Assumes nothing.
use Rattle.std.specs.Prelude.{ℕ, suc, ◌+◌, ◌*◌, ◌≤◌, ◌<◌, ◌≡◌, List, [], ◌∷◌, ◌++◌, eqb, length, get_or, map}
use Rattle.basics.specs.Basics.{if◌then◌otherwise◌}
use Rattle.tree.specs.Records.{Branch, nodes, width, records_from, words, texts_of}
use Rattle.tokens.specs.Promise.{LiesIn}
use Rattle.lexer.specs.declared.Token.{Token}
use Rattle.reader.specs.declared.blocks.Extent.{Extent}
use Rattle.parser.specs.Storing.{flat}

-- where a kind stands among kinds, or behind them all
unfoldable pub place_in : List ℕ → (kind : ℕ) → ℕ
place_in [] k = 0
place_in (x ∷ xs) k = if eqb k x then 0 otherwise suc (place_in xs k)

-- the words of places, or of sizes
abbrev pub words_in : List Extent → List ℕ
words_in es = map (λ e. e.words) es

-- their bytes
abbrev pub bytes_in : List Extent → List ℕ
bytes_in es = map (λ e. e.bytes) es

-- a list holds a part from a place on
pub record Holds (whole : List ℕ) (at : ℕ) (part : List ℕ) : Type 0 where
  pub within : at + length part ≤ length whole
  pub is : (i : ℕ) → i < length part → get_or whole (at + i) 0 ≡ get_or part i 0

-- it holds so many parts, each from its place on
abbrev pub HoldsAll : List ℕ → (count : ℕ) → (places : List ℕ) → (part : ℕ → List ℕ) → Type 0
HoldsAll whole n ps part = (g : ℕ) → g < n → Holds whole (get_or ps g 0) (part g)

-- Parts are filled in. Whatever list of this length holds them all: they stand there afterwards, and what agreed with it still does
pub record Filled (count : ℕ) (places : List ℕ) (part : ℕ → List ℕ) (before after : List ℕ) : Type 0 where
  pub same : length after ≡ length before
  pub kept : (whole : List ℕ) → length whole ≡ length before → HoldsAll whole count places part → (i : ℕ) → get_or before i 0 ≡ get_or whole i 0 → get_or after i 0 ≡ get_or whole i 0
  pub filled : (whole : List ℕ) → length whole ≡ length before → HoldsAll whole count places part → HoldsAll after count places part

module _ {M : Type 0} (place : M → ℕ) (branches : M → List Branch) where
  -- the branches of the members of a group
  unfoldable pub group_at : (g : ℕ) → List M → List Branch
  group_at g [] = []
  group_at g (m ∷ ms) = (if eqb (place m) g then branches m otherwise []) ++ group_at g ms

  -- The groups of members are filled in: what stands in the words, whose texts begin at the places in the bytes, and what in the bytes. Each
  -- place moves on behind what is stored there
  pub record Fills (count : ℕ) (ms : List M) (word_places byte_places word_ends byte_ends ws ts vs us : List ℕ) : Type 0 where
    pub same_places : length word_ends ≡ length word_places
    pub same_bytes : length byte_ends ≡ length byte_places
    pub words-on : (g : ℕ) → g < count → get_or word_ends g 0 ≡ get_or word_places g 0 + width * length (flat nodes (group_at g ms))
    pub bytes_on : (g : ℕ) → g < count → get_or byte_ends g 0 ≡ get_or byte_places g 0 + length (texts_of (flat nodes (group_at g ms)))
    pub records : Filled count word_places (λ g. words (records_from (get_or byte_places g 0) (flat nodes (group_at g ms)))) ws vs
    pub texts : Filled count byte_places (λ g. texts_of (flat nodes (group_at g ms))) ts us

-- ------------------------------------------------------------------ sizes and places

-- how much parts of these sizes take together
unfoldable pub sum : List ℕ → ℕ
sum [] = 0
sum (x ∷ xs) = x + sum xs

-- the places of parts of these sizes, one after another
unfoldable pub lined_up : (from : ℕ) → List ℕ → List ℕ
lined_up at [] = []
lined_up at (x ∷ xs) = at ∷ lined_up (at + x) xs

-- no part has a size yet
pub record Blank (count : ℕ) (sizes : List ℕ) : Type 0 where
  pub all : length sizes ≡ count
  pub none : (g : ℕ) → get_or sizes g 0 ≡ 0

-- each group has a place in the words and one in the bytes, none of them past a limit, and the text is short
pub record Begins (count limit : ℕ) (s : List ℕ) (t : Token) (word_places byte_places : List ℕ) : Type 0 where
  pub lies : LiesIn s 0 t
  pub small : length s ≤ 0x10000
  pub words-all : length word_places ≡ count
  pub bytes-all : length byte_places ≡ count
  pub words-few : (g : ℕ) → get_or word_places g 0 ≤ limit
  pub bytes-few : (g : ℕ) → get_or byte_places g 0 ≤ limit
