-- What the functions' contracts say beside the definitions.
-- Assumes nothing.
use Rattle.std.specs.Prelude.{ℕ, ◌+◌, ◌≤◌, ◌<◌, ◌^◌, ◌≡◌, Bool, true, ◌||◌, List, ◌++◌, ltb, length, drop, Result, Ok, Err}
use Rattle.basics.specs.Basics.{if◌then◌otherwise◌}
use Rattle.tree.specs.Syntax.{GrammarDeclaration}
use Rattle.tree.specs.Stored.{grammar_words, grammar_texts}
use Rattle.tree.specs.Records.{Row, Branches, count, nodes_all}
use Rattle.tree.specs.OneTree.{is_kind}
use Rattle.tree.specs.Promise.{count_of, word_at, node_at, All}
use Rattle.writer.specs.declared.TooLong.{TooLong}
use Rattle.output.specs.Promise.{Wrote}
use Rattle.spelling.specs.NormalText.{normal_text}

-- ------------------------------------------------------------------ records that are lent

-- the texts of all records lie in the texts, all is small enough for its bytes to be counted, and the numbers of kinds are such
pub record Lent (ws ts : List ℕ) : Type 0 where
  pub few : length ws ≤ 2 ^ 30
  pub sizes : (i : ℕ) → word_at ws i 3 < 2 ^ 32
  pub inside : (i : ℕ) → i < count_of ws → word_at ws i 2 + word_at ws i 3 ≤ length ts
  pub kinds : (i : ℕ) → i < count_of ws → is_kind (word_at ws i 0) ≡ true

-- a record but for the place of its text and its children
abbrev pub row_at : (ws ts : List ℕ) → ℕ → Row
row_at ws ts i = (node_at ws ts i).row

-- n branches stand before the record `end`
pub record Run (ws ts : List ℕ) (n end : ℕ) : Type 0 where
  pub lo : ℕ
  pub branches : Branches
  pub all : All ws ts lo (nodes_all branches)
  pub counted : count branches ≡ n
  pub ends : lo + length (nodes_all branches) ≡ end

-- ------------------------------------------------------------------ the normal text of a stored grammar

-- the words are the records of a grammar, and few enough for the bytes of its text to be counted; its texts are the front of the texts
pub record Stored (ws ts : List ℕ) : Type 0 where
  pub grammar : GrammarDeclaration ℕ
  pub words : ws ≡ grammar_words grammar
  pub few : length ws ≤ 2 ^ 30
  pub more : List ℕ
  pub texts : ts ≡ grammar_texts grammar ++ more

-- the normal text is written, of whatever grammar it is
abbrev pub WroteNormal : (ws ts old new : List ℕ) → (n : ℕ) → Type 0
WroteNormal ws ts old new n = (s : Stored ws ts) → Wrote (normal_text s.grammar) old new n

-- the text has more bytes than a limit, or than the output
abbrev pub too_long : (limit : ℕ) → (text old : List ℕ) → Bool
too_long limit t old = ltb limit (length t) || ltb (length old) (length t)

-- the text is laid over the output, or the output is as it was
pub record WroteWithin (limit : ℕ) (text old new : List ℕ) (r : Result ℕ TooLong) : Type 0 where
  pub answer : r ≡ (if too_long limit text old then Err (record {}) otherwise Ok (length text))
  pub output : new ≡ (if too_long limit text old then old otherwise text ++ drop (length text) old)

-- the normal text within a limit, of whatever grammar it is
abbrev pub WroteNormalWithin : (ws ts : List ℕ) → (limit : ℕ) → (old new : List ℕ) → Result ℕ TooLong → Type 0
WroteNormalWithin ws ts limit old new r = (s : Stored ws ts) → WroteWithin limit (normal_text s.grammar) old new r
