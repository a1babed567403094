-- What is stored of a tree while it is read: its nodes as records in the words that are lent, their texts in the bytes that are lent.
-- Assumes nothing.
use Rattle.std.specs.Prelude.{ℕ, ◌+◌, ◌*◌, ◌≤◌, ◌≡◌, List, [], ◌∷◌, ◌++◌, length, eqb, Bool, ◌&&◌, Result, Ok, Err}
use Rattle.error.specs.declared.Cause.{Cause}
use Rattle.characters.specs.Promise.{written}
use Rattle.characters.specs.Utf8.{codes}
use Rattle.characters.specs.Spans.{Span}
use Rattle.lexer.specs.Sets.{spans, sorted}
use Rattle.tree.specs.Records.{Branch, Node, nodes, width, records_from, words, texts_of}
use Rattle.tree.specs.Stored.{span_branch}
use Rattle.parser.specs.declared.store.Store.{Store}

-- words and bytes that are lent, and how many of each are taken
pub record Lent : Type 0 where
  pub n : ℕ
  pub words : List ℕ
  pub x : ℕ
  pub texts : List ℕ

-- these words and bytes, of which n words and x bytes are taken
abbrev pub lent : (n : ℕ) → (words : List ℕ) → (x : ℕ) → (texts : List ℕ) → Lent
lent n ws x ts = record { n = n; words = ws; x = x; texts = ts }

-- the words and bytes of a store, and how many of each are taken
abbrev pub lent_of : Store → Lent
lent_of s = lent s.n s.records.now s.x s.texts.now

-- nothing is lent
abbrev pub nothing_lent : Store → Bool
nothing_lent s = eqb (length s.records.now) 0 && eqb (length s.texts.now) 0

-- what is lent is the same as before: the words and bytes lie where they lay, and there are as many of each
pub record Kept (a b : Store) : Type 0 where
  pub records : b.records.ghost_name ≡ a.records.ghost_name
  pub texts : b.texts.ghost_name ≡ a.texts.ghost_name
  pub words : length b.records.now ≡ length a.records.now
  pub bytes : length b.texts.now ≡ length a.texts.now

-- Nodes are stored behind what is taken. All are counted; where the words have room for them they stand there as records, where the bytes
-- have room their texts do, and the rest is as it was
pub record Stores (xs : List Node) (a b : Lent) : Type 0 where
  pub words-end : b.n ≡ a.n + width * length xs
  pub texts-end : b.x ≡ a.x + length (texts_of xs)
  pub same-words : length b.words ≡ length a.words
  pub same-texts : length b.texts ≡ length a.texts
  pub records : b.n ≤ length a.words → b.words ≡ written a.words a.n (words (records_from a.x xs))
  pub bytes : b.x ≤ length a.texts → b.texts ≡ written a.texts a.x (texts_of xs)

-- a node with a text in bytes
abbrev pub node : (kind start : ℕ) → (text : List ℕ) → (value second children : ℕ) → Node
node k p t v w c = record { row = record { kind = k; start = p; text = t; value = v; second = w }; children = c }

-- the nodes of all in a list
unfoldable pub flat : {A : Type 0} → (A → List Node) → List A → List Node
flat f [] = []
flat f (x ∷ xs) = f x ++ flat f xs

-- the nodes of what has a branch
abbrev pub nodes_of : {A : Type 0} → (A → Branch) → A → List Node
nodes_of f x = nodes (f x)

-- ------------------------------------------------------------------ the spans of a set

-- the words of spans as records, of a set that starts at a place
unfoldable pub span_words : (start : ℕ) → List Span → List ℕ
span_words p ss = words (records_from 0 (flat (nodes_of (span_branch p)) ss))

-- the spans of a body are stored in ascending order, no more of them than it has bytes; a set that is stopped takes no
-- words
abbrev pub StoresSet : (body : List ℕ) (start : ℕ) (a b : Lent) → Result ℕ Cause → Type 0
StoresSet t p a b (Ok m) = (m ≤ length t) × (m ≡ length (sorted (spans (codes t)))) × Stores (flat (nodes_of (span_branch p)) (sorted (spans (codes t)))) a b
StoresSet t p a b (Err c) = b.n ≡ a.n
