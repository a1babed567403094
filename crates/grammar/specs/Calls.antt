-- The library's calls: for any arguments, what each answers and what every lent buffer holds afterwards.
-- Assumes nothing.
use Rattle.std.specs.Prelude.{ℕ, ◌+◌, ◌*◌, Bool, ◌||◌, List, [], ltb, length}
use Rattle.std.proofs.Math.Option.{Option, none, some}
use Rattle.basics.specs.Basics.{if◌then◌otherwise◌, over}
use Rattle.error.specs.Causes.{records_full, texts_full, output_full, not_a_tree}
use Rattle.error.specs.Lines.{Refusal, line_feeds, line_start, line_at, column_at, refusal_at}
use Rattle.tree.specs.Records.{Branch}
use Rattle.tree.specs.Stored.{grammar_words, grammar_texts}
use Rattle.tree.specs.OneTree.{is_expression, build}
use Rattle.tree.specs.Equality.{structurally_eq}
use Rattle.tree.specs.Syntax.{GrammarDeclaration}
use Rattle.spelling.specs.NormalText.{normal_text}
use Rattle.grammar.specs.Reading.{Reading, tree, stopped, reading, longest}

-- ------------------------------------------------------------------ read

-- the tree where there is room for it: first for its records, then for its texts
unfoldable pub room_for : (words bytes : ℕ) → Reading → Reading
unfolding grammar_words grammar_texts
room_for words bytes (stopped n p) = stopped n p
room_for words bytes (tree g) =
    if ltb words (length (grammar_words g)) then stopped records_full 0
    otherwise if ltb bytes (length (grammar_texts g)) then stopped texts_full 0
    otherwise tree g

-- how many words and bytes the tree takes, or a refusal
pub data ReadAnswer : Type 0 where
  stored : (words bytes : ℕ) → ReadAnswer
  refused : Refusal → ReadAnswer

-- what `read` comes to: its answer, and what records and texts hold afterwards
pub record ReadOutcome : Type 0 where
  pub answer : ReadAnswer
  pub records : List ℕ
  pub texts : List ℕ

-- by what the reading gave: the tree is stored and its sizes are answered, or all is left as it was
abbrev pub read_by : (text records texts : List ℕ) → Reading → ReadOutcome
read_by text records texts (stopped n p) = record { answer = refused (refusal_at text n p); records = records; texts = texts }
read_by text records texts (tree g) =
    record {
      answer = stored (length (grammar_words g)) (length (grammar_texts g));
      records = over (grammar_words g) records;
      texts = over (grammar_texts g) texts;
    }

-- `read`: the tree of a text in the records and texts that are lent
unfoldable pub read : (text records texts : List ℕ) → ReadOutcome
unfolding line_feeds line_start line_at column_at refusal_at reading room_for grammar_words grammar_texts
read text records texts = read_by text records texts (room_for (length records) (length texts) (reading text))

-- ------------------------------------------------------------------ measure

-- by what the reading gave: how much its tree takes
abbrev pub measure_by : (text : List ℕ) → Reading → ReadAnswer
measure_by text (stopped n p) = refused (refusal_at text n p)
measure_by text (tree g) = stored (length (grammar_words g)) (length (grammar_texts g))

-- `measure`: how many words and bytes the tree of a text takes, with nothing lent
unfoldable pub measure : (text : List ℕ) → ReadAnswer
unfolding line_feeds line_start line_at column_at refusal_at reading grammar_words grammar_texts
measure text = measure_by text (reading text)

-- how many words are enough for any text of n bytes: four records for each byte, and the grammar's own
abbrev pub words_enough : (n : ℕ) → ℕ
words_enough n = 28 * n + 7

-- and how many bytes
abbrev pub bytes_enough : (n : ℕ) → ℕ
bytes_enough n = 6 * n

-- ------------------------------------------------------------------ normal text

-- how many bytes the normal text has, or a refusal
pub data NormalAnswer : Type 0 where
  written : (bytes : ℕ) → NormalAnswer
  refused : Refusal → NormalAnswer

-- what `normal_text` comes to: its answer, and what records, texts and output hold afterwards
pub record NormalOutcome : Type 0 where
  pub answer : NormalAnswer
  pub records : List ℕ
  pub texts : List ℕ
  pub output : List ℕ

-- under 24 records and texts hold the tree, and the output is as it was
unfoldable pub write_by : (text records texts output : List ℕ) → GrammarDeclaration ℕ → NormalOutcome
unfolding line_feeds line_start line_at column_at refusal_at grammar_words grammar_texts normal_text longest
write_by text records texts output g =
    let t = normal_text g in
    let rs = over (grammar_words g) records in
    let ts = over (grammar_texts g) texts in
    if ltb longest (length t) || ltb (length output) (length t)
    then record { answer = refused (refusal_at text output_full 0); records = rs; texts = ts; output = output }
    otherwise record { answer = written (length t); records = rs; texts = ts; output = over t output }

-- by what the reading gave: its tree is stored and written, or all is left as it was
unfoldable pub normal_by : (text records texts output : List ℕ) → Reading → NormalOutcome
unfolding line_feeds line_start line_at column_at refusal_at write_by
normal_by text records texts output (stopped n p) =
    record { answer = refused (refusal_at text n p); records = records; texts = texts; output = output }
normal_by text records texts output (tree g) = write_by text records texts output g

-- `normal_text`: the normal text of a text in the output that is lent, and its tree in records and texts
unfoldable pub normal : (text records texts output : List ℕ) → NormalOutcome
unfolding reading room_for normal_by
normal text records texts output = normal_by text records texts output (room_for (length records) (length texts) (reading text))

-- ------------------------------------------------------------------ compare

-- equal or not, or a refusal; no buffer is written
pub data CompareAnswer : Type 0 where
  compared : (equal : Bool) → CompareAnswer
  refused : Refusal → CompareAnswer

-- by the two trees, of which either may be none
abbrev pub compare_by : Option Branch → Option Branch → CompareAnswer
compare_by (some b) (some c) = compared (structurally_eq b c)
compare_by (some b) none = refused (refusal_at [] not_a_tree 0)
compare_by none c = refused (refusal_at [] not_a_tree 0)

-- `structurally_eq`: two stored expressions
unfoldable pub compare : (left_records left_texts right_records right_texts : List ℕ) → CompareAnswer
unfolding line_feeds line_start line_at column_at refusal_at build structurally_eq
compare lr lt rr rt = compare_by (build is_expression lr lt) (build is_expression rr rt)
