-- What the answers of the exported calls say of a text, and how much a text can need of what is lent: at most `words_enough` words of
-- records and `bytes_enough` bytes of texts.
-- Assumes nothing.
use Rattle.std.specs.Prelude.{ℕ, ◌<◌, ◌≤◌, ◌≡◌, List, length}
use Rattle.error.specs.Causes.{records_full, texts_full}
use Rattle.tree.specs.Syntax.{GrammarDeclaration}
use Rattle.tree.specs.Stored.{grammar_words, grammar_texts}
use Rattle.spelling.specs.NormalText.{normal_text}
use Rattle.grammar.specs.Reading.{tree, reading, longest}
use Rattle.grammar.specs.Calls.{words_enough, bytes_enough}
use Rattle.hemvuda.specs.declared.Answer.{Answer}

-- Where an answer is no refusal, the text is accepted, and the answer says how many words and bytes its tree takes, which are within
-- the bounds.
pub record Sized (s : List ℕ) (a : Answer) : Type 0 where
  pub grammar : GrammarDeclaration ℕ
  pub is : reading s ≡ tree grammar
  pub words : a.first ≡ length (grammar_words grammar)
  pub bytes : a.second ≡ length (grammar_texts grammar)
  pub words_within : a.first ≤ words_enough (length s)
  pub bytes_within : a.second ≤ bytes_enough (length s)

-- Where an answer is no refusal, the text is accepted, and the answer says how many bytes its normal text has: 65,535 at most.
pub record Written (s : List ℕ) (a : Answer) : Type 0 where
  pub grammar : GrammarDeclaration ℕ
  pub is : reading s ≡ tree grammar
  pub bytes : a.first ≡ length (normal_text grammar)
  pub within : a.first ≤ longest

-- 22 comes only where fewer words are lent than such a text can need, and 23 only where fewer bytes of texts are. So whoever lends as
-- many meets neither.
abbrev pub WantsRoom : (text records texts : List ℕ) → Answer → Type 0
WantsRoom s rs ts a =
    (a.cause ≡ records_full → length rs < words_enough (length s)) × (a.cause ≡ texts_full → length ts < bytes_enough (length s))
