-- What a text comes to where enough memory is lent: its normal text, or what stops it.
-- Assumes nothing.
use Rattle.std.specs.Prelude.{ℕ, List, ltb, length}
use Rattle.basics.specs.Basics.{if◌then◌otherwise◌}
use Rattle.error.specs.Causes.{output_full}
use Rattle.error.specs.Lines.{Refusal, line_feeds, line_start, line_at, column_at, refusal_at}
use Rattle.spelling.specs.NormalText.{normal_text}
use Rattle.grammar.specs.Reading.{Reading, tree, stopped, reading, longest}

-- accepted with its normal text, or refused
pub data Outcome : Type 0 where
  accepted : (normal : List ℕ) → Outcome
  refused : Refusal → Outcome

-- by what the reading gave: the normal text of the tree, unless that is too long
unfoldable pub outcome_by : List ℕ → Reading → Outcome
unfolding line_feeds line_start line_at column_at refusal_at normal_text longest
outcome_by text (stopped cause place) = refused (refusal_at text cause place)
outcome_by text (tree g) =
    if ltb longest (length (normal_text g)) then refused (refusal_at text output_full 0) otherwise accepted (normal_text g)

-- what a text comes to
unfoldable pub outcome : List ℕ → Outcome
unfolding reading outcome_by
outcome text = outcome_by text (reading text)
