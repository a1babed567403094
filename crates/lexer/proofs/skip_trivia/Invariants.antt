use mathlib.Core.Path.{◌≡◌}
use Prim.Native.Nat.{◌-◌, ◌≤◌}
use lib.ListN.{length}
use Rattle.lexer.proofs.Tokens.{not_terminator, closed}
use Rattle.lexer.specs.Promise.{tokens_at}
use Rattle.characters.specs.Promise.{run_end}
use Rattle.lexer.proofs.skip_trivia.Given as goal

abbrev pub invariant-space : goal.invariant-space
invariant-space l = (l.initial.cursor ≤ l.cursor) × (tokens_at l.source l.cursor ≡ tokens_at l.source l.from)

abbrev pub decreases-space : goal.decreases-space
decreases-space l = length l.source - l.cursor

abbrev pub invariant-line : goal.invariant-line
invariant-line l = (l.initial.cursor ≤ l.cursor) × (l.cursor ≤ length l.source) × (tokens_at l.source (run_end not_terminator l.source l.cursor) ≡ tokens_at l.source l.from)

abbrev pub decreases-line : goal.decreases-line
decreases-line l = length l.source - l.cursor

abbrev pub invariant-block : goal.invariant-block
invariant-block l = (l.initial.cursor ≤ l.cursor) × (l.cursor ≤ length l.source) × (closed l.source l.start l.cursor ≡ tokens_at l.source l.from)

abbrev pub decreases-block : goal.decreases-block
decreases-block l = length l.source - l.cursor

abbrev pub invariant-trivia : goal.invariant-trivia
invariant-trivia l = (l.from ≤ l.cursor) × (tokens_at l.source l.cursor ≡ tokens_at l.source l.from)

abbrev pub decreases-trivia : goal.decreases-trivia
decreases-trivia l = length l.source - l.cursor
