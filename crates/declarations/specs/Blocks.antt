-- A block: a keyword, and in braces what a function that is passed reads.
-- Assumes nothing.
use Rattle.std.specs.Prelude.{ℕ, ◌≡◌, ◌≤◌, List, [], ◌∷◌, ◌++◌, length, Result, Ok, Err}
use Rattle.std.specs.Borrow.{Bor, MutBor}
use Rattle.error.specs.declared.Stop.{Stop}
use Rattle.lexer.specs.declared.Token.{Token}
use Rattle.tree.specs.Records.{Node}
use Rattle.notation.specs.Parser.{Parser, ◌>>=◌, next, expect}
use Rattle.tokens.specs.Promise.{stream}
use Rattle.parser.specs.Storing.{lent_of, Kept, node, flat}
use Rattle.parser.specs.Steps.{Ready, ParsesList}
use Rattle.parser.specs.Lists.{as_read}
use Rattle.parser.specs.declared.store.Store.{Store}

-- so few that they can be counted; of a refusal nothing is said
abbrev pub Few : Result (Token × ℕ) Stop → Type 0
Few (Ok (u, count)) = count ≤ 0x400000
Few (Err e) = Unit {0}

-- what the function reads is the list that p reads, of few items, and its nodes are stored
abbrev pub ReadsFew : List ℕ → (Bor (List ℕ) → Token → MutBor Store → Result (Token × ℕ) Stop → MutBor Store → Type 0) → Parser ℕ (List (List Node)) → Type 0
ReadsFew s post p = (b : Bor (List ℕ)) (t : Token) (m : MutBor Store) (r : Result (Token × ℕ) Stop) (n : MutBor Store) → b.now ≡ s → Ready s t (lent_of m.now) → post b t m r n
    → Kept m.now n.now × ParsesList (p (stream s t)) as_read s t 0 (lent_of m.now) (lent_of n.now) r × Few r

-- what stands behind a keyword and a brace
unfoldable pub block_of : {A : Type 0} → Parser ℕ (List A) → Parser ℕ (List A)
block_of p = next >>= λ _. (expect "{" >>= λ _. p)

-- the nodes of a block's items, and behind them its own, of a kind and a start
unfoldable pub block_nodes : (kind start : ℕ) → List (List Node) → List Node
block_nodes k p xs = flat as_read xs ++ node k p [] 0 0 (length xs) ∷ []
