-- What lists ask of the function that reads what stands in them, and what they say of it: a parser whose values are nodes, since a function
-- that is passed on is known by what it stores.
-- Assumes nothing.
use Rattle.std.specs.Prelude.{ℕ, ◌≡◌, ◌<◌, List, [], map, Result}
use Rattle.std.specs.Borrow.{Bor, MutBor}
use Prim.Native.Char.{Char, code}
use Rattle.error.specs.declared.Stop.{Stop}
use Rattle.lexer.specs.declared.Token.{Token}
use Rattle.tree.specs.Records.{Node}
use Rattle.notation.specs.Parser.{Parser, ◌>>=◌, pure, choose, eat}
use Rattle.tokens.specs.Promise.{stream}
use Rattle.parser.specs.Storing.{lent_of, Kept}
use Rattle.parser.specs.Steps.{Ready, Parses, ParsesList}
use Rattle.parser.specs.declared.store.Store.{Store}

-- what p reads, as its nodes
unfoldable pub stored : {A : Type 0} → (A → List Node) → Parser ℕ A → Parser ℕ (List Node)
stored g p = p >>= λ x. pure (g x)

-- what p reads, as the nodes of each
unfoldable pub stored_all : {A : Type 0} → (A → List Node) → Parser ℕ (List A) → Parser ℕ (List (List Node))
stored_all g p = p >>= λ xs. pure (map g xs)

-- nodes, as they are
abbrev pub as_read : List Node → List Node
as_read ns = ns

-- the function may be called at each place of this text where it can store
abbrev pub MayRead : List ℕ → (Bor (List ℕ) → Token → MutBor Store → Type 0) → Type 0
MayRead s pre = (b : Bor (List ℕ)) (t : Token) (m : MutBor Store) → b.now ≡ s → Ready s t (lent_of m.now) → pre b t m

-- what the function reads there is what p reads, and its nodes are stored
abbrev pub ReadsOne : List ℕ → (Bor (List ℕ) → Token → MutBor Store → Result Token Stop → MutBor Store → Type 0) → Parser ℕ (List Node) → Type 0
ReadsOne s post p = (b : Bor (List ℕ)) (t : Token) (m : MutBor Store) (r : Result Token Stop) (n : MutBor Store) → b.now ≡ s → Ready s t (lent_of m.now) → post b t m r n
    → Kept m.now n.now × Parses (p (stream s t)) as_read s t (lent_of m.now) (lent_of n.now) r

-- what the function reads there is the list that p reads, and its nodes are stored
abbrev pub ReadsAll : List ℕ → (Bor (List ℕ) → Token → MutBor Store → Result (Token × ℕ) Stop → MutBor Store → Type 0) → Parser ℕ (List (List Node)) → Type 0
ReadsAll s post p = (b : Bor (List ℕ)) (t : Token) (m : MutBor Store) (r : Result (Token × ℕ) Stop) (n : MutBor Store) → b.now ≡ s → Ready s t (lent_of m.now) → post b t m r n
    → Kept m.now n.now × ParsesList (p (stream s t)) as_read s t 0 (lent_of m.now) (lent_of n.now) r

-- a list: the mark that closes it, and what reads an item
pub record Listed : Type 0 where
  pub mark : Char
  pub item : Parser ℕ (List Node)

-- the function reads the items of this list, which the mark with this code closes
pub record ReadsItems (s : List ℕ) (close : ℕ) (post : Bor (List ℕ) → Token → MutBor Store → Result Token Stop → MutBor Store → Type 0) (l : Listed) : Type 0 where
  pub is : code l.mark ≡ close
  pub some : 0 < close
  pub each : ReadsOne s post l.item

-- what may stand behind a mark: the mark, and what reads the list behind it
pub record Marked : Type 0 where
  pub mark : Char
  pub inside : Parser ℕ (List (List Node))

-- the function reads the list behind the mark with this code
pub record ReadsBehind (s : List ℕ) (opens : ℕ) (post : Bor (List ℕ) → Token → MutBor Store → Result (Token × ℕ) Stop → MutBor Store → Type 0) (l : Marked) : Type 0 where
  pub is : code l.mark ≡ opens
  pub some : 0 < opens
  pub all : ReadsAll s post l.inside

-- the list behind this mark; none where it does not follow
unfoldable pub optional : Char → Parser ℕ (List (List Node)) → Parser ℕ (List (List Node))
optional m p = eat m >>= λ yes. choose yes p (pure [])
