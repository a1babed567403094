-- Members that are stored in groups: those of one kind after those of another, each group in the order of the text.
-- Assumes nothing.
use Rattle.std.specs.Prelude.{ℕ, zero, suc, ◌+◌, ◌*◌, ◌≤◌, ◌≡◌, Bool, true, List, [], ◌∷◌, ◌++◌, eqb, length, Result, Ok, Err}
use Rattle.basics.specs.Basics.{if◌then◌otherwise◌}
use Rattle.error.specs.Promise.{cause_number}
use Rattle.tree.specs.Records.{Branch, nodes, texts_of}
use Rattle.notation.specs.Parser.{Answer, read, refused}
use Rattle.tokens.specs.Promise.{stream}
use Rattle.parser.specs.Storing.{Lent, flat}
use Rattle.parser.specs.Steps.{placed, Onward, Lays}
use Rattle.lexer.specs.declared.Token.{Token}
use Rattle.error.specs.declared.Stop.{Stop}

-- a kind is the one that is wanted; 0 wants all
abbrev pub wants : (want kind : ℕ) → Bool
wants zero k = true
wants (suc n) k = eqb k (suc n)

module _ {M : Type 0} (kind : M → ℕ) (branches : M → List Branch) where
  -- the branches of a member that is wanted
  abbrev pub chosen : (want : ℕ) → M → List Branch
  chosen w m = if wants w (kind m) then branches m otherwise []

  -- of all members
  unfoldable pub all_of : (want : ℕ) → List M → List Branch
  all_of w [] = []
  all_of w (m ∷ ms) = chosen w m ++ all_of w ms

  -- the groups of these kinds, one after another
  unfoldable pub groups_of : List ℕ → List M → List Branch
  groups_of [] ms = []
  groups_of (k ∷ ks) ms = all_of k ms ++ groups_of ks ms

-- from the token t on the definition answers D, members whose branches are stored, so many
pub record Gathers {M : Type 0} (D : Answer ℕ (List M)) (branches : List M → List Branch) (s : List ℕ) (t : Token) (step : ℕ) (a : Lent) (u : Token) (b : Lent) (count : ℕ) : Type 0 where
  pub members : List M
  pub gives : D ≡ read members (stream s u)
  pub counted : length (branches members) ≡ count
  pub onward : Onward s t u step
  pub lays : Lays s t u 0 (flat nodes (branches members)) a b

-- what an answer says of D: it is members whose branches are stored, so many, or it is this refusal
abbrev pub GathersTo : {M : Type 0} → Answer ℕ (List M) → (List M → List Branch) → List ℕ → Token → (step : ℕ) → (a b : Lent) → Result (Token × ℕ) Stop → Type 0
GathersTo D f s t step a b (Ok (u, count)) = Gathers D f s t step a u b count
GathersTo D f s t step a b (Err e) = D ≡ refused (cause_number e.cause) e.place

-- members are read up to the token last, and all together they have at most two nodes for each byte and three bytes of text
pub record MeasuredAs {M : Type 0} (D : Answer ℕ (List M)) (kind : M → ℕ) (branches : M → List Branch) (step : ℕ) (s : List ℕ) (t last : Token) : Type 0 where
  pub members : List M
  pub gives : D ≡ read members (stream s last)
  pub onward : Onward s t last step
  pub bound : length (flat nodes (all_of kind branches 0 members)) + 2 * placed s t ≤ 2 * placed s last
  pub space : length (texts_of (flat nodes (all_of kind branches 0 members))) + 3 * placed s t ≤ 3 * placed s last
