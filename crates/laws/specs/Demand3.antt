-- Demand 3: what holds of normal texts, for whatever texts are accepted. Statements only; their proofs are in `proofs/Demand3.antt`.
-- Assumes nothing.
use Rattle.std.specs.Prelude.{ℕ, ◌≤◌, ◌≡◌, true, List, length, take}
use Rattle.tree.specs.Syntax.{GrammarDeclaration}
use Rattle.tree.specs.Stored.{grammar_words, grammar_texts}
use Rattle.tree.specs.Equality.{agree}
use Rattle.spelling.specs.NormalText.{normal_text}
use Rattle.grammar.specs.Reading.{tree, reading, longest}
use Rattle.grammar.specs.Calls.{written, normal}
use Rattle.grammar.specs.Program.{outcome, printed}

infix 4 ◌reads◌
-- what a text is read as
abbrev Tree : Type 0
Tree = GrammarDeclaration ℕ

-- a text is accepted, and this is its tree
abbrev pub ◌reads◌ : (text : List ℕ) → Tree → Type 0
text reads g = reading text ≡ tree g

-- 1. The normal text of an accepted text is accepted, its tree agrees with the first, and its normal text is itself.
pub record Accepted (g : Tree) : Type 0 where
  pub again : Tree
  pub accepted : normal_text g reads again
  pub agrees : agree g again ≡ true
  pub itself : normal_text again ≡ normal_text g

-- so for every accepted text whose normal text is not too long
abbrev pub NormalTextsAreAccepted : Type 0
NormalTextsAreAccepted = (text : List ℕ) (g : Tree) → text reads g → length (normal_text g) ≤ longest → Accepted g

-- 2. Two accepted texts have equal normal texts exactly when their trees agree.
abbrev pub EqualWhenTreesAgree : Type 0
EqualWhenTreesAgree =
    (s t : List ℕ) (g h : Tree) → s reads g → t reads h
    → (normal_text g ≡ normal_text h → agree g h ≡ true) × (agree g h ≡ true → normal_text g ≡ normal_text h)

-- 3. Trees that agree take equally many words and bytes: the lent lengths that serve a text serve its normal text.
abbrev pub AgreeingTreesTakeTheSameRoom : Type 0
AgreeingTreesTakeTheSameRoom =
    (g h : Tree) → agree g h ≡ true
    → (length (grammar_words g) ≡ length (grammar_words h)) × (length (grammar_texts g) ≡ length (grammar_texts h))

-- So `normal`, handed what it wrote, writes the same bytes again into buffers of the same lengths.
abbrev pub NormalOfItsOutput : Type 0
NormalOfItsOutput =
    (text records texts output : List ℕ) (n : ℕ) → (normal text records texts output).answer ≡ written n
    → ((normal (take n (normal text records texts output).output) records texts output).answer ≡ written n)
    × ((normal (take n (normal text records texts output).output) records texts output).output ≡ (normal text records texts output).output)

-- And what the program `normal` prints for a text that is not refused, it prints for that again.
abbrev pub PrintedIsItsOwn : Type 0
PrintedIsItsOwn = (text : List ℕ) (n : ℕ) → (outcome text).answer ≡ written n → printed (printed text) ≡ printed text
