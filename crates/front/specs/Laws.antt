-- What holds of the front command's answers. Statements only; their proofs are in `proofs/Laws.antt`.
-- Assumes nothing.
use Rattle.std.specs.Prelude.{ℕ, ◌*◌, ◌+◌, ◌≤◌, ◌≡◌, ◌↔◌, Bool, true, List, length}
use Rattle.tree.specs.Syntax.{GrammarDeclaration}
use Rattle.tree.specs.Equality.{agree}
use Rattle.spelling.specs.NormalText.{normal_text}
use Rattle.grammar.specs.Reading.{tree, reading, longest}
use Rattle.grammar.specs.Calls as Calls
use Rattle.calls.specs.Promise.{Few}
use Rattle.front.specs.Outcomes.{Outcome, accepted, refused, outcome}
use Rattle.front.specs.Respond.{Source, same, check, respond}

-- ------------------------------------------------------------------ the memory that the command lends is enough

-- the outcome as the call `normal_text` answers
abbrev pub answer_of : Outcome → Calls.NormalAnswer
answer_of (accepted normal) = Calls.written (length normal)
answer_of (refused r) = Calls.NormalAnswer.refused r

-- With 28 · 65,535 + 7 words, 6 · 65,535 bytes and 65,535 bytes of output lent, or more, the call answers the outcome, in which there is no
-- test of room: so 22 and 23 are never met, nor 24 for want of output.
abbrev pub EnoughIsLent : Type 0
EnoughIsLent =
    (text records texts output : List ℕ) → Few text → 28 * 65535 + 7 ≤ length records → 6 * 65535 ≤ length texts → longest ≤ length output
    → (Calls.normal text records texts output).answer ≡ answer_of (outcome text)

-- ------------------------------------------------------------------ what the statuses mean

-- both texts are accepted, with normal texts that are not too long
pub record BothAccepted (s t : List ℕ) : Type 0 where
  pub left : GrammarDeclaration ℕ
  pub right : GrammarDeclaration ℕ
  pub reads_left : reading s ≡ tree left
  pub reads_right : reading t ≡ tree right
  pub left_fits : length (normal_text left) ≤ longest
  pub right_fits : length (normal_text right) ≤ longest

-- `same` says yes exactly where both texts are accepted and their trees agree.
abbrev pub SameIsAgreement : Type 0
SameIsAgreement =
    (quiet : Bool) (s t : Source)
    → ((respond (same quiet s t)).status ≡ 0) ↔ ((b : BothAccepted s.text t.text) × (agree b.left b.right ≡ true))

-- `check` says yes exactly where a text is its own normal text.
abbrev pub CheckIsItsOwn : Type 0
CheckIsItsOwn = (differences : Bool) (s : Source) → ((respond (check differences s)).status ≡ 0) ↔ (outcome s.text ≡ accepted s.text)
