-- What the functions' contracts say beside the definitions.
-- Assumes nothing.
use Rattle.std.specs.Prelude.{ℕ, ◌≤◌, ◌<◌, ◌≡◌, List, [], ◌∷◌, length, take, drop, Option, Result, Ok, Err, IfOk}
use Rattle.std.specs.Io.KnownBytes.{Appends}
use Rattle.error.specs.Promise.{refusal_of}
use Rattle.error.specs.declared.Refusal as declared
use Rattle.front.specs.Outcomes.{Outcome, accepted, refused}
use Rattle.front.specs.Differences.{lines}
use Rattle.front.specs.Respond.{Response}
use Rattle.front.specs.declared.Status.{Status}
use Rattle.front.specs.declared.Status.TheVariants.{Yes, No, Neither}

-- the number of a status
abbrev pub status_number : Status → ℕ
status_number Yes = 0
status_number No = 1
status_number Neither = 2

-- a text's outcome: its normal text at the front of the output, or the refusal
abbrev pub IsOutcome : Outcome → Result ℕ declared.Refusal → (output : List ℕ) → Type 0
IsOutcome o (Ok n) out = (n ≤ length out) × (o ≡ accepted (take n out))
IsOutcome o (Err f) out = o ≡ refused (refusal_of f)

-- where all writes succeed, the status is the response's, and just its result is added to what the writer holds; there are no messages
pub record Written (response : Response) (output output_after : Option (List ℕ)) (status : Status) : Type 0 where
  pub status_is : status_number status ≡ response.status
  pub written : Appends output output_after response.output
  pub silent : response.messages ≡ []

-- the same with a second writer, to which just the response's messages are added
pub record Answered (response : Response) (output output_after messages messages_after : Option (List ℕ)) (status : Status) : Type 0 where
  pub status_is : status_number status ≡ response.status
  pub written : Appends output output_after response.output
  pub told : Appends messages messages_after response.messages

abbrev pub Answers : {E : Type 0} → Response → (output output_after messages messages_after : Option (List ℕ)) → Result Status E → Type 0
Answers response w v m k r = IfOk r (Answered response w v m k)

-- the first line of a text that has one, with its line feed, and the lines behind it
abbrev pub FirstLine : List ℕ → ℕ → Type 0
FirstLine s n = (n ≤ length s) × (0 < length s → (0 < n) × (lines s ≡ take n s ∷ lines (drop n s)))
