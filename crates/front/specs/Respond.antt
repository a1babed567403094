-- What the front command answers: its status, what it writes as the result, and what it says on standard error.
-- Assumes nothing.
use Rattle.std.specs.Prelude.{ℕ, Bool, List, [], ◌∷◌, ◌++◌, max}
use Rattle.basics.specs.Basics.{if◌then◌otherwise◌, same as equal, letters}
use Rattle.error.specs.Lines.{Refusal}
use Rattle.grammar.specs.Program.{refusal_line}
use Rattle.front.specs.Outcomes.{Outcome, accepted, refused, outcome}
use Rattle.front.specs.Differences.{difference}

-- a file by its name, `-` for standard input, and its bytes
pub record Source : Type 0 where
  pub name : List ℕ
  pub text : List ℕ

-- what is asked
pub data Request : Type 0 where
  -- the normal text
  normal : Source → Request
  -- whether the text is its own normal text; if asked, with the first line that differs
  check : (differences : Bool) → Source → Request
  -- whether two grammars agree; if not asked to be quiet, with the first line in which their normal texts differ
  same : (quiet : Bool) → (left right : Source) → Request
  -- why the text is refused
  why : Source → Request

-- what is answered: 0 done or yes, 1 refused or no, 2 no answer
pub record Response : Type 0 where
  pub status : ℕ
  pub output : List ℕ
  pub messages : List ℕ

-- what a file's messages begin with; standard input needs no name
unfoldable pub label : (name : List ℕ) → List ℕ
unfolding equal
label name = if equal name (letters "-") then [] otherwise name ++ letters ": "

-- `FILE: refused N at P line L column C`
unfoldable pub said : (name : List ℕ) → Refusal → List ℕ
unfolding label refusal_line
said name r = label name ++ refusal_line r

-- yes, with nothing to write
abbrev pub yes : Response
yes = record { status = 0; output = []; messages = [] }

-- no answer, since texts are refused
abbrev pub no_answer : (messages : List ℕ) → Response
no_answer messages = record { status = 2; output = []; messages = messages }

-- the normal text, or the refusal
unfoldable pub normal_by : Source → Outcome → Response
unfolding said
normal_by s (accepted t) = record { status = 0; output = t; messages = [] }
normal_by s (refused r) = record { status = 1; output = []; messages = said s.name r }

-- a text that is not its own normal text is named
unfoldable pub check_by : Bool → Source → Outcome → Response
unfolding equal difference said
check_by differences s (accepted t) =
    if equal s.text t then yes
    otherwise record { status = 1; output = s.name ++ (letters "\n" ++ (if differences then difference s.text t otherwise [])); messages = [] }
check_by differences s (refused r) = no_answer (said s.name r)

-- two grammars agree where their normal texts are equal
unfoldable pub same_by : Bool → Source → Source → Outcome → Outcome → Response
unfolding equal difference said
same_by quiet s t (accepted left) (accepted right) =
    if equal left right then yes
    otherwise record { status = 1; output = if quiet then [] otherwise difference left right; messages = [] }
same_by quiet s t (accepted left) (refused q) = no_answer (said t.name q)
same_by quiet s t (refused r) (accepted right) = no_answer (said s.name r)
same_by quiet s t (refused r) (refused q) = no_answer (said s.name r ++ said t.name q)

-- the refusal is the result; what explains it is written behind it
unfoldable pub why_by : Source → Outcome → Response
unfolding label said
why_by s (accepted t) = record { status = 0; output = label s.name ++ letters "accepted\n"; messages = [] }
why_by s (refused r) = record { status = 1; output = said s.name r; messages = [] }

-- what the command answers
unfoldable pub respond : Request → Response
unfolding outcome normal_by check_by same_by why_by
respond (normal s) = normal_by s (outcome s.text)
respond (check differences s) = check_by differences s (outcome s.text)
respond (same quiet s t) = same_by quiet s t (outcome s.text) (outcome t.text)
respond (why s) = why_by s (outcome s.text)

-- of two statuses the worse one counts
abbrev pub worst : ℕ → ℕ → ℕ
worst = max

-- and of several; 0 where there is none
unfoldable pub worst_of : List ℕ → ℕ
worst_of [] = 0
worst_of (s ∷ ss) = worst s (worst_of ss)
