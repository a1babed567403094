-- What the values of the code stand for.
-- Assumes nothing.
use Rattle.std.specs.Prelude.{ℕ}
use Rattle.error.specs.Causes as Causes
use Rattle.error.specs.Lines.{Refusal}
use Rattle.error.specs.declared.Cause.{Cause}
use Rattle.error.specs.declared.Cause.TheVariants.{TooLong, NotUtf8, TooDeep, UnexpectedCharacter, UnterminatedString, AtWithoutName, UnterminatedSet, UnexpectedToken, TopWithoutName, SecondTokens, SecondPrecedence, SecondContext, SecondSkip, NoTop, InlineParameters, OnePart, EmptyArm, BadPrecedence, BadConflict, ReversedSpan, OverlappingSpan, RecordsFull, TextsFull, OutputFull, NotATree}
use Rattle.error.specs.declared.Refusal as declared

-- the number of a cause
abbrev pub cause_number : Cause → ℕ
cause_number TooLong = Causes.too_long
cause_number NotUtf8 = Causes.not_utf8
cause_number TooDeep = Causes.too_deep
cause_number UnexpectedCharacter = Causes.unexpected_character
cause_number UnterminatedString = Causes.unterminated_string
cause_number AtWithoutName = Causes.at_without_name
cause_number UnterminatedSet = Causes.unterminated_set
cause_number UnexpectedToken = Causes.unexpected_token
cause_number TopWithoutName = Causes.top_without_name
cause_number SecondTokens = Causes.second_tokens
cause_number SecondPrecedence = Causes.second_precedence
cause_number SecondContext = Causes.second_context
cause_number SecondSkip = Causes.second_skip
cause_number NoTop = Causes.no_top
cause_number InlineParameters = Causes.inline_parameters
cause_number OnePart = Causes.one_part
cause_number EmptyArm = Causes.empty_arm
cause_number BadPrecedence = Causes.bad_precedence
cause_number BadConflict = Causes.bad_conflict
cause_number ReversedSpan = Causes.reversed_span
cause_number OverlappingSpan = Causes.overlapping_span
cause_number RecordsFull = Causes.records_full
cause_number TextsFull = Causes.texts_full
cause_number OutputFull = Causes.output_full
cause_number NotATree = Causes.not_a_tree

-- a refusal of the code as one of the definition
abbrev pub refusal_of : declared.Refusal → Refusal
refusal_of r = record { cause = cause_number r.cause; place = r.place; line = r.line; column = r.column }
