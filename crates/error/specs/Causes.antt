-- The causes of a refusal by their numbers, a name for each. What each means is said where it is raised.
-- Assumes nothing.
use Rattle.std.specs.Prelude.{ℕ}

-- text over 65,535 bytes
abbrev pub too_long : ℕ
too_long = 1

-- not UTF-8
abbrev pub not_utf8 : ℕ
not_utf8 = 2

-- level 65, or a 65th stacked repeat
abbrev pub too_deep : ℕ
too_deep = 3

-- unexpected character, unclosed `/*`
abbrev pub unexpected_character : ℕ
unexpected_character = 4

-- unterminated string
abbrev pub unterminated_string : ℕ
unterminated_string = 5

-- `@` without name
abbrev pub at_without_name : ℕ
at_without_name = 6

-- unterminated set
abbrev pub unterminated_set : ℕ
unterminated_set = 7

-- unexpected token
abbrev pub unexpected_token : ℕ
unexpected_token = 8

-- `@top` without name at top level
abbrev pub top_without_name : ℕ
top_without_name = 9

-- second `@tokens`
abbrev pub second_tokens : ℕ
second_tokens = 10

-- second `@precedence`
abbrev pub second_precedence : ℕ
second_precedence = 11

-- second `@context`
abbrev pub second_context : ℕ
second_context = 12

-- second main `@skip`
abbrev pub second_skip : ℕ
second_skip = 13

-- no `@top` anywhere
abbrev pub no_top : ℕ
no_top = 14

-- inline rule with parameters
abbrev pub inline_parameters : ℕ
inline_parameters = 15

-- specialize or extend: one part, no literal
abbrev pub one_part : ℕ
one_part = 16

-- choice arm empty or only markers
abbrev pub empty_arm : ℕ
empty_arm = 17

-- token precedence: not name or literal
abbrev pub bad_precedence : ℕ
bad_precedence = 18

-- token conflict: not name or literal
abbrev pub bad_conflict : ℕ
bad_conflict = 19

-- reversed span
abbrev pub reversed_span : ℕ
reversed_span = 20

-- overlapping span
abbrev pub overlapping_span : ℕ
overlapping_span = 21

-- records need more words than lent
abbrev pub records_full : ℕ
records_full = 22

-- texts need more bytes than lent
abbrev pub texts_full : ℕ
texts_full = 23

-- normal text over 65,535 or over the lent output
abbrev pub output_full : ℕ
output_full = 24

-- either compared tree isn't one tree, or its root is no expression
abbrev pub not_a_tree : ℕ
not_a_tree = 25
