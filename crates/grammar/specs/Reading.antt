-- The grammar of a text, or what stops its reading: 1 and 2 first, then 3 to 21 in reading order.
-- Assumes nothing.
use Rattle.std.specs.Prelude.{ℕ, true, false, List, Result, Ok, Err, ltb, length}
use Rattle.error.specs.Causes.{too_long, not_utf8}
use Rattle.characters.specs.declared.IllFormed.{IllFormed}
use Rattle.characters.specs.Utf8.{row, lead_len, char_of, first_char, on_char, check_from, check, codes_from, codes, is_scalar, encode}
use Rattle.characters.specs.Spans.{in_spans}
use Rattle.characters.specs.Alphabetic.{spans, is_alphabetic}
use Rattle.characters.specs.Classes.{white_space, is_whitespace, is_ecmascript_whitespace, is_line_terminator, is_punctuation, is_word}
use Rattle.characters.specs.Places.{run}
use Rattle.lexer.specs.Tokens.{comment, body, solid, piece, tokens_from, tokens}
use Rattle.lexer.specs.Escapes.{hex_digit, scalar, fixed, until_brace, braced, control, escape, atoms_from, decode_string}
use Rattle.lexer.specs.Sets.{range_end, written, overlaps_one, fault_from, insert, sorted}
use Rattle.tree.specs.Syntax.{GrammarDeclaration}
use Rattle.notation.specs.Parser.{Answer, read, refused}
use Rattle.notation.specs.Declarations.{parse_grammar}

-- the most bytes that a text, or a normal text, may have
unfoldable pub longest : ℕ
longest = 65535

-- the tree, or cause and place
pub data Reading : Type 0 where
  tree : GrammarDeclaration ℕ → Reading
  stopped : (cause place : ℕ) → Reading

-- what the parser gave, as a reading
abbrev pub answered : Answer ℕ (GrammarDeclaration ℕ) → Reading
answered (read g ts) = tree g
answered (refused n p) = stopped n p

-- of bytes that are checked
abbrev pub read_checked : List ℕ → Result (Unit {0}) IllFormed → Reading
read_checked text (Ok checked) = answered (parse_grammar (tokens (codes text)))
read_checked text (Err e) = stopped not_utf8 e.at

-- the whole of reading: a text that is too long, then one that is not UTF-8, then 3 to 21
unfoldable pub reading : List ℕ → Reading
unfolding
    row lead_len char_of first_char on_char check_from check codes_from is_scalar encode in_spans spans is_alphabetic white_space is_whitespace
    is_ecmascript_whitespace is_line_terminator is_punctuation is_word run comment body solid piece tokens_from tokens hex_digit scalar fixed
    until_brace braced control escape atoms_from decode_string range_end written overlaps_one fault_from insert sorted parse_grammar longest
reading text = elim (ltb longest (length text)) [ true ↦ stopped too_long 0 | false ↦ read_checked text (check text) ]
