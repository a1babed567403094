-- Normal texts that are read and written again: a table, and one theorem that each comes out as it went in. Each line holds what a writer might get wrong.
-- Assumes nothing.
use Rattle.std.specs.Prelude.{ℕ, ◌≡◌, refl, true, false, List, [], ◌∷◌}
use Prim.Native.String.{String}
use Rattle.basics.specs.Basics.{letters, same}
use Rattle.characters.specs.Utf8.{is_scalar, encode, encode_all}
use Rattle.characters.specs.Spans.{in_spans}
use Rattle.characters.specs.Alphabetic.{spans, is_alphabetic}
use Rattle.characters.specs.Classes.{white_space, is_whitespace, is_ecmascript_whitespace, is_line_terminator, is_punctuation, is_word}
use Rattle.characters.specs.Places.{run}
use Rattle.lexer.specs.Tokens.{comment, body, solid, piece, tokens_from, tokens}
use Rattle.lexer.specs.Escapes.{hex_digit, scalar, fixed, until_brace, braced, control, escape, atoms_from, decode_string}
use Rattle.lexer.specs.Sets.{range_end, written, overlaps_one, fault_from, insert, sorted}
use Rattle.tree.specs.Syntax.{GrammarDeclaration}
use Rattle.notation.specs.Parser.{Answer, read, refused}
use Rattle.notation.specs.Declarations.{parse_grammar}
use Rattle.spelling.specs.NormalText.{normal_text}

-- the normal text of what was read
abbrev text_of : Answer ℕ (GrammarDeclaration ℕ) → List ℕ
text_of (read g ts) = normal_text g
text_of (refused n p) = []

-- read and written again
unfoldable pub again : String → List ℕ
unfolding
    is_scalar in_spans spans is_alphabetic white_space is_whitespace is_ecmascript_whitespace is_line_terminator is_punctuation is_word run comment
    body solid piece tokens_from tokens hex_digit scalar fixed until_brace braced control escape atoms_from decode_string range_end written
    overlaps_one fault_from insert sorted parse_grammar normal_text
again s = text_of (parse_grammar (tokens (letters s)))

-- the texts that come out otherwise
unfoldable pub changed : List String → List String
unfolding same encode encode_all again
changed [] = []
changed (s ∷ ss) = elim (same (again s) (encode_all (letters s))) [ true ↦ changed ss | false ↦ s ∷ changed ss ]

-- normal texts
abbrev pub table : List String
table =
    -- brackets: a choice in a sequence, a sequence under a repeat, a choice in a choice
    "@top T { a ( b | c ) }\n"
    ∷ "@top T { ( a b ) + }\n"
    ∷ "@top T { a | ( b | c ) }\n"
    -- more than one declaration, in the order of the records
    ∷ "@top T { a }\na { b }\n@skip { c }\n@dialects { d }\n@detectDelim\n"
    ∷ "@top T { t }\n@tokens { t { u } \"v\" }\n"
    -- two empty arguments are not one, and not none
    ∷ "@top T { a < , > }\n"
    -- a quote and a backslash in a string
    ∷ "@top T { \"\\\"\\\\\" }\n"
    -- spans of one code, and of more
    ∷ "@top T { t }\n@tokens { t { $[\\u{41}\\u{61}-\\u{7A}] } }\n"
    ∷ []

-- each comes out as it went in
pub none-changed : changed table ≡ []
unfolding changed
none-changed = refl
