-- The calls at their edges: buffers exactly full, one short, and what they hold afterwards; trees that compare, and words that are none.
-- Assumes nothing.
use Rattle.std.specs.Prelude.{ℕ, ◌≡◌, refl, true, false, List, [], ◌∷◌, ◌++◌, replicate}
use Rattle.error.specs.Lines.{Refusal}
use Rattle.grammar.specs.Calls.{ReadAnswer, stored, read, measure, NormalAnswer, written, normal, CompareAnswer, compared, compare}
use Rattle.grammar.specs.Marked.{bytes}

-- the refusal by a cause at place 0
abbrev at0 : ℕ → Refusal
at0 cause = record { cause = cause; place = 0; line = 1; column = 0 }

-- the words of `@top T{}`, 21 of them
abbrev three : List ℕ
three = 34 ∷ 7 ∷ 0 ∷ 0 ∷ 0 ∷ 0 ∷ 0 ∷ 2 ∷ 5 ∷ 0 ∷ 1 ∷ 0 ∷ 0 ∷ 1 ∷ 1 ∷ 0 ∷ 0 ∷ 0 ∷ 0 ∷ 0 ∷ 1 ∷ []

-- ------------------------------------------------------------------ read

-- lent memory past the tree is unchanged
pub past-the-tree :
    read (bytes "@top T{}") (replicate 22 9) (7 ∷ 8 ∷ []) ≡ record { answer = stored 21 1; records = three ++ (9 ∷ []); texts = 84 ∷ 8 ∷ [] }
unfolding bytes read
past-the-tree = refl

-- words and bytes just enough
pub exactly_full : read (bytes "@top T{}") (replicate 21 9) (7 ∷ []) ≡ record { answer = stored 21 1; records = three; texts = 84 ∷ [] }
unfolding bytes read
exactly_full = refl

-- a word too few, and no bytes: 22 comes before 23, and leaves all as it was
pub a-word-short : read (bytes "@top T{}") (replicate 20 9) [] ≡ record { answer = ReadAnswer.refused (at0 22); records = replicate 20 9; texts = [] }
unfolding bytes read
a-word-short = refl

-- a byte too few
pub a_byte_short : read (bytes "@top T{}") (replicate 21 9) [] ≡ record { answer = ReadAnswer.refused (at0 23); records = replicate 21 9; texts = [] }
unfolding bytes read
a_byte_short = refl

-- 3 to 21 come before 22: `@top T` and a line feed, refused behind it
pub before-room :
    read (bytes "@top T\n") [] []
    ≡ record { answer = ReadAnswer.refused (record { cause = 8; place = 7; line = 2; column = 0 }); records = []; texts = [] }
unfolding bytes read
before-room = refl

-- a text that is not UTF-8: its first ill-formed sequence, here one that the text's end cuts off
pub cut_off :
    read (10 ∷ 0xE2 ∷ 0x82 ∷ []) [] [] ≡ record { answer = ReadAnswer.refused (record { cause = 2; place = 1; line = 2; column = 0 }); records = []; texts = [] }
unfolding read
cut_off = refl

-- ------------------------------------------------------------------ measure

-- three records, and one byte
pub three_measured : measure (bytes "@top T{}") ≡ stored 21 1
unfolding bytes measure
three_measured = refl

-- refused as `read` refuses
pub none_measured : measure (bytes "\n@top") ≡ ReadAnswer.refused (record { cause = 9; place = 5; line = 2; column = 4 })
unfolding bytes measure
none_measured = refl

-- ------------------------------------------------------------------ normal text

-- an output just long enough
pub text-exactly-full :
    normal (bytes "@top T{}") (replicate 21 9) (7 ∷ []) (replicate 11 5)
    ≡ record { answer = written 11; records = three; texts = 84 ∷ []; output = bytes "@top T { }\n" }
unfolding bytes normal
text-exactly-full = refl

-- records and texts hold the tree, the output is as it was
pub output-short :
    normal (bytes "@top T{}") (replicate 21 9) (7 ∷ []) (replicate 10 5)
    ≡ record { answer = NormalAnswer.refused (at0 24); records = three; texts = 84 ∷ []; output = replicate 10 5 }
unfolding bytes normal
output-short = refl

-- ------------------------------------------------------------------ compare

-- the words of the expression `_`
abbrev any : List ℕ
any = 39 ∷ 0 ∷ 0 ∷ 0 ∷ 0 ∷ 0 ∷ 0 ∷ []

-- an inline rule `n` with one prop `p`, over `_`; `at` is the prop's value
abbrev inline : ℕ → List ℕ
inline at = (5 ∷ 3 ∷ 0 ∷ 1 ∷ at ∷ 0 ∷ 0 ∷ []) ++ any ++ (32 ∷ 1 ∷ 1 ∷ 1 ∷ 0 ∷ 0 ∷ 2 ∷ [])

-- a prop's `@` is ignored
pub at_ignored : compare (inline 0) (112 ∷ 110 ∷ []) (inline 1) (112 ∷ 110 ∷ []) ≡ compared true
unfolding compare
at_ignored = refl

-- texts compare by their bytes, and bytes after the last text do not count
pub names-differ : compare (inline 0) (112 ∷ 110 ∷ []) (inline 0) (112 ∷ 111 ∷ 0 ∷ []) ≡ compared false
unfolding compare
names-differ = refl

-- an explicitly empty sequence differs from an empty one
pub empties_differ : compare (34 ∷ 0 ∷ 0 ∷ 0 ∷ 1 ∷ 0 ∷ 0 ∷ []) [] (34 ∷ 0 ∷ 0 ∷ 0 ∷ 0 ∷ 0 ∷ 0 ∷ []) [] ≡ compared false
unfolding compare
empties_differ = refl

-- what is no tree of an expression. A repeat of nothing
pub no_operand : compare (35 ∷ 0 ∷ 0 ∷ 0 ∷ 0 ∷ 0 ∷ 0 ∷ []) [] any [] ≡ CompareAnswer.refused (at0 25)
unfolding compare
no_operand = refl

-- a prop at the root
pub prop-at_root : compare any [] (5 ∷ 0 ∷ 0 ∷ 0 ∷ 0 ∷ 0 ∷ 0 ∷ []) [] ≡ CompareAnswer.refused (at0 25)
unfolding compare
prop-at_root = refl

-- no records
pub no_records : compare [] [] any [] ≡ CompareAnswer.refused (at0 25)
unfolding compare
no_records = refl

-- six words
pub six_words : compare any [] (39 ∷ 0 ∷ 0 ∷ 0 ∷ 0 ∷ 0 ∷ []) [] ≡ CompareAnswer.refused (at0 25)
unfolding compare
six_words = refl

-- a text past the texts
pub text_outside : compare (36 ∷ 0 ∷ 0 ∷ 2 ∷ 0 ∷ 0 ∷ 0 ∷ []) (97 ∷ []) any [] ≡ CompareAnswer.refused (at0 25)
unfolding compare
text_outside = refl
