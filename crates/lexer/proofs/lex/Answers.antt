-- `lexer::lex` meets its contract. Assumes nothing.
use native.Mathlib.Omega.{arith}
use mathlib.Core.Path.{refl, sym, ◌∙◌}
use Rattle.characters.proofs.Chars.{next_of}
use Rattle.lexer.proofs.Pieces.{reads, reads_1, reads_end, at_one, set-ascii, peek_set, solid_quote, solid-at, solid-set, solid-mark, solid-word, solid-none, mark_lexes, word_lexes, nothing_lexes}
use Rattle.characters.proofs.Laws.{scalar_fits}
use Rattle.std.proofs.lemmas.Bool.Decides.{nat_tests}
use Rattle.lexer.proofs.lex.Goals as goal

pub returns-in_default : goal.returns-in_default
returns-in_default c = reads_end _ _ (sym c.decode.ensures ∙ c.in_default.is)

pub lex_string-requires : goal.lex_string-requires
lex_string-requires c = let h = c.in-34.is in next_of _ _ (sym c.decode.ensures ∙ c.in-Some.is) (omega arith)

pub lex_at-requires : goal.lex_at-requires
lex_at-requires c = let f = scalar_fits _ _ (sym c.decode.ensures ∙ c.in-Some.is) in omega arith

pub overflow_add-start : goal.overflow_add-start
overflow_add-start c = let f = scalar_fits _ _ (sym c.decode.ensures ∙ c.in-Some.is) in omega arith

pub lex_set-requires : goal.lex_set-requires
lex_set-requires c = let d = sym c.decode.ensures ∙ c.in-Some.is in
    let f = scalar_fits _ _ d in
    let k = at_one _ _ d _ (set-ascii _ _ _ (sym c.opens_set.ensures ∙ c.if-opens_set.true)) refl in
    (omega arith, rw k at (peek_set _ _ _ (sym c.opens_set.ensures ∙ c.if-opens_set.true)))

pub overflow_add-result : goal.overflow_add-result
overflow_add-result c = let f = scalar_fits _ _ (sym c.decode.ensures ∙ c.in-Some.is) in omega arith

pub overflow_add-start-in_default-3 : goal.overflow_add-start-in_default-3
overflow_add-start-in_default-3 c = let f = scalar_fits _ _ (sym c.decode.ensures ∙ c.in-Some.is) in omega arith

pub returns-in-34 : goal.returns-in-34
returns-in-34 c = let d = sym c.decode.ensures ∙ c.in-Some.is in let h = c.in-34.is in
    reads_1 _ _ d _ (omega arith) refl c.requires (solid_quote _ _ (grind (arith, nat_tests))) c.lex_string.ensures

pub returns-in-64 : goal.returns-in-64
returns-in-64 c = let d = sym c.decode.ensures ∙ c.in-Some.is in
    reads_1 _ _ d 0x40 (omega arith) c.in-64.is c.requires (solid-at _) c.lex_at.ensures

pub returns-in_default-c : goal.returns-in_default-c
returns-in_default-c c = let d = sym c.decode.ensures ∙ c.in-Some.is in
    let h = c.in_default-c.in_default-c-own.rest in
    let k = at_one _ _ d _ (set-ascii _ _ _ (sym c.opens_set.ensures ∙ c.if-opens_set.true)) refl in
    reads_1 _ _ d _ (set-ascii _ _ _ (sym c.opens_set.ensures ∙ c.if-opens_set.true)) refl c.requires (solid-set _ _ _ h.0.1 h.1 (rw k at (sym c.opens_set.ensures ∙ c.if-opens_set.true))) c.lex_set.ensures

pub returns-in_default-2 : goal.returns-in_default-2
returns-in_default-2 c = let d = sym c.decode.ensures ∙ c.in-Some.is in
    let h = c.in_default-c.in_default-c-own.rest in
    reads _ _ d c.requires (solid-mark _ _ _ h.0.1 h.1 (sym c.opens_set.ensures ∙ c.if-opens_set.false) (sym c.is_punctuation.ensures ∙ c.if-is_punctuation.true)) (mark_lexes _ _ d)

pub returns-in_default-3 : goal.returns-in_default-3
returns-in_default-3 c = let d = sym c.decode.ensures ∙ c.in-Some.is in
    let h = c.in_default-c.in_default-c-own.rest in
    reads _ _ d c.requires (solid-word _ _ _ h.0.1 h.1 (sym c.opens_set.ensures ∙ c.if-opens_set.false) (sym c.is_punctuation.ensures ∙ c.if-is_punctuation.false) (sym c.is_word.ensures ∙ c.if-is_word.true)) (word_lexes _ _ d _ c.scan_word-end.ensures)

pub returns-in_default-4 : goal.returns-in_default-4
returns-in_default-4 c = let d = sym c.decode.ensures ∙ c.in-Some.is in
    let h = c.in_default-c.in_default-c-own.rest in
    reads _ _ d c.requires (solid-none _ _ _ h.0.1 h.1 (sym c.opens_set.ensures ∙ c.if-opens_set.false) (sym c.is_punctuation.ensures ∙ c.if-is_punctuation.false) (sym c.is_word.ensures ∙ c.if-is_word.false)) (nothing_lexes _ _ d)
