-- What an accepted text gives: a tree that is good without its starts. And when a text is accepted.
-- Assumes nothing.
use Prim.Native.Nat.{ℕ, ◌+◌, ◌≤◌}
use mathlib.Core.Path.{◌≡◌, refl, ap, sym, ◌∙◌}
use mathlib.Core.Bool.{Bool, true, false}
use mathlib.Core.List.{List}
use lib.Dec.{ltb}
use lib.ListN.{length, drop}
use lib.Seq.{drop-drop, drop-append_seam}
use borrow.Author.Tests.{le-ltb}
use Rattle.basics.proofs.Tests.{impossible}
use Rattle.characters.specs.Utf8.{row, lead_len, char_of, first_char, on_char, check_from, check, codes_from, codes, is_scalar, encode, encode_all, width}
use Rattle.characters.specs.declared.IllFormed.{IllFormed}
use Rattle.std.specs.Prelude.{Result, Ok, Err}
use Rattle.characters.specs.Spans.{in_spans}
use Rattle.characters.specs.Alphabetic.{spans, is_alphabetic}
use Rattle.characters.specs.Classes.{white_space, is_whitespace, is_ecmascript_whitespace, is_line_terminator, is_punctuation, is_word}
use Rattle.characters.specs.Places.{decode_at, run}
use Rattle.characters.proofs.Encode.{read_back}
use Rattle.characters.proofs.Laws.{check-on}
use Rattle.characters.proofs.Chars.{Scalars, none_left, one_more}
use Rattle.lexer.specs.Tokens.{Tokens, comment, body, solid, piece, tokens_from, tokens}
use Rattle.lexer.specs.Escapes.{hex_digit, scalar, fixed, until_brace, braced, control, escape, atoms_from, decode_string}
use Rattle.lexer.specs.Sets.{range_end, written, overlaps_one, fault_from, insert, sorted}
use Rattle.tree.specs.Syntax.{GrammarDeclaration}
use Rattle.notation.specs.Parser.{Answer, read, refused}
use Rattle.notation.specs.Declarations.{parse_grammar, parse}
use Rattle.grammar.specs.Reading.{tree, stopped, reading, answered, read_checked, longest}
use Rattle.laws.proofs.Starts.{on_tokens, on_answer, bare}
use Rattle.laws.proofs.AlikeDeclarations.{grammar-parse, parse_grammar_alike}
use Rattle.laws.proofs.Fine.{U, Fine, fine-token, fine-eof, fine-bad}
use Rattle.laws.proofs.FineTokens.{tokens-fine}
use Rattle.laws.proofs.Good.{GoodGrammar}
use Rattle.laws.proofs.MeetsDeclarations.{parse-meets}

-- ------------------------------------------------------------------ UTF-8

check-from : (s : List ℕ) (at : ℕ) {cs : List ℕ} → Scalars cs → drop at s ≡ encode_all cs → check_from 0 at (drop at s) ≡ Ok tt
unfolding encode_all decode_at check_from
check-from s at none_left e = rw (e, check_from)
check-from s at (one_more {c = c} {cs = cs} h t) e =
    check-on s at (ap first_char e ∙ read_back c (encode_all cs) h)
    ∙ check-from s (at + width c) t (sym (drop-drop (width c) at s) ∙ ap (drop (width c)) e ∙ drop-append_seam (encode c) (encode_all cs))

-- what UTF-8 writes is well formed
check-all : {cs : List ℕ} → Scalars cs → check (encode_all cs) ≡ Ok tt
unfolding check
check-all {cs} s = check-from (encode_all cs) 0 s refl

-- ------------------------------------------------------------------ reading

pub reading-of : (text : List ℕ) → reading text ≡ elim (ltb longest (length text)) [ true ↦ stopped 1 0 | false ↦ read_checked text (check text) ]
unfolding
    reading row lead_len char_of first_char on_char check_from check codes_from is_scalar encode in_spans spans is_alphabetic white_space is_whitespace
    is_ecmascript_whitespace is_line_terminator is_punctuation is_word run comment body solid piece tokens_from tokens hex_digit scalar fixed
    until_brace braced control escape atoms_from decode_string range_end written overlaps_one fault_from insert sorted parse_grammar longest
reading-of text = refl

-- a text of scalar codes that is not too long is parsed
pub reading-encoded : {cs : List ℕ} → Scalars cs → codes (encode_all cs) ≡ cs → length (encode_all cs) ≤ longest → reading (encode_all cs) ≡ answered (parse_grammar (tokens cs))
reading-encoded {cs} s c l = rw (reading-of (encode_all cs), le-ltb longest (length (encode_all cs)) l, check-all s, c)

fine-on : {ts : Tokens ℕ} → Fine ts → Fine (on_tokens {T = U} (λ _. tt) ts)
unfolding on_tokens
fine-on (fine-token k t) = fine-token k (fine-on t)
fine-on fine-eof = fine-eof
fine-on fine-bad = fine-bad

-- parsing, without starts
pub parse-bare : (ts : Tokens ℕ) → parse (on_tokens (λ _. tt) ts) ≡ on_answer (λ _. tt) bare (parse_grammar ts)
parse-bare ts = sym (grammar-parse (on_tokens (λ _. tt) ts)) ∙ (parse_grammar_alike (λ _. tt)).on ts

-- a reading that is stopped gives no tree
pub not_tree : {A : Type 0} {n p : ℕ} {g : GrammarDeclaration ℕ} → stopped n p ≡ tree g → A
not_tree e = impossible (cc)

module _ (g : GrammarDeclaration ℕ) where
  good-answer : (ts : Tokens ℕ) → Fine ts → (a : Answer ℕ (GrammarDeclaration ℕ)) → parse_grammar ts ≡ a → answered a ≡ tree g → GoodGrammar (bare g)
  unfolding on_answer
  good-answer ts f (read h us) e q =
      let same-tree : h ≡ g = cc in
      let met = rw (parse-bare ts ∙ ap (on_answer (λ _. tt) bare) e) at ((parse-meets (on_tokens (λ _. tt) ts)).holds (fine-on f)) in
      rw same-tree at met.1
  good-answer ts f (refused n p) e q = not_tree q

  good-checked : (text : List ℕ) (c : Result (Unit {0}) IllFormed) → read_checked text c ≡ tree g → GoodGrammar (bare g)
  good-checked text (Ok checked) e = good-answer (tokens (codes text)) (tokens-fine text) (parse_grammar (tokens (codes text))) refl e
  good-checked text (Err d) e = not_tree e

  -- what is accepted is good
  pub accepted-good : (text : List ℕ) → reading text ≡ tree g → GoodGrammar (bare g)
  accepted-good text e = go (ltb longest (length text)) (sym (reading-of text) ∙ e)
    where
      go : (b : Bool) → elim b [ true ↦ stopped 1 0 | false ↦ read_checked text (check text) ] ≡ tree g → GoodGrammar (bare g)
      go true q = not_tree q
      go false q = good-checked text (check text) q

pub read-tree : {a b : GrammarDeclaration U} {us vs : Tokens U} → read a us ≡ read b vs → a ≡ b
read-tree e = cc

no_read : {A : Type 0} {n : ℕ} {p : U} {b : GrammarDeclaration U} {vs : Tokens U} → refused n p ≡ read b vs → A
no_read e = impossible (cc)

-- a tree that parsing gives without starts is one that it gives
pub record Given (ts : Tokens ℕ) (g : GrammarDeclaration U) : Type 0 where
  pub again : GrammarDeclaration ℕ
  pub gives : answered (parse_grammar ts) ≡ tree again
  pub same : bare again ≡ g

pub given : (ts : Tokens ℕ) (g : GrammarDeclaration U) (us : Tokens U) → parse (on_tokens (λ _. tt) ts) ≡ read g us → Given ts g
unfolding on_answer
given ts g us e = go (parse_grammar ts) refl (sym (parse-bare ts) ∙ e)
  where
    go : (a : Answer ℕ (GrammarDeclaration ℕ)) → parse_grammar ts ≡ a → on_answer (λ _. tt) bare (parse_grammar ts) ≡ read g us → Given ts g
    go (read h vs) q r = record { again = h; gives = ap answered q; same = read-tree (sym (ap (on_answer (λ _. tt) bare) q) ∙ r) }
    go (refused n p) q r = no_read (sym (ap (on_answer (λ _. tt) bare) q) ∙ r)
