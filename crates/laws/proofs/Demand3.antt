-- Demand 3, proved.
-- Assumes nothing.
use Prim.Native.Nat.{◌≤◌}
use native.Mathlib.Omega.{arith}
use mathlib.Core.Path.{◌≡◌, refl, ap, sym, ◌∙◌}
use mathlib.Core.Bool.{true}
use mathlib.Core.List.{List, [], ◌∷◌}
use lib.ListN.{length}
use Rattle.basics.specs.Basics.{same}
use Rattle.basics.proofs.Tests.{both_true, clash}
use Rattle.characters.specs.Utf8.{codes, encode_all}
use Rattle.characters.proofs.Chars.{codes_all}
use Rattle.lexer.specs.Tokens.{tokens}
use Rattle.basics.proofs.Same.{same_true}
use Rattle.tree.specs.Records.{Record, words, records, texts}
use Rattle.tree.specs.Syntax.{GrammarDeclaration}
use Rattle.tree.specs.Stored.{grammar_branch}
use Rattle.tree.specs.Equality.{agreeing, all_agreeing}
use Rattle.tree.proofs.Standing.{words-of, texts-of}
use Rattle.notation.specs.Parser.{read}
use Rattle.notation.specs.Declarations.{parse}
use Rattle.spelling.specs.NormalText.{lines, lines_text, normal_text}
use Rattle.grammar.specs.Reading.{reading, longest}
use Rattle.laws.proofs.Starts.{on_tokens, bare}
use Rattle.laws.specs.Demand3.{NormalTextsAreAccepted, EqualWhenTreesAgree, AgreeingTreesTakeTheSameRoom}
use Rattle.laws.proofs.Fine.{U}
use Rattle.laws.proofs.Good.{GoodGrammar}
use Rattle.laws.proofs.ReadBack.{laid}
use Rattle.laws.proofs.ReadBackGrammar.{parse-reads}
use Rattle.laws.proofs.Agreement.{agree-records, agree-bare, bare-agree}
use Rattle.laws.proofs.SameTokens.{text_of, text_same}
use Rattle.laws.proofs.TextBack.{text-scalars, text-tokens}
use Rattle.laws.proofs.Accepted.{reading-encoded, accepted-good, given, read-tree}

-- ------------------------------------------------------------------ 1: normal texts are accepted

-- parsing the tokens of a good grammar's text
parse-text : (g : GrammarDeclaration U) → GoodGrammar g → parse (on_tokens (λ _. tt) (tokens (lines_text (lines g)))) ≡ read g (laid [])
parse-text g h = ap parse (text-tokens g h) ∙ (parse-reads g h).gives

pub normal-texts-are-accepted : NormalTextsAreAccepted
normal-texts-are-accepted text g e l =
    let b = bare g in
    let h = accepted-good g text e in
    let s = text-scalars b h in
    let r = given (tokens (lines_text (lines b))) b (laid []) (parse-text b h) in
    let t : normal_text g ≡ encode_all (lines_text (lines b)) = sym (text_same (λ _. tt) g) ∙ text_of b in
    let fits : length (encode_all (lines_text (lines b))) ≤ longest = rw t at l in
    record {
      again = r.again;
      accepted = ap reading t ∙ reading-encoded s (codes_all s) fits ∙ r.gives;
      agrees = bare-agree g r.again (sym r.same);
      itself = sym (text_same (λ _. tt) r.again) ∙ ap normal_text r.same ∙ text_same (λ _. tt) g;
    }

-- ------------------------------------------------------------------ 2: equal exactly when trees agree

-- good grammars with equal texts are equal
text-known : (g h : GrammarDeclaration U) → GoodGrammar g → GoodGrammar h → normal_text g ≡ normal_text h → g ≡ h
text-known g h a b e =
    let cs : lines_text (lines g) ≡ lines_text (lines h) = sym (codes_all (text-scalars g a)) ∙ ap codes (sym (text_of g) ∙ e ∙ text_of h) ∙ codes_all (text-scalars h b) in
    read-tree (sym (parse-text g a) ∙ ap (λ l. parse (on_tokens (λ _. tt) (tokens l))) cs ∙ parse-text h b)

pub equal_when_trees_agree : EqualWhenTreesAgree
equal_when_trees_agree s t g h p q =
    let a = accepted-good g s p in
    let b = accepted-good h t q in (
      λ e. bare-agree g h (text-known (bare g) (bare h) a b (text_same (λ _. tt) g ∙ e ∙ sym (text_same (λ _. tt) h))),
      λ e. sym (text_same (λ _. tt) g) ∙ ap normal_text (agree-bare g h a b e) ∙ text_same (λ _. tt) h,
    )

-- ------------------------------------------------------------------ 3: the same room

words_long : (rs qs : List Record) → all_agreeing rs qs ≡ true → length (words rs) ≡ length (words qs)
unfolding all_agreeing words
words_long [] [] e = refl
words_long [] (q ∷ qs) e = clash _ e refl
words_long (r ∷ rs) [] e = clash _ e refl
words_long (r ∷ rs) (q ∷ qs) e = let t = words_long rs qs (both_true (agreeing r q) (all_agreeing rs qs) e).1 in omega arith

pub agreeing_trees_take-the-same-room : AgreeingTreesTakeTheSameRoom
agreeing_trees_take-the-same-room g h e =
    let t = both_true (all_agreeing (records (grammar_branch g)) (records (grammar_branch h))) (same (texts (grammar_branch g)) (texts (grammar_branch h))) (sym (agree-records g h) ∙ e) in (
      ap length (words-of g) ∙ words_long (records (grammar_branch g)) (records (grammar_branch h)) t.0 ∙ ap length (sym (words-of h)),
      ap length (texts-of g ∙ same_true (texts (grammar_branch g)) (texts (grammar_branch h)) t.1 ∙ sym (texts-of h)),
    )
