-- The records of a tree, whether it fits or not, stand in its words, and their texts in its texts.
-- Assumes nothing.
use Prim.Native.Nat.{ℕ, suc, ◌+◌, ◌*◌, ◌≤◌, ◌<◌}
use native.Mathlib.Omega.{arith}
use mathlib.Core.Path.{◌≡◌, refl, subst}
use mathlib.Core.List.{List, [], ◌∷◌, ◌++◌, append_assoc}
use native.Mathlib.Decide.{dec_lt}
use lib.ListN.{length, get_or, length-append}
use lib.Seq.{get_or-append-add}
use Rattle.tree.specs.Records.{Branch, Node, nodes, width, words_of, place_of, record_of, records_from, words, texts_of, records, texts}
use Rattle.tree.specs.Syntax.{GrammarDeclaration}
use Rattle.tree.specs.Stored.{grammar_branch, grammar_records, grammar_texts, grammar_words}
use Rattle.tree.specs.Promise.{count_of, word_at, At, All}
use Rattle.tree.proofs.Encoded.{Lies, lies-length, lies-after, lies-part, cut-text}

-- behind lo records, the word k
past : (vs us : List ℕ) (lo k : ℕ) → length vs ≡ lo * width → word_at (vs ++ us) lo k ≡ get_or us k 0
past vs us lo k h = rw (← h) (get_or-append-add vs us k 0)

placed : (ts : List ℕ) (at : ℕ) (t u : List ℕ) → Lies ts at t u → place_of at (length t) + length t ≤ length ts
placed ts at [] u l = omega arith
placed ts at (c ∷ t) u l = lies-length ts at (c ∷ t) u l

one_at : (vs us ts : List ℕ) (lo at : ℕ) (x : Node) (u : List ℕ) → length vs ≡ lo * width → Lies ts at x.row.text u → At (vs ++ (words_of (record_of at x) ++ us)) ts lo x
one_at vs us ts lo at x u h l =
    let w : List ℕ = words_of (record_of at x) ++ us in
    let t = past vs w lo in
    record {
      is = rw (t 0 h, t 1 h, t 2 h, t 3 h, t 4 h, t 5 h, t 6 h, cut-text ts at x.row.text u l);
      inside = rw (t 2 h, t 3 h) (placed ts at x.row.text u l);
    }

-- nodes whose words follow those of lo records, and whose texts follow a place
all-at : (xs : List Node) (vs ts : List ℕ) (lo at : ℕ) (u : List ℕ) → length vs ≡ lo * width → Lies ts at (texts_of xs) u → All (vs ++ words (records_from at xs)) ts lo xs
unfolding All words records_from texts_of
all-at [] vs ts lo at u h l = tt
all-at (x ∷ xs) vs ts lo at u h l =
    let r : List ℕ = words_of (record_of at x) in
    let us : List ℕ = words (records_from (at + length x.row.text) xs) in
    let p = lies-part ts at x.row.text (texts_of xs) u l in
    let n : length (vs ++ r) ≡ suc lo * width = omega (arith, length-append vs r) in (
      one_at vs us ts lo at x (texts_of xs ++ u) h p,
      subst (λ ws. All ws ts (suc lo) xs) (append_assoc vs r us) (all-at xs (vs ++ r) ts (suc lo) (at + length x.row.text) u n (lies-after ts at x.row.text (texts_of xs) u p)),
    )

length-words : (at : ℕ) (xs : List Node) → length (words (records_from at xs)) ≡ length xs * width
unfolding words records_from
length-words at [] = refl
length-words at (x ∷ xs) = omega (arith, length-words (at + length x.row.text) xs)

module _ (b : Branch) (more : List ℕ) where
  -- the nodes of a tree stand in its words and texts
  pub stands : All (words (records b)) (texts b ++ more) 0 (nodes b)
  unfolding records texts
  stands = all-at (nodes b) [] (texts_of (nodes b) ++ more) 0 0 more refl (record { low = omega arith; is = refl })

  -- and there are no others
  pub stand_all : count_of (words (records b)) ≡ length (nodes b)
  unfolding records
  stand_all = omega (arith, length-words 0 (nodes b))

-- the words and texts of a grammar are those of its tree
pub words-of : (g : GrammarDeclaration ℕ) → grammar_words g ≡ words (records (grammar_branch g))
unfolding grammar_words grammar_records
words-of g = refl

pub texts-of : (g : GrammarDeclaration ℕ) → grammar_texts g ≡ texts (grammar_branch g)
unfolding grammar_texts
texts-of g = refl

-- all texts lie in the texts
pub all-inside : (ws ts : List ℕ) (xs : List Node) (lo i : ℕ) → All ws ts lo xs → lo ≤ i → i < lo + length xs → word_at ws i 2 + word_at ws i 3 ≤ length ts
unfolding All
all-inside ws ts [] lo i a h g = absurd (omega arith)
all-inside ws ts (x ∷ xs) lo i (a, b) h g = elim (dec_lt lo i) [ yes k ↦ all-inside ws ts xs (suc lo) i b (omega arith) (omega arith) | no k ↦ (let e : lo ≡ i = omega arith in rw (← e) a.inside) ]
