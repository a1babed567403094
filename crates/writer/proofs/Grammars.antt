-- The records of a stored grammar, as the walk over them wants them.
-- Assumes nothing.
use Prim.Native.Nat.{ℕ, ◌+◌, ◌-◌, ◌<◌, ◌^◌}
use native.Mathlib.Omega.{arith}
use mathlib.Core.Path.{◌≡◌, ap, sym, ◌∙◌}
use mathlib.Core.List.{List, [], ◌∷◌, ◌++◌}
use lib.ListN.{length}
use Rattle.tree.specs.Records.{Row, Branch, branch, count, Node, nodes, nodes_all}
use Rattle.tree.specs.Stored.{grammar_branch}
use Rattle.tree.specs.Promise.{count_of, word_at, All}
use Rattle.tree.proofs.Back.{all_left, root_at, past_root, nodes-some}
use Rattle.tree.proofs.Standing.{stands, stand_all, all-inside, words-of, texts-of}
use Rattle.spelling.specs.NormalText.{normal_text}
use Rattle.writer.specs.Promise.{Lent, row_at, Run, Stored}
use Rattle.writer.specs.Walk.{last_at, last_class, branches_text, closing}
use Rattle.writer.proofs.Runs.{last_of, recount}
use Rattle.writer.proofs.Kinded.{grammar-kinded, kind-at}
use Rattle.writer.proofs.WalkedGrammar.{grammar_walked, tree_text}

-- a tree whose last record is i: its children, and its text
pub record Rooted (ws ts : List ℕ) (i : ℕ) (t : List ℕ) : Type 0 where
  pub kids : Run ws ts (word_at ws i 6) i
  pub says : branches_text (row_at ws ts i) 0 kids.branches ++ closing (word_at ws i 4) (last_at ws i) ≡ t

rooted-of : (ws ts : List ℕ) (b : Branch) (i : ℕ) → All ws ts 0 (nodes b) → length (nodes b) ≡ i + 1 → Rooted ws ts i (tree_text b)
unfolding nodes tree_text
rooted-of ws ts (branch r bs) i a e =
    let x : Node = record { row = r; children = count bs } in
    let t = root_at ws ts 0 r bs a in
    let q : 0 + length (nodes_all bs) ≡ i = omega (arith, past_root ws ts 0 r bs) in
    let c : count bs ≡ word_at ws i 6 = sym (ap (λ (y : Node). y.children) t.is) ∙ ap (λ (j : ℕ). word_at ws j 6) q in
    let w : r ≡ row_at ws ts i = sym (ap (λ (y : Node). y.row) t.is) ∙ ap (row_at ws ts) q in
    let k : All ws ts 0 (nodes_all bs) = all_left ws ts 0 (nodes_all bs) (x ∷ []) a in
    record {
      kids = record { lo = 0; branches = bs; all = k; counted = c; ends = q };
      says = ap (λ (l : ℕ). branches_text (row_at ws ts i) 0 bs ++ closing (word_at ws i 4) l) (sym (last_of ws ts bs i 0 (sym c) q k)) ∙ ap (λ (y : Row). branches_text y 0 bs ++ closing y.value (last_class 0 bs)) (sym w);
    }

module _ {ws ts : List ℕ} (s : Stored ws ts) where
  all : All ws ts 0 (nodes (grammar_branch s.grammar))
  all = rw (s.words ∙ words-of s.grammar, s.texts, texts-of s.grammar) (stands (grammar_branch s.grammar) s.more)

  all_of : count_of ws ≡ length (nodes (grammar_branch s.grammar))
  all_of = rw (s.words ∙ words-of s.grammar) (stand_all (grammar_branch s.grammar) s.more)

  pub some-records : 0 < count_of ws
  some-records = omega (arith, all_of, nodes-some (grammar_branch s.grammar))

  pub rooted : Rooted ws ts (count_of ws - 1) (normal_text s.grammar)
  rooted = rw (← grammar_walked s.grammar) (rooted-of ws ts (grammar_branch s.grammar) (count_of ws - 1) all (omega (arith, all_of, some-records)))

  pub lent : ((i : ℕ) → word_at ws i 3 < 2 ^ 32) → Lent ws ts
  lent h = record {
    few = s.few;
    sizes = h;
    inside = λ i k. all-inside ws ts (nodes (grammar_branch s.grammar)) 0 i all (omega arith) (omega (arith, all_of));
    kinds = λ i k. kind-at ws ts (grammar_branch s.grammar) i (grammar-kinded s.grammar) all (omega (arith, all_of));
  }

-- the same, with the number of records and that of the root's children under names
module _ {ws ts : List ℕ} {n k : ℕ} (e : n ≡ count_of ws) (c : k ≡ word_at ws (n - 1) 6) (s : Stored ws ts) where
  by_count : Rooted ws ts (n - 1) (normal_text s.grammar)
  by_count = rw e (rooted s)

  pub root_run : Run ws ts k (n - 1)
  root_run = recount c by_count.kids

  pub root_says : normal_text s.grammar ≡ branches_text (row_at ws ts (n - 1)) 0 root_run.branches ++ closing (word_at ws (n - 1) 4) (last_at ws (n - 1))
  unfolding root_run
  root_says = sym by_count.says
