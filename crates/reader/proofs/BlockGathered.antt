-- A block in braces: what was read behind the brace, where nothing is lent and where the groups are stored.
-- Assumes nothing.
use Prim.Native.Nat.{ℕ, ◌+◌, ◌-◌}
use native.Mathlib.Omega.{arith}
use mathlib.Core.Path.{◌≡◌, refl, ◌∙◌}
use mathlib.Core.Bool.{Bool, true, false, ◌&&◌}
use lib.Dec.{eqb, eqb→eq}
use mathlib.Core.List.{List, [], ◌∷◌}
use lib.ListN.{length}
use Rattle.lexer.specs.Tokens.{Tokens}
use Rattle.characters.specs.Promise.{written}
use Rattle.characters.proofs.Written.{length-written}
use Rattle.tree.specs.Records.{Node, texts_of}
use Rattle.std.specs.Prelude.{Result, Ok, Err}
use Rattle.error.specs.declared.Stop.{Stop}
use Rattle.notation.specs.Parser.{Answer, read, refused, and_then, ◌>>=◌, expect}
use Rattle.notation.specs.Declarations.{block}
use Rattle.tokens.specs.Promise.{stream, LiesIn, Expects}
use Rattle.parser.specs.Storing.{Lent, lent, Stores}
use Rattle.parser.specs.Steps.{Onward, Lays, between_by}
use Rattle.lexer.specs.declared.Token.{Token}
use Rattle.parser.proofs.Onward.{expect-onward, onward_then}
use Rattle.parser.proofs.Lists.{lays-between}
use Rattle.reader.specs.Groups.{groups_of, GathersTo}
use Rattle.reader.specs.Blocks.{MemberOf, member_of, members_of, comma_of, kind_of, branches_of, kinds_of}
use Rattle.reader.specs.declared.blocks.Block.{Block}

-- ------------------------------------------------------------------ nothing is lent

pub is_zero : (n : ℕ) → eqb n 0 ≡ true → n ≡ 0
is_zero n e = eqb→eq n 0 (rw e tt)

pub both-none : (v w : List ℕ) → length v ≡ 0 → length w ≡ 0 → v ≡ w
both-none [] [] h k = refl
both-none [] (x ∷ w) h k = absurd (omega arith)
both-none (x ∷ v) w h k = absurd (omega arith)

-- nodes of the same sizes are stored alike
pub stores-sizes : {xs ys : List Node} {n x m y : ℕ} {ws₀ ts₀ ws₁ ts₁ ws ts vs us : List ℕ} → Stores xs (lent n ws₀ x ts₀) (lent m ws₁ y ts₁) → length xs ≡ length ys → length (texts_of xs) ≡ length (texts_of ys)
    → length ws ≡ 0 → length ts ≡ 0 → length vs ≡ 0 → length us ≡ 0 → Stores ys (lent n ws x ts) (lent m vs y us)
stores-sizes {ws = ws} {ts} {vs} {us} st p q a b c d =
    let e = st.words-end in
    let f = st.texts-end in
    record {
      words-end = omega arith;
      texts-end = omega arith;
      same-words = omega arith;
      same-texts = omega arith;
      records = λ h. both-none vs (written ws _ _) c (length-written _ _ _ ∙ a);
      bytes = λ h. both-none us (written ts _ _) d (length-written _ _ _ ∙ b);
    }

-- what is stored takes as much where nothing is lent, behind whatever is taken
pub stores-again : {xs : List Node} {m y : ℕ} (n x : ℕ) → Stores xs (lent 0 [] 0 []) (lent m [] y []) → Stores xs (lent n [] x []) (lent (n + m) [] (x + y) [])
stores-again n x st =
    let a = st.words-end in
    let b = st.texts-end in
    record {
      words-end = omega arith;
      texts-end = omega arith;
      same-words = refl;
      same-texts = refl;
      records = λ h. both-none [] (written [] n _) refl (length-written [] n _);
      bytes = λ h. both-none [] (written [] x _) refl (length-written [] x _);
    }

-- and before it
pub lays-alone : {s : List ℕ} {t u : Token} {xs : List Node} {n x m y : ℕ} {ws ts vs us : List ℕ} → Lays s t u 0 xs (lent n ws x ts) (lent m vs y us) → Lays s t u 0 xs (lent 0 [] 0 []) (lent (m - n) [] (y - x) [])
lays-alone l =
    let a = l.stores.words-end in
    let b = l.stores.texts-end in
    record {
      stores =
          record {
            words-end = omega arith;
            texts-end = omega arith;
            same-words = refl;
            same-texts = refl;
            records = λ h. both-none [] (written [] 0 _) refl (length-written [] 0 _);
            bytes = λ h. both-none [] (written [] 0 _) refl (length-written [] 0 _);
          };
      bound = l.bound;
      space = l.space;
    }

-- ------------------------------------------------------------------ behind the brace

module _ (b : Block) (ts : Tokens ℕ) {us : Tokens ℕ} (e : expect "{" ts ≡ read tt us) where
  pub block-members : block (between_by (comma_of b)) (member_of b) ts ≡ members_of b us
  unfolding ◌>>=◌ and_then
  block-members = rw e

module _ (b : Block) (s : List ℕ) (t u : Token) (l : LiesIn s 0 t) (h : Expects s t 0x7B (Ok u)) where
  abbrev block_of : Answer ℕ (List (MemberOf b))
  block_of = block (between_by (comma_of b)) (member_of b) (stream s t)

  pub brace-onward : Onward s t u 1
  brace-onward = expect-onward s "{" t (omega arith) l h

  pub block_halted : {c p : ℕ} → members_of b (stream s u) ≡ refused c p → block_of ≡ refused c p
  block_halted e = block-members b (stream s t) (h.expects "{" refl) ∙ e

  -- what was stored behind the brace
  pub block-gathered : (a c : Lent) (k : Result (Token × ℕ) Stop)
      → GathersTo (members_of b (stream s u)) (groups_of (kind_of b) (branches_of b) (kinds_of b)) s u 1 a c k
      → GathersTo block_of (groups_of (kind_of b) (branches_of b) (kinds_of b)) s t 2 a c k
  block-gathered a c (Ok (v, count)) g =
      let o = brace-onward in
      let z = o.ahead in
      record {
        members = g.members;
        gives = block-members b (stream s t) (h.expects "{" refl) ∙ g.gives;
        counted = g.counted;
        onward = onward_then o g.onward;
        lays = lays-between 0 g.lays (omega arith) (omega arith) (omega arith);
      }
  block-gathered a c (Err e) g = block_halted g

-- a store over nothing has no words and no bytes
pub lent-nothing : (n m : ℕ) → eqb n 0 && eqb m 0 ≡ true → (n ≡ 0) × (m ≡ 0)
lent-nothing n m e = go (eqb n 0) (eqb m 0) refl refl e
  where
    go : (a b : Bool) → eqb n 0 ≡ a → eqb m 0 ≡ b → a && b ≡ true → (n ≡ 0) × (m ≡ 0)
    go true true p q r = (is_zero n p, is_zero m q)
    go true false p q r = absurd (let z : ◌≡◌ {A = ℕ} 0 1 = cc in omega arith)
    go false b p q r = absurd (let z : ◌≡◌ {A = ℕ} 0 1 = cc in omega arith)
