-- Blocks of references and of precedences: what their definitions give, and what is then stored.
-- Assumes nothing.
use Prim.Native.Nat.{ℕ, ◌+◌, ◌≤◌, ◌<◌, ◌^◌}
use Prim.Native.String.{String as Quoted}
use native.Mathlib.Omega.{arith}
use mathlib.Core.Path.{◌≡◌, refl, ap, ◌∙◌}
use mathlib.Core.Bool.{true, false}
use mathlib.Core.List.{List, [], ◌∷◌, ◌++◌, append-nil, map}
use mathlib.Core.Option as M
use mathlib.Core.Option.{none, some}
use Rattle.std.specs.Prelude.{Some, Result, Ok, Err}
use lib.ListN.{length}
use Rattle.basics.specs.Basics.{letters}
use Rattle.error.specs.Causes.{bad_precedence, bad_conflict}
use Rattle.error.specs.Promise.{cause_number}
use Rattle.error.specs.declared.Stop.{Stop}
use Rattle.lexer.specs.declared.Part.{Part}
use Rattle.characters.specs.Places.{cut}
use Rattle.characters.specs.Utf8.{encode_all}
use Rattle.lexer.specs.Promise.{part_of, is_plain}
use Rattle.lexer.specs.Tokens.{Tokens}
use Rattle.tree.specs.Records.{Branch, Node, nodes}
use Rattle.tree.specs.Stored.{each, full, plain, reference_branch, token_prec_branch, token_conflict_branch, prec_item_branch, prec_value, declaration_branch}
use Rattle.tree.specs.Syntax.{Identifier, TokenReference, TokenPrecDeclaration, TokenConflictDeclaration, PrecKind, PrecItem, PrecDeclaration}
use Rattle.notation.specs.Parser.{Answer, read, refused, Parser, and_then, ◌>>=◌, pure, refuse, choose, here, kind, next, eat, eat_if, eat_at, expect, until, comma_or_not, parse_identifier}
use Rattle.notation.specs.Declarations.{parse_token_reference, parse_token_precedence, parse_token_conflict, parse_prec_kind, parse_prec_item, parse_precedence}
use Rattle.tokens.specs.Promise.{stream, start_in, end_in, LiesIn, EatsAt, Expects, Identifies}
use Rattle.std.specs.Borrow.{Bor, MutBor}
use Rattle.parser.specs.Storing.{Lent, lent_of, Kept, Stores, node, flat, nodes_of}
use Rattle.parser.specs.declared.store.Store.{Store}
use Rattle.parser.specs.Steps.{Onward, Ready, Parses, Gives, Lists, ParsesList, Separates}
use Rattle.parser.specs.Lists.{stored_all, as_read}
use Rattle.parser.proofs.ByNodes.{all-stored, flat_map, length_map, each as each_by}
use Rattle.declarations.specs.Blocks.{Few, block_of, block_nodes}
use Rattle.parser.specs.Shapes.{IsToken}
use Rattle.lexer.specs.declared.Token.{Token}
use Rattle.lexer.specs.declared.Token.TheVariants.{Of, Eof}
use Rattle.tokens.proofs.Stream.{start-of, at-of}
use Rattle.parser.proofs.Onward.{if_true, onward_then, onward-least, next-onward, expect-onward}
use Rattle.parser.proofs.Lists.{flat-none, flat-more, lays-then, lays-between}
use Rattle.parser.proofs.Ready.{ready_step, ready_on, put-plain_asks, lists-small, name-got, lays-leaf, lays_parent, nodes-leaf, nodes-over}
use Rattle.declarations.specs.Promise.{conflict_pair, PrecGot, precedence_branch}

-- ------------------------------------------------------------------ a keyword, and a list in braces

module _ {A : Type 0} (list : Parser ℕ (List A)) (ts : Tokens ℕ) where
  block_halt : {c p : ℕ} → next ts ≡ refused c p → block_of list ts ≡ refused c p
  unfolding block_of ◌>>=◌ and_then
  block_halt e = rw e

  module _ {us : Tokens ℕ} (e : next ts ≡ read tt us) where
    block_unopened : {c p : ℕ} → expect "{" us ≡ refused c p → block_of list ts ≡ refused c p
    unfolding block_of ◌>>=◌ and_then
    block_unopened g = rw (e, and_then, g)

    block_opened : {vs : Tokens ℕ} → expect "{" us ≡ read tt vs → block_of list ts ≡ list vs
    unfolding block_of ◌>>=◌ and_then
    block_opened g = rw (e, and_then, g)

module _ (list : Parser ℕ (List (List Node))) (s : List ℕ) (t : Token) where
  pub next-refused : {c p : ℕ} → next (stream s t) ≡ refused c p → block_of list (stream s t) ≡ refused c p
  next-refused k = block_halt list (stream s t) k

  module _ {u : Token} (h : (next (stream s t) ≡ read tt (stream s u)) × LiesIn s (end_in t) u) where
    pub brace-refused : {e : Stop} → Expects s u 0x7B (Err e) → block_of list (stream s t) ≡ refused (cause_number e.cause) e.place
    brace-refused o = block_unopened list (stream s t) h.0 (o.expects "{" refl)

    module _ {v : Token} (o : Expects s u 0x7B (Ok v)) where
      block-is : block_of list (stream s t) ≡ list (stream s v)
      block-is = block_opened list (stream s t) h.0 (o.expects "{" refl)

      pub list_halt : {c p : ℕ} → list (stream s v) ≡ refused c p → block_of list (stream s t) ≡ refused c p
      list_halt g = block-is ∙ g

      pub list_onward : IsToken t → LiesIn s 0 t → Onward s t v 2
      list_onward i l = let w = next-onward s t i l h in onward_then w (expect-onward s "{" u (omega arith) w.lies o)

      -- what storing its node asks
      pub block_asks : {i count p : ℕ} {w : Token} {l m : Lent} (y : Ready s t l) → IsToken t → Lists (list (stream s v)) as_read s v i l w m count → count ≤ 0x400000 → p ≡ start_in t
          → (m.n + 7 < 2 ^ 64) × (p < 2 ^ 32) × (count < 2 ^ 32)
      block_asks y k ls c j = put-plain_asks y (ready_on (ready_step y (list_onward k y.lies)) ls.onward ls.lays) j (omega arith)

      pub block-given : IsToken t → LiesIn s 0 t → (k : ℕ) {w : Token} {y count p : ℕ} {a m n : Lent} → Lists (list (stream s v)) as_read s v y a w m count → p ≡ start_in t
          → Stores (node k p [] 0 0 count ∷ []) m n → Gives (block_of list (stream s t)) (block_nodes k (start_in t)) s t a w n
      unfolding block_nodes
      block-given i l k ls j st =
          let o₂ = list_onward i l in
          let o₁ = o₂.ahead in
          record {
            value = ls.items;
            gives = block-is ∙ ls.gives;
            onward = onward-least 1 (onward_then o₂ ls.onward) (omega arith);
            lays = rw (ls.counted, ← j) (lays_parent ls.lays st (onward-least 1 o₂ (omega arith)) (omega arith) (omega arith));
          }

-- what is made of the list
abbrev pub block_by : {A B : Type 0} → Parser ℕ (List A) → (List A → Parser ℕ B) → Parser ℕ B
block_by list f = next >>= λ _. (expect "{" >>= λ _. list) >>= f

-- what the definition D answers at the token t is such a block
pub record Blocked {A B : Type 0} (D : Answer ℕ B) (list : Parser ℕ (List A)) (f : List A → Parser ℕ B) (s : List ℕ) (t : Token) : Type 0 where
  pub is : D ≡ block_by list f (stream s t)

-- what is made of a list, and its nodes, of a kind and a start behind those of the items
pub record Made {A B : Type 0} (f : List A → Parser ℕ B) (g : A → Branch) (d : B → Branch) (k p : ℕ) (xs : List A) : Type 0 where
  pub value : B
  pub made : (ts : Tokens ℕ) → f xs ts ≡ read value ts
  pub same : nodes (d value) ≡ flat (nodes_of g) xs ++ node k p [] 0 0 (length xs) ∷ []

module _ {A B : Type 0} (g : A → Branch) (d : B → Branch) (k : ℕ) (list : Parser ℕ (List A)) (f : List A → Parser ℕ B) (s : List ℕ) (t : Token) where
  by-of : (ts : Tokens ℕ) → block_by list f ts ≡ and_then (block_of list ts) f
  unfolding block_of ◌>>=◌ and_then
  by-of ts = go (next ts)
    where
      go : (x : Answer ℕ (Unit {0})) → and_then x (λ _. (expect "{" >>= λ _. list) >>= f) ≡ and_then (and_then x (λ _. expect "{" >>= λ _. list)) f
      go (read y us) = refl
      go (refused c p) = refl

  of-stored : (ts : Tokens ℕ) → block_of (stored_all (nodes_of g) list) ts ≡ each_by (nodes_of g) (block_of list ts)
  unfolding block_of stored_all ◌>>=◌ and_then
  of-stored ts = go (next ts)
    where
      opened : (x : Answer ℕ (Unit {0})) → and_then x (λ _. list >>= λ xs. pure (map (nodes_of g) xs)) ≡ each_by (nodes_of g) (and_then x (λ _. list))
      opened (read y us) = refl
      opened (refused c p) = refl

      go : (x : Answer ℕ (Unit {0})) → and_then x (λ _. expect "{" >>= λ _. stored_all (nodes_of g) list) ≡ each_by (nodes_of g) (and_then x (λ _. expect "{" >>= λ _. list))
      go (read y us) = opened (expect "{" us)
      go (refused c p) = refl

  nodes-stored : (p : ℕ) (xs : List A) → block_nodes k p (map (nodes_of g) xs) ≡ flat (nodes_of g) xs ++ node k p [] 0 0 (length xs) ∷ []
  unfolding block_nodes
  nodes-stored p xs = rw (flat_map (nodes_of g) xs, length_map (nodes_of g) xs)

  -- from a block of nodes to what the definition makes of the list
  pub block_back : {D : Answer ℕ B} (a b : Lent) (r : Result Token Stop) → Blocked D list f s t → ((xs : List A) (us : Tokens ℕ) → block_of list (stream s t) ≡ read xs us → Made f g d k (start_in t) xs)
      → Parses (block_of (stored_all (nodes_of g) list) (stream s t)) (block_nodes k (start_in t)) s t a b r → Parses D (nodes_of d) s t a b r
  unfolding and_then pure
  block_back {D} a b r i makes h = go (block_of list (stream s t)) refl r (rw (of-stored (stream s t)) at h)
    where
      go : (x : Answer ℕ (List A)) → block_of list (stream s t) ≡ x → (r : Result Token Stop) → Parses (each_by (nodes_of g) x) (block_nodes k (start_in t)) s t a b r → Parses D (nodes_of d) s t a b r
      go (read xs us) e (Ok u) h =
          let m = makes xs us e in
          let q : map (nodes_of g) xs ≡ h.value = (let w = h.gives in cc) in
          let z : us ≡ stream s u = (let w = h.gives in cc) in
          let y : and_then (block_of list (stream s t)) f ≡ read m.value us = rw (e, and_then) (m.made us) in
          record {
            value = m.value;
            gives = i.is ∙ by-of (stream s t) ∙ y ∙ ap (λ (w : Tokens ℕ). read m.value w) z;
            onward = h.onward;
            lays = rw (m.same, ← nodes-stored (start_in t) xs, q) h.lays;
          }
      go (refused c p) e (Ok u) h = absurd (let w = h.gives in cc)
      go (read xs us) e (Err z) h = absurd (cc)
      go (refused c p) e (Err z) h = i.is ∙ by-of (stream s t) ∙ rw e (cc)

-- the count of a list is small
pub few-items : {A : Type 0} (g : A → Branch) (D : Answer ℕ (List A)) (s : List ℕ) (t : Token) (i : ℕ) (a b : Lent) (r : Result (Token × ℕ) Stop) → length s ≤ 0x200000
    → ParsesList D (nodes_of g) s t i a b r → Few r
few-items g D s t i a b (Ok (u, count)) h l = lists-small g l h
few-items g D s t i a b (Err e) h l = tt

-- what a call says of the list p, at a text that is this one
pub few-stored : {A : Type 0} (g : A → Branch) (i : ℕ) (p : Parser ℕ (List A)) (s : List ℕ) (b : Bor (List ℕ)) (t : Token) (m n : MutBor Store) (r : Result (Token × ℕ) Stop)
    → b.now ≡ s → Ready s t (lent_of m.now) → Kept m.now n.now → ParsesList (p (stream b.now t)) (nodes_of g) b.now t i (lent_of m.now) (lent_of n.now) r
    → Kept m.now n.now × ParsesList (stored_all (nodes_of g) p (stream s t)) as_read s t 0 (lent_of m.now) (lent_of n.now) r × Few r
few-stored g i p s b t m n r e y k h =
    let f = few-items g (p (stream s t)) s t i (lent_of m.now) (lent_of n.now) r y.small (rw e at h) in
    let x = all-stored (nodes_of g) i p s b t m n r e k h in
    (x.0, x.1, f)

-- ------------------------------------------------------------------ token precedences, and precedences

abbrev pub references : Parser ℕ (List (TokenReference ℕ))
references = until (eat "}") comma_or_not (λ _. parse_token_reference bad_precedence)

abbrev pub prec_items : Parser ℕ (List (PrecItem ℕ))
prec_items = until (eat "}") comma_or_not (λ _. parse_prec_item)

abbrev pub token_prec_by : (p : ℕ) → List (TokenReference ℕ) → TokenPrecDeclaration ℕ
token_prec_by p rs = record { start = p; items = rs }

abbrev pub prec_by : (p : ℕ) → List (PrecItem ℕ) → PrecDeclaration ℕ
prec_by p is = record { start = p; items = is }

module _ (s : List ℕ) (t : Token) where
  pub token-precedence : Blocked (parse_token_precedence (stream s t)) references (λ rs. pure (token_prec_by (start_in t) rs)) s t
  unfolding parse_token_precedence here ◌>>=◌ and_then
  token-precedence = record { is = rw (parse_token_precedence, start-of s t) }

  pub precedence-block : Blocked (parse_precedence (stream s t)) prec_items (λ is. pure (prec_by (start_in t) is)) s t
  unfolding parse_precedence here ◌>>=◌ and_then
  precedence-block = record { is = rw (parse_precedence, start-of s t) }

module _ (p : ℕ) where
  pub token-prec-made : (rs : List (TokenReference ℕ)) → Made (λ xs. pure (token_prec_by p xs)) reference_branch token_prec_branch 9 p rs
  unfolding encode_all pure
  token-prec-made rs = record { value = token_prec_by p rs; made = λ ts. refl; same = nodes-over reference_branch (plain 9 p) rs }

  pub prec-made : (is : List (PrecItem ℕ)) → Made (λ xs. pure (prec_by p xs)) prec_item_branch precedence_branch 20 p is
  unfolding encode_all declaration_branch pure
  prec-made is = record { value = prec_by p is; made = λ ts. refl; same = nodes-over prec_item_branch (plain 20 p) is }

-- ------------------------------------------------------------------ conflicts

abbrev Reference : Type 0
Reference = TokenReference ℕ

abbrev reference : Parser ℕ Reference
reference = parse_token_reference bad_conflict

abbrev pub conflict_by : (p : ℕ) → (a b : Reference) → TokenConflictDeclaration ℕ
conflict_by p a b = record { start = p; left = a; right = b }

-- of two; there are always two
abbrev pub pair_by : (p : ℕ) → List Reference → Parser ℕ (TokenConflictDeclaration ℕ)
pair_by p (a ∷ b ∷ []) = pure (conflict_by p a b)
pair_by p [] = refuse 0 p
pair_by p (a ∷ []) = refuse 0 p
pair_by p (a ∷ b ∷ c ∷ xs) = refuse 0 p

module _ (p : ℕ) where
  closed : (a b : Reference) (x : Answer ℕ (Unit {0})) → and_then x (λ _. pure (conflict_by p a b)) ≡ and_then (and_then x (λ _. pure (a ∷ b ∷ []))) (pair_by p)
  unfolding and_then pure
  closed a b (read y us) = refl
  closed a b (refused c q) = refl

  second : (a : Reference) (x : Answer ℕ Reference)
      → and_then x (λ b. expect "}" >>= λ _. pure (conflict_by p a b)) ≡ and_then (and_then x (λ b. expect "}" >>= λ _. pure (a ∷ b ∷ []))) (pair_by p)
  unfolding and_then ◌>>=◌
  second a (read b us) = closed a b (expect "}" us)
  second a (refused c q) = refl

  parted : (a : Reference) (x : Answer ℕ (Unit {0}))
      → and_then x (λ _. reference >>= λ b. expect "}" >>= λ _. pure (conflict_by p a b)) ≡ and_then (and_then x (λ _. reference >>= λ b. expect "}" >>= λ _. pure (a ∷ b ∷ []))) (pair_by p)
  unfolding and_then ◌>>=◌
  parted a (read y us) = second a (reference us)
  parted a (refused c q) = refl

  first : (x : Answer ℕ Reference)
      → and_then x (λ a. comma_or_not >>= λ _. reference >>= λ b. expect "}" >>= λ _. pure (conflict_by p a b))
      ≡ and_then (and_then x (λ a. comma_or_not >>= λ _. reference >>= λ b. expect "}" >>= λ _. pure (a ∷ b ∷ []))) (pair_by p)
  unfolding and_then ◌>>=◌
  first (read a us) = parted a (comma_or_not us)
  first (refused c q) = refl

  braced : (x : Answer ℕ (Unit {0}))
      → and_then x (λ _. reference >>= λ a. comma_or_not >>= λ _. reference >>= λ b. expect "}" >>= λ _. pure (conflict_by p a b)) ≡ and_then (and_then x (λ _. conflict_pair)) (pair_by p)
  unfolding and_then ◌>>=◌ conflict_pair
  braced (read y us) = first (reference us)
  braced (refused c q) = refl

  begun : (x : Answer ℕ (Unit {0}))
      → and_then x (λ _. expect "{" >>= λ _. reference >>= λ a. comma_or_not >>= λ _. reference >>= λ b. expect "}" >>= λ _. pure (conflict_by p a b))
      ≡ and_then x (λ _. (expect "{" >>= λ _. conflict_pair) >>= pair_by p)
  unfolding and_then ◌>>=◌
  begun (read y us) = braced (expect "{" us)
  begun (refused c q) = refl

pub conflict-block : (s : List ℕ) (t : Token) → Blocked (parse_token_conflict (stream s t)) conflict_pair (pair_by (start_in t)) s t
unfolding parse_token_conflict here ◌>>=◌ and_then
conflict-block s t = record { is = rw (parse_token_conflict, start-of s t) (begun (start_in t) (next (stream s t))) }

pub record Two (xs : List Reference) : Type 0 where
  pub left : Reference
  pub right : Reference
  pub are : xs ≡ left ∷ right ∷ []

abbrev TwoIn : Answer ℕ (List Reference) → Type 0
TwoIn (read xs us) = Two xs
TwoIn (refused c p) = Unit {0}

two-closed : (a b : Reference) (x : Answer ℕ (Unit {0})) → TwoIn (and_then x (λ _. pure (a ∷ b ∷ [])))
unfolding and_then pure
two-closed a b (read y us) = record { left = a; right = b; are = refl }
two-closed a b (refused c q) = tt

two-second : (a : Reference) (x : Answer ℕ Reference) → TwoIn (and_then x (λ b. expect "}" >>= λ _. pure (a ∷ b ∷ [])))
unfolding and_then ◌>>=◌
two-second a (read b us) = two-closed a b (expect "}" us)
two-second a (refused c q) = tt

two-parted : (a : Reference) (x : Answer ℕ (Unit {0})) → TwoIn (and_then x (λ _. reference >>= λ b. expect "}" >>= λ _. pure (a ∷ b ∷ [])))
unfolding and_then ◌>>=◌
two-parted a (read y us) = two-second a (reference us)
two-parted a (refused c q) = tt

two-first : (x : Answer ℕ Reference) → TwoIn (and_then x (λ a. comma_or_not >>= λ _. reference >>= λ b. expect "}" >>= λ _. pure (a ∷ b ∷ [])))
unfolding and_then ◌>>=◌
two-first (read a us) = two-parted a (comma_or_not us)
two-first (refused c q) = tt

-- behind a keyword and a brace too
block_two : (ts : Tokens ℕ) {us : Tokens ℕ} {xs : List Reference} → block_of conflict_pair ts ≡ read xs us → Two xs
unfolding block_of conflict_pair ◌>>=◌ and_then
block_two ts e = rw e at two
  where
    opened : (x : Answer ℕ (Unit {0})) → TwoIn (and_then x (λ _. conflict_pair))
    opened (read y us) = two-first (reference us)
    opened (refused c p) = tt

    begin : (x : Answer ℕ (Unit {0})) → TwoIn (and_then x (λ _. expect "{" >>= λ _. conflict_pair))
    begin (read y us) = opened (expect "{" us)
    begin (refused c p) = tt

    two : TwoIn (block_of conflict_pair ts)
    two = begin (next ts)

conflict-nodes : (p : ℕ) (a b : Reference) {xs : List Reference} → xs ≡ a ∷ b ∷ []
    → nodes (token_conflict_branch (conflict_by p a b)) ≡ flat (nodes_of reference_branch) xs ++ node 10 p [] 0 0 (length xs) ∷ []
unfolding encode_all each
conflict-nodes p a b e = rw e (nodes-over reference_branch (plain 10 p) (a ∷ b ∷ []))

conflict-pair : (p : ℕ) (a b : Reference) {xs : List Reference} (ts : Tokens ℕ) → xs ≡ a ∷ b ∷ [] → pair_by p xs ts ≡ read (conflict_by p a b) ts
unfolding pure
conflict-pair p a b ts e = rw e

pub conflict-made : (p : ℕ) (xs : List Reference) (ts us : Tokens ℕ) → block_of conflict_pair ts ≡ read xs us → Made (pair_by p) reference_branch token_conflict_branch 10 p xs
unfolding pure
conflict-made p xs ts us e =
    let two = block_two ts e in
    record {
      value = conflict_by p two.left two.right;
      made = λ ws. conflict-pair p two.left two.right ws two.are;
      same = conflict-nodes p two.left two.right two.are;
    }

-- ------------------------------------------------------------------ two references

module _ (ts : Tokens ℕ) where
  pub pair_halt : {c p : ℕ} → reference ts ≡ refused c p → conflict_pair ts ≡ refused c p
  unfolding conflict_pair ◌>>=◌ and_then
  pair_halt e = rw (conflict_pair, e)

  module _ {a : Reference} {us : Tokens ℕ} (e : reference ts ≡ read a us) where
    pub pair_comma : {c p : ℕ} → comma_or_not us ≡ refused c p → conflict_pair ts ≡ refused c p
    unfolding conflict_pair ◌>>=◌ and_then
    pair_comma f = rw (conflict_pair, e, and_then, f)

    module _ {vs : Tokens ℕ} (f : comma_or_not us ≡ read tt vs) where
      pub pair_second : {c p : ℕ} → reference vs ≡ refused c p → conflict_pair ts ≡ refused c p
      unfolding conflict_pair ◌>>=◌ and_then
      pair_second g = rw (conflict_pair, e, and_then, f, g)

      module _ {b : Reference} {ws : Tokens ℕ} (g : reference vs ≡ read b ws) where
        pub pair_unclosed : {c p : ℕ} → expect "}" ws ≡ refused c p → conflict_pair ts ≡ refused c p
        unfolding conflict_pair ◌>>=◌ and_then
        pair_unclosed h = rw (conflict_pair, e, and_then, f, g, h)

        pub pair_read : {xs : Tokens ℕ} → expect "}" ws ≡ read tt xs → conflict_pair ts ≡ read (a ∷ b ∷ []) xs
        unfolding conflict_pair ◌>>=◌ and_then pure
        pair_read h = rw (conflict_pair, e, and_then, f, g, h)

module _ (s : List ℕ) {t u v : Token} {a b : Lent} (f : Gives (reference (stream s t)) (nodes_of reference_branch) s t a u b) (e : Separates s u comma_or_not 0 (Ok v)) where
  pub comma-onward : Onward s u v 0
  comma-onward = e.on

  -- both are stored, and the brace behind them
  pub pair_given : {w z : Token} {c : Lent} → Gives (reference (stream s v)) (nodes_of reference_branch) s v b w c → Expects s w 0x7D (Ok z)
      → Lists (conflict_pair (stream s t)) (nodes_of reference_branch) s t 2 a z c 2
  pair_given {w} {z} g h =
      let o₁ = comma-onward.ahead in
      let o = expect-onward s "}" w (omega arith) g.onward.lies h in
      let o₂ = o.ahead in
      record {
        items = f.value ∷ g.value ∷ [];
        gives = pair_read (stream s t) f.gives e.takes g.gives (h.expects "}" refl);
        counted = refl;
        onward = onward-least 2 (onward_then f.onward (onward_then comma-onward (onward_then g.onward o))) (omega arith);
        lays = rw (flat-more (nodes_of reference_branch) f.value (g.value ∷ []), flat-more (nodes_of reference_branch) g.value [], flat-none (nodes_of reference_branch), append-nil)
            (lays-then f.lays (lays-between 0 g.lays (omega arith) (omega arith) (omega arith)));
      }

-- ------------------------------------------------------------------ `@` and a word

module _ (s : List ℕ) (w : Quoted) where
  word-token : (t : Token) {us : Tokens ℕ} → eat_at w (stream s t) ≡ read true us → IsToken t
  unfolding eat_at eat_if kind ◌>>=◌ and_then pure
  word-token (Of k start end) e = tt
  word-token (Eof p) {us} e = let h = rw (at-of s (Eof p)) at e in absurd (let z : ◌≡◌ {A = ℕ} 0 1 = cc in omega arith)

  word_next : (t : Token) {us : Tokens ℕ} → eat_at w (stream s t) ≡ read true us → next (stream s t) ≡ read tt us
  unfolding eat_at kind ◌>>=◌ and_then
  word_next t {us} e = (if_true _ (stream s t) us e).1

  pub word_yes : (t : Token) {u : Token} → is_plain (letters w) ≡ true → LiesIn s 0 t → EatsAt s t (letters w) (Ok (Some u)) → (eat_at w (stream s t) ≡ read true (stream s u)) × Onward s t u 0
  word_yes t p l k =
      let e = k.eats w refl p in
      (e, onward-least 0 (next-onward s t (word-token t e) l (word_next t e, k.lies)) (omega arith))

-- ------------------------------------------------------------------ the kind of a precedence

module _ (ts : Tokens ℕ) where
  pub left_not : {c p : ℕ} → eat_at "left" ts ≡ refused c p → parse_prec_kind ts ≡ refused c p
  unfolding parse_prec_kind ◌>>=◌ and_then
  left_not e = rw (parse_prec_kind, e)

  pub left_yes : {us : Tokens ℕ} → eat_at "left" ts ≡ read true us → parse_prec_kind ts ≡ read (some PrecKind.left) us
  unfolding parse_prec_kind ◌>>=◌ and_then choose pure
  left_yes e = rw (parse_prec_kind, e)

  module _ (l : eat_at "left" ts ≡ read false ts) where
    pub right_not : {c p : ℕ} → eat_at "right" ts ≡ refused c p → parse_prec_kind ts ≡ refused c p
    unfolding parse_prec_kind ◌>>=◌ and_then choose
    right_not e = rw (parse_prec_kind, l, and_then, e)

    pub right_yes : {us : Tokens ℕ} → eat_at "right" ts ≡ read true us → parse_prec_kind ts ≡ read (some PrecKind.right) us
    unfolding parse_prec_kind ◌>>=◌ and_then choose pure
    right_yes e = rw (parse_prec_kind, l, and_then, e)

    module _ (r : eat_at "right" ts ≡ read false ts) where
      pub cut_not : {c p : ℕ} → eat_at "cut" ts ≡ refused c p → parse_prec_kind ts ≡ refused c p
      unfolding parse_prec_kind ◌>>=◌ and_then choose
      cut_not e = rw (parse_prec_kind, l, and_then, r, e)

      pub cut_yes : {us : Tokens ℕ} → eat_at "cut" ts ≡ read true us → parse_prec_kind ts ≡ read (some PrecKind.cut) us
      unfolding parse_prec_kind ◌>>=◌ and_then choose pure
      cut_yes e = rw (parse_prec_kind, l, and_then, r, e)

      pub kind-none : eat_at "cut" ts ≡ read false ts → parse_prec_kind ts ≡ read none ts
      unfolding parse_prec_kind ◌>>=◌ and_then choose pure
      kind-none e = rw (parse_prec_kind, l, and_then, r, e)

module _ {s : List ℕ} {t u : Token} {k : M.Option PrecKind} where
  pub prec_got : parse_prec_kind (stream s t) ≡ read k (stream s u) → Onward s t u 0 → PrecGot s t k u
  prec_got e o = record { gives = e; onward = o }

-- ------------------------------------------------------------------ an item

module _ (ts : Tokens ℕ) where
  pub item-nameless : {c p : ℕ} → parse_identifier ts ≡ refused c p → parse_prec_item ts ≡ refused c p
  unfolding parse_prec_item ◌>>=◌ and_then
  item-nameless e = rw (parse_prec_item, e)

  module _ {n : Identifier ℕ} {us : Tokens ℕ} (e : parse_identifier ts ≡ read n us) where
    pub item_kindless : {c p : ℕ} → parse_prec_kind us ≡ refused c p → parse_prec_item ts ≡ refused c p
    unfolding parse_prec_item ◌>>=◌ and_then
    item_kindless f = rw (parse_prec_item, e, and_then, f)

    pub item-read : {k : M.Option PrecKind} {vs : Tokens ℕ} → parse_prec_kind us ≡ read k vs → parse_prec_item ts ≡ read (record { id = n; kind = k }) vs
    unfolding parse_prec_item ◌>>=◌ and_then pure
    item-read f = rw (parse_prec_item, e, and_then, f)

pub item-given : (s : List ℕ) (t : Token) {u v : Token} {a : Part} {p m : ℕ} {k : M.Option PrecKind} {b c : Lent} → LiesIn s 0 t → Identifies s t (Ok (a, u))
    → PrecGot s u k v → p ≡ start_in t → m ≡ prec_value k → Stores (node 21 p (cut s a.from a.to) m 0 0 ∷ []) b c → Gives (parse_prec_item (stream s t)) (nodes_of prec_item_branch) s t b v c
item-given s t {a = a} {k = k} l i g d j st =
    let m = name-got s l i in
    let o = onward_then m.1.onward g.onward in
    let o₁ = g.onward.ahead in
    let o₂ = m.1.past in
    record {
      value = record { id = record { start = start_in t; name = part_of s a }; kind = k };
      gives = item-read (stream s t) i.takes g.gives;
      onward = o;
      lays = rw (nodes-leaf (full 21 (start_in t) (part_of s a) (prec_value k)), m.0.part.bytes, ← d, ← j) (lays-leaf st o (omega arith));
    }
