-- Members of a block put together from what was read of them.
-- Assumes nothing.
use Prim.Native.Nat.{ℕ}
use Prim.Native.String.{String as Quoted}
use native.Mathlib.Omega.{arith}
use mathlib.Core.Path.{◌≡◌, refl, sym, ◌∙◌}
use mathlib.Core.Bool.{Bool, true, false}
use mathlib.Core.List.{List, [], ◌∷◌, ◌++◌, append-nil}
use lib.ListN.{length}
use Rattle.basics.proofs.Lists.{front-none}
use Rattle.basics.specs.Basics.{letters, is_empty, picked}
use Rattle.std.specs.Prelude.{Option, Some, None, Ok, Err}
use Rattle.error.specs.Promise.{cause_number}
use Rattle.error.specs.declared.Stop.{Stop}
use Rattle.lexer.specs.Tokens.{Tokens}
use Rattle.lexer.specs.Promise.{part_of, is_plain}
use Rattle.lexer.specs.Escapes.{decode_string}
use Rattle.tree.specs.Records.{Branch, Node, nodes}
use Rattle.tree.specs.Stored.{name_branch}
use Rattle.tree.specs.Syntax.{Identifier}
use Rattle.notation.specs.Parser.{Answer, read, refused, and_then, ◌>>=◌, pure, choose, kind_of as kind_at, kind, at_in, says, eat_at}
use Rattle.notation.specs.Members.{TokenMember, LocalMember, SkipMember, ExternalMember, local_fallback}
use Rattle.notation.specs.Declarations.{parse_rule, names, parse_token_precedence, parse_token_conflict, parse_literal, parse_named_node, token_member_by, parse_token_member, parse_local_member, parse_external_member, parse_skip_member}
use Rattle.tokens.specs.Promise.{stream, at_of, string_of, Says, EatsAt}
use Rattle.parser.specs.Storing.{Lent, Stores, flat, nodes_of}
use Rattle.parser.specs.Steps.{Onward, Gives, Lists}
use Rattle.parser.specs.Shapes.{IsToken}
use Rattle.lexer.specs.declared.Token.{Token}
use Rattle.lexer.specs.declared.Token.TheVariants.{Of, Eof}
use Rattle.lexer.specs.declared.Part.{Part}
use Rattle.tokens.proofs.Stream.{at-of, string-of}
use Rattle.parser.proofs.Onward.{onward_then, onward-least}
use Rattle.parser.proofs.Lists.{flat-none, flat-more, lays-between}
use Rattle.reader.specs.Blocks.{MemberOf, member_of, kind_of, branches_of, name_branches, Free, Joins}
use Rattle.reader.specs.declared.blocks.Block.{Block}
use Rattle.reader.specs.declared.blocks.Block.TheVariants as B
use Rattle.reader.specs.declared.blocks.Block.TheVariants.{ExternalTokens}

-- ------------------------------------------------------------------ nodes of branches

-- of one branch
pub flat-one : (b : Branch) → flat nodes (b ∷ []) ≡ nodes b
flat-one b = flat-more nodes b [] ∙ rw (flat-none nodes, append-nil)

-- of a branch for each name
module _ (k : ℕ) where
  pub flat-names : (ns : List (Identifier ℕ)) → flat nodes (name_branches k ns) ≡ flat (nodes_of (name_branch k)) ns
  unfolding flat name_branches
  flat-names [] = refl
  flat-names (n ∷ ns) = rw (flat-names ns)

  pub length-names : (ns : List (Identifier ℕ)) → length (name_branches k ns) ≡ length ns
  unfolding name_branches
  length-names [] = refl
  length-names (n ∷ ns) = rw (length-names ns)

-- ------------------------------------------------------------------ one member

module _ (b : Block) (free : Bool) {A : Type 0} (D : Answer ℕ A) (f : A → Branch) (make : A → MemberOf b) (k : ℕ) (s : List ℕ) (t u : Token) (a c : Lent)
    (reads : (before : List (MemberOf b)) → Free b before free → member_of b before (stream s t) ≡ and_then D (λ x. pure (make x)))
    (kinds : (x : A) → kind_of b (make x) ≡ k) (branches : (x : A) → branches_of b (make x) ≡ f x ∷ []) (o : Onward s t u 0) where
  -- what was read from the token u on is a member from the token t on
  pub joined : {v : Token} → Gives D (nodes_of f) s u a v c → Joins b free s t a v c 1 k
  unfolding and_then pure
  joined g =
      let w = o.ahead in
      record {
        value = make g.value;
        gives = λ before h. reads before h ∙ rw g.gives;
        onward = onward_then o g.onward;
        kinds = kinds g.value;
        counted = rw (branches g.value);
        lays = rw (branches g.value, flat-one (f g.value)) (lays-between 0 g.lays (omega arith) (omega arith) (omega arith));
      }

-- a refusal of what it is made of is one of the member
module _ (b : Block) (free : Bool) {A : Type 0} (D : Answer ℕ A) (make : A → MemberOf b) (s : List ℕ) (t : Token)
    (reads : (before : List (MemberOf b)) → Free b before free → member_of b before (stream s t) ≡ and_then D (λ x. pure (make x))) where
  pub joined_not : {n p : ℕ} → D ≡ refused n p → (before : List (MemberOf b)) → Free b before free → member_of b before (stream s t) ≡ refused n p
  unfolding and_then
  joined_not g before h = reads before h ∙ rw g

-- ------------------------------------------------------------------ a word after an `@`

module _ (w : Quoted) (s : List ℕ) (t : Token) {part : Option Part} {r : Bool} (q : part ≡ at_of t) (h : Says s part (letters w) r) (plain : is_plain (letters w) ≡ true) where
  pub at-says : says w (at_in (kind_at (stream s t))) ≡ r
  at-says = rw (at-of s t, ← q) (h.said w refl plain)

pub says-token : (w : Quoted) (s : List ℕ) (t : Token) → says w (at_in (kind_at (stream s t))) ≡ true → IsToken t
says-token w s (Of k start end) e = tt
says-token w s (Eof p) e = let h = rw (at-of s (Eof p)) at e in absurd (let z : ◌≡◌ {A = ℕ} 0 1 = cc in omega arith)

-- ------------------------------------------------------------------ in a scoped skip

module _ (before : List (SkipMember ℕ)) (ts : Tokens ℕ) where
  pub skip-refused : {c p : ℕ} → eat_at "top" ts ≡ refused c p → parse_skip_member before ts ≡ refused c p
  unfolding parse_skip_member ◌>>=◌ and_then
  skip-refused e = rw (parse_skip_member, e)

  pub skip_rule_lem : {us : Tokens ℕ} → eat_at "top" ts ≡ read false us → parse_skip_member before ts ≡ and_then (parse_rule us) (λ x. pure (SkipMember.rule x))
  unfolding parse_skip_member ◌>>=◌ and_then
  skip_rule_lem e = rw (parse_skip_member, e)

  pub skip-top : {us : Tokens ℕ} → eat_at "top" ts ≡ read true us → parse_skip_member before ts ≡ and_then (parse_rule us) (λ x. pure (SkipMember.top_rule x))
  unfolding parse_skip_member ◌>>=◌ and_then
  skip-top e = rw (parse_skip_member, e)

-- ------------------------------------------------------------------ in an external block

module _ (before : List (ExternalMember ℕ)) (ts : Tokens ℕ) where
  pub external-refused : {c p : ℕ} → eat_at "conflict" ts ≡ refused c p → parse_external_member true before ts ≡ refused c p
  unfolding parse_external_member ◌>>=◌ and_then choose
  external-refused e = rw (parse_external_member, e)

  pub external-token : {us : Tokens ℕ} → eat_at "conflict" ts ≡ read false us → parse_external_member true before ts ≡ and_then (parse_named_node us) (λ x. pure (ExternalMember.token x))
  unfolding parse_external_member ◌>>=◌ and_then choose
  external-token e = rw (parse_external_member, e)

  external-names : {us : Tokens ℕ} → eat_at "conflict" ts ≡ read true us → parse_external_member true before ts ≡ and_then (names us) (λ ns. pure (ExternalMember.conflicts ns))
  unfolding parse_external_member ◌>>=◌ and_then choose
  external-names e = rw (parse_external_member, e)

  pub external_list : {us : Tokens ℕ} {c p : ℕ} → eat_at "conflict" ts ≡ read true us → names us ≡ refused c p → parse_external_member true before ts ≡ refused c p
  unfolding and_then
  external_list e f = external-names e ∙ rw f

  -- where no conflicts are allowed
  pub specializer_token : parse_external_member false before ts ≡ and_then (parse_named_node ts) (λ x. pure (ExternalMember.token x))
  unfolding parse_external_member ◌>>=◌ and_then choose pure
  specializer_token = refl

-- a list of conflicts is one member with a branch for each name
pub joined-names : {free : Bool} {s : List ℕ} {t u v : Token} {a c : Lent} {count : ℕ} → eat_at "conflict" (stream s t) ≡ read true (stream s u) → Onward s t u 0
    → Lists (names (stream s u)) (nodes_of (name_branch 17)) s u 2 a v c count → Joins ExternalTokens free s t a v c count 17
unfolding and_then pure
joined-names {s = s} {t} e o l =
    let w = o.ahead in
    record {
      value = ExternalMember.conflicts l.items;
      gives = λ before h. external-names before (stream s t) e ∙ rw l.gives;
      onward = onward-least 1 (onward_then o l.onward) (omega arith);
      kinds = refl;
      counted = length-names 17 l.items ∙ l.counted;
      lays = rw (flat-names 17 l.items) (lays-between 0 l.lays (omega arith) (omega arith) (omega arith));
    }

-- ------------------------------------------------------------------ in `@tokens`

module _ (before : List (TokenMember ℕ)) (s : List ℕ) (t : Token) where
  pub token-literal : {part : Option Part} {a : Part} → part ≡ string_of t → part ≡ Some a
      → parse_token_member before (stream s t) ≡ and_then (parse_literal (decode_string (part_of s a)) (stream s t)) (λ x. pure (TokenMember.literal x))
  unfolding parse_token_member token_member_by kind ◌>>=◌ and_then
  token-literal q i = rw (parse_token_member, string-of s t, sym q ∙ i)

  module _ {part : Option Part} (q : part ≡ string_of t) (i : part ≡ None) where
    pub token-precedence : says "precedence" (at_in (kind_at (stream s t))) ≡ true
        → parse_token_member before (stream s t) ≡ and_then (parse_token_precedence (stream s t)) (λ x. pure (TokenMember.precedence x))
    unfolding parse_token_member token_member_by kind ◌>>=◌ and_then
    token-precedence e = rw (parse_token_member, string-of s t, sym q ∙ i, e)

    module _ (e : says "precedence" (at_in (kind_at (stream s t))) ≡ false) where
      pub token-conflict : says "conflict" (at_in (kind_at (stream s t))) ≡ true
          → parse_token_member before (stream s t) ≡ and_then (parse_token_conflict (stream s t)) (λ x. pure (TokenMember.conflict x))
      unfolding parse_token_member token_member_by kind ◌>>=◌ and_then
      token-conflict f = rw (parse_token_member, string-of s t, sym q ∙ i, e, f)

      pub token-rule : says "conflict" (at_in (kind_at (stream s t))) ≡ false → parse_token_member before (stream s t) ≡ and_then (parse_rule (stream s t)) (λ x. pure (TokenMember.rule x))
      unfolding parse_token_member token_member_by kind ◌>>=◌ and_then
      token-rule f = rw (parse_token_member, string-of s t, sym q ∙ i, e, f)

-- ------------------------------------------------------------------ in `@local tokens`

module _ (before : List (LocalMember ℕ)) (ts : Tokens ℕ) where
  pub local-precedence : says "precedence" (at_in (kind_at ts)) ≡ true → parse_local_member before ts ≡ and_then (parse_token_precedence ts) (λ x. pure (LocalMember.precedence x))
  unfolding parse_local_member kind ◌>>=◌ and_then choose
  local-precedence e = rw (parse_local_member, e)

  module _ (e : says "precedence" (at_in (kind_at ts)) ≡ false) where
    pub local_refused : {c p : ℕ} → eat_at "else" ts ≡ refused c p → parse_local_member before ts ≡ refused c p
    unfolding parse_local_member kind ◌>>=◌ and_then choose
    local_refused f = rw (parse_local_member, e, f)

    pub local-rule : {us : Tokens ℕ} → eat_at "else" ts ≡ read false us → parse_local_member before ts ≡ and_then (parse_rule us) (λ x. pure (LocalMember.rule x))
    unfolding parse_local_member kind ◌>>=◌ and_then choose
    local-rule f = rw (parse_local_member, e, f)

    module _ {us : Tokens ℕ} (f : eat_at "else" ts ≡ read true us) {free : Bool} (h : is_empty (picked local_fallback before) ≡ free) where
      pub local-fallback : free ≡ true → parse_local_member before ts ≡ and_then (parse_named_node us) (λ x. pure (LocalMember.fallback x))
      unfolding parse_local_member kind ◌>>=◌ and_then choose
      local-fallback g = rw (parse_local_member, e, f, h, g)

      pub local_later : free ≡ false → parse_local_member before ts ≡ and_then (parse_rule us) (λ x. pure (LocalMember.rule x))
      unfolding parse_local_member kind ◌>>=◌ and_then choose
      local_later g = rw (parse_local_member, e, f, h, g)

-- ------------------------------------------------------------------ a member whose kind is wanted or not

-- a part of no words, or no bytes, stands before all of them
module _ {xs : List Node} {a b : Lent} (st : Stores xs a b) where
  pub no_words : length a.words ≡ 0 → (ws : List ℕ) → b.words ++ ws ≡ ws
  no_words e ws = front-none b.words ws (st.same-words ∙ e)

  pub no_texts : length a.texts ≡ 0 → (ts : List ℕ) → b.texts ++ ts ≡ ts
  no_texts e ts = front-none b.texts ts (st.same-texts ∙ e)

-- members before, of which one is a fallback or none is
pub record Before (b : Block) (free : Bool) : Type 0 where
  pub members : List (MemberOf b)
  pub is : Free b members free

pub some-before : (b : Block) (free : Bool) → Before b free
unfolding picked
some-before B.Tokens free = record { members = []; is = tt }
some-before B.LocalTokens true = record { members = []; is = refl }
some-before B.LocalTokens false = record { members = LocalMember.fallback (record { id = record { start = 0; name = [] }; props = [] }) ∷ []; is = refl }
some-before B.ExternalTokens free = record { members = []; is = tt }
some-before B.Specializer free = record { members = []; is = tt }
some-before B.Skip free = record { members = []; is = tt }

-- ------------------------------------------------------------------ a word that is not there

module _ (w : Quoted) (s : List ℕ) (t : Token) (plain : is_plain (letters w) ≡ true) where
  pub eaten_no : EatsAt s t (letters w) (Ok None) → eat_at w (stream s t) ≡ read false (stream s t)
  eaten_no h = h.eats w refl plain

  pub eaten_not : {e : Stop} → EatsAt s t (letters w) (Err e) → eat_at w (stream s t) ≡ refused (cause_number e.cause) e.place
  eaten_not h = h.eats w refl plain
