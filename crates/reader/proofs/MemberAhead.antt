-- A member of a block has the kind that its first tokens tell, and that has a group.
-- Assumes nothing.
use Prim.Native.Nat.{ℕ, ◌<◌}
use Prim.Native.String.{String as Quoted}
use native.Mathlib.Omega.{arith}
use mathlib.Core.Path.{◌≡◌, refl, sym, ◌∙◌}
use mathlib.Core.Bool.{Bool, true, false, ◌&&◌}
use mathlib.Core.List.{List}
use mathlib.Core.Option.{Option, none, some}
use Rattle.std.specs.Prelude as P
use Rattle.std.specs.Option.{is_some}
use mir.Val.{bool_byte}
use Rattle.lexer.specs.declared.Part.{Part}
use Rattle.basics.specs.Basics.{if◌then◌otherwise◌, is_empty, picked}
use Rattle.lexer.specs.Tokens.{Kind, Tokens}
use Rattle.lexer.specs.Escapes.{decode_string}
use Rattle.notation.specs.Parser.{Answer, read, refused, Parser, and_then, ◌>>=◌, pure, choose, kind, kind_of as token_of, at_in, string_in, next, says, eat_if, eat_at}
use Rattle.notation.specs.Members.{TokenMember, LocalMember, SkipMember, ExternalMember, local_fallback}
use Rattle.notation.specs.Declarations.{names, parse_rule, parse_token_precedence, parse_named_node, token_member_by, parse_token_member, parse_local_member, parse_external_member, parse_skip_member}
use Rattle.tokens.specs.Promise.{stream, at_of, string_of, text_in, mapped}
use Rattle.lexer.specs.declared.Token.{Token}
use Rattle.tokens.proofs.Stream.{at-of, string-of}
use Rattle.reader.specs.Places.{place_in}
use Rattle.reader.specs.Blocks.{MemberOf, member_of, kind_of, kinds_of, Free, block_count}
use Rattle.reader.specs.Ahead.{token_kind, member_kind_by, member_ahead}
use Rattle.reader.specs.declared.blocks.Block.{Block}
use Rattle.reader.specs.declared.blocks.Block.TheVariants as B
use Rattle.reader.proofs.AheadLaws.{Yields, yields_not, yields-pure, yields-then, yields_if}

-- ------------------------------------------------------------------ tests of the current token

module _ {A : Type 0} {of : A → ℕ} {k : ℕ} where
  -- by its kind
  kind-then : (f : Option Kind → Parser ℕ A) (ts : Tokens ℕ) → Yields of k (f (token_of ts) ts) → Yields of k ((kind >>= f) ts)
  unfolding kind ◌>>=◌ and_then
  kind-then f ts h = h

  -- the token is taken or not, as the test says
  if_eaten : (b : Bool) (f : Bool → Parser ℕ A) (ts : Tokens ℕ) → ((us : Tokens ℕ) → Yields of k (f b us)) → Yields of k (and_then (eat_if b ts) f)
  unfolding eat_if ◌>>=◌ and_then pure
  if_eaten true f ts h = go (next ts)
    where
      go : (d : Answer ℕ (Unit {0})) → Yields of k (and_then (and_then d (λ _. pure true)) f)
      go (read u us) = h us
      go (refused c p) = yields_not
  if_eaten false f ts h = h ts

  at-eaten : (w : Quoted) (f : Bool → Parser ℕ A) (ts : Tokens ℕ) → ((us : Tokens ℕ) → Yields of k (f (says w (at_in (token_of ts))) us)) → Yields of k ((eat_at w >>= f) ts)
  unfolding eat_at kind ◌>>=◌ and_then
  at-eaten w f ts h = if_eaten (says w (at_in (token_of ts))) f ts h

  by_test : {j : ℕ} (b : Bool) (m n : Parser ℕ A) (ts : Tokens ℕ) → Yields of j (m ts) → Yields of k (n ts) → Yields of (if b then j otherwise k) (choose b m n ts)
  unfolding choose
  by_test true m n ts h i = h
  by_test false m n ts h i = i

-- ------------------------------------------------------------------ by block

token-by : (at string : Option (List ℕ)) (ts : Tokens ℕ) → Yields (kind_of B.Tokens) (token_kind at string) (token_member_by at string ts)
unfolding token_member_by ◌>>=◌
token-by at (some t) ts = yields-then _ _ (λ x us. yields-pure (TokenMember.literal x) us refl)
token-by at none ts =
    yields_if (says "precedence" at) _ _ ts (yields-then _ _ (λ x us. yields-pure (TokenMember.precedence x) us refl))
    (yields_if (says "conflict" at) _ _ ts (yields-then _ _ (λ x us. yields-pure (TokenMember.conflict x) us refl)) (yields-then _ _ (λ x us. yields-pure (TokenMember.rule x) us refl)))

local-rule : (us : Tokens ℕ) → Yields (kind_of B.LocalTokens) 3 ((parse_rule >>= λ x. pure (LocalMember.rule x)) us)
unfolding ◌>>=◌
local-rule us = yields-then _ _ (λ x vs. yields-pure (LocalMember.rule x) vs refl)

local-precedence : (us : Tokens ℕ) → Yields (kind_of B.LocalTokens) 9 ((parse_token_precedence >>= λ x. pure (LocalMember.precedence x)) us)
unfolding ◌>>=◌
local-precedence us = yields-then _ _ (λ x vs. yields-pure (LocalMember.precedence x) vs refl)

local_by_lem : (is_else free : Bool) (us : Tokens ℕ) → Yields (kind_of B.LocalTokens) (if free then (if is_else then 13 otherwise 3) otherwise 3)
    (choose (is_else && free) (parse_named_node >>= λ x. pure (LocalMember.fallback x)) (parse_rule >>= λ x. pure (LocalMember.rule x)) us)
unfolding choose ◌>>=◌
local_by_lem true true us = yields-then _ _ (λ x vs. yields-pure (LocalMember.fallback x) vs refl)
local_by_lem true false us = local-rule us
local_by_lem false true us = local-rule us
local_by_lem false false us = local-rule us

external-by : (b : Bool) (us : Tokens ℕ) → Yields (kind_of B.ExternalTokens) (if b then 17 otherwise 13) (choose b (names >>= λ ns. pure (ExternalMember.conflicts ns)) (parse_named_node >>= λ x. pure (ExternalMember.token x)) us)
unfolding choose ◌>>=◌
external-by true us = yields-then _ _ (λ ns vs. yields-pure (ExternalMember.conflicts ns) vs refl)
external-by false us = yields-then _ _ (λ x vs. yields-pure (ExternalMember.token x) vs refl)

specializer_by : (us : Tokens ℕ) → Yields (kind_of B.Specializer) 13 ((parse_named_node >>= λ x. pure (ExternalMember.token x)) us)
unfolding ◌>>=◌
specializer_by us = yields-then _ _ (λ x vs. yields-pure (ExternalMember.token x) vs refl)

skip_by : (b : Bool) (us : Tokens ℕ) → Yields (kind_of B.Skip) (if b then 2 otherwise 3) ((parse_rule >>= λ r. pure (if b then SkipMember.top_rule r otherwise SkipMember.rule r)) us)
unfolding ◌>>=◌
skip_by true us = yields-then _ _ (λ r vs. yields-pure (SkipMember.top_rule r) vs refl)
skip_by false us = yields-then _ _ (λ r vs. yields-pure (SkipMember.rule r) vs refl)

token-yields : (free : Bool) (before : List (TokenMember ℕ)) (ts : Tokens ℕ) → Yields (kind_of B.Tokens) (member_ahead B.Tokens free ts) (parse_token_member before ts)
unfolding member_ahead parse_token_member
token-yields free before ts = kind-then _ ts (token-by (at_in (token_of ts)) (string_in (token_of ts)) ts)

local_yields : (free : Bool) (before : List (LocalMember ℕ)) → is_empty (picked local_fallback before) ≡ free → (ts : Tokens ℕ) → Yields (kind_of B.LocalTokens) (member_ahead B.LocalTokens free ts) (parse_local_member before ts)
unfolding member_ahead parse_local_member
local_yields free before e ts =
    rw (← e) (kind-then _ ts (by_test (says "precedence" (at_in (token_of ts))) _ _ ts (local-precedence ts) (at-eaten "else" _ ts (local_by_lem (says "else" (at_in (token_of ts))) (is_empty (picked local_fallback before))))))

external-yields : (free : Bool) (before : List (ExternalMember ℕ)) (ts : Tokens ℕ) → Yields (kind_of B.ExternalTokens) (member_ahead B.ExternalTokens free ts) (parse_external_member true before ts)
unfolding member_ahead parse_external_member choose
external-yields free before ts =
    at-eaten "conflict" (λ b. choose b (names >>= λ ns. pure (ExternalMember.conflicts ns)) (parse_named_node >>= λ x. pure (ExternalMember.token x))) ts (external-by (says "conflict" (at_in (token_of ts))))

specializer_yields : (free : Bool) (before : List (ExternalMember ℕ)) (ts : Tokens ℕ) → Yields (kind_of B.Specializer) (member_ahead B.Specializer free ts) (parse_external_member false before ts)
unfolding member_ahead parse_external_member choose ◌>>=◌ and_then pure
specializer_yields free before ts = specializer_by ts

skip-yields : (free : Bool) (before : List (SkipMember ℕ)) (ts : Tokens ℕ) → Yields (kind_of B.Skip) (member_ahead B.Skip free ts) (parse_skip_member before ts)
unfolding member_ahead parse_skip_member
skip-yields free before ts = at-eaten "top" _ ts (skip_by (says "top" (at_in (token_of ts))))

pub member_yields : (b : Block) (free : Bool) (before : List (MemberOf b)) → Free b before free → (ts : Tokens ℕ) → Yields (kind_of b) (member_ahead b free ts) (member_of b before ts)
member_yields B.Tokens free before f ts = token-yields free before ts
member_yields B.LocalTokens free before f ts = local_yields free before f ts
member_yields B.ExternalTokens free before f ts = external-yields free before ts
member_yields B.Specializer free before f ts = specializer_yields free before ts
member_yields B.Skip free before f ts = skip-yields free before ts

-- ------------------------------------------------------------------ it is always known

if_both : (P : ℕ → Type 0) (b : Bool) (j k : ℕ) → P j → P k → P (if b then j otherwise k)
if_both P true j k h i = h
if_both P false j k h i = i

abbrev Some : ℕ → Type 0
Some k = k ≡ 0 → ⊥

some-by : (b : Block) (free : Bool) (at string : Option (List ℕ)) → Some (member_kind_by b free at string)
some-by B.Tokens free at (some t) = λ e. omega arith
some-by B.Tokens free at none =
    if_both Some (says "precedence" at) 9 (if says "conflict" at then 10 otherwise 3) (λ e. omega arith) (if_both Some (says "conflict" at) 10 3 (λ e. omega arith) (λ e. omega arith))
some-by B.LocalTokens free at string =
    if_both Some (says "precedence" at) 9 (if free then (if says "else" at then 13 otherwise 3) otherwise 3) (λ e. omega arith)
    (if_both Some free (if says "else" at then 13 otherwise 3) 3 (if_both Some (says "else" at) 13 3 (λ e. omega arith) (λ e. omega arith)) (λ e. omega arith))
some-by B.ExternalTokens free at string = if_both Some (says "conflict" at) 17 13 (λ e. omega arith) (λ e. omega arith)
some-by B.Specializer free at string = λ e. omega arith
some-by B.Skip free at string = if_both Some (says "top" at) 2 3 (λ e. omega arith) (λ e. omega arith)

pub ahead-some : (b : Block) (free : Bool) (ts : Tokens ℕ) → member_ahead b free ts ≡ 0 → ⊥
unfolding member_ahead
ahead-some b free ts = some-by b free (at_in (token_of ts)) (string_in (token_of ts))

abbrev In : Block → ℕ → Type 0
In b k = place_in (kinds_of b) k < block_count

in_by : (b : Block) (free : Bool) (at string : Option (List ℕ)) → In b (member_kind_by b free at string)
unfolding place_in
in_by B.Tokens free at (some t) = omega arith
in_by B.Tokens free at none =
    if_both (In B.Tokens) (says "precedence" at) 9 (if says "conflict" at then 10 otherwise 3) (omega arith) (if_both (In B.Tokens) (says "conflict" at) 10 3 (omega arith) (omega arith))
in_by B.LocalTokens free at string =
    if_both (In B.LocalTokens) (says "precedence" at) 9 (if free then (if says "else" at then 13 otherwise 3) otherwise 3) (omega arith)
    (if_both (In B.LocalTokens) free (if says "else" at then 13 otherwise 3) 3 (if_both (In B.LocalTokens) (says "else" at) 13 3 (omega arith) (omega arith)) (omega arith))
in_by B.ExternalTokens free at string = if_both (In B.ExternalTokens) (says "conflict" at) 17 13 (omega arith) (omega arith)
in_by B.Specializer free at string = omega arith
in_by B.Skip free at string = if_both (In B.Skip) (says "top" at) 2 3 (omega arith) (omega arith)

ahead_in : (b : Block) (free : Bool) (ts : Tokens ℕ) → place_in (kinds_of b) (member_ahead b free ts) < block_count
unfolding member_ahead
ahead_in b free ts = in_by b free (at_in (token_of ts)) (string_in (token_of ts))

-- ------------------------------------------------------------------ the tests of the code

abbrev PartOption : Type 0
PartOption = P.Option Part

-- a part has a text, or there is none
module _ (s : List ℕ) (o : PartOption) where
  pub none_text : is_some o ≡ false → text_in s o ≡ none
  none_text e = go o e
    where
      go : (o : PartOption) → is_some o ≡ false → text_in s o ≡ none
      go P.None e = refl
      go (P.Some a) e = absurd (let z : ◌≡◌ {A = ℕ} 0 1 = cc in omega arith)

  -- a string is a literal
  pub some_text : (at : Option (List ℕ)) → is_some o ≡ true → token_kind at (mapped decode_string (text_in s o)) ≡ 11
  some_text at e = go o e
    where
      go : (o : PartOption) → is_some o ≡ true → token_kind at (mapped decode_string (text_in s o)) ≡ 11
      go (P.Some a) e = refl
      go P.None e = absurd (let z : ◌≡◌ {A = ℕ} 0 1 = cc in omega arith)

module _ (b : Block) (free : Bool) (s : List ℕ) (t : Token) where
  pub group_is : (c : Block) (k : ℕ) {p : ℕ} → b ≡ c → member_kind_by c free (text_in s (at_of t)) (mapped decode_string (text_in s (string_of t))) ≡ k → p ≡ place_in (kinds_of c) k → p ≡ place_in (kinds_of b) (member_ahead b free (stream s t))
  unfolding member_ahead
  group_is c k e f g = g ∙ sym (rw (e, at-of s t, string-of s t, f))

  pub group_in : {p : ℕ} → p ≡ place_in (kinds_of b) (member_ahead b free (stream s t)) → p < block_count
  group_in e = let h = ahead_in b free (stream s t) in omega arith

  -- external tokens: conflicts stand behind the tokens
  pub conflict_place : b ≡ B.ExternalTokens → (r : Bool) → says "conflict" (text_in s (at_of t)) ≡ r → bool_byte r ≡ place_in (kinds_of b) (member_ahead b free (stream s t))
  unfolding place_in
  conflict_place e true q = group_is B.ExternalTokens 17 e (rw q) refl
  conflict_place e false q = group_is B.ExternalTokens 13 e (rw q) refl
