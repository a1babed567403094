-- Declarations that hold a block: what their definitions give, and what is then stored.
-- Assumes nothing.
use Prim.Native.Nat.{ℕ, suc, ◌+◌, ◌≤◌, ◌<◌, ◌^◌, ◌*◌}
use native.Mathlib.Omega.{arith}
use mathlib.Core.Path.{◌≡◌, refl, sym, ap, ◌∙◌}
use mathlib.Core.Bool.{Bool, true, false, not}
use mathlib.Core.List.{List, [], ◌∷◌, ◌++◌, append_assoc, append-nil}
use borrow.Author.Tests.{eq-eqb, ne_eqb}
use lib.Dec.{eqb}
use lib.ListN.{length}
use Rattle.basics.specs.Basics.{letters, every, is_empty, picked, first_element, concat}
use Rattle.error.specs.Causes.{unexpected_token, second_skip}
use Rattle.std.specs.Prelude.{Some, None, Result, Ok, Err}
use Rattle.error.specs.declared.Stop.{Stop}
use Rattle.lexer.specs.declared.Part.{Part}
use Rattle.error.specs.Promise.{cause_number}
use Rattle.characters.specs.Utf8.{encode_all}
use Rattle.characters.specs.Places.{cut}
use Rattle.lexer.specs.Tokens.{Tokens}
use Rattle.lexer.specs.Promise.{part_of, is_plain}
use Rattle.lexer.specs.Escapes.{decode_string}
use Rattle.tree.specs.Records.{Branch, count, nodes, width}
use Rattle.tree.specs.Stored.{declaration_branch, expression_branch, source_branch, plain, named, full, specialize_value}
use Rattle.tree.specs.Syntax.{Identifier, TokenDeclaration, LocalTokenDeclaration, Declaration, Expression, SpecializeKind, start_of}
use Rattle.notation.specs.Parser.{Answer, read, refused, Parser, and_then, ◌>>=◌, pure, refuse, choose, here, refuse_here, kind, next, eat_name, must, expect, expect_name, parse_identifier}
use Rattle.notation.specs.Members.{TokenMember, token_precedence, token_conflict, token_rule, token_literal, LocalMember, local_precedence, local_rule, local_fallback, external_token, external_conflicts, SkipMember, skip_top_rule, skip_rule, Member, declaration, dialects}
use Rattle.notation.specs.Declarations.{block, parse_source, parse_tokens, parse_local_tokens, parse_external_token_set, parse_external_tokens, parse_external_specializer, declares, seen, parse_skip_declaration}
use Rattle.notation.specs.Expressions.{parse_braced_expression, choice_at}
use Rattle.tokens.specs.Promise.{stream, start_in, end_in, mark_of, LiesIn, Expects, EatsName, Identifies}
use Rattle.parser.specs.Storing.{Lent, Stores, node, flat, nodes_of}
use Rattle.parser.specs.Steps.{Onward, Lays, Gives, Parses, between_by}
use Rattle.parser.specs.Shapes.{IsToken, YieldsBraced}
use Rattle.lexer.specs.declared.Token.{Token}
use Rattle.parser.specs.declared.parts.Shape.{Shape}
use Rattle.tokens.proofs.Stream.{start-of, mark-of}
use Rattle.parser.proofs.Onward.{placed_in, onward_then, onward-least}
use Rattle.parser.proofs.Lists.{lays-then, lays-between}
use Rattle.parser.proofs.Ready.{lays-node, lays_parent, lays-leaf, name-got, part-short, flat-length, nodes-branch, nodes-leaf, nodes-first, count-first}
use Rattle.declarations.specs.Sources.{GotSource}
use Rattle.declarations.proofs.SourceLaws.{source-few}
use Rattle.declarations.proofs.RuleReads.{levels-are}
use Rattle.reader.specs.Groups.{groups_of, Gathers}
use Rattle.reader.specs.Places.{place_in, group_at}
use Rattle.reader.specs.Blocks.{MemberOf, member_of, comma_of, kinds_of, kind_of, branches_of, members_of, place_of, FirstIs, Roomy}
use Rattle.reader.specs.Directives.{past, local_at, tokens_branch, local_branch, SetOf, external_set, set_nodes, skips, Scoping, Scopes, SeenIs, Declares, DeclaresTo}
use Rattle.reader.specs.declared.blocks.Block.{Block}
use Rattle.reader.specs.declared.directives.Seen.{Seen}
use Rattle.reader.specs.declared.directives.Declared.{Declared}
use Rattle.reader.specs.declared.blocks.Block.TheVariants.{Tokens as TokensBlock, LocalTokens, ExternalTokens, Specializer, Skip}
use Rattle.reader.proofs.RoomyLaws.{roomy_step, roomy_on}
use Rattle.reader.proofs.TopLaws.{parses_as, past_not, past-at, past-onward}
use Rattle.reader.proofs.MemberLaws.{flat-one}
use Rattle.reader.proofs.GroupPicks.{tokens-grouped, block-one-fallback, local_grouped, external-grouped, specializer_grouped, skip-grouped}

-- ------------------------------------------------------------------ blocks

-- the members of a block, in its braces
abbrev pub block_of : (b : Block) → Parser ℕ (List (MemberOf b))
block_of b = block (between_by (comma_of b)) (member_of b)

abbrev pub groups : (b : Block) → List (MemberOf b) → List Branch
groups b ms = groups_of (kind_of b) (branches_of b) (kinds_of b) ms

-- each branch has a node, so they are few
pub gathers-small : {M : Type 0} {D : Answer ℕ (List M)} {f : List M → List Branch} {s : List ℕ} {t u : Token} {i c : ℕ} {a b : Lent} → Gathers D f s t i a u b c → length s ≤ 0x10000 → c ≤ 0x20000
gathers-small {f = f} {s} {u = u} g h =
    let p = flat-length (λ (b : Branch). b) (f g.members) in
    let q = g.lays.bound in
    let e = g.counted in
    let o = placed_in s u g.onward.lies in
    omega arith

-- ------------------------------------------------------------------ a node over a block

-- what storing a node without a text asks
pub plain_asks : {s : List ℕ} {t : Token} {l : Lent} {p c : ℕ} → Roomy s t l → p ≤ length s → c ≤ 0x40000 → (l.n + 7 < 2 ^ 64) × (p < 2 ^ 32) × (c < 2 ^ 32)
plain_asks {s} {t} r h k =
    let a = r.room in
    let b = placed_in s t r.lies in
    let d = r.small in
    (omega arith, omega arith, omega arith)

module _ {M : Type 0} {E : Answer ℕ (List M)} {f : List M → List Branch} {s : List ℕ} {t u v : Token} {a b : Lent} {i j count : ℕ} where
  -- what storing it asks
  pub over_asks : {p c : ℕ} → Roomy s t a → Onward s t u i → Gathers E f s u j a v b count → p ≤ length s → c ≤ count + 2 → (b.n + 7 < 2 ^ 64) × (p < 2 ^ 32) × (c < 2 ^ 32)
  over_asks r o g h k = let d = gathers-small g r.small in plain_asks (roomy_on (roomy_step r o) g.onward g.lays) h (omega arith)

module _ {M B : Type 0} {E : Answer ℕ (List M)} {f : List M → List Branch} {s : List ℕ} {t u v : Token} {i count p : ℕ} {a b c : Lent} where
  -- a token stands before the block
  pub over-given : (k : ℕ) (d : B → Branch) {D : Answer ℕ B} → Onward s t u 1 → (g : Gathers E f s u i a v b count) (value : B) → D ≡ read value (stream s v)
      → nodes (d value) ≡ flat nodes (f g.members) ++ node k p [] 0 0 (length (f g.members)) ∷ [] → Stores (node k p [] 0 0 count ∷ []) b c → Gives D (nodes_of d) s t a v c
  over-given k d o g value e same st =
      let o₁ = o.ahead in
      record {
        value = value;
        gives = e;
        onward = onward-least 1 (onward_then o g.onward) (omega arith);
        lays = rw (same, g.counted) (lays_parent g.lays st o (omega arith) (omega arith));
      }

-- something is made of a list
abbrev pub made_of : {A B : Type 0} → Parser ℕ (List A) → (List A → B) → Parser ℕ B
made_of list f = list >>= λ ms. pure (f ms)

module _ {A B : Type 0} (list : Parser ℕ (List A)) (f : List A → B) (ts : Tokens ℕ) where
  pub made_halt : {c q : ℕ} → list ts ≡ refused c q → made_of list f ts ≡ refused c q
  unfolding ◌>>=◌ and_then
  made_halt e = rw e

  pub made-read : {ms : List A} {us : Tokens ℕ} → list ts ≡ read ms us → made_of list f ts ≡ read (f ms) us
  unfolding ◌>>=◌ and_then pure
  made-read e = rw e

-- ------------------------------------------------------------------ `@tokens`

abbrev pub tokens_by : (p : ℕ) → List (TokenMember ℕ) → TokenDeclaration ℕ
tokens_by p ms =
    record {
      start = p;
      precedences = picked token_precedence ms;
      conflicts = picked token_conflict ms;
      rules = picked token_rule ms;
      literals = picked token_literal ms;
    }

tokens-nodes : (p : ℕ) (ms : List (TokenMember ℕ)) → nodes (tokens_branch (tokens_by p ms)) ≡ flat nodes (groups TokensBlock ms) ++ node 8 p [] 0 0 (length (groups TokensBlock ms)) ∷ []
unfolding encode_all declaration_branch
tokens-nodes p ms = nodes-branch (plain 8 p) _ ∙ rw ((tokens-grouped ms).stored, (tokens-grouped ms).counted)

tokens-is : (s : List ℕ) (t : Token) → parse_tokens (stream s t) ≡ past (made_of (block_of TokensBlock) (tokens_by (start_in t))) (stream s t)
unfolding parse_tokens here ◌>>=◌ and_then
tokens-is s t = rw (parse_tokens, start-of s t)

module _ (s : List ℕ) (t : Token) where
  pub tokens_halt : {c p : ℕ} → next (stream s t) ≡ refused c p → parse_tokens (stream s t) ≡ refused c p
  tokens_halt q = tokens-is s t ∙ past_not s t _ q

  module _ (u : Token) (h : (next (stream s t) ≡ read tt (stream s u)) × LiesIn s (end_in t) u) where
    tokens-at : parse_tokens (stream s t) ≡ made_of (block_of TokensBlock) (tokens_by (start_in t)) (stream s u)
    tokens-at = tokens-is s t ∙ past-at s t u h _

    pub tokens-refused : {c p : ℕ} → block_of TokensBlock (stream s u) ≡ refused c p → parse_tokens (stream s t) ≡ refused c p
    tokens-refused f = tokens-at ∙ made_halt (block_of TokensBlock) (tokens_by (start_in t)) (stream s u) f

    pub tokens-given : {v : Token} {i count p : ℕ} {a b c : Lent} → IsToken t → LiesIn s 0 t
        → Gathers (block_of TokensBlock (stream s u)) (groups TokensBlock) s u i a v b count → p ≡ start_in t → Stores (node 8 p [] 0 0 count ∷ []) b c
        → Gives (parse_tokens (stream s t)) (nodes_of tokens_branch) s t a v c
    tokens-given i l g e st =
        over-given 8 tokens_branch (past-onward s t u h i l) g (tokens_by (start_in t) g.members) (tokens-at ∙ made-read (block_of TokensBlock) (tokens_by (start_in t)) (stream s u) g.gives)
        (rw e (tokens-nodes (start_in t) g.members)) st

-- ------------------------------------------------------------------ `@local tokens`

abbrev pub local_by : (p : ℕ) → List (LocalMember ℕ) → LocalTokenDeclaration ℕ
local_by p ms = record { start = p; precedences = picked local_precedence ms; rules = picked local_rule ms; fallback = first_element (picked local_fallback ms) }

local_nodes : (p : ℕ) (ms : List (LocalMember ℕ)) → length (picked local_fallback ms) ≤ 1
    → nodes (local_branch (local_by p ms)) ≡ flat nodes (groups LocalTokens ms) ++ node 12 p [] 0 0 (length (groups LocalTokens ms)) ∷ []
unfolding encode_all declaration_branch
local_nodes p ms h = nodes-branch (plain 12 p) _ ∙ rw ((local_grouped ms h).stored, (local_grouped ms h).counted)

module _ (p : ℕ) (s : List ℕ) (t : Token) where
  pub local_halt : {c q : ℕ} → eat_name "tokens" (stream s t) ≡ refused c q → local_at p (stream s t) ≡ refused c q
  unfolding expect_name ◌>>=◌ and_then
  local_halt e = rw (expect_name, e)

  pub local_no : eat_name "tokens" (stream s t) ≡ read false (stream s t) → local_at p (stream s t) ≡ refused unexpected_token (start_in t)
  unfolding expect_name must refuse_here ◌>>=◌ and_then
  local_no e = rw (expect_name, e, must, start-of s t)

  module _ {us : Tokens ℕ} (e : eat_name "tokens" (stream s t) ≡ read true us) where
    local_by_lem : local_at p (stream s t) ≡ made_of (block_of LocalTokens) (local_by p) us
    unfolding expect_name must parse_local_tokens pure ◌>>=◌ and_then
    local_by_lem = rw (expect_name, e, must)

    pub local_refused : {c q : ℕ} → block_of LocalTokens us ≡ refused c q → local_at p (stream s t) ≡ refused c q
    local_refused f = local_by_lem ∙ made_halt (block_of LocalTokens) (local_by p) us f

    local_read : {ms : List (LocalMember ℕ)} {vs : Tokens ℕ} → block_of LocalTokens us ≡ read ms vs → local_at p (stream s t) ≡ read (local_by p ms) vs
    local_read f = local_by_lem ∙ made-read (block_of LocalTokens) (local_by p) us f

  pub local_given : {u v : Token} {i count : ℕ} {a b c : Lent} → eat_name "tokens" (stream s t) ≡ read true (stream s u) → Onward s t u 1
      → Gathers (block_of LocalTokens (stream s u)) (groups LocalTokens) s u i a v b count → Stores (node 12 p [] 0 0 count ∷ []) b c
      → Gives (local_at p (stream s t)) (nodes_of local_branch) s t a v c
  local_given e o g st = over-given 12 local_branch o g (local_by p g.members) (local_read e g.gives) (local_nodes p g.members (block-one-fallback (stream s _) (stream s _) g.members g.gives)) st

pub tokens-plain : is_plain (letters "tokens") ≡ true
unfolding every
tokens-plain = refl

-- the word `tokens` is taken, is not there, or is refused
module _ {s : List ℕ} {t : Token} where
  pub tokens_taken : {u : Token} → EatsName s t (letters "tokens") (Ok (Some u)) → eat_name "tokens" (stream s t) ≡ read true (stream s u)
  tokens_taken k = k.eats "tokens" refl tokens-plain

  pub tokens_passed : EatsName s t (letters "tokens") (Ok None) → eat_name "tokens" (stream s t) ≡ read false (stream s t)
  tokens_passed k = k.eats "tokens" refl tokens-plain

  pub tokens_not : {e : Stop} → EatsName s t (letters "tokens") (Err e) → eat_name "tokens" (stream s t) ≡ refused (cause_number e.cause) e.place
  tokens_not k = k.eats "tokens" refl tokens-plain

-- ------------------------------------------------------------------ external sets

abbrev set_by : (b : Block) → (name source : List ℕ) → List (MemberOf b) → SetOf b
set_by b n x ms = record { id = n; source = x; members = ms }

module _ (b : Block) (ts : Tokens ℕ) where
  pub set-name : {c p : ℕ} → parse_identifier ts ≡ refused c p → external_set b ts ≡ refused c p
  unfolding external_set ◌>>=◌ and_then
  set-name e = rw (external_set, e)

  module _ {n : Identifier ℕ} {us : Tokens ℕ} (e : parse_identifier ts ≡ read n us) where
    pub set-source : {c p : ℕ} → parse_source us ≡ refused c p → external_set b ts ≡ refused c p
    unfolding external_set ◌>>=◌ and_then
    set-source f = rw (external_set, e, and_then, f)

    module _ {x : List ℕ} {vs : Tokens ℕ} (f : parse_source us ≡ read x vs) where
      set-by : external_set b ts ≡ made_of (block_of b) (set_by b n.name x) vs
      unfolding external_set ◌>>=◌ and_then
      set-by = rw (external_set, e, and_then, f)

      pub set-block : {c p : ℕ} → block_of b vs ≡ refused c p → external_set b ts ≡ refused c p
      set-block g = set-by ∙ made_halt (block_of b) (set_by b n.name x) vs g

      set-read : {ms : List (MemberOf b)} {ws : Tokens ℕ} → block_of b vs ≡ read ms ws → external_set b ts ≡ read (set_by b n.name x ms) ws
      set-read g = set-by ∙ made-read (block_of b) (set_by b n.name x) vs g

module _ {s : List ℕ} {t u v : Token} {a b : Part} {l m : Lent} (r : Roomy s t l) (i : Identifies s t (Ok (a, u))) (g : GotSource s u b v)
    (st : Stores (node 15 0 (encode_all (decode_string (part_of s b))) 0 0 0 ∷ []) l m) (few : m.x ≤ l.x + length (cut s b.from b.to)) where
  source-lays : Lays s u v 0 (node 15 0 (encode_all (decode_string (part_of s b))) 0 0 0 ∷ []) l m
  source-lays =
      let w = source-few g.part st few in
      let z = g.between in
      lays-leaf st (onward-least 1 g.onward (omega arith)) (omega arith)

  -- behind the source's node
  pub set_room : Roomy s v m
  set_room = roomy_on (roomy_step r (name-got s r.lies i).1.onward) g.onward source-lays

  module _ (d : Block) {w : Token} {count : ℕ} {o : Lent} (h : Gathers (block_of d (stream s v)) (groups d) s v 2 m w o count) where
    -- what storing the last node asks
    pub set_asks : {p c : ℕ} → p ≤ length s → c ≤ count + 2 → (o.n + 7 < 2 ^ 64) × (p < 2 ^ 32) × (c < 2 ^ 32) × (o.x + length (cut s a.from a.to) < 2 ^ 32)
    set_asks j k =
        let y₁ = roomy_on set_room h.onward h.lays in
        let y₂ = y₁.room in
        let y₃ = y₁.space in
        let y₄ = placed_in s w y₁.lies in
        let y₅ = gathers-small h r.small in
        let y₆ = r.small in
        let y₇ = (part-short s (name-got s r.lies i).0.part).short in
        (omega arith, omega arith, omega arith, omega arith)

    pub set_given : (before : ℕ) {kind start value : ℕ} {c : Lent} → Stores (node kind start (cut s a.from a.to) value 0 (before + 1 + count) ∷ []) o c
        → Gives (external_set d (stream s t)) (set_nodes d kind start value before) s t l w c
    set_given before st₁ =
        let k = name-got s r.lies i in
        record {
          value = set_by d (part_of s a) (decode_string (part_of s b)) h.members;
          gives = set-read d (stream s t) i.takes g.gives h.gives;
          onward = onward-least 1 (onward_then k.1.onward (onward_then g.onward h.onward)) (omega arith);
          lays = rw (nodes-leaf (named 15 0 (decode_string (part_of s b))), k.0.part.bytes, h.counted)
              (lays_parent (lays-then source-lays h.lays) st₁ k.1.onward k.1.past (omega arith));
        }

-- ------------------------------------------------------------------ external declarations

-- something is made of a set
module _ {B : Type 0} (b : Block) (f : SetOf b → B) where
  abbrev set_then : Parser ℕ B
  set_then = parse_identifier >>= λ n. parse_source >>= λ x. block_of b >>= λ ms. pure (f (set_by b n.name x ms))

  then-block : (n : Identifier ℕ) (x : List ℕ) (y : Answer ℕ (List (MemberOf b)))
      → and_then y (λ ms. pure (f (set_by b n.name x ms))) ≡ and_then (and_then y (λ ms. pure (set_by b n.name x ms))) (λ z. pure (f z))
  unfolding and_then pure
  then-block n x (read ms us) = refl
  then-block n x (refused c p) = refl

  then-source : (n : Identifier ℕ) (y : Answer ℕ (List ℕ))
      → and_then y (λ x. block_of b >>= λ ms. pure (f (set_by b n.name x ms))) ≡ and_then (and_then y (λ x. block_of b >>= λ ms. pure (set_by b n.name x ms))) (λ z. pure (f z))
  unfolding and_then ◌>>=◌
  then-source n (read x us) = then-block n x (block_of b us)
  then-source n (refused c p) = refl

  then-name : (y : Answer ℕ (Identifier ℕ))
      → and_then y (λ n. parse_source >>= λ x. block_of b >>= λ ms. pure (f (set_by b n.name x ms)))
      ≡ and_then (and_then y (λ n. parse_source >>= λ x. block_of b >>= λ ms. pure (set_by b n.name x ms))) (λ z. pure (f z))
  unfolding and_then ◌>>=◌
  then-name (read n us) = then-source n (parse_source us)
  then-name (refused c p) = refl

  set_then_lem : (ts : Tokens ℕ) → set_then ts ≡ and_then (external_set b ts) (λ z. pure (f z))
  unfolding external_set ◌>>=◌
  set_then_lem ts = then-name (parse_identifier ts)

  then-read : (ts : Tokens ℕ) {z : SetOf b} {us : Tokens ℕ} → external_set b ts ≡ read z us → set_then ts ≡ read (f z) us
  unfolding and_then pure
  then-read ts e = set_then_lem ts ∙ rw e

  then_halt : (ts : Tokens ℕ) {c p : ℕ} → external_set b ts ≡ refused c p → set_then ts ≡ refused c p
  unfolding and_then
  then_halt ts e = set_then_lem ts ∙ rw e

abbrev external_of : (p : ℕ) → SetOf ExternalTokens → Declaration ℕ
external_of p x =
    Declaration.external_tokens (record { start = p; id = x.id; source = x.source; tokens = picked external_token x.members; conflicts = concat (picked external_conflicts x.members) })

external-nodes : (p : ℕ) (x : SetOf ExternalTokens) → nodes (declaration_branch (external_of p x)) ≡ set_nodes ExternalTokens 16 p 0 0 x
unfolding declaration_branch
external-nodes p x =
    nodes-branch (named 16 p x.id) _
    ∙ rw (nodes-first (source_branch x.source) _, count-first (source_branch x.source) _, (external-grouped x.members).stored, (external-grouped x.members).counted)

external-is : (p : ℕ) (ts : Tokens ℕ) → parse_external_tokens p ts ≡ set_then ExternalTokens (external_of p) ts
unfolding parse_external_tokens parse_external_token_set
external-is p ts = refl

pub external-parsed : (p : ℕ) (s : List ℕ) (t : Token) (a c : Lent) (f : Result Token Stop) → Parses (external_set ExternalTokens (stream s t)) (set_nodes ExternalTokens 16 p 0 0) s t a c f
    → Parses (parse_external_tokens p (stream s t)) (nodes_of declaration_branch) s t a c f
external-parsed p s t a c f =
    parses_as (external_of p) (set_nodes ExternalTokens 16 p 0 0) (nodes_of declaration_branch) (external-nodes p) _ _ (external-is p (stream s t) ∙ set_then_lem ExternalTokens (external_of p) (stream s t)) s t a c f

-- ------------------------------------------------------------------ external specializers

abbrev specializer_of : (p : ℕ) → SpecializeKind → Expression ℕ → SetOf Specializer → Declaration ℕ
specializer_of p k e x = Declaration.external_specializer (record { start = p; kind = k; token = e; id = x.id; source = x.source; tokens = picked external_token x.members })

specializer_nodes : (p : ℕ) (k : SpecializeKind) (e : Expression ℕ) (x : SetOf Specializer)
    → nodes (declaration_branch (specializer_of p k e x)) ≡ nodes (expression_branch e) ++ set_nodes Specializer 18 p (specialize_value k) 1 x
unfolding declaration_branch
specializer_nodes p k e x =
    let src = nodes (source_branch x.source) in
    let bs = groups Specializer x.members in
    let two : 1 + (1 + length bs) ≡ 1 + 1 + length bs = omega arith in
    nodes-branch (full 18 p x.id (specialize_value k)) _
    ∙ rw (
      nodes-first (expression_branch e) _,
      count-first (expression_branch e) _,
      nodes-first (source_branch x.source) _,
      count-first (source_branch x.source) _,
      (specializer_grouped x.members).stored,
      (specializer_grouped x.members).counted,
      two,
    ) (append_assoc (nodes (expression_branch e)) (src ++ flat nodes bs) _)

module _ (p : ℕ) (k : SpecializeKind) (ts : Tokens ℕ) where
  pub specializer_halt : {c q : ℕ} → parse_braced_expression (choice_at 64) ts ≡ refused c q → parse_external_specializer p k ts ≡ refused c q
  unfolding parse_external_specializer ◌>>=◌ and_then
  specializer_halt e = rw (parse_external_specializer, levels-are, e)

  specializer_then : {x : Expression ℕ} {us : Tokens ℕ} → parse_braced_expression (choice_at 64) ts ≡ read x us → parse_external_specializer p k ts ≡ set_then Specializer (specializer_of p k x) us
  unfolding parse_external_specializer parse_external_token_set ◌>>=◌ and_then
  specializer_then e = rw (parse_external_specializer, levels-are, e)

pub specializer_parsed : (p : ℕ) (k : SpecializeKind) (s : List ℕ) (t : Token) {u : Token} {a b : Lent} {q : ℕ} {shape : Shape} {value : ℕ} → value ≡ specialize_value k
    → YieldsBraced (parse_braced_expression (choice_at 64) (stream s t)) s t a u b q shape → (c : Lent) (f : Result Token Stop)
    → Parses (external_set Specializer (stream s u)) (set_nodes Specializer 18 p value 1) s u b c f → Parses (parse_external_specializer p k (stream s t)) (nodes_of declaration_branch) s t a c f
specializer_parsed p k s t {u} e g c (Ok v) f =
    record {
      value = specializer_of p k g.yields.tree f.value;
      gives = specializer_then p k (stream s t) g.yields.gives ∙ then-read Specializer (specializer_of p k g.yields.tree) (stream s u) f.gives;
      onward = onward-least 1 (onward_then g.yields.onward f.onward) (omega arith);
      lays = rw (specializer_nodes p k g.yields.tree f.value, ← e) (lays-then g.yields.lays f.lays);
    }
specializer_parsed p k s t {u} e g c (Err d) f =
    specializer_then p k (stream s t) g.yields.gives ∙ then_halt Specializer (specializer_of p k g.yields.tree) (stream s u) f

-- ------------------------------------------------------------------ top rules of a scoped skip

-- their group is the first
tops_group : (ms : List (SkipMember ℕ)) → length (group_at (place_of Skip) (branches_of Skip) 0 ms) ≡ length (picked skip_top_rule ms)
unfolding group_at picked place_in
tops_group [] = refl
tops_group (SkipMember.top_rule x ∷ ms) = ap suc (tops_group ms)
tops_group (SkipMember.rule x ∷ ms) = tops_group ms

-- there is none exactly if their group has no size
some_size : {A : Type 0} (xs : List A) (bs : List Branch) (n : ℕ) → length bs ≡ length xs → n ≡ width * length (flat nodes bs) → not (is_empty xs) ≡ not (eqb n 0)
unfolding flat
some_size [] [] n e f = rw (eq-eqb n 0 (omega arith))
some_size [] (b ∷ bs) n e f = absurd (omega arith)
some_size (x ∷ xs) bs n e f = let g = flat-length (λ (x : Branch). x) bs in rw (ne_eqb n 0 (λ z. omega arith))

skips_halt : (ts : Tokens ℕ) {c p : ℕ} → expect "{" ts ≡ refused c p → skips ts ≡ refused c p
unfolding ◌>>=◌ and_then
skips_halt ts e = rw e

skips-at : (ts : Tokens ℕ) {us : Tokens ℕ} → expect "{" ts ≡ read tt us → skips ts ≡ members_of Skip us
unfolding ◌>>=◌ and_then
skips-at ts e = rw e

-- whether a block of a scoped skip that is read has a top rule
abbrev pub HoldsTop : List ℕ → Token → Bool → Type 0
HoldsTop s t r = (ms : List (SkipMember ℕ)) (us : Tokens ℕ) → skips (stream s t) ≡ read ms us → not (is_empty (picked skip_top_rule ms)) ≡ r

-- those that are read are those that the first group's size counts
pub first-top : (s : List ℕ) (t u : Token) → Expects s t 0x7B (Ok u) → {n : ℕ} → FirstIs Skip s u n → HoldsTop s t (not (eqb n 0))
first-top s t u h {n} f ms us e =
    some_size (picked skip_top_rule ms) (group_at (place_of Skip) (branches_of Skip) 0 ms) n (tops_group ms) (f ms us (sym (skips-at (stream s t) (h.expects "{" refl)) ∙ e))

pub scoped_unopened : (s : List ℕ) (t : Token) {e : Stop} → Expects s t 0x7B (Err e) → skips (stream s t) ≡ refused (cause_number e.cause) e.place
scoped_unopened s t h = skips_halt (stream s t) (h.expects "{" refl)

-- ------------------------------------------------------------------ scoped skips

pub scoping : {start : ℕ} {s : List ℕ} {t v : Token} {count : ℕ} {a b c : Lent} {top : Bool} → HoldsTop s t top
    → Gathers (block_of Skip (stream s t)) (groups Skip) s t 2 a v b count → Stores (node 23 start [] 0 0 (1 + count) ∷ []) b c
    → Scoping start s t a v c 23 top
scoping {s = s} {v = v} h g st =
    record {
      members = g.members;
      gives = g.gives;
      onward = g.onward;
      kinds = refl;
      tops = h g.members (stream s v) g.gives;
      lays = rw g.counted (lays-node g.lays st (omega arith) (omega arith));
    }

-- ------------------------------------------------------------------ `@skip`

abbrev scoped_by : Expression ℕ → List (SkipMember ℕ) → Declaration ℕ
scoped_by x ms = Declaration.scoped_skip (record { expression = x; top_rules = picked skip_top_rule ms; rules = picked skip_rule ms })

scoped_nodes : (x : Expression ℕ) (ms : List (SkipMember ℕ))
    → nodes (declaration_branch (scoped_by x ms)) ≡ nodes (expression_branch x) ++ (flat nodes (groups Skip ms) ++ node 23 (start_of x) [] 0 0 (1 + length (groups Skip ms)) ∷ [])
unfolding encode_all declaration_branch
scoped_nodes x ms =
    nodes-branch (plain 23 (start_of x)) _
    ∙ rw (nodes-first (expression_branch x) _, count-first (expression_branch x) _, (skip-grouped ms).stored, (skip-grouped ms).counted) (append_assoc (nodes (expression_branch x)) (flat nodes (groups Skip ms)) _)

main_nodes : (x : Expression ℕ) → nodes (declaration_branch (Declaration.main_skip x)) ≡ nodes (expression_branch x) ++ node 22 (start_of x) [] 0 0 1 ∷ []
unfolding encode_all declaration_branch nodes count
main_nodes x = rw (append-nil (nodes (expression_branch x)))

-- after the token
abbrev skip_at : (p : ℕ) → List (Member ℕ) → Parser ℕ (Member ℕ)
skip_at p before = declares (parse_skip_declaration p before)

module _ (p : ℕ) (before : List (Member ℕ)) where
  pub skip_halt : (ts : Tokens ℕ) {c q : ℕ} → parse_braced_expression (choice_at 64) ts ≡ refused c q → skip_at p before ts ≡ refused c q
  unfolding parse_skip_declaration ◌>>=◌ and_then
  skip_halt ts e = rw (parse_skip_declaration, levels-are, e)

  module _ (s : List ℕ) (t v : Token) {x : Expression ℕ} (e : parse_braced_expression (choice_at 64) (stream s t) ≡ read x (stream s v)) where
    skip_by : skip_at p before (stream s t)
        ≡ and_then (choose (eqb (mark_of v) 0x7B) (made_of (block_of Skip) (scoped_by x)) (choose (seen 22 before) (refuse second_skip p) (pure (Declaration.main_skip x))) (stream s v)) (λ d. pure (declaration d))
    unfolding parse_skip_declaration ◌>>=◌ and_then kind
    skip_by = rw (parse_skip_declaration, levels-are, e, mark-of s v)

    module _ (m : mark_of v ≡ 0x7B) where
      scoped-by : skip_at p before (stream s t) ≡ and_then (made_of (block_of Skip) (scoped_by x) (stream s v)) (λ d. pure (declaration d))
      unfolding choose
      scoped-by = skip_by ∙ rw (eq-eqb (mark_of v) 0x7B m)

      scoped_halt : {c q : ℕ} → skips (stream s v) ≡ refused c q → skip_at p before (stream s t) ≡ refused c q
      unfolding and_then
      scoped_halt f = scoped-by ∙ rw (made_halt (block_of Skip) (scoped_by x) (stream s v) f)

      scoped_read : {ms : List (SkipMember ℕ)} {us : Tokens ℕ} → skips (stream s v) ≡ read ms us → skip_at p before (stream s t) ≡ read (declaration (scoped_by x ms)) us
      unfolding and_then pure
      scoped_read f = scoped-by ∙ rw (made-read (block_of Skip) (scoped_by x) (stream s v) f)

    module _ (m : mark_of v ≡ 0x7B → ⊥) where
      skip-second : seen 22 before ≡ true → skip_at p before (stream s t) ≡ refused second_skip p
      unfolding choose refuse and_then
      skip-second f = skip_by ∙ rw (ne_eqb (mark_of v) 0x7B m, choose, f)

      skip_main : seen 22 before ≡ false → skip_at p before (stream s t) ≡ read (declaration (Declaration.main_skip x)) (stream s v)
      unfolding choose pure and_then
      skip_main f = skip_by ∙ rw (ne_eqb (mark_of v) 0x7B m, choose, f)

no_dialects : {d : Declaration ℕ} {ns : List (Identifier ℕ)} → declaration d ≡ dialects ns → ⊥
no_dialects e = let z : ◌≡◌ {A = ℕ} 0 1 = cc in omega arith

-- with its keyword
module _ (k : Seen) (s : List ℕ) (t : Token) where
  abbrev skipping : List (Member ℕ) → Answer ℕ (Member ℕ)
  skipping before = past (declares (parse_skip_declaration (start_in t) before)) (stream s t)

  pub keyword_halt : {c p : ℕ} → next (stream s t) ≡ refused c p → (before : List (Member ℕ)) → SeenIs k before → skipping before ≡ refused c p
  keyword_halt q = λ before z. past_not s t (skip_at (start_in t) before) q

  module _ (u : Token) (h : (next (stream s t) ≡ read tt (stream s u)) × LiesIn s (end_in t) u) where
    keyword-at : (before : List (Member ℕ)) → skipping before ≡ skip_at (start_in t) before (stream s u)
    keyword-at before = past-at s t u h (skip_at (start_in t) before)

    pub braced_halt : {c p : ℕ} → parse_braced_expression (choice_at 64) (stream s u) ≡ refused c p → (before : List (Member ℕ)) → SeenIs k before → skipping before ≡ refused c p
    braced_halt e = λ before z. keyword-at before ∙ skip_halt (start_in t) before (stream s u) e

    module _ {v : Token} {a b : Lent} {q : ℕ} {shape : Shape} (g : YieldsBraced (parse_braced_expression (choice_at 64) (stream s u)) s u a v b q shape) {c : ℕ} (e : c ≡ mark_of v) where
      pub second-refused : {p : ℕ} → (c ≡ 0x7B → ⊥) → k.skip ≡ true → p ≡ start_in t → (before : List (Member ℕ)) → SeenIs k before → skipping before ≡ refused second_skip p
      second-refused m f d = λ before z. rw d (keyword-at before ∙ skip-second (start_in t) before s u v g.yields.gives (λ y. m (e ∙ y)) (z.skip ∙ f))

      module _ (i : IsToken t) (l : LiesIn s 0 t) where
        -- the token behind the braces is a brace
        pub scoped_declared : c ≡ 0x7B → (l : Lent) (d : Result Declared Stop) → Scopes q s v b l d → DeclaresTo skipping k s t a l d
        scoped_declared m o₂ (Ok d) f =
            let o = past-onward s t u h i l in
            let o₁ = o.ahead in
            record {
              value = declaration (scoped_by g.yields.tree f.members);
              gives = λ before z. keyword-at before ∙ scoped_read (start_in t) before s u v g.yields.gives (sym e ∙ m) f.gives;
              onward = onward-least 1 (onward_then o (onward_then g.yields.onward f.onward)) (omega arith);
              kinds = sym f.kinds;
              tops = f.tops;
              named = λ ns z. absurd (no_dialects z);
              lays = rw (flat-one (declaration_branch (scoped_by g.yields.tree f.members)), scoped_nodes g.yields.tree f.members, g.yields.shown.starts)
                  (lays-between 0 (lays-then g.yields.lays f.lays) (omega arith) (omega arith) (omega arith));
            }
        scoped_declared m o₂ (Err d) f = λ before z. keyword-at before ∙ scoped_halt (start_in t) before s u v g.yields.gives (sym e ∙ m) f

module _ (k : Seen) (s : List ℕ) (t u : Token) (h : (next (stream s t) ≡ read tt (stream s u)) × LiesIn s (end_in t) u) {v : Token} {a b : Lent} {q c : ℕ} {shape : Shape}
    (g : YieldsBraced (parse_braced_expression (choice_at 64) (stream s u)) s u a v b q shape) (e : c ≡ mark_of v) where
  -- it is none
  pub main_declared : (i : IsToken t) (l : LiesIn s 0 t) → (c ≡ 0x7B → ⊥) → k.skip ≡ false → {d : Lent} → Stores (node 22 q [] 0 0 1 ∷ []) b d
      → Declares (λ before. past (declares (parse_skip_declaration (start_in t) before)) (stream s t)) k s t a v d 22 false
  main_declared i l y f st =
      let o = past-onward s t u h i l in
      let o₁ = o.ahead in
      record {
        value = declaration (Declaration.main_skip g.yields.tree);
        gives = λ before z. keyword-at k s t u h before ∙ skip_main (start_in t) before s u v g.yields.gives (λ w. y (e ∙ w)) (z.skip ∙ f);
        onward = onward-least 1 (onward_then o g.yields.onward) (omega arith);
        kinds = refl;
        tops = refl;
        named = λ ns z. absurd (no_dialects z);
        lays = rw (flat-one (declaration_branch (Declaration.main_skip g.yields.tree)), main_nodes g.yields.tree, g.yields.shown.starts)
            (lays_parent g.yields.lays st o (omega arith) (omega arith));
      }
