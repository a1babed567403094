-- The whole of a grammar: how large its tree is, what its definition gives, and what is known once all is measured.
-- Assumes nothing.
use Prim.Native.Nat.{ℕ, ◌+◌, ◌*◌, ◌≤◌, ◌<◌, ◌^◌}
use native.Mathlib.Omega.{arith}
use mathlib.Core.Path.{◌≡◌, refl, ap, sym, ◌∙◌}
use mathlib.Core.Bool.{true, false, not}
use mathlib.Core.List.{List, [], ◌∷◌, ◌++◌}
use borrow.Author.Tests.{not-true, not-false}
use lib.ListN.{length, length-append}
use Rattle.std.specs.Prelude.{Ok}
use Rattle.basics.specs.Basics.{is_empty, picked}
use Rattle.error.specs.Causes.{no_top, records_full, texts_full}
use Rattle.lexer.specs.Tokens.{Tokens}
use Rattle.lexer.specs.Promise.{tokens_at}
use Rattle.tree.specs.Records.{Branch, Node, nodes, texts_of, words, records_from, records, texts}
use Rattle.tree.specs.Stored.{name_branch, flag, grammar_branch, grammar_records, grammar_words, grammar_texts}
use Rattle.tree.specs.Syntax.{GrammarDeclaration}
use Rattle.tree.proofs.Encoded.{texts-append}
use Rattle.notation.specs.Parser.{read, refused, and_then, ◌>>=◌, pure, choose, start_of, here, refuse_here, arrive}
use Rattle.notation.specs.Members.{Member, declared, detects}
use Rattle.notation.specs.Declarations.{has_top, grammar_of, parse, parse_grammar}
use Rattle.tokens.specs.Promise.{stream, start_in, arrival, Lies}
use Rattle.parser.specs.Storing.{lent, node, flat, nodes_of}
use Rattle.lexer.specs.declared.Token.{Token}
use Rattle.tokens.proofs.Stream.{start-of}
use Rattle.parser.proofs.Onward.{placed_in}
use Rattle.parser.proofs.Ready.{flat-length}
use Rattle.reader.specs.Groups.{all_of, groups_of}
use Rattle.reader.specs.Directives.{member_kind, member_branches}
use Rattle.reader.specs.Places.{words_in, bytes_in, Begins, Blank}
use Rattle.reader.specs.Whole.{members, last_names, stored_kinds, HasNames, Names, Passes, Sizes, Measured, Known, First, Given, Stopped, by-text, by-words, by_bytes, group_count}
use Rattle.reader.specs.declared.whole.Noted.{Noted}
use Rattle.reader.specs.declared.blocks.Extent.{Extent}
use Rattle.reader.proofs.GroupSizes.{Weight, nodes-of, bytes_of, groups-next, groups_weigh}
use Rattle.parser.proofs.Stored.{words-length}
use Rattle.reader.proofs.GrammarGroups.{declared_kinds, top_one, grammar_children, grammar-nodes}

-- ------------------------------------------------------------------ sizes

-- the bytes of texts, one after another
texts-length : (xs ys : List Node) → length (texts_of (xs ++ ys)) ≡ length (texts_of xs) + length (texts_of ys)
texts-length xs ys = ap length (texts-append xs ys) ∙ length-append (texts_of xs) (texts_of ys)

-- the words and the texts of a tree are those of its nodes
pub words-of : (g : GrammarDeclaration ℕ) → grammar_words g ≡ words (records_from 0 (nodes (grammar_branch g)))
unfolding grammar_words grammar_records grammar_branch words records
words-of g = refl

pub texts-of : (g : GrammarDeclaration ℕ) → grammar_texts g ≡ texts_of (nodes (grammar_branch g))
unfolding grammar_texts grammar_branch texts
texts-of g = refl

module _ (ms : List (Member ℕ)) where
  -- the groups of declarations and that of external props, in one
  groups-props : groups_of member_kind member_branches stored_kinds ms ≡ groups_of member_kind member_branches declared_kinds ms ++ all_of member_kind member_branches 25 ms
  groups-props = groups-next member_kind member_branches stored_kinds 11 ms refl (omega arith)

  -- they weigh what all members weigh
  pub top_weighs : (w : Weight) → w.of (groups_of member_kind member_branches declared_kinds ms) + w.of (all_of member_kind member_branches 25 ms) ≡ w.of (all_of member_kind member_branches 0 ms)
  top_weighs w =
      sym (w.more (groups_of member_kind member_branches declared_kinds ms) (all_of member_kind member_branches 25 ms))
      ∙ ap w.of (sym groups-props) ∙ groups_weigh member_kind member_branches w stored_kinds top_one ms

module _ (p : ℕ) (ms : List (Member ℕ)) where
  -- the nodes of declarations, of dialects, of external props, and the grammar's
  abbrev declaring : List Node
  declaring = flat nodes (groups_of member_kind member_branches declared_kinds ms)

  abbrev naming : List Node
  naming = flat (nodes_of (name_branch 24)) (last_names ms)

  abbrev propping : List Node
  propping = flat nodes (all_of member_kind member_branches 25 ms)

  abbrev grammaring : List Node
  grammaring = node 1 p [] (flag (not (is_empty (picked detects ms)))) 0 (grammar_children ms) ∷ []

  -- how many words and bytes the tree takes
  pub grammar-words : length (grammar_words (grammar_of p ms)) ≡ 7 * (length (flat nodes (all_of member_kind member_branches 0 ms)) + length (flat (nodes_of (name_branch 24)) (last_names ms)) + 1)
  grammar-words =
      let a = ap length (words-of (grammar_of p ms)) in
      let b = words-length 0 (nodes (grammar_branch (grammar_of p ms))) in
      let c = ap length (grammar-nodes p ms) in
      let d = length-append (declaring ++ naming ++ propping) grammaring in
      let e = length-append (declaring ++ naming) propping in
      let f = length-append declaring naming in
      let g = top_weighs ms nodes-of in
      omega arith

  grammar_textless : length (texts_of grammaring) ≡ 0
  unfolding texts_of
  grammar_textless = refl

  pub grammar-bytes : length (grammar_texts (grammar_of p ms)) ≡ length (texts_of (flat nodes (all_of member_kind member_branches 0 ms))) + length (texts_of (flat (nodes_of (name_branch 24)) (last_names ms)))
  grammar-bytes =
      let a = ap length (texts-of (grammar_of p ms)) in
      let c = ap (λ (l : List Node). length (texts_of l)) (grammar-nodes p ms) in
      let d = texts-length (declaring ++ naming ++ propping) grammaring in
      let e = texts-length (declaring ++ naming) propping in
      let f = texts-length declaring naming in
      let g = top_weighs ms bytes_of in
      let h = grammar_textless in
      omega arith

-- ------------------------------------------------------------------ the definition

module _ (ts : Tokens ℕ) where
  -- no token is arrived at
  pub grammar_not : {c p : ℕ} → arrive ts ≡ refused c p → parse_grammar ts ≡ refused c p
  unfolding parse_grammar parse ◌>>=◌ and_then
  grammar_not e = rw e

  module _ {us : Tokens ℕ} (e : arrive ts ≡ read tt us) where
    -- a declaration is refused
    pub grammar_halted : {c p : ℕ} → members us ≡ refused c p → parse_grammar ts ≡ refused c p
    unfolding parse_grammar parse ◌>>=◌ and_then here
    grammar_halted f = rw (e, f)

    module _ {ms : List (Member ℕ)} {vs : Tokens ℕ} (f : members us ≡ read ms vs) where
      -- there is no top rule, or there is one
      pub grammar_topless : has_top (picked declared ms) ≡ false → parse_grammar ts ≡ refused no_top (start_of vs)
      unfolding parse_grammar parse ◌>>=◌ and_then here choose refuse_here
      grammar_topless g = rw (e, f, g)

      pub grammar-read : has_top (picked declared ms) ≡ true → parse_grammar ts ≡ read (grammar_of (start_of us) ms) vs
      unfolding parse_grammar parse ◌>>=◌ and_then here choose pure
      grammar-read g = rw (e, f, g)

-- ------------------------------------------------------------------ the first token

-- there is none
pub stopped-first : {s : List ℕ} {c p : ℕ} (ws ts : List ℕ) → (arrive (tokens_at s 0) ≡ refused c p) × Unit {0} → Stopped s ws ts c p
stopped-first {s} ws ts h = by-text (grammar_not (tokens_at s 0) h.0)

-- it is arrived at, and lies in the text
pub first-is : {s : List ℕ} {t : Token} → (arrive (tokens_at s 0) ≡ arrival s (Ok t)) × Lies s 0 (Ok t) → First s t
first-is h = record { arrives = h.0; lies = h.1 }

module _ {s : List ℕ} {t : Token} (first : First s t) where
  -- all room is left
  pub first-begins : length s ≤ 0x10000 → {ps qs : List ℕ} → Blank group_count ps → Blank group_count qs → Begins group_count 0x1000000 s t ps qs
  first-begins z a b =
      record {
        lies = first.lies;
        small = z;
        words-all = a.all;
        bytes-all = b.all;
        words-few = λ g. let k = a.none g in omega arith;
        bytes-few = λ g. let k = b.none g in omega arith;
      }

  -- a declaration behind it is refused
  pub stopped-members : {c p : ℕ} → members (stream s t) ≡ refused c p → parse_grammar (tokens_at s 0) ≡ refused c p
  stopped-members f = grammar_halted (tokens_at s 0) first.arrives f

  -- ------------------------------------------------------------------ all is measured

  module _ {last : Token} {n x count : ℕ} {noted : Noted} (zs zs₁ : List Extent) {es fs gs hs : List ℕ}
      (g : Passes s t (words_in zs) (bytes_in zs) (words_in zs₁) (bytes_in zs₁) es fs gs hs last n x count noted) where
    -- the sizes of the groups
    measured-sizes : Blank group_count (words_in zs) → Blank group_count (bytes_in zs) → Sizes g.found (words_in zs₁) (bytes_in zs₁)
    measured-sizes a b =
        record {
          words-all = g.fills.same_places ∙ a.all;
          bytes-all = g.fills.same_bytes ∙ b.all;
          words_are = λ i l. let k = g.fills.words-on i l in let z = a.none i in omega arith;
          bytes-are = λ i l. let k = g.fills.bytes_on i l in let z = b.none i in omega arith;
        }

    -- there is no top rule
    pub stopped-top : {p : ℕ} → not noted.top ≡ true → p ≡ start_in last → parse_grammar (tokens_at s 0) ≡ refused no_top p
    stopped-top y e = grammar_topless (tokens_at s 0) first.arrives g.gives (g.noted.top ∙ not-true noted.top y) ∙ rw (start-of s last, e)

    -- there are names as is noted, and what was measured is small
    pub measured-names : HasNames s noted
    measured-names = record { the = last_names g.found; are = g.noted.named }

    pub measured-small : length s ≤ 0x10000 → (n ≤ 0x10000000) × (x ≤ 0x10000000)
    measured-small z =
        let a = g.lays.stores.words-end in
        let b = g.lays.stores.texts-end in
        let c = g.lays.bound in
        let d = g.lays.space in
        let o = placed_in s last g.onward.lies in
        (omega arith, omega arith)

    measured-few : length s ≤ 0x10000 → count ≤ 0x20000
    measured-few z =
        let a = g.counted in
        let b = flat-length (λ (x : Branch). x) (all_of member_kind member_branches 0 g.found) in
        let c = g.lays.bound in
        let o = placed_in s last g.onward.lies in
        omega arith

    -- the tree
    abbrev grammar_at : GrammarDeclaration ℕ
    grammar_at = grammar_of (start_in t) g.found

    module _ {m y named : ℕ} {ps qs rs os : List ℕ} (d : Names (last_names g.found) s (lent n ps x qs) (lent m rs y os) named) where
      -- its sizes are those that were measured
      pub measured-words : length (grammar_words grammar_at) ≡ m + 7
      measured-words =
          let a = g.lays.stores.words-end in
          let b = d.stores.words-end in
          let e = grammar-words (start_in t) g.found in
          omega arith

      pub measured-bytes : length (grammar_texts grammar_at) ≡ y
      measured-bytes =
          let a = g.lays.stores.texts-end in
          let b = d.stores.texts-end in
          let e = grammar-bytes (start_in t) g.found in
          omega arith

      -- they fit 64 bits
      pub measured-fits : length s ≤ 0x10000 → (m + 7 < 2 ^ 64) × (count + named < 2 ^ 64)
      measured-fits z =
          let a = (measured-small z).0 in
          let b = measured-few z in
          let e = d.stores.words-end in
          let f = d.few in
          let h = d.counted in
          let k = flat-length (name_branch 24) (last_names g.found) in
          (omega arith, omega arith)

      -- there is a top rule, so the tree is known
      pub measured : not noted.top ≡ false → Blank group_count (words_in zs) → Blank group_count (bytes_in zs) → Measured s t noted (count + named) zs₁ (m + 7) y
      measured has-top none-words none-bytes =
          let e = measured-words in
          let f = measured-bytes in
          let h = g.counted in
          let k = d.counted in
          let l = g.lays.bound in
          let c = g.lays.space in
          let o = placed_in s last g.onward.lies in
          let q = grammar-words (start_in t) g.found in
          let i = grammar-bytes (start_in t) g.found in
          let r = d.few in
          let j = d.short in
          record {
            last = last;
            arrives = first.arrives;
            surveyed = record { members = g.found; gives = g.gives; onward = g.onward; bound = omega arith; space = g.lays.space };
            noted = g.noted;
            top = not-false noted.top has-top;
            counted = omega arith;
            sizes = measured-sizes none-words none-bytes;
            words_are = omega arith;
            bytes-are = omega arith;
            few = omega arith;
            short = omega arith;
          }

-- ------------------------------------------------------------------ what is known once all is measured

module _ {s : List ℕ} {t : Token} {n : Noted} {count words bytes : ℕ} {zs : List Extent} (m : Measured s t n count zs words bytes) where
  -- the tree that the definition gives
  pub given : Given s words bytes
  given =
      record {
        tree = grammar_of (start_in t) m.surveyed.members;
        rest = stream s m.last;
        gives = grammar-read (tokens_at s 0) m.arrives m.surveyed.gives (m.noted.top ∙ m.top) ∙ rw (start-of s t);
        words_are = m.words_are;
        bytes-are = m.bytes-are;
        few = m.few;
        short = m.short;
      }

  module _ {ws ts : List ℕ} where
    -- there is no room for the words, or for the bytes
    pub stopped-words : length ws < words → Stopped s ws ts records_full 0
    stopped-words i = by-words (record { words = words; bytes = bytes; given = given; lacks = i; cause-is = refl; place_is = refl })

    pub stopped-bytes : words ≤ length ws → length ts < bytes → Stopped s ws ts texts_full 0
    stopped-bytes i j = by_bytes (record { words = words; bytes = bytes; given = given; fits = i; lacks = j; cause-is = refl; place_is = refl })

    -- there is room for all
    pub all_known : words ≤ length ws → bytes ≤ length ts → Known s t n count zs ws ts
    all_known i j = record { words = words; bytes = bytes; measured = m; words_fit = i; bytes_fit = j }
