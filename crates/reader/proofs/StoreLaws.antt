-- All that was measured is stored: the dialects, the groups and the grammar's record are the grammar's words and texts.
-- Assumes nothing.
use Prim.Native.Nat.{ℕ, ◌+◌, ◌*◌, ◌≤◌, ◌<◌, ◌^◌}
use native.Mathlib.Omega.{arith}
use mathlib.Core.Path.{◌≡◌, refl, ap, sym, ◌∙◌}
use mathlib.Core.List.{List, [], ◌∷◌, ◌++◌}
use lib.ListN.{length, get_or, set}
use Rattle.characters.specs.Promise.{written}
use Rattle.characters.proofs.Written.{written_in}
use Rattle.lexer.specs.Promise.{tokens_at}
use Rattle.tree.specs.Records.{Branch, Node, nodes, width, texts_of, words, records_from}
use Rattle.tree.specs.Stored.{name_branch, flag, grammar_branch, grammar_words, grammar_texts}
use Rattle.tree.specs.Syntax.{Identifier}
use Rattle.reader.specs.declared.blocks.Extent.{Extent}
use Rattle.notation.specs.Members.{Member}
use Rattle.notation.specs.Declarations.{grammar_of}
use Rattle.parser.specs.Storing.{Lent, lent, Stores, node, flat, nodes_of}
use Rattle.lexer.specs.declared.Token.{Token}
use Rattle.parser.proofs.Onward.{placed_in, start_small}
use Rattle.parser.proofs.Ready.{flat-length}
use Rattle.tokens.specs.Promise.{stream, start_in, LiesIn}
use Rattle.tokens.proofs.Stream.{start-of}
use Rattle.parser.proofs.Stored.{words-length}
use Rattle.reader.specs.Groups.{all_of}
use Rattle.reader.specs.Places.{words_in, bytes_in, sum, lined_up, Fills, Begins}
use Rattle.reader.specs.Directives.{member_kind, member_branches}
use Rattle.reader.specs.Whole.{last_names, stored_kinds, member_place, HasNames, NamedIs, Names, Passes, Known, Read, group_count}
use Rattle.basics.specs.Basics.{over}
use Rattle.reader.specs.declared.whole.Noted.{Noted}
use Rattle.reader.proofs.GroupSizes.{number, nodes-of, bytes_of, groups_weigh}
use Rattle.reader.proofs.Gathered.{together}
use Rattle.reader.proofs.GrammarGroups.{top_one, grammar_children, grammar-nodes}
use Rattle.reader.proofs.TopPlaces.{stored-distinct}
use Rattle.reader.proofs.Filling.{put-words, put-texts}
use Rattle.reader.proofs.GroupPlaces.{in_words, in_bytes, group_is}
use Rattle.reader.proofs.WholeFilled.{stored-positive, stored_before, group_of, sum_is, lined-is, places_all, place-first, place_eleven, place-behind, places_few, all-written}
use Rattle.reader.proofs.ParseLaws.{words-of, texts-of, top_weighs, grammar-words, grammar-bytes, grammar-read}

-- written from the first on
at_front : (bs out : List ℕ) → length bs ≤ length out → written out 0 bs ≡ over bs out
at_front bs out h = let e : 0 + length bs ≡ length bs = omega arith in written_in out 0 bs (omega arith) ∙ rw e

module _ {s : List ℕ} {t : Token} {noted : Noted} {count : ℕ} {zs : List Extent} {ws ts : List ℕ} (z : length s ≤ 0x10000) (l : LiesIn s 0 t) (known : Known s t noted count zs ws ts) where
  abbrev ps : List ℕ
  ps = words_in zs

  abbrev qs : List ℕ
  qs = bytes_in zs

  abbrev ms : List (Member ℕ)
  ms = known.measured.surveyed.members

  pub known-names : HasNames s noted
  known-names = record { the = last_names ms; are = known.measured.noted.named }

  pub known-named : {a b : Lent} {m : ℕ} → ((ns : List (Identifier ℕ)) → NamedIs s noted.dialects ns → Names ns s a b m) → Names (last_names ms) s a b m
  known-named h = h (last_names ms) known.measured.noted.named

  known-bound : (length (flat nodes (all_of member_kind member_branches 0 ms)) ≤ 0x20000) × (length (texts_of (flat nodes (all_of member_kind member_branches 0 ms))) ≤ 0x30000)
  known-bound =
      let p = placed_in s known.measured.last known.measured.surveyed.onward.lies in
      let b = known.measured.surveyed.bound in
      let c = known.measured.surveyed.space in
      (omega arith, omega arith)

  -- the sizes of the groups, added up
  words-sum : sum ps ≡ width * length (flat nodes (all_of member_kind member_branches 0 ms))
  words-sum =
      let a = sum_is in_words ms ps known.measured.sizes.words-all known.measured.sizes.words_are in
      let b = groups_weigh member_kind member_branches nodes-of stored_kinds top_one ms in
      omega arith

  bytes-sum : sum qs ≡ length (texts_of (flat nodes (all_of member_kind member_branches 0 ms)))
  bytes-sum = sum_is in_bytes ms qs known.measured.sizes.bytes-all known.measured.sizes.bytes-are ∙ groups_weigh member_kind member_branches bytes_of stored_kinds top_one ms

  pub words_small : sum ps < 2 ^ 64
  words_small = let a = words-sum in let b = known-bound.0 in omega arith

  pub bytes_small : sum qs < 2 ^ 64
  bytes_small = let a = bytes-sum in let b = known-bound.1 in omega arith

  module _ {ps₁ qs₁ : List ℕ} (e : ps₁ ≡ lined_up 0 ps) (f : qs₁ ≡ lined_up 0 qs) where
    words-at : get_or ps₁ 11 0 ≡ width * length (stored_before ms 11)
    words-at = lined-is in_words ms ps known.measured.sizes.words-all known.measured.sizes.words_are e 11 (omega arith)

    bytes-at : get_or qs₁ 11 0 ≡ length (texts_of (stored_before ms 11))
    bytes-at = lined-is in_bytes ms qs known.measured.sizes.bytes-all known.measured.sizes.bytes-are f 11 (omega arith)

    pub names_at : (get_or ps₁ 11 0 ≤ 0x100000) × (get_or qs₁ 11 0 ≤ 0x100000)
    names_at =
        let a = top_weighs ms nodes-of in
        let b = top_weighs ms bytes_of in
        let c = known-bound.0 in
        let d = known-bound.1 in
        let g = words-at in
        let h = bytes-at in
        (omega arith, omega arith)

    module _ {k x named : ℕ} {vs us : List ℕ} (names : Names (last_names ms) s (lent (get_or ps₁ 11 0) ws (get_or qs₁ 11 0) ts) (lent k vs x us) named) where
      abbrev naming : List Node
      naming = flat (nodes_of (name_branch 24)) (last_names ms)

      last-small : (k ≤ 0x1000000) × (x ≤ 0x1000000)
      last-small =
          let a = names_at.0 in
          let b = names_at.1 in
          let c = names.few in
          let d = names.short in
          let g = names.stores.words-end in
          let h = names.stores.texts-end in
          (omega arith, omega arith)

      pub pass_begins : Begins group_count 0x1000000 s t (set ps₁ 11 k) (set qs₁ 11 x)
      pass_begins =
          let a = words-sum in
          let b = bytes-sum in
          let c = known-bound.0 in
          let d = known-bound.1 in
          record {
            lies = l;
            small = z;
            words-all = places_all in_words ms ps known.measured.sizes.words-all known.measured.sizes.words_are e k;
            bytes-all = places_all in_bytes ms qs known.measured.sizes.bytes-all known.measured.sizes.bytes-are f x;
            words-few = places_few in_words ms ps known.measured.sizes.words-all known.measured.sizes.words_are e k 0x1000000 (omega arith) last-small.0;
            bytes-few = places_few in_bytes ms qs known.measured.sizes.bytes-all known.measured.sizes.bytes-are f x 0x1000000 (omega arith) last-small.1;
          }

      count_small : count < 2 ^ 32
      count_small =
          let a = known.measured.counted in
          let b = flat-length (λ (x : Branch). x) (all_of member_kind member_branches 0 ms) in
          let c = known-bound.0 in
          let d = flat-length (name_branch 24) (last_names ms) in
          let g = names.few in
          omega arith

      module _ {u : Token} {n₂ y₂ count₂ : ℕ} {noted₂ : Noted} {ps₂ qs₂ vs₂ us₂ : List ℕ} (passes : Passes s t (set ps₁ 11 k) (set qs₁ 11 x) ps₂ qs₂ vs us vs₂ us₂ u n₂ y₂ count₂ noted₂) where
        fills : Fills member_place member_branches 13 ms (set ps₁ 11 k) (set qs₁ 11 x) ps₂ qs₂ vs us vs₂ us₂
        fills = let q : passes.found ≡ ms = together passes.gives known.measured.surveyed.gives in rw q at passes.fills

        words-end : get_or ps₂ 11 0 ≡ k + width * length (group_of ms 11)
        words-end = let a = place_eleven in_words ms ps known.measured.sizes.words-all known.measured.sizes.words_are e k in let b = fills.words-on 11 (omega arith) in omega arith

        bytes-end : get_or qs₂ 11 0 ≡ x + length (texts_of (group_of ms 11))
        bytes-end = let a = place_eleven in_bytes ms qs known.measured.sizes.bytes-all known.measured.sizes.bytes-are f x in let b = fills.bytes_on 11 (omega arith) in omega arith

        -- the last group is that of external props
        props-are : group_of ms 11 ≡ flat nodes (all_of member_kind member_branches 25 ms)
        props-are = ap (flat nodes) (group_is member_kind member_branches stored_kinds stored-distinct stored-positive 11 (omega arith) ms)

        pub put_asks : {p : ℕ} → p ≡ start_in t → (get_or ps₂ 11 0 + 7 < 2 ^ 64) × (p < 2 ^ 32) × (count < 2 ^ 32)
        put_asks g =
            let a = words-end in
            let b = last-small.0 in
            let c = ap length props-are in
            let d = top_weighs ms nodes-of in
            let h = known-bound.0 in
            let i = start_small s t l in
            (omega arith, omega arith, count_small)

        abbrev own : List Node
        own = node 1 (start_in t) [] (flag noted.delim) 0 count ∷ []

        own-textless : length (texts_of own) ≡ 0
        unfolding texts_of
        own-textless = refl

        -- how many branches the grammar's record has
        children : grammar_children ms ≡ count
        children = let a = top_weighs ms number in let b = known.measured.counted in omega arith

        whole-nodes : nodes (grammar_branch (grammar_of (start_in t) ms)) ≡ stored_before ms 11 ++ naming ++ group_of ms 11 ++ own
        whole-nodes = grammar-nodes (start_in t) ms ∙ rw (known.measured.noted.delim, children, props-are)

        words_are : grammar_words (grammar_of (start_in t) ms) ≡ words (records_from 0 (stored_before ms 11 ++ naming ++ group_of ms 11 ++ own))
        words_are = words-of (grammar_of (start_in t) ms) ∙ ap (λ (l : List Node). words (records_from 0 l)) whole-nodes

        texts-are : grammar_texts (grammar_of (start_in t) ms) ≡ texts_of (stored_before ms 11 ++ naming ++ group_of ms 11 ++ own)
        texts-are = texts-of (grammar_of (start_in t) ms) ∙ ap texts_of whole-nodes

        module _ {p v j i : ℕ} {vs₃ us₃ : List ℕ} (pe : p ≡ start_in t) (ve : v ≡ flag noted.delim)
            (put : Stores (node 1 p [] v 0 count ∷ []) (lent (get_or ps₂ 11 0) vs₂ (get_or qs₂ 11 0) us₂) (lent j vs₃ i us₃)) where
          stores-own : Stores own (lent (get_or ps₂ 11 0) vs₂ (get_or qs₂ 11 0) us₂) (lent j vs₃ i us₃)
          stores-own = rw (pe, ve) at put

          words_fit : width * length (stored_before ms 11 ++ naming ++ group_of ms 11 ++ own) ≤ length ws
          words_fit = let a = known.words_fit in let m = known.measured.words_are in let b = ap length words_are in let c = words-length 0 (stored_before ms 11 ++ naming ++ group_of ms 11 ++ own) in omega arith

          bytes_fit : length (texts_of (stored_before ms 11 ++ naming ++ group_of ms 11 ++ own)) ≤ length ts
          bytes_fit = let a = known.bytes_fit in let m = known.measured.bytes-are in let b = ap length texts-are in omega arith

          words-written : vs₃ ≡ written ws 0 (words (records_from 0 (stored_before ms 11 ++ naming ++ group_of ms 11 ++ own)))
          words-written =
              all-written in_words ms naming own words-at bytes-at names.stores.words-end names.stores.texts-end words-end bytes-end (set ps₁ 11 k) (set qs₁ 11 x)
              (place-first in_words ms ps known.measured.sizes.words-all known.measured.sizes.words_are e k)
              (place-first in_bytes ms qs known.measured.sizes.bytes-all known.measured.sizes.bytes-are f x)
              (place_eleven in_words ms ps known.measured.sizes.words-all known.measured.sizes.words_are e k)
              (place_eleven in_bytes ms qs known.measured.sizes.bytes-all known.measured.sizes.bytes-are f x)
              (place-behind in_words ms ps known.measured.sizes.words-all known.measured.sizes.words_are e k naming own)
              words_fit (put-words names.stores) fills.records (put-words stores-own)

          bytes-written : us₃ ≡ written ts 0 (texts_of (stored_before ms 11 ++ naming ++ group_of ms 11 ++ own))
          bytes-written =
              all-written in_bytes ms naming own bytes-at bytes-at names.stores.texts-end names.stores.texts-end bytes-end bytes-end (set qs₁ 11 x) (set qs₁ 11 x)
              (place-first in_bytes ms qs known.measured.sizes.bytes-all known.measured.sizes.bytes-are f x)
              (place-first in_bytes ms qs known.measured.sizes.bytes-all known.measured.sizes.bytes-are f x)
              (place_eleven in_bytes ms qs known.measured.sizes.bytes-all known.measured.sizes.bytes-are f x)
              (place_eleven in_bytes ms qs known.measured.sizes.bytes-all known.measured.sizes.bytes-are f x)
              (place-behind in_bytes ms qs known.measured.sizes.bytes-all known.measured.sizes.bytes-are f x naming own)
              bytes_fit (put-texts names.stores) fills.texts (put-texts stores-own)

          -- how many words and bytes are taken
          words-taken : j ≡ length (grammar_words (grammar_of (start_in t) ms))
          words-taken =
              let a = stores-own.words-end in
              let b = words-end in
              let c = names.stores.words-end in
              let d = words-at in
              let g = grammar-words (start_in t) ms in
              let h = top_weighs ms nodes-of in
              let k = ap length props-are in
              omega arith

          bytes-taken : i ≡ length (grammar_texts (grammar_of (start_in t) ms))
          bytes-taken =
              let a = stores-own.texts-end in
              let e = own-textless in
              let b = bytes-end in
              let c = names.stores.texts-end in
              let d = bytes-at in
              let g = grammar-bytes (start_in t) ms in
              let h = top_weighs ms bytes_of in
              let k = ap (λ (l : List Node). length (texts_of l)) props-are in
              omega arith

          pub whole-read : Read s ws ts vs₃ us₃ j i
          whole-read =
              let a = words-taken in
              let b = bytes-taken in
              let c = known.words_fit in
              let d = known.bytes_fit in
              let m = known.measured.words_are in
              let n = known.measured.bytes-are in
              let q = known.measured.few in
              let r = known.measured.short in
              record {
                given =
                    record {
                      tree = grammar_of (start_in t) ms;
                      rest = stream s known.measured.last;
                      gives = grammar-read (tokens_at s 0) known.measured.arrives known.measured.surveyed.gives (known.measured.noted.top ∙ known.measured.top) ∙ rw (start-of s t);
                      words_are = a;
                      bytes-are = b;
                      few = omega arith;
                      short = omega arith;
                    };
                words_fit = omega arith;
                bytes_fit = omega arith;
                records = words-written ∙ ap (λ (l : List ℕ). written ws 0 l) (sym words_are) ∙ at_front (grammar_words (grammar_of (start_in t) ms)) ws (omega arith);
                texts = bytes-written ∙ ap (λ (l : List ℕ). written ts 0 l) (sym texts-are) ∙ at_front (grammar_texts (grammar_of (start_in t) ms)) ts (omega arith);
              }
