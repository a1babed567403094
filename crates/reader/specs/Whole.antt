-- The whole of a grammar file: what is noted in a pass over its declarations, and what is stored of them all.
-- Assumes nothing.
use Rattle.std.specs.Prelude.{ℕ, ◌+◌, ◌*◌, ◌≤◌, ◌<◌, ◌≡◌, Bool, true, not, ◌||◌, List, [], ◌∷◌, eqb, length, get_or, set, Option, Some, None, Result, Ok, Err}
use Rattle.error.specs.declared.Stop.{Stop}
use Rattle.basics.specs.Basics.{if◌then◌otherwise◌, is_empty, over, picked, concat, last_of}
use Rattle.error.specs.Causes.{records_full, texts_full}
use Rattle.error.specs.Promise.{cause_number}
use Rattle.lexer.specs.Tokens.{Tokens}
use Rattle.lexer.specs.Promise.{tokens_at}
use Rattle.tree.specs.Records.{nodes, texts_of, width}
use Rattle.tree.specs.Stored.{name_branch, grammar_words, grammar_texts}
use Rattle.tree.specs.Syntax.{Identifier, GrammarDeclaration}
use Rattle.notation.specs.Parser.{read, refused, Parser, ◌>>=◌, pure, kind, is_end, until, nothing, arrive}
use Rattle.notation.specs.Members.{Member, declared, declared_dialects, detects}
use Rattle.notation.specs.Declarations.{names, has_top, parse_declaration, parse_grammar, grammar_of}
use Rattle.tokens.specs.Promise.{stream, start_in, LiesIn}
use Rattle.parser.specs.Shapes.{IsToken}
use Rattle.parser.specs.Storing.{Lent, lent, Stores, flat, nodes_of}
use Rattle.parser.specs.Steps.{Onward, Lays}
use Rattle.lexer.specs.declared.Token.{Token}
use Rattle.parser.specs.declared.store.Store.{Store}
use Rattle.tree.specs.Promise.{kind_number}
use Rattle.reader.specs.Groups.{all_of, MeasuredAs}
use Rattle.reader.specs.Places.{place_in, words_in, bytes_in, group_at, Fills}
use Rattle.reader.specs.Directives.{past, member_kind, member_branches, SeenIs, Declares}
use Rattle.reader.specs.declared.directives.Seen.{Seen}
use Rattle.reader.specs.declared.blocks.Extent.{Extent}
use Rattle.reader.specs.declared.directives.Declared.{Declared}
use Rattle.reader.specs.declared.whole.Noted.{Noted}
use Rattle.reader.specs.declared.whole.Passed.{Passed}
use Rattle.reader.specs.declared.whole.Measurement.{Measurement}

-- the declarations up to the end
abbrev pub members : Parser ℕ (List (Member ℕ))
members = until (kind >>= λ k. pure (is_end k)) nothing parse_declaration

-- ------------------------------------------------------------------ what is noted

-- how many records of its own a declaration of a kind has in the grammar's: dialects are counted apart
abbrev pub records_of : (kind : ℕ) → ℕ
records_of k = if eqb k 1 || eqb k 24 then 0 otherwise 1

-- a declaration of a kind, which begins at the token t, is noted
abbrev pub note_of : Noted → (t : Token) → (kind : ℕ) → (top : Bool) → Noted
note_of n t k top =
    record {
      seen =
          record {
            tokens = n.seen.tokens || eqb k 8;
            context = n.seen.context || eqb k 14;
            precedence = n.seen.precedence || eqb k 20;
            skip = n.seen.skip || eqb k 22;
          };
      top = n.top || top;
      delim = n.delim || eqb k 1;
      dialects = if eqb k 24 then Some t otherwise n.dialects;
    }

-- the names of the last `@dialects`
unfoldable pub last_names : List (Member ℕ) → List (Identifier ℕ)
last_names ms = concat (last_of (picked declared_dialects ms))

-- the names are those that are read at the token last
pub record NamedAt (s : List ℕ) (last : Token) (ns : List (Identifier ℕ)) : Type 0 where
  pub rest : Tokens ℕ
  pub gives : past names (stream s last) ≡ read ns rest
  pub lies : LiesIn s 0 last
  pub token : IsToken last

-- the names are those that are read at the token last, if a list of dialects was noted; else there are none
abbrev pub NamedIs : List ℕ → Option Token → List (Identifier ℕ) → Type 0
NamedIs s None ns = ns ≡ []
NamedIs s (Some last) ns = NamedAt s last ns

-- what is noted of members
pub record NotedIs (s : List ℕ) (n : Noted) (ms : List (Member ℕ)) : Type 0 where
  pub seen : SeenIs n.seen ms
  pub top : has_top (picked declared ms) ≡ n.top
  pub delim : not (is_empty (picked detects ms)) ≡ n.delim
  pub named : NamedIs s n.dialects (last_names ms)

-- ------------------------------------------------------------------ groups

-- the kinds of all that is stored but dialects, in the order of their groups: declarations and external props
abbrev pub stored_kinds : List ℕ
stored_kinds = 2 ∷ 3 ∷ 8 ∷ 12 ∷ 14 ∷ 16 ∷ 18 ∷ 19 ∷ 20 ∷ 22 ∷ 23 ∷ 25 ∷ []

-- the group of a member; what has no records in one stands behind them all
abbrev pub member_place : Member ℕ → ℕ
member_place m = place_in stored_kinds (member_kind m)

-- how many groups there are: one for each stored kind, and the one behind them all
abbrev pub group_count : ℕ
group_count = 13

-- with these kinds before, a declaration is read that takes so many words and bytes, and it is stored where its group goes on
pub record Places (k : Seen) (s : List ℕ) (t : Token) (ps qs ps₁ qs₁ ws ts vs us : List ℕ) (u : Token) (words bytes kind : ℕ) (top : Bool) : Type 0 where
  pub declares : Declares (λ before. parse_declaration before (stream s t)) k s t (lent 0 [] 0 []) u (lent words [] bytes []) kind top
  pub words-on : ps₁ ≡ set ps (member_place declares.value) (get_or ps (member_place declares.value) 0 + words)
  pub bytes_on : qs₁ ≡ set qs (member_place declares.value) (get_or qs (member_place declares.value) 0 + bytes)
  pub stores : Stores (flat nodes (member_branches declares.value)) (lent (get_or ps (member_place declares.value) 0) ws (get_or qs (member_place declares.value) 0) ts)
      (lent (get_or ps (member_place declares.value) 0 + words) vs (get_or qs (member_place declares.value) 0 + bytes) us)

-- what an answer says of a declaration, with these kinds before: it is stored where its group goes on, or it is this refusal
abbrev pub PlacesTo : Seen → List ℕ → Token → (places after : List Extent) → (a c : Store) → Result (Declared × Extent) Stop → Type 0
PlacesTo k s t ps qs a c (Ok (d, size)) = Places k s t (words_in ps) (bytes_in ps) (words_in qs) (bytes_in qs) a.records.now a.texts.now c.records.now c.texts.now d.token size.words size.bytes (kind_number d.kind) d.top
PlacesTo k s t ps qs a c (Err e) = (before : List (Member ℕ)) → SeenIs k before → parse_declaration before (stream s t) ≡ refused (cause_number e.cause) e.place

-- ------------------------------------------------------------------ a pass

-- all declarations are read, which take so many words and bytes, and their groups are filled in
pub record Passes (s : List ℕ) (t : Token) (ps qs ps₁ qs₁ ws ts vs us : List ℕ) (u : Token) (words bytes count : ℕ) (n : Noted) : Type 0 where
  pub found : List (Member ℕ)
  pub gives : members (stream s t) ≡ read found (stream s u)
  pub onward : Onward s t u 0
  pub counted : length (all_of member_kind member_branches 0 found) ≡ count
  pub lays : Lays s t u 0 (flat nodes (all_of member_kind member_branches 0 found)) (lent 0 [] 0 []) (lent words [] bytes [])
  pub noted : NotedIs s n found
  pub fills : Fills member_place member_branches group_count found ps qs ps₁ qs₁ ws ts vs us

-- what an answer says of all declarations: they are noted and their groups filled in, or they are refused with this cause and place
abbrev pub PassesTo : List ℕ → Token → (places after : List Extent) → (a c : Store) → Result Passed Stop → Type 0
PassesTo s t ps qs a c (Ok r) = Passes s t (words_in ps) (bytes_in ps) (words_in qs) (bytes_in qs) a.records.now a.texts.now c.records.now c.texts.now r.end r.size.words r.size.bytes r.count r.noted
PassesTo s t ps qs a c (Err e) = members (stream s t) ≡ refused (cause_number e.cause) e.place

-- ------------------------------------------------------------------ dialects

-- there are names as is noted
pub record HasNames (s : List ℕ) (n : Noted) : Type 0 where
  pub the : List (Identifier ℕ)
  pub are : NamedIs s n.dialects the

-- the names are stored, so many, with at most two nodes for each byte of the text and three bytes
pub record Names (ns : List (Identifier ℕ)) (s : List ℕ) (a b : Lent) (count : ℕ) : Type 0 where
  pub counted : length ns ≡ count
  pub stores : Stores (flat (nodes_of (name_branch 24)) ns) a b
  pub few : length (flat (nodes_of (name_branch 24)) ns) ≤ 2 * length s
  pub short : length (texts_of (flat (nodes_of (name_branch 24)) ns)) ≤ 3 * length s

-- what an answer says of the names that are noted: they are stored; they are never refused
abbrev pub NamesTo : List ℕ → Noted → (a b : Lent) → Result ℕ Stop → Type 0
NamesTo s n a b (Ok count) = (ns : List (Identifier ℕ)) → NamedIs s n.dialects ns → Names ns s a b count
NamesTo s n a b (Err e) = ⊥

-- ------------------------------------------------------------------ what is measured

-- the sizes of the groups of members, in words and in bytes
pub record Sizes (ms : List (Member ℕ)) (words bytes : List ℕ) : Type 0 where
  pub words-all : length words ≡ group_count
  pub bytes-all : length bytes ≡ group_count
  pub words_are : (g : ℕ) → g < group_count → get_or words g 0 ≡ width * length (flat nodes (group_at member_place member_branches g ms))
  pub bytes-are : (g : ℕ) → g < group_count → get_or bytes g 0 ≡ length (texts_of (flat nodes (group_at member_place member_branches g ms)))

-- all declarations are measured
abbrev pub Surveyed : List ℕ → (t last : Token) → Type 0
Surveyed s t last = MeasuredAs (members (stream s t)) member_kind member_branches 0 s t last

-- all is measured: there is a top rule, and the tree takes so many words and bytes, at most four records for each byte of the text and the
-- grammar's own, and six bytes of texts
pub record Measured (s : List ℕ) (t : Token) (n : Noted) (count : ℕ) (sizes_of : List Extent) (words bytes : ℕ) : Type 0 where
  pub last : Token
  pub arrives : arrive (tokens_at s 0) ≡ read tt (stream s t)
  pub surveyed : Surveyed s t last
  pub noted : NotedIs s n surveyed.members
  pub top : n.top ≡ true
  pub counted : length (all_of member_kind member_branches 0 surveyed.members) + length (last_names surveyed.members) ≡ count
  pub sizes : Sizes surveyed.members (words_in sizes_of) (bytes_in sizes_of)
  pub words_are : words ≡ length (grammar_words (grammar_of (start_in t) surveyed.members))
  pub bytes-are : bytes ≡ length (grammar_texts (grammar_of (start_in t) surveyed.members))
  pub few : words ≤ 28 * length s + 7
  pub short : bytes ≤ 6 * length s

-- what an answer says of all that is measured: the tree takes so much, or the definition refuses the text with this cause and place
abbrev pub MeasuredTo : List ℕ → Token → (sizes_of : List Extent) → Result Measurement Stop → Type 0
MeasuredTo s t zs (Ok m) = Measured s t m.noted m.count zs m.size.words m.size.bytes
MeasuredTo s t zs (Err e) = parse_grammar (tokens_at s 0) ≡ refused (cause_number e.cause) e.place

-- all is measured, and there is room for it
pub record Known (s : List ℕ) (t : Token) (n : Noted) (count : ℕ) (sizes_of : List Extent) (ws ts : List ℕ) : Type 0 where
  pub words : ℕ
  pub bytes : ℕ
  pub measured : Measured s t n count sizes_of words bytes
  pub words_fit : words ≤ length ws
  pub bytes_fit : bytes ≤ length ts

-- ------------------------------------------------------------------ the whole

-- the first token of a text; it lies in the text
pub record First (s : List ℕ) (t : Token) : Type 0 where
  pub arrives : arrive (tokens_at s 0) ≡ read tt (stream s t)
  pub lies : LiesIn s 0 t

-- the tree that the definition gives takes so many words and bytes: at most four records for each byte of the text and the grammar's own,
-- and six bytes of texts
pub record Given (s : List ℕ) (words bytes : ℕ) : Type 0 where
  pub tree : GrammarDeclaration ℕ
  pub rest : Tokens ℕ
  pub gives : parse_grammar (tokens_at s 0) ≡ read tree rest
  pub words_are : words ≡ length (grammar_words tree)
  pub bytes-are : bytes ≡ length (grammar_texts tree)
  pub few : words ≤ 28 * length s + 7
  pub short : bytes ≤ 6 * length s

-- what an answer says of how much the tree of a text takes, or that the definition refuses the text
abbrev pub Measures : List ℕ → Result Extent Stop → Type 0
Measures s (Ok r) = Given s r.words r.bytes
Measures s (Err e) = parse_grammar (tokens_at s 0) ≡ refused (cause_number e.cause) e.place

-- the tree is stored, and there was room for it
pub record Read (s ws ts vs us : List ℕ) (words bytes : ℕ) : Type 0 where
  pub given : Given s words bytes
  pub words_fit : words ≤ length ws
  pub bytes_fit : bytes ≤ length ts
  pub records : vs ≡ over (grammar_words given.tree) ws
  pub texts : us ≡ over (grammar_texts given.tree) ts

-- the tree needs more words than are lent: `records_full` at place 0
pub record NoWords (s ws : List ℕ) (cause place : ℕ) : Type 0 where
  pub words : ℕ
  pub bytes : ℕ
  pub given : Given s words bytes
  pub lacks : length ws < words
  pub cause-is : cause ≡ records_full
  pub place_is : place ≡ 0

-- the tree needs no more words than are lent, but more bytes: `texts_full` at place 0
pub record NoBytes (s ws ts : List ℕ) (cause place : ℕ) : Type 0 where
  pub words : ℕ
  pub bytes : ℕ
  pub given : Given s words bytes
  pub fits : words ≤ length ws
  pub lacks : length ts < bytes
  pub cause-is : cause ≡ texts_full
  pub place_is : place ≡ 0

-- the definition refuses, or there is no room
pub data Stopped (s ws ts : List ℕ) (cause place : ℕ) : Type 0 where
  by-text : parse_grammar (tokens_at s 0) ≡ refused cause place → Stopped s ws ts cause place
  by-words : NoWords s ws cause place → Stopped s ws ts cause place
  by_bytes : NoBytes s ws ts cause place → Stopped s ws ts cause place

-- what a text, and words and bytes that are lent, give: the answer, and what they hold afterwards
abbrev pub Reads : (s words texts words_after texts_after : List ℕ) → Result Extent Stop → Type 0
Reads s ws ts vs us (Ok r) = Read s ws ts vs us r.words r.bytes
Reads s ws ts vs us (Err e) = Stopped s ws ts (cause_number e.cause) e.place × (vs ≡ ws) × (us ≡ ts)
