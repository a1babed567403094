-- What is noted of declarations, one more at a time; a declaration that is read twice; the names of the last `@dialects`.
-- Assumes nothing.
use Prim.Native.Nat.{ℕ, ◌≤◌}
use native.Mathlib.Omega.{arith}
use mathlib.Core.Path.{◌≡◌, refl, sym, ◌∙◌}
use mathlib.Core.Bool.{Bool, false, not, ◌||◌, or_assoc, or-false}
use mathlib.Core.List.{List, [], ◌∷◌, ◌++◌, append-nil}
use mathlib.Core.Option.{none}
use Rattle.std.specs.Prelude.{Option, Some, None}
use lib.Dec.{eqb}
use lib.ListN.{length}
use Rattle.basics.proofs.Lists.{picked-one}
use Rattle.basics.specs.Basics.{if◌then◌otherwise◌, concat, is_empty, last_of, or_not, picked}
use Rattle.tree.specs.Promise.{kind_number}
use Rattle.tree.specs.declared.NodeKind.{NodeKind}
use Rattle.tree.specs.declared.NodeKind.TheVariants as K
use Rattle.tree.specs.Records.{texts_of}
use Rattle.tree.specs.Stored.{name_branch}
use Rattle.tree.specs.Syntax.{Identifier, Declaration, declaration_kind, has_kind}
use Rattle.notation.specs.Parser.{Answer, read, refused, next}
use Rattle.notation.specs.Members.{Member, declaration, dialects, external_prop, detect_delim, declared, declared_dialects, detects}
use Rattle.notation.specs.Declarations.{names, seen, is_top, has_top, parse_declaration}
use Rattle.tokens.specs.Promise.{stream, end_in, LiesIn}
use Rattle.parser.specs.Shapes.{IsToken}
use Rattle.parser.specs.Storing.{Lent, nodes_of}
use Rattle.parser.specs.Steps.{Ready, Lists}
use Rattle.lexer.specs.declared.Token.{Token}
use Rattle.parser.proofs.Stored.{stores-none}
use Rattle.parser.proofs.Onward.{placed_in}
use Rattle.parser.proofs.Lists.{flat-none}
use Rattle.reader.specs.Directives.{past, member_kind, member_branches, member_top, Declares}
use Rattle.reader.specs.Whole.{records_of, note_of, last_names, NamedAt, NamedIs, NotedIs, HasNames, Names}
use Rattle.reader.specs.declared.directives.Seen.{Seen}
use Rattle.reader.specs.declared.whole.Noted.{Noted}
use Rattle.reader.proofs.TopLaws.{before_of, before-seen, past_not, past-at, past-onward}
use Rattle.reader.specs.Ahead.{kind_ahead}
use Rattle.reader.proofs.AheadLaws.{declaration-yields}

-- ------------------------------------------------------------------ one more behind

-- a kind, and a top rule, among declarations
kinds-more : (k : ℕ) (ds es : List (Declaration ℕ)) → has_kind k (ds ++ es) ≡ has_kind k ds || has_kind k es
unfolding has_kind
kinds-more k [] es = refl
kinds-more k (d ∷ ds) es = rw (kinds-more k ds es) (sym (or_assoc (eqb (declaration_kind d) k) (has_kind k ds) (has_kind k es)))

tops-more : (ds es : List (Declaration ℕ)) → has_top (ds ++ es) ≡ has_top ds || has_top es
unfolding has_top
tops-more [] es = refl
tops-more (d ∷ ds) es = rw (tops-more ds es) (sym (or_assoc (is_top d) (has_top ds) (has_top es)))

-- a member is of a kind that only declarations have
kind-one : (k : ℕ) (m : Member ℕ) → eqb 1 k ≡ false → eqb 24 k ≡ false → eqb 25 k ≡ false → has_kind k (or_not (declared m) []) ≡ eqb (member_kind m) k
unfolding has_kind
kind-one k (declaration d) e f g = or-false (eqb (declaration_kind d) k)
kind-one k (dialects ns) e f g = sym f
kind-one k (external_prop x) e f g = sym g
kind-one k detect_delim e f g = sym e

seen_more : (k : ℕ) (ms : List (Member ℕ)) (m : Member ℕ) → eqb 1 k ≡ false → eqb 24 k ≡ false → eqb 25 k ≡ false → seen k (ms ++ m ∷ []) ≡ seen k ms || eqb (member_kind m) k
seen_more k ms m e f g = rw (picked-one declared ms m, kinds-more k (picked declared ms) (or_not (declared m) []), kind-one k m e f g)

top_one : (m : Member ℕ) → has_top (or_not (declared m) []) ≡ member_top m
unfolding has_top
top_one (declaration d) = or-false (is_top d)
top_one (dialects ns) = refl
top_one (external_prop x) = refl
top_one detect_delim = refl

top-more : (ms : List (Member ℕ)) (m : Member ℕ) → has_top (picked declared (ms ++ m ∷ [])) ≡ has_top (picked declared ms) || member_top m
top-more ms m = rw (picked-one declared ms m, tops-more (picked declared ms) (or_not (declared m) []), top_one m)

-- no declaration has the kind of `@detectDelim` or of dialects
no_detect : (d : Declaration ℕ) → eqb (declaration_kind d) 1 ≡ false
no_detect (Declaration.top_rule r) = refl
no_detect (Declaration.rule r) = refl
no_detect (Declaration.tokens x) = refl
no_detect (Declaration.local_tokens x) = refl
no_detect (Declaration.context x) = refl
no_detect (Declaration.external_tokens x) = refl
no_detect (Declaration.external_specializer x) = refl
no_detect (Declaration.external_prop_source x) = refl
no_detect (Declaration.precedences x) = refl
no_detect (Declaration.main_skip e) = refl
no_detect (Declaration.scoped_skip x) = refl

no_dialects : (d : Declaration ℕ) → eqb (declaration_kind d) 24 ≡ false
no_dialects (Declaration.top_rule r) = refl
no_dialects (Declaration.rule r) = refl
no_dialects (Declaration.tokens x) = refl
no_dialects (Declaration.local_tokens x) = refl
no_dialects (Declaration.context x) = refl
no_dialects (Declaration.external_tokens x) = refl
no_dialects (Declaration.external_specializer x) = refl
no_dialects (Declaration.external_prop_source x) = refl
no_dialects (Declaration.precedences x) = refl
no_dialects (Declaration.main_skip e) = refl
no_dialects (Declaration.scoped_skip x) = refl

detects-one : (us : List (Unit {0})) (m : Member ℕ) → not (is_empty (us ++ or_not (detects m) [])) ≡ not (is_empty us) || eqb (member_kind m) 1
detects-one (u ∷ us) m = refl
detects-one [] (declaration d) = sym (no_detect d)
detects-one [] (dialects ns) = refl
detects-one [] (external_prop x) = refl
detects-one [] detect_delim = refl

detects-more : (ms : List (Member ℕ)) (m : Member ℕ) → not (is_empty (picked detects (ms ++ m ∷ []))) ≡ not (is_empty (picked detects ms)) || eqb (member_kind m) 1
detects-more ms m = rw (picked-one detects ms m) (detects-one (picked detects ms) m)

-- ------------------------------------------------------------------ the last list of dialects

last_more : {A : Type 0} (xs : List A) (x : A) → last_of (xs ++ x ∷ []) ≡ x ∷ []
unfolding last_of
last_more [] x = refl
last_more (y ∷ []) x = refl
last_more (y ∷ z ∷ xs) x = last_more (z ∷ xs) x

names-last : (ms : List (Member ℕ)) (ns : List (Identifier ℕ)) → last_names (ms ++ dialects ns ∷ []) ≡ ns
unfolding last_names concat
names-last ms ns = rw (picked-one declared_dialects ms (dialects ns), last_more (picked declared_dialects ms) ns) (append-nil ns)

names-before : (ms : List (Member ℕ)) (m : Member ℕ) → declared_dialects m ≡ none → last_names (ms ++ m ∷ []) ≡ last_names ms
unfolding last_names
names-before ms m e = rw (picked-one declared_dialects ms m, e, append-nil (picked declared_dialects ms))

module _ (s : List ℕ) (last : Option Token) (ms : List (Member ℕ)) (t u : Token) (h : NamedIs s last (last_names ms)) (l : LiesIn s 0 t) (i : IsToken t) where
  named-before : (m : Member ℕ) → declared_dialects m ≡ none → eqb (member_kind m) 24 ≡ false → NamedIs s (if eqb (member_kind m) 24 then Some t otherwise last) (last_names (ms ++ m ∷ []))
  named-before m e f = rw (f, names-before ms m e) h

  named_more : (m : Member ℕ) → ((ns : List (Identifier ℕ)) → m ≡ dialects ns → past names (stream s t) ≡ read ns (stream s u))
      → NamedIs s (if eqb (member_kind m) 24 then Some t otherwise last) (last_names (ms ++ m ∷ []))
  named_more (declaration d) g = named-before (declaration d) refl (no_dialects d)
  named_more (dialects ns) g =
      let y : NamedAt s t ns = record { rest = stream s u; gives = g ns refl; lies = l; token = i } in
      rw (names-last ms ns) y
  named_more (external_prop x) g = named-before (external_prop x) refl refl
  named_more detect_delim g = named-before detect_delim refl refl

-- ------------------------------------------------------------------ what is noted

pub noted-start : (s : List ℕ) → NotedIs s (record { seen = record { tokens = false; context = false; precedence = false; skip = false }; top = false; delim = false; dialects = None }) []
unfolding picked has_kind has_top last_names concat last_of
noted-start s = record { seen = record { tokens = refl; context = refl; precedence = refl; skip = refl }; top = refl; delim = refl; named = refl }

-- of the other kinds no more than a top rule is noted
module _ (n : Noted) (t : Token) (top : Bool) where
  abbrev topped : Noted
  topped = record { seen = n.seen; top = n.top || top; delim = n.delim; dialects = n.dialects }

  same-noted : topped ≡ record {
    seen = record { tokens = n.seen.tokens || false; context = n.seen.context || false; precedence = n.seen.precedence || false; skip = n.seen.skip || false };
    top = n.top || top;
    delim = n.delim || false;
    dialects = n.dialects;
  }
  same-noted = rw (or-false n.seen.tokens, or-false n.seen.context, or-false n.seen.precedence, or-false n.seen.skip, or-false n.delim)

  pub noted-other : (k : NodeKind) → (k ≡ K.Grammar → ⊥) → (k ≡ K.Tokens → ⊥) → (k ≡ K.Context → ⊥) → (k ≡ K.Precedences → ⊥) → (k ≡ K.MainSkip → ⊥) → (k ≡ K.Dialect → ⊥) → topped ≡ note_of n t (kind_number k) top
  noted-other K.Grammar a b c d e f = absurd (a refl)
  noted-other K.TopRule a b c d e f = same-noted
  noted-other K.Rule a b c d e f = same-noted
  noted-other K.Param a b c d e f = same-noted
  noted-other K.Prop a b c d e f = same-noted
  noted-other K.PartText a b c d e f = same-noted
  noted-other K.PartName a b c d e f = same-noted
  noted-other K.Tokens a b c d e f = absurd (b refl)
  noted-other K.TokenPrecedence a b c d e f = same-noted
  noted-other K.TokenConflict a b c d e f = same-noted
  noted-other K.TokenLiteral a b c d e f = same-noted
  noted-other K.LocalTokens a b c d e f = same-noted
  noted-other K.NamedNode a b c d e f = same-noted
  noted-other K.Context a b c d e f = absurd (c refl)
  noted-other K.Source a b c d e f = same-noted
  noted-other K.ExternalTokens a b c d e f = same-noted
  noted-other K.ConflictName a b c d e f = same-noted
  noted-other K.ExternalSpecializer a b c d e f = same-noted
  noted-other K.PropSource a b c d e f = same-noted
  noted-other K.Precedences a b c d e f = absurd (d refl)
  noted-other K.PrecedenceItem a b c d e f = same-noted
  noted-other K.MainSkip a b c d e f = absurd (e refl)
  noted-other K.ScopedSkip a b c d e f = same-noted
  noted-other K.Dialect a b c d e f = absurd (f refl)
  noted-other K.ExternalProp a b c d e f = same-noted
  noted-other K.ExternalName a b c d e f = same-noted
  noted-other K.Name a b c d e f = same-noted
  noted-other K.Specialize a b c d e f = same-noted
  noted-other K.InlineRule a b c d e f = same-noted
  noted-other K.Choice a b c d e f = same-noted
  noted-other K.Sequence a b c d e f = same-noted
  noted-other K.Repeat a b c d e f = same-noted
  noted-other K.Literal a b c d e f = same-noted
  noted-other K.Set a b c d e f = same-noted
  noted-other K.Span a b c d e f = same-noted
  noted-other K.Any a b c d e f = same-noted
  noted-other K.Class a b c d e f = same-noted
  noted-other K.AmbiguityMarker a b c d e f = same-noted
  noted-other K.PrecedenceMarker a b c d e f = same-noted

-- one more that was read
pub noted_more : {s : List ℕ} {n : Noted} {ms : List (Member ℕ)} {D : List (Member ℕ) → Answer ℕ (Member ℕ)} {kind : ℕ} {top : Bool} {t u : Token} {a b : Lent} → NotedIs s n ms → LiesIn s 0 t → IsToken t
    → (p : Declares D n.seen s t a u b kind top) → NotedIs s (note_of n t kind top) (ms ++ p.value ∷ [])
noted_more {s} {n} {ms} {kind = kind} {top} {t} {u} h l i p =
    let m = p.value in
    record {
      seen =
          record {
            tokens = seen_more 8 ms m refl refl refl ∙ rw (h.seen.tokens, p.kinds);
            context = seen_more 14 ms m refl refl refl ∙ rw (h.seen.context, p.kinds);
            precedence = seen_more 20 ms m refl refl refl ∙ rw (h.seen.precedence, p.kinds);
            skip = seen_more 22 ms m refl refl refl ∙ rw (h.seen.skip, p.kinds);
          };
      top = top-more ms m ∙ rw (h.top, p.tops);
      delim = detects-more ms m ∙ rw (h.delim, p.kinds);
      named = rw (← p.kinds) (named_more s n.dialects ms t u h.named l i m p.named);
    }

-- how many branches a member has
declared-more : (d : Declaration ℕ) → 1 ≡ records_of (declaration_kind d)
declared-more d = rw (no_detect d, no_dialects d)

pub counted-more : (m : Member ℕ) → length (member_branches m) ≡ records_of (member_kind m)
counted-more (declaration d) = declared-more d
counted-more (dialects ns) = refl
counted-more (external_prop x) = refl
counted-more detect_delim = refl

-- ------------------------------------------------------------------ a declaration that is read twice

module _ (k : Seen) (s : List ℕ) (t : Token) where
  abbrev declaration_at : List (Member ℕ) → Answer ℕ (Member ℕ)
  declaration_at before = parse_declaration before (stream s t)

  -- a declaration that is read twice is the same
  pub same-declared : {a c d e : Lent} {u v : Token} {i j : ℕ} {x y : Bool} (f : Declares declaration_at k s t a u c i x) (g : Declares declaration_at k s t d v e j y) → f.value ≡ g.value
  same-declared f g = let p = f.gives (before_of k) (before-seen k) in let q = g.gives (before_of k) (before-seen k) in cc

  -- it has the kind that its first tokens tell
  pub declared-ahead : {a c : Lent} {u : Token} {i : ℕ} {x : Bool} (f : Declares declaration_at k s t a u c i x) {ahead : ℕ} → ahead ≡ kind_ahead (stream s t) → (ahead ≡ 0 → ⊥) → member_kind f.value ≡ ahead
  declared-ahead f e n = (declaration-yields (before_of k) (stream s t)).are f.value _ (f.gives (before_of k) (before-seen k)) (λ z. n (e ∙ z)) ∙ sym e

-- ------------------------------------------------------------------ the names of dialects

-- none
names-none : (s : List ℕ) (a : Lent) → Names [] s a a 0
unfolding texts_of
names-none s a =
    let e = flat-none (nodes_of (name_branch 24)) in
    record { counted = refl; stores = rw e (stores-none a); few = rw e (omega arith); short = rw e (omega arith) }

pub names_no : (s : List ℕ) (n : Noted) (a : Lent) → n.dialects ≡ None → (ns : List (Identifier ℕ)) → NamedIs s n.dialects ns → Names ns s a a 0
names_no s n a e ns h = let y : ns ≡ [] = rw e at h in rw y (names-none s a)

-- where there are some, the token behind `@dialects` is arrived at, and they are read there
module _ (s : List ℕ) (n : Noted) (last : Token) (y : n.dialects ≡ Some last) (has : HasNames s n) where
  named-at : (ns : List (Identifier ℕ)) → NamedIs s n.dialects ns → NamedAt s last ns
  named-at ns i = rw y at i

  pub names-arrive : {c p : ℕ} → next (stream s last) ≡ refused c p → ⊥
  names-arrive e =
      let f = past_not s last names e in
      let g = (named-at has.the has.are).gives in
      absurd (let z : ◌≡◌ {A = ℕ} 0 1 = cc in omega arith)

  module _ (u : Token) (h : (next (stream s last) ≡ read tt (stream s u)) × LiesIn s (end_in last) u) where
    pub names_ready : {a : Lent} → length s ≤ 0x10000 → a.n ≤ 0x10000000 → a.x ≤ 0x10000000 → Ready s u a
    names_ready b c d =
        let i = named-at has.the has.are in
        let o = past-onward s last u h i.token i.lies in
        record { lies = o.lies; small = omega arith; room = omega arith; space = omega arith }

    pub names-read : (a b : Lent) {v : Token} {count : ℕ} → Lists (names (stream s u)) (nodes_of (name_branch 24)) s u 2 a v b count
        → (ns : List (Identifier ℕ)) → NamedIs s n.dialects ns → Names ns s a b count
    names-read a b {v} {count} f ns i =
        let g = (named-at ns i).gives in
        let e = past-at s last u h names in
        let d = f.gives in
        let z : f.items ≡ ns = cc in
        let k = placed_in s v f.onward.lies in
        let p = f.lays.bound in
        let q = f.lays.space in
        let w : Names f.items s a b count = record { counted = f.counted; stores = f.lays.stores; few = omega arith; short = omega arith } in
        rw z at w

    -- they are never refused
    pub names-halt : {c p : ℕ} → names (stream s u) ≡ refused c p → ⊥
    names-halt d =
        let g = (named-at has.the has.are).gives in
        let e = past-at s last u h names in
        absurd (let z : ◌≡◌ {A = ℕ} 0 1 = cc in omega arith)
