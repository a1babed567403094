-- A declaration that is stored where its group goes on.
-- Assumes nothing.
use Prim.Native.Nat.{ℕ, ◌+◌, ◌-◌, ◌≤◌, ◌<◌, ◌^◌}
use native.Mathlib.Omega.{arith}
use mathlib.Core.Path.{◌≡◌, refl, ap, sym, ◌∙◌}
use mathlib.Core.Bool.{Bool}
use mathlib.Core.List.{List, []}
use lib.ListN.{length, get_or, set}
use Rattle.characters.specs.Promise.{written}
use Rattle.characters.proofs.Written.{length-written}
use Rattle.tree.specs.Records.{nodes}
use Rattle.notation.specs.Declarations.{parse_declaration}
use Rattle.tokens.specs.Promise.{stream}
use Rattle.parser.specs.Storing.{Lent, lent, Stores, flat}
use Rattle.tree.specs.Promise.{kind_number}
use Rattle.tree.specs.declared.NodeKind.{NodeKind}
use Rattle.tree.specs.declared.NodeKind.TheVariants as K
use Rattle.lexer.specs.declared.Token.{Token}
use Rattle.parser.proofs.Onward.{placed_in}
use Rattle.reader.specs.Blocks.{Roomy}
use Rattle.reader.specs.Places.{place_in, Begins}
use Rattle.reader.specs.Directives.{member_branches, Declares}
use Rattle.reader.specs.Ahead.{kind_ahead}
use Rattle.reader.specs.Whole.{stored_kinds, member_place, Places, group_count}
use Rattle.reader.specs.declared.directives.Seen.{Seen}
use Rattle.reader.proofs.BlockGathered.{both-none, stores-sizes, lays-alone}
use Rattle.reader.proofs.PlaceLaws.{place-within}
use Rattle.reader.proofs.WholeLaws.{same-declared, declared-ahead}

pub place-in : (k : ℕ) {p : ℕ} → p ≡ place_in stored_kinds k → p < 13
place-in k e = let h = place-within stored_kinds k in omega arith

module _ {s : List ℕ} {t : Token} {ps qs : List ℕ} (b : Begins group_count 0x10000000 s t ps qs) where
  -- where a group goes on there is room, as there is at the start
  pub begins_roomy : (p : ℕ) {ws ts : List ℕ} → Roomy s t (lent (get_or ps p 0) ws (get_or qs p 0) ts)
  begins_roomy p =
      let a = b.words-few p in
      let c = b.bytes-few p in
      let d = b.small in
      record { lies = b.lies; small = d; room = omega arith; space = omega arith }

  pub begins-first : {a : Lent} → a ≡ lent 0 [] 0 [] → Roomy s t a
  begins-first e = let d = b.small in let w : Roomy s t (lent 0 [] 0 []) = record { lies = b.lies; small = d; room = omega arith; space = omega arith } in rw e w

-- what is read over nothing stores nothing
pub measured : {k : Seen} {s : List ℕ} {t : Token} {a c : Lent} {u : Token} {kind : ℕ} {top : Bool} → a ≡ lent 0 [] 0 [] → Declares (λ before. parse_declaration before (stream s t)) k s t a u c kind top
    → Declares (λ before. parse_declaration before (stream s t)) k s t (lent 0 [] 0 []) u (lent c.n [] c.x []) kind top
measured {k} {s} {t} {c = c} {u} {kind} {top} e j =
    let g : Declares (λ before. parse_declaration before (stream s t)) k s t (lent 0 [] 0 []) u c kind top = rw e at j in
    record {
      value = g.value;
      gives = g.gives;
      onward = g.onward;
      kinds = g.kinds;
      tops = g.tops;
      named = g.named;
      lays = record { stores = stores-sizes g.lays.stores refl refl refl refl refl refl; bound = g.lays.bound; space = g.lays.space };
    }

module _ {k : Seen} {s : List ℕ} {t : Token} {u : Token} {m y kind : ℕ} {top : Bool}
    (j : Declares (λ before. parse_declaration before (stream s t)) k s t (lent 0 [] 0 []) u (lent m [] y []) kind top) where
  pub placed-small : {ps qs : List ℕ} → Begins group_count 0x10000000 s t ps qs → (p : ℕ) → (get_or ps p 0 + m < 2 ^ 64) × (get_or qs p 0 + y < 2 ^ 64)
  placed-small b p =
      let a = b.words-few p in
      let c = b.bytes-few p in
      let d = j.lays.bound in
      let e = j.lays.space in
      let f = j.lays.stores.words-end in
      let g = j.lays.stores.texts-end in
      let h = placed_in s u j.onward.lies in
      let i = b.small in
      (omega arith, omega arith)

  is-place : {p : ℕ} → p ≡ place_in stored_kinds kind → member_place j.value ≡ p
  is-place at = ap (place_in stored_kinds) j.kinds ∙ sym at

  module _ {ps qs ps₁ qs₁ ws ts vs us : List ℕ} {p : ℕ} (at : p ≡ place_in stored_kinds kind) where
    placed_by : ps₁ ≡ set ps p (get_or ps p 0 + m) → qs₁ ≡ set qs p (get_or qs p 0 + y)
        → Stores (flat nodes (member_branches j.value)) (lent (get_or ps p 0) ws (get_or qs p 0) ts) (lent (get_or ps p 0 + m) vs (get_or qs p 0 + y) us)
        → Places k s t ps qs ps₁ qs₁ ws ts vs us u m y kind top
    placed_by a b st = record { declares = j; words-on = rw (is-place at) a; bytes_on = rw (is-place at) b; stores = rw (is-place at) st }

    -- nothing is lent
    pub placed-none : length ws ≡ 0 → length ts ≡ 0 → vs ≡ ws → us ≡ ts → ps₁ ≡ set ps p (get_or ps p 0 + m) → qs₁ ≡ set qs p (get_or qs p 0 + y) → Places k s t ps qs ps₁ qs₁ ws ts vs us u m y kind top
    placed-none g h v w a b =
        let c = j.lays.stores.words-end in
        let d = j.lays.stores.texts-end in
        placed_by a b (record {
          words-end = omega arith;
          texts-end = omega arith;
          same-words = ap length v;
          same-texts = ap length w;
          records = λ z. v ∙ both-none ws (written ws _ _) g (length-written _ _ _ ∙ g);
          bytes = λ z. w ∙ both-none ts (written ts _ _) h (length-written _ _ _ ∙ h);
        })

    -- it is read again
    pub placed-some : {v : Token} {c : Lent} {kind₂ : ℕ} {top₂ : Bool} → Declares (λ before. parse_declaration before (stream s t)) k s t (lent (get_or ps p 0) ws (get_or qs p 0) ts) v c kind₂ top₂
        → ps₁ ≡ set ps p (get_or ps p 0 + m) → qs₁ ≡ set qs p (get_or qs p 0 + y) → vs ≡ c.words → us ≡ c.texts → Places k s t ps qs ps₁ qs₁ ws ts vs us u m y kind top
    placed-some {v} {c} g a b f h =
        let same : j.value ≡ g.value = same-declared k s t j g in
        let st : Stores (flat nodes (member_branches j.value)) (lent (get_or ps p 0) ws (get_or qs p 0) ts) (lent c.n c.words c.x c.texts) = rw same g.lays.stores in
        let d = j.lays.stores.words-end in
        let e = j.lays.stores.texts-end in
        let i = st.words-end in
        let q = st.texts-end in
        let z : c.n ≡ get_or ps p 0 + m = omega arith in
        let o : c.x ≡ get_or qs p 0 + y = omega arith in
        placed_by a b (rw (f, h) (rw (z, o) at st))

-- a kind's number is not 0
numbered : (k : NodeKind) → kind_number k ≡ 0 → ⊥
numbered K.Grammar e = omega arith
numbered K.TopRule e = omega arith
numbered K.Rule e = omega arith
numbered K.Param e = omega arith
numbered K.Prop e = omega arith
numbered K.PartText e = omega arith
numbered K.PartName e = omega arith
numbered K.Tokens e = omega arith
numbered K.TokenPrecedence e = omega arith
numbered K.TokenConflict e = omega arith
numbered K.TokenLiteral e = omega arith
numbered K.LocalTokens e = omega arith
numbered K.NamedNode e = omega arith
numbered K.Context e = omega arith
numbered K.Source e = omega arith
numbered K.ExternalTokens e = omega arith
numbered K.ConflictName e = omega arith
numbered K.ExternalSpecializer e = omega arith
numbered K.PropSource e = omega arith
numbered K.Precedences e = omega arith
numbered K.PrecedenceItem e = omega arith
numbered K.MainSkip e = omega arith
numbered K.ScopedSkip e = omega arith
numbered K.Dialect e = omega arith
numbered K.ExternalProp e = omega arith
numbered K.ExternalName e = omega arith
numbered K.Name e = omega arith
numbered K.Specialize e = omega arith
numbered K.InlineRule e = omega arith
numbered K.Choice e = omega arith
numbered K.Sequence e = omega arith
numbered K.Repeat e = omega arith
numbered K.Literal e = omega arith
numbered K.Set e = omega arith
numbered K.Span e = omega arith
numbered K.Any e = omega arith
numbered K.Class e = omega arith
numbered K.AmbiguityMarker e = omega arith
numbered K.PrecedenceMarker e = omega arith

-- it is read once, where its group goes on
module _ {k : Seen} {s : List ℕ} {t : Token} {n x : ℕ} {ws ts : List ℕ} {u : Token} {m y : ℕ} {vs us : List ℕ} {kind : ℕ} {top : Bool}
    (j : Declares (λ before. parse_declaration before (stream s t)) k s t (lent n ws x ts) u (lent m vs y us) kind top) where
  pub once_on : (n ≤ m) × (x ≤ y)
  once_on = let a = j.lays.stores.words-end in let b = j.lays.stores.texts-end in (omega arith, omega arith)

  abbrev once_measured : Declares (λ before. parse_declaration before (stream s t)) k s t (lent 0 [] 0 []) u (lent (m - n) [] (y - x) []) kind top
  once_measured = record { value = j.value; gives = j.gives; onward = j.onward; kinds = j.kinds; tops = j.tops; named = j.named; lays = lays-alone j.lays }

  module _ (ahead : NodeKind) {p : ℕ} (e : kind_number ahead ≡ kind_ahead (stream s t)) (at : p ≡ place_in stored_kinds (kind_number ahead)) where
    once_place : member_place j.value ≡ p
    once_place = ap (place_in stored_kinds) (declared-ahead k s t j e (numbered ahead)) ∙ sym at

    pub placed_once : {ps qs ps₁ qs₁ : List ℕ} → n ≡ get_or ps p 0 → x ≡ get_or qs p 0 → ps₁ ≡ set ps p m → qs₁ ≡ set qs p y → Places k s t ps qs ps₁ qs₁ ws ts vs us u (m - n) (y - x) kind top
    placed_once en ex a b =
        let o = once_on in
        let c : n + (m - n) ≡ m = omega arith in
        let d : x + (y - x) ≡ y = omega arith in
        record { declares = once_measured; words-on = rw (once_place, ← en, c) a; bytes_on = rw (once_place, ← ex, d) b; stores = rw (once_place, ← en, ← ex, c, d) j.lays.stores }
