-- Where a function that stores may begin, what storing a node asks, and a node stored behind its children.
-- Assumes nothing.
use Prim.Native.Nat.{ℕ, ◌+◌, ◌-◌, ◌*◌, ◌≤◌, ◌<◌, ◌^◌}
use native.Mathlib.Omega.{arith}
use mathlib.Core.Path.{◌≡◌, refl, ap, sym, ◌∙◌}
use mathlib.Core.List.{List, [], ◌∷◌, ◌++◌, append_assoc, append-nil}
use mathlib.Core.Option as M
use Rattle.std.specs.Prelude.{Option, Some, None, Ok}
use lib.ListN.{length, drop, length-append, length-drop}
use lib.Seq.{length-take-le}
use Rattle.characters.specs.Places.{cut}
use Rattle.lexer.specs.declared.Kind.{Kind}
use Rattle.lexer.specs.declared.Kind.TheVariants.{String, Set, Punctuation, Identifier}
use Rattle.lexer.specs.declared.Kind.TheVariants as K
use Rattle.lexer.specs.Promise.{IsPart}
use Rattle.lexer.specs.declared.Part.{Part}
use Rattle.tree.specs.Records.{Row, Branch, branch, Branches, []ᴮ, ◌∷ᴮ◌, count, Node, nodes, nodes_all, texts_of}
use Rattle.tree.specs.Stored.{each}
use Rattle.tree.proofs.Encoded.{texts-append}
use Rattle.notation.specs.Parser.{Answer, read, Parser, next}
use Rattle.tokens.specs.Promise.{stream, start_in, end_in, name_of, at_of, string_of, LiesIn, Identifies, TakesString}
use Rattle.parser.specs.Storing.{Lent, Stores, flat, nodes_of}
use Rattle.parser.specs.Steps.{placed, Holds, Onward, Lays, Ready, Lists}
use Rattle.parser.specs.Shapes.{IsToken}
use Rattle.lexer.specs.declared.Token.{Token}
use Rattle.lexer.specs.declared.Token.TheVariants.{Of, Eof}
use Rattle.tree.proofs.Back.{nodes-some}
use Rattle.parser.proofs.Stored.{stores-then}
use Rattle.parser.proofs.Onward.{placed_in, placed-from, start_small, end-in, next-onward, name-onward, string-onward}
use Rattle.parser.proofs.Lists.{Listing, flat-more}

-- ------------------------------------------------------------------ from one place to the next

pub ready_as : {s : List ℕ} {t u : Token} {a : Lent} → t ≡ u → Ready s t a → Ready s u a
ready_as e r = rw e at r

module _ {s : List ℕ} {t u : Token} {a : Lent} (r : Ready s t a) where
  pub ready_step : {i : ℕ} → Onward s t u i → Ready s u a
  ready_step o =
      let p = r.room in
      let q = r.space in
      let c = o.ahead in
      record { lies = o.lies; small = r.small; room = omega arith; space = omega arith }

  module _ {b : Lent} {xs : List Node} where
    pub ready_on : {i : ℕ} → Onward s t u i → Lays s t u 0 xs a b → Ready s u b
    ready_on o l =
        let p = r.room in
        let q = r.space in
        let c = l.bound in
        let d = l.space in
        let e = l.stores.words-end in
        let f = l.stores.texts-end in
        record { lies = o.lies; small = r.small; room = omega arith; space = omega arith }

    -- with slack, and a token behind it
    pub ready_past : {v : Token} {k : ℕ} → Lays s t u k xs a b → k ≤ 2 → Onward s u v 1 → Ready s v b
    ready_past l h o =
        let p = r.room in
        let q = r.space in
        let c = l.bound in
        let d = l.space in
        let e = l.stores.words-end in
        let f = l.stores.texts-end in
        let g = o.ahead in
        record { lies = o.lies; small = r.small; room = omega arith; space = omega arith }

-- ------------------------------------------------------------------ what a token holds

pub holds-token : (t : Token) {text : List ℕ} → Holds t text → IsToken t
holds-token (Of k start end) h = tt
holds-token (Eof p) h = absurd (let z = h.some_bytes in omega arith)

pub holds-end : (s : List ℕ) (t : Token) {text : List ℕ} → Holds t text → placed s t + length text ≤ end_in t
holds-end s (Of k start end) h = h.within
holds-end s (Eof p) h = absurd (let z = h.some_bytes in omega arith)

-- a text that is no longer than the source
pub record Short (s text : List ℕ) : Type 0 where
  pub short : length text ≤ length s

pub holds-short : {s : List ℕ} {t : Token} {a : Lent} {text : List ℕ} → Ready s t a → Holds t text → Short s text
holds-short {s} {t} r h =
    let e = end-in s t (holds-token t h) r.lies in
    let f = holds-end s t h in
    record { short = omega arith }

-- a part of the source that the token holds
pub record Held (s : List ℕ) (t : Token) (a : Part) : Type 0 where
  pub part : IsPart s a
  pub holds : Holds t (cut s a.from a.to)

pub no_part : {a : Part} → ◌≡◌ {A = Option Part} None (Some a) → ⊥
no_part q = let z : ◌≡◌ {A = ℕ} 0 1 = cc in omega arith

module _ (s : List ℕ) where
  pub cut-length : {a : Part} → IsPart s a → length (cut s a.from a.to) ≡ a.to - a.from
  cut-length {a} p =
      let i = p.inside in
      let l = length-drop a.from s in
      length-take-le (a.to - a.from) (drop a.from s) (omega arith)

  -- the part b of a token
  pub held : (k : Kind) {start end : ℕ} {b a : Part} → Some b ≡ Some a → start < end → IsPart s b → (start ≤ b.from) × (b.to ≤ end) → Held s (Of k start end) a
  held k {start} {end} {b} {a} q h p i =
      let y : b ≡ a = cc in
      let l = cut-length p in
      let o = p.forth in
      rw y at (held_at k start end b (record { part = p; holds = record { some_bytes = h; within = omega arith } }))
    where
      held_at : (k : Kind) (start end : ℕ) (b : Part) → Held s (Of k start end) b → Held s (Of k start end) b
      held_at k start end b h = h

  module _ {a : Part} where
    pub part-short : IsPart s a → Short s (cut s a.from a.to)
    part-short p = let l = cut-length p in let i = p.inside in record { short = omega arith }

    pub name-held : (t : Token) → LiesIn s 0 t → name_of t ≡ Some a → Held s t a
    name-held (Of (Identifier b) start end) l q = held (Identifier b) q l.1 l.3 l.4
    name-held (Of (String c b) start end) l q = absurd (no_part q)
    name-held (Of (K.At b) start end) l q = absurd (no_part q)
    name-held (Of (Set i b) start end) l q = absurd (no_part q)
    name-held (Of (Punctuation c) start end) l q = absurd (no_part q)
    name-held (Eof p) l q = absurd (no_part q)

    pub at_held : (t : Token) → LiesIn s 0 t → at_of t ≡ Some a → Held s t a
    at_held (Of (K.At b) start end) l q = held (K.At b) q l.1 l.3 l.4
    at_held (Of (String c b) start end) l q = absurd (no_part q)
    at_held (Of (Identifier b) start end) l q = absurd (no_part q)
    at_held (Of (Set i b) start end) l q = absurd (no_part q)
    at_held (Of (Punctuation c) start end) l q = absurd (no_part q)
    at_held (Eof p) l q = absurd (no_part q)

    pub string-held : (t : Token) → LiesIn s 0 t → string_of t ≡ Some a → Held s t a
    string-held (Of (String c b) start end) l q = held (String c b) q l.1 l.3.1 l.4
    string-held (Of (K.At b) start end) l q = absurd (no_part q)
    string-held (Of (Identifier b) start end) l q = absurd (no_part q)
    string-held (Of (Set i b) start end) l q = absurd (no_part q)
    string-held (Of (Punctuation c) start end) l q = absurd (no_part q)
    string-held (Eof p) l q = absurd (no_part q)

-- the same from where a function begins
module _ {s : List ℕ} {t : Token} {l : Lent} {a : Part} (r : Ready s t l) where
  pub name_in_lem : name_of t ≡ Some a → Held s t a
  name_in_lem q = name-held s t r.lies q

  pub at_in_lem : at_of t ≡ Some a → Held s t a
  at_in_lem q = at_held s t r.lies q

  pub string-in : string_of t ≡ Some a → Held s t a
  string-in q = string-held s t r.lies q

-- the token is taken: its text lies between it and the next
pub record Got (s : List ℕ) (t : Token) (text : List ℕ) (u : Token) : Type 0 where
  pub onward : Onward s t u 1
  pub past : placed s t + length text ≤ placed s u

-- a text that is no longer
pub got-less : {s : List ℕ} {t u : Token} {text : List ℕ} (short : List ℕ) → Got s t text u → length short ≤ length text → Got s t short u
got-less short g h = let p = g.past in record { onward = g.onward; past = omega arith }

behind : (s : List ℕ) (t u : Token) {text : List ℕ} → LiesIn s 0 t → Holds t text → LiesIn s (end_in t) u → placed s t + length text ≤ placed s u
behind s t u l h k =
    let w = end-in s t (holds-token t h) l in
    let f = placed-from s u (end_in t) k w.1 in
    let g = holds-end s t h in
    omega arith

module _ (s : List ℕ) {t u : Token} where
  pub next-got : {text : List ℕ} → LiesIn s 0 t → Holds t text → (next (stream s t) ≡ read tt (stream s u)) × LiesIn s (end_in t) u → Got s t text u
  next-got l h k = record { onward = next-onward s t (holds-token t h) l k; past = behind s t u l h k.1 }

  module _ {a : Part} (l : LiesIn s 0 t) where
    pub name-got : Identifies s t (Ok (a, u)) → Held s t a × Got s t (cut s a.from a.to) u
    name-got i =
        let o = name-onward s t l i in
        let h = name-held s t l o.1 in
        (h, record { onward = o.0; past = behind s t u l h.holds i.lies.0 })

    pub string-got : TakesString s t (Ok (a, u)) → Held s t a × Got s t (cut s a.from a.to) u
    string-got i =
        let o = string-onward s t l i in
        let h = string-held s t l o.1 in
        (h, record { onward = o.0; past = behind s t u l h.holds i.lies.0 })

-- ------------------------------------------------------------------ what a token is

module _ {t : Token} {k : Kind} {start end : ℕ} (e : t ≡ Of k start end) where
  pub is_name : {a : Part} → k ≡ Identifier a → name_of t ≡ Some a
  is_name q = rw (e, q)

-- ------------------------------------------------------------------ what storing a node asks

module _ {s : List ℕ} {t v : Token} {k l : Lent} {p c : ℕ} (a : Ready s t k) (b : Ready s v l) (e : p ≡ start_in t) (h : c ≤ 0x1000000) where
  pub put-plain_asks : (l.n + 7 < 2 ^ 64) × (p < 2 ^ 32) × (c < 2 ^ 32)
  put-plain_asks =
      let i = start_small s t a.lies in
      let j = placed_in s v b.lies in
      let z = a.small in
      let o = b.room in
      (omega arith, omega arith, omega arith)

  -- with a text
  pub put_asks : {text : List ℕ} → Short s text → (l.n + 7 < 2 ^ 64) × (p < 2 ^ 32) × (c < 2 ^ 32) × (l.x + length text < 2 ^ 32)
  put_asks w =
      let q = w.short in
      let i = put-plain_asks in
      let j = placed_in s v b.lies in
      let z = a.small in
      let o = b.space in
      (i.0, i.1, i.2, omega arith)

-- ------------------------------------------------------------------ a node behind its children

-- the texts of a node alone
pub one-text : (y : Node) → length (texts_of (y ∷ [])) ≡ length y.row.text
unfolding texts_of
one-text y = ap length (append-nil y.row.text)

pub stored-text : {y : Node} {a b : Lent} {k : ℕ} → Stores (y ∷ []) a b → b.x ≤ a.x + k → length y.row.text ≤ k
stored-text {y} f h = let e = f.texts-end in let l = one-text y in omega arith

module _ {s : List ℕ} where
  -- a node behind nodes, all between t and u
  pub lays-node : {t u v : Token} {k : ℕ} {xs : List Node} {y : Node} {a b c : Lent} → Lays s u v k xs a b → Stores (y ∷ []) b c → placed s t ≤ placed s u
      → length y.row.text + 2 * placed s t ≤ 2 * placed s u → Lays s t v (k + 1) (xs ++ y ∷ []) a c
  lays-node {k = k} {xs} {y} f g p q =
      let l = length-append xs (y ∷ []) in
      let m = ap length (texts-append xs (y ∷ [])) ∙ length-append (texts_of xs) (texts_of (y ∷ [])) in
      let o = one-text y in
      let d = f.bound in
      let e = f.space in
      record { stores = stores-then f.stores g; bound = omega arith; space = omega arith }

  -- a token stands before the children
  pub lays_parent : {t u v : Token} {k : ℕ} {xs : List Node} {y : Node} {a b c : Lent} → Lays s u v k xs a b → Stores (y ∷ []) b c → Onward s t u 1
      → placed s t + length y.row.text ≤ placed s u → k ≤ 1 → Lays s t v 0 (xs ++ y ∷ []) a c
  lays_parent {t = t} {u} {k = k} {xs} {y} f g w p h =
      let n = w.ahead in
      let p₁ : placed s t ≤ placed s u = omega arith in
      let p₂ : length y.row.text + 2 * placed s t ≤ 2 * placed s u = omega arith in
      let l = lays-node {t = t} f g p₁ p₂ in
      let d = f.bound in
      let m = length-append xs (y ∷ []) in
      record { stores = l.stores; bound = omega arith; space = l.space }

  -- without children
  pub lays-leaf : {t u : Token} {y : Node} {a b : Lent} → Stores (y ∷ []) a b → Onward s t u 1 → placed s t + length y.row.text ≤ placed s u → Lays s t u 0 (y ∷ []) a b
  lays-leaf {y = y} g w p =
      let n = w.ahead in
      let o = one-text y in
      record { stores = g; bound = omega arith; space = omega arith }

-- ------------------------------------------------------------------ nodes of branches

pub nodes-leaf : (r : Row) → nodes (branch r []ᴮ) ≡ record { row = r; children = 0 } ∷ []
unfolding nodes count
nodes-leaf r = refl

pub nodes-branch : (r : Row) (bs : Branches) → nodes (branch r bs) ≡ nodes_all bs ++ record { row = r; children = count bs } ∷ []
unfolding nodes
nodes-branch r bs = refl

pub nodes-first : (b : Branch) (bs : Branches) → nodes_all (b ∷ᴮ bs) ≡ nodes b ++ nodes_all bs
unfolding nodes
nodes-first b bs = refl

pub count-first : (b : Branch) (bs : Branches) → count (b ∷ᴮ bs) ≡ 1 + count bs
unfolding count
count-first b bs = refl

module _ {A : Type 0} (f : A → Branch) where
  pub nodes-each : (xs : List A) (bs : Branches) → nodes_all (each f xs bs) ≡ flat (nodes_of f) xs ++ nodes_all bs
  unfolding each flat nodes
  nodes-each [] bs = refl
  nodes-each (x ∷ xs) bs = rw (nodes-each xs bs) (sym (append_assoc (nodes (f x)) (flat (nodes_of f) xs) (nodes_all bs)))

  pub count-each : (xs : List A) (bs : Branches) → count (each f xs bs) ≡ length xs + count bs
  unfolding each count
  count-each [] bs = omega arith
  count-each (x ∷ xs) bs = let h = count-each xs bs in omega arith

  -- a row over a list
  pub nodes-over : (r : Row) (xs : List A) → nodes (branch r (each f xs []ᴮ)) ≡ flat (nodes_of f) xs ++ record { row = r; children = length xs } ∷ []
  unfolding nodes count
  nodes-over r xs = let n : length xs + 0 ≡ length xs = omega arith in rw (nodes-each xs []ᴮ, count-each xs []ᴮ, n, append-nil)

module _ {A : Type 0} (f : A → Branch) where
  pub flat-length : (xs : List A) → length xs ≤ length (flat (nodes_of f) xs)
  flat-length [] = omega arith
  flat-length (x ∷ xs) =
      let h = flat-length xs in
      let l = ap length (flat-more (nodes_of f) x xs) ∙ length-append (nodes (f x)) (flat (nodes_of f) xs) in
      let z = nodes-some (f x) in
      omega arith

-- so a list has few items
module _ {A : Type 0} (f : A → Branch) {s : List ℕ} {t u : Token} {k c : ℕ} {a b : Lent} where
  pub lists-small : {D : Answer ℕ (List A)} → Lists D (nodes_of f) s t k a u b c → length s ≤ 0x200000 → c ≤ 0x400000
  lists-small l h =
      let p = flat-length f l.items in
      let q = l.lays.bound in
      let e = l.counted in
      let o = placed_in s u l.onward.lies in
      omega arith

  pub listing-small : {step : List A → Parser ℕ (M.Option A)} → Listing step (nodes_of f) s t k a u b c → length s ≤ 0x200000 → k ≤ 2 → c ≤ 0x400002
  listing-small l h i =
      let p = flat-length f l.items in
      let q = l.lays.bound in
      let e = l.counted in
      let o = placed_in s u l.onward.lies in
      omega arith
