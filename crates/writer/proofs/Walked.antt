-- The walk with what follows as an argument: the same text.
-- Assumes nothing.
use Prim.Native.Nat.{ℕ}
use Prim.Native.Char.{Char}
use mathlib.Core.Path.{◌≡◌, refl, sym, ◌∙◌, ap}
use mathlib.Core.Bool.{false}
use mathlib.Core.List.{List, [], ◌∷◌, ◌++◌, append_assoc}
use lib.Dec.{eqb}
use Rattle.basics.specs.Basics.{if◌then◌otherwise◌, letters}
use Rattle.basics.proofs.Tests.{cases}
use Rattle.lexer.specs.Tokens.{Kind}
use Rattle.characters.specs.Utf8.{encode, encode_all}
use Rattle.tree.specs.Records.{Row, Branch, branch, Branches, []ᴮ, ◌∷ᴮ◌}
use Rattle.tree.specs.OneTree.{kind_of}
use Rattle.spelling.specs.Spelling.{quoted, spell, spaced}
use Rattle.tree.specs.Stored as Stored
use Rattle.spelling.specs.NormalText.{each, each_after, commas, bracketed, mark}
use Rattle.writer.specs.Walk.{class, between, source, link, tail, setting, lead, ends, before, spelled, after, own, close, front, back, last_class, branch_text, branches_text}
use Rattle.spelling.proofs.Bytes.{string_bytes, encode-append}

abbrev pub class_of : Branch → ℕ
class_of b = class (kind_of b)

-- ------------------------------------------------------------------ the walk with the rest as an argument

unfoldable pub source_on : List ℕ → ℕ → List ℕ → List ℕ
source_on t c rest = if eqb c 15 then 0x20 ∷ (t ++ (letters " from" ++ rest)) otherwise rest

abbrev pub link_on : Row → (left child : ℕ) → List ℕ → List ℕ
link_on p l c rest = between p.kind l c ++ source_on p.text c rest

abbrev pub own_on : Row → List ℕ → List ℕ
own_on r rest = before r.kind r.value ++ (spelled r ++ (after r.kind r.value ++ rest))

unfoldable mutual
  -- a branch without what is between children, in a setting
  pub body : (setting : ℕ) → Branch → List ℕ → List ℕ
  body s (branch r bs) rest =
      lead s r.kind r.value ++ own_on r (walks r 0 bs (close r.kind r.value (last_class 0 bs) ++ (ends s r.kind r.value ++ rest)))

  pub walks : Row → ℕ → Branches → List ℕ → List ℕ
  walks p l []ᴮ rest = rest
  walks p l (b ∷ᴮ bs) rest = link_on p l (class_of b) (body (setting p.kind) b (tail p.kind (class_of b) ++ walks p (class_of b) bs rest))

source-on : (t : List ℕ) (c : ℕ) (rest : List ℕ) → source_on t c rest ≡ source t c ++ rest
unfolding source source_on
source-on t c rest =
    cases (eqb c 15) (λ e. rw (e, ← append_assoc t (letters " from") rest)) (λ e. rw e)

mutual
  unfolding body branch_text front back link own

  walk_on : (b : Branch) (p : Row) (l : ℕ) (rest : List ℕ) → link_on p l (class_of b) (body (setting p.kind) b (tail p.kind (class_of b) ++ rest)) ≡ branch_text p l b ++ rest
  walk_on (branch r bs) p l rest =
      let z : List ℕ = close r.kind r.value (last_class 0 bs) ++ (ends (setting p.kind) r.kind r.value ++ (tail p.kind (class r.kind) ++ rest)) in
      rw (source-on p.text (class r.kind), walks-on bs r 0 z) (simp append_assoc)

  pub walks-on : (bs : Branches) (p : Row) (l : ℕ) (rest : List ℕ) → walks p l bs rest ≡ branches_text p l bs ++ rest
  walks-on []ᴮ p l rest = refl
  walks-on (b ∷ᴮ bs) p l rest = walk_on b p l (walks p (class_of b) bs rest) ∙ rw (walks-on bs p (class_of b) rest) (sym (append_assoc (branch_text p l b) (branches_text p (class_of b) bs) rest))

-- ------------------------------------------------------------------ tokens with a space in front of each

unfoldable pub led : List Kind → List ℕ → List ℕ
led [] rest = rest
led (k ∷ ks) rest = 0x20 ∷ (encode_all (spell k) ++ led ks rest)

-- a string's characters are escaped before they are bytes, and its bytes after
pub led-string : (t : List ℕ) (ks : List Kind) (z : List ℕ) → led (Kind.string (quoted t) ∷ ks) z ≡ 0x20 ∷ (spell (Kind.string (quoted (encode_all t))) ++ led ks z)
unfolding led
led-string t ks z = rw (string_bytes t)

-- a line's tokens, the first without its space
pub led-spaced : (k : Kind) (ks : List Kind) (z : List ℕ) → led (k ∷ ks) z ≡ 0x20 ∷ (encode_all (spaced (k ∷ ks)) ++ z)
unfolding led spaced encode_all encode
led-spaced k [] z = refl
led-spaced k (l ∷ ks) z =
    rw (led-spaced l ks z, encode-append (spell k) (0x20 ∷ spaced (l ∷ ks)))
    (ap (λ (x : List ℕ). 0x20 ∷ x) (sym (append_assoc (encode_all (spell k)) (0x20 ∷ encode_all (spaced (l ∷ ks))) z)))

-- ------------------------------------------------------------------ children in lists

-- children of a class c in a record of the kind k: what stands in each, and that nothing is around it but what is between
pub record Child {A : Type 0} (f : A → Branch) (write : A → List Kind → List Kind) (k c : ℕ) : Type 0 where
  pub says : (x : A) (ks : List Kind) (z : List ℕ) → body 0 (f x) (led ks z) ≡ led (write x ks) z
  pub is : (x : A) → class_of (f x) ≡ c
  pub none : setting k ≡ 0
  pub alone : tail k c ≡ []
  pub other : eqb c 15 ≡ false

module _ {A : Type 0} {f : A → Branch} {write : A → List Kind → List Kind} {c : ℕ} (p : Row) (h : Child f write p.kind c) (rest z : List ℕ) where
  pub child : (l : ℕ) (x : A) (bs : Branches) (ks : List Kind) → walks p c bs rest ≡ led ks z → walks p l (f x ∷ᴮ bs) rest ≡ between p.kind l c ++ led (write x ks) z
  unfolding body source_on
  child l x bs ks e =
      rw (h.is x, h.none, h.alone, h.other) (ap (λ (y : List ℕ). between p.kind l c ++ body 0 (f x) y) e ∙ ap (λ (y : List ℕ). between p.kind l c ++ y) (h.says x ks z))

  -- each after a comma
  pub children-after : between p.kind c c ≡ letters " ," → (xs : List A) (bs : Branches) (ks : List Kind) → walks p c bs rest ≡ led ks z
      → walks p c (Stored.each f xs bs) rest ≡ led (each_after write xs ks) z
  unfolding Stored.each each_after led encode encode_all spell
  children-after m [] bs ks e = e
  children-after m (x ∷ xs) bs ks e = child c x (Stored.each f xs bs) (each_after write xs ks) (children-after m xs bs ks e) ∙ ap (λ (y : List ℕ). y ++ led (write x (each_after write xs ks)) z) m

  -- with nothing between
  pub children : ((l : ℕ) → between p.kind l c ≡ []) → (xs : List A) (bs : Branches) (ks : List Kind) → ((l : ℕ) → walks p l bs rest ≡ led ks z)
      → (l : ℕ) → walks p l (Stored.each f xs bs) rest ≡ led (each write xs ks) z
  unfolding Stored.each each
  children m [] bs ks e l = e l
  children m (x ∷ xs) bs ks e l = child l x (Stored.each f xs bs) (each write xs ks) (children m xs bs ks e c) ∙ ap (λ (y : List ℕ). y ++ led (write x (each write xs ks)) z) (m l)

  -- with commas between, behind a child of a class l that nothing is put behind
  pub children-commas : (l : ℕ) → between p.kind l c ≡ [] → between p.kind c c ≡ letters " ," → (xs : List A) (bs : Branches) (ks : List Kind) → walks p l bs rest ≡ led ks z
      → walks p c bs rest ≡ led ks z → walks p l (Stored.each f xs bs) rest ≡ led (commas write xs ks) z
  unfolding Stored.each
  children-commas l m n [] bs ks d e = d
  children-commas l m n (x ∷ xs) bs ks d e =
      child l x (Stored.each f xs bs) (each_after write xs ks) (children-after n xs bs ks e) ∙ ap (λ (y : List ℕ). y ++ led (write x (each_after write xs ks)) z) m

  -- in brackets, or left out, behind what closes the list before them; what follows takes a closing bracket where they stand
  pub children-bracketed : (a b : Char) (shut opened : List ℕ) (l : ℕ) → between p.kind l c ≡ opened → ((ks : List Kind) → opened ++ led ks z ≡ shut ++ led (mark a ks) z) → between p.kind c c ≡ letters " ,"
      → (xs : List A) (bs : Branches) (ks : List Kind) → walks p l bs rest ≡ shut ++ led ks z → walks p c bs rest ≡ led (mark b ks) z → walks p l (Stored.each f xs bs) rest ≡ shut ++ led (bracketed write a b xs ks) z
  unfolding Stored.each
  children-bracketed a b s o l m w n [] bs ks d e = d
  children-bracketed a b s o l m w n (x ∷ xs) bs ks d e =
      child l x (Stored.each f xs bs) (each_after write xs (mark b ks)) (children-after n xs bs (mark b ks) e) ∙ ap (λ (y : List ℕ). y ++ led (write x (each_after write xs (mark b ks))) z) m ∙ w (write x (each_after write xs (mark b ks)))

-- the class of the last of a list's branches, where there are some
pub last-each : {A : Type 0} (f : A → Branch) (c : ℕ) → ((x : A) → class_of (f x) ≡ c) → (xs : List A) (bs : Branches) → last_class c (Stored.each f xs bs) ≡ last_class c bs
unfolding Stored.each last_class
last-each f c h [] bs = refl
last-each f c h (x ∷ xs) bs = ap (λ (d : ℕ). last_class d (Stored.each f xs bs)) (h x) ∙ last-each f c h xs bs
