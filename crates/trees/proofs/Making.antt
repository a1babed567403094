-- Kinds that match the groups of a record, last first, are made of them, first to last, and the other way round.
-- Assumes nothing.
use Prim.Native.Nat.{ℕ}
use mathlib.Core.Path.{◌≡◌, refl, ap}
use mathlib.Core.Bool.{Bool, true, false, ◌&&◌, not}
use mathlib.Core.List.{List, [], ◌∷◌, ◌++◌, append-nil, reverse}
use lib.Dec.{eqb}
use lib.ListN.{drop}
use borrow.Author.Tests.{eqb-true}
use Rattle.std.proofs.lemmas.List.{reverse-append, reverse-reverse}
use Rattle.basics.specs.Basics.{if◌then◌otherwise◌, among, within}
use Rattle.basics.proofs.Tests.{cases, both_true, impossible}
use Rattle.tree.specs.OneTree.{Group, many, one, at_most_one, groups_of, without, begins, matches, children_fit}
use Rattle.trees.specs.IsTree.{Made, done, more, no_more, the_one, there, not_there}

-- ------------------------------------------------------------------ a group of many

-- all are among some kinds
unfoldable AllIn : List ℕ → List ℕ → Type 0
AllIn ks [] = Unit
AllIn ks (c ∷ cs) = (among ks c ≡ true) × AllIn ks cs

all_append : (ks cs ds : List ℕ) → AllIn ks cs → AllIn ks ds → AllIn ks (cs ++ ds)
unfolding AllIn
all_append ks [] ds a b = b
all_append ks (c ∷ cs) ds a b = (a.0, all_append ks cs ds a.1 b)

reverse-cons : {A : Type 0} (x : A) (xs : List A) → reverse (x ∷ xs) ≡ reverse xs ++ (x ∷ [])
reverse-cons x xs = reverse-append (x ∷ []) xs

all_reverse : (ks cs : List ℕ) → AllIn ks cs → AllIn ks (reverse cs)
unfolding AllIn
all_reverse ks [] a = tt
all_reverse ks (c ∷ cs) a = rw (reverse-cons c cs) (all_append ks (reverse cs) (c ∷ []) (all_reverse ks cs a.1) (a.0, tt))

-- those at the front that are, and the rest
record Split (ks : List ℕ) (gs : List Group) (cs : List ℕ) : Type 0 where
  front : List ℕ
  back : List ℕ
  all : AllIn ks front
  rest : Made gs back
  is : cs ≡ front ++ back

split : (ks : List ℕ) (gs : List Group) (cs : List ℕ) → Made (many ks ∷ gs) cs → Split ks gs cs
unfolding AllIn
split ks gs [] (no_more m) = record { front = []; back = []; all = tt; rest = m; is = refl }
split ks gs (c ∷ cs) (no_more m) = record { front = []; back = c ∷ cs; all = tt; rest = m; is = refl }
split ks gs (c ∷ cs) (more t m) =
    let s = split ks gs cs m in
    record { front = c ∷ s.front; back = s.back; all = (t, s.all); rest = s.rest; is = ap (λ l. c ∷ l) s.is }

made-all : (ks : List ℕ) (gs : List Group) (cs ds : List ℕ) → AllIn ks cs → Made gs ds → Made (many ks ∷ gs) (cs ++ ds)
unfolding AllIn
made-all ks gs [] ds a m = no_more m
made-all ks gs (c ∷ cs) ds a m = more a.0 (made-all ks gs cs ds a.1 m)

-- ------------------------------------------------------------------ what matches is made of the groups, in the same order

made-many : (ks : List ℕ) (gs : List Group) → ((ds : List ℕ) → matches gs ds ≡ true → Made gs ds) → (cs : List ℕ) → matches gs (without ks cs) ≡ true → Made (many ks ∷ gs) cs
unfolding without
made-many ks gs h [] e = no_more (h [] e)
made-many ks gs h (c ∷ cs) e =
    cases (among ks c)
    (λ t. more t (made-many ks gs h cs (rw (t, without) at e)))
    (λ t. no_more (h (c ∷ cs) (rw (t, without) at e)))

made_one : (ks : List ℕ) (gs : List Group) (cs : List ℕ) → begins ks cs ≡ true → Made gs (drop 1 cs) → Made (one ks ∷ gs) cs
made_one ks gs [] b m = impossible (cc)
made_one ks gs (c ∷ cs) b m = the_one b m

made_some : (ks : List ℕ) (gs : List Group) (cs : List ℕ) → begins ks cs ≡ true → Made gs (drop 1 cs) → Made (at_most_one ks ∷ gs) cs
made_some ks gs [] b m = impossible (cc)
made_some ks gs (c ∷ cs) b m = there b m

made : (gs : List Group) (cs : List ℕ) → matches gs cs ≡ true → Made gs cs
unfolding matches
made [] [] e = done
made [] (c ∷ cs) e = impossible (cc)
made (many ks ∷ gs) cs e = made-many ks gs (made gs) cs e
made (one ks ∷ gs) cs e = let h = both_true (begins ks cs) (matches gs (drop 1 cs)) e in made_one ks gs cs h.0 (made gs (drop 1 cs) h.1)
made (at_most_one ks ∷ gs) cs e =
    cases (begins ks cs)
    (λ t. made_some ks gs cs t (made gs (drop 1 cs) (rw t at e)))
    (λ t. not_there (made gs cs (rw t at e)))

-- ------------------------------------------------------------------ made of groups from the last to the first

made-append : {gs hs : List Group} {cs ds : List ℕ} → Made gs cs → Made hs ds → Made (gs ++ hs) (cs ++ ds)
made-append done n = n
made-append (more t m) n = more t (made-append m n)
made-append (no_more m) n = no_more (made-append m n)
made-append (the_one t m) n = the_one t (made-append m n)
made-append (there t m) n = there t (made-append m n)
made-append (not_there m) n = not_there (made-append m n)

made-back : (gs : List Group) (cs : List ℕ) → Made gs cs → Made (reverse gs) (reverse cs)
made-back [] [] done = done
made-back [] (c ∷ cs) m = elim m [ ]
made-back (one ks ∷ gs) [] m = elim m [ ]
made-back (many ks ∷ gs) cs m =
    let s = split ks gs cs m in
    let last : Made (many ks ∷ []) (reverse s.front) = rw (append-nil (reverse s.front)) at (made-all ks [] (reverse s.front) [] (all_reverse ks s.front s.all) done) in
    rw (reverse-cons (many ks) gs, s.is, reverse-append s.front s.back) (made-append (made-back gs s.back s.rest) last)
made-back (one ks ∷ gs) (c ∷ cs) (the_one t m) = rw (reverse-cons (one ks) gs, reverse-cons c cs) (made-append (made-back gs cs m) (the_one t done))
made-back (at_most_one ks ∷ gs) (c ∷ cs) (there t m) = rw (reverse-cons (at_most_one ks) gs, reverse-cons c cs) (made-append (made-back gs cs m) (there t done))
made-back (at_most_one ks ∷ gs) cs (not_there m) =
    rw (reverse-cons (at_most_one ks) gs) (rw (append-nil (reverse cs)) at (made-append (made-back gs cs m) (not_there {ks = ks} done)))

-- ------------------------------------------------------------------ what is made of groups that are apart matches them

-- the kinds that what is made of groups may begin with
unfoldable firsts : List Group → List ℕ
firsts [] = []
firsts (many ks ∷ gs) = ks ++ firsts gs
firsts (one ks ∷ gs) = ks
firsts (at_most_one ks ∷ gs) = ks ++ firsts gs

-- no number is in both lists
unfoldable distinct : List ℕ → List ℕ → Bool
distinct [] ls = true
distinct (k ∷ ks) ls = not (among ls k) && distinct ks ls

-- a group that may end early shares no kind with what may come behind it
unfoldable apart : List Group → Bool
unfolding firsts distinct
apart [] = true
apart (many ks ∷ gs) = distinct ks (firsts gs) && apart gs
apart (one ks ∷ gs) = apart gs
apart (at_most_one ks ∷ gs) = distinct ks (firsts gs) && apart gs

among-left : (ks ls : List ℕ) (k : ℕ) → among ks k ≡ true → among (ks ++ ls) k ≡ true
among-left [] ls k e = impossible (cc)
among-left (q ∷ ks) ls k e = cases (eqb k q) (λ t. rw t) (λ t. rw t (among-left ks ls k (rw t at e)))

among-right : (ks ls : List ℕ) (k : ℕ) → among ls k ≡ true → among (ks ++ ls) k ≡ true
among-right [] ls k e = e
among-right (q ∷ ks) ls k e = cases (eqb k q) (λ t. rw t) (λ t. rw t (among-right ks ls k e))

distinct_first : (ks ls : List ℕ) (k : ℕ) → distinct ks ls ≡ true → among ls k ≡ true → among ks k ≡ false
unfolding distinct
distinct_first [] ls k e h = refl
distinct_first (q ∷ ks) ls k e h =
    let d = both_true (not (among ls q)) (distinct ks ls) e in
    cases (eqb k q)
    (λ t. let f : k ≡ q = eqb-true k q t in let g : among ls q ≡ true = rw f at h in let no : false ≡ true = rw g at d.0 in impossible (cc))
    (λ t. rw t (distinct_first ks ls k d.1 h))

-- the first of what is made of groups is one of those
first_among : (gs : List Group) (c : ℕ) (cs : List ℕ) → Made gs (c ∷ cs) → among (firsts gs) c ≡ true
unfolding firsts
first_among [] c cs m = elim m [ ]
first_among (many ks ∷ gs) c cs (more t m) = among-left ks (firsts gs) c t
first_among (many ks ∷ gs) c cs (no_more m) = among-right ks (firsts gs) c (first_among gs c cs m)
first_among (one ks ∷ gs) c cs (the_one t m) = t
first_among (at_most_one ks ∷ gs) c cs (there t m) = among-left ks (firsts gs) c t
first_among (at_most_one ks ∷ gs) c cs (not_there m) = among-right ks (firsts gs) c (first_among gs c cs m)

-- what comes behind a group does not begin with one of its kinds
begins_not : (ks : List ℕ) (gs : List Group) (cs : List ℕ) → distinct ks (firsts gs) ≡ true → Made gs cs → begins ks cs ≡ false
begins_not ks gs [] d m = refl
begins_not ks gs (c ∷ cs) d m = distinct_first ks (firsts gs) c d (first_among gs c cs m)

without-none : (ks cs : List ℕ) → begins ks cs ≡ false → without ks cs ≡ cs
unfolding without
without-none ks [] e = refl
without-none ks (c ∷ cs) e = rw (e, without)

without-all : (ks cs ds : List ℕ) → AllIn ks cs → without ks (cs ++ ds) ≡ without ks ds
unfolding AllIn without
without-all ks [] ds a = refl
without-all ks (c ∷ cs) ds a = rw (a.0, without) (without-all ks cs ds a.1)

match : (gs : List Group) (cs : List ℕ) → apart gs ≡ true → Made gs cs → matches gs cs ≡ true
unfolding matches apart
match [] [] e done = refl
match [] (c ∷ cs) e m = elim m [ ]
match (one ks ∷ gs) [] e m = elim m [ ]
match (many ks ∷ gs) cs e m =
    let s = split ks gs cs m in
    let h = both_true (distinct ks (firsts gs)) (apart gs) e in
    rw (s.is, without-all ks s.front s.back s.all, without-none ks s.back (begins_not ks gs s.back h.0 s.rest)) (match gs s.back h.1 s.rest)
match (one ks ∷ gs) (c ∷ cs) e (the_one t m) = rw t (match gs cs e m)
match (at_most_one ks ∷ gs) (c ∷ cs) e (there t m) = rw t (match gs cs (both_true (distinct ks (firsts gs)) (apart gs) e).1 m)
match (at_most_one ks ∷ gs) cs e (not_there m) =
    let h = both_true (distinct ks (firsts gs)) (apart gs) e in
    rw (begins_not ks gs cs h.0 m) (match gs cs h.1 m)

-- ------------------------------------------------------------------ the groups of a record's children

if_true : (P : List Group → Type 0) (b : Bool) {x y : List Group} → P x → P y → P (if b then x otherwise y)
if_true P true h k = h
if_true P false h k = k

-- those of each kind, from the last to the first, are apart
all-apart : (k v : ℕ) → apart (reverse (groups_of k v)) ≡ true
unfolding groups_of apart firsts distinct
all-apart k v =
    by (eqb k 1) _ _ refl (by (within 2 3 k) _ _ refl (by (eqb k 5) _ _ refl (by (eqb k 8) _ _ refl (by (eqb k 9) _ _ refl (by (eqb k 10) _ _ refl (by (among (11 ∷ 13 ∷ []) k) _ _ refl (by (eqb k 12) _ _ refl (by (among (14 ∷ 19 ∷ []) k) _ _ refl (by (eqb k 16) _ _ refl (by (eqb k 18) _ _ refl (by (eqb k 20) _ _ refl (by (among (22 ∷ 35 ∷ []) k) _ _ refl (by (eqb k 23) _ _ refl (by (eqb k 25) _ _ refl (by (among (30 ∷ 33 ∷ []) k) _ _ refl (by (eqb k 31) _ _ refl (by (eqb k 32) _ _ refl (by (eqb k 34 && eqb v 0) _ _ refl (by (eqb k 37) _ _ refl (refl))))))))))))))))))))
  where
    by : (b : Bool) (x y : List Group) → apart (reverse x) ≡ true → apart (reverse y) ≡ true → apart (reverse (if b then x otherwise y)) ≡ true
    by b x y h k = if_true (λ l. apart (reverse l) ≡ true) b h k

-- ------------------------------------------------------------------ so children fit just where they are made of the groups

pub fit-made : (k v : ℕ) (cs : List ℕ) → children_fit k v (reverse cs) ≡ true → Made (groups_of k v) cs
fit-made k v cs e = rw (← reverse-reverse (groups_of k v), ← reverse-reverse cs) (made-back (reverse (groups_of k v)) (reverse cs) (made (reverse (groups_of k v)) (reverse cs) e))

pub made-fit : (k v : ℕ) (cs : List ℕ) → Made (groups_of k v) cs → children_fit k v (reverse cs) ≡ true
made-fit k v cs m = match (reverse (groups_of k v)) (reverse cs) (all-apart k v) (made-back (groups_of k v) cs m)
