-- What the responses come to, by the outcomes of the texts.
-- Assumes nothing.
use Prim.Native.Nat.{ℕ, suc, ◌+◌, ◌≤◌, ◌<◌}
use native.Mathlib.Omega.{arith}
use mathlib.Core.Path.{◌≡◌, refl, sym, ◌∙◌}
use mathlib.Core.Bool.{Bool, true, false}
use mathlib.Core.List.{List, [], ◌++◌, map}
use lib.ListN.{length, drop, get_or}
use lib.Dec.{eqb}
use lib.Pointwise.{pointwise}
use Rattle.std.proofs.Common.{Option, Result, Ok, Err, IfOk}
use Rattle.std.specs.Io.KnownBytes.{Appends}
use Rattle.std.proofs.KnownBytes.{Appends-nil, Appends-trans}
use Rattle.basics.specs.Basics.{same as equal, letters}
use Rattle.std.proofs.Math.Seq.{drop-cons}
use Rattle.std.proofs.Math.ListN.{drop_of_length-le}
use Rattle.error.specs.Lines.{Refusal}
use Rattle.front.specs.Outcomes.{accepted, refused, outcome}
use Rattle.front.specs.Differences.{difference}
use Rattle.front.specs.Respond.{Source, Request, Response, label, said, normal_by, check_by, same_by, why_by, respond, worst, worst_of}
use Rattle.front.specs.Promise.{Written, Answered, Answers}
use Rattle.front.specs.declared.Status.{Status}
use Rattle.front.specs.declared.Status.TheVariants.{Yes, No, Neither}
use Rattle.front.proofs.Differences.{pointwise-same}

-- ------------------------------------------------------------------ tests of bytes

pub tested : (a b : List ℕ) {r : Bool} → r ≡ pointwise eqb a b → equal a b ≡ r
tested a b e = sym (e ∙ pointwise-same a b)

-- ------------------------------------------------------------------ a file's name

pub label-standard : (name : List ℕ) → equal name (letters "-") ≡ true → label name ≡ []
unfolding label
label-standard name e = rw e refl

pub label-file : (name : List ℕ) → equal name (letters "-") ≡ false → label name ≡ name ++ letters ": "
unfolding label
label-file name e = rw e refl

-- ------------------------------------------------------------------ one writer, and two

module _ {E : Type 0} (w v m : Option (List ℕ)) where
  pub with-messages : (p : Response) (r : Result Status E) → IfOk r (Written p w v) → Answers p w v m m r
  with-messages p (Ok status) a = record { status_is = a.status_is; written = a.written; told = rw a.silent (Appends-nil m) }
  with-messages p (Err e) a = tt

-- ------------------------------------------------------------------ normal

module _ (s : Source) (w v m : Option (List ℕ)) where
  pub normal-accepted : {t : List ℕ} → outcome s.text ≡ accepted t → Appends w v t → Answered (respond (Request.normal s)) w v m m Yes
  unfolding respond normal_by
  normal-accepted {t} e p = rw e (record { status_is = refl; written = p; told = Appends-nil m })

  pub normal-refused : {r : Refusal} → outcome s.text ≡ refused r → Appends w v (said s.name r) → Answered (respond (Request.normal s)) m m w v No
  unfolding respond normal_by
  normal-refused e p = rw e (record { status_is = refl; written = Appends-nil m; told = p })

-- ------------------------------------------------------------------ check

module _ (d : Bool) (s : Source) where
  pub check-accepted : {E : Type 0} {t : List ℕ} (w v m : Option (List ℕ)) (r : Result Status E) → outcome s.text ≡ accepted t → IfOk r (Written (check_by d s (accepted t)) w v)
      → Answers (respond (Request.check d s)) w v m m r
  unfolding respond
  check-accepted w v m r e p = rw e (with-messages w v m _ r p)

  pub check-refused : {r : Refusal} (w m k : Option (List ℕ)) → outcome s.text ≡ refused r → Appends m k (said s.name r) → Answered (respond (Request.check d s)) w w m k Neither
  unfolding respond check_by
  check-refused w m k e p = rw e (record { status_is = refl; written = Appends-nil w; told = p })

  pub checked-own : (t : List ℕ) (w : Option (List ℕ)) → equal s.text t ≡ true → Written (check_by d s (accepted t)) w w Yes
  unfolding check_by
  checked-own t w e = rw e (record { status_is = refl; written = Appends-nil w; silent = refl })

module _ (s : Source) (t : List ℕ) (differs : equal s.text t ≡ false) (a b c : Option (List ℕ)) (name : Appends a b s.name) (feed : Appends b c (letters "\n")) where
  pub checked-shown : (d : Bool) (e : Option (List ℕ)) → d ≡ true → Appends c e (difference s.text t) → Written (check_by d s (accepted t)) a e No
  unfolding check_by
  checked-shown d e q p =
      rw (differs, q) (record { status_is = refl; written = Appends-trans a b e s.name _ name (Appends-trans b c e (letters "\n") _ feed p); silent = refl })

  pub checked-named : (d : Bool) → d ≡ false → Written (check_by d s (accepted t)) a c No
  unfolding check_by
  checked-named d q =
      rw (differs, q) (record { status_is = refl; written = Appends-trans a b c s.name _ name (Appends-trans b c c (letters "\n") _ feed (Appends-nil c)); silent = refl })

-- ------------------------------------------------------------------ same

module _ (q : Bool) (s t : Source) where
  pub same-accepted : {E : Type 0} {x y : List ℕ} (w v m : Option (List ℕ)) (r : Result Status E) → outcome s.text ≡ accepted x → outcome t.text ≡ accepted y
      → IfOk r (Written (same_by q s t (accepted x) (accepted y)) w v) → Answers (respond (Request.same q s t)) w v m m r
  unfolding respond
  same-accepted w v m r e f p = rw (e, f) (with-messages w v m _ r p)

  pub same-right-refused : {x : List ℕ} {r : Refusal} (w m k : Option (List ℕ)) → outcome s.text ≡ accepted x → outcome t.text ≡ refused r → Appends m k (said t.name r)
      → Answered (respond (Request.same q s t)) w w m k Neither
  unfolding respond same_by
  same-right-refused w m k e f p = rw (e, f) (record { status_is = refl; written = Appends-nil w; told = p })

  pub same-left-refused : {y : List ℕ} {r : Refusal} (w m k : Option (List ℕ)) → outcome s.text ≡ refused r → outcome t.text ≡ accepted y → Appends m k (said s.name r)
      → Answered (respond (Request.same q s t)) w w m k Neither
  unfolding respond same_by
  same-left-refused w m k e f p = rw (e, f) (record { status_is = refl; written = Appends-nil w; told = p })

  pub same-both-refused : {r p : Refusal} (w m k l : Option (List ℕ)) → outcome s.text ≡ refused r → outcome t.text ≡ refused p → Appends m k (said s.name r) → Appends k l (said t.name p)
      → Answered (respond (Request.same q s t)) w w m l Neither
  unfolding respond same_by
  same-both-refused w m k l e f a b = rw (e, f) (record { status_is = refl; written = Appends-nil w; told = Appends-trans m k l _ _ a b })

  module _ (x y : List ℕ) (w : Option (List ℕ)) where
    pub compared-equal : equal x y ≡ true → Written (same_by q s t (accepted x) (accepted y)) w w Yes
    unfolding same_by
    compared-equal e = rw e (record { status_is = refl; written = Appends-nil w; silent = refl })

    pub compared-shown : (v : Option (List ℕ)) → equal x y ≡ false → q ≡ false → Appends w v (difference x y) → Written (same_by q s t (accepted x) (accepted y)) w v No
    unfolding same_by
    compared-shown v e f p = rw (e, f) (record { status_is = refl; written = p; silent = refl })

    pub compared-quiet : equal x y ≡ false → q ≡ true → Written (same_by q s t (accepted x) (accepted y)) w w No
    unfolding same_by
    compared-quiet e f = rw (e, f) (record { status_is = refl; written = Appends-nil w; silent = refl })

-- ------------------------------------------------------------------ why

module _ (s : Source) (a b : Option (List ℕ)) where
  pub why-accepted : (c : Option (List ℕ)) {t : List ℕ} → outcome s.text ≡ accepted t → Appends a b (label s.name) → Appends b c (letters "accepted\n") → Written (respond (Request.why s)) a c Yes
  unfolding respond why_by
  why-accepted c e p q = rw e (record { status_is = refl; written = Appends-trans a b c (label s.name) (letters "accepted\n") p q; silent = refl })

  pub why-refused : {r : Refusal} → outcome s.text ≡ refused r → Appends a b (said s.name r) → Written (respond (Request.why s)) a b No
  unfolding respond why_by
  why-refused e p = rw e (record { status_is = refl; written = p; silent = refl })

-- ------------------------------------------------------------------ several

module _ {A : Type 0} (f : A → ℕ) where
  -- one status more
  pub worst-more : (xs : List A) (i : ℕ) (d : A) (all : ℕ) → i < length xs → worst all (worst_of (map f (drop i xs))) ≡ worst (worst all (f (get_or xs i d))) (worst_of (map f (drop (i + 1) xs)))
  unfolding worst_of
  worst-more xs i d all h =
      let n : i + 1 ≡ suc i = omega arith in
      rw (n, drop-cons xs i d h) (omega arith)

  pub worst-end : (xs : List A) (i : ℕ) (all : ℕ) → length xs ≤ i → worst all (worst_of (map f (drop i xs))) ≡ all
  unfolding worst_of
  worst-end xs i all h = rw (drop_of_length-le xs h) (omega arith)
