-- Props, written, are read back.
-- Assumes nothing.
use Prim.Native.Nat.{ℕ, ◌+◌, ◌<◌, ◌≤◌}
use Prim.Native.Char.{code}
use native.Mathlib.Omega.{arith}
use mathlib.Core.Path.{◌≡◌, refl}
use mathlib.Core.Bool.{Bool, true, false}
use mathlib.Core.List.{List, [], ◌∷◌, ◌++◌}
use mathlib.Core.Option.{Option, none, some}
use lib.ListN.{length}
use Rattle.basics.specs.Basics.{if◌then◌otherwise◌, first_element}
use Rattle.lexer.specs.Tokens.{Kind}
use Rattle.tree.specs.Syntax.{PropPart, value, Prop}
use Rattle.notation.specs.Parser.{Parser, ◌>>=◌, pure, choose, is_mark, eat, loop, comma}
use Rattle.notation.specs.Expressions.{part_by, parse_part, prop_named, prop_by, parse_prop, parse_props}
use Rattle.spelling.specs.NormalText.{each, each_after, mark, prop_name, part_tokens, value_tokens, prop_tokens, props_tokens}
use Rattle.spelling.proofs.Back.{decode_back}
use Rattle.laws.proofs.Fine.{U}
use Rattle.laws.proofs.Readable.{GoodProp}
use Rattle.laws.proofs.ReadBack.{Reads, bind_reads, pure-reads, choose-true, choose-false, here_reads, kind-reads, next-reads, eat_yes, eat_no, expect-reads, parse_identifier-reads, Back, over, turn, loop-reads, Between, at-comma, at-close, commas-reads, comma-reads}
use Rattle.laws.proofs.Every.{Every}

pub if_true : {A : Type 0} {b : Bool} {p : Parser U A} (q : Parser U A) {ks ls : List Kind} {a : A} → b ≡ true → Reads p ks a ls → Reads (if b then p otherwise q) ks a ls
if_true q e h = rw e h

pub if_false : {A : Type 0} {b : Bool} (p : Parser U A) {q : Parser U A} {ks ls : List Kind} {a : A} → b ≡ false → Reads q ks a ls → Reads (if b then p otherwise q) ks a ls
if_false p e h = rw e h

-- ------------------------------------------------------------------ props

-- each writes one token at least
part-longer : (x : PropPart U) (ks : List Kind) → length ks < length (part_tokens x ks)
part-longer (value p t) ks = omega arith
part-longer (PropPart.name p t) ks = omega arith

pub each-longer : {A : Type 0} (write : A → List Kind → List Kind) → ((x : A) (ks : List Kind) → length ks < length (write x ks)) → (xs : List A) (ks : List Kind) → length ks ≤ length (each write xs ks)
unfolding each
each-longer write h [] ks = omega arith
each-longer write h (x ∷ xs) ks = let l = h x (each write xs ks) in let m = each-longer write h xs ks in omega arith

pub after-longer : {A : Type 0} (write : A → List Kind → List Kind) → ((x : A) (ks : List Kind) → length ks < length (write x ks)) → (xs : List A) (ks : List Kind) → length ks ≤ length (each_after write xs ks)
unfolding each_after
after-longer write h [] ks = omega arith
after-longer write h (x ∷ xs) ks = let l = h x (each_after write xs ks) in let m = after-longer write h xs ks in omega arith

pub prop-longer : (x : Prop U) (ks : List Kind) → length ks < length (prop_tokens x ks)
prop-longer x ks = go x.value
  where
    go : (xs : List (PropPart U)) → length ks < length (prop_name x.at x.name ∷ value_tokens xs ks)
    go [] = omega arith
    go (y ∷ ys) = let l = each-longer part_tokens part-longer (y ∷ ys) ks in omega arith

pub props-longer : (ps : List (Prop U)) (ks : List Kind) → length ks ≤ length (props_tokens ps ks)
props-longer [] ks = omega arith
props-longer (x ∷ xs) ks = let l = prop-longer x (each_after prop_tokens xs (mark "]" ks)) in let m = after-longer prop_tokens prop-longer xs (mark "]" ks) in omega arith

part-reads : (x : PropPart U) (ks : List Kind) → Reads (parse_part []) (part_tokens x ks) (some x) ks
unfolding parse_part part_by
part-reads (value p t) ks = bind_reads _ (here_reads _) (bind_reads _ (kind-reads _ refl) (bind_reads _ (next-reads _ ks) (rw (decode_back t) (pure-reads _ ks))))
part-reads (PropPart.name p t) ks =
    bind_reads _ (here_reads _) (bind_reads _ (kind-reads _ refl) (bind_reads _ (next-reads _ _)
    (bind_reads _ (parse_identifier-reads (record { start = tt; name = t }) _) (bind_reads _ (expect-reads "}" _ ks refl) (pure-reads _ ks)))))

-- what stands after a prop
pub data AfterProp : List Kind → Type 0 where
  prop-comma : {ks : List Kind} → AfterProp (Kind.mark (code ",") ∷ ks)
  prop-close : {ks : List Kind} → AfterProp (Kind.mark (code "]") ∷ ks)

no_part : (before : List (PropPart U)) {ks : List Kind} → AfterProp ks → Reads (parse_part before) ks none ks
unfolding parse_part part_by
no_part before prop-comma = bind_reads _ (here_reads _) (bind_reads _ (kind-reads _ refl) (pure-reads none _))
no_part before prop-close = bind_reads _ (here_reads _) (bind_reads _ (kind-reads _ refl) (pure-reads none _))

any-before : (before : List (PropPart U)) (ks ls : List Kind) (o : Option (PropPart U)) → Reads (parse_part []) ks o ls → Reads (parse_part before) ks o ls
unfolding parse_part
any-before before ks ls o h = h

parts-back : (xs : List (PropPart U)) (before : List (PropPart U)) (ks : List Kind) → AfterProp ks → Back parse_part ks 1 before (each part_tokens xs ks) xs
unfolding each
parts-back [] before ks a = over (no_part before a)
parts-back (x ∷ xs) before ks a =
    let ls = each part_tokens xs ks in
    let l = part-longer x ls in
    let less : length ls + 1 < length (part_tokens x ls) + 1 = omega arith in
    turn 1 ls (any-before before _ _ _ (part-reads x ls)) less (parts-back xs (before ++ x ∷ []) ks a)

-- the value after a prop's name
no_equals : {ks : List Kind} → AfterProp ks → is_mark "=" (first_element ks) ≡ false
no_equals prop-comma = refl
no_equals prop-close = refl

value-reads : (f : List (PropPart U) → Prop U) (xs : List (PropPart U)) (ks : List Kind) → AfterProp ks
    → Reads (eat "=" >>= λ b. choose b (loop parse_part) (pure []) >>= λ parts. pure (f parts)) (value_tokens xs ks) (f xs) ks
value-reads f [] ks a = bind_reads _ (eat_no "=" ks (no_equals a)) (bind_reads _ (choose-false _ refl (pure-reads [] ks)) (pure-reads _ ks))
value-reads f (x ∷ xs) ks a =
    bind_reads _ (eat_yes "=" _ _ refl) (bind_reads _ (choose-true _ refl (loop-reads parse_part ks _ (x ∷ xs) (parts-back (x ∷ xs) [] ks a))) (pure-reads _ ks))

abbrev pub prop_of : Bool → List ℕ → List (PropPart U) → Prop U
prop_of b t xs = record { start = tt; at = b; name = t; value = xs }

named-reads : (b : Bool) (t : List ℕ) (xs : List (PropPart U)) (ks : List Kind) → AfterProp ks → Reads parse_prop (prop_name b t ∷ value_tokens xs ks) (prop_of b t xs) ks
unfolding parse_prop prop_by prop_named
named-reads true t xs ks a = bind_reads _ (kind-reads _ refl) (bind_reads _ (here_reads _) (bind_reads _ (next-reads _ _) (value-reads (prop_of true t) xs ks a)))
named-reads false t xs ks a = bind_reads _ (kind-reads _ refl) (bind_reads _ (here_reads _) (bind_reads _ (next-reads _ _) (value-reads (prop_of false t) xs ks a)))

prop-reads : (x : Prop U) (ks : List Kind) → AfterProp ks → Reads parse_prop (prop_tokens x ks) x ks
prop-reads x ks a = named-reads x.at x.name x.value ks a

prop-begins : (x : Prop U) (ks : List Kind) → is_mark "]" (first_element (prop_tokens x ks)) ≡ false
prop-begins x ks = go x.at
  where
    go : (b : Bool) → is_mark "]" (some (prop_name b x.name)) ≡ false
    go true = refl
    go false = refl

between-prop : {ks : List Kind} → Between "]" refl GoodProp prop_tokens (λ _. parse_prop) (λ x g ks. prop-begins x ks) prop-longer ks → AfterProp ks
between-prop at-comma = prop-comma
between-prop at-close = prop-close

-- props in their brackets, or none where no bracket follows
pub props-reads : (ps : List (Prop U)) → Every GoodProp ps → (ks : List Kind) → is_mark "[" (first_element ks) ≡ false → Reads parse_props (props_tokens ps ks) ps ks
unfolding parse_props
props-reads [] g ks h = bind_reads _ (eat_no "[" ks h) (choose-false _ refl (pure-reads [] ks))
props-reads (x ∷ xs) g ks h =
    bind_reads _ (eat_yes "[" _ _ refl) (choose-true _ refl
    (commas-reads "]" refl GoodProp prop_tokens (λ _. parse_prop) (λ x g ks. prop-begins x ks) prop-longer comma comma-reads refl (λ before x g ks b. prop-reads x ks (between-prop b)) (x ∷ xs) g ks))
