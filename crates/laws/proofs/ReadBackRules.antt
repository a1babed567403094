-- Rules, references and members of blocks, written, are read back.
-- Assumes nothing.
use Prim.Native.Nat.{ℕ, ◌<◌, ◌≤◌}
use native.Mathlib.Omega.{arith}
use mathlib.Core.Path.{◌≡◌, refl, ap}
use mathlib.Core.Bool.{false}
use mathlib.Core.List.{List, [], ◌∷◌, ◌++◌, map}
use mathlib.Core.Option.{Option, none, some}
use lib.ListN.{length}
use Rattle.basics.specs.Basics.{first_element, picked}
use Rattle.lexer.specs.Tokens.{Kind}
use Rattle.lexer.specs.Escapes.{decode_string}
use Rattle.tree.specs.Syntax.{Identifier, Prop, Expression, RuleDeclaration, TokenReference, referred, TokenPrecDeclaration, TokenConflictDeclaration, LiteralDeclaration, NamedNode, start_of}
use Rattle.notation.specs.Limits.{levels}
use Rattle.notation.specs.Parser.{Parser, ◌>>=◌, ◌>>◌, pure, choose, is_mark, eat, expect, parse_identifier, until, comma, comma_or_not}
use Rattle.notation.specs.Expressions.{reference_of, parse_braced_expression, parse_rule_named, stacked, choice_at}
use Rattle.notation.specs.Declarations.{parse_rule, reference_by, parse_token_reference, parse_token_precedence, parse_token_conflict, parse_literal, parse_named_node}
use Rattle.spelling.specs.Spelling.{quoted}
use Rattle.spelling.specs.NormalText.{each, each_after, commas, bracketed, mark, identifier, expression_tokens, body_tokens, rule_tokens, reference_tokens, token_prec_tokens, token_conflict_tokens, literal_tokens, named_node_tokens}
use Rattle.spelling.proofs.Back.{decode_back}
use Rattle.laws.proofs.Fine.{U}
use Rattle.laws.proofs.Readable.{GoodName, readable_up}
use Rattle.laws.proofs.MeetsExpressions.{GoodRule}
use Rattle.laws.proofs.Good.{Outer, GoodReference, GoodTokenPrec, GoodTokenConflict, GoodLiteral, GoodNode}
use Rattle.laws.proofs.ReadBack.{Reads, bind_reads, pure-reads, choose-true, choose-false, here_reads, next-reads, eat_yes, eat_no, expect-reads, parse_identifier-reads, Between, at-comma, at-close, commas-reads, comma-reads, comma_or_not-reads}
use Rattle.laws.proofs.ReadBackProps.{props-longer, props-reads}
use Rattle.laws.proofs.Follows.{longer, arguments-longer, Stops, stop_brace, stop_comma, end_stop, follow_end, inner_follow, as_item}
use Rattle.laws.proofs.ReadBackExpressions.{braced-reads, inner-reads, choice_at-reads}
use Rattle.laws.proofs.Every.{Every}

-- ------------------------------------------------------------------ rules

pub outer_braced : (e : Expression U) → Outer e → (ks : List Kind) → Reads (parse_braced_expression (choice_at levels)) (body_tokens e ks) e ks
outer_braced e r ks = braced-reads Outer (choice_at levels) (choice_at-reads levels) (readable_up levels) e r ks

pub name-longer : (n : Identifier U) (ks : List Kind) → length ks < length (identifier n ks)
name-longer n ks = omega arith

pub names-longer : (xs : List (Identifier U)) (ks : List Kind) → length ks ≤ length (each_after identifier xs ks)
unfolding each_after
names-longer [] ks = omega arith
names-longer (x ∷ xs) ks = let l = names-longer xs ks in omega arith

abbrev pub rule_of : Identifier U → List (Prop U) → List (Identifier U) → Expression U → RuleDeclaration U
rule_of n ps xs e = record { id = n; props = ps; params = xs; expression = e }

params-reads : (n : Identifier U) (ps : List (Prop U)) (xs : List (Identifier U)) (e : Expression U) → Every GoodName xs → Outer e → (ks : List Kind)
    → Reads (eat "<" >>= λ angle. choose angle (until (eat ">") comma (λ _. parse_identifier)) (pure []) >>= λ params. parse_braced_expression (choice_at levels) >>= λ e. pure (rule_of n ps params e))
    (bracketed identifier "<" ">" xs (body_tokens e ks)) (rule_of n ps xs e) ks
params-reads n ps [] e g r ks = bind_reads _ (eat_no "<" _ refl) (bind_reads _ (choose-false _ refl (pure-reads [] _)) (bind_reads _ (outer_braced e r ks) (pure-reads _ ks)))
params-reads n ps (x ∷ xs) e g r ks =
    bind_reads _ (eat_yes "<" _ _ refl) (bind_reads _ (choose-true _ refl
    (commas-reads ">" refl GoodName identifier (λ _. parse_identifier) (λ n g ks. refl) name-longer comma comma-reads refl (λ before n g ks b. parse_identifier-reads n ks) (x ∷ xs) g (body_tokens e ks)))
    (bind_reads _ (outer_braced e r ks) (pure-reads _ ks)))

params-first : (xs : List (Identifier U)) (e : Expression U) (ks : List Kind) → is_mark "[" (first_element (bracketed identifier "<" ">" xs (body_tokens e ks))) ≡ false
params-first [] e ks = refl
params-first (x ∷ xs) e ks = refl

pub rule-reads : (r : RuleDeclaration U) → GoodRule Outer r → (ks : List Kind) → Reads parse_rule (rule_tokens r ks) r ks
unfolding parse_rule parse_rule_named
rule-reads r g ks =
    bind_reads _ (parse_identifier-reads r.id _) (bind_reads _ (props-reads r.props g.props _ (params-first r.params r.expression ks))
    (params-reads r.id r.props r.params r.expression g.params g.body ks))

pub params-longer : (xs : List (Identifier U)) (ks : List Kind) → length ks ≤ length (bracketed identifier "<" ">" xs ks)
params-longer [] ks = omega arith
params-longer (x ∷ xs) ks = let l = names-longer xs (mark ">" ks) in omega arith

pub rule-longer : (r : RuleDeclaration U) (ks : List Kind) → length ks < length (rule_tokens r ks)
rule-longer r ks =
    let a = longer r.expression (mark "}" ks) in
    let b = params-longer r.params (body_tokens r.expression ks) in
    let c = props-longer r.props (bracketed identifier "<" ">" r.params (body_tokens r.expression ks)) in
    omega arith

-- ------------------------------------------------------------------ token blocks

reference-stacked : (r : TokenReference U) → stacked (referred r) ≡ 0
unfolding stacked
reference-stacked (TokenReference.name p t es) = refl
reference-stacked (TokenReference.literal p t) = refl

reference-bare : (r : TokenReference U) (ks : List Kind) → as_item (referred r) ks ≡ reference_tokens r ks
reference-bare (TokenReference.name p t es) ks = refl
reference-bare (TokenReference.literal p t) ks = refl

reference-of : (n : ℕ) (p : U) (r : TokenReference U) (ks : List Kind) → Reads (reference_by n p (reference_of (referred r))) ks r ks
unfolding reference_by reference_of
reference-of n p (TokenReference.name q t es) ks = pure-reads _ ks
reference-of n p (TokenReference.literal q t) ks = pure-reads _ ks

reference-reads : (n : ℕ) (r : TokenReference U) → GoodReference r → (ks : List Kind) → Stops ks → Reads (parse_token_reference n) (reference_tokens r ks) r ks
unfolding parse_token_reference
reference-reads n r g ks z =
    rw (← reference-bare r ks) (bind_reads _ (inner-reads Outer (choice_at levels) (choice_at-reads levels) (readable_up levels) g.item (reference-stacked r) ks (inner_follow (follow_end (end_stop z))))
    (reference-of n (start_of (referred r)) r ks))

reference-begins : (r : TokenReference U) → GoodReference r → (ks : List Kind) → is_mark "}" (first_element (reference_tokens r ks)) ≡ false
unfolding expression_tokens
reference-begins (TokenReference.name p t es) g ks = refl
reference-begins (TokenReference.literal p t) g ks = refl

pub reference-longer : (r : TokenReference U) (ks : List Kind) → length ks < length (reference_tokens r ks)
unfolding expression_tokens
reference-longer (TokenReference.name p t es) ks = let l = arguments-longer es ks in omega arith
reference-longer (TokenReference.literal p t) ks = omega arith

-- a list with commas, or without, in braces
module _ {A : Type 0} (G : A → Type 0) (write : A → List Kind → List Kind) (item : List A → Parser U A)
    (begins : (x : A) → G x → (ks : List Kind) → is_mark "}" (first_element (write x ks)) ≡ false) (bigger : (x : A) (ks : List Kind) → length ks < length (write x ks))
    (reads : (before : List A) (x : A) → G x → (ks : List Kind) → Stops ks → Reads (item before) (write x ks) x ks) where
  between-stops : {ks : List Kind} → Between "}" refl G write item begins bigger ks → Stops ks
  between-stops at-comma = stop_comma
  between-stops at-close = stop_brace

  pub braces-reads : (xs : List A) → Every G xs → (ks : List Kind) → Reads (expect "{" >> until (eat "}") comma_or_not item) (mark "{" (commas write xs (mark "}" ks))) xs ks
  braces-reads xs g ks =
      bind_reads _ (expect-reads "{" _ _ refl) (commas-reads "}" refl G write item begins bigger comma_or_not comma_or_not-reads refl (λ before x g ks b. reads before x g ks (between-stops b)) xs g ks)

pub names-reads : (ns : List (Identifier U)) → Every GoodName ns → (ks : List Kind) → Reads (expect "{" >> until (eat "}") comma_or_not (λ _. parse_identifier)) (mark "{" (commas identifier ns (mark "}" ks))) ns ks
names-reads = braces-reads GoodName identifier (λ _. parse_identifier) (λ n g ks. refl) name-longer (λ before n g ks z. parse_identifier-reads n ks)

pub precedence-reads : (x : TokenPrecDeclaration U) → GoodTokenPrec x → (ks : List Kind) → Reads parse_token_precedence (token_prec_tokens x ks) x ks
unfolding parse_token_precedence
precedence-reads x g ks =
    bind_reads _ (here_reads _) (bind_reads _ (next-reads _ _) (bind_reads _
    (braces-reads GoodReference reference_tokens (λ _. parse_token_reference _) reference-begins reference-longer (λ before r g ks z. reference-reads _ r g ks z) x.items g.items ks) (pure-reads _ ks)))

pub conflict-reads : (x : TokenConflictDeclaration U) → GoodTokenConflict x → (ks : List Kind) → Reads parse_token_conflict (token_conflict_tokens x ks) x ks
unfolding parse_token_conflict
conflict-reads x g ks =
    bind_reads _ (here_reads _) (bind_reads _ (next-reads _ _) (bind_reads _ (expect-reads "{" _ _ refl) (bind_reads _ (reference-reads _ x.left g.left _ stop_comma)
    (bind_reads _ (comma_or_not-reads _) (bind_reads _ (reference-reads _ x.right g.right _ stop_brace) (bind_reads _ (expect-reads "}" _ ks refl) (pure-reads _ ks)))))))

pub literal-reads : (x : LiteralDeclaration U) → GoodLiteral x → (ks : List Kind) → is_mark "[" (first_element ks) ≡ false → Reads (parse_literal (decode_string (quoted x.literal))) (literal_tokens x ks) x ks
unfolding parse_literal
literal-reads x g ks h =
    rw (decode_back x.literal) (bind_reads _ (here_reads _) (bind_reads _ (next-reads _ _) (bind_reads _ (props-reads x.props g.props ks h) (pure-reads _ ks))))

pub node-reads : (x : NamedNode U) → GoodNode x → (ks : List Kind) → is_mark "[" (first_element ks) ≡ false → Reads parse_named_node (named_node_tokens x ks) x ks
unfolding parse_named_node
node-reads x g ks h = bind_reads _ (parse_identifier-reads x.id _) (bind_reads _ (props-reads x.props g.props ks h) (pure-reads _ ks))

pub node-longer : (x : NamedNode U) (ks : List Kind) → length ks < length (named_node_tokens x ks)
node-longer x ks = let l = props-longer x.props ks in omega arith

-- ------------------------------------------------------------------ members of blocks, written one after another

module _ {B : Type 0} (write : B → List Kind → List Kind) where
  pub each_append : (xs ys : List B) (ks : List Kind) → each write (xs ++ ys) ks ≡ each write xs (each write ys ks)
  unfolding each
  each_append [] ys ks = refl
  each_append (x ∷ xs) ys ks = ap (write x) (each_append xs ys ks)

  pub each_map : {A : Type 0} (c : A → B) (xs : List A) (ks : List Kind) → each write (map c xs) ks ≡ each (λ x. write (c x)) xs ks
  unfolding each
  each_map c [] ks = refl
  each_map c (x ∷ xs) ks = ap (write (c x)) (each_map c xs ks)

module _ {A B : Type 0} (p : B → Option A) where
  pub picked_all : (c : A → B) → ((a : A) → p (c a) ≡ some a) → (xs : List A) → picked p (map c xs) ≡ xs
  unfolding picked
  picked_all c e [] = refl
  picked_all c e (x ∷ xs) = rw (e x, picked_all c e xs)

  pub picked_no : {C : Type 0} (c : C → B) → ((a : C) → p (c a) ≡ none) → (xs : List C) → picked p (map c xs) ≡ []
  unfolding picked
  picked_no c e [] = refl
  picked_no c e (x ∷ xs) = rw (e x) (picked_no c e xs)
