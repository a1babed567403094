-- The walk over the records of a grammar writes its normal text.
-- Assumes nothing.
use Prim.Native.Nat.{ℕ}
use mathlib.Core.Path.{◌≡◌, refl, sym, ◌∙◌, ap}
use mathlib.Core.Bool.{Bool, true, false}
use mathlib.Core.List.{List, [], ◌∷◌, ◌++◌, map, append_assoc}
use lib.Dec.{eqb}
use Rattle.basics.specs.Basics.{letters}
use Rattle.characters.specs.Utf8.{encode, encode_all}
use Rattle.lexer.specs.Tokens.{Kind}
use Rattle.tree.specs.Syntax.{Identifier, ExternalPropDeclaration, Declaration, top_rule, rule, tokens, local_tokens, context, external_tokens, external_specializer, external_prop_source, precedences, main_skip, scoped_skip, GrammarDeclaration}
use Rattle.tree.specs.Records.{Branch, Branches, []ᴮ, ◌∷ᴮ◌, branch}
use Rattle.tree.specs.Stored.{valued, flag, name_branch, declaration_branch, external_prop_branch, grammar_branch}
use Rattle.tree.specs.Stored as Stored
use Rattle.spelling.specs.Spelling.{spell, spaced}
use Rattle.spelling.specs.NormalText.{each_after, mark, at, identifier, declaration_tokens, external_prop_tokens, dialects_lines, detect_lines, lines_text, normal_text}
use Rattle.writer.specs.Walk.{text_for, new_line, between, separator, tail, setting, in_brackets, is_line, tokenless, lead, ends, before, spelled, after, close, block_end, last_class, closing, branches_text}
use Rattle.writer.specs.Walk as Walk
use Rattle.spelling.proofs.Bytes.{encode-append}
use Rattle.spelling.proofs.Lines.{lines_of}
use Rattle.writer.proofs.Walked.{class_of, source_on, body, walks, walks-on, led, led-spaced}
use Rattle.writer.proofs.WalkedDeclarations.{declaration, external-prop-says}

-- the text of a whole tree
unfoldable pub tree_text : Branch → List ℕ
tree_text (branch r bs) = branches_text r 0 bs ++ closing r.value (last_class 0 bs)

-- the bytes of lines
abbrev text_of : List (List Kind) → List ℕ
text_of ls = encode_all (lines_text ls)

text-line : (l : List Kind) (ls : List (List Kind)) → text_of (l ∷ ls) ≡ encode_all (spaced l) ++ (0x0A ∷ text_of ls)
unfolding lines_text encode_all encode
text-line l ls = encode-append (spaced l) (0x0A ∷ lines_text ls)

text-append : (ks ls : List (List Kind)) → text_of (ks ++ ls) ≡ text_of ks ++ text_of ls
unfolding lines_text encode_all
text-append [] ls = refl
text-append (k ∷ ks) ls =
    text-line k (ks ++ ls) ∙ ap (λ (x : List ℕ). encode_all (spaced k) ++ (0x0A ∷ x)) (text-append ks ls)
    ∙ sym (append_assoc (encode_all (spaced k)) (0x0A ∷ text_of ks) (text_of ls)) ∙ ap (λ (x : List ℕ). x ++ text_of ls) (sym (text-line k ks))

-- without the space in front
inner : {a b : List ℕ} → 0x20 ∷ a ≡ 0x20 ∷ b → a ≡ b
inner e = cc

-- ------------------------------------------------------------------ lines

line : (d : Declaration ℕ) (z : List ℕ) → body 1 (declaration_branch d) z ≡ encode_all (spaced (declaration_tokens d [])) ++ (0x0A ∷ z)
unfolding declaration_branch declaration_tokens body lead in_brackets is_line tokenless before spelled close block_end ends text_for led
line (top_rule r) z = inner (declaration (top_rule r) [] (0x0A ∷ z) ∙ led-spaced _ _ (0x0A ∷ z))
line (rule r) z = inner (declaration (rule r) [] (0x0A ∷ z) ∙ led-spaced _ _ (0x0A ∷ z))
line (tokens x) z = inner (declaration (tokens x) [] (0x0A ∷ z) ∙ led-spaced _ _ (0x0A ∷ z))
line (local_tokens x) z = inner (declaration (local_tokens x) [] (0x0A ∷ z) ∙ led-spaced _ _ (0x0A ∷ z))
line (context x) z = inner (declaration (context x) [] (0x0A ∷ z) ∙ led-spaced _ _ (0x0A ∷ z))
line (external_tokens x) z = inner (declaration (external_tokens x) [] (0x0A ∷ z) ∙ led-spaced _ _ (0x0A ∷ z))
line (external_specializer x) z = inner (declaration (external_specializer x) [] (0x0A ∷ z) ∙ led-spaced _ _ (0x0A ∷ z))
line (external_prop_source x) z = inner (declaration (external_prop_source x) [] (0x0A ∷ z) ∙ led-spaced _ _ (0x0A ∷ z))
line (precedences x) z = inner (declaration (precedences x) [] (0x0A ∷ z) ∙ led-spaced _ _ (0x0A ∷ z))
line (main_skip e) z = inner (declaration (main_skip e) [] (0x0A ∷ z) ∙ led-spaced _ _ (0x0A ∷ z))
line (scoped_skip x) z = inner (declaration (scoped_skip x) [] (0x0A ∷ z) ∙ led-spaced _ _ (0x0A ∷ z))

-- of a class whose lines stand alone
record Lined (c : ℕ) : Type 0 where
  other : eqb c 24 ≡ false
  nameless : eqb c 15 ≡ false
  alone : tail 1 c ≡ []

lined-by : {c : ℕ} → eqb c 24 ≡ false → eqb c 15 ≡ false → tail 1 c ≡ [] → Lined c
lined-by d e f = record { other = d; nameless = e; alone = f }

lined : (d : Declaration ℕ) → Lined (class_of (declaration_branch d))
unfolding declaration_branch Walk.class tail text_for
lined (top_rule r) = lined-by refl refl refl
lined (rule r) = lined-by refl refl refl
lined (tokens x) = lined-by refl refl refl
lined (local_tokens x) = lined-by refl refl refl
lined (context x) = lined-by refl refl refl
lined (external_tokens x) = lined-by refl refl refl
lined (external_specializer x) = lined-by refl refl refl
lined (external_prop_source x) = lined-by refl refl refl
lined (precedences x) = lined-by refl refl refl
lined (main_skip e) = lined-by refl refl refl
lined (scoped_skip x) = lined-by refl refl refl

external-line : (x : ExternalPropDeclaration ℕ) (z : List ℕ) → body 1 (external_prop_branch x) z ≡ encode_all (spaced (external_prop_tokens x [])) ++ (0x0A ∷ z)
unfolding external_prop_tokens body lead in_brackets is_line tokenless before spelled close block_end ends text_for led
external-line x z = inner (external-prop-says x [] (0x0A ∷ z) ∙ led-spaced _ _ (0x0A ∷ z))

external-lined : (x : ExternalPropDeclaration ℕ) → Lined (class_of (external_prop_branch x))
unfolding Walk.class tail text_for
external-lined x = lined-by refl refl refl

module _ (p v : ℕ) where
  -- the rest of a grammar's lines, after a line of a class
  from : ℕ → Branches → List ℕ
  from l bs = walks (valued 1 p v) l bs (closing v (last_class l bs))

  module _ {A : Type 0} (f : A → Branch) (t : A → List Kind) (alone : (x : A) → Lined (class_of (f x))) (says : (x : A) (z : List ℕ) → body 1 (f x) z ≡ encode_all (spaced (t x)) ++ (0x0A ∷ z)) where
    from_one : (x : A) (l : ℕ) (bs : Branches) → from l (f x ∷ᴮ bs) ≡ new_line l (class_of (f x)) ++ (encode_all (spaced (t x)) ++ (0x0A ∷ from (class_of (f x)) bs))
    unfolding from body between separator source_on setting last_class
    from_one x l bs = rw ((alone x).nameless, (alone x).alone) (ap (λ (y : List ℕ). new_line l (class_of (f x)) ++ y) (says x (from (class_of (f x)) bs)))

    -- one line for each
    from-lines : (xs : List A) (bs : Branches) (z : List ℕ) → ((l : ℕ) → eqb l 24 ≡ false → from l bs ≡ z) → (l : ℕ) → eqb l 24 ≡ false → from l (Stored.each f xs bs) ≡ text_of (map t xs) ++ z
    unfolding Stored.each lines_text encode_all new_line
    from-lines [] bs z e l h = e l h
    from-lines (x ∷ xs) bs z e l h =
        from_one x l (Stored.each f xs bs)
        ∙ rw ((alone x).other, h)
        (ap (λ (y : List ℕ). encode_all (spaced (t x)) ++ (0x0A ∷ y)) (from-lines xs bs z e (class_of (f x)) (alone x).other)
        ∙ sym (append_assoc (encode_all (spaced (t x))) (0x0A ∷ text_of (map t xs)) z) ∙ ap (λ (y : List ℕ). y ++ z) (sym (text-line (t x) (map t xs))))

-- ------------------------------------------------------------------ the end of a text

module _ (p : ℕ) (b : Bool) where
  from-none : (l : ℕ) → eqb l 24 ≡ false → from p (flag b) l []ᴮ ≡ text_of (detect_lines b)
  unfolding from body last_class closing text_for lines_text spaced spell encode_all encode
  from-none l h = rw h (at_flag b)
    where
      at_flag : (c : Bool) → text_for Walk.detect_words (flag c) ≡ text_of (detect_lines c)
      at_flag true = refl
      at_flag false = refl

  abbrev externals : List (ExternalPropDeclaration ℕ) → Branches
  externals xs = Stored.each external_prop_branch xs []ᴮ

  abbrev external_text : List (ExternalPropDeclaration ℕ) → List ℕ
  external_text xs = text_of (map (λ x. external_prop_tokens x []) xs) ++ text_of (detect_lines b)

  from-externals : (xs : List (ExternalPropDeclaration ℕ)) (l : ℕ) → eqb l 24 ≡ false → from p (flag b) l (externals xs) ≡ external_text xs
  from-externals xs l h = from-lines p (flag b) external_prop_branch (λ x. external_prop_tokens x []) external-lined external-line xs []ᴮ (text_of (detect_lines b)) from-none l h

  -- behind dialects
  after-dialects : (xs : List (ExternalPropDeclaration ℕ)) → from p (flag b) 24 (externals xs) ≡ 0x20 ∷ 0x7D ∷ 0x0A ∷ external_text xs
  unfolding Stored.each new_line from last_class closing text_for body lines_text encode_all Walk.class
  after-dialects [] = ap (λ (y : List ℕ). 0x20 ∷ 0x7D ∷ 0x0A ∷ y) (from-none 0 refl)
  after-dialects (x ∷ xs) =
      from_one p (flag b) external_prop_branch (λ y. external_prop_tokens y []) external-lined external-line x 24 (externals xs)
      ∙ ap (λ (y : List ℕ). 0x20 ∷ 0x7D ∷ 0x0A ∷ y) (sym (from_one p (flag b) external_prop_branch (λ y. external_prop_tokens y []) external-lined external-line x 0 (externals xs)) ∙ from-externals (x ∷ xs) 0 refl)

  more-dialects : (ns : List (Identifier ℕ)) (xs : List (ExternalPropDeclaration ℕ))
      → from p (flag b) 24 (Stored.each (name_branch 24) ns (externals xs)) ≡ led (each_after identifier ns (mark "}" [])) (0x0A ∷ external_text xs)
  unfolding Stored.each each_after from last_class body between separator new_line source_on setting tail lead in_brackets is_line tokenless before spelled after close block_end ends text_for Walk.class led encode encode_all spell
  more-dialects [] xs = after-dialects xs
  more-dialects (n ∷ ns) xs = ap (λ (y : List ℕ). 0x20 ∷ 0x2C ∷ 0x20 ∷ (encode_all n.name ++ y)) (more-dialects ns xs)

  from-dialects : (ns : List (Identifier ℕ)) (xs : List (ExternalPropDeclaration ℕ)) (l : ℕ) → eqb l 24 ≡ false
      → from p (flag b) l (Stored.each (name_branch 24) ns (externals xs)) ≡ text_of (dialects_lines ns) ++ external_text xs
  unfolding Stored.each lines_text encode_all encode spell from last_class body between separator new_line source_on setting tail lead in_brackets is_line tokenless before spelled after close block_end ends text_for Walk.class led
  from-dialects [] xs l h = from-externals xs l h
  from-dialects (n ∷ ns) xs l h =
      let ks : List Kind = at "dialects" (mark "{" (identifier n (each_after identifier ns (mark "}" [])))) in
      let e : List ℕ = external_text xs in
      rw h
      (inner (ap (λ (y : List ℕ). 0x20 ∷ (letters "@dialects {" ++ (0x20 ∷ (encode_all n.name ++ y)))) (more-dialects ns xs) ∙ led-spaced _ _ (0x0A ∷ e))
      ∙ sym (append_assoc (encode_all (spaced ks)) (0x0A ∷ []) e) ∙ ap (λ (y : List ℕ). y ++ e) (sym (text-line ks [])))

-- ------------------------------------------------------------------ the whole

-- the walk over a grammar's records writes its normal text
pub grammar_walked : (g : GrammarDeclaration ℕ) → tree_text (grammar_branch g) ≡ normal_text g
unfolding tree_text grammar_branch normal_text from
grammar_walked g =
    let v : ℕ = flag g.auto_delimiters in
    let ds : List (List Kind) = map (λ d. declaration_tokens d []) g.declarations in
    let xs : List (List Kind) = map (λ x. external_prop_tokens x []) g.external_props in
    let bs : Branches = Stored.each (name_branch 24) g.dialects (externals g.start g.auto_delimiters g.external_props) in
    sym (walks-on (Stored.each declaration_branch g.declarations bs) (valued 1 g.start v) 0 (closing v (last_class 0 (Stored.each declaration_branch g.declarations bs))))
    ∙ from-lines g.start v declaration_branch (λ d. declaration_tokens d []) lined line g.declarations bs (text_of (dialects_lines g.dialects) ++ external_text g.start g.auto_delimiters g.external_props)
    (from-dialects g.start g.auto_delimiters g.dialects g.external_props) 0 refl
    ∙ sym (ap text_of (lines_of g) ∙ text-append (ds ++ dialects_lines g.dialects ++ xs) (detect_lines g.auto_delimiters)
    ∙ rw (text-append (ds ++ dialects_lines g.dialects) xs, text-append ds (dialects_lines g.dialects)) (simp append_assoc))
