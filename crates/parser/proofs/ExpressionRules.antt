-- What the functions on expressions come to, path by path.
-- Assumes nothing.
use Prim.Native.Nat.{ℕ}
use mathlib.Core.Path.{◌≡◌, refl, ◌∙◌}
use mathlib.Core.Bool.{Bool, true, false}
use mathlib.Core.List.{List}
use Rattle.lexer.specs.Tokens.{Tokens}
use Rattle.tree.specs.Syntax.{Expression, Prop, SpecializeKind}
use Rattle.notation.specs.Parser.{Answer, read, refused, Parser, and_then, ◌>>=◌, ◌>>◌, pure, choose, next, eat, expect}
use Rattle.notation.specs.Expressions.{content_by, reference_of, parse_braced_expression, parse_specialize_expression, parse_parenthesized_expression, parse_props}
use Rattle.parser.specs.Shapes.{specialize_head, SpecializeParts, specialize_parts}

-- the second part of a specialize, after the comma, and `>`
unfoldable pub second_part : Parser ℕ (Expression ℕ) → Parser ℕ (Expression ℕ)
second_part below = do
  f ← below
  expect ">"
  pure f

-- ------------------------------------------------------------------ in braces, and a second part

module _ (below : Parser ℕ (Expression ℕ)) (ts : Tokens ℕ) where
  pub braced_open : {c p : ℕ} → expect "{" ts ≡ refused c p → parse_braced_expression below ts ≡ refused c p
  unfolding parse_braced_expression ◌>>=◌ and_then
  braced_open e = rw (parse_braced_expression, e)

  module _ {us : Tokens ℕ} (e : expect "{" ts ≡ read tt us) where
    pub braced-below : {c p : ℕ} → below us ≡ refused c p → parse_braced_expression below ts ≡ refused c p
    unfolding parse_braced_expression ◌>>=◌ and_then
    braced-below f = rw (parse_braced_expression, e, and_then, f)

    pub braced-close : {a : Expression ℕ} {vs : Tokens ℕ} {c p : ℕ} → below us ≡ read a vs → expect "}" vs ≡ refused c p → parse_braced_expression below ts ≡ refused c p
    unfolding parse_braced_expression ◌>>=◌ and_then
    braced-close f g = rw (parse_braced_expression, e, and_then, f, g)

    pub braced-done : {a : Expression ℕ} {vs ws : Tokens ℕ} → below us ≡ read a vs → expect "}" vs ≡ read tt ws → parse_braced_expression below ts ≡ read a ws
    unfolding parse_braced_expression ◌>>=◌ and_then pure
    braced-done f g = rw (parse_braced_expression, e, and_then, f, g)

  pub second_below : {c p : ℕ} → below ts ≡ refused c p → second_part below ts ≡ refused c p
  unfolding second_part ◌>>=◌ and_then
  second_below e = rw (second_part, e)

  pub second-close : {a : Expression ℕ} {us : Tokens ℕ} {c p : ℕ} → below ts ≡ read a us → expect ">" us ≡ refused c p → second_part below ts ≡ refused c p
  unfolding second_part ◌>>=◌ and_then
  second-close e f = rw (second_part, e, and_then, f)

  pub second-done : {a : Expression ℕ} {us vs : Tokens ℕ} → below ts ≡ read a us → expect ">" us ≡ read tt vs → second_part below ts ≡ read a vs
  unfolding second_part ◌>>=◌ and_then pure
  second-done e f = rw (second_part, e, and_then, f)

-- ------------------------------------------------------------------ round brackets

module _ (below : Parser ℕ (Expression ℕ)) (p : ℕ) (ts : Tokens ℕ) where
  pub paren_refused : {c q : ℕ} → eat ")" ts ≡ refused c q → parse_parenthesized_expression below p ts ≡ refused c q
  unfolding parse_parenthesized_expression ◌>>=◌ and_then
  paren_refused e = rw (parse_parenthesized_expression, e)

  pub paren_empty : {us : Tokens ℕ} → eat ")" ts ≡ read true us → parse_parenthesized_expression below p ts ≡ read (Expression.empty p) us
  unfolding parse_parenthesized_expression ◌>>=◌ and_then choose pure
  paren_empty e = rw (parse_parenthesized_expression, e)

  module _ (e : eat ")" ts ≡ read false ts) where
    pub paren_below : {c q : ℕ} → below ts ≡ refused c q → parse_parenthesized_expression below p ts ≡ refused c q
    unfolding parse_parenthesized_expression ◌>>=◌ and_then choose
    paren_below f = rw (parse_parenthesized_expression, e, and_then, f)

    pub paren_close : {a : Expression ℕ} {us : Tokens ℕ} {c q : ℕ} → below ts ≡ read a us → expect ")" us ≡ refused c q → parse_parenthesized_expression below p ts ≡ refused c q
    unfolding parse_parenthesized_expression ◌>>=◌ and_then choose
    paren_close f g = rw (parse_parenthesized_expression, e, and_then, f, g)

    pub paren_done : {a : Expression ℕ} {us vs : Tokens ℕ} → below ts ≡ read a us → expect ")" us ≡ read tt vs → parse_parenthesized_expression below p ts ≡ read a vs
    unfolding parse_parenthesized_expression ◌>>=◌ and_then choose pure
    paren_done f g = rw (parse_parenthesized_expression, e, and_then, f, g)

  -- ------------------------------------------------------------------ specialize

  pub parts_below : {c q : ℕ} → below ts ≡ refused c q → specialize_parts below p ts ≡ refused c q
  unfolding specialize_parts ◌>>=◌ and_then
  parts_below e = rw (specialize_parts, e)

  module _ {a : Expression ℕ} {us : Tokens ℕ} (e : below ts ≡ read a us) where
    pub parts-comma : {c q : ℕ} → eat "," us ≡ refused c q → specialize_parts below p ts ≡ refused c q
    unfolding specialize_parts ◌>>=◌ and_then
    parts-comma f = rw (specialize_parts, e, and_then, f)

    -- two parts
    abbrev parts_of : Expression ℕ → Parser ℕ SpecializeParts
    parts_of b vs = read (record { token = a; content = b }) vs

    parts-two : {vs : Tokens ℕ} → eat "," us ≡ read true vs → specialize_parts below p ts ≡ and_then (second_part below vs) parts_of
    unfolding specialize_parts second_part ◌>>=◌ and_then choose pure
    parts-two {vs} f = rw (specialize_parts, e, and_then, f) (go (below vs))
      where
        close : (b : Expression ℕ) (x : Answer ℕ (Unit {0})) → and_then x (λ _. parts_of b) ≡ and_then (and_then x (λ _ ws. read b ws)) parts_of
        close b (read y ws) = refl
        close b (refused c q) = refl

        go : (x : Answer ℕ (Expression ℕ)) → and_then x (λ b ws. and_then (expect ">" ws) (λ _. parts_of b)) ≡ and_then (and_then x (λ b ws. and_then (expect ">" ws) (λ _ ys. read b ys))) parts_of
        go (read b ws) = close b (expect ">" ws)
        go (refused c q) = refl

    module _ {vs : Tokens ℕ} (f : eat "," us ≡ read true vs) where
      pub parts-second : {c q : ℕ} → second_part below vs ≡ refused c q → specialize_parts below p ts ≡ refused c q
      unfolding and_then
      parts-second g = parts-two f ∙ rw g

      pub parts-both : {b : Expression ℕ} {ws : Tokens ℕ} → second_part below vs ≡ read b ws → specialize_parts below p ts ≡ read (record { token = a; content = b }) ws
      unfolding and_then
      parts-both g = parts-two f ∙ rw g

    -- one part
    module _ (f : eat "," us ≡ read false us) where
      pub parts-one-refused : {c q : ℕ} → content_by p (reference_of a) us ≡ refused c q → specialize_parts below p ts ≡ refused c q
      unfolding specialize_parts ◌>>=◌ and_then choose
      parts-one-refused g = rw (specialize_parts, e, and_then, f, g)

      module _ {b : Expression ℕ} (g : content_by p (reference_of a) us ≡ read b us) where
        pub parts-one-close : {c q : ℕ} → expect ">" us ≡ refused c q → specialize_parts below p ts ≡ refused c q
        unfolding specialize_parts ◌>>=◌ and_then choose
        parts-one-close h = rw (specialize_parts, e, and_then, f, g, h)

        pub parts-one : {ws : Tokens ℕ} → expect ">" us ≡ read tt ws → specialize_parts below p ts ≡ read (record { token = a; content = b }) ws
        unfolding specialize_parts ◌>>=◌ and_then choose pure
        parts-one h = rw (specialize_parts, e, and_then, f, g, h)

-- after its head
module _ (below : Parser ℕ (Expression ℕ)) (p : ℕ) (k : SpecializeKind) (ts : Tokens ℕ) where
  abbrev special_of : List (Prop ℕ) → SpecializeParts → Expression ℕ
  special_of ps x = Expression.special p k ps x.token x.content

  special-is : parse_specialize_expression below p k ts ≡ and_then (specialize_head ts) (λ ps us. and_then (specialize_parts below p us) (λ x ws. read (special_of ps x) ws))
  unfolding parse_specialize_expression specialize_head specialize_parts ◌>>=◌ and_then pure
  special-is = go (next ts)
    where
      last : (ps : List (Prop ℕ)) (a b : Expression ℕ) (x : Answer ℕ (Unit {0})) → and_then x (λ _ ws. read (Expression.special p k ps a b) ws)
          ≡ and_then (and_then x (λ _ ws. read (record { token = a; content = b }) ws)) (λ x ws. read (special_of ps x) ws)
      last ps a b (read y ws) = refl
      last ps a b (refused c q) = refl

      content : (ps : List (Prop ℕ)) (a : Expression ℕ) (x : Answer ℕ (Expression ℕ)) → and_then x (λ b us. and_then (expect ">" us) (λ _ ws. read (Expression.special p k ps a b) ws))
          ≡ and_then (and_then x (λ b us. and_then (expect ">" us) (λ _ ws. read (record { token = a; content = b }) ws))) (λ x ws. read (special_of ps x) ws)
      content ps a (read b us) = last ps a b (expect ">" us)
      content ps a (refused c q) = refl

      two : (ps : List (Prop ℕ)) (a : Expression ℕ) (x : Answer ℕ Bool)
          → and_then x (λ t us. and_then (choose t below (content_by p (reference_of a)) us) (λ b us. and_then (expect ">" us) (λ _ ws. read (Expression.special p k ps a b) ws)))
          ≡ and_then (and_then x (λ t us. and_then (choose t below (content_by p (reference_of a)) us) (λ b us. and_then (expect ">" us) (λ _ ws. read (record { token = a; content = b }) ws)))) (λ x ws. read (special_of ps x) ws)
      two ps a (read t us) = content ps a (choose t below (content_by p (reference_of a)) us)
      two ps a (refused c q) = refl

      first : (ps : List (Prop ℕ)) (x : Answer ℕ (Expression ℕ))
          → and_then x (λ a us. and_then (eat "," us) (λ t us. and_then (choose t below (content_by p (reference_of a)) us) (λ b us. and_then (expect ">" us) (λ _ ws. read (Expression.special p k ps a b) ws))))
          ≡ and_then (and_then x (λ a us. and_then (eat "," us) (λ t us. and_then (choose t below (content_by p (reference_of a)) us) (λ b us. and_then (expect ">" us) (λ _ ws. read (record { token = a; content = b }) ws))))) (λ x ws. read (special_of ps x) ws)
      first ps (read a us) = two ps a (eat "," us)
      first ps (refused c q) = refl

      angle : (ps : List (Prop ℕ)) (x : Answer ℕ (Unit {0}))
          → and_then x (λ _ us. and_then (below us) (λ a us. and_then (eat "," us) (λ t us. and_then (choose t below (content_by p (reference_of a)) us) (λ b us. and_then (expect ">" us) (λ _ ws. read (Expression.special p k ps a b) ws)))))
          ≡ and_then (and_then x (λ _ us. read ps us)) (λ ps us. and_then (specialize_parts below p us) (λ x ws. read (special_of ps x) ws))
      angle ps (read y us) = first ps (below us)
      angle ps (refused c q) = refl

      props : (x : Answer ℕ (List (Prop ℕ)))
          → and_then x (λ ps us. and_then (expect "<" us) (λ _ us. and_then (below us) (λ a us. and_then (eat "," us) (λ t us. and_then (choose t below (content_by p (reference_of a)) us) (λ b us. and_then (expect ">" us) (λ _ ws. read (Expression.special p k ps a b) ws))))))
          ≡ and_then (and_then x (λ ps us. and_then (expect "<" us) (λ _ us. read ps us))) (λ ps us. and_then (specialize_parts below p us) (λ x ws. read (special_of ps x) ws))
      props (read ps us) = angle ps (expect "<" us)
      props (refused c q) = refl

      go : (x : Answer ℕ (Unit {0}))
          → and_then x (λ _ us. and_then (parse_props us) (λ ps us. and_then (expect "<" us) (λ _ us. and_then (below us) (λ a us. and_then (eat "," us) (λ t us. and_then (choose t below (content_by p (reference_of a)) us) (λ b us. and_then (expect ">" us) (λ _ ws. read (Expression.special p k ps a b) ws)))))))
          ≡ and_then (and_then x (λ _ us. and_then (parse_props us) (λ ps us. and_then (expect "<" us) (λ _ us. read ps us)))) (λ ps us. and_then (specialize_parts below p us) (λ x ws. read (special_of ps x) ws))
      go (read y us) = props (parse_props us)
      go (refused c q) = refl

  pub special-head : {c q : ℕ} → specialize_head ts ≡ refused c q → parse_specialize_expression below p k ts ≡ refused c q
  unfolding and_then
  special-head e = special-is ∙ rw e

  module _ {ps : List (Prop ℕ)} {us : Tokens ℕ} (e : specialize_head ts ≡ read ps us) where
    pub special-parts : {c q : ℕ} → specialize_parts below p us ≡ refused c q → parse_specialize_expression below p k ts ≡ refused c q
    unfolding and_then
    special-parts f = special-is ∙ rw (e, and_then, f)

    pub special-done : {x : SpecializeParts} {ws : Tokens ℕ} → specialize_parts below p us ≡ read x ws
        → parse_specialize_expression below p k ts ≡ read (Expression.special p k ps x.token x.content) ws
    unfolding and_then
    special-done f = special-is ∙ rw (e, and_then, f)
