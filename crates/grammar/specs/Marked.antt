-- The marked texts, and edges beside them: tables of claims, and for each table one theorem that no claim is wrong.
-- Assumes nothing.
use Rattle.std.specs.Prelude.{ℕ, ◌≡◌, refl, Bool, true, false, ◌&&◌, not, List, [], ◌∷◌, eqb}
use Prim.Native.String.{String}
use Rattle.basics.specs.Basics.{letters, same}
use Rattle.characters.specs.Utf8.{encode, encode_all}
use Rattle.tree.specs.Stored.{grammar_words}
use Rattle.tree.specs.Equality.{agree}
use Rattle.tree.specs.Syntax.{GrammarDeclaration}
use Rattle.spelling.specs.NormalText.{normal_text}
use Rattle.grammar.specs.Reading.{Reading, tree, stopped, reading}
use Rattle.grammar.specs.Program.{printed}

-- what is claimed of a text
pub data Claim : Type 0 where
  -- the text is refused by a cause at a place
  stops : (text : String) → (cause place : ℕ) → Claim
  -- the trees of two texts agree, or do not
  agrees : (text other : String) → Claim
  differs : (text other : String) → Claim
  -- the words of the text's records
  stores : (text : String) → List ℕ → Claim
  -- the text's normal text
  writes : (text normal : String) → Claim

-- the bytes of a quoted text
unfoldable pub bytes : String → List ℕ
unfolding encode encode_all
bytes s = encode_all (letters s)

-- the reading is stopped by this cause at this place
abbrev pub stopped_by : Reading → ℕ → ℕ → Bool
stopped_by (stopped n p) m q = eqb n m && eqb p q
stopped_by (tree g) m q = false

-- there is a tree, and it passes the test
abbrev pub of_tree : (GrammarDeclaration ℕ → Bool) → Reading → Bool
of_tree test (tree g) = test g
of_tree test (stopped n p) = false

-- there are two trees, and they pass the test
abbrev pub of_trees : (GrammarDeclaration ℕ → GrammarDeclaration ℕ → Bool) → Reading → Reading → Bool
of_trees test r q = of_tree (λ g. of_tree (test g) q) r

-- the definitions bear the claim out
unfoldable pub right : Claim → Bool
unfolding same bytes reading agree grammar_words normal_text
right (stops s n p) = stopped_by (reading (bytes s)) n p
right (agrees s t) = of_trees agree (reading (bytes s)) (reading (bytes t))
right (differs s t) = of_trees (λ g h. not (agree g h)) (reading (bytes s)) (reading (bytes t))
right (stores s ws) = of_tree (λ g. same (grammar_words g) ws) (reading (bytes s))
right (writes s t) = of_tree (λ g. same (normal_text g) (bytes t)) (reading (bytes s))

-- the claims that are not right
unfoldable pub wrong : List Claim → List Claim
unfolding right
wrong [] = []
wrong (c ∷ cs) = elim (right c) [ true ↦ wrong cs | false ↦ c ∷ wrong cs ]

-- ------------------------------------------------------------------ the marked texts

-- the claims about them
abbrev pub marked : List Claim
marked =
    stops "" 14 0
    ∷ stops "@top" 9 4
    ∷ stores "@top T{}" (34 ∷ 7 ∷ 0 ∷ 0 ∷ 0 ∷ 0 ∷ 0 ∷ 2 ∷ 5 ∷ 0 ∷ 1 ∷ 0 ∷ 0 ∷ 1 ∷ 1 ∷ 0 ∷ 0 ∷ 0 ∷ 0 ∷ 0 ∷ 1 ∷ [])
    ∷ differs "@top T{}" "@top T{()}"
    ∷ agrees "@top T{\"\"}" "@top T{()}"
    ∷ stops "@top T{a|}" 17 9
    ∷ stops "@top T{a|(~x)}" 17 10
    ∷ stops "@top T{$[a--]}" 20 7
    ∷ stores "@top T{$[+--]}"
    (38 ∷ 7 ∷ 0 ∷ 0 ∷ 43 ∷ 46 ∷ 0 ∷ 37 ∷ 7 ∷ 0 ∷ 0 ∷ 0 ∷ 0 ∷ 1 ∷ 2 ∷ 5 ∷ 0 ∷ 1 ∷ 0 ∷ 0 ∷ 1 ∷ 1 ∷ 0 ∷ 0 ∷ 0 ∷ 0 ∷ 0 ∷ 1 ∷ [])
    ∷ stops "@top T{$[aa]}" 21 7
    ∷ stores "@top T{$[-a]}"
    (38 ∷ 7 ∷ 0 ∷ 0 ∷ 45 ∷ 46 ∷ 0 ∷ 38 ∷ 7 ∷ 0 ∷ 0 ∷ 97 ∷ 98 ∷ 0 ∷ 37 ∷ 7 ∷ 0 ∷ 0 ∷ 0 ∷ 0 ∷ 2 ∷ 2 ∷ 5 ∷ 0 ∷ 1 ∷ 0 ∷ 0 ∷ 1 ∷ 1 ∷ 0 ∷ 0 ∷ 0 ∷ 0 ∷ 0 ∷ 1 ∷ [])
    ∷ stops "@top T{x[]<p>{}}" 15 7
    ∷ stops "@top T{@specialize<a>}" 16 7
    ∷ stops "/*" 4 0
    -- agreement does not ignore a prop's `@`
    ∷ differs "@top T[a=b]{}" "@top T[@a=b]{}"
    ∷ []

-- none of these claims is wrong
pub marked-right : wrong marked ≡ []
unfolding wrong
marked-right = refl

-- the program's sample, as it is printed
pub sample : printed (bytes "@top T{a*|\"b\"} a{$[x-z]}") ≡ bytes "@top T { a * | \"b\" }\na { $[\\u{78}-\\u{7A}] }\n"
unfolding bytes printed
sample = refl

-- a refusal, as it is printed
pub sample-refused : printed (bytes "@top T{}\na{\n b|}") ≡ bytes "refused 17 at 15 line 3 column 3\n"
unfolding bytes printed
sample-refused = refl

-- ------------------------------------------------------------------ edges

-- Where the definitions could be wrong though all marked texts come out: what the scope warns of, and what each rule of writing does.
abbrev pub edges : List Claim
edges =
    -- two empty arguments, and no comma after the last elsewhere
    writes "@top T{a<,>}" "@top T { a < , > }\n"
    ∷ stops "@top T[a,]{}" 8 9
    ∷ stops "@dialects{a,}" 8 12
    -- a second `@else` is swallowed; a later `@dialects` replaces the earlier
    ∷ writes "@local tokens{@else a @else b{c}}@top T{}" "@top T { }\n@local tokens { b { c } @else a }\n"
    ∷ writes "@dialects{a b}@top T{}@dialects{c}" "@top T { }\n@dialects { c }\n"
    ∷ writes "@dialects{a b}@top T{}@dialects{}" "@top T { }\n"
    -- specialize with one part; an empty literal is none
    ∷ writes "@top T{@extend[x]<'a'>}" "@top T { @extend [ x ] < \"a\" , \"a\" > }\n"
    ∷ stops "@top T{@extend<''>}" 16 7
    -- classes
    ∷ writes "@top T{std.digit std.@eof std}" "@top T { @digit @eof std }\n"
    ∷ stops "@top T{std.x}" 8 11
    -- brackets
    ∷ writes "@top T{((a|b))|(c d)|(e)*|(f g)+|()}" "@top T { ( a | b ) | c d | e * | ( f g ) + | ( ) }\n"
    ∷ writes "@top T{(!x a)b ~y}" "@top T { ( ! x a ) b ~ y }\n"
    ∷ stops "@top T{|a}" 17 7
    -- a bad next token is refused before a complaint about the current one, but for a set's spans and a second `@tokens`
    ∷ stops "@top T{@extend<a>\"" 16 7
    ∷ stops "@top T{@extend<a \"" 5 17
    ∷ stops "@context a from 'b' @context \"" 5 29
    ∷ stops "@tokens{} @tokens \"" 10 10
    ∷ stops "@top T{$[z-a] \"" 20 7
    ∷ stops "@top \"" 5 5
    -- escapes; U+0085 is no space between tokens; U+FEFF and U+2028 are
    ∷ writes "@top T{'\\u{110000}\\u{41}\\x42\\\"\\\\'}" "@top T { \"u{110000}AB\\\"\\\\\" }\n"
    ∷ stops "@top T{}\u{85}" 4 8
    ∷ writes "\u{feff}@top\u{2028}λ{}" "@top λ { }\n"
    -- props, external declarations, groups
    ∷ writes "a[@x=y.z{w}]{} @top T{[]{}}" "@top T { _anon { } }\na [ @x = \"y\" \".\" \"z\" { w } ] { }\n"
    ∷ writes "@external tokens a from 'b'{@conflict{c}d,@conflict{e}f[g]}@top T{}"
    "@top T { }\n@external tokens a from \"b\" { d , f [ g ] , @conflict { c , e } }\n"
    ∷ writes "@detectDelim @external prop p from 'q' @skip{a}{b{} @top T{}}"
    "@skip { a } { @top T { } b { } }\n@external prop p as p from \"q\"\n@detectDelim\n"
    ∷ writes "@tokens{x{y}@conflict{a 'b'}'l'@precedence{c,d}}@top T{}"
    "@top T { }\n@tokens { @precedence { c , d } @conflict { a , \"b\" } x { y } \"l\" }\n"
    -- 63 and 64 brackets around a name, 64 and 65 repeat marks
    ∷ writes "@top T{(((((((((((((((((((((((((((((((((((((((((((((((((((((((((((((((a)))))))))))))))))))))))))))))))))))))))))))))))))))))))))))))))}" "@top T { a }\n"
    ∷ stops "@top T{((((((((((((((((((((((((((((((((((((((((((((((((((((((((((((((((a" 3 71
    ∷ stops "@top T{a****************************************************************\"" 5 72
    ∷ stops "@top T{a*****************************************************************\"" 3 72
    ∷ []

-- none of these claims is wrong
pub edges-right : wrong edges ≡ []
unfolding wrong
edges-right = refl
