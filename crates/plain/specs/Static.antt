-- The static rules, each judged over the whole text.
use Rattle.std.specs.Prelude.{Bool, true, false, not, ◌&&◌, ◌||◌, List, [], ◌∷◌, ℕ, ◌%◌, ltb, leb, get_or}
use Rattle.text.specs.Lists.{Text, any, same, repeats, span, inside}
use Rattle.text.specs.Lists as words
use Rattle.category.specs.Category.{is_class}
use Rattle.tree.specs.Tree.{Chars, Member, chars, range, class, no-prolog, version, Grammar, codes}
use Rattle.plain.specs.Written.{names, members, hexes, heads}

-- 5: a name used has no rule
unfoldable pub undefined : Grammar → Bool
undefined g = any (λ n. not (any (same n) (heads g))) (names g)

-- 6: a name has two rules
unfoldable pub duplicate : Grammar → Bool
duplicate g = repeats (heads g)

-- 7: a hex number is above 10FFFF
unfoldable pub beyond : Grammar → Bool
beyond g = any (ltb 0x10ffff) (hexes g)

-- 8: a hex number names a surrogate or noncharacter: FDD0 to FDEF, and the last two of each plane
unfoldable pub unassignable : ℕ → Bool
unassignable c = inside c (span 0xd800 0xdfff) || inside c (span 0xfdd0 0xfdef) || leb 0xfffe (c % 0x10000)

unfoldable pub banned : Grammar → Bool
banned g = any unassignable (hexes g)

-- the one code point of a range's end
unfoldable pub code_of : Chars → ℕ
code_of k = get_or (codes k) 0 0

-- 9: a range runs backwards
unfoldable pub runs_back : Member → Bool
runs_back m = elim m [ chars k ↦ false | range a b ↦ ltb (code_of b) (code_of a) | class k ↦ false ]

unfoldable pub backwards : Grammar → Bool
backwards g = any runs_back (members g)

-- 10: no such class
unfoldable pub no_class : Member → Bool
no_class m = elim m [ chars k ↦ false | range a b ↦ false | class k ↦ not (is_class k) ]

unfoldable pub unclassed : Grammar → Bool
unclassed g = any no_class (members g)

-- what sets the version mark: "a prolog names a version other than `1.0`"
unfoldable pub mismatched : Grammar → Bool
mismatched g = elim g.prolog [ no-prolog ↦ false | version k ↦ not (same k (words.chars "1.0")) ]
