-- What a token holds, at its place in the table; and the tokens that tell all of their text.
use Rattle.std.specs.Prelude.{◌≡◌, List, [], ◌∷◌, ◌++◌, ℕ, ◌+◌, ◌<◌, ltb, eqb, length, get_or, take, drop}
use Rattle.text.specs.Lists.{Text, chars, pick}
use Rattle.tree.specs.Tree.{Chars, string, hex}
use Rattle.tree.specs.Tokens.{Token, name, quoted, coded, include, exclude, member-quoted, member-coded, member-range, member-class, set-end, insert-quoted, insert-coded}
use Rattle.tree.specs.Tokens.{open-group, close-group, next-alternative, to-option, to-repeat0, to-repeat1, to-repeat0sep, to-repeat1sep, rule-head, rule_end, version-is}
use Rattle.tokens.specs.Names.{name_at}
use Rattle.tidy.specs.Tidy.{quoted_text}
use Rattle.tidy_parts.specs.Parts.{coded_text}

-- an end of a range, and a class, at a place of the table
unfoldable pub end_at : List ℕ → ℕ → Text
end_at T k = pick (eqb (get_or T k 0) 0) (quoted_text (take 1 (drop (k + 1) T))) (coded_text (get_or T (k + 1) 0))

unfoldable pub class_at : List ℕ → ℕ → Text
class_at T k = get_or T k 0 ∷ pick (eqb (get_or T (k + 1) 0) 0) [] (get_or T (k + 1) 0 ∷ [])

abbrev pub range_at : List ℕ → ℕ → Text
range_at T k = end_at T k ++ chars "-" ++ end_at T (k + 2)

-- what a token of a form holds, at its place
unfoldable pub held_at : ℕ → List ℕ → ℕ → Text
held_at f T k =
    pick (ltb f 2) (name_at T k) (pick (eqb f 2) (quoted_text (name_at T k)) (pick (eqb f 3) (coded_text (get_or T (k + 1) 0))
    (pick (eqb f 4) (range_at T (k + 1)) (pick (eqb f 5) (class_at T (k + 1)) []))))

-- a hex number is a character's, an end of a range one character, a class one letter or two
abbrev pub FitEnd : Chars → Type 0
FitEnd (string cs) = length cs ≡ 1
FitEnd (hex n) = n < 0x110000

abbrev pub FitClass : Text → Type 0
FitClass [] = ⊥
FitClass (c ∷ []) = Unit {0}
FitClass (c ∷ d ∷ cs) = (d ≡ 0 → ⊥) × (cs ≡ [])

abbrev pub Fit : Token → Type 0
Fit (name m n) = Unit {0}
Fit (quoted m cs) = Unit {0}
Fit (coded m n) = n < 0x110000
Fit (include m) = Unit {0}
Fit (exclude m) = Unit {0}
Fit (member-quoted cs) = Unit {0}
Fit (member-coded n) = n < 0x110000
Fit (member-range a b) = FitEnd a × FitEnd b
Fit (member-class k) = FitClass k
Fit set-end = Unit {0}
Fit (insert-quoted cs) = Unit {0}
Fit (insert-coded n) = n < 0x110000
Fit open-group = Unit {0}
Fit close-group = Unit {0}
Fit next-alternative = Unit {0}
Fit to-option = Unit {0}
Fit to-repeat0 = Unit {0}
Fit to-repeat1 = Unit {0}
Fit to-repeat0sep = Unit {0}
Fit to-repeat1sep = Unit {0}
Fit (rule-head m n) = Unit {0}
Fit rule_end = Unit {0}
Fit (version-is cs) = Unit {0}
