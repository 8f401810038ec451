-- The layout of small grammars, computed.
use mathlib.Core.List.{[], ◌∷◌}
use mathlib.Core.Path.{◌≡◌, refl}
use Rattle.text.specs.Lists.{chars as quoted}
use Rattle.tree.specs.Tree.{unmarked, string, literal, Symbol, terminal, nonterminal, repeat0, repeat1sep, rest, Alternative, nil, cons, one, no-prolog, Grammar}
use Rattle.layout.specs.Layout.{layout, starts_of, dots_of, name_at}

abbrev x : Symbol
x = terminal (literal unmarked (string (quoted "x")))

abbrev comma : Symbol
comma = terminal (literal unmarked (string (quoted ",")))

abbrev only : Alternative → Grammar
only b = record { prolog = no-prolog; root = record { mark = unmarked; name = quoted "a"; body = one b }; others = [] }

abbrev a : Symbol
a = nonterminal unmarked (quoted "a")

-- a: "x"*, "x"*.
abbrev twice : Grammar
twice = only (cons (repeat0 x) (cons (repeat0 x) nil))

twice-layout : layout twice ≡ repeat0 x ∷ repeat0 x ∷ a ∷ []
unfolding layout
twice-layout = refl

twice-names : name_at twice 0 ∷ name_at twice 1 ∷ name_at twice 2 ∷ [] ≡ 3 ∷ 7 ∷ 10 ∷ []
unfolding layout name_at
twice-names = refl

-- a: "x"++",".
abbrev listed : Grammar
listed = only (cons (repeat1sep x comma) nil)

listed-starts : starts_of listed ≡ (0, rest x comma) ∷ (5, repeat1sep x comma) ∷ (8, a) ∷ []
unfolding layout starts_of
listed-starts = refl

listed-dots : dots_of listed ≡ (comma ∷ x ∷ rest x comma ∷ []) ∷ (x ∷ rest x comma ∷ []) ∷ (rest x comma ∷ []) ∷ [] ∷ []
    ∷ (x ∷ rest x comma ∷ []) ∷ (rest x comma ∷ []) ∷ [] ∷ (repeat1sep x comma ∷ []) ∷ [] ∷ []
unfolding layout dots_of
listed-dots = refl
