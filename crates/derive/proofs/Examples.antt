-- Records that the starred cases (crates/cases) lack, computed and carried to the definitions.
use mathlib.Core.Path.{◌≡◌, refl}
use mathlib.Core.Bool.{true, false}
use mathlib.Core.List.{List, [], ◌∷◌}
use Prim.Native.Nat.{ℕ, ◌+◌}
use Prim.Native.String.{String}
use Rattle.text.specs.Lists.{Text, chars}
use Rattle.tree.specs.Tree.{unmarked, string, range, literal, inclusion, Symbol, terminal, nonterminal, option, repeat1}
use Rattle.tree.specs.Tree.{Alternative, nil, cons, Body, one, also, Rule, no-prolog, Grammar}
use Rattle.plain.specs.Static.{code_of}
use Rattle.derive.specs.Derive.{Row, end, leaf, node, left_parse}
use Rattle.derive.specs.Chosen.{Reading, Second}
use Rattle.derive.specs.Pick.{beside, found, chosen_of}
use Rattle.derive.specs.Another.{ambiguous_of}
use Rattle.derive.proofs.Tools.{is_t, not_t}
use Rattle.derive.proofs.Choose.{found-reading}
use Rattle.derive.proofs.Ambiguous.{ambiguous-second}

reads : {g : Grammar} {r : Text} {t : Row} → chosen_of g r ≡ found t → Reading g r t (left_parse t)
reads {g} {r} = found-reading g r

ambiguous : {g : Grammar} {r : Text} {t : Row} → chosen_of g r ≡ found t → ambiguous_of g r t ≡ true → Second g r (left_parse t)
ambiguous {g} {r} e b = (ambiguous-second g r (reads e)).0 (is_t b)

only : {g : Grammar} {r : Text} {t : Row} → chosen_of g r ≡ found t → ambiguous_of g r t ≡ false → Second g r (left_parse t) → ⊥
only {g} {r} e b s = not_t b ((ambiguous-second g r (reads e)).1 s)

abbrev rule : String → Body → Rule
rule n b = record { mark = unmarked; name = chars n; body = b }

abbrev from : Body → List Rule → Grammar
from b rs = record { prolog = no-prolog; root = rule "a" b; others = rs }

abbrev name : String → Symbol
name n = nonterminal unmarked (chars n)

abbrev lit : String → Symbol
lit s = terminal (literal unmarked (string (chars s)))

abbrev just : Symbol → Alternative
just s = cons s nil

abbrev x : Symbol
x = lit "x"

-- `p: lat, " ", lon. lat: d+. lon: d+. d: ["0"-"9"].`
abbrev d : Symbol
d = name "d"

abbrev g9 : Grammar
g9 = from (one (cons (name "lat") (cons (lit " ") (cons (name "lon") nil))))
    (rule "lat" (one (just (repeat1 d))) ∷ rule "lon" (one (just (repeat1 d))) ∷ rule "d"
    (one (just (terminal (inclusion unmarked (range (string (chars "0")) (string (chars "9")) ∷ []))))) ∷ [])

abbrev digits : ℕ → ℕ → Row
digits i j = node 0 j (node 0 j (node 0 (i + 1) (leaf (i + 1) end) (node 0 j (node 0 j (leaf j end) (node 1 j end end)) end)) end) end

abbrev t9 : Row
t9 = node 0 5 (beside (digits 0 2) (leaf 3 (digits 3 5))) end

c9 : Reading g9 (chars "45 12") t9 (0 ∷ 0 ∷ 0 ∷ 0 ∷ 0 ∷ 0 ∷ 1 ∷ 0 ∷ 0 ∷ 0 ∷ 0 ∷ 0 ∷ 1 ∷ [])
unfolding code_of
c9 = reads refl

c9-only : Second g9 (chars "45 12") (left_parse t9) → ⊥
unfolding code_of
c9-only = only {t = t9} refl refl

-- the lower alternative also below a child that is not the highest: `a: b, c. b: d. d: e. e: "x". c: f; "y". f: "y".`
abbrev g16 : Grammar
g16 = from (one (cons (name "b") (just (name "c"))))
    (rule "b" (one (just d)) ∷ rule "d" (one (just (name "e"))) ∷ rule "e" (one (just x)) ∷ rule "c" (also (just (name "f")) (one (just (lit "y")))) ∷ rule "f" (one (just (lit "y"))) ∷ [])

abbrev t16 : Row
t16 = node 0 2 (node 0 1 (node 0 1 (node 0 1 (leaf 1 end) end) end) (node 1 2 (leaf 2 end) end)) end

c16 : Reading g16 (chars "xy") t16 (0 ∷ 0 ∷ 0 ∷ 0 ∷ 1 ∷ [])
c16 = reads refl

-- the smallest end places, and other end places: `a: "x"?, "x"?.`
abbrev g18 : Grammar
g18 = from (one (cons (option x) (just (option x)))) []

abbrev t18 : Row
t18 = node 0 1 (node 1 0 end (node 0 1 (leaf 1 end) end)) end

c18 : Reading g18 (chars "x") t18 (0 ∷ 1 ∷ 0 ∷ [])
c18 = reads refl

c18-second : Second g18 (chars "x") (0 ∷ 1 ∷ 0 ∷ [])
c18-second = ambiguous {t = t18} refl refl

-- two ways that the root never uses: `a: "xy"; b, "z". b: "x", c. c: "y"; "y".`
abbrev g20 : Grammar
g20 = from (also (just (lit "xy")) (one (cons (name "b") (just (lit "z")))))
    (rule "b" (one (cons x (just (name "c")))) ∷ rule "c" (also (just (lit "y")) (one (just (lit "y")))) ∷ [])

c20 : Reading g20 (chars "xy") (node 0 2 (leaf 2 end) end) (0 ∷ [])
c20 = reads refl

c20-only : Second g20 (chars "xy") (0 ∷ []) → ⊥
c20-only = only {t = node 0 2 (leaf 2 end) end} refl refl
