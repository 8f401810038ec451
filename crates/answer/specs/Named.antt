-- The derivation that a list of numbers names, computed.
use Rattle.std.specs.Prelude.{Bool, true, false, List, [], ◌∷◌, ℕ, zero, suc, ◌+◌, ltb, eqb, length, drop}
use Rattle.text.specs.Lists.{Text}
use Rattle.tree.specs.Tree.{Terminal, Symbol, Grammar}
use Rattle.plain.specs.Written.{terminals_in}
use Rattle.plain.specs.Plain.{alts, fits, width}
use Rattle.derive.specs.Derive.{Row, end, leaf, node, alternative, root}
use Rattle.derive.specs.Pick.{Choice, found, no-choice}

-- a row, the place where it ends, and the numbers after its own
pub data Got : Type 0 where
  got : Row → ℕ → List ℕ → Got
  none : Got

abbrev pub on_got : Got → (Row → ℕ → List ℕ → Got) → Got
on_got (got t j q) f = f t j q
on_got none f = none

-- what reads a row from a place and a list
abbrev pub Reader : Type 0
Reader = ℕ → List ℕ → Got

-- a terminal, and the row after it
abbrev pub read_leaf : Text → Reader → Terminal → Reader
read_leaf r rest x i q = elim (fits x (drop i r)) [ true ↦ on_got (rest (i + width x) q) (λ t j p. got (leaf (i + width x) t) j p) | false ↦ none ]

-- a node, by the next number, and the row after it
abbrev pub read_node : Grammar → (List Symbol → Reader) → Reader → Symbol → Reader
read_node g sub rest s i [] = none
read_node g sub rest s i (a ∷ q) = elim (ltb a (length (alts g s))) [
  | true ↦ on_got (sub (alternative g s a) i q) (λ c m p. on_got (rest m p) (λ t j o. got (node a m c t) j o))
  | false ↦ none
]

abbrev pub read_first : Grammar → Text → (List Symbol → Reader) → Reader → Symbol → List Terminal → Reader
read_first g r sub rest s [] i q = read_node g sub rest s i q
read_first g r sub rest s (x ∷ xs) i q = read_leaf r rest x i q

-- a row of the symbols; the rows of its nodes' children are read by `sub`
abbrev pub row_by : Grammar → Text → (List Symbol → Reader) → List Symbol → Reader
row_by g r sub [] i q = got end i q
row_by g r sub (s ∷ ss) i q = read_first g r sub (row_by g r sub ss) s (terminals_in s) i q

-- to a depth: each node takes a number, so the list's length is deep enough
abbrev pub below : Grammar → Text → ℕ → List Symbol → Reader
below g r zero ss i q = none
below g r (suc f) ss i q = row_by g r (below g r f) ss i q

-- all of the record and all of the list
abbrev pub whole : Text → Got → Choice
whole r (got t j []) = elim (eqb j (length r)) [ true ↦ found t | false ↦ no-choice ]
whole r (got t j (a ∷ q)) = no-choice
whole r none = no-choice

unfoldable pub named_of : List ℕ → Grammar → Text → Choice
named_of q g r = whole r (row_by g r (below g r (length q)) (root g ∷ []) 0 q)
