-- What is due of a list of numbers, while nodes are open.
use Rattle.std.specs.Prelude.{◌≡◌, List, [], ◌∷◌, ◌++◌, ℕ, length}
use Rattle.text.specs.Lists.{Text}
use Rattle.tree.specs.Tree.{Symbol, Grammar}
use Rattle.derive.specs.Derive.{Row, Derives, Derivation, left_parse}

-- the list, used to its last number, is a derivation of exactly this record
abbrev pub Named : List ℕ → Grammar → Text → Type 0
Named P g r = (t : Row) × Derivation g r t × (left_parse t ≡ P)

-- the numbers q are those of a row of the symbols from the place i on, and of the rows after the open nodes, the innermost first; the last
-- of them ends with the record
abbrev pub Due : Grammar → Text → List Symbol → ℕ → List (List Symbol) → List ℕ → Type 0
Due g r ss i [] q = (t : Row) × Derives g r t ss i (length r) × (left_parse t ≡ q)
Due g r ss i (us ∷ uss) q = (t : Row) × (m : ℕ) × (p : List ℕ) × Derives g r t ss i m × (left_parse t ++ p ≡ q) × Due g r us m uss p
