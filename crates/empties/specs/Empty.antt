-- The heights of empty stretches, found by lowering each to what the others offer it until nothing falls.
use Rattle.std.specs.Prelude.{Bool, true, false, List, ◌≡◌, ℕ, ◌+◌, ◌<◌, ◌≤◌, max, eqb, length, get_or}
use Rattle.text.specs.Lists.{Text, pick}
use Rattle.tree.specs.Tree.{Terminal, Grammar}
use Rattle.plain.specs.Plain.{width}
use Rattle.chart.specs.Code.{next_kind, goes_at, rule_at, owner_at, Ruled}
use Rattle.chart.specs.Heights.{none}
use Rattle.heights.specs.Table.{up_of}
use Rattle.heights.specs.Filling.{total}
use Rattle.heights.proofs.Part.{Attained}
use Rattle.reach.specs.Flags.{home_of}
use Rattle.sparse.specs.Cells.{empty_in, empty_rest, row_of}
use Rattle.sparse.specs.Steps.{Empties}

-- what the notes offer the dot p
unfoldable pub offer_of : List ℕ → List ℕ → ℕ → ℕ
offer_of c F p = pick (eqb (next_kind c p) 0) 0
    (pick (eqb (next_kind c p) 1) (pick (eqb (goes_at c p) 0) (empty_rest c F (p + 1)) none)
    (pick (eqb (next_kind c p) 2) (max (up_of (empty_in F (rule_at c p))) (empty_rest c F (p + 1))) none))

-- the height of the dot p is not above it; an end inside a rule has none
abbrev pub Done : List ℕ → ℕ → List ℕ → Type 0
Done c p F = (next_kind c p ≡ 0 → owner_at c p ≡ 0 → ⊥) → empty_in F (row_of c p) ≤ offer_of c F p

-- The heights are those of derivations. Of a terminal only its width counts: one that takes no character fits everywhere.
abbrev pub Wide : List ℕ → ℕ → Terminal → Type 0
Wide c p x = goes_at c p ≡ width x

abbrev pub Still : List ℕ → ℕ → ℕ → Type 0
Still c p i = goes_at c p ≡ 0

abbrev pub Any : ℕ → ℕ → Type 0
Any p i = Unit {0}

abbrev pub rule_in : List ℕ → ℕ → ℕ → ℕ → ℕ
rule_in F e i j = empty_in F e

abbrev pub rest_in : List ℕ → List ℕ → ℕ → ℕ → ℕ → ℕ
rest_in c F p i j = empty_rest c F p

abbrev pub Derived : List ℕ → ℕ → List ℕ → Type 0
Derived c size F = (g : Grammar) (r : Text) (top first : ℕ) (k : Ruled (Wide c) c g size top first) (i : ℕ) → i ≤ length r
    → Attained k r (home_of c) (Still c) Any Any (rule_in F) (rest_in c F) i i

-- heights fell, if r tells so; else nothing changed, and P holds
pub record Moved (c : List ℕ) (size : ℕ) (P : List ℕ → Type 0) (F : List ℕ) (r : Bool) (F' : List ℕ) : Type 0 where
  pub long : length F' ≡ length F
  pub below : (x : ℕ) → x < 1536 → get_or F' x 0 ≡ get_or F x 0
  pub derived : Derived c size F → Derived c size F'
  pub fell : r ≡ true → total F' < total F
  pub same : r ≡ false → F' ≡ F
  pub holds : r ≡ false → P F

-- heights fell, or none did
pub record Eased (c : List ℕ) (size : ℕ) (F F' : List ℕ) : Type 0 where
  pub long : length F' ≡ length F
  pub below : (x : ℕ) → x < 1536 → get_or F' x 0 ≡ get_or F x 0
  pub derived : Derived c size F → Derived c size F'
  pub most : total F' ≤ total F

-- no dot has a height
pub record Cleared (size : ℕ) (F F' : List ℕ) : Type 0 where
  pub long : length F' ≡ length F
  pub below : (x : ℕ) → x < 1536 → get_or F' x 0 ≡ get_or F x 0
  pub clear : (p : ℕ) → p < size → empty_in F' p ≡ none

-- the notes have all heights
pub record Found (c : List ℕ) (size : ℕ) (F F' : List ℕ) : Type 0 where
  pub long : length F' ≡ length F
  pub below : (x : ℕ) → x < 1536 → get_or F' x 0 ≡ get_or F x 0
  pub empties : Empties c F' size
