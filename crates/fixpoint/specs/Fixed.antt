-- Tables each cell of which is the least that the table gives it.
use Rattle.std.specs.Prelude.{◌⊎◌, ◌≡◌, List, ℕ, ◌+◌, ◌<◌, ◌≤◌, length, get_or}
use Rattle.chart.specs.Code.{owner_at}
use Rattle.chart.specs.Heights.{none}
use Rattle.heights.specs.Table.{cell_of, value_of, Place}
use Rattle.heights.specs.Filling.{Gives}

-- the table gives the cell of p a value below b
pub record Below (c f : List ℕ) (size n : ℕ) (t : List ℕ) (p i j b : ℕ) : Type 0 where
  pub value : ℕ
  pub gives : Gives c f size n t p i j value
  pub low : value < b

-- the cell of p has the least value that the table gives it, or none; a height has a successor that is one
pub record Fixed (c f : List ℕ) (size n : ℕ) (t : List ℕ) (p i j : ℕ) : Type 0 where
  pub most : cell_of n t p i j ≤ none
  pub small : cell_of n t p i j < none → cell_of n t p i j + 1 < none
  pub given : cell_of n t p i j < none → Gives c f size n t p i j (cell_of n t p i j)
  pub least : (v : ℕ) → Gives c f size n t p i j v → v < none → cell_of n t p i j ≤ v

-- on the stretch, at the positions before b; on the stretches that end at j and begin before i; on those that end before j
abbrev pub DotsFixed : List ℕ → List ℕ → ℕ → ℕ → List ℕ → ℕ → ℕ → ℕ → Type 0
DotsFixed c f size n t i j b = (p : ℕ) → p < b → Fixed c f size n t p i j

abbrev pub StartsFixed : List ℕ → List ℕ → ℕ → ℕ → List ℕ → ℕ → ℕ → Type 0
StartsFixed c f size n t j i = (k : ℕ) → k < i → DotsFixed c f size n t k j size

abbrev pub EndsFixed : List ℕ → List ℕ → ℕ → ℕ → List ℕ → ℕ → Type 0
EndsFixed c f size n t j = (l : ℕ) → l < j → StartsFixed c f size n t l (l + 1)

-- everywhere
abbrev pub Fixpoint : List ℕ → List ℕ → ℕ → ℕ → List ℕ → Type 0
Fixpoint c f size n t = (p i j : ℕ) → Place size n p i j → Fixed c f size n t p i j

-- h is the least value of the alternatives of the rule e that begin before b, or none
pub record Least (c t : List ℕ) (n i j b e h : ℕ) : Type 0 where
  pub most : h ≤ none
  pub low : (q : ℕ) → q < b → owner_at c q ≡ e + 1 → value_of c t n q i j < none → h ≤ value_of c t n q i j
  pub is : h < none → (q : ℕ) × (q < b) × (owner_at c q ≡ e + 1) × (h ≡ value_of c t n q i j)

-- of each rule
abbrev pub Leasts : List ℕ → List ℕ → ℕ → ℕ → ℕ → ℕ → ℕ → List ℕ → Type 0
Leasts c t size n i j b H = (e : ℕ) → e < size → Least c t n i j b e (get_or H e 0)

-- the rule of which an alternative begins at p is no higher than that; the others are as they were
pub record Lowered (c t : List ℕ) (n i j p : ℕ) (H H' : List ℕ) : Type 0 where
  pub long : length H' ≡ length H
  pub other : (e : ℕ) → (owner_at c p ≡ e + 1 → ⊥) → get_or H' e 0 ≡ get_or H e 0
  pub lower : (e : ℕ) → owner_at c p ≡ e + 1 → (get_or H' e 0 ≤ get_or H e 0) × (get_or H' e 0 ≤ value_of c t n p i j)
  pub is : (e : ℕ) → owner_at c p ≡ e + 1 → (get_or H' e 0 ≡ get_or H e 0) ⊎ (get_or H' e 0 ≡ value_of c t n p i j)
