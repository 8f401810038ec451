-- What the filling of the table is: cells are lowered, each to what the table gives it then, until nothing lowers one.
use Rattle.std.specs.Prelude.{◌≡◌, List, [], ◌∷◌, ℕ, ◌+◌, ◌<◌, ◌≤◌, length, set}
use Rattle.text.specs.Lists.{Text}
use Rattle.tree.specs.Tree.{Grammar}
use Rattle.chart.specs.Code.{next_kind, goes_at, owner_at, fits_at, Coded}
use Rattle.chart.specs.Heights.{cell_at, none, Heights}
use Rattle.heights.specs.Table.{cell_of, value_of, split_of}

abbrev pub total : List ℕ → ℕ
total [] = 0
total (x ∷ xs) = x + total xs

-- the table t gives the cell of p on the stretch the value v
pub data Gives (c f : List ℕ) (size n : ℕ) (t : List ℕ) (p i j v : ℕ) : Type 0 where
  by-terminal : next_kind c p ≡ 1 → fits_at f p i ≡ 1 → i + goes_at c p ≤ j → v ≡ value_of c t n (p + 1) (i + goes_at c p) j → Gives c f size n t p i j v
  by-split : (m : ℕ) → next_kind c p ≡ 2 → i ≤ m → m ≤ j → v ≡ split_of c t n p i j m → Gives c f size n t p i j v
  by-owned : (q : ℕ) → q < size → owner_at c q ≡ p + 1 → v ≡ value_of c t n q i j → Gives c f size n t p i j v

-- cells of the stretches in A were lowered one after the other
pub data Steps (c f : List ℕ) (size n : ℕ) (A : ℕ → ℕ → Type 0) : List ℕ → List ℕ → Type 0 where
  stay : {t : List ℕ} → Steps c f size n A t t
  step : {t₀ t : List ℕ} (p i j v : ℕ) → Steps c f size n A t₀ t → A i j → p < size → i ≤ j → j ≤ n → Gives c f size n t p i j v → v < cell_of n t p i j
      → Steps c f size n A t₀ (set t (cell_at n p i j) v)

-- one stretch; those that end at j; all
abbrev pub Only : ℕ → ℕ → ℕ → ℕ → Type 0
Only i j k l = (k ≡ i) × (l ≡ j)

abbrev pub EndsAt : ℕ → ℕ → ℕ → Type 0
EndsAt j k l = l ≡ j

abbrev pub Any : ℕ → ℕ → Type 0
Any k l = Unit {0}

-- steps on the stretches of A, after which P holds
pub record Settled (c f : List ℕ) (size n : ℕ) (A : ℕ → ℕ → Type 0) (P : List ℕ → Type 0) (t₀ t : List ℕ) : Type 0 where
  pub steps : Steps c f size n A t₀ t
  pub closed : P t

-- nothing lowers a cell of the stretch any more
pub record Closed (c f : List ℕ) (size n : ℕ) (t : List ℕ) (i j : ℕ) : Type 0 where
  pub terminal : (p : ℕ) → p < size → next_kind c p ≡ 1 → fits_at f p i ≡ 1 → i + goes_at c p ≤ j
      → value_of c t n (p + 1) (i + goes_at c p) j < none → cell_of n t p i j ≤ value_of c t n (p + 1) (i + goes_at c p) j
  pub split : (p m : ℕ) → p < size → next_kind c p ≡ 2 → i ≤ m → m ≤ j → value_of c t n (p + 1) m j < none → cell_of n t p i j ≤ split_of c t n p i j m
  pub owner : (p e : ℕ) → p < size → owner_at c p ≡ e + 1 → cell_of n t e i j ≤ value_of c t n p i j

-- all that end before j are closed
abbrev pub Before : List ℕ → List ℕ → ℕ → ℕ → ℕ → List ℕ → Type 0
Before c f size n j t = (k l : ℕ) → k ≤ l → l < j → Closed c f size n t k l

-- the table has the least heights of every grammar and record that have this code
abbrev pub Filled : List ℕ → List ℕ → ℕ → ℕ → List ℕ → Type 0
Filled c f size n t = (g : Grammar) (r : Text) (top first : ℕ) (k : Coded c f g r size top first) → length r ≡ n → Heights c f g r size top first k t
