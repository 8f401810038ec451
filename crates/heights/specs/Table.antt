-- What a table of heights says of a position on a stretch, and where the code stays within its tables.
use Rattle.std.specs.Prelude.{◌≡◌, List, ℕ, ◌+◌, ◌*◌, ◌<◌, ◌≤◌, max, length, get_or, eqb, ltb}
use Rattle.text.specs.Limits.{most_size, record_chars}
use Rattle.text.specs.Lists.{pick}
use Rattle.chart.specs.Code.{next_kind, rule_at, owner_at}
use Rattle.chart.specs.Heights.{stretches, cell_at, none}

-- what stands at the cell of p on the stretch from i to j
abbrev pub cell_of : ℕ → List ℕ → ℕ → ℕ → ℕ → ℕ
cell_of n t p i j = get_or t (cell_at n p i j) 0

-- the position q on the stretch: nothing stands after an end
abbrev pub value_of : List ℕ → List ℕ → ℕ → ℕ → ℕ → ℕ → ℕ
value_of c t n q i j = pick (eqb (next_kind c q) 0) (pick (eqb i j) 0 none) (cell_of n t q i j)

-- one higher
abbrev pub up_of : ℕ → ℕ
up_of h = pick (ltb h none) (h + 1) none

-- the symbol at p from i to m, then what stands after it from m to j
abbrev pub split_of : List ℕ → List ℕ → ℕ → ℕ → ℕ → ℕ → ℕ → ℕ
split_of c t n p i j m = max (up_of (cell_of n t (rule_at c p) i m)) (value_of c t n (p + 1) m j)

-- the main table has a cell for each position on each stretch
pub record Room (size n len : ℕ) : Type 0 where
  pub few : size ≤ most_size
  pub short : n ≤ record_chars
  pub room : size * stretches n ≤ len

-- the code names positions only
pub record Shape (c : List ℕ) (size n len : ℕ) : Type 0 where
  pub cells : Room size n len
  pub coded : 4 * size ≤ length c
  pub nexts : (p : ℕ) → p < size → (next_kind c p ≡ 0 → ⊥) → p + 1 < size
  pub names : (p : ℕ) → p < size → next_kind c p ≡ 2 → rule_at c p < size
  pub owners : (p e : ℕ) → p < size → owner_at c p ≡ e + 1 → e < size
  -- a rule is named by an end
  pub rule-ends : (p : ℕ) → p < size → next_kind c p ≡ 2 → next_kind c (rule_at c p) ≡ 0
  pub owner-ends : (p e : ℕ) → p < size → owner_at c p ≡ e + 1 → next_kind c e ≡ 0

pub record Safe (c f : List ℕ) (size n len : ℕ) : Type 0 where
  pub shape : Shape c size n len
  pub fitted : size * (record_chars + 1) ≤ length f

-- a position and a stretch
pub record Place (size n p i j : ℕ) : Type 0 where
  pub inside : p < size
  pub order : i ≤ j
  pub stop : j ≤ n
