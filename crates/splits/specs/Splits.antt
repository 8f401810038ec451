-- The heights of a symbol and what stands after it, and of an alternative, in the filled part of the main table, in numbers alone.
use Rattle.std.specs.Prelude.{◌≡◌, List, ℕ, zero, suc, ◌+◌, ◌-◌, ◌<◌, ◌≤◌, max, min, eqb, leb, length, get_or}
use Rattle.text.specs.Lists.{pick}
use Rattle.chart.specs.Code.{next_kind, goes_at, rule_at}
use Rattle.chart.specs.Heights.{none}
use Rattle.heights.specs.Table.{up_of}
use Rattle.reach.specs.Flags.{dot_at}
use Rattle.sparse.specs.Cells.{is_last, rule_of, rest_of, Tables}

-- the tables of a record of n characters, in which the stretch from i to j lies
pub record Ready (c M F H : List ℕ) (size n i j : ℕ) : Type 0 where
  pub tables : Tables c M F size n (length H)
  pub order : i ≤ j
  pub inside : j ≤ n

-- a dot of the code
pub record Position (c : List ℕ) (size p : ℕ) : Type 0 where
  pub inside : p < size
  pub kind : next_kind c p ≤ 2

-- the row that holds the heights of what stands after the dot q
abbrev pub rest_row : List ℕ → ℕ → ℕ
rest_row c q = pick (is_last c q) (rule_at c q) q

-- the cells that begin at x hold nothing from m up to e
pub record Barren (H : List ℕ) (x m e j : ℕ) : Type 0 where
  pub from : m ≤ e
  pub to : e ≤ j
  pub empty : (l : ℕ) → m ≤ l → l < e → get_or H (x + l) 0 ≡ none

-- the heights of the symbol at p and of what stands after it, as one
abbrev pub joined : ℕ → ℕ → ℕ
joined a b = pick (eqb a none) none (max (up_of a) b)

module _ (c M F : List ℕ) (n : ℕ) (H : List ℕ) where
  -- the height of the symbol at p to m, then of what stands after it to j
  abbrev pub split_at : ℕ → ℕ → ℕ → ℕ → ℕ
  split_at p i j m = joined (rule_of c M F n H (rule_at c p) i m) (rest_of c M F n H (p + 1) m j)

  -- the least of them, where the symbol takes fewer than d characters
  abbrev pub least_of : ℕ → ℕ → ℕ → ℕ → ℕ
  least_of p i j zero = none
  least_of p i j (suc d) = min (least_of p i j d) (split_at p i j (i + d))

  -- the height of the terminal at p, then of what stands after it
  abbrev pub past_of : ℕ → ℕ → ℕ → ℕ
  past_of p i j = pick (leb 2 (dot_at M p i)) (pick (leb (i + goes_at c p) j) (rest_of c M F n H (p + 1) (i + goes_at c p) j) none) none

  -- the least height of what stands after p, as the heights of shorter rows and of rules give it
  unfoldable pub value_at : ℕ → ℕ → ℕ → ℕ
  value_at p i j = pick (eqb (next_kind c p) 0) (pick (eqb i j) 0 none) (pick (eqb (next_kind c p) 1) (past_of p i j) (least_of p i j (j + 1 - i)))
