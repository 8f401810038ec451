-- What the table says after some sweeps from a clear one.
use Rattle.std.specs.Prelude.{◌≡◌, List, [], ◌∷◌, ℕ, ◌+◌, ◌<◌, ◌≤◌, length}
use Rattle.text.specs.Lists.{Text}
use Rattle.tree.specs.Tree.{Grammar}
use Rattle.derive.specs.Derive.{Row, Derives, height}
use Rattle.chart.specs.Code.{owner_at, head_of, Coded}
use Rattle.heights.specs.Table.{cell_of}

-- "says of every nonterminal and every stretch exactly whether it has a derivation of height at most k": a cell below k, for the rule named e
pub record SaysUpto (c f : List ℕ) (g : Grammar) (r : Text) (size top first : ℕ) (code : Coded c f g r size top first) (k : ℕ) (t : List ℕ) : Type 0 where
  pub has : (p e i j : ℕ) → p < size → owner_at c p ≡ e + 1 → i ≤ j → j ≤ length r → cell_of (length r) t e i j < k
      → (d : Row) × Derives g r d (head_of g code.heads e ∷ []) i j × (height d ≤ k)
  pub only : (p e i j : ℕ) → p < size → owner_at c p ≡ e + 1 → i ≤ j → j ≤ length r → (d : Row) → Derives g r d (head_of g code.heads e ∷ []) i j → height d ≤ k
      → cell_of (length r) t e i j < k
