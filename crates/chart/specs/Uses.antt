-- The uses of each rule, from the last to the first.
use Rattle.std.specs.Prelude.{◌≡◌, List, ℕ, ◌+◌, ◌*◌, ◌<◌, ◌≤◌, get_or}
use Rattle.chart.specs.Code.{next_kind, rule_at}

-- x is the last use of the rule e before b and 1, or 0
pub record LastUse (c : List ℕ) (e b x : ℕ) : Type 0 where
  pub below : x ≤ b
  pub last : (q : ℕ) → x ≤ q → q < b → next_kind c q ≡ 2 → rule_at c q ≡ e → ⊥
  pub is : (u : ℕ) → x ≡ u + 1 → (next_kind c u ≡ 2) × (rule_at c u ≡ e)

-- U has for each rule its last use below p, and for each use the one before it
pub record Uses (c : List ℕ) (size p : ℕ) (U : List ℕ) : Type 0 where
  pub last : (e : ℕ) → e < size → LastUse c e p (get_or U (2 * e) 0)
  pub next : (u : ℕ) → u < p → next_kind c u ≡ 2 → LastUse c (rule_at c u) u (get_or U (2 * u + 1) 0)
