-- The flags of starts in the column of an end.
use Rattle.std.specs.Prelude.{List, ◌≡◌, ℕ, ◌+◌, ◌<◌, ◌≤◌, get_or}

-- no start from r on and before i is flagged
pub record Passed (C : List ℕ) (r i : ℕ) : Type 0 where
  pub order : r ≤ i
  pub flags : (k : ℕ) → r ≤ k → k < i → get_or C (2563 + k) 0 ≡ 0
