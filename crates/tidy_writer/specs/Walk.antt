-- A walk over the tokens of a table.
use Rattle.std.specs.Prelude.{List, ℕ, ◌≤◌, length}
use Rattle.tree.specs.Tokens.{Token}
use Rattle.tokens.specs.Lengths.{Left}

-- some tokens are left at a place
pub record SomeLeft (T : List ℕ) (end at : ℕ) : Type 0 where
  pub tokens : List Token
  pub left : Left T end at tokens
  pub inside : end ≤ length T
  pub low : at ≤ end
