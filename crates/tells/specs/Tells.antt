-- A test and what it tells.
use Rattle.std.specs.Prelude.{Bool, true, ◌≡◌}

-- r tells whether P holds
pub record Tells (r : Bool) (P : Type 0) : Type 0 where
  pub yes : r ≡ true → P
  pub no : P → r ≡ true
