-- What each token adds to the grammar's size.
use Rattle.std.specs.Prelude.{List, [], ◌∷◌, ℕ, ◌+◌, ◌<◌, ◌≤◌, ltb, eqb, length}
use Rattle.text.specs.Lists.{pick}
use Rattle.tree.specs.Tree.{Grammar}
use Rattle.tree.specs.Tokens.{Token}
use Rattle.tokens.specs.Lengths.{first_number, Holds}

-- by a token's first number, what it adds to the size: the items of the rules that it makes, less those that its operands
-- already added, and the one in the alternative where it stands
unfoldable pub repeat_cost_of : ℕ → ℕ
repeat_cost_of k = pick (eqb k 34) 3 (pick (eqb k 35) 4 (pick (eqb k 36) 7 (pick (eqb k 37) 10 (pick (eqb k 38) 7 0))))

unfoldable pub cost_of : ℕ → ℕ
cost_of k = pick (ltb k 24) 1 (pick (ltb k 29) 0 (pick (ltb k 31) 1 (pick (eqb k 31) 2 (pick (eqb k 33) 1 (repeat_cost_of k)))))

abbrev pub cost : Token → ℕ
cost t = cost_of (first_number t)

abbrev pub costs : List Token → ℕ
costs [] = 0
costs (t ∷ ts) = cost t + costs ts

-- the table begins with the tokens of some tree
pub record Tree (table : List ℕ) (end : ℕ) : Type 0 where
  pub tree : Grammar
  pub holds : Holds table end tree
  pub inside : end ≤ length table
  pub small : length table < 0x100000
