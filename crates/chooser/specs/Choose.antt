-- What choosing is given: the items of some grammar, a record and a main table that is long enough.
use Rattle.std.specs.Prelude.{◌≡◌, List, ℕ, ◌*◌, ◌≤◌, length}
use Rattle.text.specs.Limits.{most_size, record_chars, grammar_table, reading_numbers}
use Rattle.text.specs.Lists.{Text}
use Rattle.tree.specs.Tree.{Grammar}
use Rattle.chart.specs.Heights.{stretches}
use Rattle.rules.specs.Ready.{Ready}

pub record Choosable (T : List ℕ) (size root : ℕ) (r : Text) (main parse : ℕ) : Type 0 where
  pub grammar : Grammar
  pub ready : Ready T grammar size root
  pub long : length T ≡ grammar_table
  pub small : size ≤ most_size
  pub short : length r ≤ record_chars
  pub room : size * stretches (length r) ≤ main
  pub numbers : reading_numbers ≤ parse
