-- One round of a read.
use Rattle.std.specs.Prelude.{Bool, true, false, ◌≡◌, List, ℕ, suc, ◌*◌, ◌<◌, ◌≤◌, length}
use Rattle.text.specs.Limits.{most_size, record_chars, grammar_table}
use Rattle.text.specs.Lists.{Text}
use Rattle.tree.specs.Tree.{Grammar}
use Rattle.chart.specs.Heights.{stretches}
use Rattle.rules.specs.Ready.{Ready}
use Rattle.tells.specs.Tells.{Tells}
use Rattle.rounds.specs.Rounds.{most_rounds}
use Rattle.rounds.specs.After.{TableSays, After, Ends, Finished}

-- what a round is given: the items of some grammar, a record and a main table that is long enough
pub record Readable (T : List ℕ) (size root : ℕ) (r : Text) (main : ℕ) : Type 0 where
  pub grammar : Grammar
  pub ready : Ready T grammar size root
  pub long : length T ≡ grammar_table
  pub small : size ≤ most_size
  pub short : length r ≤ record_chars
  pub room : size * stretches (length r) ≤ main

-- the round after k others; `last` tells whether the read is finished with it. Where there were enough, nothing is done
pub record Rounded (g : Grammar) (r : Text) (k : ℕ) (M M' : List ℕ) (last : Bool) : Type 0 where
  -- 512 rules, 201 places
  pub few : most_rounds g r ≤ 102912
  pub enough : most_rounds g r ≤ k → (M' ≡ M) × (last ≡ true)
  pub goes_on : k < most_rounds g r → After g r k M → last ≡ false → After g r (suc k) M'
  pub ends : k < most_rounds g r → After g r k M → last ≡ true → Finished g r M'
  pub says : k < most_rounds g r → After g r k M → TableSays g r (suc k) M'
  pub tells : k < most_rounds g r → After g r k M → Tells last (Ends g r k)
