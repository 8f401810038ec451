-- What choosing by a code is given, and the search for the fault.
use Rattle.std.specs.Prelude.{◌≡◌, List, ℕ, ◌+◌, ◌*◌, ◌≤◌, length, get_or}
use Rattle.text.specs.Limits.{most_size, record_chars, grammar_table}
use Rattle.text.specs.Lists.{Text}
use Rattle.tree.specs.Tree.{Grammar}
use Rattle.chart.specs.Code.{Ruled}
use Rattle.chart.specs.Heights.{stretches}
use Rattle.rules.specs.Ready.{Ready, Token}

-- the code of some grammar's rules, a record of n characters, and a main table that is long enough
pub record Coded (T c : List ℕ) (r : Text) (size n top root main : ℕ) : Type 0 where
  pub grammar : Grammar
  pub code : Ruled (Token T) c grammar size top root
  pub long : length T ≡ grammar_table
  pub small : size ≤ most_size
  pub code-long : length c ≡ 2048
  pub short : length r ≤ record_chars
  pub ends : n ≡ length r
  pub room : size * stretches n ≤ main

-- flags for all places of a record of n characters, of which none is set
pub record Blank (n : ℕ) (M : List ℕ) : Type 0 where
  pub long : 1536 * n + 1536 ≤ length M
  pub none : (x : ℕ) → get_or M x 0 ≡ 0

-- the items of some grammar, where there is no code yet
pub record LocatableAnew (T : List ℕ) (size root : ℕ) (r : Text) (main : ℕ) : Type 0 where
  pub grammar : Grammar
  pub ready : Ready T grammar size root
  pub long : length T ≡ grammar_table
  pub small : size ≤ most_size
  pub short : length r ≤ record_chars
  pub room : size * stretches (length r) ≤ main
