-- What a finished table gives, and a table that is not finished, or was altered.
use Rattle.std.specs.Prelude.{◌≡◌, Option, Some, None, Result, List, ℕ, ◌*◌, ◌≤◌, length}
use Rattle.text.specs.Limits.{most_size, record_chars, grammar_table, reading_numbers}
use Rattle.text.specs.Lists.{Text}
use Rattle.text.specs.Stages.{StageAnswer, answered, refused, Settles}
use Rattle.tree.specs.Tree.{Grammar}
use Rattle.chart.specs.Code.{Ruled}
use Rattle.chart.specs.Heights.{stretches}
use Rattle.rules.specs.Ready.{Token}
use Rattle.prepare.specs.Rows.{Rows}
use Rattle.fixpoint.specs.Fixed.{Fixpoint}
use Rattle.rounds.specs.After.{Finished}
use Rattle.reading.specs.declared.Found.{Found}
use Rattle.parser.specs.declared.Failure.{Failure}
use Rattle.parser.specs.Chosen.{Chooses}

-- a code of some rules, rows of tests and a table that is a fixed point
pub record Settled (Tb c f : List ℕ) (R : Text) (size top first : ℕ) (H : List ℕ) (parse : ℕ) : Type 0 where
  pub grammar : Grammar
  pub ruled : Ruled (Token Tb) c grammar size top first
  pub before : List ℕ
  pub rows : Rows Tb size R before f
  pub long : length Tb ≡ grammar_table
  pub small : size ≤ most_size
  pub code-long : length c ≡ 2048
  pub fits-long : length f ≡ 102912
  pub short : length R ≤ record_chars
  pub room : size * stretches (length R) ≤ length H
  pub numbers : reading_numbers ≤ parse
  pub fixed : Fixpoint c f size (length R) H

abbrev pub ended_of : Option (Result Found Failure) → StageAnswer (Result Found Failure) (Unit {0})
ended_of (Some c) = answered c
ended_of None = refused tt

-- the chosen reading, or why there is none, whoever filled the table; or it is not the table of a finished read
abbrev pub Ends : Grammar → Text → List ℕ → List ℕ → Option (Result Found Failure) → Type 0
Ends g r M out e = Settles (Chooses g r out) (λ _. Finished g r M → ⊥) (ended_of e)
