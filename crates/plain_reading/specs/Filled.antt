-- A main table that is filled whole, and what reading it off takes and leaves.
use Rattle.std.specs.Prelude.{Result, List, ◌≡◌, ℕ, ◌+◌, ◌*◌, ◌≤◌, length, get_or}
use Rattle.text.specs.Limits.{most_size, record_chars, reading_numbers}
use Rattle.text.specs.Lists.{Text}
use Rattle.tree.specs.Tree.{Grammar}
use Rattle.chart.specs.Code.{Fitting, Ruled}
use Rattle.chart.specs.Heights.{stretches}
use Rattle.heights.specs.Filling.{Filled}
use Rattle.sparse.specs.Cells.{Noted}
use Rattle.sparse.specs.Steps.{Empties}
use Rattle.full.specs.Whole.{Marked}
use Rattle.reading.specs.declared.Found.{Found}
use Rattle.reading.specs.declared.Unread.{Unread}
use Rattle.reading.specs.Answer.{Finished, Answers}

-- a table for each stage, long enough
pub record Roomy (c f : List ℕ) (R : Text) (size main : ℕ) : Type 0 where
  pub small : size ≤ most_size
  pub code-room : 4 * size ≤ length c
  pub short : length R ≤ record_chars
  pub fits-room : size * (record_chars + 1) ≤ length f
  pub room : size * stretches (length R) ≤ main

-- the code of some rules, its table filled; the flags and notes are still to be made
pub record Walkable (c f : List ℕ) (size n top first : ℕ) (H M F : List ℕ) (parse : ℕ) : Type 0 where
  pub grammar : Grammar
  pub text : Text
  pub long : n ≡ length text
  pub ruled : Ruled (Fitting f text) c grammar size top first
  pub roomy : Roomy c f text size (length H)
  pub filled : Filled c f size (length text) H
  pub marks : length M ≡ 308736
  pub notes : (length F ≡ 2048) × ((x : ℕ) → get_or F x 0 ≡ 0)
  pub numbers : reading_numbers ≤ parse

-- they are made, and the walk answers by them
pub record Walks (c f : List ℕ) (size n top first : ℕ) (H M F P : List ℕ) (r : Result Found Unread) : Type 0 where
  pub marked : Marked c f size (n + 1) M
  pub noted : Noted c size F × Empties c F size
  pub answers : (t : Finished c M F H size n top first) → Answers t.g t.r P r
