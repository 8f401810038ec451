-- What the passes are given and leave in the flags; what the engine is given, and what is tried.
use Rattle.std.specs.Prelude.{Bool, true, false, Option, Some, None, Result, Ok, Err, List, ◌≡◌, ℕ, ◌+◌, ◌*◌, ◌≤◌, ltb, length, get_or}
use Rattle.text.specs.Limits.{most_size, record_chars, grammar_table}
use Rattle.text.specs.Lists.{Text}
use Rattle.tree.specs.Tree.{Grammar}
use Rattle.chart.specs.Code.{Ruled}
use Rattle.rules.specs.Ready.{Token}
use Rattle.reach.specs.Flags.{LeftClosed, FitsOnly}
use Rattle.right_pass.specs.Right.{Righted}
use Rattle.sparse.specs.Cells.{Noted}
use Rattle.sparse.specs.Steps.{Empties}
use Rattle.text.specs.declared.CharPlace.{CharPlace}
use Rattle.reading.specs.declared.Found.{Found}
use Rattle.reading.specs.declared.Unread.{Unread}
use Rattle.reading.specs.declared.Unread.TheVariants.{TooLong, NoReading}
use Rattle.reading.specs.Answer.{NotRead, Answers}

-- the code of some grammar's rules, a record, and flags of which none is set
pub record Flaggable (Tb c : List ℕ) (R : Text) (M : List ℕ) (size top first : ℕ) : Type 0 where
  pub grammar : Grammar
  pub code : Ruled (Token Tb) c grammar size top first
  pub long : length Tb ≡ grammar_table
  pub small : size ≤ most_size
  pub code-long : length c ≡ 2048
  pub short : length R ≤ record_chars
  pub marks-long : 1536 * length R + 1536 ≤ length M
  pub none : (x : ℕ) → get_or M x 0 ≡ 0

-- what the flags say from the left
pub record Flagged (Tb c : List ℕ) (R : Text) (size top : ℕ) (M : List ℕ) : Type 0 where
  pub long : 1536 * length R + 1536 ≤ length M
  pub closed : LeftClosed (Token Tb) c R size top M
  pub only : FitsOnly (Token Tb) c R size M

-- what both passes say, if the root's rule reaches the record's end; else no grammar with this code derives the record
pub record Passed (Tb c : List ℕ) (R : Text) (size top first : ℕ) (M : List ℕ) (r : Bool) : Type 0 where
  pub left : Flagged Tb c R size top M
  pub both : r ≡ true → Righted Tb c R size top M
  pub none : r ≡ false → (g : Grammar) → Ruled (Token Tb) c g size top first → NotRead g R 16

-- both passes over a record of n characters, and the notes of the rules
pub record Staged (c M F : List ℕ) (size n top first : ℕ) : Type 0 where
  pub table : List ℕ
  pub g : Grammar
  pub r : Text
  pub code : Ruled (Token table) c g size top first
  pub ends : n ≡ length r
  pub small : size ≤ most_size
  pub code-room : 4 * size ≤ length c
  pub short : length r ≤ record_chars
  pub flags : Righted table c r size top M
  pub noted : Noted c size F
  pub empties : Empties c F size

-- what the walk answers; there is a doubt only where the engine may stop
abbrev pub Tries : Bool → Grammar → Text → List ℕ → Option (Result Found Unread) → Type 0
Tries stops g r out (Some w) = Answers g r out w
Tries stops g r out None = stops ≡ true

-- what was tried is an answer: a reading, or one that is too long
abbrev pub is_answer : Option (Result Found Unread) → Bool
is_answer (Some (Ok f)) = true
is_answer (Some (Err TooLong)) = true
is_answer (Some (Err NoReading)) = false
is_answer None = false

-- what is no answer says that there is no reading: the walk did, or the fault is before the record's end
abbrev pub is_refused : Option (Result Found Unread) → CharPlace → ℕ → Bool
is_refused (Some w) k n = true
is_refused None k n = ltb k.0 n
