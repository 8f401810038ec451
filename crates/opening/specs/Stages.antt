-- What the stages of a job answer.
use Rattle.std.specs.Prelude.{Bool, true, false, Result, Ok, Err, ◌||◌, ◌≡◌, ◌⊎◌, List, ℕ, ◌≤◌, ltb, length, take}
use Rattle.text.specs.Limits.{most_size, record_chars, grammar_table}
use Rattle.text.specs.Lists.{Text, all, pick}
use Rattle.text.specs.Stages.{StageAnswer, answered, refused, Settles, plainly}
use Rattle.text.specs.declared.Diagnostic.{Diagnostic}
use Rattle.text.specs.Utf8.{known}
use Rattle.text.specs.Decode.{text, decode}
use Rattle.answer.specs.Answer.{Job, Need, main_need, table_need}
use Rattle.answer.specs.Compute.{Test, first_of, grammar_tests, need_tests, places_at, job_values}
use Rattle.load.specs.Loaded.{places_of}
use Rattle.accept.specs.Accepted.{Kept}
use Rattle.text.specs.declared.CharPlace.{CharPlace}
use Rattle.opening.specs.declared.Start.{Start}

-- the n characters of some bytes stand in a buffer, all of the alphabet, and not too many
pub record Got (bs new : List ℕ) (n : ℕ) : Type 0 where
  pub chars : Text
  pub decoded : decode bs ≡ text chars
  pub within : all known chars ≡ true
  pub short : length chars ≤ record_chars
  pub count : n ≡ length chars
  pub stored : take n new ≡ chars

-- refused by a stage before 16, with the places that go with the number
pub record Stopped (first : List Test → ℕ) (j : Job) (d : Diagnostic) : Type 0 where
  pub some : d.number ≡ 0 → ⊥
  pub early : (d.number ≤ 15) ⊎ (d.number ≡ 24)
  pub is : (ts : List Test) → first ts ≡ d.number
  pub places : places_of d.places ≡ places_at (job_values j) d.number

-- document 01's number and values for each case
abbrev pub taken_of : Result CharPlace Diagnostic → StageAnswer ℕ Diagnostic
taken_of (Ok n) = answered n.0
taken_of (Err d) = refused d

abbrev pub Takes : List ℕ → List ℕ → Result CharPlace Diagnostic → Type 0
Takes bs new r = Settles (Got bs new) (λ d. (need : Need) (j : Job) → j.input ≡ bs → Stopped (λ ts. first_of (need_tests need j ts)) j d) (taken_of r)

-- none of 1 to 14 applies, nor 24: the table has the grammar's tokens and plain rules, the buffer the record's characters
pub record Opened (gs rs : List ℕ) (T new : List ℕ) (s : Start) : Type 0 where
  pub grammar : Kept gs T s.rules
  pub input : Got rs new s.chars.0

-- nor 15, by what the first table needs
pub record StartedBy (need : Need) (j : Job) (T new : List ℕ) (s : Start) : Type 0 where
  pub grammar : Kept j.grammar T s.rules
  pub input : Got j.input new s.chars.0
  pub enough : (ltb j.main_table (need grammar.tree input.chars) || ltb j.second_table grammar_table) ≡ false

abbrev pub Started : Job → List ℕ → List ℕ → Start → Type 0
Started = StartedBy main_need

-- document 01's number and values for each case
abbrev pub begun_of : Result Start Diagnostic → StageAnswer Start Diagnostic
begun_of (Ok s) = answered s
begun_of (Err d) = refused d

-- 15, by a test
abbrev pub lending : Start → Bool → Result Start Diagnostic
lending s b = pick b (Err (plainly 15)) (Ok s)

-- the numbers that the main table needs, of a job that is opened
abbrev pub need_of : Start → ℕ
need_of s = table_need s.rules.size s.chars.0

abbrev pub Small : Start → Type 0
Small s = (s.rules.size ≤ most_size) × (s.chars.0 ≤ record_chars)

-- the same of what opening answers: a refusal stays, and needs no numbers
abbrev pub lending_of : Result Start Diagnostic → Bool → Result Start Diagnostic
lending_of (Ok s) b = lending s b
lending_of (Err d) b = Err d

abbrev pub need_opened : Result Start Diagnostic → ℕ
need_opened (Ok s) = need_of s
need_opened (Err d) = 0

abbrev pub Fitting : Result Start Diagnostic → Type 0
Fitting (Ok s) = Small s
Fitting (Err d) = Unit

abbrev pub NotBegun : Need → Job → Diagnostic → Type 0
NotBegun need j = Stopped (λ ts. first_of (grammar_tests j.grammar (need_tests need j ts))) j

abbrev pub Opens : List ℕ → List ℕ → List ℕ → List ℕ → Result Start Diagnostic → Type 0
Opens gs rs T new r = Settles (Opened gs rs T new) (λ d. (need : Need) (j : Job) → j.grammar ≡ gs → j.input ≡ rs → NotBegun need j d) (begun_of r)

abbrev pub BeginsBy : Need → Job → List ℕ → List ℕ → Result Start Diagnostic → Type 0
BeginsBy need j T new r = Settles (StartedBy need j T new) (NotBegun need j) (begun_of r)

abbrev pub Begins : Job → List ℕ → List ℕ → Result Start Diagnostic → Type 0
Begins = BeginsBy main_need
