-- Reading in rounds: what the calls answer, and what they leave in table and state.
use Rattle.std.specs.Prelude.{Bool, false, ◌≡◌, ◌⊎◌, List, [], ◌∷◌, ℕ, ◌+◌, ◌<◌}
use Rattle.text.specs.Limits.{grammar_table}
use Rattle.text.specs.Stages.{plainly}
use Rattle.text.specs.declared.Diagnostic.{Diagnostic}
use Rattle.answer.specs.Answer.{Line, line, Topmost, Job, job, of_job, main_need, grammar_lines, input_lines, Notes, job_notes, Answers}
use Rattle.answer.specs.Answer as defined
use Rattle.chart.specs.Code.{flag}
use Rattle.rounds.specs.After.{After, Finished}
use Rattle.advance.specs.Round.{Rounded}
use Rattle.state.specs.State.{rounds_of, FinishedBy, Keeps, Counted, Blank}
use Rattle.exported.specs.Exported.{shown, refusal_of}
use Rattle.resume.specs.declared.Progress.{Progress}

-- a refusal, with a count of rounds
abbrev pub refusing : Diagnostic → ℕ → Progress
refusing d k = record { answer = refusal_of (record { why = d; mismatch = false }); rounds = k }

-- no result
abbrev Nothing : List ℕ → Bool → Type 0
Nothing xs m = (xs ≡ []) × (m ≡ false)

-- "A start is refused exactly where 1 to 15 or 24 stops the uncut read, with that answer … Any other start … answers 0 with length 0 and
-- no ambiguous mark."
abbrev pub Starts : Job → defined.Answer → Type 0
Starts j a = Answers (grammar_lines j.grammar (input_lines j [])) (job_notes j) Nothing j.grammar [] a []

-- the state keeps the grammar and the record, and some start with them is not refused
pub record Belongs (gs rs S : List ℕ) : Type 0 where
  pub keeps : Keeps gs rs S
  pub main : ℕ
  pub second : ℕ
  pub starts : Topmost (grammar_lines gs (input_lines (job gs rs main second) [])) 0

-- "Later calls judge 27, then 15, then 26"
abbrev pub later_lines : Job → List ℕ → List Line → List Line
later_lines j S ls =
    line 27 (Belongs j.grammar j.input S → ⊥)
    ∷ line 15 (of_job j (λ g r. (j.main_table < main_need g r) ⊎ (j.second_table < grammar_table)))
    ∷ ls

-- the lines of the end
abbrev pub end_lines : Job → List ℕ → List Line
end_lines j S = later_lines j S (line 26 (FinishedBy S → ⊥) ∷ [])

abbrev pub no_notes : Notes
no_notes = record { bytes = []; faults = []; grammars = [] }

abbrev pub Rounds : Job → List ℕ → defined.Answer → Type 0
Rounds j S a = Answers (later_lines j S []) no_notes Nothing j.grammar [] a []

-- A start. A refused one leaves a state of zeros, and the table as it was. What another leaves in the state's spare cells (5 to 7, and those
-- behind the record) and in the table past the job's need is left open.
pub record StartedAs (j : Job) (M : List ℕ) (a : Progress) (M' S' : List ℕ) : Type 0 where
  pub answer : Starts j (shown a.answer)
  pub rounds : a.rounds ≡ 0
  pub refused : (a.answer.number ≡ 0 → ⊥) → (M' ≡ M) × Blank S'
  pub begun : a.answer.number ≡ 0 → Keeps j.grammar j.input S' × (rounds_of S' ≡ 0) × (FinishedBy S' → ⊥) × of_job j (λ g r. After g r 0 M')

-- a round that is counted; `last` tells whether it was the last. What it leaves in the table past the job's need is left open
pub record Counts (j : Job) (M S : List ℕ) (a : Progress) (M' S' : List ℕ) : Type 0 where
  pub last : Bool
  pub state : Counted S S' (rounds_of S + 1) (flag last)
  pub rounds : a.rounds ≡ rounds_of S + 1
  pub table : of_job j (λ g r. Rounded g r (rounds_of S) M M' last)

-- A round. "these leave table and state alone … A round after finishing changes nothing and isn't counted." What is said of the table holds
-- where it is as the last call of this read left it (Rounded); of any other the answer and the counts alone are said.
pub record RoundedAs (j : Job) (M S : List ℕ) (a : Progress) (M' S' : List ℕ) : Type 0 where
  pub answer : Rounds j S (shown a.answer)
  pub refused : (a.answer.number ≡ 0 → ⊥) → (M' ≡ M) × (S' ≡ S) × (a.rounds ≡ 0)
  pub over : a.answer.number ≡ 0 → FinishedBy S → (M' ≡ M) × (S' ≡ S) × (a.rounds ≡ rounds_of S)
  pub counts : a.answer.number ≡ 0 → (FinishedBy S → ⊥) → Counts j M S a M' S'

-- The end of a read, by what the uncut call answers. 27 too for a table that no finished read of this grammar and record has: whoever filled
-- it, no wrong reading is given.
pub data EndedAs (Uncut : Job → List ℕ → defined.Answer → List ℕ → Type 0) (j : Job) (M S old : List ℕ) (a : Progress) (new : List ℕ) : Type 0 where
  early : (n k : ℕ) → Topmost (end_lines j S) n → (n ≡ 0 → ⊥) → a ≡ refusing (plainly n) k
      → (n ≡ 26 → k ≡ rounds_of S) → ((n ≡ 26 → ⊥) → k ≡ 0) → new ≡ old → EndedAs Uncut j M S old a new
  altered : Topmost (end_lines j S) 0 → of_job j (λ g r. Finished g r M → ⊥)
      → a ≡ refusing (plainly 27) 0 → new ≡ old → EndedAs Uncut j M S old a new
  as-uncut : Topmost (end_lines j S) 0 → Uncut j old (shown a.answer) new → a.rounds ≡ rounds_of S → EndedAs Uncut j M S old a new
