-- A read in rounds from its start on, "where each call after the start is lent the table and state just as that same read's last call left them".
use Rattle.std.specs.Prelude.{◌≡◌, ◌↔◌, List, ℕ, suc, ◌<◌, length}
use Rattle.answer.specs.Answer.{Job, job, of_job, Reads, Converts}
use Rattle.answer.specs.Answer as defined
use Rattle.rounds.specs.Rounds.{most_rounds}
use Rattle.rounds.specs.After.{TableSays, Ends}
use Rattle.state.specs.State.{rounds_of, FinishedBy}
use Rattle.exported.specs.Exported.{shown}
use Rattle.resume.specs.declared.Progress.{Progress}
use Rattle.resume.specs.Resume.{StartedAs, RoundedAs, EndedAs}

-- the table M and the state S, after a start that was not refused and some rounds
pub data Underway (gs rs : List ℕ) : List ℕ → List ℕ → Type 0 where
  started : {M₀ M S : List ℕ} (second : ℕ) (a : Progress) → StartedAs (job gs rs (length M₀) second) M₀ a M S → a.answer.number ≡ 0 → Underway gs rs M S
  went_on : {M S M' S' : List ℕ} (second : ℕ) (a : Progress) → Underway gs rs M S → RoundedAs (job gs rs (length M) second) M S a M' S' → Underway gs rs M' S'

abbrev pub job_of : List ℕ → List ℕ → Job
job_of gs rs = job gs rs 0 0

-- what holds of every such read
pub record Laws (gs rs M S : List ℕ) (read : Underway gs rs M S) : Type 1 where
  -- "After k rounds from a fresh start the main table alone … says of every nonterminal and every stretch exactly whether it has a derivation
  -- of height at most k."
  pub says : of_job (job_of gs rs) (λ g r. TableSays g r (rounds_of S) M)
  -- "a read is finished after the first round that adds no nonterminal on any stretch, or after round N × (n+1)": exactly then
  pub ends : of_job (job_of gs rs) (λ g r. (k : ℕ) → rounds_of S ≡ suc k → FinishedBy S ↔ Ends g r k)
  pub first : of_job (job_of gs rs) (λ g r. (k : ℕ) → suc k < rounds_of S → Ends g r k → ⊥)
  -- one that is not finished had fewer than N × (n+1) rounds
  pub fewer : (FinishedBy S → ⊥) → of_job (job_of gs rs) (λ g r. rounds_of S < most_rounds g r)
  -- "Demand 3 holds of a finished read": it never answers 27, and what it answers where there is room is what the uncut read answers
  pub finished : (Uncut : Job → List ℕ → defined.Answer → List ℕ → Type 0) (second : ℕ) (old : List ℕ) (a : Progress) (new : List ℕ) → FinishedBy S
      → EndedAs Uncut (job gs rs (length M) second) M S old a new → (a.answer.number ≡ 15 → ⊥) → Uncut (job gs rs (length M) second) old (shown a.answer) new × (a.rounds ≡ rounds_of S)
  -- "Asked earlier it says 'not yet', refusal 26"
  pub unfinished : (Uncut : Job → List ℕ → defined.Answer → List ℕ → Type 0) (second : ℕ) (old : List ℕ) (a : Progress) (new : List ℕ) → (FinishedBy S → ⊥)
      → EndedAs Uncut (job gs rs (length M) second) M S old a new → (a.answer.number ≡ 15 → ⊥) → (a.answer.number ≡ 26) × (a.rounds ≡ rounds_of S) × (new ≡ old)
