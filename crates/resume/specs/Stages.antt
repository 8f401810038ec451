-- What the stages of a later call answer.
use Rattle.std.specs.Prelude.{◌⊎◌, Result, List, ℕ, ◌<◌}
use Rattle.text.specs.Limits.{grammar_table}
use Rattle.text.specs.Stages.{Settles, plainly}
use Rattle.text.specs.declared.Diagnostic.{Diagnostic}
use Rattle.answer.specs.Answer.{Job, of_job, main_need}
use Rattle.state.specs.State.{Keeps}
use Rattle.opening.specs.declared.Start.{Start}
use Rattle.opening.specs.Stages.{begun_of, Started}
use Rattle.resume.specs.Resume.{Belongs}

-- the state is of this read, and the tables have room
pub record Resumed (j : Job) (S T new : List ℕ) (s : Start) : Type 0 where
  pub keeps : Keeps j.grammar j.input S
  pub started : Started j T new s

-- 27, and 15
pub data NotResumed (j : Job) (S : List ℕ) : Diagnostic → Type 0 where
  alien : (Belongs j.grammar j.input S → ⊥) → NotResumed j S (plainly 27)
  no_room : Belongs j.grammar j.input S → of_job j (λ g r. (j.main_table < main_need g r) ⊎ (j.second_table < grammar_table)) → NotResumed j S (plainly 15)

abbrev pub Resumes : Job → List ℕ → List ℕ → List ℕ → Result Start Diagnostic → Type 0
Resumes j S T new r = Settles (Resumed j S T new) (NotResumed j S) (begun_of r)
