-- How a read in rounds ends.
use Rattle.std.specs.Prelude.{Err, false, ◌≡◌, List, ℕ}
use Rattle.text.specs.Stages.{plainly}
use Rattle.text.specs.declared.Diagnostic.{Diagnostic}
use Rattle.answer.specs.Answer.{Topmost, Job, of_job}
use Rattle.rounds.specs.After.{Finished}
use Rattle.state.specs.State.{rounds_of}
use Rattle.job.specs.Parses.{Parses}
use Rattle.resume.specs.Resume.{end_lines}
use Rattle.ending.specs.declared.Ending.{Ending}

abbrev pub refused_with : Diagnostic → ℕ → Ending
refused_with d k = record { parse = Err (record { why = d; mismatch = false }); rounds = k }

-- 27, 15 and 26; 27 of a table that no finished read has; what the stages of an uncut read come to
pub data EndsWith (j : Job) (T new M S P : List ℕ) (r : Ending) : Type 0 where
  early : (n k : ℕ) → Topmost (end_lines j S) n → (n ≡ 0 → ⊥) → r ≡ refused_with (plainly n) k → (n ≡ 26 → k ≡ rounds_of S) → ((n ≡ 26 → ⊥) → k ≡ 0) → EndsWith j T new M S P r
  altered : Topmost (end_lines j S) 0 → of_job j (λ g r. Finished g r M → ⊥) → r ≡ refused_with (plainly 27) 0 → EndsWith j T new M S P r
  as-uncut : Topmost (end_lines j S) 0 → Parses j T new P r.parse → r.rounds ≡ rounds_of S → EndsWith j T new M S P r
