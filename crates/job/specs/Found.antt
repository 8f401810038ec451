-- What reading a record is given, once none of 1 to 15 applies, nor 24; and why there is no reading.
use Rattle.std.specs.Prelude.{◌≡◌, Result, Ok, Err, List, ℕ, ◌≤◌}
use Rattle.text.specs.Limits.{reading_numbers}
use Rattle.text.specs.Stages.{plainly}
use Rattle.text.specs.declared.CharPlace.{CharPlace}
use Rattle.text.specs.declared.Diagnostic.{Diagnostic}
use Rattle.answer.specs.Answer.{Job}
use Rattle.answer.specs.Compute.{Test, first_of, grammar_tests, record_tests}
use Rattle.parser.specs.declared.Failure.{Failure}
use Rattle.parser.specs.declared.Failure.TheVariants.{TooLong, NoReading}
use Rattle.opening.specs.declared.Start.{Start}
use Rattle.opening.specs.Stages.{Started}

pub record Readable (T new : List ℕ) (main parse : ℕ) (s : Start) : Type 0 where
  pub job : Job
  pub started : Started job T new s
  pub lent : job.main_table ≡ main
  pub room : reading_numbers ≤ parse

abbrev pub Prepared : Result Start Diagnostic → List ℕ → List ℕ → ℕ → ℕ → Type 0
Prepared (Ok s) T new main parse = Readable T new main parse s
Prepared (Err d) T new main parse = Unit

-- what the tests of a job come to, before those of a call
abbrev pub first_test : Job → List Test → ℕ
first_test j ts = first_of (grammar_tests j.grammar (record_tests j ts))

-- 16 at the place of the fault, and 29
abbrev pub at_fault : ℕ → CharPlace → Diagnostic
at_fault n k = record { number = n; places = record { byte = record { 0 = 0 }; fault = k; grammar = record { 0 = 0 } } }

abbrev pub why_not : Failure → Diagnostic
why_not TooLong = plainly 29
why_not (NoReading k) = at_fault 16 k
