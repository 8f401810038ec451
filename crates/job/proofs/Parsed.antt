-- From the stages of a job to what they come to together.
use mathlib.Core.Bool.{false}
use mathlib.Core.Logic.{⊎_elim}
use mathlib.Core.List.{List, ◌∷◌}
use Prim.Native.Nat.{ℕ}
use native.Mathlib.Omega.{arith}
use lib.Dec.{ltb}
use Rattle.std.specs.Prelude.{Err}
use lib.ListN.{length}
use Rattle.text.specs.Limits.{reading_numbers}
use Rattle.derive.specs.Derive.{left_parse}
use Rattle.derive.specs.Pick.{chosen_of}
use borrow.Author.Tests.{ne_eqb}
use Rattle.text.specs.declared.Diagnostic.{Diagnostic}
use Rattle.answer.specs.Answer.{Job}
use Rattle.answer.specs.Compute.{test, none_test, on_reading}
use Rattle.opening.specs.Stages.{Begins}
use Rattle.job.specs.Parses.{NotChosen}

module _ (j : Job) (T new : List ℕ) where
  -- a stage before 16 refuses
  pub ended : (k : Diagnostic) → Begins j T new (Err k) → NotChosen j (record { why = k; mismatch = false })
  ended k s = record {
    some = s.some;
    is = λ ts. s.is (none_test 16 chosen_of j ∷ test 29 (λ _. on_reading j (λ g r t. ltb reading_numbers (length (left_parse t)))) ∷ ts);
    version = rw (ne_eqb k.number 16 (λ z. ⊎_elim (λ l. omega arith) (λ l. omega arith) s.early));
    places = s.places;
  }
