-- What a stage of a job comes to, in document 01's numbers.
use Rattle.std.specs.Prelude.{◌≡◌, ℕ}
use Rattle.text.specs.declared.BytePlace.{BytePlace}
use Rattle.text.specs.declared.Diagnostic.{Diagnostic}

-- "If the answer is an enum, a definition gives this paper's number and values for each of its cases." For a stage it gives one of these:
-- 0 with the stage's values, or a refusal, which is a number or has one.
pub data StageAnswer (A R : Type 0) : Type 0 where
  answered : A → StageAnswer A R
  refused : R → StageAnswer A R

abbrev pub number_of : {A : Type 0} → StageAnswer A ℕ → ℕ
number_of (answered a) = 0
number_of (refused n) = n

-- a refusal that names no place; one at a byte
abbrev pub at_byte : ℕ → BytePlace → Diagnostic
at_byte n p = record { number = n; places = record { byte = p; fault = record { 0 = 0 }; grammar = record { 0 = 0 } } }

abbrev pub plainly : ℕ → Diagnostic
plainly n = at_byte n (record { 0 = 0 })

abbrev pub diagnostic_of : {A : Type 0} → StageAnswer A Diagnostic → Diagnostic
diagnostic_of (answered a) = plainly 0
diagnostic_of (refused d) = d

-- what a stage promises of its values, and of its refusal
abbrev pub Settles : {A R : Type 0} → (A → Type 0) → (R → Type 0) → StageAnswer A R → Type 0
Settles P Q (answered a) = P a
Settles P Q (refused r) = Q r

-- what a stage whose refusals name no place promises of one
pub record Plain (Q : ℕ → Type 0) (d : Diagnostic) : Type 0 where
  pub holds : Q d.number
  pub nowhere : d ≡ plainly d.number
