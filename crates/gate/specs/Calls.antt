-- The exported answers, in the words of the definitions, and what each call promises.
use Rattle.std.specs.Prelude.{◌≡◌, ℕ, Float, Option, Some, None, Ok, Err}
use Rattle.text.specs.Lists.{Text}
use Rattle.decimal.specs.Value.{num, Says}
use Rattle.decimal.specs.Compute.{decimal_of, number_of}
use Rattle.gate.specs.Gate.{Ruling, Rules}
use Rattle.gate.specs.Compute.{ruling_of}
use Rattle.gate.specs.declared.Gate.{Gate}
use Rattle.gate.specs.declared.Verdict.{Verdict}
use Rattle.gate.specs.declared.Verdict.TheVariants.{Inside, Swapped, Suspect}
use Rattle.gate.specs.declared.GateRefusal.{GateRefusal}
use Rattle.gate.specs.declared.GateRefusal.TheVariants.{UnsoundGate, NoNumber, OutOfRange}
use Rattle.gate.specs.declared.GateAnswer.{GateAnswer}
use Rattle.gate.specs.declared.NumberAnswer.{NumberAnswer}

-- "If the answer is an enum, a definition gives this paper's number and values for each of its cases": of a verdict its number from 1 on,
-- of a ruling 0 and the verdict, or the refusal and none
abbrev pub verdict_number : Verdict → ℕ
verdict_number Inside = 1
verdict_number Swapped = 2
verdict_number Suspect = 3

abbrev pub refusal_number : GateRefusal → ℕ
refusal_number UnsoundGate = 30
refusal_number NoNumber = 31
refusal_number OutOfRange = 32

abbrev pub shown : Ruling → GateAnswer
shown (Ok v) = record { number = 0; verdict = verdict_number v }
shown (Err r) = record { number = refusal_number r; verdict = 0 }

abbrev pub number_shown : Option Float → NumberAnswer
number_shown (Some x) = record { number = 0; value = x }
number_shown None = record { number = 31; value = num 0 }

-- the answer shows the ruling that the definition gives, of which there is exactly one: that it is the computed one follows (Laws: one-ruling)
pub record Ruled (g : Gate) (lat lon : Text) (a : GateAnswer) : Type 0 where
  pub computed : a ≡ shown (ruling_of g lat lon)
  pub defines : (r : Ruling) × Rules g lat lon r × (a ≡ shown r)

pub record NumberRead (t : Text) (a : NumberAnswer) : Type 0 where
  pub computed : a ≡ number_shown (number_of (decimal_of t))
  pub defines : (n : Option Float) × Says t n × (a ≡ number_shown n)
