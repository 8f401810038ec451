-- An answer that shows the computed ruling or value is the promised one.
use mathlib.Core.Path.{◌≡◌}
use Rattle.text.specs.Lists.{Text}
use Rattle.decimal.specs.Compute.{decimal_of, number_of}
use Rattle.decimal.proofs.Laws.{says}
use Rattle.gate.specs.Compute.{ruling_of}
use Rattle.gate.specs.Calls.{shown, number_shown, Ruled, NumberRead}
use Rattle.gate.specs.declared.Gate.{Gate}
use Rattle.gate.specs.declared.GateAnswer.{GateAnswer}
use Rattle.gate.specs.declared.NumberAnswer.{NumberAnswer}
use Rattle.gate.proofs.Rulings.{rules}

pub ruled : (g : Gate) (lat lon : Text) {a : GateAnswer} → a ≡ shown (ruling_of g lat lon) → Ruled g lat lon a
ruled g lat lon e = record { computed = e; defines = (ruling_of g lat lon, rules g lat lon, e) }

pub read_as : (t : Text) {a : NumberAnswer} → a ≡ number_shown (number_of (decimal_of t)) → NumberRead t a
read_as t e = record { computed = e; defines = (number_of (decimal_of t), says t, e) }
