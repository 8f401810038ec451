-- What a gate makes of two texts, computed. Proved equal to the definition (proofs/Rulings.antt).
use Rattle.std.specs.Prelude.{Float, Option, Some, None, Ok, Err}
use Rattle.text.specs.Lists.{Text, pick}
use Rattle.decimal.specs.Compute.{decimal_of, number_of}
use Rattle.gate.specs.Gate.{position, sound, out_of_range, verdict_of, Ruling}
use Rattle.gate.specs.declared.Gate.{Gate}
use Rattle.gate.specs.declared.Position.{Position}
use Rattle.gate.specs.declared.GateRefusal.TheVariants.{UnsoundGate, NoNumber, OutOfRange}

abbrev pub placed : Gate → Position → Ruling
placed g p = pick (out_of_range p) (Err OutOfRange) (Ok (verdict_of g p))

abbrev pub of_numbers : Gate → Option Float → Option Float → Ruling
of_numbers g (Some x) (Some y) = placed g (position x y)
of_numbers g (Some x) None = Err NoNumber
of_numbers g None n = Err NoNumber

abbrev pub ruling_of : Gate → Text → Text → Ruling
ruling_of g lat lon = pick (sound g) (of_numbers g (number_of (decimal_of lat)) (number_of (decimal_of lon))) (Err UnsoundGate)
