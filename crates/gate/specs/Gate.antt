-- Positions, gates and verdicts.
use Rattle.std.specs.Prelude.{Bool, true, false, not, ◌&&◌, ◌||◌, T, Float, Result, Ok, Err}
use Rattle.std.specs.Float.Ieee.{lt, le, neg}
use Rattle.text.specs.Lists.{Text, pick}
use Rattle.decimal.specs.Nearest.{finite}
use Rattle.decimal.specs.Number.{NumberText}
use Rattle.decimal.specs.Value.{num, Valued}
use Rattle.gate.specs.declared.Gate.{Gate}
use Rattle.gate.specs.declared.Gate.TheVariants.{Box, Band, Anywhere}
use Rattle.gate.specs.declared.Position.{Position}
use Rattle.gate.specs.declared.Verdict.{Verdict}
use Rattle.gate.specs.declared.Verdict.TheVariants.{Inside, Swapped, Suspect}
use Rattle.gate.specs.declared.GateRefusal.{GateRefusal}
use Rattle.gate.specs.declared.GateRefusal.TheVariants.{UnsoundGate, NoNumber, OutOfRange}

-- "A position is a pair of floating numbers"
abbrev pub position : Float → Float → Position
position x y = record { lat = record { 0 = x }; lon = record { 0 = y } }

-- neither "a limit that is not finite" nor "a low limit above its high one"
abbrev pub limits : Float → Float → Bool
limits low high = finite low && (finite high && not (lt high low))

-- "a box with four limits, a band with two latitude limits, or anywhere": the gate is not "refused as 30"
abbrev pub sound : Gate → Bool
sound (Box s n w e) = limits s n && limits w e
sound (Band s n) = limits s n
sound Anywhere = true

-- "a value beyond 90 or 180 degrees"
abbrev pub beyond : Float → Float → Bool
beyond most x = lt x (neg most) || lt most x

abbrev pub out_of_range : Position → Bool
out_of_range p = beyond (num 90) p.lat.0 || beyond (num 180) p.lon.0

-- "Limits included"
abbrev pub between : Float → Float → Float → Bool
between low high x = le low x && le x high

abbrev pub inside : Gate → Position → Bool
inside (Box s n w e) p = between s n p.lat.0 && between w e p.lon.0
inside (Band s n) p = between s n p.lat.0
inside Anywhere p = true

-- "once the two values are exchanged"
abbrev pub exchanged : Position → Position
exchanged p = position p.lon.0 p.lat.0

abbrev pub is_box : Gate → Bool
is_box (Box s n w e) = true
is_box (Band s n) = false
is_box Anywhere = false

-- "Band and anywhere never say "swapped"." "In an exchange, a value beyond 90 as latitude is not inside."
abbrev pub swapped : Gate → Position → Bool
swapped g p = is_box g && (not (beyond (num 90) (exchanged p).lat.0) && inside g (exchanged p))

-- "the verdict is "inside", "swapped" (outside, but inside once the two values are exchanged), or "suspect""
abbrev pub verdict_of : Gate → Position → Verdict
verdict_of g p = pick (inside g p) Inside (pick (swapped g p) Swapped Suspect)

-- a verdict, or why there is none
abbrev pub Ruling : Type 0
Ruling = Result Verdict GateRefusal

-- The texts of "two attributes, latitude and longitude", and what a gate makes of them: "refused as 30; then any other number text as 31; then a
-- value beyond 90 or 180 degrees before any exchange as 32. No verdict comes with a refusal."
pub data Rules (g : Gate) (lat lon : Text) : Ruling → Type 0 where
  unsound : T (not (sound g)) → Rules g lat lon (Err UnsoundGate)
  no_number : T (sound g) → (NumberText lat × NumberText lon → ⊥) → Rules g lat lon (Err NoNumber)
  too_far : {x y : Float} → T (sound g) → Valued lat x → Valued lon y → T (out_of_range (position x y)) → Rules g lat lon (Err OutOfRange)
  judged : {x y : Float} → T (sound g) → Valued lat x → Valued lon y → T (not (out_of_range (position x y)))
      → Rules g lat lon (Ok (verdict_of g (position x y)))
