-- The code's constants as the definitions write them.
use mathlib.Core.Path.{◌≡◌, refl}
use lib.Ieee.{Float, nan, inf, fin, binary64, of_bits, of_int}
use Rattle.std.specs.Float.{float_is_finite}
use Rattle.decimal.specs.Nearest.{finite}
use Rattle.decimal.specs.Value.{num}

pub ninety : of_bits binary64 0x4056_8000_0000_0000 ≡ num 90
unfolding of_bits of_int
ninety = refl

pub half_turn : of_bits binary64 0x4066_8000_0000_0000 ≡ num 180
unfolding of_bits of_int
half_turn = refl

-- the kit's test of a finite number
pub finite_law : (x : Float) → float_is_finite x ≡ finite x
unfolding float_is_finite
finite_law nan = refl
finite_law (inf s) = refl
finite_law (fin s m e) = refl
