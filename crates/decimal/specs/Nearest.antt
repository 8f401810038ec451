-- How near a floating number is to an exact fraction.
use Rattle.std.specs.Prelude.{Bool, true, false, [], ◌∷◌, ℕ, ◌+◌, ◌-◌, ◌*◌, ◌^◌, ◌≤◌, T, length, Float}
use Rattle.std.specs.Float.{nan, inf, fin, binary64}
use Rattle.std.specs.Float.Ieee.{up, down, fits}
use Rattle.text.specs.Lists.{Text}

-- the whole number that digits write
abbrev pub natural : Text → ℕ
natural [] = 0
natural (c ∷ cs) = (c - 0x30) * 10 ^ length cs + natural cs

-- how far p, or where the sign says so its negative, lies from q
abbrev pub apart : Bool → ℕ → ℕ → ℕ
apart false p q = p - q + (q - p)
apart true p q = p + q

-- x is m * 2 ^ e, which is m * up e / down e; from a / c it lies gap x a c / (scale x * c) away
abbrev pub gap : Float → ℕ → ℕ → ℕ
gap nan a c = 0
gap (inf s) a c = 0
gap (fin s m e) a c = apart s (m * up e * c) (a * down e)

abbrev pub scale : Float → ℕ
scale nan = 1
scale (inf s) = 1
scale (fin s m e) = down e

abbrev pub finite : Float → Bool
finite nan = false
finite (inf s) = false
finite (fin s m e) = true

-- x is a double, and no double is nearer to a / c
pub record Nearest (x : Float) (a c : ℕ) : Type 0 where
  pub number : T (finite x)
  pub double : T (fits binary64 x)
  pub nearest : (y : Float) → T (finite y) → T (fits binary64 y) → gap x a c * scale y ≤ gap y a c * scale x
