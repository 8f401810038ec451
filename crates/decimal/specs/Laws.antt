-- Laws of number texts. Statements alone: proofs/Laws.antt has their proof, `laws-hold`.
use Rattle.std.specs.Prelude.{false, ◌≡◌, ◌++◌, ℕ, ◌^◌, length, Float, Option}
use Rattle.std.specs.Float.{binary64}
use Rattle.std.specs.Float.Ieee.{round}
use Rattle.text.specs.Lists.{Text}
use Rattle.decimal.specs.Number.{Decimal, Spells}
use Rattle.decimal.specs.Value.{signed, size_of, value_of, Says}
use Rattle.decimal.specs.Compute.{decimal_of, number_of}
use Rattle.decimal.specs.Nearest.{natural, Nearest}

-- the decimal fraction that a number text writes, without its sign
abbrev pub numerator : Decimal → ℕ
numerator d = natural (d.whole ++ d.fraction)

abbrev pub denominator : Decimal → ℕ
denominator d = 10 ^ length d.fraction

pub record Laws : Type 0 where
  -- a text says one thing at most
  pub once : (t : Text) (d e : Decimal) → Spells t d → Spells t e → d ≡ e
  -- every text has exactly one answer, and it is the computed one
  pub says : (t : Text) → Says t (number_of (decimal_of t))
  pub settled : (t : Text) (n : Option Float) → Says t n → n ≡ number_of (decimal_of t)
  -- the value is correctly rounded: the exact fraction, rounded once (and of two doubles as near, the even one), then the sign
  pub rounded : (t : Text) (d : Decimal) → Spells t d → value_of d ≡ signed d.minus (round binary64 false (numerator d) (denominator d))
  -- no double is nearer to the exact fraction
  pub nearest : (t : Text) (d : Decimal) → Spells t d → Nearest (size_of d) (numerator d) (denominator d)
