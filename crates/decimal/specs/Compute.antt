-- What a text says, computed. Proved equal to the definitions (proofs/Reading.antt).
use Rattle.std.specs.Prelude.{Bool, true, false, ◌&&◌, [], ◌∷◌, ℕ, ◌+◌, leb, eqb, length, take, drop, Float, Option, Some, None}
use Rattle.text.specs.Lists.{Text, pick}
use Rattle.decimal.specs.Number.{digit, Decimal}
use Rattle.decimal.specs.Value.{decimal, value_of}

-- how many digits a text begins with
unfoldable pub leading : Text → ℕ
leading [] = 0
leading (c ∷ cs) = pick (digit c) (leading cs + 1) 0

abbrev pub is_fraction : Text → Bool
is_fraction t = leb 1 (length t) && (leb (length t) 9 && eqb (leading t) (length t))

-- after the digits before the point
abbrev pub after_whole : Bool → Text → Text → Option Decimal
after_whole m w [] = Some (decimal m w [])
after_whole m w (c ∷ cs) = pick (eqb c 0x2e && is_fraction cs) (Some (decimal m w cs)) None

-- after the sign
abbrev pub unsigned : Bool → Text → Option Decimal
unsigned m t = pick (leb 1 (leading t) && leb (leading t) 3) (after_whole m (take (leading t) t) (drop (leading t) t)) None

abbrev pub decimal_of : Text → Option Decimal
decimal_of [] = None
decimal_of (c ∷ cs) = pick (eqb c 0x2d) (unsigned true cs) (unsigned false (c ∷ cs))

abbrev pub number_of : Option Decimal → Option Float
number_of (Some d) = Some (value_of d)
number_of None = None
