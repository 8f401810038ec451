-- The value of a number text, to the bit: "each operation rounded once".
use Rattle.std.specs.Prelude.{Bool, true, false, ◌≡◌, [], ◌∷◌, ◌++◌, ℕ, ◌-◌, ◌^◌, pos, length, Float, Option, Some, None}
use Rattle.std.specs.Float.{binary64}
use Rattle.std.specs.Float.Ieee.{add, mul, div, neg, of_int}
use Rattle.text.specs.Lists.{Text}
use Rattle.decimal.specs.Number.{Decimal, Spells, NumberText}

-- a whole number as a floating number "of 64 bits"
abbrev pub num : ℕ → Float
num n = of_int binary64 (pos n)

-- "taking the digits from the left, ten times plus the digit"
unfoldable pub next_digit : Float → ℕ → Float
next_digit x c = add binary64 (mul binary64 (num 10) x) (num (c - 0x30))

unfoldable pub digits_from : Float → Text → Float
digits_from x [] = x
digits_from x (c ∷ cs) = digits_from (next_digit x c) cs

-- "then the sign"
abbrev pub signed : Bool → Float → Float
signed true x = neg x
signed false x = x

abbrev pub decimal : Bool → Text → Text → Decimal
decimal m w f = record { minus = m; whole = w; fraction = f }

-- "then one division by the power of ten"
unfoldable pub size_of : Decimal → Float
size_of d = div binary64 (digits_from (num 0) (d.whole ++ d.fraction)) (num (10 ^ length d.fraction))

abbrev pub value_of : Decimal → Float
value_of d = signed d.minus (size_of d)

-- the text is a number text with this value
abbrev pub Valued : Text → Float → Type 0
Valued t x = (d : Decimal) × Spells t d × (x ≡ value_of d)

-- "If the answer is an enum, a definition gives this paper's number and values for each of its cases"
abbrev pub Says : Text → Option Float → Type 0
Says t (Some x) = Valued t x
Says t None = NumberText t → ⊥
