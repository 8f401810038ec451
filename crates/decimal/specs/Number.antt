-- Number texts: "an optional minus, 1 to 3 digits, optionally a point and 1 to 9 digits".
use Rattle.std.specs.Prelude.{Bool, ◌≡◌, [], ◌∷◌, ◌++◌, ℕ, ◌≤◌, T, length}
use Rattle.text.specs.Lists.{Text, chars, pick, all, span, inside}

abbrev pub digit : ℕ → Bool
digit c = inside c (span 0x30 0x39)

-- what a number text says: its sign, the digits before the point and those after it, of which there are none without a point
pub record Decimal : Type 0 where
  pub minus : Bool
  pub whole : Text
  pub fraction : Text

-- what stands after the digits before a point
abbrev pub pointed : Text → Text
pointed [] = []
pointed (c ∷ cs) = chars "." ++ (c ∷ cs)

abbrev pub written : Decimal → Text
written d = pick d.minus (chars "-") [] ++ d.whole ++ pointed d.fraction

-- the text is a number text and says d
pub record Spells (t : Text) (d : Decimal) : Type 0 where
  pub text : t ≡ written d
  pub whole_digits : T (all digit d.whole)
  pub fraction_digits : T (all digit d.fraction)
  pub some : 1 ≤ length d.whole
  pub up_to_three : length d.whole ≤ 3
  pub up_to_nine : length d.fraction ≤ 9

abbrev pub NumberText : Text → Type 0
NumberText t = (d : Decimal) × Spells t d
