-- Text: UTF-8, the byte order mark, the alphabet.
use Rattle.std.specs.Prelude.{Bool, ◌≡◌, ◌⊎◌, List, [], ◌∷◌, ◌++◌, ℕ, ◌+◌, ◌-◌, ◌/◌, ◌%◌, ◌<◌, ◌≤◌, ltb, eqb}
use Rattle.text.specs.Lists.{Text, pick, any, Span, span, inside}

-- a Unicode scalar value: a code point that is no surrogate
pub record Scalar (c : ℕ) : Type 0 where
  pub below : c < 0x110000
  pub plain : (c < 0xd800) ⊎ (0xe000 ≤ c)

-- its one to four bytes
unfoldable pub utf8 : ℕ → List ℕ
utf8 c =
    pick (ltb c 0x80) (c ∷ [])
    (pick (ltb c 0x800) ((0xc0 + c / 64) ∷ (0x80 + c % 64) ∷ [])
    (pick (ltb c 0x10000) ((0xe0 + c / 4096) ∷ (0x80 + c / 64 % 64) ∷ (0x80 + c % 64) ∷ [])
    ((0xf0 + c / 262144) ∷ (0x80 + c / 4096 % 64) ∷ (0x80 + c / 64 % 64) ∷ (0x80 + c % 64) ∷ [])))

unfoldable pub utf8s : Text → List ℕ
utf8s [] = []
utf8s (c ∷ cs) = utf8 c ++ utf8s cs

pub data All (P : ℕ → Type 0) : Text → Type 0 where
  none : All P []
  more : {c : ℕ} {cs : Text} → P c → All P cs → All P (c ∷ cs)

-- "not UTF-8": a UTF-8 text is the encoding of a list of scalar values
pub record Utf8 (bs : List ℕ) (cs : Text) : Type 0 where
  pub scalars : All Scalar cs
  pub spelt : bs ≡ utf8s cs

-- "An initial UTF-8 byte order mark in the grammar counts among its bytes but is skipped": one U+FEFF
unfoldable pub unmarked : Text → Text
unmarked [] = []
unmarked (c ∷ cs) = pick (eqb c 0xfeff) cs (c ∷ cs)

-- "Admit U+0100 to U+017F, U+0300 to U+036F, U+203F and U+2040 in grammars and records; 3 and 13 now mean any other character above U+00FF":
-- the alphabet, in ascending spans that do not meet
unfoldable pub alphabet : List Span
alphabet = span 0x0 0x17f ∷ span 0x300 0x36f ∷ span 0x203f 0x2040 ∷ []

unfoldable pub known : ℕ → Bool
known c = any (inside c) alphabet

-- how many code points the spans have, and the place of one among them; of one that they have not, how many there are
unfoldable pub width : Span → ℕ
width s = s.to + 1 - s.from

unfoldable pub place_in : List Span → ℕ → ℕ
place_in [] c = 0
place_in (s ∷ ss) c = pick (inside c s) (c - s.from) (width s + place_in ss c)
