-- "XML 1.0, fifth edition, decides on names and characters": its productions 2, 4, 4a and 5.
use Rattle.std.specs.Prelude.{Bool, true, false, ◌&&◌, ◌||◌, List, [], ◌∷◌, ◌++◌, ℕ}
use Rattle.text.specs.Lists.{Text, any, all, Span, span, inside}

-- Char
unfoldable pub xml_char : ℕ → Bool
xml_char c = any (inside c) (span 0x9 0xa ∷ span 0xd 0xd ∷ span 0x20 0xd7ff ∷ span 0xe000 0xfffd ∷ span 0x10000 0x10ffff ∷ [])

-- NameStartChar
unfoldable pub name_start : ℕ → Bool
name_start c =
    any (inside c)
    (span 0x3a 0x3a ∷ span 0x41 0x5a ∷ span 0x5f 0x5f ∷ span 0x61 0x7a ∷ span 0xc0 0xd6 ∷ span 0xd8 0xf6 ∷ span 0xf8 0x2ff ∷ span 0x370
    0x37d ∷ span 0x37f 0x1fff ∷ span 0x200c 0x200d ∷ span 0x2070 0x218f ∷ span 0x2c00 0x2fef ∷ span 0x3001 0xd7ff ∷ span 0xf900 0xfdcf ∷
    span 0xfdf0 0xfffd ∷ span 0x10000 0xeffff ∷ [])

-- NameChar
unfoldable pub name_char : ℕ → Bool
name_char c = name_start c || any (inside c) (span 0x2d 0x2e ∷ span 0x30 0x39 ∷ span 0xb7 0xb7 ∷ span 0x300 0x36f ∷ span 0x203f 0x2040 ∷ [])

-- Name
unfoldable pub xml_name : Text → Bool
xml_name [] = false
xml_name (c ∷ cs) = name_start c && all name_char cs
