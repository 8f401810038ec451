-- Categories of code points, and classes.
use Rattle.std.specs.Prelude.{Bool, true, false, ◌&&◌, List, [], ◌∷◌, ◌++◌, ◌≡◌, ℕ, ◌+◌, ◌%◌, ◌≤◌, leb, ltb, eqb}
use Prim.Native.String.{String}
use Rattle.text.specs.Lists.{Text, chars, pick, any, same, begins, Span, span, inside}

-- the thirty two-letter Unicode categories; the place in this list is a category's number
unfoldable pub categories : List Text
categories =
    chars "Lu" ∷ chars "Ll" ∷ chars "Lt" ∷ chars "Lm" ∷ chars "Lo" ∷ chars "Mn" ∷ chars "Mc" ∷ chars "Me" ∷ chars "Nd" ∷ chars "Nl"
    ∷ chars "No" ∷ chars "Pc" ∷ chars "Pd" ∷ chars "Ps" ∷ chars "Pe" ∷ chars "Pi" ∷ chars "Pf" ∷ chars "Po" ∷ chars "Sm" ∷ chars "Sc"
    ∷ chars "Sk" ∷ chars "So" ∷ chars "Zs" ∷ chars "Zl" ∷ chars "Zp" ∷ chars "Cc" ∷ chars "Cf" ∷ chars "Cs" ∷ chars "Co" ∷ chars "Cn" ∷ []

-- the numbers of spans: all of them, the even ones or the odd ones
pub data Part : Type 0 where
  each : Part
  even : Part
  odd : Part

abbrev pub takes : Part → ℕ → Bool
takes each c = true
takes even c = eqb (c % 2) 0
takes odd c = eqb (c % 2) 1

-- "The categories of U+0000 to U+00FF … agree everywhere with this list", and "The categories: 0300 to 036F are Mn, …"
pub record Row : Type 0 where
  pub category : Text
  pub part : Part
  pub spans : List Span

abbrev pub row : String → List Span → Row
row n s = record { category = chars n; part = each; spans = s }

abbrev pub even_of : String → List Span → Row
even_of n s = record { category = chars n; part = even; spans = s }

abbrev pub odd_of : String → List Span → Row
odd_of n s = record { category = chars n; part = odd; spans = s }

abbrev pub at : ℕ → Span
at a = span a a

unfoldable pub ranges : List Row
ranges =
    row "Cc" (span 0x0 0x1f ∷ span 0x7f 0x9f ∷ [])
    ∷ row "Zs" (at 0x20 ∷ at 0xa0 ∷ [])
    ∷ row "Po" (span 0x21 0x23 ∷ span 0x25 0x27 ∷ at 0x2a ∷ at 0x2c ∷ span 0x2e 0x2f ∷ span 0x3a 0x3b ∷ span 0x3f 0x40 ∷ at 0x5c ∷ at 0xa1 ∷
    at 0xa7 ∷ span 0xb6 0xb7 ∷ at 0xbf ∷ [])
    ∷ row "Sc" (at 0x24 ∷ span 0xa2 0xa5 ∷ [])
    ∷ row "Ps" (at 0x28 ∷ at 0x5b ∷ at 0x7b ∷ [])
    ∷ row "Pe" (at 0x29 ∷ at 0x5d ∷ at 0x7d ∷ [])
    ∷ row "Sm" (at 0x2b ∷ span 0x3c 0x3e ∷ at 0x7c ∷ at 0x7e ∷ at 0xac ∷ at 0xb1 ∷ at 0xd7 ∷ at 0xf7 ∷ [])
    ∷ row "Pd" (at 0x2d ∷ [])
    ∷ row "Nd" (span 0x30 0x39 ∷ [])
    ∷ row "Lu" (span 0x41 0x5a ∷ span 0xc0 0xd6 ∷ span 0xd8 0xde ∷ [])
    ∷ row "Sk" (at 0x5e ∷ at 0x60 ∷ at 0xa8 ∷ at 0xaf ∷ at 0xb4 ∷ at 0xb8 ∷ [])
    ∷ row "Pc" (at 0x5f ∷ [])
    ∷ row "Ll" (span 0x61 0x7a ∷ at 0xb5 ∷ span 0xdf 0xf6 ∷ span 0xf8 0xff ∷ [])
    ∷ row "So" (at 0xa6 ∷ at 0xa9 ∷ at 0xae ∷ at 0xb0 ∷ [])
    ∷ row "Lo" (at 0xaa ∷ at 0xba ∷ [])
    ∷ row "Pi" (at 0xab ∷ [])
    ∷ row "Cf" (at 0xad ∷ [])
    ∷ row "No" (span 0xb2 0xb3 ∷ at 0xb9 ∷ span 0xbc 0xbe ∷ [])
    ∷ row "Pf" (at 0xbb ∷ [])
    ∷ row "Mn" (span 0x300 0x36f ∷ [])
    ∷ row "Pc" (span 0x203f 0x2040 ∷ [])
    ∷ row "Ll" (at 0x138 ∷ at 0x149 ∷ at 0x17f ∷ [])
    ∷ row "Lu" (at 0x178 ∷ [])
    ∷ even_of "Lu" (span 0x100 0x137 ∷ span 0x14a 0x177 ∷ [])
    ∷ odd_of "Ll" (span 0x100 0x137 ∷ span 0x14a 0x177 ∷ [])
    ∷ odd_of "Lu" (span 0x139 0x148 ∷ span 0x179 0x17e ∷ [])
    ∷ even_of "Ll" (span 0x139 0x148 ∷ span 0x179 0x17e ∷ [])
    ∷ []

unfoldable pub look : List Row → ℕ → Text
look [] c = []
look (r ∷ rs) c = pick (takes r.part c && any (inside c) r.spans) r.category (look rs c)

-- a code point's category; no letters: "not known here"
unfoldable pub category_of : ℕ → Text
category_of c = look ranges c

-- "A class is one of L M N P S Z C, or LC (Lu, Ll, Lt), or one of the thirty two-letter Unicode categories."
unfoldable pub classes : List Text
classes = categories ++ (chars "L" ∷ chars "M" ∷ chars "N" ∷ chars "P" ∷ chars "S" ∷ chars "Z" ∷ chars "C" ∷ chars "LC" ∷ [])

unfoldable pub is_class : Text → Bool
is_class k = any (same k) classes

-- a class by its letters, 0 for a second that is not there
abbrev pub letters : ℕ → ℕ → Text
letters c d = pick (eqb d 0) (c ∷ []) (c ∷ d ∷ [])

-- the code point is of the class: its category is one of LC's three, or begins with the class
unfoldable pub in_class : Text → ℕ → Bool
in_class k c =
    pick (same k (chars "LC"))
    (any (same (category_of c)) (chars "Lu" ∷ chars "Ll" ∷ chars "Lt" ∷ []))
    (begins k (category_of c))

-- a category by its place in the list of all; past its end "not known here"
unfoldable pub place : List Text → Text → ℕ
place [] k = 0
place (x ∷ xs) k = elim (same k x) [ true ↦ 0 | false ↦ place xs k + 1 ]

unfoldable pub category_number : ℕ → ℕ
category_number c = place categories (category_of c)

-- the class's code points are those of the categories from `first` on, before `past`
pub record SpanOf (class : Text) (first past : ℕ) : Type 0 where
  pub inside : past ≤ 30
  pub is : (c : ℕ) → in_class class c ≡ (leb first (category_number c) && ltb (category_number c) past)
