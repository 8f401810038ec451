-- Tests on one character.
use mathlib.Core.Bool.{Bool, true, false, ◌&&◌, ◌||◌}
use mathlib.Core.Path.{◌≡◌, refl, sym}
use mathlib.Core.List.{[]}
use Prim.Native.Nat.{ℕ, ◌-◌, ◌<◌, ◌≤◌}
use native.Mathlib.Omega.{arith}
use lib.Dec.{leb}
use lib.ListN.{get_or}
use borrow.Author.Tests.{leb-true, le-leb, lt-leb}
use Rattle.text.specs.Lists.{chars}
use Rattle.category.specs.Category.{categories, classes, in_class}
use Rattle.syntax.specs.Syntax.{digit, digit_value}
use Rattle.syntax.proofs.Classes.{and_left, and_right, clash}

pub or-false : (b : Bool) → b || false ≡ b
or-false true = refl
or-false false = refl

-- the answer of the class test, for each class that the reader asks about
module _ {r : Bool} (c : ℕ) where
  pub is-zs : r ≡ in_class (get_or classes 22 []) c → in_class (chars "Zs") c ≡ r
  unfolding classes categories
  is-zs e = sym e

  pub is-cc : r ≡ in_class (get_or classes 25 []) c → in_class (chars "Cc") c ≡ r
  unfolding classes categories
  is-cc e = sym e

  pub is-l : r ≡ in_class (get_or classes 30 []) c → in_class (chars "L") c ≡ r
  unfolding classes categories
  is-l e = sym e

  pub is-nd : r ≡ in_class (get_or classes 8 []) c → in_class (chars "Nd") c ≡ r
  unfolding classes categories
  is-nd e = sym e

  pub is-mn : r ≡ in_class (get_or classes 5 []) c → in_class (chars "Mn") c ≡ r
  unfolding classes categories
  is-mn e = sym e

-- where a hex digit lies
pub record Digit-at (c : ℕ) : Type 0 where
  pub low : 0x30 ≤ c
  pub capitals : 0x39 < c → 0x41 ≤ c
  pub smalls : 0x46 < c → 0x61 ≤ c
  pub high : c ≤ 0x66

spanned : (a b c : ℕ) → leb a c && leb c b ≡ true → (a ≤ c) × (c ≤ b)
spanned a b c e = (leb-true a c (and_left (leb a c) (leb c b) e), leb-true c b (and_right (leb a c) (leb c b) e))

pub digit_at : (c : ℕ) → digit c ≡ true → Digit-at c
unfolding digit
digit_at c e = go (leb 0x30 c && leb c 0x39) (leb 0x61 c && leb c 0x66) (leb 0x41 c && leb c 0x46) refl refl refl e
  where
    go : (x y z : Bool) → leb 0x30 c && leb c 0x39 ≡ x → leb 0x61 c && leb c 0x66 ≡ y → leb 0x41 c && leb c 0x46 ≡ z → x || y || z ≡ true → Digit-at c
    go true y z p q r e = let h = spanned 0x30 0x39 c p in record { low = omega arith; capitals = λ l. omega arith; smalls = λ l. omega arith; high = omega arith }
    go false true z p q r e = let h = spanned 0x61 0x66 c q in record { low = omega arith; capitals = λ l. omega arith; smalls = λ l. omega arith; high = omega arith }
    go false false true p q r e = let h = spanned 0x41 0x46 c r in record { low = omega arith; capitals = λ l. omega arith; smalls = λ l. omega arith; high = omega arith }
    go false false false p q r e = absurd (clash refl e)

pub value_low : (c : ℕ) → digit c ≡ true → c ≤ 0x39 → (c - 0x30 ≡ digit_value c) × (c - 0x30 < 16)
unfolding digit_value
value_low c e h = let d = digit_at c e in let k : c - 0x30 < 16 = omega arith in (rw (le-leb c 0x39 h), k)

pub value-capital : (c : ℕ) → digit c ≡ true → 0x39 < c → c ≤ 0x46 → (c - 0x37 ≡ digit_value c) × (c - 0x37 < 16)
unfolding digit_value
value-capital c e l h = let d = digit_at c e in let k : c - 0x37 < 16 = omega arith in (rw (lt-leb c 0x39 l, le-leb c 0x46 h), k)

pub value-small : (c : ℕ) → digit c ≡ true → 0x46 < c → (c - 0x57 ≡ digit_value c) × (c - 0x57 < 16)
unfolding digit_value
value-small c e l = let d = digit_at c e in let m = d.smalls l in let k : c - 0x57 < 16 = omega arith in let g : 0x39 < c = omega arith in (rw (lt-leb c 0x39 g, lt-leb c 0x46 l), k)
