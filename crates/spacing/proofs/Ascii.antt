-- What comparisons tell of the characters of ASCII, each computed once over all of them.
use mathlib.Core.Bool.{Bool, true, false, not, ◌&&◌, ◌||◌}
use mathlib.Core.Path.{◌≡◌, refl, sym, ap, subst}
use Prim.Native.Nat.{ℕ, ◌<◌, ◌≤◌}
use native.Mathlib.Omega.{arith}
use lib.Dec.{T, leb, eqb}
use borrow.Author.Tests.{leb-true}
use Rattle.text.specs.Lists.{chars, pick}
use Rattle.text.proofs.Tests.{T_true}
use Rattle.category.specs.Category.{in_class, category_of, look, ranges}
use Rattle.text.proofs.Table.{below, below_at}
use Rattle.syntax.specs.Syntax.{whitespace, capital, letter, namestart, namefollower}
use Rattle.syntax.proofs.Classes.{and_right}

-- p holds of the characters for which q does
abbrev where-holds : (ℕ → Bool) → (ℕ → Bool) → ℕ → Bool
where-holds q p c = pick (q c) (p c) true

at_all : (q p : ℕ → Bool) → T (below 128 (where-holds q p)) → (c : ℕ) → c < 128 → q c ≡ true → p c ≡ true
at_all q p t c h e = T_true (p c) (subst (λ (b : Bool). T (pick b (p c) true)) e (below_at 128 (where-holds q p) t c h))

within : ℕ → ℕ → ℕ → Bool
within a b c = leb a c && leb c b

within-below : (a b c : ℕ) → leb a c && leb c b ≡ true → c ≤ b
within-below a b c e = leb-true c b (and_right (leb a c) (leb c b) e)

not-false : (b : Bool) → not b ≡ true → b ≡ false
not-false true e = sym e
not-false false e = refl

pub not-control : (c : ℕ) → leb 0x20 c && leb c 0x7e ≡ true → in_class (chars "Cc") c ≡ false
unfolding within in_class category_of look ranges
not-control c e = not-false (in_class (chars "Cc") c) (at_all (within 0x20 0x7e) (λ c. not (in_class (chars "Cc") c)) tt c (omega (arith, within-below 0x20 0x7e c e)) e)

pub not_white : (c : ℕ) → leb 0x21 c && leb c 0x7e ≡ true → whitespace c ≡ false
unfolding within whitespace in_class category_of look ranges
not_white c e = not-false (whitespace c) (at_all (within 0x21 0x7e) (λ c. not (whitespace c)) tt c (omega (arith, within-below 0x21 0x7e c e)) e)

pub space-white : whitespace 0x20 ≡ true
unfolding whitespace in_class category_of look ranges
space-white = refl

-- without a test by the table
abbrev bare : ℕ → Bool
bare c = not (letter c) && not (eqb c 0x5f)

pub not_start : (c : ℕ) → c < 128 → letter c ≡ false → eqb c 0x5f ≡ false → namestart c ≡ false
unfolding letter capital namestart in_class category_of look ranges
not_start c h e f = not-false (namestart c) (at_all bare (λ c. not (namestart c)) tt c h (both (letter c) (eqb c 0x5f) e f))
  where
    both : (a b : Bool) → a ≡ false → b ≡ false → not a && not b ≡ true
    both true b p q = sym p
    both false true p q = sym q
    both false false p q = refl

pub no_digit : (c : ℕ) → c < 128 → leb 0x30 c && leb c 0x39 ≡ false → in_class (chars "Nd") c ≡ false
unfolding within in_class category_of look ranges
no_digit c h e = not-false (in_class (chars "Nd") c) (at_all (λ c. not (within 0x30 0x39 c)) (λ c. not (in_class (chars "Nd") c)) tt c h (ap not e))

pub no-mark : (c : ℕ) → c < 128 → in_class (chars "Mn") c ≡ false
unfolding in_class category_of look ranges
no-mark c h = not-false (in_class (chars "Mn") c) (at_all (λ c. true) (λ c. not (in_class (chars "Mn") c)) tt c h refl)

pub digit-follows : (c : ℕ) → leb 0x30 c && leb c 0x39 ≡ true → namefollower c ≡ true
unfolding within namefollower namestart in_class category_of look ranges
digit-follows c e = at_all (within 0x30 0x39) namefollower tt c (omega (arith, within-below 0x30 0x39 c e)) e

capital-starts : (c : ℕ) → leb 0x41 c && leb c 0x5a ≡ true → namestart c ≡ true
unfolding within namestart in_class category_of look ranges
capital-starts c e = at_all (within 0x41 0x5a) namestart tt c (omega (arith, within-below 0x41 0x5a c e)) e

small-starts : (c : ℕ) → leb 0x61 c && leb c 0x7a ≡ true → namestart c ≡ true
unfolding within namestart in_class category_of look ranges
small-starts c e = at_all (within 0x61 0x7a) namestart tt c (omega (arith, within-below 0x61 0x7a c e)) e

pub letter-starts : (c : ℕ) → letter c ≡ true → namestart c ≡ true
unfolding letter capital
letter-starts c e = go (leb 0x41 c && leb c 0x5a) refl e
  where
    go : (x : Bool) → leb 0x41 c && leb c 0x5a ≡ x → x || (leb 0x61 c && leb c 0x7a) ≡ true → namestart c ≡ true
    go true p e = capital-starts c p
    go false p e = small-starts c e
