-- What the computed reading of a text comes to at each of the code's answers.
use mathlib.Core.Bool.{Bool, true, false, ◌&&◌}
use mathlib.Core.Path.{◌≡◌, refl}
use mathlib.Core.List.{[], ◌∷◌}
use Prim.Native.Nat.{ℕ, ◌-◌, ◌<◌, ◌≤◌}
use native.Mathlib.Omega.{arith}
use borrow.Author.Tests.{leb-true, lt-leb, le-leb, eq-eqb, ne_eqb}
use lib.Dec.{leb, eqb}
use lib.ListN.{length, get_or, take, drop, length-drop}
use lib.Seq.{take_all}
use Rattle.std.specs.Prelude.{Some, None}
use Rattle.text.specs.Lists.{Text}
use Rattle.decimal.specs.Value.{decimal, value_of}
use Rattle.decimal.specs.Compute.{leading, is_fraction, after_whole, unsigned, decimal_of, number_of}

pub and_left : (a b : Bool) → a && b ≡ true → a ≡ true
and_left true b h = refl
and_left false b h = h

pub and_right : (a b : Bool) → a && b ≡ true → b ≡ true
and_right true b h = h
and_right false b h = absurd (let z : ◌≡◌ {A = ℕ} 0 1 = cc in omega arith)

-- a text from a place on, as a slice has it
pub from_place : (n : ℕ) (t : Text) → take (length t - n) (drop n t) ≡ drop n t
from_place n t = take_all (length t - n) (drop n t) (omega (arith, length-drop n t))

pub short-fraction : (t : Text) → is_fraction t ≡ true → length t ≤ 9
short-fraction t h = leb-true _ _ (and_left (leb (length t) 9) (eqb (leading t) (length t)) (and_right (leb 1 (length t)) _ h))

module _ (m : Bool) (w : Text) where
  pub no_fraction : (t : Text) → length t < 1 → Some (value_of (decimal m w t)) ≡ number_of (after_whole m w t)
  no_fraction [] h = refl
  no_fraction (c ∷ cs) h = absurd (omega arith)

  pub no-point : (t : Text) → 1 ≤ length t → (get_or t 0 0 ≡ 0x2e → ⊥) → None ≡ number_of (after_whole m w t)
  no-point [] h e = absurd (omega arith)
  no-point (c ∷ cs) h e = rw (ne_eqb c 0x2e e)

  pub bad-fraction : (t : Text) → 1 ≤ length t → get_or t 0 0 ≡ 0x2e → is_fraction (drop 1 t) ≡ false → None ≡ number_of (after_whole m w t)
  bad-fraction [] h e f = absurd (omega arith)
  bad-fraction (c ∷ cs) h e f = rw (eq-eqb c 0x2e e, f)

  pub good-fraction : (t : Text) → 1 ≤ length t → get_or t 0 0 ≡ 0x2e → is_fraction (drop 1 t) ≡ true
      → Some (value_of (decimal m w (drop 1 t))) ≡ number_of (after_whole m w t)
  good-fraction [] h e f = absurd (omega arith)
  good-fraction (c ∷ cs) h e f = rw (eq-eqb c 0x2e e, f)

module _ (m : Bool) (t : Text) where
  pub too_few : leading t < 1 → None ≡ number_of (unsigned m t)
  too_few h = rw (lt-leb 1 (leading t) h)

  pub too_many : 1 ≤ leading t → 3 < leading t → None ≡ number_of (unsigned m t)
  too_many h k = rw (le-leb 1 (leading t) h, lt-leb (leading t) 3 k)

  pub whole-digits : 1 ≤ leading t → leading t ≤ 3 → after_whole m (take (leading t) t) (drop (leading t) t) ≡ unsigned m t
  whole-digits h k = rw (le-leb 1 (leading t) h, le-leb (leading t) 3 k)

pub empty : (t : Text) → length t < 1 → None ≡ number_of (decimal_of t)
empty [] h = refl
empty (c ∷ cs) h = absurd (omega arith)

pub with-minus : (t : Text) → 1 ≤ length t → get_or t 0 0 ≡ 0x2d → unsigned true (drop 1 t) ≡ decimal_of t
with-minus [] h e = absurd (omega arith)
with-minus (c ∷ cs) h e = rw (eq-eqb c 0x2d e)

pub no_minus : (t : Text) → 1 ≤ length t → (get_or t 0 0 ≡ 0x2d → ⊥) → unsigned false t ≡ decimal_of t
no_minus [] h e = absurd (omega arith)
no_minus (c ∷ cs) h e = rw (ne_eqb c 0x2d e)
