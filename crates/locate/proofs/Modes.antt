-- One character of the scan.
use native.Mathlib.Omega.{arith}
use mathlib.Core.Bool.{Bool, true, false, ◌||◌}
use mathlib.Core.Path.{◌≡◌, refl, ap}
use Prim.Native.Nat.{ℕ, zero, suc, ◌+◌, ◌-◌, ◌≤◌}
use lib.Dec.{eqb}
use borrow.Author.Tests.{eq-eqb, ne_eqb}
use Rattle.text.specs.Lists.{pick}
use Rattle.text.proofs.Tests.{clash}
use Rattle.syntax.specs.Syntax.{namestart, namefollower, quote}
use Rattle.places.specs.Scan.{sign, opens, onward, step, begins}
use Rattle.places.specs.Scan as scan
use Rattle.locate.specs.Spots.{goes_on, deep}

-- 1. What goes on in nothing is as between words.
pub begins-as : (s : scan.State) (c : ℕ) → begins s c ≡ pick (goes_on s c) false (opens c)
begins-as scan.between c = refl
begins-as scan.word c = refl
begins-as (scan.quoted q) c = refl
begins-as (scan.closed q) c = refl
begins-as (scan.comment k) c = refl

pub afresh : (s : scan.State) (c : ℕ) → goes_on s c ≡ false → onward c ≡ step s c
afresh scan.between c e = refl
afresh scan.word c e = rw e
afresh (scan.quoted q) c e = absurd (clash e refl)
afresh (scan.closed q) c e = rw e
afresh (scan.comment k) c e = absurd (clash e refl)

-- 2. Inside something.
pub deeper : (d c : ℕ) → c ≡ 0x7b → scan.comment (d + 1) ≡ step (scan.comment d) c
deeper d c e = rw (eq-eqb c 0x7b e) (ap (λ (k : ℕ). scan.comment k) (plus d))
  where
    plus : (d : ℕ) → d + 1 ≡ suc d
    plus d = omega arith

pub same-depth : (d c : ℕ) → (c ≡ 0x7b → ⊥) → (c ≡ 0x7d → ⊥) → scan.comment d ≡ step (scan.comment d) c
same-depth d c a b = rw (ne_eqb c 0x7b a, ne_eqb c 0x7d b)

pub outside : (d c : ℕ) → (c ≡ 0x7b → ⊥) → c ≡ 0x7d → d ≡ 0 → scan.between ≡ step (scan.comment d) c
outside d c a b z = rw (z, ne_eqb c 0x7b a, eq-eqb c 0x7d b)

pub less-deep : (d c : ℕ) → (c ≡ 0x7b → ⊥) → c ≡ 0x7d → (d ≡ 0 → ⊥) → scan.comment (d - 1) ≡ step (scan.comment d) c
less-deep zero c a b z = absurd (z refl)
less-deep (suc d) c a b z = rw (ne_eqb c 0x7b a, eq-eqb c 0x7d b) (ap (λ (k : ℕ). scan.comment k) (minus d))
  where
    minus : (d : ℕ) → suc d - 1 ≡ d
    minus d = omega arith

-- 3. How many comments are open.
record Low (n : ℕ) (s : scan.State) : Type 0 where
  is : deep s ≤ n

low-pick : (n : ℕ) (b : Bool) {x y : scan.State} → Low n x → Low n y → Low n (pick b x y)
low-pick n true p q = p
low-pick n false p q = q

low-onward : (n c : ℕ) → Low n (onward c)
unfolding onward
low-onward n c =
    low-pick n (namestart c || eqb c 0x23) (record { is = omega arith })
    (low-pick n (quote c) (record { is = omega arith }) (low-pick n (eqb c 0x7b) (record { is = omega arith }) (record { is = omega arith })))

low_step : (s : scan.State) (c : ℕ) → Low (deep s + 1) (step s c)
low_step scan.between c = low-onward (0 + 1) c
low_step scan.word c = low-pick (0 + 1) (namefollower c) (record { is = omega arith }) (low-onward (0 + 1) c)
low_step (scan.quoted q) c = low-pick (0 + 1) (eqb c q) (record { is = omega arith }) (record { is = omega arith })
low_step (scan.closed q) c = low-pick (0 + 1) (eqb c q) (record { is = omega arith }) (low-onward (0 + 1) c)
low_step (scan.comment zero) c = low-pick (0 + 1) (eqb c 0x7b) (record { is = omega arith }) (low-pick (0 + 1) (eqb c 0x7d) (record { is = omega arith }) (record { is = omega arith }))
low_step (scan.comment (suc k)) c =
    low-pick (suc k + 1) (eqb c 0x7b) (record { is = omega arith }) (low-pick (suc k + 1) (eqb c 0x7d) (record { is = omega arith }) (record { is = omega arith }))

pub deep_step : (s : scan.State) (c : ℕ) → deep (step s c) ≤ deep s + 1
deep_step s c = (low_step s c).is
