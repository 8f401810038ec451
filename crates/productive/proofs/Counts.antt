-- How many rules are missing: a sum of flags.
use mathlib.Core.List.{List, [], ◌∷◌}
use mathlib.Core.Path.{◌≡◌, refl}
use Prim.Native.Nat.{ℕ, zero, suc, ◌+◌, ◌≤◌}
use native.Mathlib.Omega.{arith}
use lib.ListN.{get_or, set, replicate}
use Rattle.productive.specs.State.{total}

pub total-set : (O : List ℕ) (e : ℕ) → get_or O e 0 ≡ 1 → total (set O e 0) + 1 ≡ total O
total-set [] e h = absurd (omega arith)
total-set (x ∷ O) zero h = omega arith
total-set (x ∷ O) (suc e) h = omega (arith, total-set O e h)

pub set-le : (O : List ℕ) (e x : ℕ) → get_or (set O e 0) x 0 ≤ get_or O x 0
set-le [] e x = omega arith
set-le (y ∷ O) zero zero = omega arith
set-le (y ∷ O) zero (suc x) = omega arith
set-le (y ∷ O) (suc e) zero = omega arith
set-le (y ∷ O) (suc e) (suc x) = set-le O e x

pub total-ones : (k : ℕ) → total (replicate k 1) ≡ k
total-ones zero = refl
total-ones (suc k) = omega (arith, total-ones k)

pub one-most : (k x : ℕ) → get_or {A = ℕ} (replicate k 1) x 0 ≤ 1
one-most zero x = omega arith
one-most (suc k) zero = omega arith
one-most (suc k) (suc x) = one-most k x
