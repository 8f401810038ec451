-- Starts that nothing touched are passed over together.
use mathlib.Core.List.{List}
use mathlib.Core.Path.{◌≡◌, subst}
use Prim.Native.Nat.{ℕ, zero, suc, ◌+◌, ◌-◌, ◌≤◌}
use native.Mathlib.Omega.{arith}
use Rattle.listing.specs.Starts.{Passed}
use Rattle.quick.specs.Quick.{From}
use Rattle.quick.proofs.Columns.{from-bare}

module _ (c M F : List ℕ) (size n j : ℕ) {t C : List ℕ} where
  by_one : (d r i : ℕ) → i ≡ r + d → i ≤ j → Passed C r i → From c M F size n j i t C → From c M F size n j r t C
  by_one zero r i e l p a = subst (λ (x : ℕ). From c M F size n j x t C) (omega arith) a
  by_one (suc d) r i e l p a =
      let f : i ≡ (r + d) + 1 = omega arith in
      by_one d r (r + d) (omega arith) (omega arith) (record { order = omega arith; flags = λ k h h'. p.flags k h (omega arith) })
      (from-bare c M F size n j (r + d) (omega arith) (subst (λ (x : ℕ). From c M F size n j x t C) f a) (p.flags (r + d) (omega arith) (omega arith)))

  pub from-passed : {r i : ℕ} → i ≤ j → Passed C r i → From c M F size n j i t C → From c M F size n j r t C
  from-passed {r} {i} l p = by_one (i - r) r i (omega (arith, p.order)) l p
