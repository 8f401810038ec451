-- The code's constants: nought, ten, and its powers.
use mathlib.Core.Path.{◌≡◌, refl}
use mathlib.Core.List.{List, [], ◌∷◌}
use Prim.Native.Nat.{ℕ, zero, suc, ◌^◌, ◌≤◌}
use native.Mathlib.Omega.{arith}
use lib.ListN.{get_or}
use lib.Ieee.{binary64, of_bits, of_int}
use Rattle.decimal.specs.Value.{num}

pub nought : of_bits binary64 0 ≡ num 0
unfolding of_bits of_int
nought = refl

pub ten : of_bits binary64 0x4024_0000_0000_0000 ≡ num 10
unfolding of_bits of_int
ten = refl

unfoldable pub powers : List ℕ
powers = 1 ∷ 10 ∷ 100 ∷ 1000 ∷ 10000 ∷ 100000 ∷ 1000000 ∷ 10000000 ∷ 100000000 ∷ 1000000000 ∷ []

pub power_at : (n : ℕ) → n ≤ 9 → get_or powers n 0 ≡ 10 ^ n
unfolding powers
power_at zero h = refl
power_at (suc zero) h = refl
power_at (suc (suc zero)) h = refl
power_at (suc (suc (suc zero))) h = refl
power_at (suc (suc (suc (suc zero)))) h = refl
power_at (suc (suc (suc (suc (suc zero))))) h = refl
power_at (suc (suc (suc (suc (suc (suc zero)))))) h = refl
power_at (suc (suc (suc (suc (suc (suc (suc zero))))))) h = refl
power_at (suc (suc (suc (suc (suc (suc (suc (suc zero)))))))) h = refl
power_at (suc (suc (suc (suc (suc (suc (suc (suc (suc zero))))))))) h = refl
power_at (suc (suc (suc (suc (suc (suc (suc (suc (suc (suc n)))))))))) h = absurd (omega arith)
