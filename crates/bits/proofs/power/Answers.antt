use native.Mathlib.Omega.{arith}
use mathlib.Core.Path.{◌≡◌, ◌∙◌}
use Prim.Native.Nat.{ℕ, ◌*◌}
use lib.Pow.{shl_exact}
use Rattle.bits.proofs.power.Goals as goal

pub returns : goal.returns
returns c = shl_exact 1 _ 32 (omega arith) (omega (arith, c.requires)) ∙ (let z : (x : ℕ) → 1 * x ≡ x = λ x. omega arith in z _)
