-- Laws of a test and what it tells.
use mathlib.Core.Bool.{Bool, true, false}
use mathlib.Core.Path.{◌≡◌, refl, sym, ◌∙◌}
use Prim.Native.Nat.{ℕ}
use native.Mathlib.Omega.{arith}
use Rattle.tells.specs.Tells.{Tells}

never : {P : Type 0} → true ≡ false → P
never e = absurd (let z : ◌≡◌ {A = ℕ} 0 1 = cc in omega arith)

pub hit : {P : Type 0} → P → Tells true P
hit p = record { yes = λ _. p; no = λ _. refl }

pub miss : {P : Type 0} → (P → ⊥) → Tells false P
miss n = record { yes = λ e. never (sym e); no = λ p. absurd (n p) }

pub not_so : {P : Type 0} {r : Bool} → Tells r P → r ≡ false → P → ⊥
not_so t e p = never (sym (t.no p) ∙ e)
