-- Numbers that grow.
use mathlib.Core.Bool.{Bool, true, false, ◌||◌, true≢false}
use mathlib.Core.List.{List, [], ◌∷◌}
use mathlib.Core.Path.{◌≡◌, refl, sym, ap, subst, ◌∙◌}
use Prim.Native.Nat.{ℕ, zero, suc, ◌<◌, ◌≤◌}
use native.Mathlib.Omega.{arith}
use lib.ListN.{length, get_or, set}
use Rattle.bits.specs.Bits.{lacking, Grows}

pub grows_start : {t : List ℕ} → Grows t t false
grows_start = record { still = λ e. refl; less = λ e. absurd (true≢false (sym e)) }

pub grows-join : {t t' t'' : List ℕ} (a b : Bool) {r : Bool} → Grows t t' a → Grows t' t'' b → r ≡ (a || b) → Grows t t'' r
grows-join true true v w e = record { still = λ z. absurd (true≢false (sym e ∙ z)); less = λ z. omega (arith, v.less refl, w.less refl) }
grows-join {t} true false v w e = record {
  still = λ z. absurd (true≢false (sym e ∙ z));
  less = λ z. subst (λ (s : List ℕ). lacking s < lacking t) (sym (w.still refl)) (v.less refl);
}
grows-join {t'' = t''} false true v w e = record {
  still = λ z. absurd (true≢false (sym e ∙ z));
  less = λ z. subst (λ (s : List ℕ). lacking t'' < lacking s) (v.still refl) (w.less refl);
}
grows-join false false v w e = record { still = λ z. w.still refl ∙ v.still refl; less = λ z. absurd (true≢false (sym z ∙ e)) }

lacking-set : (t : List ℕ) (x v : ℕ) → get_or t x 0 < v → v ≤ 4294967295 → x < length t → lacking (set t x v) < lacking t
lacking-set [] x v h l i = absurd (omega (arith, i))
lacking-set (y ∷ t) zero v h l i = omega (arith, h, l)
lacking-set (y ∷ t) (suc x) v h l i = omega (arith, lacking-set t x v h l (omega (arith, i)))

pub set_same : (t : List ℕ) (x v : ℕ) → v ≡ get_or t x 0 → set t x v ≡ t
set_same [] x v e = refl
set_same (y ∷ t) zero v e = ap (λ (z : ℕ). z ∷ t) e
set_same (y ∷ t) (suc x) v e = ap (λ (z : List ℕ). y ∷ z) (set_same t x v e)

-- one number grows
pub grows-set : (t : List ℕ) {x old v : ℕ} {r : Bool} → x < length t → old ≡ get_or t x 0 → old ≤ v → v ≤ 4294967295 → (r ≡ true → v ≡ old → ⊥) → (r ≡ false → v ≡ old) → Grows t (set t x v) r
grows-set t {x} {old} {v} h e l m f g = record { still = λ z. set_same t x v (g z ∙ e); less = λ z. lacking-set t x v (omega (arith, e, l, f z)) m h }
