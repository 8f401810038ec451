-- The first rule of a name.
use mathlib.Core.Bool.{Bool, true, false}
use mathlib.Core.List.{List}
use mathlib.Core.Logic.{⊎_elim}
use mathlib.Core.Path.{◌≡◌, sym, ◌∙◌, subst}
use Prim.Native.Nat.{ℕ, ◌+◌, ◌<◌, ◌≤◌}
use native.Mathlib.Omega.{arith}
use Rattle.text.specs.Lists.{Text, same}
use Rattle.text.proofs.Tests.{split}
use Rattle.items.specs.Linked.{NameAt, head_at, Found}

-- rules looked at one after the other
module _ (T : List ℕ) (rules a i : ℕ) where
  module _ (l : i < rules) (w : (j : ℕ) → j < i → (x y : Text) → NameAt T a x → NameAt T (head_at T j) y → same x y ≡ false) (r : Bool)
      (e : (x y : Text) → NameAt T a x → NameAt T (head_at T i) y → r ≡ same x y) where
    pub not_yet : r ≡ false → (j : ℕ) → j < i + 1 → (x y : Text) → NameAt T a x → NameAt T (head_at T j) y → same x y ≡ false
    not_yet f j m x y h k = ⊎_elim (λ (p : j < i). w j p x y h k)
        (λ (p : i ≤ j). sym (e x y h (subst (λ (z : ℕ). NameAt T (head_at T z) y) (let z : j ≡ i = omega arith in z) k)) ∙ f) (split j i)

    pub found-there : r ≡ true → Found T rules a i
    found-there f = record { within = omega arith; before = w; there = λ m x y h k. sym (e x y h k) ∙ f }

  pub found_none : i ≤ rules → rules ≤ i → ((j : ℕ) → j < i → (x y : Text) → NameAt T a x → NameAt T (head_at T j) y → same x y ≡ false) → Found T rules a i
  found_none h k w = record { within = h; before = w; there = λ m. absurd (omega arith) }
