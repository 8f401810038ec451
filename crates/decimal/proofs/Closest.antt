-- Of all numbers q * 2 ^ j with few digits, what `round` keeps is the nearest to a fraction. Whole numbers alone, no floats.
use mathlib.Core.Bool.{false, not}
use mathlib.Core.Logic.{◌⊎◌, inl, inr, ⊎_elim}
use mathlib.Core.Path.{◌≡◌, sym, ap, subst, ◌∙◌}
use Prim.Native.Nat.{ℕ, zero, suc, ◌+◌, ◌-◌, ◌*◌, ◌/◌, ◌%◌, ◌^◌, ◌≤◌, ◌<◌, compare, Ordering}
use native.Mathlib.Nat.{le_trans, le_of_eq, suc-mul, mul_comm, mul_assoc, mul-le-mul_right, mul-pos, le-div_iff_mul-le, div-add-mod', mod-lt}
use native.Mathlib.Omega.{arith}
use lib.Arith.{lt_of_le-ne}
use lib.Dec.{T, is_le, compare_is_eq, eqb, leb→le, nleb→lt, eqb→eq, eqb_refl}
use lib.Pow.{pow-add, pow_pos, pow_mono, shl_lt}
use lib.Ieee.{size, nearest}
use lib.Ieee.Digits.{size_reaches, back}
use lib.Ieee.Nearest.{closest}
use lib.Ieee.Order.{drop, kept}
use Rattle.decimal.specs.Nearest.{apart}

pub split : (a b : ℕ) → (a < b) ⊎ (b ≤ a)
split a zero = inr (omega arith)
split zero (suc b) = inl (omega arith)
split (suc a) (suc b) = ⊎_elim (λ p. inl (omega arith)) (λ p. inr (omega arith)) (split a b)

-- what `compare` says
abbrev Cmp : Ordering → ℕ → ℕ → Type 0
Cmp Ordering.lt a b = a < b
Cmp Ordering.eq a b = a ≡ b
Cmp Ordering.gt a b = b < a

cmp : (a b : ℕ) → Cmp (compare a b) a b
cmp a b = go (compare a b) (leb→le a b) (nleb→lt a b) (eqb→eq a b) (λ (e : a ≡ b). subst (λ (x : ℕ). T (eqb a x)) e (eqb_refl a))
  where
    go : (o : Ordering) → (T (is_le o) → a ≤ b) → (T (not (is_le o)) → b < a) → (T (compare_is_eq o) → a ≡ b) → (a ≡ b → T (compare_is_eq o)) → Cmp o a b
    go Ordering.lt h k e f = lt_of_le-ne (h tt) f
    go Ordering.eq h k e f = e tt
    go Ordering.gt h k e f = k tt

-- 1. The nearest multiple of u to w * u + t.
module _ (w u t : ℕ) (rest : t < u) where
  -- any multiple is as far off as the one below or the one above
  far : (r : ℕ) → (t ≤ apart false (r * u) (w * u + t)) ⊎ (u - t ≤ apart false (r * u) (w * u + t))
  far r = ⊎_elim (λ h. inr (above h)) (λ h. inl (below h)) (split w r)
    where
      above : w < r → u - t ≤ apart false (r * u) (w * u + t)
      above h = omega (arith, suc-mul w u, mul-le-mul_right u h)

      below : r ≤ w → t ≤ apart false (r * u) (w * u + t)
      below h = omega (arith, mul-le-mul_right u h)

  at-below : apart false (w * u) (w * u + t) ≡ t
  at-below = omega arith

  at_above : apart false (suc w * u) (w * u + t) ≡ u - t
  at_above = omega (arith, suc-mul w u)

  either : (q : ℕ) → (q ≡ w) ⊎ (q ≡ suc w) → t * 2 ≡ u → apart false (q * u) (w * u + t) ≡ t
  either q (inl e) h = ap (λ (k : ℕ). apart false (k * u) (w * u + t)) e ∙ at-below
  either q (inr e) h = ap (λ (k : ℕ). apart false (k * u) (w * u + t)) e ∙ at_above ∙ omega arith

  even-one : (w + w % 2 ≡ w) ⊎ (w + w % 2 ≡ suc w)
  even-one = ⊎_elim (λ h. inl (omega arith)) (λ h. inr (omega arith)) (split (w % 2) 1)

  best : (o : Ordering) (r : ℕ) → Cmp o (t * 2) u → apart false (nearest w o * u) (w * u + t) ≤ apart false (r * u) (w * u + t)
  best Ordering.lt r h = ⊎_elim (λ k. le_trans (le_of_eq at-below) k) (λ k. le_trans (le_of_eq at-below) (le_trans (omega arith) k)) (far r)
  best Ordering.eq r h =
      let e = either (w + w % 2) even-one h in
      ⊎_elim (λ k. le_trans (le_of_eq e) k) (λ k. le_trans (le_of_eq e) (le_trans (omega arith) k)) (far r)
  best Ordering.gt r h = ⊎_elim (λ k. le_trans (le_of_eq at_above) (le_trans (omega arith) k)) (λ k. le_trans (le_of_eq at_above) k) (far r)

near-multiple : (n u r : ℕ) → 0 < u → apart false (closest n u * u) n ≤ apart false (r * u) n
near-multiple n u r pos =
    let w = n / u in
    let t = n % u in
    subst (λ (x : ℕ). apart false (closest n u * u) x ≤ apart false (r * u) x) (div-add-mod' n u) (best w u t (mod-lt n pos) (compare (t * 2) u) r (cmp (t * 2) u))

-- 2. What is kept of n / c with p digits, against any other number of at most p digits.
module _ (p n c q j : ℕ) (some : 0 < p) (pos : 0 < c) (few : q < 2 ^ p) where
  unit-pos : 0 < c * 2 ^ drop p n c
  unit-pos = mul-pos pos (pow_pos (drop p n c))

  kept-is : (x : ℕ) → x * 2 ^ drop p n c * c ≡ x * (c * 2 ^ drop p n c)
  kept-is x = mul_assoc x (2 ^ drop p n c) c ∙ ap (λ (y : ℕ). x * y) (mul_comm (2 ^ drop p n c) c)

  against : (r : ℕ) → apart false (kept p n c * 2 ^ drop p n c * c) n ≤ apart false (r * 2 ^ drop p n c * c) n
  against r =
      subst (λ (x : ℕ). apart false x n ≤ apart false (r * 2 ^ drop p n c * c) n) (sym (kept-is (kept p n c)))
      (subst (λ (x : ℕ). apart false (kept p n c * (c * 2 ^ drop p n c)) n ≤ apart false x n) (sym (kept-is r)) (near-multiple n (c * 2 ^ drop p n c) r unit-pos))

  coarse : drop p n c ≤ j → apart false (kept p n c * 2 ^ drop p n c * c) n ≤ apart false (q * 2 ^ j * c) n
  coarse h =
      let e : q * 2 ^ (j - drop p n c) * 2 ^ drop p n c ≡ q * 2 ^ j =
      mul_assoc q (2 ^ (j - drop p n c)) (2 ^ drop p n c) ∙ ap (λ (x : ℕ). q * x) (sym (pow-add 2 (j - drop p n c) (drop p n c)) ∙ ap (λ (x : ℕ). 2 ^ x) (back j (drop p n c) h)) in
      subst (λ (x : ℕ). apart false (kept p n c * 2 ^ drop p n c * c) n ≤ apart false (x * c) n) e (against (q * 2 ^ (j - drop p n c)))

  -- a number with a finer last digit lies below 2 ^ (p - 1) units, which is no more than n / c
  reached : 0 < drop p n c → 2 ^ (p - 1) * 2 ^ drop p n c * c ≤ n
  reached h =
      let enough : p - 1 + drop p n c < size (n / c) = omega arith in
      (le-div_iff_mul-le pos).0 (le_trans (le_of_eq (sym (pow-add 2 (p - 1) (drop p n c)))) (size_reaches (n / c) (p - 1 + drop p n c) enough))

  lower : j < drop p n c → q * 2 ^ j * c ≤ 2 ^ (p - 1) * 2 ^ drop p n c * c
  lower h =
      let room : p + j ≤ p - 1 + drop p n c = omega arith in
      let top : q * 2 ^ j < 2 ^ (p + j) = shl_lt p j few in
      let step : 2 ^ (p + j) ≤ 2 ^ (p - 1) * 2 ^ drop p n c = le_trans (pow_mono room) (le_of_eq (pow-add 2 (p - 1) (drop p n c))) in
      mul-le-mul_right c (le_trans (omega arith) step)

  fine : j < drop p n c → apart false (kept p n c * 2 ^ drop p n c * c) n ≤ apart false (q * 2 ^ j * c) n
  fine h =
      let a = lower h in
      let b = reached (omega arith) in
      le_trans (against (2 ^ (p - 1))) (omega arith)

  pub kept-nearest : apart false (kept p n c * 2 ^ drop p n c * c) n ≤ apart false (q * 2 ^ j * c) n
  kept-nearest = ⊎_elim fine coarse (split j (drop p n c))
