-- The value of a number text is the nearest double to the exact fraction.
use mathlib.Core.Bool.{Bool, true, false, ◌&&◌, true≢false}
use mathlib.Core.Logic.{⊎_elim}
use mathlib.Core.Path.{◌≡◌, refl, sym, ap, subst, ◌∙◌}
use mathlib.Core.List.{[], ◌∷◌, ◌++◌}
use Prim.Native.Nat.{ℕ, zero, suc, ◌+◌, ◌-◌, ◌*◌, ◌%◌, ◌^◌, ◌≤◌, ◌<◌}
use native.Mathlib.Nat.{le_trans, lt_of_lt_of_le, lt_of_le_of_lt, le_of_eq, mul-one, mul_comm, mul_assoc, mul_right_comm, add-mul, mul-sub, mul-le-mul_right}
use native.Mathlib.Nat.{le_of_mul-le-mul_right, mul-lt-mul_of_pos_right, le-mul_of_pos_right, not-le_of_lt, zero-mul, zero-add, pow-le-pow_right}
use native.Mathlib.Omega.{arith}
use lib.Dec.{T, leb, ltb, eqb, leb→le, ltb→lt, lit≤, lit<}
use lib.IntN.{ℤ, pos, negsuc}
use lib.ListN.{length, length-append}
use lib.Pow.{pow-add, pow_pos, pow-lt}
use lib.Ieee.{Float, nan, inf, fin, binary64, up, down, round, fits}
use lib.Ieee.Digits.{back}
use lib.Ieee.Fits.{and_l, and_r, round-fits}
use lib.Ieee.Exact.{HasValue}
use lib.Ieee.Scale.{grid, round_val}
use Rattle.text.specs.Lists.{Text, all}
use Rattle.decimal.specs.Number.{digit, Decimal, Spells}
use Rattle.decimal.specs.Value.{num, digits_from, size_of}
use Rattle.decimal.specs.Nearest.{natural, apart, gap, scale, finite, Nearest}
use Rattle.decimal.proofs.Closest.{split, kept-nearest}
use Rattle.decimal.proofs.Steps.{and_left, and_right}
use Rattle.decimal.proofs.Reading.{T_true, true-T}
use Rattle.decimal.proofs.Whole.{Is, num-is, div_is, digits_are, twelve}

-- 1. A finite double is q * 2 ^ j of the smallest units, with q below 2 ^ 53.
record Units (m : ℕ) (e : ℤ) : Type 0 where
  q : ℕ
  j : ℕ
  few : q < 2 ^ 53
  is : m * up e * 2 ^ 1074 ≡ q * 2 ^ j * down e

units-at : (m : ℕ) (e : ℤ) → m < 2 ^ 53 → down e ≤ 2 ^ 1074 → Units m e
units-at m (pos k) h d =
    record { q = m; j = k + 1074; few = h; is = mul_assoc m (2 ^ k) (2 ^ 1074) ∙ ap (λ (x : ℕ). m * x) (sym (pow-add 2 k 1074)) ∙ sym (mul-one (m * 2 ^ (k + 1074))) }
units-at m (negsuc k) h d =
    let fits_in : suc k ≤ 1074 = ⊎_elim (λ g. absurd (not-le_of_lt (pow-lt g) d)) (λ g. g) (split 1074 (suc k)) in
    let e : 2 ^ 1074 ≡ 2 ^ (1074 - suc k) * 2 ^ suc k = sym (ap (λ (x : ℕ). 2 ^ x) (back 1074 (suc k) fits_in)) ∙ pow-add 2 (1074 - suc k) (suc k) in
    record { q = m; j = 1074 - suc k; few = h; is = ap (λ (x : ℕ). x * 2 ^ 1074) (mul-one m) ∙ ap (λ (x : ℕ). m * x) e ∙ sym (mul_assoc m (2 ^ (1074 - suc k)) (2 ^ suc k)) }

units_of : (s : Bool) (m : ℕ) (e : ℤ) → T (fits binary64 (fin s m e)) → Units m e
unfolding fits
units_of s zero e t = record { q = 0; j = 0; few = pow_pos 53; is = none (up e) (down e) }
  where
    none : (u d : ℕ) → 0 * u * 2 ^ 1074 ≡ 0 * 2 ^ 0 * d
    none u d = ap (λ (x : ℕ). x * 2 ^ 1074) (zero-mul u) ∙ zero-mul (2 ^ 1074) ∙ sym (ap (λ (x : ℕ). x * d) (zero-mul (2 ^ 0)) ∙ zero-mul d)
units_of s (suc m) e t =
    let a : Bool = eqb (suc m % 2) 1 in
    let b : Bool = ltb (suc m) (2 ^ 53) in
    let c : Bool = leb (down e) (2 ^ 1074) in
    let d : Bool = ltb (suc m * up e) (2 ^ 1024 * down e) in
    let abc = and_l (a && b && c) d t in
    units-at (suc m) e (ltb→lt (suc m) (2 ^ 53) (and_r a b (and_l (a && b) c abc))) (leb→le (down e) (2 ^ 1074) (and_r (a && b) c abc))

-- 2. Distances.
apart-scale : (p q k : ℕ) → apart false p q * k ≡ apart false (p * k) (q * k)
apart-scale p q k = add-mul (p - q) (q - p) k ∙ ap2 (sub-scale p q) (sub-scale q p)
  where
    sub-scale : (p q : ℕ) → (p - q) * k ≡ p * k - q * k
    sub-scale p q = mul_comm (p - q) k ∙ mul-sub k p q ∙ ap (λ (x : ℕ). x - k * q) (mul_comm k p) ∙ ap (λ (x : ℕ). p * k - x) (mul_comm k q)

    ap2 : {a b c d : ℕ} → a ≡ b → c ≡ d → a + c ≡ b + d
    ap2 e f = cc

-- either sign is at least as far away as the positive one
apart-signs : (s : Bool) (p q : ℕ) → apart false p q ≤ apart s p q
apart-signs false p q = le_of_eq refl
apart-signs true p q = omega arith

-- X / d is G / L, so its distance from a / c is that of G / L
apart-units : (X d G L a c : ℕ) → X * L ≡ G * d → apart false (X * c) (a * d) * L ≡ apart false (G * c) (a * L) * d
apart-units X d G L a c e =
    let l : X * c * L ≡ G * c * d = mul_right_comm X c L ∙ ap (λ (x : ℕ). x * c) e ∙ mul_right_comm G d c in
    let r : a * d * L ≡ a * L * d = mul_right_comm a d L in
    apart-scale (X * c) (a * d) L ∙ ap (λ (x : ℕ). apart false x (a * d * L)) l ∙ ap (apart false (G * c * d)) r ∙ sym (apart-scale (G * c) (a * L) d)

compared : (X d Z f G Y L a c : ℕ) → 0 < L → X * L ≡ G * d → Z * L ≡ Y * f → apart false (G * c) (a * L) ≤ apart false (Y * c) (a * L)
    → apart false (X * c) (a * d) * f ≤ apart false (Z * c) (a * f) * d
compared X d Z f G Y L a c some p q h =
    let l : apart false (X * c) (a * d) * f * L ≡ apart false (G * c) (a * L) * (d * f) =
    mul_right_comm (apart false (X * c) (a * d)) f L ∙ ap (λ (x : ℕ). x * f) (apart-units X d G L a c p) ∙ mul_assoc (apart false (G * c) (a * L)) d f in
    let r : apart false (Z * c) (a * f) * d * L ≡ apart false (Y * c) (a * L) * (d * f) =
    mul_right_comm (apart false (Z * c) (a * f)) d L ∙ ap (λ (x : ℕ). x * d) (apart-units Z f Y L a c q) ∙ mul_assoc (apart false (Y * c) (a * L)) f d
    ∙ ap (λ (x : ℕ). apart false (Y * c) (a * L) * x) (mul_comm f d) in
    le_of_mul-le-mul_right (le_trans (le_of_eq l) (le_trans (mul-le-mul_right (d * f) h) (le_of_eq (sym r)))) some

-- 3. What `round` gives is the nearest double.
module _ (a c : ℕ) (some : 0 < c) (small : a < 2 ^ 53) where
  under : grid binary64 a c < 2 ^ (1074 + 1024)
  under =
      let n = a * 2 ^ 1074 in
      let g = grid binary64 a c in
      let zero-far = kept-nearest 53 n c 0 0 (lit< tt) some (pow_pos 53) in
      let near : g * c ≤ n + n = bounded (g * c) n (0 * 2 ^ 0 * c) (ap (λ (x : ℕ). x * c) (zero-mul (2 ^ 0)) ∙ zero-mul c) zero-far in
      let top : n < 2 ^ 53 * 2 ^ 1074 = mul-lt-mul_of_pos_right small (pow_pos 1074) in
      let power : 2 ^ 53 * 2 ^ 1074 ≡ 2 ^ (53 + 1074) = sym (pow-add 2 53 1074) in
      let twice : 2 ^ (53 + 1074) + 2 ^ (53 + 1074) ≤ 2 ^ (1074 + 1024) = lit≤ tt in
      lt_of_le_of_lt (le-mul_of_pos_right g some) (lt_of_lt_of_le (doubled (g * c) n (2 ^ (53 + 1074)) near (subst (λ (x : ℕ). n < x) power top)) twice)
    where
      bounded : (g n z : ℕ) → z ≡ 0 → apart false g n ≤ apart false z n → g ≤ n + n
      bounded g n z e h = omega arith

      doubled : (g n b : ℕ) → g ≤ n + n → n < b → g < b + b
      doubled g n b h k = omega arith

  against : (x : Float) → HasValue x false (grid binary64 a c) (2 ^ 1074) → (y : Float) → T (finite y) → T (fits binary64 y) → gap x a c * scale y ≤ gap y a c * scale x
  against nan v y f t = absurd v
  against (inf s) v y f t = absurd v
  against (fin true m e) v y f t = absurd (true≢false v.0)
  against (fin false m e) v nan f t = absurd f
  against (fin false m e) v (inf s) f t = absurd f
  against (fin false m e) v (fin s n d) f t =
      let u = units_of s n d t in
      let near = kept-nearest 53 (a * 2 ^ 1074) c u.q u.j (lit< tt) some u.few in
      le_trans (compared (m * up e) (down e) (n * up d) (down d) (grid binary64 a c) (u.q * 2 ^ u.j) (2 ^ 1074) a c (pow_pos 1074) v.1 u.is near)
      (mul-le-mul_right (down e) (apart-signs s (n * up d * c) (a * down d)))

  is_finite : (x : Float) → HasValue x false (grid binary64 a c) (2 ^ 1074) → T (finite x)
  is_finite nan v = absurd v
  is_finite (inf s) v = absurd v
  is_finite (fin s m e) v = tt

  pub rounded-nearest : Nearest (round binary64 false a c) a c
  rounded-nearest =
      let v = round_val binary64 a c under in
      record {
        number = is_finite (round binary64 false a c) v;
        double = round-fits binary64 false a c;
        nearest = against (round binary64 false a c) v;
      }

-- 4. The size of a number text is its exact value, rounded once.
all_append : (p q : Text) → T (all digit p) → T (all digit q) → T (all digit (p ++ q))
all_append [] q h k = k
all_append (c ∷ p) q h k =
    let e = T_true (digit c && all digit p) h in
    rw (and_left (digit c) (all digit p) e) (all_append p q (true-T (and_right (digit c) (all digit p) e)) k)

module _ (t : Text) (d : Decimal) (s : Spells t d) where
  digits : Is (digits_from (num 0) (d.whole ++ d.fraction)) (natural (d.whole ++ d.fraction)) × (natural (d.whole ++ d.fraction) < 2 ^ 53)
  digits =
      let ds = d.whole ++ d.fraction in
      let few : length ds ≤ 12 = omega (arith, length-append d.whole d.fraction, s.up_to_three, s.up_to_nine) in
      let all_digits = all_append d.whole d.fraction s.whole_digits s.fraction_digits in
      let r = digits_are (num 0) 0 0 ds (num-is 0 (lit< tt)) (lit< tt) (le_trans (le_of_eq (zero-add (length ds))) few) all_digits in
      let e : 0 * 10 ^ length ds + natural ds ≡ natural ds = ap (λ (x : ℕ). x + natural ds) (zero-mul (10 ^ length ds)) ∙ zero-add (natural ds) in
      let below : natural ds < 10 ^ length ds = subst (λ (x : ℕ). natural ds < 10 ^ x) (zero-add (length ds)) (subst (λ (x : ℕ). x < 10 ^ (0 + length ds)) e r.1) in
      (subst (Is (digits_from (num 0) ds)) e r.0, lt_trans below (twelve (length ds) few))
    where
      lt_trans : {x y z : ℕ} → x < y → y < z → x < z
      lt_trans h k = omega arith

  pub size-rounded : size_of d ≡ round binary64 false (natural (d.whole ++ d.fraction)) (10 ^ length d.fraction)
  unfolding size_of
  size-rounded =
      let k = length d.fraction in
      let few : k ≤ 12 = omega (arith, s.up_to_nine) in
      div_is _ _ _ (10 ^ k) digits.0 (num-is (10 ^ k) (twelve k few)) (ten-pos k)
    where
      ten-pos : (k : ℕ) → 0 < 10 ^ k
      ten-pos k = pow-le-pow_right {n = 10} (lit< tt) {i = 0} {j = k} (omega arith)

  pub size-nearest : Nearest (size_of d) (natural (d.whole ++ d.fraction)) (10 ^ length d.fraction)
  size-nearest =
      subst (λ (x : Float). Nearest x (natural (d.whole ++ d.fraction)) (10 ^ length d.fraction)) (sym size-rounded)
      (rounded-nearest (natural (d.whole ++ d.fraction)) (10 ^ length d.fraction) (pow-le-pow_right {n = 10} (lit< tt) {i = 0} {j = length d.fraction} (omega arith)) digits.1)
