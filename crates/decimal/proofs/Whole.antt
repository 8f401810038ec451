-- Whole numbers below 2 ^ 53 are floating numbers, and sums and products that stay below are exact.
use mathlib.Core.Bool.{true, false, true≢false}
use mathlib.Core.Path.{◌≡◌, sym, ap, subst, ◌∙◌}
use mathlib.Core.List.{[], ◌∷◌}
use Prim.Native.Nat.{ℕ, suc, ◌+◌, ◌-◌, ◌*◌, ◌^◌, ◌≤◌, ◌<◌}
use native.Mathlib.Nat.{le_trans, lt_of_lt_of_le, mul-one, mul_comm, mul_assoc, mul_left_comm, add-mul, mul-pos, pow-suc, mul-mul-mul_comm}
use native.Mathlib.Nat.{pow-le-pow_right, zero-mul, add-zero}
use native.Mathlib.Numerals.{add-one}
use native.Mathlib.Omega.{arith}
use borrow.Author.Tests.{leb-true, ne_eqb}
use lib.Dec.{T, leb, lit≤, lit<}
use lib.ListN.{length}
use lib.Pow.{pow_mono, shl_lt}
use lib.Ieee.{Float, nan, inf, fin, binary64, up, down, round, add, mul, div, of_int}
use lib.Ieee.Fits.{down_pos}
use lib.Ieee.Exact.{HasValue, round_exact}
use lib.Ieee.Scale.{round_same}
use Rattle.text.specs.Lists.{Text, all}
use Rattle.decimal.specs.Number.{digit}
use Rattle.decimal.specs.Value.{num, next_digit, digits_from}
use Rattle.decimal.specs.Nearest.{natural}
use Rattle.decimal.proofs.Steps.{and_left, and_right}
use Rattle.decimal.proofs.Reading.{T_true, true-T}

-- x is the whole number n
abbrev pub Is : Float → ℕ → Type 0
Is x n = HasValue x false n 1

pub round_whole : (n : ℕ) → n < 2 ^ 53 → Is (round binary64 false n 1) n
round_whole n h =
    round_exact binary64 false n 1 n 1074 (lit< tt) h (lt_of_lt_of_le (shl_lt 53 1074 h) (pow_mono {i = 53 + 1074} {j = 1074 + 1024} (lit≤ tt))) (sym (mul-one (n * 2 ^ 1074)))

pub num-is : (n : ℕ) → n < 2 ^ 53 → Is (num n) n
unfolding of_int
num-is n h = round_whole n h

mul-cross : (m u n v d e a b : ℕ) → m * u * 1 ≡ a * d → n * v * 1 ≡ b * e → m * u * (n * v) * 1 ≡ a * b * (d * e)
mul-cross m u n v d e a b p q =
    mul-one (m * u * (n * v)) ∙ ap (λ (x : ℕ). x * (n * v)) (sym (mul-one (m * u)) ∙ p) ∙ ap (λ (x : ℕ). a * d * x) (sym (mul-one (n * v)) ∙ q) ∙ mul-mul-mul_comm a d b e

pub mul_is : (x y : Float) (a b : ℕ) → Is x a → Is y b → a * b < 2 ^ 53 → Is (mul binary64 x y) (a * b)
unfolding mul
mul_is nan y a b p q h = absurd p
mul_is (inf s) y a b p q h = absurd p
mul_is (fin true m e) y a b p q h = absurd (true≢false p.0)
mul_is (fin false m e) nan a b p q h = absurd q
mul_is (fin false m e) (inf t) a b p q h = absurd q
mul_is (fin false m e) (fin true n d) a b p q h = absurd (true≢false q.0)
mul_is (fin false m e) (fin false n d) a b p q h =
    subst (λ (z : Float). Is z (a * b))
    (sym (round_same binary64 false (m * up e * (n * up d)) (down e * down d) (a * b) 1 (mul-pos (down_pos e) (down_pos d)) (lit< tt)
    (mul-cross m (up e) n (up d) (down e) (down d) a b p.1 q.1)))
    (round_whole (a * b) h)

add-cross : (x y d e a b : ℕ) → x * 1 ≡ a * d → y * 1 ≡ b * e → (x * e + y * d) * 1 ≡ (a + b) * (d * e)
add-cross x y d e a b p q =
    let l : x * e ≡ a * (d * e) = ap (λ (z : ℕ). z * e) (sym (mul-one x) ∙ p) ∙ mul_assoc a d e in
    let r : y * d ≡ b * (d * e) = ap (λ (z : ℕ). z * d) (sym (mul-one y) ∙ q) ∙ mul_assoc b e d ∙ ap (λ (z : ℕ). b * z) (mul_comm e d) in
    mul-one (x * e + y * d) ∙ omega (arith, l, r, add-mul a b (d * e))

pub add_is : (x y : Float) (a b : ℕ) → Is x a → Is y b → a + b < 2 ^ 53 → Is (add binary64 x y) (a + b)
unfolding add
add_is nan y a b p q h = absurd p
add_is (inf s) y a b p q h = absurd p
add_is (fin true m e) y a b p q h = absurd (true≢false p.0)
add_is (fin false m e) nan a b p q h = absurd q
add_is (fin false m e) (inf t) a b p q h = absurd q
add_is (fin false m e) (fin true n d) a b p q h = absurd (true≢false q.0)
add_is (fin false m e) (fin false n d) a b p q h =
    subst (λ (z : Float). Is z (a + b))
    (sym (round_same binary64 false (m * up e * down d + n * up d * down e) (down e * down d) (a + b) 1 (mul-pos (down_pos e) (down_pos d)) (lit< tt)
    (add-cross (m * up e) (n * up d) (down e) (down d) a b p.1 q.1)))
    (round_whole (a + b) h)

-- a quotient is rounded once, from the exact fraction
pub div_is : (x y : Float) (a b : ℕ) → Is x a → Is y b → 0 < b → div binary64 x y ≡ round binary64 false a b
unfolding div
div_is nan y a b p q h = absurd p
div_is (inf s) y a b p q h = absurd p
div_is (fin true m e) y a b p q h = absurd (true≢false p.0)
div_is (fin false m e) nan a b p q h = absurd q
div_is (fin false m e) (inf t) a b p q h = absurd q
div_is (fin false m e) (fin true n d) a b p q h = absurd (true≢false q.0)
div_is (fin false m e) (fin false n d) a b p q h =
    let pos : 0 < n * up d * 1 = subst (λ (z : ℕ). 0 < z) (sym q.1) (mul-pos h (down_pos d)) in
    let some : n ≡ 0 → ⊥ = λ z. zero-not n (up d) z pos in
    let l : m * up e * down d * b ≡ a * (n * up d * down e) = quotient (m * up e) (n * up d) (down e) (down d) a b p.1 q.1 in
    rw (ne_eqb n 0 some) (round_same binary64 false (m * up e * down d) (n * up d * down e) a b (bottom n (up d) (down e) pos (down_pos e)) h l)
  where
    zero-not : (n u : ℕ) → n ≡ 0 → 0 < n * u * 1 → ⊥
    zero-not n u z k = omega (arith, mul-one (n * u), ap (λ (w : ℕ). w * u) z, zero-mul u)

    bottom : (n u e : ℕ) → 0 < n * u * 1 → 0 < e → 0 < n * u * e
    bottom n u e k f = mul-pos (omega (arith, mul-one (n * u))) f

    quotient : (x y d e a b : ℕ) → x * 1 ≡ a * d → y * 1 ≡ b * e → x * e * b ≡ a * (y * d)
    quotient x y d e a b p q =
        let middle : a * d * e * b ≡ a * (b * e * d) = simp (mul_assoc, mul_comm, mul_left_comm) in
        ap (λ (z : ℕ). z * e * b) (sym (mul-one x) ∙ p) ∙ middle ∙ ap (λ (z : ℕ). a * (z * d)) (sym q ∙ mul-one y)

-- Digits taken in from the left: below 10 ^ 12 nothing is rounded.
digit-below : (c : ℕ) → digit c ≡ true → c - 0x30 ≤ 9
digit-below c h = omega (arith, leb-true c 0x39 (and_right (leb 0x30 c) (leb c 0x39) h))

pub twelve : (i : ℕ) → i ≤ 12 → 10 ^ i < 2 ^ 53
twelve i h = lt_of_lt_of_le (le-suc (pow-le-pow_right {n = 10} (lit< tt) h)) (lit≤ tt)
  where
    le-suc : {a b : ℕ} → a ≤ b → a < suc b
    le-suc h = omega arith

next-is : (x : Float) (n i c : ℕ) → Is x n → n < 10 ^ i → i < 12 → digit c ≡ true → Is (next_digit x c) (10 * n + (c - 0x30)) × (10 * n + (c - 0x30) < 10 ^ (i + 1))
unfolding next_digit
next-is x n i c p h k d =
    let small = digit-below c d in
    let next : 10 ^ (i + 1) ≡ 10 ^ i * 10 = ap (λ (j : ℕ). 10 ^ j) (add-one i) ∙ pow-suc 10 i in
    let top = twelve (i + 1) (omega arith) in
    let most : 10 * n + (c - 0x30) < 10 ^ (i + 1) = omega arith in
    let product = mul_is (num 10) x 10 n (num-is 10 (lit< tt)) p (omega arith) in
    let summand = num-is (c - 0x30) (le_trans (omega arith) (lit≤ {m = 10} tt)) in
    (add_is (mul binary64 (num 10) x) (num (c - 0x30)) (10 * n) (c - 0x30) product summand (omega arith), most)

natural-from : (n c : ℕ) (cs : Text) → (10 * n + (c - 0x30)) * 10 ^ length cs + natural cs ≡ n * 10 ^ length (c ∷ cs) + natural (c ∷ cs)
natural-from n c cs =
    let e : n * 10 ^ length (c ∷ cs) ≡ 10 * n * 10 ^ length cs = ap (λ (x : ℕ). n * x) (pow-suc 10 (length cs)) ∙ shuffle n (10 ^ length cs) in
    omega (arith, e, add-mul (10 * n) (c - 0x30) (10 ^ length cs))
  where
    shuffle : (n p : ℕ) → n * (p * 10) ≡ 10 * n * p
    shuffle n p = simp (mul_assoc, mul_comm, mul_left_comm)

pub digits_are : (x : Float) (n i : ℕ) (cs : Text) → Is x n → n < 10 ^ i → i + length cs ≤ 12 → T (all digit cs)
    → Is (digits_from x cs) (n * 10 ^ length cs + natural cs) × (n * 10 ^ length cs + natural cs < 10 ^ (i + length cs))
unfolding digits_from
digits_are x n i [] p h k d = (subst (Is x) (sym same) p, subst (λ (m : ℕ). m < 10 ^ (i + 0)) (sym same) (subst (λ (j : ℕ). n < 10 ^ j) (sym (add-zero i)) h))
  where
    same : n * 10 ^ 0 + 0 ≡ n
    same = add-zero (n * 1) ∙ mul-one n
digits_are x n i (c ∷ cs) p h k d =
    let first = and_left (digit c) (all digit cs) (T_true _ d) in
    let others = true-T (and_right (digit c) (all digit cs) (T_true _ d)) in
    let s = next-is x n i c p h (omega arith) first in
    let m = 10 * n + (c - 0x30) in
    let r = digits_are (next_digit x c) m (i + 1) cs s.0 s.1 (omega arith) others in
    let e = natural-from n c cs in
    let f : i + 1 + length cs ≡ i + length (c ∷ cs) = omega arith in
    let below = subst (λ (a : ℕ). a < 10 ^ (i + 1 + length cs)) e r.1 in
    (subst (Is (digits_from (next_digit x c) cs)) e r.0, subst (λ (a : ℕ). n * 10 ^ length (c ∷ cs) + natural (c ∷ cs) < 10 ^ a) f below)
